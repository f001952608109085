-- The change stands where the index says.
use Rattle.std.proofs.Common.{◌≡◌, ◌∙◌, arith, ap, sym, subst, cond, Some, List, ◌∷◌, [], ◌++◌, length}
use Rattle.frs_objects.specs.declared.op.Op.{Op}
use Rattle.frs_book.specs.Changes.{touches, position_at, IsIndexed}
use Rattle.frs_book.proofs.NewestChange.{indexed_pushed}
use Rattle.frs_book.proofs.changes.Changes.push_locked.Goals as goal

pub invariant_of-self-2 : goal.invariant_of-self-2
invariant_of-self-2 c =
    let maps = c.self.inside.index.maps in
    let ops = c.self.inside.ops.items in
    subst (λ (l : List Op). IsIndexed l c.note.new.self.maps) (sym (c.push_reserved.ensures.items ∙ ap (λ l. l ++ c.args.op ∷ []) c.in_ok-reserve.ensures.items))
    (indexed_pushed ops c.args.op maps c.note.new.self.maps c.self.invariant
    (λ p. c.note.ensures p
    ∙ ap (λ n. cond (touches p c.args.op) (Some n) (position_at c.make_place.new.self.maps p)) same_length
    ∙ ap (cond (touches p c.args.op) (Some (length ops))) (c.make_place.ensures.stay p)))
  where
    same_length : c.len.result ≡ length c.self.inside.ops.items
    same_length = omega arith
