-- The changes of the id's map get the position of the key.
use Rattle.std.proofs.Common.{◌∙◌, ap, sym, Some, cond, true≢false}
use Rattle.std.specs.Str.{bytes_eq}
use Rattle.frs_objects.proofs.NestedMaps.{changed, at_write}
use Rattle.frs_book.specs.Changes.{position_of, has_key}
use Rattle.frs_book.proofs.change_index.ChangeIndex.note_key.Goals as goal

pub returns-in-Some : goal.returns-in-Some
returns-in-Some c =
    let m = c.args.self.now.maps in
    let w = c.note_key.new.self in
    let n = c.get_mut.follows.lender w in
    changed position_of m n c.args.id.now c.args.key.now (Some w) (Some c.args.position)
    (at_write m n c.args.id.now c.in-Some.map.now w (sym c.in-Some.ensures.value) (c.get_mut.follows.holds w))
    (λ k. c.note_key.ensures k
    ∙ ap (λ v. cond (bytes_eq c.args.key.now k) (Some c.args.position) (position_of v k)) c.in-Some.ensures.value)

pub returns-in_default : goal.returns-in_default
returns-in_default c =
    absurd (true≢false (sym c.requires ∙ ap (λ v. has_key v c.args.key.now) (sym c.in_default.ensures.value)))
