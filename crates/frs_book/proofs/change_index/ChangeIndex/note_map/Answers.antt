-- All changes of the id's map are behind the delete.
use Rattle.std.proofs.Common.{◌∙◌, ap, sym, Some, is_some, true≢false}
use Rattle.frs_objects.proofs.NestedMaps.{cleared, at_write}
use Rattle.frs_book.specs.Changes.{position_of}
use Rattle.frs_book.proofs.change_index.ChangeIndex.note_map.Goals as goal

pub returns-in-Some : goal.returns-in-Some
returns-in-Some c =
    let m = c.args.self.now.maps in
    let w = c.note_delete.new.self in
    let n = c.get_mut.follows.lender w in
    cleared position_of (λ _. Some c.args.position) m n c.args.id.now (Some w)
    (at_write m n c.args.id.now c.in-Some.map.now w (sym c.in-Some.ensures.value) (c.get_mut.follows.holds w))
    (λ k. c.note_delete.ensures k)

pub returns-in_default : goal.returns-in_default
returns-in_default c = absurd (true≢false (sym c.requires ∙ ap is_some (sym c.in_default.ensures.value)))
