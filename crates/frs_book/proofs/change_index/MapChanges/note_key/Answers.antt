-- The key gets the position.
use Rattle.std.proofs.Common.{◌∙◌, ap, sym, Some, is_some, true≢false}
use Rattle.frs_objects.proofs.NestedMaps.{at_write}
use Rattle.frs_book.proofs.Positions.{position_written}
use Rattle.frs_book.proofs.change_index.MapChanges.note_key.Goals as goal

pub returns-in-Some : goal.returns-in-Some
returns-in-Some c =
    let m = c.args.self.now.keys in
    let n = c.get_mut.follows.lender (Some c.args.position) in
    position_written m n c.args.key.now c.args.position c.args.self.now.deleted
    (at_write m n c.args.key.now c.in-Some.newest.now (Some c.args.position) (sym c.in-Some.ensures.value)
    (c.get_mut.follows.holds (Some c.args.position)))

pub returns-in_default : goal.returns-in_default
returns-in_default c = absurd (true≢false (sym c.requires ∙ ap is_some (sym c.in_default.ensures.value)))
