-- The LSN and the place are kept, or all is as before.
use Rattle.std.proofs.Common.{sym, Some, None}
use Rattle.frs_objects.specs.Slots.{slot_at}
use Rattle.frs_objects.proofs.Agreement.{Agrees-reserved, reserved_shown, Agrees-same, same_rows_shown}
use Rattle.frs_objects.proofs.Answered.{when_refused, when_done, row_updated, row_undone}
use Rattle.frs_objects.proofs.index.Index.reserve.Goals as goal

pub returns-then-is_err-clause-kept : goal.returns-then-is_err-clause-kept
returns-then-is_err-clause-kept c puts a =
    Agrees-same (slot_at c.args.self.now.places.maps) (slot_at c.want.new.self.maps) c.args.self.now.entries.entries c.remove.new.self.entries puts a c.remove.ensures.ordered
    (when_refused c.want.result (sym c.if-is_err.ensures.value) c.want.ensures.refused)
    (row_undone c.args.self.now.entries c.insert.new.self c.remove.new.self c.args.lsn (Some None) c.requires.new c.in_ok-insert.ensures.updates c.remove.ensures.updates)

pub returns-then-is_err-clause-shown : goal.returns-then-is_err-clause-shown
returns-then-is_err-clause-shown c puts a =
    same_rows_shown (slot_at c.args.self.now.places.maps) (slot_at c.want.new.self.maps) c.args.self.now.entries.entries c.remove.new.self.entries puts a c.remove.ensures.ordered
    (when_refused c.want.result (sym c.if-is_err.ensures.value) c.want.ensures.refused)
    (row_undone c.args.self.now.entries c.insert.new.self c.remove.new.self c.args.lsn (Some None) c.requires.new c.in_ok-insert.ensures.updates c.remove.ensures.updates)

pub returns-clause-kept : goal.returns-clause-kept
returns-clause-kept c puts a =
    Agrees-reserved (slot_at c.args.self.now.places.maps) (slot_at c.want.new.self.maps) c.args.self.now.entries.entries c.insert.new.self.entries (c.args.id.now, c.args.key.now) c.args.lsn puts a c.requires.new c.insert.ensures.ordered
    (when_done c.want.result (sym c.if-is_err.ensures.value) c.want.ensures.wanted)
    (row_updated c.args.self.now.entries c.insert.new.self c.args.lsn (Some None) c.in_ok-insert.ensures.updates)

pub returns-clause-shown : goal.returns-clause-shown
returns-clause-shown c puts a =
    reserved_shown (slot_at c.args.self.now.places.maps) (slot_at c.want.new.self.maps) c.args.self.now.entries.entries c.insert.new.self.entries (c.args.id.now, c.args.key.now) c.args.lsn puts a c.requires.new c.insert.ensures.ordered
    (when_done c.want.result (sym c.if-is_err.ensures.value) c.want.ensures.wanted)
    (row_updated c.args.self.now.entries c.insert.new.self c.args.lsn (Some None) c.in_ok-insert.ensures.updates)
