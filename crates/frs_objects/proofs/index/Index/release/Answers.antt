-- By the slot that was kept.
use Rattle.std.proofs.Common.{◌-◌, ◌∙◌, ap, cond, None}
use Rattle.frs_types.specs.Maps.{Place, same_place}
use Rattle.frs_objects.specs.Slots.{slot_at, slot_if_used}
use Rattle.frs_objects.specs.Index.{lsn_in}
use Rattle.frs_objects.proofs.Agreement.{Agrees-released, released_shown, not_missing, wanted_some, wanted_less}
use Rattle.frs_objects.proofs.Answered.{row_updated}
use Rattle.frs_objects.proofs.index.Index.release.Goals as goal

pub returns-in_default-clause-kept : goal.returns-in_default-clause-kept
returns-in_default-clause-kept c puts a = absurd (not_missing (slot_at c.args.self.now.places.maps) _ _ _ puts a c.in_default.ensures)

pub overflow_sub-wanted : goal.overflow_sub-wanted
overflow_sub-wanted c = wanted_some (slot_at c.args.self.now.places.maps) _ _ _ _ c.requires.1 c.in-Some.slot c.in-Some.ensures

pub returns-clause-kept : goal.returns-clause-kept
returns-clause-kept c puts a =
    let S = slot_at c.args.self.now.places.maps in
    let p : Place = (c.args.id.now, c.args.key.now) in
    Agrees-released S (slot_at c.settle.new.self.maps) c.args.self.now.entries.entries c.remove.new.self.entries p c.args.lsn (c.in-Some.slot.wanted - 1) puts a c.remove.ensures.ordered
    (wanted_less S _ p c.args.lsn puts a c.in-Some.slot c.in-Some.ensures)
    (λ q. c.settle.ensures q ∙ ap (λ v. cond (same_place p q) (slot_if_used (record { lsn = v; wanted = c.in-Some.slot.wanted - 1 })) (S q)) (ap lsn_in c.in-Some.ensures))
    (row_updated c.args.self.now.entries c.remove.new.self c.args.lsn None c.remove.ensures.updates)

pub returns-clause-shown : goal.returns-clause-shown
returns-clause-shown c puts a =
    let S = slot_at c.args.self.now.places.maps in
    let p : Place = (c.args.id.now, c.args.key.now) in
    released_shown S (slot_at c.settle.new.self.maps) c.args.self.now.entries.entries c.remove.new.self.entries p c.args.lsn (c.in-Some.slot.wanted - 1) puts a c.remove.ensures.ordered
    (wanted_less S _ p c.args.lsn puts a c.in-Some.slot c.in-Some.ensures)
    (λ q. c.settle.ensures q ∙ ap (λ v. cond (same_place p q) (slot_if_used (record { lsn = v; wanted = c.in-Some.slot.wanted - 1 })) (S q)) (ap lsn_in c.in-Some.ensures))
    (row_updated c.args.self.now.entries c.remove.new.self c.args.lsn None c.remove.ensures.updates)
