-- By the entry that is put back.
use Rattle.std.proofs.Common.{◌∙◌, ap, sym, cond, Some, is_some}
use Rattle.std.specs.Prelude.{◌==◌}
use Rattle.frs_types.specs.Maps.{Place}
use Rattle.frs_objects.specs.Slots.{slot_at}
use Rattle.frs_objects.specs.Index.{lsn_in}
use Rattle.frs_objects.proofs.Agreement.{not_missing, wanted_some, entry_placed, entry_there, Agrees-moved, moved_shown}
use Rattle.frs_objects.proofs.index.Index.relabel.Goals as goal

pub returns-in_default-clause-made : goal.returns-in_default-clause-made
returns-in_default-clause-made c puts h a _ = absurd (not_missing (slot_at c.args.self.now.places.maps) _ _ _ puts a c.in_default.ensures)

pub returns-in_default-clause-shown : goal.returns-in_default-clause-shown
returns-in_default-clause-shown c puts h a _ = absurd (not_missing (slot_at c.args.self.now.places.maps) _ _ _ puts a c.in_default.ensures)

pub overflow_sub-wanted : goal.overflow_sub-wanted
overflow_sub-wanted c = wanted_some (slot_at c.args.self.now.places.maps) _ _ _ _ c.requires.1 c.in-Some.slot c.in-Some.ensures

pub returns-in_default-take_row-clause-made : goal.returns-in_default-take_row-clause-made
returns-in_default-take_row-clause-made c puts h a shown =
    absurd (entry_there (slot_at c.args.self.now.places.maps) c.args.self.now.entries.entries _ a (c.args.id.now, c.args.key.now) c.in-Some.slot.lsn h (ap lsn_in (sym c.in-Some.ensures)) (sym c.in_default-take_row.ensures.entry) shown)

pub returns-in_default-take_row-clause-shown : goal.returns-in_default-take_row-clause-shown
returns-in_default-take_row-clause-shown c puts h a shown =
    absurd (entry_there (slot_at c.args.self.now.places.maps) c.args.self.now.entries.entries _ a (c.args.id.now, c.args.key.now) c.in-Some.slot.lsn h (ap lsn_in (sym c.in-Some.ensures)) (sym c.in_default-take_row.ensures.entry) shown)

pub fill-requires-clause-place : goal.fill-requires-clause-place
fill-requires-clause-place c =
    let S = slot_at c.args.self.now.places.maps in
    ap (λ (v : Place). is_some (S v)) (entry_placed S c.args.self.now.entries.entries _ c.requires.1 (c.args.id.now, c.args.key.now) c.in-Some.slot.lsn c.in-Some-take_row.entry (ap lsn_in (sym c.in-Some.ensures)) (sym c.in-Some-take_row.ensures.entry)) ∙ ap is_some (sym c.in-Some.ensures)

pub returns-clause-made : goal.returns-clause-made
returns-clause-made c puts h a shown =
    Agrees-moved (slot_at c.args.self.now.places.maps) (slot_at c.fill.new.self.places.maps) c.args.self.now.entries.entries c.fill.new.self.entries.entries (c.args.id.now, c.args.key.now) c.args.to puts a c.in-Some.slot c.in-Some.ensures c.in-Some-take_row.entry c.in-Some-take_row.ensures.entry c.fill.ensures.ordered
    c.fill.ensures.slots
    (λ n. c.fill.ensures.rows n ∙ ap (cond (c.args.to == n) (Some (Some (record { id = c.in-Some-take_row.entry.id; key = c.in-Some-take_row.entry.key; value = c.in-Some-take_row.entry.value; lsn = c.args.to })))) (c.take_row.ensures.rows n))

pub returns-clause-shown : goal.returns-clause-shown
returns-clause-shown c puts h a shown =
    moved_shown (slot_at c.args.self.now.places.maps) (slot_at c.fill.new.self.places.maps) c.args.self.now.entries.entries c.fill.new.self.entries.entries (c.args.id.now, c.args.key.now) c.args.to puts a c.in-Some.slot c.in-Some.ensures c.in-Some-take_row.entry c.in-Some-take_row.ensures.entry c.fill.ensures.ordered
    c.fill.ensures.slots
    (λ n. c.fill.ensures.rows n ∙ ap (cond (c.args.to == n) (Some (Some (record { id = c.in-Some-take_row.entry.id; key = c.in-Some-take_row.entry.key; value = c.in-Some-take_row.entry.value; lsn = c.args.to })))) (c.take_row.ensures.rows n))
    h shown
