-- By the slot that was kept.
use Rattle.std.proofs.Common.{◌∙◌, ap, cond, Some, None, ◌-◌}
use Rattle.std.specs.Prelude.{◌==◌}
use Rattle.frs_types.specs.Maps.{Place}
use Rattle.frs_objects.specs.Slots.{slot_at}
use Rattle.frs_objects.specs.Index.{lsn_in, is_lsn, is_blank, row_at}
use Rattle.frs_objects.proofs.Agreement.{Agrees-filled, filled_shown, not_missing, wanted_some, wanted_less, kept_row, blank_apart}
use Rattle.frs_objects.proofs.index.Index.commit.Goals as goal

pub returns-in_default-clause-made : goal.returns-in_default-clause-made
returns-in_default-clause-made c puts a = absurd (not_missing (slot_at c.args.self.now.places.maps) _ _ _ puts a c.in_default.ensures)

pub returns-in_default-clause-shown : goal.returns-in_default-clause-shown
returns-in_default-clause-shown c puts a = absurd (not_missing (slot_at c.args.self.now.places.maps) _ _ _ puts a c.in_default.ensures)

pub overflow_sub-wanted : goal.overflow_sub-wanted
overflow_sub-wanted c = wanted_some (slot_at c.args.self.now.places.maps) _ _ _ _ c.requires.1 c.in-Some.slot c.in-Some.ensures

pub fill-requires-clause-lsn : goal.fill-requires-clause-lsn
fill-requires-clause-lsn c =
    let S = slot_at c.args.self.now.places.maps in
    let p : Place = (c.args.entry.id, c.args.entry.key) in
    let rows = c.args.self.now.entries.entries in
    let blank = kept_row S rows p c.args.entry.lsn _ c.requires.1 in
    ap is_blank (c.take_row.ensures.rows c.args.entry.lsn ∙ ap (λ b. cond b None (row_at rows c.args.entry.lsn)) (ap (λ v. is_lsn v c.args.entry.lsn) (ap lsn_in c.in-Some.ensures) ∙ blank_apart S rows _ c.requires.1 p c.args.entry.lsn blank)) ∙ blank

pub returns-clause-made : goal.returns-clause-made
returns-clause-made c puts a =
    let S = slot_at c.args.self.now.places.maps in
    let p : Place = (c.args.entry.id, c.args.entry.key) in
    let rows = c.args.self.now.entries.entries in
    Agrees-filled S (slot_at c.fill.new.self.places.maps) rows c.fill.new.self.entries.entries c.args.entry (c.in-Some.slot.wanted - 1) puts a c.fill.ensures.ordered
    (wanted_less S rows p c.args.entry.lsn puts a c.in-Some.slot c.in-Some.ensures)
    c.fill.ensures.slots
    (λ n. c.fill.ensures.rows n ∙ ap (cond (c.args.entry.lsn == n) (Some (Some c.args.entry))) (c.take_row.ensures.rows n ∙ ap (λ v. cond (is_lsn v n) None (row_at rows n)) (ap lsn_in c.in-Some.ensures)))

pub returns-clause-shown : goal.returns-clause-shown
returns-clause-shown c puts a =
    let S = slot_at c.args.self.now.places.maps in
    let p : Place = (c.args.entry.id, c.args.entry.key) in
    let rows = c.args.self.now.entries.entries in
    filled_shown S (slot_at c.fill.new.self.places.maps) rows c.fill.new.self.entries.entries c.args.entry (c.in-Some.slot.wanted - 1) puts a c.fill.ensures.ordered
    (wanted_less S rows p c.args.entry.lsn puts a c.in-Some.slot c.in-Some.ensures)
    c.fill.ensures.slots
    (λ n. c.fill.ensures.rows n ∙ ap (cond (c.args.entry.lsn == n) (Some (Some c.args.entry))) (c.take_row.ensures.rows n ∙ ap (λ v. cond (is_lsn v n) None (row_at rows n)) (ap lsn_in c.in-Some.ensures)))
