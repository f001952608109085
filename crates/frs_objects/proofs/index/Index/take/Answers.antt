-- The place's entry goes; where there is no place, nothing changes.
use Rattle.std.proofs.Common.{◌∙◌, ap, sym, cond, None}
use Rattle.frs_types.specs.Maps.{Place, same_place}
use Rattle.frs_objects.specs.Slots.{slot_at}
use Rattle.frs_objects.specs.Index.{lsn_in, is_lsn, row_at}
use Rattle.frs_objects.proofs.Agreement.{Agrees-taken, taken_shown, blank_apart, lsn_apart, nothing_to_take, emptied_here}
use Rattle.frs_objects.proofs.index.Index.take.Goals as goal

pub returns-in_default-clause-shown : goal.returns-in_default-clause-shown
returns-in_default-clause-shown c puts a =
    let S = slot_at c.args.self.now.places.maps in
    let p : Place = (c.args.id.now, c.args.key.now) in
    let rows = c.args.self.now.entries.entries in
    taken_shown S S rows rows (same_place p) (is_lsn (lsn_in (S p))) puts a a.ordered
    (λ q. nothing_to_take S p q (sym c.in_default.ensures))
    (λ n. ap (λ v. cond (is_lsn v n) None (row_at rows n)) (ap lsn_in c.in_default.ensures))
    (lsn_apart S rows puts a p) (blank_apart S rows puts a p)

pub returns-clause-taken : goal.returns-clause-taken
returns-clause-taken c puts a =
    let S = slot_at c.args.self.now.places.maps in
    let p : Place = (c.args.id.now, c.args.key.now) in
    let rows = c.args.self.now.entries.entries in
    Agrees-taken S (slot_at c.settle.new.self.maps) rows c.take_row.new.entries.entries (same_place p) (is_lsn (lsn_in (S p))) puts a (c.take_row.ensures.ordered a.ordered)
    (emptied_here S (slot_at c.settle.new.self.maps) p c.in-Some.held c.in-Some.ensures c.settle.ensures)
    (λ n. c.take_row.ensures.rows n ∙ ap (λ v. cond (is_lsn v n) None (row_at rows n)) (ap lsn_in c.in-Some.ensures))
    (lsn_apart S rows puts a p) (blank_apart S rows puts a p)

pub returns-clause-shown : goal.returns-clause-shown
returns-clause-shown c puts a =
    let S = slot_at c.args.self.now.places.maps in
    let p : Place = (c.args.id.now, c.args.key.now) in
    let rows = c.args.self.now.entries.entries in
    taken_shown S (slot_at c.settle.new.self.maps) rows c.take_row.new.entries.entries (same_place p) (is_lsn (lsn_in (S p))) puts a (c.take_row.ensures.ordered a.ordered)
    (emptied_here S (slot_at c.settle.new.self.maps) p c.in-Some.held c.in-Some.ensures c.settle.ensures)
    (λ n. c.take_row.ensures.rows n ∙ ap (λ v. cond (is_lsn v n) None (row_at rows n)) (ap lsn_in c.in-Some.ensures))
    (lsn_apart S rows puts a p) (blank_apart S rows puts a p)
