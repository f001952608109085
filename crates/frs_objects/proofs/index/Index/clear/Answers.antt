-- The entries of the map go; where there is no map, nothing changes.
use Rattle.std.proofs.Common.{refl, false, ℕ, List}
use Rattle.std.specs.List.{list_any}
use Rattle.std.specs.Str.{bytes_eq}
use Rattle.frs_objects.specs.declared.places.Slot.{Slot}
use Rattle.frs_objects.specs.Slots.{slot_at}
use Rattle.frs_objects.specs.Index.{is_lsn}
use Rattle.frs_objects.proofs.Agreement.{Agrees-taken, taken_shown}
use Rattle.frs_objects.proofs.Listed.{listed_goes, listed_keeps, none_to_empty, none_goes}
use Rattle.frs_objects.proofs.index.Index.clear.Goals as goal

pub returns-in_default-clause-shown : goal.returns-in_default-clause-shown
returns-in_default-clause-shown c puts a =
    let maps = c.args.self.now.places.maps in
    let rows = c.args.self.now.entries.entries in
    taken_shown (slot_at maps) (slot_at maps) rows rows (λ q. bytes_eq c.args.id.now q.0) (λ _. false) puts a a.ordered
    (none_to_empty maps c.args.id.now c.in_default.ensures.value) (λ _. refl) (none_goes maps c.args.id.now c.in_default.ensures.value) (λ _ _. refl)

pub returns-clause-taken : goal.returns-clause-taken
returns-clause-taken c puts a =
    let maps = c.args.self.now.places.maps in
    let rows = c.args.self.now.entries.entries in
    let map = c.in-Some.map.now in
    Agrees-taken (slot_at maps) (slot_at c.empty.new.self.maps) rows c.remove_all.new.entries.entries (λ q. bytes_eq c.args.id.now q.0) (λ n. list_any (λ (e : List ℕ × Slot). is_lsn e.1.lsn n) map.entries) puts a (c.remove_all.ensures.ordered a.ordered)
    c.empty.ensures c.remove_all.ensures.rows
    (listed_goes maps rows puts a c.args.id.now map c.in-Some.ensures.value c.remove_all.ensures.keys)
    (listed_keeps maps rows puts a c.args.id.now map c.in-Some.ensures.value c.remove_all.ensures.keys)

pub returns-clause-shown : goal.returns-clause-shown
returns-clause-shown c puts a =
    let maps = c.args.self.now.places.maps in
    let rows = c.args.self.now.entries.entries in
    let map = c.in-Some.map.now in
    taken_shown (slot_at maps) (slot_at c.empty.new.self.maps) rows c.remove_all.new.entries.entries (λ q. bytes_eq c.args.id.now q.0) (λ n. list_any (λ (e : List ℕ × Slot). is_lsn e.1.lsn n) map.entries) puts a (c.remove_all.ensures.ordered a.ordered)
    c.empty.ensures c.remove_all.ensures.rows
    (listed_goes maps rows puts a c.args.id.now map c.in-Some.ensures.value c.remove_all.ensures.keys)
    (listed_keeps maps rows puts a c.args.id.now map c.in-Some.ensures.value c.remove_all.ensures.keys)
