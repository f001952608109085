-- The changes of a transaction, and where the newest one of each key stands among them.
use Rattle.std.specs.Prelude.{◌≡◌, ◌<◌, ℕ, Bool, false, List, reverse, length, Option, Some, None, is_some}
use Rattle.std.specs.Prelude.{option_map, unwrap_or, slice_get}
use Rattle.std.specs.Option.{option_or}
use Rattle.std.specs.List.{find}
use Rattle.std.specs.BTreeMap.{BTreeMap, get}
use Rattle.std.specs.Ordering.{nat_cmp}
use Rattle.std.specs.Cmp.Lexicographic.{slice_cmp}
use Rattle.std.specs.Str.{bytes_eq}
use Rattle.frs_types.specs.Maps.{Place, same_place}
use Rattle.frs_types.specs.Lawful.{StoredValue}
use Rattle.frs_objects.specs.declared.op.Op.{Op}
use Rattle.frs_objects.specs.declared.op.Op.TheVariants.{Put, Remove, Delete}
use Rattle.frs_book.specs.declared.change_index.MapChanges.{MapChanges}

-- ---- the newest change of a place

-- it puts or removes this key of this map, or deletes this map
abbrev pub touches : Place → Op → Bool
touches p (Put id key value lsn) = same_place (id, key) p
touches p (Remove id key) = same_place (id, key) p
touches p (Delete id) = bytes_eq id p.0

abbrev pub newest_touching : List Op → Place → Option Op
newest_touching ops p = find (touches p) (reverse ops)

-- what a change leaves at a place that it touches
abbrev pub left_by : Op → Option StoredValue
left_by (Put id key value lsn) = Some (record { value = value; lsn = lsn })
left_by (Remove id key) = None
left_by (Delete id) = None

-- what a transaction with these changes sees at a place, where this is committed there
abbrev pub seen_over : List Op → Place → Option StoredValue → Option StoredValue
seen_over ops p committed = unwrap_or (option_map left_by (newest_touching ops p)) committed

-- ---- positions

-- the position of a key that may have a place
abbrev pub position_by : Option (Option ℕ) → Option ℕ
position_by None = None
position_by (Some position) = position

abbrev pub position_in : MapChanges → List ℕ → Option ℕ
position_in m key = option_or (position_by (get (slice_cmp nat_cmp) m.keys key)) m.deleted

abbrev pub position_of : Option MapChanges → List ℕ → Option ℕ
position_of None key = None
position_of (Some m) key = position_in m key

abbrev pub position_at : BTreeMap (List ℕ) MapChanges → Place → Option ℕ
position_at maps p = position_of (get (slice_cmp nat_cmp) maps p.0) p.1

-- the change at the position, or none
abbrev pub IsFoundAt : List Op → Option ℕ → Option Op → Type 0
IsFoundAt ops None found = found ≡ None
IsFoundAt ops (Some n) found = (n < length ops) × (slice_get ops n ≡ found)

-- the newest change of each place stands where the index says
abbrev pub IsIndexed : List Op → BTreeMap (List ℕ) MapChanges → Type 0
IsIndexed ops maps = (p : Place) → IsFoundAt ops (position_at maps p) (newest_touching ops p)

-- ---- places for positions

abbrev pub has_key : Option MapChanges → List ℕ → Bool
has_key None key = false
has_key (Some m) key = is_some (get (slice_cmp nat_cmp) m.keys key)

-- there is a place for the position of the change: its key's, or its map's
abbrev pub has_place : BTreeMap (List ℕ) MapChanges → Op → Bool
has_place maps (Put id key value lsn) = has_key (get (slice_cmp nat_cmp) maps id) key
has_place maps (Remove id key) = has_key (get (slice_cmp nat_cmp) maps id) key
has_place maps (Delete id) = is_some (get (slice_cmp nat_cmp) maps id)
