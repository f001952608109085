-- Places of the index, and what is known of each.
use Rattle.std.specs.Prelude.{ℕ, nat_lt, List, Option, Some, None, if◌then◌else◌}
use Rattle.std.specs.BTreeMap.{BTreeMap, get}
use Rattle.std.specs.Ordering.{nat_cmp}
use Rattle.std.specs.Cmp.Lexicographic.{slice_cmp}
use Rattle.frs_types.specs.Maps.{Place}
use Rattle.frs_objects.specs.declared.places.Slot.{Slot}

-- the slot of a key in a map that may be there
abbrev pub slot_in : Option (BTreeMap (List ℕ) Slot) → List ℕ → Option Slot
slot_in None key = None
slot_in (Some m) key = get (slice_cmp nat_cmp) m key

-- the slot of a place
abbrev pub slot_at : BTreeMap (List ℕ) (BTreeMap (List ℕ) Slot) → Place → Option Slot
slot_at maps p = slot_in (get (slice_cmp nat_cmp) maps p.0) p.1

-- the slot, unless it has no entry and no put needs it
abbrev pub kept_by : Option ℕ → Slot → Option Slot
kept_by (Some n) s = Some s
kept_by None s = if nat_lt 0 s.wanted then Some s else None

abbrev pub slot_if_used : Slot → Option Slot
slot_if_used s = kept_by s.lsn s

-- a slot without its entry
abbrev pub slot_without_entry : Option Slot → Option Slot
slot_without_entry None = None
slot_without_entry (Some s) = slot_if_used (record { lsn = None; wanted = s.wanted })
