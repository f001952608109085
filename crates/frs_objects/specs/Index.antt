-- When the entries by LSN and the places hold the same entries, and what they show.
use Rattle.std.specs.Prelude.{ℕ, ◌+◌, ◌^◌, ◌<◌, ◌==◌, Bool, true, false, ◌≡◌, ⊤, List, [], ◌∷◌, Option, Some, None, if◌then◌else◌}
use Rattle.std.specs.List.{list_any}
use Rattle.std.specs.List.Sorted.{IsStrictlySortedBy}
use Rattle.std.specs.Ordering.{nat_cmp}
use Rattle.std.specs.Map.{lookup, keys_of}
use Rattle.std.specs.BTreeMap.{is_at}
use Rattle.std.specs.FinMap.Entries.{put}
use Rattle.frs_types.specs.declared.record.Entry.{Entry}
use Rattle.frs_types.specs.Maps.{Place, Table, place_cmp, same_place}
use Rattle.frs_types.specs.Lawful.{StoredValue}
use Rattle.frs_objects.specs.declared.op.Op.{Op}
use Rattle.frs_objects.specs.declared.op.Op.TheVariants.{Put}
use Rattle.frs_objects.specs.declared.places.Slot.{Slot}
use Rattle.frs_objects.specs.declared.index.Index.{Index}
use Rattle.frs_objects.specs.Slots.{slot_at, slot_if_used}
use Rattle.frs_objects.specs.Objects.{stored_by, bytes_at_place}

-- entries by LSN; None stands where an LSN is kept for an entry to come
abbrev pub Rows : Type 0
Rows = List (ℕ × Option Entry)

abbrev pub row_at : Rows → ℕ → Option (Option Entry)
row_at rows n = lookup (is_at (nat_cmp n)) rows

abbrev pub entry_in : Option (Option Entry) → Option Entry
entry_in None = None
entry_in (Some o) = o

-- the entry under an LSN
abbrev pub entry_under : Rows → Option ℕ → Option Entry
entry_under rows None = None
entry_under rows (Some n) = entry_in (row_at rows n)

abbrev pub with_row : Option Entry → Table StoredValue → Table StoredValue
with_row None t = t
with_row (Some e) t = put place_cmp (e.id, e.key) (stored_by e) t

-- the bytes of the entry in a row
abbrev pub row_bytes : Option Entry → ℕ
row_bytes None = 0
row_bytes (Some e) = bytes_at_place (e.id, e.key) (stored_by e)

-- what the entries show
abbrev pub table_by : Rows → Table StoredValue
table_by [] = []
table_by (row ∷ rows) = with_row row.1 (table_by rows)

abbrev pub is_blank : Option (Option Entry) → Bool
is_blank (Some None) = true
is_blank other = false

abbrev pub lsn_in : Option Slot → Option ℕ
lsn_in None = None
lsn_in (Some s) = s.lsn

abbrev pub wanted_in : Option Slot → ℕ
wanted_in None = 0
wanted_in (Some s) = s.wanted

-- how many of these puts need the place
abbrev pub demand : List (Place × ℕ) → Place → ℕ
demand [] p = 0
demand (w ∷ ws) p = if same_place w.0 p then demand ws p + 1 else demand ws p

-- no two of them have one LSN
abbrev pub HaveOwnLsns : List (Place × ℕ) → Type 0
HaveOwnLsns [] = ⊤
HaveOwnLsns (w ∷ ws) = (list_any (λ (x : Place × ℕ). x.1 == w.1) ws ≡ false) × HaveOwnLsns ws

-- Slots and rows hold the same entries, and what these puts, still to be made, need.
pub record Agrees (slots : Place → Option Slot) (rows : Rows) (puts : List (Place × ℕ)) : Type 0 where
  pub ordered : IsStrictlySortedBy nat_cmp (keys_of rows)
  -- each entry stands under its LSN, and its place names that LSN
  pub owned : (n : ℕ) (e : Entry) → row_at rows n ≡ Some (Some e) → (e.lsn ≡ n)
      × (lsn_in (slots (e.id, e.key)) ≡ Some n)
  -- under each LSN that a place names stands its entry
  pub found : (p : Place) (n : ℕ) → lsn_in (slots p) ≡ Some n → (e : Entry) × (row_at rows n ≡ Some (Some e))
      × ((e.id, e.key) ≡ p)
  -- each place has an entry, or puts need it
  pub needed : (p : Place) (s : Slot) → slots p ≡ Some s → slot_if_used s ≡ Some s
  pub counted : (p : Place) → wanted_in (slots p) ≡ demand puts p
  -- what the LSNs of the puts are kept for is to come
  pub blank : (n : ℕ) → is_blank (row_at rows n) ≡ list_any (λ (x : Place × ℕ). x.1 == n) puts
  pub own : HaveOwnLsns puts

-- whether this LSN is n
abbrev pub is_lsn : Option ℕ → ℕ → Bool
is_lsn None n = false
is_lsn (Some m) n = m == n

-- a slot that one more put needs
abbrev pub wanted_more : Option Slot → Slot
wanted_more o = record { lsn = lsn_in o; wanted = wanted_in o + 1 }

-- the index holds these entries, and keeps LSNs and places for these puts
abbrev pub IsIndex : Index → List (Place × ℕ) → Type 0
IsIndex a puts = Agrees (slot_at a.places.maps) a.entries.entries puts

abbrev pub table_in : Index → Table StoredValue
table_in a = table_by a.entries.entries

-- an LSN and a place are kept for a put
abbrev pub KeepsFor : Index → Place → ℕ → Type 0
KeepsFor a p lsn = (puts : List (Place × ℕ)) × IsIndex a ((p, lsn) ∷ puts)

-- the LSN of a put is new to the index, and one more put can need its place
abbrev pub HasRoomFor : Index → Op → Type 0
HasRoomFor a (Put id key value lsn) =
    (row_at a.entries.entries lsn ≡ None) × (wanted_in (slot_at a.places.maps (id, key)) + 1 < 2 ^ 64)
HasRoomFor a other = ⊤
