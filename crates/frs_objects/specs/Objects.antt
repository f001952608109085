-- Entries as a table: which operation makes which change, the oldest entry, and which LSNs are new.
use Rattle.std.specs.Prelude.{ℕ, ◌+◌, length, ◌<◌, nat_lt, ◌==◌, false, ◌≡◌, ⊤, List, [], ◌∷◌, map, Option, Some, None, if◌then◌else◌, option_map, unwrap_or}
use Rattle.std.specs.List.{list_any, sum_by, AllByRecursion}
use Rattle.std.specs.FinMap.Entries.{put}
use Rattle.frs_types.specs.declared.record.Entry.{Entry}
use Rattle.frs_types.specs.Maps.{Place, Table, Change, at, place_cmp}
use Rattle.frs_types.specs.Maps.Change.{Set, Take, Clear}
use Rattle.frs_types.specs.Lawful.{StoredValue}
use Rattle.frs_types.specs.Survivors.{least}
use Rattle.frs_objects.specs.declared.op.Op.{Op}
use Rattle.frs_objects.specs.declared.op.Op.TheVariants.{Put, Remove, Delete}

-- what an entry stores at its place
abbrev pub stored_by : Entry → StoredValue
stored_by e = record { value = e.value; lsn = e.lsn }

-- what is stored at a place, as an entry
abbrev pub entry_of : Place → StoredValue → Entry
entry_of p h = record { id = p.0; key = p.1; value = h.value; lsn = h.lsn }

-- the entry at a place
abbrev pub entry_at : Table StoredValue → Place → Option Entry
entry_at t p = option_map (entry_of p) (at t p)

-- ---- operations

abbrev pub change_by : Op → Change StoredValue
change_by (Put id key value lsn) = Set id key (record { value = value; lsn = lsn })
change_by (Remove id key) = Take id key
change_by (Delete id) = Clear id

-- puts, each its place and its LSN, with that of an operation in front
abbrev pub with_put : Op → List (Place × ℕ) → List (Place × ℕ)
with_put (Put id key value lsn) puts = ((id, key), lsn) ∷ puts
with_put other puts = puts

abbrev pub puts_among : List Op → List (Place × ℕ)
puts_among [] = []
puts_among (op ∷ ops) = with_put op (puts_among ops)

-- the LSNs of puts
abbrev pub put_lsns : List (Place × ℕ) → List ℕ
put_lsns puts = map (λ (w : Place × ℕ). w.1) puts

abbrev pub table_lsns : Table StoredValue → List ℕ
table_lsns t = map (λ (e : Place × StoredValue). e.1.lsn) t

-- rising LSNs, none of which an entry has
abbrev pub AreNew : Table StoredValue → List ℕ → Type 0
AreNew t [] = ⊤
AreNew t (n ∷ ns) = (list_any (λ m. m == n) (table_lsns t) ≡ false) × AllByRecursion (λ m. n < m) ns × AreNew t ns

-- no two entries have one LSN
abbrev pub HaveOwnNumbers : List Entry → Type 0
HaveOwnNumbers [] = ⊤
HaveOwnNumbers (e ∷ es) = (list_any (λ (d : Entry). d.lsn == e.lsn) es ≡ false) × HaveOwnNumbers es

-- ---- the oldest entry

abbrev pub least_lsn : Table StoredValue → Option ℕ
least_lsn [] = None
least_lsn (e ∷ t) = Some (least e.1.lsn (table_lsns t))

abbrev pub older_of : Entry → Option Entry → Entry
older_of e None = e
older_of e (Some other) = if nat_lt other.lsn e.lsn then other else e

-- the entry of the least LSN
abbrev pub oldest_entry : Table StoredValue → Option Entry
oldest_entry [] = None
oldest_entry (e ∷ t) = Some (older_of (entry_of e.0 e.1) (oldest_entry t))

-- ---- how much there is

-- the bytes of what stands at a place: of the id, the key and the value
abbrev pub bytes_at_place : Place → StoredValue → ℕ
bytes_at_place p h = length p.0 + (length p.1 + length h.value)

-- the bytes of all entries
abbrev pub table_bytes : Table StoredValue → ℕ
table_bytes t = sum_by (λ (e : Place × StoredValue). bytes_at_place e.0 e.1) t

-- ---- an entry under another LSN

-- the LSN of the entry at a place, or 0
abbrev pub lsn_of_place : Table StoredValue → Place → ℕ
lsn_of_place t p = unwrap_or (option_map (λ (h : StoredValue). h.lsn) (at t p)) 0

-- the table with another LSN at a place
abbrev pub with_lsn : Table StoredValue → Place → ℕ → Table StoredValue
with_lsn t p n = put place_cmp p
    (record { value = unwrap_or (option_map (λ (h : StoredValue). h.value) (at t p)) []; lsn = n }) t
