-- What each filter passes, and what it has noted afterwards. Numbers and ids that were noted are listed rising, each
-- once.
use Rattle.std.specs.Prelude.{ℕ, Bool, true, false, not, ◌||◌, ◌==◌, List, ◌∷◌, Option, Some, None, if◌then◌else◌}
use Rattle.std.specs.List.{list_any}
use Rattle.std.specs.declared.cmp.Ordering.{Ordering}
use Rattle.std.specs.Ordering.{nat_cmp}
use Rattle.std.specs.BTreeMap.{is_at}
use Rattle.std.specs.BTreeSet.{insert_key}
use Rattle.std.specs.Cmp.Lexicographic.{slice_cmp}
use Rattle.frs_types.specs.declared.record.Action.{Action}
use Rattle.frs_types.specs.declared.record.Action.TheVariants.{Put, Remove, Delete, Commit, Compaction}
use Rattle.frs_types.specs.declared.record.Record.{Record}
use Rattle.frs_types.specs.declared.record.Entry.{Entry}
use Rattle.frs_types.specs.Maps.{Place, same_place}
use Rattle.frs_types.specs.Survivors.{entry_by}

-- whether k was noted
abbrev pub is_noted : {K : Type 0} → (K → K → Ordering) → List K → K → Bool
is_noted cmp noted k = list_any (is_at (cmp k)) noted

-- the record with its LSN, where it passes
abbrev pub given_if : Bool → ℕ → Record → Option (ℕ × Record)
given_if passes lsn r = if passes then Some (lsn, r) else None

-- ---- transactions: the notes are those whose commit record was offered

abbrev pub is_outside_or_in : List ℕ → ℕ → Bool
is_outside_or_in commits tx = (tx == 0) || is_noted nat_cmp commits tx

abbrev pub is_committed : List ℕ → ℕ → Action → Bool
is_committed commits tx (Put id key value) = is_outside_or_in commits tx
is_committed commits tx (Remove id key) = is_outside_or_in commits tx
is_committed commits tx (Delete id) = is_outside_or_in commits tx
is_committed commits tx (Compaction id key value) = true
is_committed commits tx other = false

abbrev pub with_commit : List ℕ → ℕ → Action → List ℕ
with_commit commits tx Commit = insert_key nat_cmp commits tx
with_commit commits tx other = commits

-- ---- skips: the notes are the LSNs that the records offered name

abbrev pub is_unnamed : List ℕ → ℕ → Action → Bool
is_unnamed named lsn (Delete id) = true
is_unnamed named lsn (Remove id key) = false
is_unnamed named lsn other = not (is_noted nat_cmp named lsn)

abbrev pub with_named : List ℕ → ℕ → List ℕ
with_named named n = insert_key nat_cmp named n

-- ---- deletes: the notes are the maps that were deleted

abbrev pub is_map_noted : List (List ℕ) → List ℕ → Bool
is_map_noted deleted id = is_noted (slice_cmp nat_cmp) deleted id

abbrev pub is_undeleted : List (List ℕ) → Action → Bool
is_undeleted deleted (Delete id) = false
is_undeleted deleted (Put id key value) = not (is_map_noted deleted id)
is_undeleted deleted (Remove id key) = not (is_map_noted deleted id)
is_undeleted deleted (Compaction id key value) = not (is_map_noted deleted id)
is_undeleted deleted other = true

abbrev pub deleted_map : Action → Option (List ℕ)
deleted_map (Delete id) = Some id
deleted_map other = None

abbrev pub with_deleted : List (List ℕ) → Action → List (List ℕ)
with_deleted deleted (Delete id) = insert_key (slice_cmp nat_cmp) deleted id
with_deleted deleted other = deleted

-- ---- replay: what is kept is the entries, the newest last

-- an entry has the place
abbrev pub is_placed : List Entry → Place → Bool
is_placed entries place = list_any (λ (e : Entry). same_place place (e.id, e.key)) entries

-- an older entry goes in front, where its place isn't taken
abbrev pub with_older : List Entry → Option Entry → List Entry
with_older entries None = entries
with_older entries (Some e) = if is_placed entries (e.id, e.key) then entries else e ∷ entries

abbrev pub with_replayed : List Entry → ℕ → Action → List Entry
with_replayed entries lsn action = with_older entries (entry_by lsn action)
