-- The survivors of a log, by a test of each record against the whole log, and the lowest of a log by itself.
use Rattle.std.specs.Prelude.{ℕ, min, Bool, true, false, not, ◌&&◌, ◌||◌, ◌==◌, List, [], ◌∷◌, ◌++◌, map, fold, Option, Some, None, if◌then◌else◌}
use Rattle.std.specs.List.{list_any}
use Rattle.std.specs.Str.{bytes_eq}
use Rattle.std.specs.FinMap.Entries.{put}
use Rattle.frs_types.specs.declared.record.Action.{Action}
use Rattle.frs_types.specs.declared.record.Action.TheVariants.{Put, Delete, Begin, Commit, Compaction, Mark, Abandon}
use Rattle.frs_types.specs.declared.record.Entry.{Entry}
use Rattle.frs_types.specs.Maps.{Maps, same_place, place_cmp}
use Rattle.frs_types.specs.Records.{Log, Numbered, numbered_records, next_lsn}

-- ---- tests of one record

abbrev pub is_commit : Action → Bool
is_commit Commit = true
is_commit other = false

abbrev pub is_compaction : Action → Bool
is_compaction (Compaction id key value) = true
is_compaction other = false

abbrev pub is_begin : Action → Bool
is_begin Begin = true
is_begin other = false

abbrev pub is_delete_of : List ℕ → Action → Bool
is_delete_of id (Delete other) = bytes_eq id other
is_delete_of id other = false

-- the action, in a record of that transaction, ends the transaction tx
abbrev pub is_ended_by : ℕ → ℕ → Action → Bool
is_ended_by tx its Commit = its == tx
is_ended_by tx its Abandon = its == tx
is_ended_by tx its Mark = true
is_ended_by tx its other = false

-- the entry that a put or a compaction with this LSN makes
abbrev pub entry_by : ℕ → Action → Option Entry
entry_by n (Put id key value) = Some (record { id = id; key = key; value = value; lsn = n })
entry_by n (Compaction id key value) = Some (record { id = id; key = key; value = value; lsn = n })
entry_by n other = None

-- ---- committed records

-- It is a compaction, or outside a transaction, or a commit record of its transaction stands after it.
abbrev pub is_committed_by : Numbered → List Numbered → Bool
is_committed_by q later =
    is_compaction q.what.action || (q.what.tx == 0) || list_any
    (λ (l : Numbered). is_commit l.what.action && (l.what.tx == q.what.tx)) later

-- the committed records among these, oldest first
abbrev pub committed_records : List Numbered → List Numbered
committed_records [] = []
committed_records (q ∷ later) = if is_committed_by q later then q ∷ committed_records later else committed_records later

-- ---- survivors

-- the entry counts unless a later record names it, a later delete has its id, or a newer entry has its place
abbrev pub with_entry : Option Entry → List Numbered → List Entry → List Entry
with_entry None later newer = newer
with_entry (Some e) later newer =
    if list_any (λ (l : Numbered). l.what.named == e.lsn) later || list_any
    (λ (l : Numbered). is_delete_of e.id l.what.action) later
    || list_any (λ (n : Entry). same_place (e.id, e.key) (n.id, n.key)) newer
    then newer
    else e ∷ newer

-- the survivors of committed records, oldest first
abbrev pub survivors_of : List Numbered → List Entry
survivors_of [] = []
survivors_of (q ∷ later) = with_entry (entry_by q.lsn q.what.action) later (survivors_of later)

abbrev pub survivors : Log → List Entry
survivors log = survivors_of (committed_records (numbered_records log))

-- entries as maps
abbrev pub maps_of : List Entry → Maps
maps_of es = fold (λ t (e : Entry). put place_cmp (e.id, e.key) e.value t) [] es

-- ---- the lowest of a log by itself

-- the begins that no later commit, abandon or mark ends
abbrev pub open_begins : List Numbered → List ℕ
open_begins [] = []
open_begins (q ∷ later) =
    if is_begin q.what.action && not
    (list_any
    (λ (l : Numbered). is_ended_by q.lsn l.what.tx l.what.action) later) then q.lsn ∷ open_begins later else
    open_begins later

abbrev pub least : ℕ → List ℕ → ℕ
least n ns = fold min n ns

-- over the survivors, the open begins and the next LSN
abbrev pub lowest_of : Log → ℕ
lowest_of log = least (next_lsn log) (map (λ (e : Entry). e.lsn) (survivors log) ++ open_begins (numbered_records log))
