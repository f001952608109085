-- The state of a log, going forward record by record, and which records lawfully follow.
use Rattle.std.specs.Prelude.{ℕ, ◌+◌, ◌*◌, Bool, true, false, not, ◌&&◌, ◌||◌, ◌==◌, nat_lt, List, [], ◌∷◌, ◌++◌, map, filter, fold, Option, Some, None, IsTrue, if◌then◌else◌, option_map, unwrap_or}
use Rattle.std.specs.List.{list_any, list_all}
use Rattle.std.specs.Str.{bytes_eq}
use Rattle.std.specs.FinMap.Entries.{put}
use Rattle.frs_types.specs.declared.record.Action.{Action}
use Rattle.frs_types.specs.declared.record.Action.TheVariants.{Put, Remove, Delete, Begin, Commit, Compaction, Mark, Abandon}
use Rattle.frs_types.specs.declared.record.Record.{Record}
use Rattle.frs_types.specs.declared.record.Entry.{Entry}
use Rattle.frs_types.specs.declared.lock.Lock.{Lock}
use Rattle.frs_types.specs.declared.lock.Lock.TheVariants.{OnKey, OnMap}
use Rattle.frs_types.specs.Maps.{Place, Maps, Table, Change, at, table_after, table_after_all, place_cmp}
use Rattle.frs_types.specs.Maps.Change.{Set, Take, Clear}
use Rattle.frs_types.specs.Locks.{do_conflict}
use Rattle.frs_types.specs.Records.{is_allowed}
use Rattle.frs_types.specs.Survivors.{least}

-- ---- states of a log

-- what an entry holds at its place: a value, and the LSN of the record from which it comes
pub record StoredValue : Type 0 where
  pub value : List ℕ
  pub lsn : ℕ

-- an active transaction: its begin LSN, and its changes, oldest first
pub record Open : Type 0 where
  pub begin : ℕ
  pub changes : List (Change StoredValue)

pub record LogState : Type 0 where
  pub entries : Table StoredValue
  pub active : List Open
  pub next : ℕ

-- entries alone, and the next LSN
abbrev pub settled_state : Table StoredValue → ℕ → LogState
settled_state entries next = record { entries = entries; active = []; next = next }

-- entries without their LSNs
abbrev pub plain_maps : Table StoredValue → Maps
plain_maps entries = map (λ (e : Place × StoredValue). (e.0, e.1.value)) entries

-- a list of entries as a table
abbrev pub table_of : List Entry → Table StoredValue
table_of es = fold (λ t (e : Entry). put place_cmp (e.id, e.key) (record { value = e.value; lsn = e.lsn }) t) [] es

-- ---- active transactions

abbrev pub is_open_tx : List Open → ℕ → Bool
is_open_tx active tx = list_any (λ (o : Open). o.begin == tx) active

abbrev pub changes_of : List Open → ℕ → List (Change StoredValue)
changes_of [] tx = []
changes_of (o ∷ active) tx = if o.begin == tx then o.changes else changes_of active tx

abbrev pub with_change : List Open → ℕ → Change StoredValue → List Open
with_change active tx x = map (λ (o : Open). if o.begin == tx then record o {
  changes = o.changes
      ++ x ∷ [];
} else o) active

abbrev pub without_transaction : List Open → ℕ → List Open
without_transaction active tx = filter (λ (o : Open). not (o.begin == tx)) active

-- ---- one record

abbrev pub after_change : LogState → ℕ → Change StoredValue → LogState
after_change s tx x =
    if tx == 0
    then record { entries = table_after s.entries x; active = s.active; next = s.next + 1 }
    else record { entries = s.entries; active = with_change s.active tx x; next = s.next + 1 }

-- the state after a record with that transaction and action
abbrev pub after_by : LogState → ℕ → Action → LogState
after_by s tx (Put id key value) = after_change s tx (Set id key (record { value = value; lsn = s.next }))
after_by s tx (Remove id key) = after_change s tx (Take id key)
after_by s tx (Delete id) = after_change s tx (Clear id)
after_by s tx Begin = record s { active = s.active ++ record { begin = s.next; changes = [] } ∷ []; next = s.next + 1 }
after_by s tx Commit = record {
  entries = table_after_all s.entries
      (changes_of s.active tx);
  active = without_transaction s.active tx;
  next = s.next + 1;
}
after_by s tx
    (Compaction id key value) = record s {
      entries = table_after s.entries
          (Set id key (record { value = value; lsn = s.next }));
      next = s.next + 1;
    }
after_by s tx Mark = record s { active = []; next = s.next + 1 }
after_by s tx Abandon = record s { active = without_transaction s.active tx; next = s.next + 1 }

abbrev pub after_record : LogState → Record → LogState
after_record s r = after_by s r.tx r.action

abbrev pub state_after : LogState → List Record → LogState
state_after s rs = fold after_record s rs

-- ---- what is lawful

-- the least of the entries' LSNs, the begins of active transactions and the next LSN
abbrev pub lowest : LogState → ℕ
lowest s = least s.next (map (λ (e : Place × StoredValue). e.1.lsn) s.entries ++ map (λ (o : Open). o.begin) s.active)

-- the LSN of the entry as the transaction sees it, or 0
abbrev pub named_at : LogState → ℕ → Place → ℕ
named_at s tx p = unwrap_or
    (option_map (λ (h : StoredValue). h.lsn) (at (table_after_all s.entries (changes_of s.active tx)) p)) 0

-- what a change would lock
abbrev pub lock_of : Change StoredValue → Lock
lock_of (Set id key h) = OnKey id key
lock_of (Take id key) = OnKey id key
lock_of (Clear id) = OnMap id

-- no other active transaction has a change that conflicts with the lock
abbrev pub is_alone : LogState → ℕ → Lock → Bool
is_alone s tx lock = list_all
    (λ (o : Open). (o.begin == tx) || not (list_any (λ x. do_conflict lock (lock_of x)) o.changes)) s.active

-- outside a transaction, or in an active one
abbrev pub has_tx : LogState → ℕ → Bool
has_tx s tx = (tx == 0) || is_open_tx s.active tx

abbrev pub is_stored : Option StoredValue → List ℕ → ℕ → Bool
is_stored None value lsn = false
is_stored (Some h) value lsn = bytes_eq h.value value && (h.lsn == lsn)

-- what each kind asks of the state before it
abbrev pub fits_by : LogState → ℕ → ℕ → Action → Bool
fits_by s tx named (Put id key value) = has_tx s tx && is_alone s tx (OnKey id key) &&
    (named == named_at s tx (id, key))
fits_by s tx named (Remove id key) = has_tx s tx && is_alone s tx (OnKey id key) &&
    (named == named_at s tx (id, key)) && nat_lt 0 named
fits_by s tx named (Delete id) = has_tx s tx && is_alone s tx (OnMap id)
fits_by s tx named Begin = true
fits_by s tx named Commit = is_open_tx s.active tx
fits_by s tx named Abandon = is_open_tx s.active tx
fits_by s tx named (Compaction id key value) = is_stored (at s.entries (id, key)) value named && is_alone s 0
    (OnKey id key)
fits_by s tx named Mark = true

abbrev pub is_lawful : LogState → Record → Bool
is_lawful s r = is_allowed s.next r && (r.lowest == lowest s) && fits_by s r.tx r.named r.action

abbrev pub are_lawful : LogState → List Record → Bool
are_lawful s [] = true
are_lawful s (r ∷ rs) = is_lawful s r && are_lawful (after_record s r) rs

-- the records, from the LSN a on, lawfully follow on entries whose LSNs are below a
abbrev pub Lawful : Table StoredValue → ℕ → List Record → Type 0
Lawful entries a rs = IsTrue (are_lawful (settled_state entries a) rs)

-- ---- when entries are written again

-- Compaction is asked for, and is enough, by the number of live entries and the gap.
abbrev pub is_asked : ℕ → ℕ → Bool
is_asked live gap = not (nat_lt gap 64) && nat_lt (10 * live) (3 * gap)

abbrev pub is_enough : ℕ → ℕ → Bool
is_enough live gap = not (nat_lt (10 * live) (6 * gap))
