-- The simulation between the machine and the log: what a state of the machine and what was drawn so far have in common,
-- and what the records of a whole history show because each event keeps it.
use Rattle.std.specs.Prelude.{◌≡◌, ℕ, suc, ◌+◌, ◌-◌, ◌<◌, ◌≤◌, Bool, true, not, List, [], ◌∷◌, map, take, length}
use Rattle.std.specs.Prelude.{Option, Some, None, IsTrue}
use Rattle.std.specs.List.{list_any, AllByRecursion}
use Rattle.frs_types.specs.declared.record.Action.{Action}
use Rattle.frs_types.specs.declared.record.Action.TheVariants.{Mark}
use Rattle.frs_types.specs.declared.record.Record.{Record}
use Rattle.frs_types.specs.Maps.{Place, Table, Change, IsTable, After}
use Rattle.frs_types.specs.Maps.Change.{Set, Take, Clear}
use Rattle.frs_types.specs.Locks.{Holder, holder_at, same_lock}
use Rattle.frs_types.specs.Records.{has_words}
use Rattle.frs_types.specs.Lawful.{StoredValue, Open, LogState, plain_maps, is_open_tx, changes_of, lock_of}
use Rattle.frs_types.specs.Lawful.{state_after, is_lawful, Lawful}
use Rattle.frs_types.specs.ChangeLists.{plain_change}
use Rattle.frs_history.specs.declared.event.Event.{Event}
use Rattle.frs_history.specs.Machine.{Client, Transaction, State, Scripts, start, client}
use Rattle.frs_history.specs.Machine.Transaction.{Outside, Active, Abandoned}
use Rattle.frs_history.specs.Histories.{Moment, is_active, run, Legal}
use Rattle.frs_book.specs.Drawn.{SessionHistory, Drawing, begin_of, opened, drawn_records, commits_in}
use Rattle.frs_book.specs.Drawn.{commits_up_to, record_for, after_draw, client_of, drawn_action, log_state_of, drawing_of}

-- ---- what entries and changes are

-- a value from a record with an LSN above 0 and below the next one
abbrev pub IsStoredBefore : ℕ → StoredValue → Type 0
IsStoredBefore next h = (0 < h.lsn) × (h.lsn < next)

abbrev pub AreStoredBefore : ℕ → Table StoredValue → Type 0
AreStoredBefore next t = AllByRecursion (λ (e : Place × StoredValue). IsStoredBefore next e.1) t

abbrev pub IsChangeBefore : ℕ → Change StoredValue → Type 0
IsChangeBefore next (Set id key h) = IsStoredBefore next h
IsChangeBefore next (Take id key) = Unit {0}
IsChangeBefore next (Clear id) = Unit {0}

-- among the locks is that of the change
abbrev pub IsCovered : Holder → Change StoredValue → Type 0
IsCovered h x = list_any (same_lock (lock_of x)) h.locks ≡ true

-- ---- transactions

-- An open transaction is that of a client, which holds the locks of its changes.
pub record IsOpenOf (s : State) (d : Drawing) (o : Open) : Type 0 where
  pub client : ℕ
  pub begin : begin_of d client ≡ o.begin
  pub above : 0 < o.begin
  pub changes : AllByRecursion (IsChangeBefore d.log.next) o.changes
  pub locks : AllByRecursion (IsCovered (holder_at s.holders client)) o.changes

-- A client with an active transaction has drawn its begin and its changes. Any other has none, and no lock.
abbrev pub IsDrawnBy : LogState → ℕ → Transaction → Holder → Type 0
IsDrawnBy log begin Outside h = (begin ≡ 0) × (h.locks ≡ [])
IsDrawnBy log begin Abandoned h = (begin ≡ 0) × (h.locks ≡ [])
IsDrawnBy log begin (Active sync changes) h =
    (0 < begin) × (begin < log.next) × (is_open_tx log.active begin ≡ true)
    × (map plain_change (changes_of log.active begin) ≡ changes)

-- no two clients have one begin
abbrev pub AreApart : Drawing → Type 0
AreApart d = (c e : ℕ) → 0 < begin_of d c → begin_of d c ≡ begin_of d e → c ≡ e

-- ---- the agreement

-- The machine's maps are those of the log's entries, and the machine's active transactions are those of the log.
pub record Agreement (scripts : Scripts) (s : State) (d : Drawing) : Type 0 where
  pub maps : s.maps ≡ plain_maps d.log.entries
  pub sorted : IsTable d.log.entries
  pub next : 0 < d.log.next
  pub stored : AreStoredBefore d.log.next d.log.entries
  pub clients : length s.clients ≡ suc (length scripts)
  pub holders : length s.holders ≡ suc (length scripts)
  pub begins : length d.begins ≡ suc (length scripts)
  pub drawn : (c : ℕ) → IsDrawnBy d.log (begin_of d c) (client s c).tx (holder_at s.holders c)
  pub apart : AreApart d
  pub owned : AllByRecursion (IsOpenOf s d) d.log.active

-- ---- sessions

-- the words of what is drawn, if anything is, are within their limits
abbrev pub has_words_if : Option Action → Bool
has_words_if None = true
has_words_if (Some a) = has_words a

abbrev pub AreWorded : List Record → Type 0
AreWorded rs = AllByRecursion (λ (r : Record). IsTrue (has_words r.action)) rs

-- no transaction is active
abbrev pub is_quiet : Option State → Bool
is_quiet None = true
is_quiet (Some s) = not (list_any (λ (x : Client). is_active x.tx) s.clients)

-- the closing mark isn't drawn, or where it is no transaction is active
abbrev pub may_close : Scripts → State → List Event → Option ℕ → Bool
may_close scripts s es None = true
may_close scripts s es (Some place) = is_quiet (run scripts s (take place es))

abbrev pub begun : SessionHistory → State
begun h = start (plain_maps h.entries) h.last (length h.scripts)

-- What a session may be: its entries are a table of values from before the opening, its events a history, and its words
-- within their limits.
pub record IsSession (h : SessionHistory) : Type 0 where
  pub sorted : IsTable h.entries
  pub stored : AreStoredBefore (h.opening + 1) h.entries
  pub words : AreWorded (drawn_records h)
  pub legal : Legal (plain_maps h.entries) h.last h.scripts h.events
  pub closing : IsTrue (may_close h.scripts (begun h) h.events h.closing)

-- The record that a client draws for the action lawfully follows.
abbrev pub IsLawfulDraw : Drawing → ℕ → Option Action → Type 0
IsLawfulDraw d c None = Unit {0}
IsLawfulDraw d c (Some a) = IsTrue (is_lawful d.log (record_for d c a))

-- One event, or the closing mark, keeps the agreement, and draws a lawful record where it draws one.
pub record Keeps (scripts : Scripts) (d : Drawing) (m : Option Moment) (after : State) : Type 0 where
  pub agrees : Agreement scripts after (after_draw d (client_of m) (drawn_action m))
  pub lawful : IsLawfulDraw d (client_of m) (drawn_action m)

-- What is drawn is lawful, it agrees with the machine, and the records up to an LSN show the commits up to it. Up to the
-- opening mark these are none, and up to the last record all.
pub record IsShown (h : SessionHistory) : Type 0 where
  pub agrees : (t : State) → run h.scripts (begun h) h.events ≡ Some t → Agreement h.scripts t (drawing_of h)
  pub log : (drawing_of h).log ≡ log_state_of h
  pub lawful : Lawful h.entries (h.opening + 1) (drawn_records h)
  pub maps : (n : ℕ) → h.opening ≤ n
      → plain_maps (state_after (opened h).log (take (n - h.opening) (drawn_records h))).entries
      ≡ After (plain_maps h.entries) (commits_in h) (commits_up_to h n)
  pub early : (n : ℕ) → n ≤ h.opening → commits_up_to h n ≡ 0
  pub all : (n : ℕ) → (drawing_of h).log.next ≤ n + 1 → commits_up_to h n ≡ length (commits_in h)
  pub behind_mark : (s : LogState) (mark : Record) (n : ℕ) → s.entries ≡ h.entries → s.next ≡ h.opening
      → mark.action ≡ Mark → h.opening ≤ n
      → plain_maps (state_after s (mark ∷ take (n - h.opening) (drawn_records h))).entries
      ≡ After (plain_maps h.entries) (commits_in h) (commits_up_to h n)
