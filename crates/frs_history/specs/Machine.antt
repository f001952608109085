-- The machine of transactional maps, for any number of clients: its states, who waits for whom, and the
-- one outcome of a client's next command. It has no LSN, record, segment or slot.
use Rattle.std.specs.Prelude.{ℕ, ◌+◌, Bool, List, [], ◌∷◌, ◌++◌, replicate, Option, Some, None, is_some, if◌then◌else◌, is_none, slice_get, slice_index_or, slice_set}
use Rattle.frs_history.specs.declared.command.Command.{Command}
use Rattle.frs_history.specs.declared.command.Command.TheVariants as command
use Rattle.frs_history.specs.declared.command.Line.{Line}
use Rattle.frs_types.specs.declared.lock.Lock.{Lock}
use Rattle.frs_types.specs.declared.lock.Lock.TheVariants.{OnKey, OnMap}
use Rattle.frs_history.specs.declared.event.Reply.{Reply}
use Rattle.frs_history.specs.declared.event.Reply.TheVariants as reply
use Rattle.frs_types.specs.Maps.{Maps, Change, at, table_after, table_after_all}
use Rattle.frs_types.specs.Maps.Change.{Set, Take, Clear}
use Rattle.frs_types.specs.Locks.{Holder, Holders, nobody, holder_at, with_lock, hinderers, ring}

-- ---- states

abbrev pub Changes : Type 0
Changes = List (Change (List ℕ))

-- A client's transaction. An active one has its changes so far, oldest first.
pub data Transaction : Type 0 where
  Outside : Transaction
  Active : (sync : Bool) → (changes : Changes) → Transaction
  Abandoned : Transaction

-- how many commands were answered, and the transaction
pub record Client : Type 0 where
  pub done : ℕ
  pub tx : Transaction

-- The committed maps, the last snapshot's number, and the clients in order, with the locks that they hold and
-- wait for. Client 0, the compactor, stands first: it has no script, so it answers no command.
pub record State : Type 0 where
  pub maps : Maps
  pub last : ℕ
  pub clients : List Client
  pub holders : Holders

abbrev pub newcomer : Client
newcomer = record { done = 0; tx = Outside }

-- the state from which a session with n clients goes on
abbrev pub start : Maps → ℕ → ℕ → State
start m s n = record {
  maps = m;
  last = s;
  clients = newcomer ∷ replicate n newcomer;
  holders = nobody ∷ replicate n nobody;
}

abbrev pub client : State → ℕ → Client
client s c = slice_index_or s.clients c newcomer

-- the state with another client c, and other locks of it
abbrev pub with_client : State → ℕ → Client → Holder → State
with_client s c x h = record {
  maps = s.maps;
  last = s.last;
  clients = slice_set s.clients c x;
  holders = slice_set s.holders c h;
}

-- the scripts of clients 1, 2, ..; all others have none
abbrev pub Scripts : Type 0
Scripts = List (List Line)

abbrev pub next_line : Scripts → State → ℕ → Option Line
next_line scripts s c = slice_get (slice_index_or ([] ∷ scripts) c []) (client s c).done

-- the maps as a transaction sees them
abbrev pub seen_by : Transaction → Maps → Maps
seen_by Outside m = m
seen_by (Active sync changes) m = table_after_all m changes
seen_by Abandoned m = m

abbrev pub maps_seen : State → ℕ → Maps
maps_seen s c = seen_by (client s c).tx s.maps

-- ---- outcomes

-- a reply and the state after it; a wait for a lock; or nothing, for what no script leads to: `begin` in an
-- active transaction, `commit` outside
pub data Outcome : Type 0 where
  Answers : (reply : Reply) → (after : State) → Outcome
  Waits_for : (lock : Lock) → Outcome
  Never : Outcome

-- c's command is answered: its wait ends, and one more command is done
abbrev pub answer_outcome : State → ℕ → Reply → Transaction → List Lock → Outcome
answer_outcome s c r tx locks = Answers r
    (with_client s c (record { done = (client s c).done + 1; tx = tx }) (record { locks = locks; waits = None }))

-- the command reads, and keeps its lock inside a transaction
abbrev pub read_outcome : State → ℕ → Transaction → Lock → Reply → Outcome
read_outcome s c Outside lock r = answer_outcome s c r Outside []
read_outcome s c (Active sync changes) lock r =
    answer_outcome s c r (Active sync changes) (with_lock lock (holder_at s.holders c).locks)
read_outcome s c Abandoned lock r = Never

-- the command makes the change: outside a transaction in the maps, inside one in its list
abbrev pub change_outcome : State → ℕ → Transaction → Lock → Change (List ℕ) → Outcome
change_outcome s c Outside lock x = answer_outcome (record s { maps = table_after s.maps x }) c reply.Done Outside []
change_outcome s c (Active sync changes) lock x =
    answer_outcome s c reply.Done (Active sync (changes ++ x ∷ [])) (with_lock lock (holder_at s.holders c).locks)
change_outcome s c Abandoned lock x = Never

abbrev pub value_or_none : Option (List ℕ) → Reply
value_or_none None = reply.Absent
value_or_none (Some value) = reply.Found value

-- the outcome where nobody hinders c
abbrev pub free_outcome : State → ℕ → Transaction → Command → Outcome
free_outcome s c Abandoned command.Commit = answer_outcome s c reply.Abandoned Outside []
free_outcome s c Abandoned other = answer_outcome s c reply.Abandoned Abandoned []
free_outcome s c Outside (command.Begin sync) = answer_outcome s c reply.Done (Active sync []) []
free_outcome s c (Active sync changes) command.Commit =
    answer_outcome (record s { maps = table_after_all s.maps changes }) c reply.Done Outside []
free_outcome s c tx command.Snapshot =
    answer_outcome (record s { last = s.last + 1 }) c (reply.Snapshot (s.last + 1)) tx (holder_at s.holders c).locks
free_outcome s c tx (command.Get id key) =
    read_outcome s c tx (OnKey id key) (value_or_none (at (maps_seen s c) (id, key)))
free_outcome s c tx (command.Put id key value) = change_outcome s c tx (OnKey id key) (Set id key value)
free_outcome s c tx (command.Delete id) = change_outcome s c tx (OnMap id) (Clear id)
free_outcome s c tx (command.Remove id key) =
    if is_some (at (maps_seen s c) (id, key)) then change_outcome s c tx (OnKey id key) (Take id key)
    else read_outcome s c tx (OnKey id key) reply.Absent
free_outcome s c Outside command.Commit = Never
free_outcome s c (Active sync changes) (command.Begin again) = Never

-- the lock that the command needs
abbrev pub lock_needed : Transaction → Command → Option Lock
lock_needed Abandoned other = None
lock_needed Outside (command.Get id key) = None
lock_needed tx (command.Get id key) = Some (OnKey id key)
lock_needed tx (command.Put id key value) = Some (OnKey id key)
lock_needed tx (command.Remove id key) = Some (OnKey id key)
lock_needed tx (command.Delete id) = Some (OnMap id)
lock_needed tx other = None

-- c is hindered: it waits, unless a ring would close; then its transaction is abandoned
abbrev pub hindered_outcome : State → ℕ → Lock → Outcome
hindered_outcome s c lock =
    if ring s.holders c lock then answer_outcome s c reply.Deadlock Abandoned [] else Waits_for lock

abbrev pub outcome_at : State → ℕ → Command → Option Lock → Outcome
outcome_at s c x None = free_outcome s c (client s c).tx x
outcome_at s c x (Some lock) =
    if is_none (slice_get (hinderers s.holders c lock) 0) then free_outcome s c (client s c).tx x
    else hindered_outcome s c lock

-- the outcome of c's command in the state s
abbrev pub outcome : State → ℕ → Command → Outcome
outcome s c x = outcome_at s c x (lock_needed (client s c).tx x)
