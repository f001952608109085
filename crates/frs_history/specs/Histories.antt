-- Histories: which lists of events are legal, and what they commit and owe.
use Rattle.std.specs.Prelude.{ℕ, Bool, true, false, ◌&&◌, ◌==◌, List, [], ◌∷◌, map, filter, flat_map, Option, Some, None, is_some, is_none, IsTrue, if◌then◌else◌, option_map, option_and_then, unwrap_or, length}
use Rattle.std.specs.Str.{bytes_eq}
use Rattle.frs_history.specs.declared.command.Command.{Command}
use Rattle.frs_history.specs.declared.command.Command.TheVariants as command
use Rattle.frs_history.specs.declared.command.Line.{Line}
use Rattle.frs_types.specs.declared.lock.Lock.TheVariants.{OnKey}
use Rattle.frs_history.specs.declared.event.Reply.{Reply}
use Rattle.frs_history.specs.declared.event.Reply.TheVariants as reply
use Rattle.frs_history.specs.declared.event.What.{What}
use Rattle.frs_history.specs.declared.event.What.TheVariants as what
use Rattle.frs_history.specs.declared.event.Event.{Event}
use Rattle.frs_types.specs.Maps.{Maps, Change, at}
use Rattle.frs_types.specs.Maps.Change.{Set, Take, Clear}
use Rattle.frs_types.specs.Locks.{holder_at, nobody, with_wait, is_free}
use Rattle.frs_history.specs.Machine.{Changes, Transaction, State, Scripts, Outcome, start, client, with_client, next_line, outcome}
use Rattle.frs_history.specs.Machine.Transaction.{Outside, Active, Abandoned}
use Rattle.frs_history.specs.Machine.Outcome.{Answers, Waits_for, Never}

-- ---- legal histories

abbrev pub same_reply : Reply → Reply → Bool
same_reply reply.Done reply.Done = true
same_reply reply.Absent reply.Absent = true
same_reply (reply.Found a) (reply.Found b) = bytes_eq a b
same_reply reply.Deadlock reply.Deadlock = true
same_reply reply.Abandoned reply.Abandoned = true
same_reply (reply.Snapshot a) (reply.Snapshot b) = a == b
same_reply other another = false

-- the state after the outcome, where it is this reply
abbrev pub if_answers : Reply → Outcome → Option State
if_answers r (Answers given after) = if same_reply r given then Some after else None
if_answers r (Waits_for lock) = None
if_answers r Never = None

-- the state in which the wait is noted, where the outcome is a wait and none was noted
abbrev pub if_waits : State → ℕ → Outcome → Option State
if_waits s c (Answers given after) = None
if_waits s c (Waits_for lock) =
    if is_none (holder_at s.holders c).waits then Some (record s { holders = with_wait s.holders c lock }) else None
if_waits s c Never = None

-- what f makes of the command, where there is one and its line has this number
abbrev pub if_next : ℕ → (Command → Option State) → Option Line → Option State
if_next number f None = None
if_next number f (Some line) = if line.number == number then f line.command else None

abbrev pub is_active : Transaction → Bool
is_active Outside = false
is_active (Active sync changes) = true
is_active Abandoned = false

-- the end of a script abandons the active transaction, and its locks end
abbrev pub state_at_end : State → ℕ → State
state_at_end s c = with_client s c (record { done = (client s c).done; tx = Abandoned }) nobody

-- the state after such an event of the client at the line, where it may come
abbrev pub next_by : Scripts → State → ℕ → ℕ → What → Option State
next_by scripts s c number (what.Answered r) =
    if_next number (λ x. if_answers r (outcome s c x)) (next_line scripts s c)
next_by scripts s c number what.Waits = if_next number (λ x. if_waits s c (outcome s c x)) (next_line scripts s c)
next_by scripts s c number what.End =
    if (number == 0) && is_none (next_line scripts s c) && is_active (client s c).tx
    then Some (state_at_end s c) else None
next_by scripts s c number (what.Reappend id key) =
    if (c == 0) && (number == 0) && is_some (at s.maps (id, key)) && is_free s.holders (OnKey id key)
    then Some s else None

abbrev pub next : Scripts → State → Event → Option State
next scripts s e = next_by scripts s e.client e.line e.what

-- the state after the events, where each of them may come
abbrev pub run : Scripts → State → List Event → Option State
run scripts s [] = Some s
run scripts s (e ∷ es) = option_and_then (λ t. run scripts t es) (next scripts s e)

-- from the maps m and the last snapshot s these events are a history of the scripts
abbrev pub is_legal : Maps → ℕ → Scripts → List Event → Bool
is_legal m s scripts es = is_some (run scripts (start m s (length scripts)) es)

abbrev pub Legal : Maps → ℕ → Scripts → List Event → Type 0
Legal m s scripts es = IsTrue (is_legal m s scripts es)

-- ---- the moments of a history

-- an event, with the state before it and the client's next command there
pub record Moment : Type 0 where
  pub before : State
  pub command : Option Command
  pub event : Event

abbrev pub moment : Scripts → State → Event → Moment
moment scripts s e = record {
  before = s;
  command = option_map (λ (l : Line). l.command) (next_line scripts s e.client);
  event = e;
}

abbrev pub moments : Scripts → State → List Event → List Moment
moments scripts s [] = []
moments scripts s (e ∷ es) = moment scripts s e ∷ moments scripts (unwrap_or (next scripts s e) s) es

abbrev pub tx_of : Moment → Transaction
tx_of m = (client m.before m.event.client).tx

-- ---- what is committed, and what is owed

-- the change that a command makes by itself
abbrev pub change_of : Command → List (Change (List ℕ))
change_of (command.Put id key value) = Set id key value ∷ []
change_of (command.Remove id key) = Take id key ∷ []
change_of (command.Delete id) = Clear id ∷ []
change_of other = []

abbrev pub each_alone : Changes → List Changes
each_alone changes = map (λ x. x ∷ []) changes

-- a commit answered `done` commits its list; a put, remove or delete answered `done` outside commits one change
abbrev pub commits_by : Transaction → Option Command → What → List Changes
commits_by (Active sync changes) (Some command.Commit) (what.Answered reply.Done) = changes ∷ []
commits_by Outside (Some x) (what.Answered reply.Done) = each_alone (change_of x)
commits_by tx x other = []

abbrev pub commits_of : Moment → List Changes
commits_of m = commits_by (tx_of m) m.command m.event.what

abbrev pub commits : List Moment → List Changes
commits ms = flat_map commits_of ms

-- of a history from the maps m and the last snapshot s
abbrev pub commits_from : Maps → ℕ → Scripts → List Event → List Changes
commits_from m s scripts es = commits (moments scripts (start m s (length scripts)) es)

-- a change answered `done` outside, a synchronous commit answered `done`, a snapshot with a number
abbrev pub is_owed_by : Transaction → Option Command → What → Bool
is_owed_by Outside (Some (command.Put id key value)) (what.Answered reply.Done) = true
is_owed_by Outside (Some (command.Remove id key)) (what.Answered reply.Done) = true
is_owed_by Outside (Some (command.Delete id)) (what.Answered reply.Done) = true
is_owed_by (Active sync changes) (Some command.Commit) (what.Answered reply.Done) = sync
is_owed_by tx x (what.Answered (reply.Snapshot number)) = true
is_owed_by tx x other = false

abbrev pub is_owed : Moment → Bool
is_owed m = is_owed_by (tx_of m) m.command m.event.what

abbrev pub owed_events : List Moment → List Event
owed_events ms = map (λ (m : Moment). m.event) (filter is_owed ms)
