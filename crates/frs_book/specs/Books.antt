-- A book as contracts see it, and what its calls answer.
use Rattle.std.specs.Prelude.{◌≡◌, ◌≢◌, ◌⊎◌, ℕ, ◌+◌, ◌-◌, ◌<◌, ◌≤◌, not, fold, Bool, true, false, ◌&&◌, ◌==◌, List, [], ◌∷◌, ◌++◌}
use Rattle.std.specs.Prelude.{Option, Some, None, is_some, is_none, map, length, count_by, if◌then◌else◌, unwrap_or}
use Rattle.std.specs.Prelude.{option_map, option_and_then}
use Rattle.frs_types.specs.declared.limits.TheConstants.{NUMBER_LIMIT}
use Rattle.frs_types.specs.declared.record.Action.{Action}
use Rattle.frs_types.specs.declared.record.Action.TheVariants as action
use Rattle.frs_types.specs.declared.lock.Lock.{Lock}
use Rattle.frs_types.specs.Locks.{holder_at, hinderers_at}
use Rattle.frs_frame.specs.Spelling.{spelling, without_numbers}
use Rattle.frs_slots.specs.Views.{DrawerView, SlotView, HasLooked, DrewRecord, next_drawn, outstanding}
use Rattle.frs_locks.specs.Answers.{least_client}
use Rattle.frs_history.specs.declared.command.Command.{Command}
use Rattle.frs_history.specs.declared.command.Line.{Line}
use Rattle.frs_history.specs.declared.event.Ack.{Ack}
use Rattle.frs_history.specs.declared.event.Event.{Event}
use Rattle.frs_history.specs.declared.event.Reply.TheVariants as reply
use Rattle.frs_history.specs.declared.event.What.{What}
use Rattle.frs_history.specs.declared.event.What.TheVariants as what
use Rattle.frs_types.specs.declared.record.Entry.{Entry}
use Rattle.frs_types.specs.Maps.{Place, Maps, Table}
use Rattle.std.specs.List.{AllByRecursion, sum_by}
use Rattle.frs_types.specs.Lawful.{StoredValue, plain_maps}
use Rattle.frs_history.specs.Machine.{State, Scripts, Outcome, start, client, next_line, outcome}
use Rattle.frs_history.specs.Machine.Outcome.{Answers, Waits_for, Never}
use Rattle.frs_history.specs.Histories.{Moment, moment, next, run, is_active, is_owed}
use Rattle.frs_book.specs.declared.step.Marked.{Marked}
use Rattle.frs_book.specs.declared.step.Marked.TheVariants as marked
use Rattle.frs_book.specs.declared.step.Step.{Step}
use Rattle.frs_book.specs.declared.step.Step.TheVariants as step
use Rattle.frs_book.specs.Drawn.{SessionHistory, action_of, action_at, drawn_records, drawing_of, draw_step}
use Rattle.frs_book.specs.Drawn.{DrawStep, draw_steps, acks_owed, ack_at, record_for}
use Rattle.frs_book.specs.Agreement.{IsSession, begun}

-- What contracts see: the session, the machine's state at its end, the acknowledgements so far, the drawing end, and
-- what this had drawn before the session.
pub record BookView : Type 0 where
  pub session : SessionHistory
  pub state : State
  pub acks : List Ack
  pub drawer : DrawerView
  pub before : List (List ℕ)

-- ---- what always holds

abbrev pub is_same_ack : Ack → Ack → Bool
is_same_ack a b = (a.client == b.client) && (a.line == b.line) && (a.lsn == b.lsn)

-- each acknowledgement is one that is owed, and none was made more often than it is owed
abbrev pub AreOwed : List Ack → List Ack → Type 0
AreOwed acks owed = (a : Ack) → count_by (is_same_ack a) acks ≤ count_by (is_same_ack a) owed

-- the closing mark, if it is drawn, stands among so many events
abbrev pub IsAmong : Option ℕ → ℕ → Type 0
IsAmong None count = Unit {0}
IsAmong (Some place) count = place ≤ count

-- The events are a history with this state at its end, the records that were drawn are those of the history, and the
-- acknowledgements are owed.
pub record IsBook (b : BookView) : Type 0 where
  pub session : IsSession b.session
  pub state : run b.session.scripts (begun b.session) b.session.events ≡ Some b.state
  pub closing : IsAmong b.session.closing (length b.session.events)
  pub opening : b.drawer.first + length b.before ≡ b.session.opening + 1
  pub drawn : b.drawer.drawn ≡ b.before ++ map spelling (drawn_records b.session)
  pub acks : AreOwed b.acks (acks_owed b.session)

-- one of the clients
abbrev pub IsClientOf : BookView → ℕ → Type 0
IsClientOf b c = (1 ≤ c) × (c ≤ length b.session.scripts)

-- ---- a new book

-- each entry has an LSN above 0 and below the next one
abbrev pub AreBefore : ℕ → List Entry → Type 0
AreBefore next es = AllByRecursion (λ (e : Entry). (0 < e.lsn) × (e.lsn < next)) es

-- a session without events, whose first record gets the LSN next
abbrev pub new_session : Scripts → Table StoredValue → ℕ → ℕ → SessionHistory
new_session scripts entries last next = record {
  scripts = scripts;
  entries = entries;
  last = last;
  opening = next - 1;
  events = [];
  closing = None;
}

-- a book at the next LSN of its drawing end
abbrev pub new_book : Scripts → Table StoredValue → ℕ → DrawerView → BookView
new_book scripts entries last drawer = record {
  session = new_session scripts entries last (next_drawn drawer);
  state = start (plain_maps entries) last (length scripts);
  acks = [];
  drawer = drawer;
  before = drawer.drawn;
}

-- ---- the next event of a client

abbrev pub event_at : ℕ → Line → Outcome → Option Event
event_at c line (Answers r after) = Some (record { client = c; line = line.number; what = what.Answered r })
event_at c line (Waits_for lock) = Some (record { client = c; line = line.number; what = what.Waits })
event_at c line Never = None

abbrev pub event_by : State → ℕ → Option Line → Option Event
event_by s c None = if is_active (client s c).tx then Some (record { client = c; line = 0; what = what.End }) else None
event_by s c (Some line) = event_at c line (outcome s c line.command)

-- what a step of the client is in this state, if anything is left of its script or its transaction
abbrev pub next_event : Scripts → State → ℕ → Option Event
next_event scripts s c = event_by s c (next_line scripts s c)

abbrev pub lock_of_wait : Outcome → Option Lock
lock_of_wait (Answers r after) = None
lock_of_wait (Waits_for lock) = Some lock
lock_of_wait Never = None

-- the lock for which the client's next command waits, if it waits
abbrev pub lock_wanted : Scripts → State → ℕ → Option Lock
lock_wanted scripts s c = option_and_then (λ (l : Line). lock_of_wait (outcome s c l.command)) (next_line scripts s c)

-- the script is at its end, and no transaction is active
abbrev pub is_finished : Scripts → State → ℕ → Bool
is_finished scripts s c = is_none (next_line scripts s c) && not (is_active (client s c).tx)

-- every client is finished
abbrev pub IsWhole : BookView → Type 0
IsWhole b = (c : ℕ) → IsClientOf b c → is_finished b.session.scripts b.state c ≡ true

abbrev pub is_wait : What → Bool
is_wait what.Waits = true
is_wait other = false

-- the bytes of the ids, the keys and the values
abbrev pub bytes_of_maps : Maps → ℕ
bytes_of_maps m = sum_by (λ (e : Place × List ℕ). length e.0.0 + (length e.0.1 + length e.1)) m

-- ---- what is prepared for a command

-- an abandon where the command draws no record of its own
abbrev pub prepared_action : Option Command → Action
prepared_action None = action.Abandon
prepared_action (Some x) = unwrap_or (action_of x) action.Abandon

abbrev pub prepared_bytes : Option Command → List ℕ
prepared_bytes x = spelling (without_numbers (prepared_action x))

abbrev pub next_command_of : BookView → ℕ → Option Command
next_command_of b c = option_map (λ (l : Line). l.command) (next_line b.session.scripts b.state c)

-- the record of the client's next command is prepared
abbrev pub IsPrepared : BookView → ℕ → Option (List ℕ) → Type 0
IsPrepared b c framed = framed ≡ Some (prepared_bytes (next_command_of b c))

-- ---- the answers of a step

-- all but the drawing end is as it was
pub record SameSession (old new : BookView) : Type 0 where
  pub session : new.session ≡ old.session
  pub state : new.state ≡ old.state
  pub acks : new.acks ≡ old.acks
  pub before : new.before ≡ old.before

-- nothing is changed but what the drawer knows as taken
pub record SameBook (old new : BookView) : Type 0 where
  pub session : new.session ≡ old.session
  pub state : new.state ≡ old.state
  pub acks : new.acks ≡ old.acks
  pub before : new.before ≡ old.before
  pub drawer : (new.drawer ≡ old.drawer) ⊎ HasLooked old.drawer new.drawer

abbrev pub moment_of : BookView → Event → Moment
moment_of b e = moment b.session.scripts b.state e

-- the LSN of the event: that of its record, or of the last one before it
abbrev pub event_lsn : BookView → Event → ℕ
event_lsn b e = (draw_step (drawing_of b.session) (Some (moment_of b e))).lsn

-- the history goes on with the event
pub record GoesOnWith (old : BookView) (e : Event) (new : BookView) : Type 0 where
  pub session : new.session ≡ record old.session { events = old.session.events ++ e ∷ [] }
  pub state : next old.session.scripts old.state e ≡ Some new.state
  pub acks : new.acks ≡ old.acks
  pub before : new.before ≡ old.before

-- the record of the action was drawn from the framed value, and the slip is for it; or none was
abbrev pub HasDrawn : BookView → ℕ → Option Action → BookView → Option SlotView → Option (List ℕ) → Option (List ℕ)
    → Type 0
HasDrawn old c None new slip before after = (slip ≡ None) × (new.drawer ≡ old.drawer) × (after ≡ before)
HasDrawn old c (Some a) new slip before after =
    DrewRecord old.drawer (spelling (record_for (drawing_of old.session) c a)) new.drawer
    × (slip ≡ Some (record { ring = old.drawer.ring; lsn = next_drawn old.drawer }))
    × (next_drawn old.drawer < NUMBER_LIMIT) × (after ≡ None)

-- the number of the snapshot that was answered, with its LSN
abbrev pub snapshot_by : ℕ → What → Option (ℕ × ℕ)
snapshot_by lsn (what.Answered (reply.Snapshot number)) = Some (number, lsn)
snapshot_by lsn other = None

abbrev pub ack_of : BookView → Event → Option ℕ
ack_of b e = if is_owed (moment_of b e) then Some (event_lsn b e) else None

-- the client's next event, which isn't a wait, has happened
pub record IsDone (old : BookView) (c : ℕ) (at_place at_line : ℕ) (owed : Option ℕ) (made : Option (ℕ × ℕ)) (e : Event)
    (new : BookView) : Type 0 where
  pub event : next_event old.session.scripts old.state c ≡ Some e
  pub answered : is_wait e.what ≡ false
  pub place : at_place ≡ length old.session.events
  pub line : at_line ≡ e.line
  pub ack : owed ≡ ack_of old e
  pub snapshot : made ≡ snapshot_by (event_lsn old e) e.what
  pub history : GoesOnWith old e new

-- a wait is noted once
abbrev pub NotesWait : BookView → ℕ → Event → BookView → Type 0
NotesWait old c e new =
    (is_none (holder_at old.state.holders c).waits ≡ true → GoesOnWith old e new × (new.drawer ≡ old.drawer))
    × (is_some (holder_at old.state.holders c).waits ≡ true → new ≡ old)

-- a record is to be drawn in the client's next event
pub record IsToDraw (b : BookView) (c : ℕ) : Type 0 where
  pub event : Event
  pub next : next_event b.session.scripts b.state c ≡ Some event
  pub draws : is_some (action_at (moment_of b event)) ≡ true

-- A step answers what the machine does, and each refusal has its cause and leaves all but what is known as taken.
abbrev pub StepAnswers : BookView → ℕ → Option (List ℕ) → Step → BookView → Option (List ℕ) → Type 0
StepAnswers old c before (step.Done place line slip ack snapshot) new after =
    (e : Event) × IsDone old c place line ack snapshot e new
    × HasDrawn old c (action_at (moment_of old e)) new slip before after
StepAnswers old c before step.Finished new after =
    (is_finished old.session.scripts old.state c ≡ true) × (new ≡ old) × (after ≡ before)
StepAnswers old c before (step.Waits holder) new after =
    (e : Event) × (next_event old.session.scripts old.state c ≡ Some e) × (is_wait e.what ≡ true)
    × (least_client (hinderers_at old.state.holders c (lock_wanted old.session.scripts old.state c)) ≡ Some holder)
    × NotesWait old c e new × (after ≡ before)
StepAnswers old c before (step.LogFull full) new after =
    IsToDraw old c × (full ≡ NUMBER_LIMIT) × (next_drawn old.drawer ≡ NUMBER_LIMIT) × (new ≡ old) × (after ≡ before)
StepAnswers old c before (step.NoRoom drawn known_taken) new after =
    IsToDraw old c × (next_drawn old.drawer ≢ NUMBER_LIMIT) × (drawn ≡ length old.drawer.drawn)
    × (known_taken ≡ new.drawer.known_taken) × (outstanding new.drawer ≡ new.drawer.capacity)
    × SameBook old new × HasLooked old.drawer new.drawer × (after ≡ before)
StepAnswers old c before step.Memory new after =
    (is_finished old.session.scripts old.state c ≡ false) × SameBook old new × (after ≡ before)

-- ---- the closing mark

-- the session with its closing mark behind the events so far
abbrev pub closed_session : SessionHistory → SessionHistory
closed_session h = record h { closing = Some (length h.events) }

-- the mark was drawn from the framed value, and all else is as it was
pub record IsMarked (old : BookView) (its : SlotView) (new : BookView) (handed left : Option (List ℕ)) : Type 0 where
  pub session : new.session ≡ closed_session old.session
  pub state : new.state ≡ old.state
  pub acks : new.acks ≡ old.acks
  pub before : new.before ≡ old.before
  pub drawn : HasDrawn old 0 (Some action.Mark) new (Some its) handed left

-- A mark is drawn, or no LSN is left, or the ring is full.
abbrev pub MarkAnswers : BookView → Option (List ℕ) → Marked → BookView → Option (List ℕ) → Type 0
MarkAnswers old before (marked.Done slip) new after = IsMarked old slip new before after
MarkAnswers old before (marked.LogFull full) new after =
    (full ≡ NUMBER_LIMIT) × (next_drawn old.drawer ≡ NUMBER_LIMIT) × (new ≡ old) × (after ≡ before)
MarkAnswers old before (marked.NoRoom drawn known_taken) new after =
    (next_drawn old.drawer ≢ NUMBER_LIMIT) × (drawn ≡ length old.drawer.drawn) × (known_taken ≡ new.drawer.known_taken)
    × (outstanding new.drawer ≡ new.drawer.capacity) × SameBook old new × HasLooked old.drawer new.drawer
    × (after ≡ before)

-- ---- acknowledgements

-- the acknowledgement that the client's last step other than a wait asks for, behind what was found so far
abbrev pub asked_of : ℕ → List Ack → Option Moment → ℕ → List Ack
asked_of c found None lsn = found
asked_of c found (Some m) lsn =
    if (m.event.client == c) && not (is_wait m.event.what) then ack_at lsn (Some m) else found

abbrev pub last_asked : ℕ → List DrawStep → List Ack
last_asked c steps = fold (λ found (t : DrawStep). asked_of c found t.moment t.lsn) [] steps

-- the client's last event other than a wait is to be acknowledged so, and isn't yet
pub record IsDue (b : BookView) (c : ℕ) (a : Ack) : Type 0 where
  pub last : last_asked c (draw_steps b.session) ≡ a ∷ []
  pub left : count_by (is_same_ack a) b.acks < count_by (is_same_ack a) (acks_owed b.session)

abbrev pub with_ack : BookView → Ack → BookView
with_ack b a = record b { acks = b.acks ++ a ∷ [] }
