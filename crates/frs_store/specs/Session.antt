-- A session on its way, as contracts see it, and what its calls answer.
use Rattle.std.specs.Prelude.{◌≡◌, ℕ, ◌+◌, ◌-◌, ◌*◌, ◌<◌, ◌≤◌, Bool, true, false, List, [], ◌∷◌, ◌++◌, length, Option, Some, None, IsTrue, slice_index_or, if◌then◌else◌}
use Rattle.std.specs.Prelude.{Result, Ok, Err}
use Rattle.std.specs.List.{AllByRecursion}
use Rattle.std.specs.FinMap.{entries}
use Rattle.frs_types.specs.declared.record.Record.{Record}
use Rattle.frs_types.specs.Records.{from_lowest}
use Rattle.frs_disk.specs.declared.disk.Disk.{Ghosts}
use Rattle.frs_disk.specs.Frames.{GoesOn}
use Rattle.frs_frame.specs.Spelling.{spelling}
use Rattle.frs_segment.specs.Segments.{Spells}
use Rattle.frs_recovery.specs.Sound.{IsReady}
use Rattle.frs_slots.specs.Views.{SlotView, AreOfOneRing, next_drawn, next_taken}
use Rattle.frs_history.specs.declared.event.Ack.{Ack}
use Rattle.frs_history.specs.declared.event.Event.{Event}
use Rattle.frs_history.specs.Machine.{client}
use Rattle.frs_history.specs.Histories.{is_active}
use Rattle.frs_book.specs.Drawn.{acks_owed}
use Rattle.frs_book.specs.declared.step.Step.{Step}
use Rattle.frs_book.specs.declared.step.Step.TheVariants as step
use Rattle.frs_book.specs.Books.{BookView, StepAnswers, is_finished, closed_session}
use Rattle.frs_store.specs.declared.call.Call.{Call}
use Rattle.frs_store.specs.declared.call.Call.TheVariants as call
use Rattle.frs_store.specs.declared.stop.Stop.{Stop}
use Rattle.frs_store.specs.declared.store.Store.{Store}
use Rattle.frs_store.specs.SessionEnd.{BeginsOn, opening_mark}
use Rattle.frs_store.specs.Stops.{StopHasCause, StopMet}

-- the answer that the ring is full
abbrev pub is_no_room : Step → Bool
is_no_room (step.NoRoom drawn known_taken) = true
is_no_room other = false

-- ---- a store that a session works on

-- Where the store was ready, the session goes on behind the records that its files spelled, with an opening mark.
pub record IsOnStore {D : Type 0} (g : Ghosts D) (s : Store D) : Type 0 where
  pub before : List Record
  pub begins : BeginsOn before s.book.session
  pub spelled : Spells (entries (g.reads s.journal.writer.opened)) (from_lowest 1 before)
  pub durable : s.journal.durable ≡ length before
  pub mark : s.book.before ≡ spelling (opening_mark before) ∷ []

-- The journal and the book are of one session of one client, whose opening mark stands behind what was durable at the
-- start, and what is acknowledged is durable.
pub record IsOfSession {D : Type 0} (g : Ghosts D) (s : Store D) : Type 0 where
  pub one_ring : AreOfOneRing s.book.drawer s.journal.writer.taker
  pub taken : next_taken s.journal.writer.taker ≤ next_drawn s.book.drawer
  pub clients : length s.journal.writer.noted ≡ length s.book.session.scripts
  pub one : length s.book.session.scripts ≡ 1
  pub opening : s.book.session.opening ≡ s.journal.durable + 1
  pub acked : AllByRecursion (λ (a : Ack). a.lsn ≤ s.journal.writer.synced) s.book.acks
  pub store : IsTrue (g.tells s.journal.start) → IsReady g s.journal.start → IsOnStore g s

-- So many records of the book at least were filled in turn, and nothing was cut short.
pub record IsFilled {D : Type 0} (s : Store D) (count : ℕ) : Type 0 where
  pub filled : count ≤ s.journal.writer.taker.sure
  pub going : s.journal.writer.ended ≡ None

-- each record that was drawn was filled
pub record IsGoing {D : Type 0} (g : Ghosts D) (s : Store D) : Type 0 where
  pub session : IsOfSession g s
  pub filled : IsFilled s (length s.book.drawer.drawn)

-- ---- what is owed

-- all that is owed was acknowledged, but for at most the last
abbrev pub MissesAtMostOne : List Ack → List Ack → Type 0
MissesAtMostOne owed acks = (rest : List Ack) × (owed ≡ acks ++ rest) × (length rest ≤ 1)

abbrev pub IsSettled : BookView → Type 0
IsSettled b = acks_owed b.session ≡ b.acks

-- ---- how far a client is

-- So many steps are left to the client at most: two for each line that isn't answered, and one where its transaction is
-- active.
abbrev pub steps_left : BookView → ℕ → ℕ
steps_left b c = 2 * (length (slice_index_or ([] ∷ b.session.scripts) c []) - (client b.state c).done)
    + (if is_active (client b.state c).tx then 1 else 0)

-- ---- what a call leaves of the store

abbrev pub faults_of : {D : Type 0} → Ghosts D → Store D → ℕ
faults_of g s = g.faults s.journal.writer.disk

-- the same journal on the same disk, some way further
pub record SameStart {D : Type 0} (g : Ghosts D) (old new : Store D) : Type 0 where
  pub start : new.journal.start ≡ old.journal.start
  pub number : new.journal.number ≡ old.journal.number
  pub durable : new.journal.durable ≡ old.journal.durable
  pub opened : new.journal.writer.opened ≡ old.journal.writer.opened
  pub frame : GoesOn g old.journal.writer.disk new.journal.writer.disk

-- and the session has at most one event more, which is the client's
pub record GoesFurther {D : Type 0} (g : Ghosts D) (c : ℕ) (old new : Store D) : Type 0 where
  pub same : SameStart g old new
  pub more : List Event
  pub own : AllByRecursion (λ (e : Event). e.client ≡ c) more
  pub few : length more ≤ 1
  pub session : new.book.session ≡ record old.book.session { events = old.book.session.events ++ more }

-- A call that was stopped has met the stop's cause; else the disk's count is as it was.
abbrev pub HasStopCause : {D T : Type 0} → Ghosts D → Store D → Store D → Result T Stop → Type 0
HasStopCause g old new (Ok value) = faults_of g new ≡ faults_of g old
HasStopCause g old new (Err stop) =
    StopHasCause (faults_of g old) (faults_of g new) (next_drawn new.book.drawer) new.journal.writer stop

-- ---- the steps of a store

-- the book but for its drawing end is another's
abbrev pub WithDrawer : BookView → BookView → Type 0
WithDrawer old new = new ≡ record old { drawer = new.drawer }

-- A step of the book was taken, behind some room that was made. It isn't refused for want of room.
pub record TakesStep {D : Type 0} (g : Ghosts D) (old : Store D) (c : ℕ) (before : Option (List ℕ)) (answer : Step)
    (new : Store D) (after : Option (List ℕ)) : Type 0 where
  pub free : BookView
  pub free_is : WithDrawer old.book free
  pub drawn : (free.drawer.drawn ≡ old.book.drawer.drawn) × (free.drawer.first ≡ old.book.drawer.first)
  pub answers : StepAnswers free c before answer new.book after
  pub room : is_no_room answer ≡ false
  pub session : IsOfSession g new
  pub filled : IsFilled new (length old.book.drawer.drawn)
  pub faults : faults_of g new ≡ faults_of g old

-- what was drawn last is to be filled by this slip, or everything was filled
abbrev pub HasSlip : {D : Type 0} → Store D → Option SlotView → Type 0
HasSlip s None = IsFilled s (length s.book.drawer.drawn)
HasSlip s (Some slip) = (slip.ring ≡ s.book.drawer.ring) × (slip.lsn + 1 ≡ next_drawn s.book.drawer)
    × ((count : ℕ) × IsFilled s count × (count + 1 ≡ length s.book.drawer.drawn))

-- the closing mark was drawn, and is to be filled by this slip
pub record HasMarked {D : Type 0} (old : Store D) (slip : SlotView) (new : Store D) : Type 0 where
  pub session : new.book.session ≡ closed_session old.book.session
  pub state : new.book.state ≡ old.book.state
  pub acks : new.book.acks ≡ old.book.acks
  pub to_fill : HasSlip new (Some slip)

abbrev pub StoreAnswers : {D : Type 0} → Ghosts D → Store D → ℕ → Call → Store D → Type 0
StoreAnswers g old c (call.Done place) new = (e : Event) × (e.client ≡ c) × (place ≡ length old.book.session.events)
    × (new.book.session.events ≡ old.book.session.events ++ e ∷ [])
    × (next_drawn new.book.drawer ≤ next_drawn old.book.drawer + 1)
    × (steps_left new.book c < steps_left old.book c)
StoreAnswers g old c call.Finished new = (is_finished old.book.session.scripts old.book.state c ≡ true)
    × WithDrawer old.book new.book
StoreAnswers g old c (call.Stopped stop) new = ⊥

-- ---- a session

pub record SessionView (D : Type 0) : Type 0 where
  pub store : Store D
  pub stop : Option Stop

-- The closing mark isn't drawn. While nothing has stopped it, all is filled, and all that is owed is acknowledged.
pub record IsUnderWay {D : Type 0} (g : Ghosts D) (s : SessionView D) : Type 0 where
  pub session : IsOfSession g s.store
  pub «open» : s.store.book.session.closing ≡ None
  pub going : s.stop ≡ None → IsFilled s.store (length s.store.book.drawer.drawn)
  pub owed : MissesAtMostOne (acks_owed s.store.book.session) s.store.book.acks
  pub settled : s.stop ≡ None → IsSettled s.store.book

-- one event of the client is done
pub record IsDoneFor {D : Type 0} (g : Ghosts D) (old new : SessionView D) (c place : ℕ) : Type 0 where
  pub going : (old.stop ≡ None) × (new.stop ≡ None)
  pub event : Event
  pub client : event.client ≡ c
  pub place_is : place ≡ length old.store.book.session.events
  pub events : new.store.book.session.events ≡ old.store.book.session.events ++ event ∷ []
  pub drawn : next_drawn new.store.book.drawer ≤ next_drawn old.store.book.drawer + 1
  pub fewer : steps_left new.store.book c < steps_left old.store.book c
  pub faults : faults_of g new.store ≡ faults_of g old.store

-- The stop that was kept is answered again, and nothing changes; or it is met in this call, and has its cause, in the
-- writer and in what the session drew.
pub record IsStopped {D : Type 0} (g : Ghosts D) (old new : SessionView D) (stop : Stop) : Type 0 where
  pub kept : new.stop ≡ Some stop
  pub again : (o : Stop) → old.stop ≡ Some o → new ≡ old
  pub cause : old.stop ≡ None → StopHasCause (faults_of g old.store) (faults_of g new.store)
      (next_drawn new.store.book.drawer) new.store.journal.writer stop
  pub met : old.stop ≡ None → StopMet (faults_of g old.store) (faults_of g new.store) new.store.journal.number
      new.store.book.session stop

abbrev pub CallAnswers : {D : Type 0} → Ghosts D → SessionView D → ℕ → Call → SessionView D → Type 0
CallAnswers g old c (call.Done place) new = IsDoneFor g old new c place
CallAnswers g old c call.Finished new = (is_finished old.store.book.session.scripts old.store.book.state c ≡ true)
    × WithDrawer old.store.book new.store.book × (old.stop ≡ None) × (new.stop ≡ None)
    × (faults_of g new.store ≡ faults_of g old.store)
CallAnswers g old c (call.Stopped stop) new = IsStopped g old new stop
