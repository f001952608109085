-- What is known of a session that was closed.
use Rattle.std.specs.Prelude.{◌≡◌, ◌⊎◌, ℕ, ◌+◌, Option, None, Some, length, IsTrue}
use Rattle.std.specs.FinMap.{entries}
use Rattle.frs_types.specs.Records.{from_lowest}
use Rattle.frs_disk.specs.declared.disk.Disk.{Ghosts}
use Rattle.frs_disk.specs.Frames.{GoesOn, RemovesBelow}
use Rattle.frs_segment.specs.Segments.{Spells}
use Rattle.frs_recovery.specs.Sound.{IsReady}
use Rattle.frs_slots.specs.Views.{next_drawn}
use Rattle.frs_book.specs.Drawn.{acks_owed}
use Rattle.frs_book.specs.Books.{BookView, IsBook, closed_session}
use Rattle.frs_store.specs.declared.session.Closed.{Closed}
use Rattle.frs_store.specs.declared.stop.Stop.{Stop}
use Rattle.frs_store.specs.declared.store.Store.{Store}
use Rattle.frs_store.specs.Session.{SessionView, MissesAtMostOne, IsSettled, IsOfSession, SameStart, faults_of}
use Rattle.frs_store.specs.SessionEnd.{SessionEnd, IsSessionEnd, records_with}
use Rattle.frs_store.specs.Stops.{StopHasCause, StopMet}

-- ---- what a crash leaves of it

-- Behind which records of the store the session went on, and how it ended. Where nothing has stopped it, all is
-- durable.
pub record EndsOnReady {D : Type 0} (g : Ghosts D) (start : D) (c : Closed D) : Type 0 where
  pub «end» : SessionEnd
  pub spelled : Spells (entries (g.reads start)) (from_lowest 1 «end».before)
  pub session : «end».session ≡ c.book.session
  pub acks : «end».acks ≡ c.book.acks
  pub is : IsSessionEnd g start c.disk «end»
  pub all : c.stop ≡ None → «end».synced ≡ length (records_with «end».before «end».session)

-- of a session that began on a ready store
abbrev pub EndsSession : {D : Type 0} → Ghosts D → D → Closed D → Type 0
EndsSession g start c = IsTrue (g.tells start) → IsReady g start → EndsOnReady g start c

-- ---- how it was closed

-- What a session leaves of its book, where the disk's count is then this: the stop that was kept, and nothing more has
-- happened; or one met at the closing, with its cause; or all was written, with the closing mark.
pub record IsAtEnd {D : Type 0} (g : Ghosts D) (s : SessionView D) (book : BookView) (faults : ℕ)
    (stop : Option Stop) : Type 0 where
  pub session : (book.session ≡ s.store.book.session) ⊎ (book.session ≡ closed_session s.store.book.session)
  pub state : book.state ≡ s.store.book.state
  pub acks : book.acks ≡ s.store.book.acks
  pub owed : MissesAtMostOne (acks_owed book.session) book.acks
  pub kept : (old : Stop) → s.stop ≡ Some old → (stop ≡ Some old) × (faults ≡ faults_of g s.store)
      × (book.session ≡ s.store.book.session)
  pub met : s.stop ≡ None → (new : Stop) → stop ≡ Some new
      → StopMet (faults_of g s.store) faults s.store.journal.number book.session new
  pub all : stop ≡ None → IsSettled book × (book.session ≡ closed_session s.store.book.session)
      × (faults ≡ faults_of g s.store)

-- The same of a store, with what its writer tells of a stop. Where nothing has stopped the session, nothing was cut
-- short, and all is durable.
pub record IsStoreAtEnd {D : Type 0} (g : Ghosts D) (s : SessionView D) (new : Store D)
    (stop : Option Stop) : Type 0 where
  pub session : IsOfSession g new
  pub same : SameStart g s.store new
  pub at_end : IsAtEnd g s new.book (faults_of g new) stop
  pub cause : s.stop ≡ None → (met : Stop) → stop ≡ Some met
      → StopHasCause (faults_of g s.store) (faults_of g new) (next_drawn new.book.drawer) new.journal.writer met
  pub going : stop ≡ None → new.journal.writer.ended ≡ None
  pub durable : stop ≡ None → new.journal.writer.synced + 1 ≡ next_drawn new.book.drawer

-- A session was closed so. Where nothing has stopped it, the store is ready again if it was at the start.
pub record IsClosed {D : Type 0} (g : Ghosts D) (s : SessionView D) (c : Closed D) : Type 0 where
  pub frame : GoesOn g s.store.journal.writer.disk c.disk
  pub since : GoesOn g s.store.journal.start c.disk
  pub book : IsBook c.book
  pub ends : EndsSession g s.store.journal.start c
  pub at_end : IsAtEnd g s c.book (g.faults c.disk) c.stop
  pub removed : c.stop ≡ None → IsTrue (g.tells c.disk) → RemovesBelow g c.disk
  pub again : c.stop ≡ None → IsTrue (g.tells s.store.journal.start) → IsReady g s.store.journal.start
      → IsReady g c.disk
