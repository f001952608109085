-- What is known of a session once its client's commands were answered.
use Rattle.std.specs.Prelude.{◌≡◌, ◌++◌, List, Some, None}
use Rattle.frs_disk.specs.declared.disk.Disk.{Ghosts}
use Rattle.frs_history.specs.declared.event.Event.{Event}
use Rattle.frs_book.specs.Books.{IsWhole}
use Rattle.frs_store.specs.declared.stop.Stop.{Stop}
use Rattle.frs_store.specs.Session.{SessionView, SameStart, faults_of}
use Rattle.frs_store.specs.Stops.{StopMet}
use Rattle.frs_engine.specs.Promise.{AreOwn}

-- The client's own events stand behind those before.
pub record AnswersOwn {D : Type 0} (g : Ghosts D) (old new : SessionView D) : Type 0 where
  pub same : SameStart g old.store new.store
  pub more : List Event
  pub own : AreOwn more
  pub session : new.store.book.session
      ≡ record old.store.book.session { events = old.store.book.session.events ++ more }

-- All its commands are answered and the disk has not failed, or the session has stopped, with a cause.
pub record AnswersAll {D : Type 0} (g : Ghosts D) (old new : SessionView D) : Type 0 where
  pub own : AnswersOwn g old new
  pub whole : new.stop ≡ None → IsWhole new.store.book
  pub steady : new.stop ≡ None → faults_of g new.store ≡ faults_of g old.store
  pub met : (stop : Stop) → new.stop ≡ Some stop → StopMet (faults_of g old.store) (faults_of g new.store)
      new.store.journal.number new.store.book.session stop
