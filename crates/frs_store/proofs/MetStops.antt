-- What the writer of a session's store tells of a stop shows in what the session drew: the next LSN is the one behind its
-- records, and it drew at least as many as further segments were made.
use Rattle.std.proofs.Common.{◌≡◌, ◌⊎◌, inl, inr, ℕ, ◌+◌, length, map, None, ap, ◌∙◌, arith, length-append}
use Rattle.std.proofs.lemmas.List.{length-map}
use Rattle.frs_types.specs.declared.limits.TheConstants.{NUMBER_LIMIT}
use Rattle.frs_disk.specs.declared.disk.Disk.{Ghosts}
use Rattle.frs_frame.specs.Spelling.{spelling}
use Rattle.frs_slots.specs.Views.{next_drawn}
use Rattle.frs_writer.specs.Places.{number_of_newest}
use Rattle.frs_book.specs.Drawn.{drawn_records}
use Rattle.frs_book.specs.Books.{IsBook}
use Rattle.frs_store.specs.declared.stop.Stop.{Stop}
use Rattle.frs_store.specs.declared.stop.Stop.TheVariants as stop
use Rattle.frs_store.specs.declared.store.Store.{Store}
use Rattle.frs_store.specs.Journal.{IsJournal}
use Rattle.frs_store.specs.Session.{IsOfSession}
use Rattle.frs_store.specs.Stops.{StopHasCause, HasUsedUp, StopMet, drawn_count}

module _ {D : Type 0} (g : Ghosts D) (s : Store D) (is : IsOfSession g s) (journal : IsJournal g s.journal) (book : IsBook s.book) where
  next_is : s.book.session.opening + drawn_count s.book.session ≡ next_drawn s.book.drawer
  next_is =
      let count : length s.book.drawer.drawn ≡ length s.book.before + length (drawn_records s.book.session) =
      ap length book.drawn ∙ length-append s.book.before (map spelling (drawn_records s.book.session))
      ∙ ap (λ n. length s.book.before + n) (length-map (drawn_records s.book.session) spelling) in
      omega (arith, count, book.opening)

  used_up : number_of_newest s.journal.writer.segments + 1 ≡ NUMBER_LIMIT → s.journal.writer.ended ≡ None → HasUsedUp s.journal.number s.book.session
  used_up last fine = omega (arith, last, journal.numbers fine, journal.counted fine, is.taken, is.opening, next_is)

  met_limit : (next_drawn s.book.drawer ≡ NUMBER_LIMIT) ⊎ ((number_of_newest s.journal.writer.segments + 1 ≡ NUMBER_LIMIT) × (s.journal.writer.ended ≡ None))
      → (s.book.session.opening + drawn_count s.book.session ≡ NUMBER_LIMIT) ⊎ HasUsedUp s.journal.number s.book.session
  met_limit (inl full) = inl (next_is ∙ full)
  met_limit (inr last) = inr (used_up last.0 last.1)

  pub stop_met : (before now : ℕ) (stop : Stop) → StopHasCause before now (next_drawn s.book.drawer) s.journal.writer stop
      → StopMet before now s.journal.number s.book.session stop
  stop_met before now stop.Disk cause = cause
  stop_met before now stop.Limit cause = (cause.0, met_limit cause.1)
  stop_met before now stop.Memory cause = cause
