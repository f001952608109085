-- What a call of a session answers that had stopped.
use Rattle.std.proofs.Common.{◌≡◌, ℕ, List, [], Some, refl, sym, ap, ◌∙◌, arith, append-nil}
use Rattle.frs_disk.specs.declared.disk.Disk.{Ghosts}
use Rattle.frs_history.specs.declared.event.Event.{Event}
use Rattle.frs_store.specs.declared.stop.Stop.{Stop}
use Rattle.frs_store.specs.Session.{SessionView, IsUnderWay, GoesFurther, IsStopped}
use Rattle.frs_store.proofs.SessionCloses.{some_none, same_start}

module _ {D : Type 0} (g : Ghosts D) (s : SessionView D) (is : IsUnderWay g s) where
  -- the session had stopped
  pub stopped_before : (stop : Stop) → s.stop ≡ Some stop → IsStopped g s s stop
  stopped_before stop some = record {
    kept = some;
    again = λ old was. refl;
    cause = λ none. absurd (some_none (sym some ∙ none));
    met = λ none. absurd (some_none (sym some ∙ none));
  }

  pub no_further : (c : ℕ) → GoesFurther g c s.store s.store
  no_further c = record {
    same = same_start g s.store;
    more = [];
    own = tt;
    few = omega arith;
    session = ap (λ (es : List Event). record s.store.book.session { events = es }) (sym (append-nil s.store.book.session.events));
  }
