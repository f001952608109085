-- What the step of a hindered client answers: it waits, noted once, or its transaction is abandoned.
use Rattle.std.proofs.Common.{◌≡◌, inl, ⊎_elim, ℕ, Bool, true, false, List, [], ◌∷◌, ◌++◌, Option, Some, None}
use Rattle.std.proofs.Common.{refl, sym, ap, ◌∙◌, subst, true≢false, Bor, is_some, not}
use Rattle.std.specs.Prelude.{slice_set, is_none, option_and_then, option_copied}
use Rattle.std.proofs.lemmas.List.{set-get_or}
use Rattle.frs_types.specs.declared.lock.Lock.{Lock}
use Rattle.frs_types.specs.Locks.{Holder, Holders, nobody, holder_at, hinderers, with_wait, ring, via}
use Rattle.frs_locks.specs.Answers.{least_client}
use Rattle.frs_history.specs.declared.command.Line.{Line}
use Rattle.frs_history.specs.HistoryView.{HistoryView}
use Rattle.frs_history.specs.Machine.{lock_needed, client, outcome}
use Rattle.frs_history.specs.Machine.Outcome.{Waits_for}
use Rattle.frs_book.specs.declared.ledger.Ledger.{Ledger}
use Rattle.frs_book.specs.declared.step.Step.{Step}
use Rattle.frs_book.specs.declared.step.Step.TheVariants as step
use Rattle.frs_book.specs.Books.{IsPrepared}
use Rattle.frs_book.specs.Inside.{IsDeadlock}
use Rattle.frs_book.specs.Ledgers.{session_of, machine_state, book_of, IsLedger, IsTurnAt, TakesStep}
use Rattle.frs_book.proofs.NextEvents.{wait_event, waits_outcome_is}
use Rattle.frs_book.proofs.LedgerGoesOn.{rested_ledger}
use Rattle.frs_book.proofs.OutsideCommands.{placed}
use Rattle.frs_book.proofs.OutsideSteps.{client_is_there}
use Rattle.frs_book.proofs.StepEnds.{first_wait_step, noted_wait_step}
use Rattle.frs_book.proofs.InsideOutcomes.{deadlock_is}
use Rattle.frs_book.proofs.PreparedDraws.{holder_is_there, reserved_rests, step_behind}

-- what a borrowed option tells of the one that it shows
pub none_told : (o : Option (Bor Lock)) (w : Option Lock) (none : Bool) → is_some o ≡ not none → option_copied o ≡ w
    → none ≡ is_none w
none_told None w true told same = ap is_none same
none_told None w false told same = absurd (true≢false (sym told))
none_told (Some lock) w true told same = absurd (true≢false told)
none_told (Some lock) w false told same = ap is_none same

module _ (old : Ledger) (c : ℕ) (line : Line) (turn : IsTurnAt old c line) (lock : Lock)
    (needs : lock_needed (client (machine_state old) c).tx line.command ≡ Some lock) where
  abbrev kept : IsLedger old
  kept = turn.turn.kept

  abbrev h : Holder
  h = holder_at old.locks c

  -- ---- a wait

  -- a wait that is noted is for the lock that the next command needs
  wait_stays : is_none h.waits ≡ false → with_wait old.locks c lock ≡ old.locks
  wait_stays noted =
      let is : h.waits ≡ Some lock = ⊎_elim
      (λ (none : h.waits ≡ None). absurd (true≢false (sym (ap is_none none) ∙ noted)))
      (λ wanted. wanted ∙ ap (option_and_then (λ (k : Line). lock_needed (client (machine_state old) c).tx k.command)) turn.at_line ∙ needs)
      (placed old kept c).waits in
      ap (λ w. slice_set old.locks c (record { locks = h.locks; waits = w })) (sym is) ∙ set-get_or old.locks c nobody

  module _ (d : ℕ) (least : least_client (hinderers old.locks c lock) ≡ Some d) (open_still : ring old.locks c lock ≡ false)
      (new : Ledger) (same : new ≡ record old { history = new.history; locks = new.locks })
      (locks : new.locks ≡ with_wait old.locks c lock) where
    waits : outcome (machine_state old) c line.command ≡ Waits_for lock
    waits = waits_outcome_is (machine_state old) c line.command lock needs d least open_still

    pub wait_step : (first : Bool) → first ≡ is_none h.waits
        → (first ≡ true → new.history.events ≡ old.history.events ++ wait_event c line ∷ [])
        → (first ≡ false → new.history.events ≡ old.history.events) → (framed : Option (List ℕ))
        → TakesStep old c framed (step.Waits d) new framed
    wait_step true is noted quiet framed =
        first_wait_step old kept c turn.turn.some (client_is_there old c turn.turn) line turn.at_line lock waits (sym is) new same
        (noted refl) locks d framed least
    wait_step false is noted quiet framed =
        let drawer : new.drawer ≡ old.drawer = ap (λ (a : Ledger). a.drawer) same in
        noted_wait_step old kept c turn.turn.some (client_is_there old c turn.turn) line turn.at_line lock waits (sym is) new
        (record {
          same = same ∙ λ i. record old { history = new.history; locks = (locks ∙ wait_stays (sym is)) i; drawer = (sym drawer) i };
          events = quiet refl;
          drawer = inl drawer;
        })
        drawer d framed least

  -- ---- a ring

  -- the client has found its ring, and there is room for the event
  module _ (now : HistoryView) (locks : Holders) (events : now.events ≡ old.history.events) (same : locks ≡ old.locks) where
    abbrev behind : Holders → Ledger
    behind hs = record old { history = now; locks = hs }

    turn_behind : IsTurnAt (behind old.locks) c line
    turn_behind = record {
      turn = record {
        kept = rested_ledger old (behind old.locks) kept (reserved_rests old now old.drawer events (inl refl));
        some = turn.turn.some;
        most = turn.turn.most;
      };
      at_line = turn.at_line;
    }

    pub ring_turn : IsTurnAt (behind locks) c line
    ring_turn = subst (λ hs. IsTurnAt (behind hs) c line) (sym same) turn_behind

    pub ring_closes : (d : ℕ) → ring old.locks c lock ≡ true → via old.locks c lock ≡ Some d
        → IsDeadlock (behind locks) c line.command
    ring_closes d closes back =
        let is = deadlock_is old kept c line.command lock (holder_is_there old c turn.turn) closes d needs back in
        subst (λ hs. IsDeadlock (behind hs) c line.command) (sym same) (record { inside = is.inside; answers = is.answers })

    pub ring_prepared : (framed : Option (List ℕ)) → IsPrepared (book_of old) c framed
        → IsPrepared (book_of (behind locks)) c framed
    ring_prepared framed is = subst (λ hs. IsPrepared (book_of (behind hs)) c framed) (sym same) is

    pub ring_step : (new : Ledger) (answer : Step) (before after : Option (List ℕ))
        → TakesStep (behind locks) c before answer new after → TakesStep old c before answer new after
    ring_step new answer before after takes =
        step_behind old (behind locks) new c before after answer
        (λ i. record (book_of old) {
          session = record (session_of old) { events = events i };
          state = record (machine_state old) { holders = same i };
        })
        refl takes
