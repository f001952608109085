-- What a wait and the end of a script leave of a ledger, and what the step answers then.
use Rattle.std.proofs.Common.{◌≡◌, ℕ, ◌<◌, ◌≤◌, true, false, cond, ◌&&◌}
use Rattle.std.proofs.Common.{List, [], ◌∷◌, ◌++◌, Option, Some, None, length, map, refl, sym, ap, ◌∙◌, subst, arith}
use Rattle.std.proofs.Common.{eq-eqb, option_map, option_to_list, is_some, true≢false, append-nil}
use Rattle.std.specs.Prelude.{slice_set, is_none}
use Rattle.std.proofs.lemmas.List.{set-get_or, get_or-set_same, map-set, length-map}
use Rattle.frs_types.specs.declared.record.Action.TheVariants.{Abandon}
use Rattle.frs_types.specs.declared.lock.Lock.{Lock}
use Rattle.frs_types.specs.Locks.{nobody, holder_at, hinderers_at, hinderers, with_wait}
use Rattle.frs_frame.specs.Spelling.{spelling}
use Rattle.frs_slots.specs.Views.{SlotView}
use Rattle.frs_locks.specs.Answers.{least_client}
use Rattle.frs_history.specs.declared.command.Command.{Command}
use Rattle.frs_history.specs.declared.command.Command.TheVariants as command
use Rattle.frs_history.specs.declared.command.Line.{Line}
use Rattle.frs_history.specs.declared.event.Ack.{Ack}
use Rattle.frs_history.specs.declared.event.Event.{Event}
use Rattle.frs_history.specs.declared.event.What.TheVariants as what
use Rattle.frs_history.specs.Machine.{Client, Transaction, client, next_line, outcome}
use Rattle.frs_history.specs.Machine.Transaction.{Outside, Active, Abandoned}
use Rattle.frs_history.specs.Machine.Outcome.{Waits_for}
use Rattle.frs_history.specs.Histories.{is_owed_by, is_active, state_at_end}
use Rattle.frs_book.specs.declared.client_state.ClientState.{ClientState}
use Rattle.frs_book.specs.declared.client_state.TxState.TheVariants as tx
use Rattle.frs_book.specs.declared.ledger.Ledger.{Ledger}
use Rattle.frs_book.specs.declared.step.Step.TheVariants as step
use Rattle.frs_book.specs.Drawn.{begin_of, action_by, action_at, record_for, after_draw, ack_at}
use Rattle.frs_book.specs.Books.{moment_of, event_lsn, HasDrawn}
use Rattle.frs_book.specs.Agreement.{has_words_if}
use Rattle.frs_book.specs.Ledgers.{HasChanges, client_of_state, machine_state, book_of, scripts_of}
use Rattle.frs_book.specs.Ledgers.{client_at, drawing_in, lines_left, IsLedger, TakesStep}
use Rattle.frs_book.proofs.NextEvents.{end_event, wait_event, action_now, ends_next, waits_next, lock_wanted_is, wait_is_noted}
use Rattle.frs_book.proofs.LedgerGoesOn.{HasGoneOn, HasRested, client_is, begin_is, goes_on_with, still_ledger, rested_ledger}
use Rattle.frs_book.proofs.LedgerGoesOn.{same_book, agrees}
use Rattle.frs_book.proofs.StepAnswered.{same_lines_left}

-- ---- neither is to be acknowledged

wait_unowed : (t : Transaction) (x : Option Command) → is_owed_by t x what.Waits ≡ false
wait_unowed Outside (Some (command.Put id key value)) = refl
wait_unowed Outside (Some (command.Remove id key)) = refl
wait_unowed Outside (Some (command.Delete id)) = refl
wait_unowed (Active sync changes) (Some command.Commit) = refl
wait_unowed t x = refl

end_unowed : (t : Transaction) (x : Option Command) → is_owed_by t x what.End ≡ false
end_unowed Outside (Some (command.Put id key value)) = refl
end_unowed Outside (Some (command.Remove id key)) = refl
end_unowed Outside (Some (command.Delete id)) = refl
end_unowed (Active sync changes) (Some command.Commit) = refl
end_unowed t x = refl

module _ (old : Ledger) (kept : IsLedger old) (c : ℕ) (some : 1 ≤ c) (within : c < length old.clients.items) where
  -- ---- a wait

  module _ (line : Line) (at_line : next_line (scripts_of old) (machine_state old) c ≡ Some line) (lock : Lock)
      (waits : outcome (machine_state old) c line.command ≡ Waits_for lock) where
    abbrev waiting : Event
    waiting = wait_event c line

    no_action : action_at (moment_of (book_of old) waiting) ≡ None
    no_action = action_now (scripts_of old) (machine_state old) c line at_line what.Waits

    -- the first wait of the command is an event
    module _ (first : is_none (holder_at old.locks c).waits ≡ true) (new : Ledger)
        (same : new ≡ record old { history = new.history; locks = new.locks })
        (events : new.history.events ≡ old.history.events ++ waiting ∷ [])
        (locks : new.locks ≡ with_wait old.locks c lock) where
      wait_goes_on : HasGoneOn old waiting new
      wait_goes_on = record {
        some = some;
        within = within;
        opening = ap (λ (a : Ledger). a.opening) same;
        closing = ap (λ (a : Ledger). a.closing) same;
        acks = ap (λ (a : Ledger). a.acks) same;
        events = events;
        next = wait_is_noted (scripts_of old) (machine_state old) c line at_line lock waits first
            ∙ ap (λ s. Some s) (sym (ap machine_state same ∙ λ i. record (machine_state old) { holders = locks i }));
        words = ap has_words_if no_action;
        state = client_at old c;
        clients = ap (λ (a : Ledger). a.clients.items) same ∙ sym (set-get_or old.clients.items c _);
        entries = ap (λ (a : Ledger). a.objects) same ∙ kept.entries
            ∙ ap (λ o. (after_draw (drawing_in old) c o).log.entries) (sym no_action);
        begin = sym (begin_is old kept c) ∙ ap (λ o. begin_of (after_draw (drawing_in old) c o) c) (sym no_action);
        changes = subst (λ o. HasChanges (after_draw (drawing_in old) c o).log.active (client_at old c).tx) (sym no_action) (kept.changes c);
        due = ap (λ b. cond (b && false) (ack_at (event_lsn (book_of old) waiting) (Some (moment_of (book_of old) waiting))) (option_to_list (client_at old c).due)) (eq-eqb c c refl);
        left =
            let none : length (ack_at (event_lsn (book_of old) waiting) (Some (moment_of (book_of old) waiting))) ≡ 0 =
            ap (λ b. length {A = Ack} (cond b (record { client = c; line = line.number; lsn = event_lsn (book_of old) waiting } ∷ []) []))
            (wait_unowed (client (machine_state old) c).tx (moment_of (book_of old) waiting).command) in
            let lines = ap (λ (a : Ledger). lines_left ([] ∷ scripts_of old) a.clients.items) same in
            omega (arith, none, lines);
        last = let is = ap (λ (a : Ledger). a.last) same in omega (arith, is);
        first = ap (λ (a : Ledger). a.drawer.first) same;
        drawn = ap (λ (a : Ledger). a.drawer.drawn) same ∙ sym (append-nil old.drawer.drawn)
            ∙ ap (λ o. old.drawer.drawn ++ map spelling (option_to_list (option_map (record_for (drawing_in old) c) o))) (sym no_action);
        abandon = ap (λ (a : Ledger). a.abandon) same ∙ kept.abandon;
      }

      pub first_wait_step : (d : ℕ) (framed : Option (List ℕ)) → least_client (hinderers old.locks c lock) ≡ Some d
          → TakesStep old c framed (step.Waits d) new framed
      first_wait_step d framed least = record {
        kept = still_ledger old kept waiting new wait_goes_on;
        opening = ap (λ (a : Ledger). a.opening) same;
        answers = (
          waiting,
          waits_next (scripts_of old) (machine_state old) c line at_line lock waits,
          refl,
          ap (λ w. least_client (hinderers_at old.locks c w)) (lock_wanted_is (scripts_of old) (machine_state old) c line at_line lock waits) ∙ least,
          (
            λ _. (goes_on_with old kept waiting new wait_goes_on, ap (λ (a : Ledger). a.drawer) same),
            λ noted. absurd (both_waits (holder_at old.locks c).waits first noted),
          ),
          refl,
        );
      }
        where
          both_waits : (w : Option Lock) → is_none w ≡ true → is_some w ≡ true → ⊥
          both_waits None a b = absurd (true≢false (sym b))
          both_waits (Some l) a b = absurd (true≢false (sym a))

    -- a wait that is noted already
    module _ (noted : is_none (holder_at old.locks c).waits ≡ false) (new : Ledger) (rests : HasRested old new)
        (drawer : new.drawer ≡ old.drawer) where
      pub noted_wait_step : (d : ℕ) (framed : Option (List ℕ)) → least_client (hinderers old.locks c lock) ≡ Some d
          → TakesStep old c framed (step.Waits d) new framed
      noted_wait_step d framed least = record {
        kept = rested_ledger old new kept rests;
        opening = ap (λ (a : Ledger). a.opening) rests.same;
        answers = (
          waiting,
          waits_next (scripts_of old) (machine_state old) c line at_line lock waits,
          refl,
          ap (λ w. least_client (hinderers_at old.locks c w)) (lock_wanted_is (scripts_of old) (machine_state old) c line at_line lock waits) ∙ least,
          (
            λ first. absurd (true≢false (sym first ∙ noted)),
            λ _. same_book old new kept rests drawer,
          ),
          refl,
        );
      }

  -- ---- the end of a script

  module _ (at_end : next_line (scripts_of old) (machine_state old) c ≡ None)
      (active : is_active (client (machine_state old) c).tx ≡ true) where
    abbrev ending : Event
    ending = end_event c

    end_action : action_at (moment_of (book_of old) ending) ≡ Some Abandon
    end_action = ap (λ (o : Option Line). action_by (machine_state old).maps (option_map (λ (l : Line). l.command) o) what.End) at_end

    abbrev ended_state : ClientState
    ended_state = record { done = (client_at old c).done; tx = tx.Abandoned; due = None }

    module _ (new : Ledger)
        (same : new ≡ record old { history = new.history; clients = new.clients; locks = new.locks; drawer = new.drawer })
        (events : new.history.events ≡ old.history.events ++ ending ∷ [])
        (clients : new.clients.items ≡ slice_set old.clients.items c ended_state)
        (locks : new.locks ≡ slice_set old.locks c nobody)
        (first : new.drawer.first ≡ old.drawer.first)
        (drawn : new.drawer.drawn ≡ old.drawer.drawn ++ spelling (record_for (drawing_in old) c Abandon) ∷ []) where
      state_is : machine_state new ≡ state_at_end (machine_state old) c
      state_is = ap machine_state same ∙ λ i. record {
        maps = (machine_state old).maps;
        last = old.last;
        clients = (ap (map client_of_state) clients ∙ map-set client_of_state old.clients.items c ended_state
            ∙ ap (λ n. slice_set (machine_state old).clients c (record { done = n; tx = Abandoned })) (sym (ap (λ (k : Client). k.done) (client_is old kept c)))) i;
        holders = locks i;
      }

      end_goes_on : HasGoneOn old ending new
      end_goes_on = record {
        some = some;
        within = within;
        opening = ap (λ (a : Ledger). a.opening) same;
        closing = ap (λ (a : Ledger). a.closing) same;
        acks = ap (λ (a : Ledger). a.acks) same;
        events = events;
        next = (ends_next (scripts_of old) (machine_state old) c at_end active).1 ∙ ap (λ s. Some s) (sym state_is);
        words = ap has_words_if end_action;
        state = ended_state;
        clients = clients;
        entries = ap (λ (a : Ledger). a.objects) same ∙ kept.entries
            ∙ ap (λ o. (after_draw (drawing_in old) c o).log.entries) (sym end_action);
        begin = sym (get_or-set_same (drawing_in old).begins c 0 0 count)
            ∙ ap (λ o. begin_of (after_draw (drawing_in old) c o) c) (sym end_action);
        changes = tt;
        due =
            ap (λ b. cond (b && true) (ack_at (event_lsn (book_of old) ending) (Some (moment_of (book_of old) ending))) (option_to_list (client_at old c).due)) (eq-eqb c c refl)
            ∙ ap (λ b. cond {A = List Ack} b (record { client = c; line = 0; lsn = event_lsn (book_of old) ending } ∷ []) [])
            (end_unowed (client (machine_state old) c).tx (moment_of (book_of old) ending).command);
        left =
            let none : length (ack_at (event_lsn (book_of old) ending) (Some (moment_of (book_of old) ending))) ≡ 0 =
            ap (λ b. length {A = Ack} (cond b (record { client = c; line = 0; lsn = event_lsn (book_of old) ending } ∷ []) []))
            (end_unowed (client (machine_state old) c).tx (moment_of (book_of old) ending).command) in
            let lines = ap (lines_left ([] ∷ scripts_of old)) clients ∙ same_lines_left ([] ∷ scripts_of old) old.clients.items c ended_state refl in
            omega (arith, none, lines);
        last = let is = ap (λ (a : Ledger). a.last) same in omega (arith, is);
        first = first;
        drawn = drawn ∙ ap (λ o. old.drawer.drawn ++ map spelling (option_to_list (option_map (record_for (drawing_in old) c) o))) (sym end_action);
        abandon = ap (λ (a : Ledger). a.abandon) same ∙ kept.abandon;
      }
        where
          count : c < length (drawing_in old).begins
          count =
              let begins = (agrees old kept).begins in
              let clients = (agrees old kept).clients in
              let mapped : length (map client_of_state old.clients.items) ≡ length old.clients.items =
              length-map old.clients.items client_of_state in
              omega (arith, within, begins, clients, mapped)

      pub end_step : (place : ℕ) (slip : SlotView) (before after : Option (List ℕ)) → place ≡ length old.history.events
          → HasDrawn (book_of old) c (Some Abandon) (book_of new) (Some slip) before after
          → TakesStep old c before (step.Done place 0 (Some slip) None None) new after
      end_step place slip before after at_place drew = record {
        kept = still_ledger old kept ending new end_goes_on;
        opening = ap (λ (a : Ledger). a.opening) same;
        answers = (
          ending,
          record {
            event = (ends_next (scripts_of old) (machine_state old) c at_end active).0;
            answered = refl;
            place = at_place;
            line = refl;
            ack = sym (ap (λ b. cond b (Some (event_lsn (book_of old) ending)) None)
                (end_unowed (client (machine_state old) c).tx (moment_of (book_of old) ending).command));
            snapshot = refl;
            history = goes_on_with old kept ending new end_goes_on;
          },
          subst (λ o. HasDrawn (book_of old) c o (book_of new) (Some slip) before after) (sym end_action) drew,
        );
      }
