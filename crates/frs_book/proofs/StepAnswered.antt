-- Each kind of answer of a step, from what has changed of the ledger.
use Rattle.std.proofs.Common.{◌≡◌, ℕ, suc, zero, ◌+◌, ◌-◌, ◌<◌, ◌≤◌, Bool, true, false, cond, ◌&&◌}
use Rattle.std.proofs.Common.{List, [], ◌∷◌, ◌++◌, Option, Some, None, length, map, refl, sym, ap, ◌∙◌, subst, arith}
use Rattle.std.proofs.Common.{eq-eqb, option_map, option_to_list, is_some}
use Rattle.std.specs.Prelude.{slice_set, slice_get, slice_index_or}
use Rattle.std.proofs.lemmas.Option.{slice_get_within}
use Rattle.frs_types.specs.declared.record.Action.{Action}
use Rattle.frs_types.specs.declared.record.Action.TheVariants as action
use Rattle.frs_frame.specs.Spelling.{spelling, without_numbers}
use Rattle.frs_slots.specs.Views.{SlotView}
use Rattle.frs_history.specs.declared.command.Line.{Line}
use Rattle.frs_history.specs.declared.event.Ack.{Ack}
use Rattle.frs_history.specs.declared.event.Event.{Event}
use Rattle.frs_history.specs.declared.event.Reply.{Reply}
use Rattle.frs_history.specs.declared.event.What.TheVariants as what
use Rattle.frs_history.specs.Machine.{Client, next_line, outcome}
use Rattle.frs_history.specs.Machine.Outcome.{Answers}
use Rattle.frs_history.specs.Histories.{is_owed, is_owed_by}
use Rattle.frs_book.specs.declared.client_state.ClientState.{ClientState}
use Rattle.frs_book.specs.declared.client_state.TxState.{TxState}
use Rattle.frs_book.specs.declared.ledger.Ledger.{Ledger}
use Rattle.frs_book.specs.declared.room.Full.{Full}
use Rattle.frs_book.specs.declared.room.Full.TheVariants.{OfLsns, OfRecords}
use Rattle.frs_book.specs.declared.step.Step.TheVariants as step
use Rattle.frs_book.specs.Drawn.{begin_of, action_by, action_at, record_for, after_draw, ack_at}
use Rattle.frs_book.specs.Agreement.{has_words_if}
use Rattle.frs_book.specs.Books.{moment_of, event_lsn, IsToDraw, HasDrawn, snapshot_by, is_finished}
use Rattle.frs_book.specs.Room.{IsFull, step_if_full}
use Rattle.frs_book.specs.Ledgers.{client_in, begin_lsn, transaction_of, machine_state, book_of, scripts_of}
use Rattle.frs_book.specs.Ledgers.{client_at, drawing_in, HasChanges, script_at, lines_left, IsLedger, TakesStep, answered_state}
use Rattle.frs_book.proofs.NextEvents.{answered_event, action_now, answers_next}
use Rattle.frs_book.proofs.LedgerGoesOn.{HasGoneOn, HasRested, client_is, goes_on_with, still_ledger, rested_ledger}
use Rattle.frs_book.proofs.LedgerGoesOn.{rested_book, same_book}

-- ---- lines that are left

one_line_less : (scripts : List (List Line)) (ks : List ClientState) (c : ℕ) (k : ClientState) (line : Line) → c < length ks
    → slice_get (slice_index_or scripts c []) (client_in ks c).done ≡ Some line → k.done ≡ (client_in ks c).done + 1
    → lines_left scripts (slice_set ks c k) + 1 ≡ lines_left scripts ks
one_line_less [] ks c k line within at_line more = absurd cc
one_line_less (lines ∷ scripts) [] c k line within at_line more = absurd (omega (arith, within))
one_line_less (lines ∷ scripts) (j ∷ ks) zero k line within at_line more =
    let there : j.done < length lines = slice_get_within lines j.done line at_line in
    omega (arith, there, more)
one_line_less (lines ∷ scripts) (j ∷ ks) (suc c) k line within at_line more =
    let rest = one_line_less scripts ks c k line (omega (arith, within)) at_line more in
    omega (arith, rest)

pub same_lines_left : (scripts : List (List Line)) (ks : List ClientState) (c : ℕ) (k : ClientState)
    → k.done ≡ (client_in ks c).done → lines_left scripts (slice_set ks c k) ≡ lines_left scripts ks
same_lines_left [] ks c k same = refl
same_lines_left (lines ∷ scripts) [] c k same = refl
same_lines_left (lines ∷ scripts) (j ∷ ks) zero k same = ap (λ n. (length lines - n) + lines_left scripts ks) same
same_lines_left (lines ∷ scripts) (j ∷ ks) (suc c) k same =
    ap (λ n. (length lines - j.done) + n) (same_lines_left scripts ks c k same)

-- ---- an answer

-- The client's command is answered: what has changed, and what its record, if one was drawn, says of it.
pub record HasAnswered (old : Ledger) (c : ℕ) (line : Line) (r : Reply) (a : Option Action) (new : Ledger) : Type 0 where
  pub answers : outcome (machine_state old) c line.command ≡ Answers r (machine_state new)
  pub words : has_words_if a ≡ true
  pub opening : new.opening ≡ old.opening
  pub closing : new.closing ≡ old.closing
  pub acks : new.acks ≡ old.acks
  pub events : new.history.events ≡ old.history.events ++ answered_event c line r ∷ []
  pub tx : TxState
  pub owed : Option ℕ
  pub clients : new.clients.items
      ≡ slice_set old.clients.items c (answered_state (record (client_at old c) { tx = tx }) c line.number owed)
  pub entries : new.objects ≡ (after_draw (drawing_in old) c a).log.entries
  pub begin : begin_lsn tx ≡ begin_of (after_draw (drawing_in old) c a) c
  pub changes : HasChanges (after_draw (drawing_in old) c a).log.active tx
  pub owes : owed ≡ cond (is_owed_by (transaction_of (client_at old c).tx) (Some line.command) (what.Answered r))
      (Some (cond (is_some a) (drawing_in old).log.next ((drawing_in old).log.next - 1))) None
  pub last : new.last ≤ old.last + 1
  pub first : new.drawer.first ≡ old.drawer.first
  pub drawn : new.drawer.drawn
      ≡ old.drawer.drawn ++ map spelling (option_to_list (option_map (record_for (drawing_in old) c) a))
  pub abandon : new.abandon ≡ spelling (without_numbers action.Abandon)

module _ (old : Ledger) (kept : IsLedger old) (c : ℕ) (some : 1 ≤ c) (within : c < length old.clients.items) (line : Line)
    (at_line : next_line (scripts_of old) (machine_state old) c ≡ Some line) (r : Reply) (a : Option Action)
    (draws : action_by (machine_state old).maps (Some line.command) (what.Answered r) ≡ a) where
  abbrev e : Event
  e = answered_event c line r

  abbrev its_lsn : Option Action → ℕ
  its_lsn o = cond (is_some o) (drawing_in old).log.next ((drawing_in old).log.next - 1)

  action_is : action_at (moment_of (book_of old) e) ≡ a
  action_is = action_now (scripts_of old) (machine_state old) c line at_line (what.Answered r) ∙ draws

  lsn_is : event_lsn (book_of old) e ≡ its_lsn a
  lsn_is = ap its_lsn action_is

  owed_is : is_owed (moment_of (book_of old) e)
      ≡ is_owed_by (transaction_of (client_at old c).tx) (Some line.command) (what.Answered r)
  owed_is =
      ap (λ (k : Client). is_owed_by k.tx (moment_of (book_of old) e).command (what.Answered r)) (client_is old kept c)
      ∙ ap (λ (o : Option Line). is_owed_by (transaction_of (client_at old c).tx) (option_map (λ (l : Line). l.command) o) (what.Answered r)) at_line

  done_is : slice_get (script_at (scripts_of old) c) (client_at old c).done ≡ Some line
  done_is = ap (λ (k : Client). slice_get (script_at (scripts_of old) c) k.done) (sym (client_is old kept c)) ∙ at_line

  module _ (new : Ledger) (is : HasAnswered old c line r a new) where
    abbrev state : ClientState
    state = answered_state (record (client_at old c) { tx = is.tx }) c line.number is.owed

    abbrev its_ack : ℕ → Ack
    its_ack lsn = record { client = c; line = line.number; lsn = lsn }

    acks_by : (b : Bool) (lsn : ℕ) → cond b (its_ack lsn ∷ []) [] ≡ option_to_list (option_map its_ack (cond b (Some lsn) None))
    acks_by true lsn = refl
    acks_by false lsn = refl

    one_at_most : (b : Bool) (lsn : ℕ) → length (cond b (its_ack lsn ∷ []) []) ≤ 1
    one_at_most true lsn = omega arith
    one_at_most false lsn = omega arith

    asked : ack_at (event_lsn (book_of old) e) (Some (moment_of (book_of old) e)) ≡ option_to_list state.due
    asked =
        (λ i. cond (owed_is i) (its_ack (lsn_is i) ∷ []) [])
        ∙ acks_by (is_owed_by (transaction_of (client_at old c).tx) (Some line.command) (what.Answered r)) (its_lsn a)
        ∙ ap (λ o. option_to_list (option_map its_ack o)) (sym is.owes)

    pub answer_goes_on : HasGoneOn old e new
    answer_goes_on = record {
      some = some;
      within = within;
      opening = is.opening;
      closing = is.closing;
      acks = is.acks;
      events = is.events;
      next = (answers_next (scripts_of old) (machine_state old) c line at_line r (machine_state new) is.answers).1;
      words = ap has_words_if action_is ∙ is.words;
      state = state;
      clients = is.clients;
      entries = is.entries ∙ ap (λ o. (after_draw (drawing_in old) c o).log.entries) (sym action_is);
      begin = is.begin ∙ ap (λ o. begin_of (after_draw (drawing_in old) c o) c) (sym action_is);
      changes = subst (λ o. HasChanges (after_draw (drawing_in old) c o).log.active is.tx) (sym action_is) is.changes;
      due =
          ap (λ b. cond (b && true) (ack_at (event_lsn (book_of old) e) (Some (moment_of (book_of old) e))) (option_to_list (client_at old c).due))
          (eq-eqb c c refl)
          ∙ asked;
      left =
          let one = one_at_most (is_owed (moment_of (book_of old) e)) (event_lsn (book_of old) e) in
          let less = one_line_less ([] ∷ scripts_of old) old.clients.items c state line within done_is refl in
          let now = ap (lines_left ([] ∷ scripts_of old)) is.clients in
          omega (arith, one, less, now);
      last = is.last;
      first = is.first;
      drawn = is.drawn ∙ ap (λ o. old.drawer.drawn ++ map spelling (option_to_list (option_map (record_for (drawing_in old) c) o))) (sym action_is);
      abandon = is.abandon;
    }

    pub answer_step : (place : ℕ) (slip : Option SlotView) (made : Option (ℕ × ℕ)) (before after : Option (List ℕ))
        → place ≡ length old.history.events → made ≡ snapshot_by (its_lsn a) (what.Answered r)
        → HasDrawn (book_of old) c a (book_of new) slip before after
        → TakesStep old c before (step.Done place line.number slip is.owed made) new after
    answer_step place slip made before after at_place snapshot drew = record {
      kept = still_ledger old kept e new answer_goes_on;
      opening = is.opening;
      answers = (
        e,
        record {
          event = (answers_next (scripts_of old) (machine_state old) c line at_line r (machine_state new) is.answers).0;
          answered = refl;
          place = at_place;
          line = refl;
          ack = is.owes ∙ (λ i. cond (sym owed_is i) (Some (sym lsn_is i)) None);
          snapshot = snapshot ∙ ap (λ n. snapshot_by n (what.Answered r)) (sym lsn_is);
          history = goes_on_with old kept e new answer_goes_on;
        },
        subst (λ o. HasDrawn (book_of old) c o (book_of new) slip before after) (sym action_is) drew,
      );
    }

-- ---- refusals

module _ (old new : Ledger) (kept : IsLedger old) (c : ℕ) (rests : HasRested old new) (before : Option (List ℕ)) where
  same_opening : new.opening ≡ old.opening
  same_opening = ap (λ (a : Ledger). a.opening) rests.same

  -- there was no memory
  pub memory_step : is_finished (scripts_of old) (machine_state old) c ≡ false → TakesStep old c before step.Memory new before
  memory_step unfinished = record {
    kept = rested_ledger old new kept rests;
    opening = same_opening;
    answers = (unfinished, rested_book old new kept rests, refl);
  }

  -- no record can be drawn
  pub full_step : (full : Full) → IsFull old.drawer full new.drawer → IsToDraw (book_of old) c
      → TakesStep old c before (step_if_full full) new before
  full_step (OfLsns next) is draws = record {
    kept = rested_ledger old new kept rests;
    opening = same_opening;
    answers = (draws, is.0, is.1, same_book old new kept rests is.2, refl);
  }
  full_step (OfRecords drawn known_taken) is draws = record {
    kept = rested_ledger old new kept rests;
    opening = same_opening;
    answers = (draws, is.0, is.1, is.2, is.3, rested_book old new kept rests, is.4, refl);
  }
