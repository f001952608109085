-- Each event that may come keeps the agreement, and so does the closing mark where no transaction is active.
use Rattle.std.proofs.Common.{◌≡◌, ℕ, zero, suc, ◌<◌, Bool, true, false, cond, ◌&&◌}
use Rattle.std.proofs.Common.{◌==◌, List, [], ◌∷◌, Option, Some, None, length, refl, sym, ap, ◌∙◌, subst, arith}
use Rattle.std.proofs.Common.{eqb-true, true≢false, option_map, is_some}
use Rattle.std.specs.Prelude.{slice_index_or, is_none}
use Rattle.std.specs.List.{list_any}
use Rattle.std.proofs.lemmas.Bool.{and_parts, or_left, or_right, false_from_ne_true, not-true}
use Rattle.std.proofs.lemmas.List.{set-get_or, get_or_past}
use Rattle.std.proofs.lemmas.Option.{same_Some}
use Rattle.std.proofs.lemmas.Slice.Eq.{bytes_eq-Decides}
use Rattle.frs_types.specs.declared.lock.Lock.{Lock}
use Rattle.frs_types.specs.declared.lock.Lock.TheVariants.{OnKey}
use Rattle.frs_types.specs.declared.record.Action.TheVariants as action
use Rattle.frs_types.specs.Maps.{at}
use Rattle.frs_types.specs.Locks.{holder_at, with_wait, is_free}
use Rattle.frs_types.specs.Lawful.{StoredValue}
use Rattle.frs_history.specs.declared.command.Command.{Command}
use Rattle.frs_history.specs.declared.command.Command.TheVariants as command
use Rattle.frs_history.specs.declared.command.Line.{Line}
use Rattle.frs_history.specs.declared.event.Event.{Event}
use Rattle.frs_history.specs.declared.event.Reply.{Reply}
use Rattle.frs_history.specs.declared.event.Reply.TheVariants as reply
use Rattle.frs_history.specs.declared.event.What.{What}
use Rattle.frs_history.specs.declared.event.What.TheVariants as what
use Rattle.frs_history.specs.Machine.{Client, Transaction, State, Scripts, Outcome, client, newcomer, next_line, outcome}
use Rattle.frs_history.specs.Machine.Transaction.{Outside, Active, Abandoned}
use Rattle.frs_history.specs.Machine.Outcome.{Answers, Waits_for, Never}
use Rattle.frs_history.specs.Histories.{same_reply, if_answers, if_waits, if_next, is_active, state_at_end, next_by, next}
use Rattle.frs_history.specs.Histories.{moment, commits_by, commits_of}
use Rattle.frs_book.specs.Drawn.{Drawing, begin_of, action_by, action_at, after_draw}
use Rattle.frs_book.specs.Agreement.{IsDrawnBy, Agreement, has_words_if, is_quiet}
use Rattle.frs_book.proofs.EachStored.{at-plain}
use Rattle.frs_book.proofs.Unhindered.{free_of_all}
use Rattle.frs_book.proofs.LogEffects.{agrees_idle, agrees_compacted, agrees_marked}
use Rattle.frs_book.proofs.LawfulDraws.{lawful_compaction, lawful_mark}
use Rattle.frs_book.proofs.CommandSteps.{IsStep, Keeps, outcome_keeps, abandon_step}
use Rattle.frs_book.proofs.NextEvents.{has_script, has_client}

-- ---- lists

none_at : {X : Type 0} (test : X → Bool) (d : X) → test d ≡ false → (xs : List X) → list_any test xs ≡ false → (i : ℕ)
    → test (slice_index_or xs i d) ≡ false
none_at test d own [] none i = ap test (get_or_past [] i d (omega arith)) ∙ own
none_at test d own (x ∷ xs) none zero =
    false_from_ne_true (test x) (λ is. true≢false (sym (or_left (test x) (list_any test xs) is) ∙ none))
none_at test d own (x ∷ xs) none (suc i) = none_at test d own xs
    (false_from_ne_true (list_any test xs) (λ is. true≢false (sym (or_right (test x) (list_any test xs) is) ∙ none))) i

-- ---- replies, and events that commit nothing

same_reply_is : (r given : Reply) → same_reply r given ≡ true → given ≡ r
same_reply_is reply.Done reply.Done is = refl
same_reply_is reply.Absent reply.Absent is = refl
same_reply_is (reply.Found a) (reply.Found b) is = ap (λ v. reply.Found v) (sym ((bytes_eq-Decides a b).0 is))
same_reply_is reply.Deadlock reply.Deadlock is = refl
same_reply_is reply.Abandoned reply.Abandoned is = refl
same_reply_is (reply.Snapshot a) (reply.Snapshot b) is = ap (λ n. reply.Snapshot n) (sym (eqb-true a b is))
same_reply_is r given is = absurd cc

waits_commits : (tx : Transaction) (x : Option Command) → commits_by tx x what.Waits ≡ []
waits_commits (Active sync changes) (Some command.Commit) = refl
waits_commits Outside (Some x) = refl
waits_commits tx x = refl

reappend_commits : (tx : Transaction) (x : Option Command) (id key : List ℕ) → commits_by tx x (what.Reappend id key) ≡ []
reappend_commits (Active sync changes) (Some command.Commit) id key = refl
reappend_commits Outside (Some x) id key = refl
reappend_commits tx x id key = refl

module _ (scripts : Scripts) (s : State) (d : Drawing) (agrees : Agreement scripts s d) where
  abbrev Step : ℕ → Option Line → What → State → Type 0
  Step c o w t = has_words_if (action_by s.maps (option_map (λ (l : Line). l.command) o) w) ≡ true
      → IsStep scripts s d c (action_by s.maps (option_map (λ (l : Line). l.command) o) w)
      (commits_by (client s c).tx (option_map (λ (l : Line). l.command) o) w) t

  -- ---- an answer

  answered_by : (c : ℕ) (x : Command) (r : Reply) (t : State) (within : c < suc (length scripts)) (o : Outcome)
      → Keeps scripts s d agrees c within (client s c).tx x o → if_answers r o ≡ Some t
      → has_words_if (action_by s.maps (Some x) (what.Answered r)) ≡ true
      → IsStep scripts s d c (action_by s.maps (Some x) (what.Answered r)) (commits_by (client s c).tx (Some x) (what.Answered r)) t
  answered_by c x r t within (Answers given after) keeps is =
      elim (same_reply r given) as (λ b. same_reply r given ≡ b → cond b (Some after) None ≡ Some t
      → has_words_if (action_by s.maps (Some x) (what.Answered r)) ≡ true → IsStep scripts s d c (action_by s.maps (Some x) (what.Answered r)) (commits_by (client s c).tx (Some x) (what.Answered r)) t) [
        | true ↦ λ same now.
            subst (λ q. has_words_if (action_by s.maps (Some x) (what.Answered q)) ≡ true → IsStep scripts s d c (action_by s.maps (Some x) (what.Answered q)) (commits_by (client s c).tx (Some x) (what.Answered q)) t)
            (same_reply_is r given same)
            (λ words. subst (IsStep scripts s d c (action_by s.maps (Some x) (what.Answered given)) (commits_by (client s c).tx (Some x) (what.Answered given)))
            (same_Some after t now) (keeps words))
        | false ↦ λ _ never. absurd cc
      ] refl is
  answered_by c x r t within (Waits_for lock) keeps is = absurd cc
  answered_by c x r t within Never keeps is = absurd cc

  answered_step : (c number : ℕ) (r : Reply) (t : State) (o : Option Line) → next_line scripts s c ≡ o
      → if_next number (λ x. if_answers r (outcome s c x)) o ≡ Some t → Step c o (what.Answered r) t
  answered_step c number r t None line is = absurd cc
  answered_step c number r t (Some l) line is =
      let within = has_script scripts s c l line in
      elim (l.number == number) as (λ b. cond b (if_answers r (outcome s c l.command)) None ≡ Some t
      → has_words_if (action_by s.maps (Some l.command) (what.Answered r)) ≡ true → IsStep scripts s d c (action_by s.maps (Some l.command) (what.Answered r)) (commits_by (client s c).tx (Some l.command) (what.Answered r)) t) [
        | true ↦ λ now. answered_by c l.command r t within (outcome s c l.command)
            (outcome_keeps scripts s d agrees c within l.command) now
        | false ↦ λ never. absurd cc
      ] is

  -- ---- a wait

  wait_agrees : (c : ℕ) (lock : Lock) → c < suc (length scripts)
      → Agreement scripts (record s { holders = with_wait s.holders c lock }) d
  wait_agrees c lock within =
      subst (λ cs. Agreement scripts (record s { clients = cs; holders = with_wait s.holders c lock }) d)
      (set-get_or s.clients c newcomer)
      (agrees_idle scripts s d agrees c within s.last (client s c) (record (holder_at s.holders c) { waits = Some lock })
      (still (begin_of d c) (client s c).tx (agrees.drawn c)) (λ l held. held))
    where
      still : (b : ℕ) (tx : Transaction) → IsDrawnBy d.log b tx (holder_at s.holders c)
          → IsDrawnBy d.log b tx (record (holder_at s.holders c) { waits = Some lock })
      still b Outside is = is
      still b Abandoned is = is
      still b (Active sync changes) is = is

  waits_by : (c : ℕ) (x : Option Command) (t : State) → c < suc (length scripts) → (o : Outcome) → if_waits s c o ≡ Some t
      → IsStep scripts s d c None [] t
  waits_by c x t within (Answers r after) is = absurd cc
  waits_by c x t within (Waits_for lock) is =
      elim (is_none (holder_at s.holders c).waits) as (λ b. cond b (Some (record s { holders = with_wait s.holders c lock })) None ≡ Some t
      → IsStep scripts s d c None [] t) [
        | true ↦ λ now. subst (IsStep scripts s d c None []) (same_Some _ _ now)
            (record { agrees = wait_agrees c lock within; lawful = tt; maps = refl; idle = λ _. refl })
        | false ↦ λ never. absurd cc
      ] is
  waits_by c x t within Never is = absurd cc

  waits_step : (c number : ℕ) (t : State) (o : Option Line) → next_line scripts s c ≡ o
      → if_next number (λ x. if_waits s c (outcome s c x)) o ≡ Some t → Step c o what.Waits t
  waits_step c number t None line is = absurd cc
  waits_step c number t (Some l) line is =
      elim (l.number == number) as (λ b. cond b (if_waits s c (outcome s c l.command)) None ≡ Some t
      → true ≡ true → IsStep scripts s d c None (commits_by (client s c).tx (Some l.command) what.Waits) t) [
        | true ↦ λ now _. subst (λ cs. IsStep scripts s d c None cs t) (sym (waits_commits (client s c).tx (Some l.command)))
            (waits_by c (Some l.command) t (has_script scripts s c l line) (outcome s c l.command) now)
        | false ↦ λ never. absurd cc
      ] is

  -- ---- the end of a script

  end_by : (c : ℕ) (within : c < suc (length scripts)) (tx : Transaction) → (client s c).tx ≡ tx → is_active tx ≡ true
      → IsStep scripts s d c (Some action.Abandon) (commits_by tx None what.End) (state_at_end s c)
  end_by c within Outside is active = absurd cc
  end_by c within Abandoned is active = absurd cc
  end_by c within (Active sync changes) is active =
      abandon_step scripts s d agrees c within (client s c).done sync changes
      (subst (λ tx. IsDrawnBy d.log (begin_of d c) tx (holder_at s.holders c)) is (agrees.drawn c))

  end_step : (c number : ℕ) (t : State) (o : Option Line) → next_line scripts s c ≡ o
      → cond ((number == 0) && is_none o && is_active (client s c).tx) (Some (state_at_end s c)) None ≡ Some t
      → Step c o what.End t
  end_step c number t o line is =
      elim ((number == 0) && is_none o && is_active (client s c).tx) as
      (λ b. ((number == 0) && is_none o && is_active (client s c).tx) ≡ b → cond b (Some (state_at_end s c)) None ≡ Some t
      → Step c o what.End t) [
        | true ↦ λ all now.
            let parts = and_parts ((number == 0) && is_none o) (is_active (client s c).tx) all in
            let none = (and_parts (number == 0) (is_none o) parts.0).1 in
            at_end o none (subst (IsStep scripts s d c (Some action.Abandon) (commits_by (client s c).tx None what.End)) (same_Some _ _ now)
            (end_by c (has_client scripts s c agrees.clients parts.1) (client s c).tx refl parts.1))
        | false ↦ λ _ never. absurd cc
      ] refl is
    where
      at_end : (o : Option Line) → is_none o ≡ true
          → IsStep scripts s d c (Some action.Abandon) (commits_by (client s c).tx None what.End) t → Step c o what.End t
      at_end None none step = λ _. step
      at_end (Some l) none step = absurd cc

  -- ---- an entry that is written again

  reappend_by : (id key : List ℕ) (o : Option StoredValue) → at d.log.entries (id, key) ≡ o → is_some (at s.maps (id, key)) ≡ true
      → is_free s.holders (OnKey id key) ≡ true
      → has_words_if (option_map (λ value. action.Compaction id key value) (at s.maps (id, key))) ≡ true
      → IsStep scripts s d 0 (option_map (λ value. action.Compaction id key value) (at s.maps (id, key))) [] s
  reappend_by id key o held there free words =
      let plain : at s.maps (id, key) ≡ option_map (λ (h : StoredValue). h.value) o =
      ap (λ m. at m (id, key)) agrees.maps ∙ at-plain (id, key) d.log.entries ∙ ap (option_map (λ (h : StoredValue). h.value)) held in
      subst (λ v. IsStep scripts s d 0 (option_map (λ value. action.Compaction id key value) v) [] s) (sym plain)
      (by_entry o held (sym (ap is_some plain) ∙ there)
      (sym (ap (λ v. has_words_if (option_map (λ value. action.Compaction id key value) v)) plain) ∙ words))
    where
      by_entry : (o : Option StoredValue) → at d.log.entries (id, key) ≡ o
          → is_some (option_map (λ (h : StoredValue). h.value) o) ≡ true
          → has_words_if (option_map (λ value. action.Compaction id key value) (option_map (λ (h : StoredValue). h.value) o)) ≡ true
          → IsStep scripts s d 0 (option_map (λ value. action.Compaction id key value) (option_map (λ (h : StoredValue). h.value) o)) [] s
      by_entry None held there words = absurd cc
      by_entry (Some h) held there words = record {
        agrees = subst (λ bs. Agreement scripts s (record { log = (after_draw d 0 (Some (action.Compaction id key h.value))).log; begins = bs }))
            (sym (set-get_or d.begins 0 0)) (agrees_compacted scripts s d agrees id key h held);
        lawful = lawful_compaction scripts s d agrees 0 id key h held (free_of_all s.holders (OnKey id key) free) words;
        maps = refl;
        idle = λ _. refl;
      }

  reappend_step : (c number : ℕ) (id key : List ℕ) (t : State)
      → cond ((c == 0) && (number == 0) && is_some (at s.maps (id, key)) && is_free s.holders (OnKey id key)) (Some s) None ≡ Some t
      → Step c (next_line scripts s c) (what.Reappend id key) t
  reappend_step c number id key t is =
      elim ((c == 0) && (number == 0) && is_some (at s.maps (id, key)) && is_free s.holders (OnKey id key)) as
      (λ b. ((c == 0) && (number == 0) && is_some (at s.maps (id, key)) && is_free s.holders (OnKey id key)) ≡ b
      → cond b (Some s) None ≡ Some t → Step c (next_line scripts s c) (what.Reappend id key) t) [
        | true ↦ λ all now.
            let parts = and_parts ((c == 0) && (number == 0) && is_some (at s.maps (id, key))) (is_free s.holders (OnKey id key)) all in
            let both = and_parts ((c == 0) && (number == 0)) (is_some (at s.maps (id, key))) parts.0 in
            let zeros = and_parts (c == 0) (number == 0) both.0 in
            subst (λ k. Step k (next_line scripts s k) (what.Reappend id key) t) (sym (eqb-true c 0 zeros.0))
            (subst (Step 0 (next_line scripts s 0) (what.Reappend id key)) (same_Some s t now)
            (λ words. subst (λ cs. IsStep scripts s d 0 (option_map (λ value. action.Compaction id key value) (at s.maps (id, key))) cs s)
            (sym (reappend_commits (client s 0).tx None id key))
            (reappend_by id key (at d.log.entries (id, key)) refl both.1 parts.1 words)))
        | false ↦ λ _ never. absurd cc
      ] refl is

  -- ---- any event

  by_what : (c number : ℕ) (w : What) (t : State) → next_by scripts s c number w ≡ Some t → Step c (next_line scripts s c) w t
  by_what c number (what.Answered r) t is = answered_step c number r t (next_line scripts s c) refl is
  by_what c number what.Waits t is = waits_step c number t (next_line scripts s c) refl is
  by_what c number (what.Reappend id key) t is = reappend_step c number id key t is
  by_what c number what.End t is = end_step c number t (next_line scripts s c) refl is

  -- An event that may come keeps the agreement.
  pub event_step : (e : Event) (t : State) → next scripts s e ≡ Some t → has_words_if (action_at (moment scripts s e)) ≡ true
      → IsStep scripts s d e.client (action_at (moment scripts s e)) (commits_of (moment scripts s e)) t
  event_step e t is words = by_what e.client e.line e.what t is words

  -- The closing mark keeps the agreement where no transaction is active.
  pub mark_step : is_quiet (Some s) ≡ true → IsStep scripts s d 0 (Some action.Mark) [] s
  mark_step quiet = record {
    agrees = subst (λ bs. Agreement scripts s (record { log = (after_draw d 0 (Some action.Mark)).log; begins = bs }))
        (sym (set-get_or d.begins 0 0))
        (agrees_marked scripts s d agrees (none_at (λ (x : Client). is_active x.tx) newcomer refl s.clients (not-true _ quiet)));
    lawful = lawful_mark scripts s d agrees 0;
    maps = refl;
    idle = λ _. refl;
  }
