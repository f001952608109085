-- The next event of a client and the state behind it, from the outcome of its command; and that outcome, from the lock
-- that the command needs and from who hinders the client.
use Rattle.std.proofs.Common.{◌≡◌, ⊎_elim, ℕ, suc, ◌<◌, Bool, true, false, cond, ◌&&◌, ◌==◌, not}
use Rattle.std.proofs.Common.{List, [], ◌∷◌, Option, Some, None, length, refl, sym, ap, ◌∙◌, arith, eq-eqb, true≢false}
use Rattle.std.proofs.Common.{option_map}
use Rattle.std.specs.Prelude.{slice_get, is_none, find, option_and_then}
use Rattle.std.proofs.lemmas.Bool.{cases_lt}
use Rattle.std.proofs.lemmas.List.{get_or_past}
use Rattle.std.proofs.lemmas.Option.{slice_get_within}
use Rattle.std.proofs.lemmas.Slice.Eq.{bytes_eq-Decides}
use Rattle.frs_types.specs.declared.lock.Lock.{Lock}
use Rattle.frs_types.specs.Locks.{holder_at, hinderers, is_reached, with_wait, ring, via}
use Rattle.frs_history.specs.declared.command.Command.{Command}
use Rattle.frs_history.specs.declared.command.Line.{Line}
use Rattle.frs_history.specs.declared.event.Event.{Event}
use Rattle.frs_history.specs.declared.event.Reply.{Reply}
use Rattle.frs_history.specs.declared.event.Reply.TheVariants as reply
use Rattle.frs_history.specs.declared.event.What.{What}
use Rattle.frs_history.specs.declared.event.What.TheVariants as what
use Rattle.frs_history.specs.Machine.{Client, State, Scripts, client, newcomer, next_line}
use Rattle.frs_history.specs.Machine.{free_outcome, hindered_outcome, outcome_at, outcome, lock_needed, answer_outcome}
use Rattle.frs_history.specs.Machine.Transaction.{Abandoned}
use Rattle.frs_history.specs.Machine.Outcome.{Answers, Waits_for}
use Rattle.frs_history.specs.Histories.{same_reply, if_answers, if_waits, if_next, is_active, state_at_end, next, moment}
use Rattle.frs_locks.specs.Answers.{least_client}
use Rattle.frs_book.specs.Drawn.{action_by, action_at}
use Rattle.frs_book.specs.Books.{event_by, event_at, next_event, lock_of_wait, lock_wanted, is_finished}

-- ---- who has a next line

pub has_script : (scripts : Scripts) (s : State) (c : ℕ) (line : Line) → next_line scripts s c ≡ Some line
    → c < suc (length scripts)
has_script scripts s c line is = ⊎_elim
    (λ lt. lt)
    (λ le.
    let none = ap (λ ls. slice_get ls (client s c).done) (get_or_past ([] ∷ scripts) c [] le) in
    let lt = slice_get_within [] (client s c).done line (sym none ∙ is) in
    absurd (omega arith))
    (cases_lt c (suc (length scripts)))

pub has_client : (scripts : Scripts) (s : State) (c : ℕ) → length s.clients ≡ suc (length scripts)
    → is_active (client s c).tx ≡ true → c < suc (length scripts)
has_client scripts s c clients active = ⊎_elim
    (λ lt. lt)
    (λ le.
    let none = ap (λ (x : Client). is_active x.tx) (get_or_past s.clients c newcomer (omega (arith, le, clients))) in
    absurd (true≢false (sym active ∙ none)))
    (cases_lt c (suc (length scripts)))

-- ---- the outcome of a command

is_same_reply : (r : Reply) → same_reply r r ≡ true
is_same_reply reply.Done = refl
is_same_reply reply.Absent = refl
is_same_reply (reply.Found value) = (bytes_eq-Decides value value).1 refl
is_same_reply reply.Deadlock = refl
is_same_reply reply.Abandoned = refl
is_same_reply (reply.Snapshot number) = eq-eqb number number refl

some_hinders : (ds : List ℕ) (d : ℕ) → least_client ds ≡ Some d → is_none (slice_get ds 0) ≡ false
some_hinders [] d is = absurd cc
some_hinders (e ∷ ds) d is = refl

some_found : (test : ℕ → Bool) (ds : List ℕ) (d : ℕ) → find test ds ≡ Some d → is_none (slice_get ds 0) ≡ false
some_found test [] d is = absurd cc
some_found test (e ∷ ds) d is = refl

module _ (s : State) (c : ℕ) (x : Command) where
  -- a command that needs no lock
  pub lockless_outcome_is : lock_needed (client s c).tx x ≡ None → outcome s c x ≡ free_outcome s c (client s c).tx x
  lockless_outcome_is needs = ap (outcome_at s c x) needs

  module _ (lock : Lock) (needs : lock_needed (client s c).tx x ≡ Some lock) where
    by_hinderers : (b : Bool) → is_none (slice_get (hinderers s.holders c lock) 0) ≡ b
        → outcome s c x ≡ cond b (free_outcome s c (client s c).tx x) (hindered_outcome s c lock)
    by_hinderers b is = ap (outcome_at s c x) needs
        ∙ ap (λ k. cond k (free_outcome s c (client s c).tx x) (hindered_outcome s c lock)) is

    -- nobody hinders the client
    pub free_outcome_is : hinderers s.holders c lock ≡ [] → outcome s c x ≡ free_outcome s c (client s c).tx x
    free_outcome_is free = by_hinderers true (ap (λ ds. is_none (slice_get ds 0)) free)

    -- a client hinders it, and no ring would be closed
    pub waits_outcome_is : (d : ℕ) → least_client (hinderers s.holders c lock) ≡ Some d → ring s.holders c lock ≡ false
        → outcome s c x ≡ Waits_for lock
    waits_outcome_is d least open_still = by_hinderers false (some_hinders (hinderers s.holders c lock) d least)
        ∙ ap (λ b. cond b (answer_outcome s c reply.Deadlock Abandoned []) (Waits_for lock)) open_still

    -- a ring would be closed
    pub deadlock_outcome_is : (d : ℕ) → via s.holders c lock ≡ Some d → ring s.holders c lock ≡ true
        → outcome s c x ≡ answer_outcome s c reply.Deadlock Abandoned []
    deadlock_outcome_is d back closed = by_hinderers false
        (some_found (λ e. is_reached (with_wait s.holders c lock) (length s.holders) e c) (hinderers s.holders c lock) d back)
        ∙ ap (λ b. cond b (answer_outcome s c reply.Deadlock Abandoned []) (Waits_for lock)) closed

-- ---- the next event

abbrev pub answered_event : ℕ → Line → Reply → Event
answered_event c line r = record { client = c; line = line.number; what = what.Answered r }

abbrev pub wait_event : ℕ → Line → Event
wait_event c line = record { client = c; line = line.number; what = what.Waits }

abbrev pub end_event : ℕ → Event
end_event c = record { client = c; line = 0; what = what.End }

module _ (scripts : Scripts) (s : State) (c : ℕ) where
  -- the script is at its end
  module _ (none : next_line scripts s c ≡ None) where
    pub ends_next : is_active (client s c).tx ≡ true
        → (next_event scripts s c ≡ Some (end_event c)) × (next scripts s (end_event c) ≡ Some (state_at_end s c))
    ends_next active = (
      ap (event_by s c) none ∙ ap (λ b. cond b (Some (end_event c)) None) active,
      ap (λ (l : Option Line). cond ((0 == 0) && is_none l && is_active (client s c).tx) (Some (state_at_end s c)) None) none
          ∙ ap (λ b. cond ((0 == 0) && true && b) (Some (state_at_end s c)) None) active,
    )

    pub is_finished_then : is_active (client s c).tx ≡ false → is_finished scripts s c ≡ true
    is_finished_then idle = ap (λ (l : Option Line). is_none l && not (is_active (client s c).tx)) none ∙ ap not idle

  module _ (line : Line) (at_line : next_line scripts s c ≡ Some line) where
    pub not_finished : is_finished scripts s c ≡ false
    not_finished = ap (λ (l : Option Line). is_none l && not (is_active (client s c).tx)) at_line

    -- what the event draws, from what the command is answered
    pub action_now : (w : What) → action_at (moment scripts s (record { client = c; line = line.number; what = w }))
        ≡ action_by s.maps (Some line.command) w
    action_now w = ap (λ (l : Option Line). action_by s.maps (option_map (λ (k : Line). k.command) l) w) at_line

    pub answers_next : (r : Reply) (t : State) → outcome s c line.command ≡ Answers r t
        → (next_event scripts s c ≡ Some (answered_event c line r)) × (next scripts s (answered_event c line r) ≡ Some t)
    answers_next r t is = (
      ap (event_by s c) at_line ∙ ap (event_at c line) is,
      ap (if_next line.number (λ x. if_answers r (outcome s c x))) at_line
          ∙ ap (λ b. cond b (if_answers r (outcome s c line.command)) None) (eq-eqb line.number line.number refl)
          ∙ ap (if_answers r) is
          ∙ ap (λ b. cond b (Some t) None) (is_same_reply r),
    )

    module _ (lock : Lock) (is : outcome s c line.command ≡ Waits_for lock) where
      pub waits_next : next_event scripts s c ≡ Some (wait_event c line)
      waits_next = ap (event_by s c) at_line ∙ ap (event_at c line) is

      pub lock_wanted_is : lock_wanted scripts s c ≡ Some lock
      lock_wanted_is = ap (λ (l : Option Line). option_and_then (λ (k : Line). lock_of_wait (outcome s c k.command)) l) at_line
          ∙ ap lock_of_wait is

      pub wait_is_noted : is_none (holder_at s.holders c).waits ≡ true
          → next scripts s (wait_event c line) ≡ Some (record s { holders = with_wait s.holders c lock })
      wait_is_noted first =
          ap (if_next line.number (λ x. if_waits s c (outcome s c x))) at_line
          ∙ ap (λ b. cond b (if_waits s c (outcome s c line.command)) None) (eq-eqb line.number line.number refl)
          ∙ ap (if_waits s c) is
          ∙ ap (λ b. cond b (Some (record s { holders = with_wait s.holders c lock })) None) first
