-- An answer to a client's command, and the end of its script, leave the client fewer steps.
use Rattle.std.proofs.Common.{◌≡◌, ℕ, suc, ◌+◌, ◌-◌, ◌*◌, ◌<◌, ◌≤◌, Bool, true, false, cond, ◌&&◌, ◌==◌, List, [], ◌∷◌, ◌++◌}
use Rattle.std.proofs.Common.{Option, Some, None, is_some, length, refl, sym, ap, ◌∙◌, subst, arith, true≢false, eqb-true}
use Rattle.std.specs.Prelude.{slice_get, slice_index_or, is_none}
use Rattle.std.proofs.lemmas.Bool.{and_parts}
use Rattle.std.proofs.lemmas.List.{get_or-set_same}
use Rattle.std.proofs.lemmas.Option.{same_Some, slice_get_within}
use Rattle.frs_types.specs.declared.lock.Lock.{Lock}
use Rattle.frs_types.specs.declared.lock.Lock.TheVariants.{OnKey, OnMap}
use Rattle.frs_types.specs.Maps.{Maps, Change, at, table_after, table_after_all}
use Rattle.frs_types.specs.Maps.Change.{Set, Take, Clear}
use Rattle.frs_types.specs.Locks.{holder_at, with_lock, hinderers, ring, is_free}
use Rattle.frs_history.specs.declared.command.Command.{Command}
use Rattle.frs_history.specs.declared.command.Command.TheVariants as command
use Rattle.frs_history.specs.declared.command.Line.{Line}
use Rattle.frs_history.specs.declared.event.Event.{Event}
use Rattle.frs_history.specs.declared.event.Reply.{Reply}
use Rattle.frs_history.specs.declared.event.Reply.TheVariants as reply
use Rattle.frs_history.specs.declared.event.What.{What}
use Rattle.frs_history.specs.declared.event.What.TheVariants as what
use Rattle.frs_history.specs.Machine.{Client, State, Transaction, Outcome, client, newcomer, next_line, maps_seen}
use Rattle.frs_history.specs.Machine.{answer_outcome, read_outcome, change_outcome, value_or_none, free_outcome, lock_needed}
use Rattle.frs_history.specs.Machine.{hindered_outcome, outcome_at, outcome}
use Rattle.frs_history.specs.Machine.Transaction.{Outside, Active, Abandoned}
use Rattle.frs_history.specs.Machine.Outcome.{Answers, Waits_for, Never}
use Rattle.frs_history.specs.Histories.{same_reply, if_answers, if_next, is_active, state_at_end, next_by}
use Rattle.frs_book.specs.Drawn.{SessionHistory, drawing_of}
use Rattle.frs_book.specs.Agreement.{Agreement}
use Rattle.frs_book.specs.Books.{BookView, IsBook, GoesOnWith, is_wait}
use Rattle.frs_book.proofs.BookGoesOn.{book_agrees}
use Rattle.frs_book.proofs.NextEvents.{has_script, has_client}
use Rattle.frs_store.specs.Session.{steps_left}

-- ---- the commands that are answered

module _ (s : State) (c : ℕ) (within : c < length s.clients) where
  -- an answer leaves one command more behind the client
  abbrev RaisesDone : Outcome → Type 0
  RaisesDone (Answers r t) = (client t c).done ≡ (client s c).done + 1
  RaisesDone (Waits_for lock) = Unit {0}
  RaisesDone Never = Unit {0}

  answer_raises : (m : Maps) (last : ℕ) (r : Reply) (tx : Transaction) (locks : List Lock)
      → RaisesDone (answer_outcome (record s { maps = m; last = last }) c r tx locks)
  answer_raises m last r tx locks =
      ap (λ (x : Client). x.done) (get_or-set_same s.clients c (record { done = (client s c).done + 1; tx = tx }) newcomer within)

  change_raises : (tx : Transaction) (lock : Lock) (y : Change (List ℕ)) → RaisesDone (change_outcome s c tx lock y)
  change_raises Outside lock y = answer_raises (table_after s.maps y) s.last reply.Done Outside []
  change_raises (Active sync changes) lock y =
      answer_raises s.maps s.last reply.Done (Active sync (changes ++ y ∷ [])) (with_lock lock (holder_at s.holders c).locks)
  change_raises Abandoned lock y = tt

  read_raises : (tx : Transaction) (lock : Lock) (r : Reply) → RaisesDone (read_outcome s c tx lock r)
  read_raises Outside lock r = answer_raises s.maps s.last r Outside []
  read_raises (Active sync changes) lock r =
      answer_raises s.maps s.last r (Active sync changes) (with_lock lock (holder_at s.holders c).locks)
  read_raises Abandoned lock r = tt

  -- a remove
  either_raises : (tx : Transaction) (lock : Lock) (y : Change (List ℕ)) (r : Reply) (b : Bool)
      → RaisesDone (cond b (change_outcome s c tx lock y) (read_outcome s c tx lock r))
  either_raises tx lock y r true = change_raises tx lock y
  either_raises tx lock y r false = read_raises tx lock r

  snapshot_raises : (tx : Transaction)
      → RaisesDone (answer_outcome (record s { last = s.last + 1 }) c (reply.Snapshot (s.last + 1)) tx (holder_at s.holders c).locks)
  snapshot_raises tx = answer_raises s.maps (s.last + 1) (reply.Snapshot (s.last + 1)) tx (holder_at s.holders c).locks

  abandoned_raises : (tx : Transaction) → RaisesDone (answer_outcome s c reply.Abandoned tx [])
  abandoned_raises tx = answer_raises s.maps s.last reply.Abandoned tx []

  free_raises : (tx : Transaction) (x : Command) → RaisesDone (free_outcome s c tx x)
  free_raises Outside (command.Begin sync) = answer_raises s.maps s.last reply.Done (Active sync []) []
  free_raises Outside (command.Put id key value) = change_raises Outside (OnKey id key) (Set id key value)
  free_raises Outside (command.Remove id key) =
      either_raises Outside (OnKey id key) (Take id key) reply.Absent (is_some (at (maps_seen s c) (id, key)))
  free_raises Outside (command.Delete id) = change_raises Outside (OnMap id) (Clear id)
  free_raises Outside (command.Get id key) = read_raises Outside (OnKey id key) (value_or_none (at (maps_seen s c) (id, key)))
  free_raises Outside command.Commit = tt
  free_raises Outside command.Snapshot = snapshot_raises Outside
  free_raises (Active sync changes) (command.Begin again) = tt
  free_raises (Active sync changes) (command.Put id key value) = change_raises (Active sync changes) (OnKey id key) (Set id key value)
  free_raises (Active sync changes) (command.Remove id key) =
      either_raises (Active sync changes) (OnKey id key) (Take id key) reply.Absent (is_some (at (maps_seen s c) (id, key)))
  free_raises (Active sync changes) (command.Delete id) = change_raises (Active sync changes) (OnMap id) (Clear id)
  free_raises (Active sync changes) (command.Get id key) =
      read_raises (Active sync changes) (OnKey id key) (value_or_none (at (maps_seen s c) (id, key)))
  free_raises (Active sync changes) command.Commit = answer_raises (table_after_all s.maps changes) s.last reply.Done Outside []
  free_raises (Active sync changes) command.Snapshot = snapshot_raises (Active sync changes)
  free_raises Abandoned (command.Begin sync) = abandoned_raises Abandoned
  free_raises Abandoned (command.Put id key value) = abandoned_raises Abandoned
  free_raises Abandoned (command.Remove id key) = abandoned_raises Abandoned
  free_raises Abandoned (command.Delete id) = abandoned_raises Abandoned
  free_raises Abandoned (command.Get id key) = abandoned_raises Abandoned
  free_raises Abandoned command.Commit = abandoned_raises Outside
  free_raises Abandoned command.Snapshot = abandoned_raises Abandoned

  hindered_raises : (lock : Lock) (b : Bool) → RaisesDone (cond b (answer_outcome s c reply.Deadlock Abandoned []) (Waits_for lock))
  hindered_raises lock true = answer_raises s.maps s.last reply.Deadlock Abandoned []
  hindered_raises lock false = tt

  lock_raises : (x : Command) (o : Option Lock) → RaisesDone (outcome_at s c x o)
  lock_raises x None = free_raises (client s c).tx x
  lock_raises x (Some lock) =
      elim (is_none (slice_get (hinderers s.holders c lock) 0)) as
      (λ b. RaisesDone (cond b (free_outcome s c (client s c).tx x) (hindered_outcome s c lock))) [
        | true ↦ free_raises (client s c).tx x
        | false ↦ hindered_raises lock (ring s.holders c lock)
      ]

  outcome_raises : (x : Command) → RaisesDone (outcome s c x)
  outcome_raises x = lock_raises x (lock_needed (client s c).tx x)

  raised_by : (r : Reply) (o : Outcome) (t : State) → RaisesDone o → if_answers r o ≡ Some t → (client t c).done ≡ (client s c).done + 1
  raised_by r (Answers given after) t raises is =
      elim (same_reply r given) as (λ b. cond b (Some after) None ≡ Some t → (client t c).done ≡ (client s c).done + 1) [
        | true ↦ λ now. ap (λ u. (client u c).done) (sym (same_Some after t now)) ∙ raises
        | false ↦ λ never. absurd cc
      ] is
  raised_by r (Waits_for lock) t raises is = absurd cc
  raised_by r Never t raises is = absurd cc

-- ---- the steps that are left

less_by_line : (len old new : ℕ) (active now : Bool) → old < len → new ≡ old + 1
    → 2 * (len - new) + cond now 1 0 < 2 * (len - old) + cond active 1 0
less_by_line len old new active true below more = omega (arith, below, more)
less_by_line len old new active false below more = omega (arith, below, more)

module _ (b : BookView) (c : ℕ) (clients : length b.state.clients ≡ suc (length b.session.scripts)) where
  abbrev LeavesLess : State → Type 0
  LeavesLess t = steps_left (record b { state = t }) c < steps_left b c

  answer_leaves_less : (number : ℕ) (r : Reply) (t : State) (o : Option Line) → next_line b.session.scripts b.state c ≡ o
      → if_next number (λ x. if_answers r (outcome b.state c x)) o ≡ Some t → LeavesLess t
  answer_leaves_less number r t None at_line is = absurd cc
  answer_leaves_less number r t (Some l) at_line is =
      elim (l.number == number) as (λ k. cond k (if_answers r (outcome b.state c l.command)) None ≡ Some t → LeavesLess t) [
        | true ↦ λ now.
            let lines = slice_index_or ([] ∷ b.session.scripts) c [] in
            let scripts = has_script b.session.scripts b.state c l at_line in
            let within : c < length b.state.clients = omega (arith, scripts, clients) in
            less_by_line (length lines) (client b.state c).done (client t c).done
            (is_active (client b.state c).tx) (is_active (client t c).tx) (slice_get_within lines (client b.state c).done l at_line)
            (raised_by b.state c within r (outcome b.state c l.command) t (outcome_raises b.state c within l.command) now)
        | false ↦ λ never. absurd cc
      ] is

  end_leaves_less : (number : ℕ) (t : State)
      → cond ((number == 0) && is_none (next_line b.session.scripts b.state c) && is_active (client b.state c).tx) (Some (state_at_end b.state c)) None ≡ Some t
      → LeavesLess t
  end_leaves_less number t is =
      elim ((number == 0) && is_none (next_line b.session.scripts b.state c) && is_active (client b.state c).tx) as
      (λ k. ((number == 0) && is_none (next_line b.session.scripts b.state c) && is_active (client b.state c).tx) ≡ k
      → cond k (Some (state_at_end b.state c)) None ≡ Some t → LeavesLess t) [
        | true ↦ λ all now. subst LeavesLess (same_Some (state_at_end b.state c) t now)
            (ended (and_parts ((number == 0) && is_none (next_line b.session.scripts b.state c)) (is_active (client b.state c).tx) all).1)
        | false ↦ λ _ never. absurd cc
      ] refl is
    where
      ended : is_active (client b.state c).tx ≡ true → LeavesLess (state_at_end b.state c)
      ended active =
          let len = length (slice_index_or ([] ∷ b.session.scripts) c []) in
          let scripts = has_client b.session.scripts b.state c clients active in
          let within : c < length b.state.clients = omega (arith, scripts, clients) in
          let now : client (state_at_end b.state c) c ≡ record { done = (client b.state c).done; tx = Abandoned } =
          get_or-set_same b.state.clients c (record { done = (client b.state c).done; tx = Abandoned }) newcomer within in
          let one : ◌≡◌ {A = ℕ} (cond (is_active (client b.state c).tx) 1 0) 1 = ap (λ k. cond {A = ℕ} k 1 0) active in
          subst (λ (x : Client). 2 * (len - x.done) + cond (is_active x.tx) 1 0 < steps_left b c) (sym now)
          (let less : 2 * (len - (client b.state c).done) + 0 < 2 * (len - (client b.state c).done) + cond (is_active (client b.state c).tx) 1 0 =
          omega (arith, one) in less)

  by_what : (number : ℕ) (w : What) (t : State) → 1 ≤ c → is_wait w ≡ false → next_by b.session.scripts b.state c number w ≡ Some t → LeavesLess t
  by_what number (what.Answered r) t some answered is =
      answer_leaves_less number r t (next_line b.session.scripts b.state c) refl is
  by_what number what.Waits t some answered is = absurd (true≢false answered)
  by_what number what.End t some answered is = end_leaves_less number t is
  by_what number (what.Reappend id key) t some answered is =
      elim ((c == 0) && (number == 0) && is_some (at b.state.maps (id, key)) && is_free b.state.holders (OnKey id key)) as
      (λ k. ((c == 0) && (number == 0) && is_some (at b.state.maps (id, key)) && is_free b.state.holders (OnKey id key)) ≡ k
      → cond k (Some b.state) None ≡ Some t → LeavesLess t) [
        | true ↦ λ all now.
            let there = and_parts ((c == 0) && (number == 0) && is_some (at b.state.maps (id, key))) (is_free b.state.holders (OnKey id key)) all in
            let both = and_parts ((c == 0) && (number == 0)) (is_some (at b.state.maps (id, key))) there.0 in
            let none : c ≡ 0 = eqb-true c 0 (and_parts (c == 0) (number == 0) both.0).0 in
            absurd (omega (arith, none, some))
        | false ↦ λ _ never. absurd cc
      ] refl is

pub fewer_steps : (old new : BookView) (e : Event) → IsBook old → GoesOnWith old e new → 1 ≤ e.client → is_wait e.what ≡ false
    → steps_left new e.client < steps_left old e.client
fewer_steps old new e is on some answered =
    let agrees : Agreement old.session.scripts old.state (drawing_of old.session) = book_agrees old is in
    let less = by_what old e.client agrees.clients e.line e.what new.state some answered on.state in
    let same : steps_left new e.client ≡ steps_left (record old { state = new.state }) e.client =
    ap (λ (h : SessionHistory). steps_left (record new { session = h }) e.client) on.session in
    subst (λ n. n < steps_left old e.client) (sym same) less
