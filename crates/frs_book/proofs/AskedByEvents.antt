-- What an event of a book asks for is owed then, and due; and nobody hinders a client that is alone.
use Rattle.std.proofs.Common.{◌≡◌, ◌≢◌, ⊎_elim, ℕ, suc, ◌+◌, ◌<◌, ◌≤◌, Bool, true, false, cond, not, ◌&&◌, ◌==◌, List, [], ◌∷◌, ◌++◌}
use Rattle.std.proofs.Common.{Option, Some, None, length, refl, sym, ap, ◌∙◌, subst, arith, eq-eqb, true≢false}
use Rattle.std.specs.Prelude.{count_by, filter, slice_get, is_none, option_and_then, is_some}
use Rattle.std.specs.List.{list_any, range_with_len}
use Rattle.std.proofs.lemmas.List.{get_or-set_other}
use Rattle.std.proofs.lemmas.List.Sums.{sum_by-append, fold_push}
use Rattle.std.proofs.lemmas.Bool.{and_from, cases_eq}
use Rattle.std.proofs.lemmas.Option.{same_Some}
use Rattle.frs_types.specs.declared.lock.Lock.{Lock}
use Rattle.frs_types.specs.declared.lock.Lock.TheVariants.{OnKey, OnMap}
use Rattle.frs_types.specs.Maps.{Maps, Change, at, table_after, table_after_all}
use Rattle.frs_types.specs.Maps.Change.{Set, Take, Clear}
use Rattle.frs_types.specs.Lawful.{LogState}
use Rattle.frs_types.specs.Locks.{Holder, holder_at, do_conflict, hinderers, hinderers_at, is_hindered_by, is_free, ring, with_lock, with_wait}
use Rattle.frs_history.specs.declared.command.Command.{Command}
use Rattle.frs_history.specs.declared.command.Command.TheVariants as command
use Rattle.frs_history.specs.declared.command.Line.{Line}
use Rattle.frs_history.specs.declared.event.Reply.{Reply}
use Rattle.frs_history.specs.declared.event.Reply.TheVariants as reply
use Rattle.frs_history.specs.declared.event.Ack.{Ack}
use Rattle.frs_history.specs.declared.event.Event.{Event}
use Rattle.frs_history.specs.declared.event.What.{What}
use Rattle.frs_history.specs.declared.event.What.TheVariants as what
use Rattle.frs_history.specs.Machine.{Client, State, Scripts, Transaction, Outcome, client, newcomer, next_line, maps_seen}
use Rattle.frs_history.specs.Machine.{answer_outcome, read_outcome, change_outcome, value_or_none, free_outcome, lock_needed}
use Rattle.frs_history.specs.Machine.{hindered_outcome, outcome_at, outcome}
use Rattle.frs_history.specs.Machine.Transaction.{Outside, Active, Abandoned}
use Rattle.frs_history.specs.Machine.Outcome.{Answers, Waits_for, Never}
use Rattle.frs_history.specs.Histories.{same_reply, if_answers, if_waits, if_next, is_active, state_at_end, next_by, next, run}
use Rattle.frs_book.specs.Drawn.{DrawStep, begin_of, draw_steps, drawing_of, draw_step, acks_owed, ack_at}
use Rattle.frs_book.specs.Agreement.{IsDrawnBy, begun}
use Rattle.frs_book.specs.Books.{BookView, IsBook, GoesOnWith, IsDue, asked_of, last_asked, is_same_ack, event_lsn, moment_of, is_wait}
use Rattle.frs_book.proofs.BookGoesOn.{book_agrees}
use Rattle.frs_book.proofs.OneMoreEvent.{acks_with_event, draws_one_more}

module _ (old new : BookView) (e : Event) (is : IsBook old) (on : GoesOnWith old e new) where
  pub owed_now : acks_owed new.session ≡ acks_owed old.session ++ ack_at (event_lsn old e) (Some (moment_of old e))
  owed_now = ap acks_owed on.session ∙ acks_with_event old.session e old.state is.state is.closing

  steps_now : draw_steps new.session ≡ draw_steps old.session ++ draw_step (drawing_of old.session) (Some (moment_of old e)) ∷ []
  steps_now = ap draw_steps on.session ∙ draws_one_more old.session e old.state is.state is.closing

  same_self : (a : Ack) → is_same_ack a a ≡ true
  same_self a =
      and_from ((a.client == a.client) && (a.line == a.line)) (a.lsn == a.lsn)
      (and_from (a.client == a.client) (a.line == a.line) (eq-eqb a.client a.client refl) (eq-eqb a.line a.line refl)) (eq-eqb a.lsn a.lsn refl)

  pub due_now : (a : Ack) → is_wait e.what ≡ false → ack_at (event_lsn old e) (Some (moment_of old e)) ≡ a ∷ [] → IsDue new e.client a
  due_now a answered asks = record {
    last =
        ap (last_asked e.client) steps_now
        ∙ fold_push (λ found (t : DrawStep). asked_of e.client found t.moment t.lsn) [] (draw_steps old.session) (draw_step (drawing_of old.session) (Some (moment_of old e)))
        ∙ ap (λ b. cond (b && not (is_wait e.what)) (ack_at (event_lsn old e) (Some (moment_of old e))) (last_asked e.client (draw_steps old.session))) (eq-eqb e.client e.client refl)
        ∙ ap (λ b. cond (not b) (ack_at (event_lsn old e) (Some (moment_of old e))) (last_asked e.client (draw_steps old.session))) answered
        ∙ asks;
    left =
        let made : count_by (is_same_ack a) new.acks ≡ count_by (is_same_ack a) old.acks = ap (count_by (is_same_ack a)) on.acks in
        let most : count_by (is_same_ack a) old.acks ≤ count_by (is_same_ack a) (acks_owed old.session) = is.acks a in
        let owed : count_by (is_same_ack a) (acks_owed new.session) ≡ count_by (is_same_ack a) (acks_owed old.session ++ a ∷ []) =
        ap (count_by (is_same_ack a)) (owed_now ∙ ap (λ l. acks_owed old.session ++ l) asks) in
        let sum : count_by (is_same_ack a) (acks_owed old.session ++ a ∷ []) ≡ count_by (is_same_ack a) (acks_owed old.session) + count_by (is_same_ack a) (a ∷ []) =
        sum_by-append (λ k. cond (is_same_ack a k) 1 0) (acks_owed old.session) (a ∷ []) in
        let one : count_by (is_same_ack a) (a ∷ []) ≡ 1 = ap (λ t. 0 + cond t 1 0) (same_self a) ∙ omega arith in
        omega (arith, made, most, owed, sum, one);
  }

-- ---- the compactor, which has no script, is never in a transaction

module _ (s : State) (c d : ℕ) (other : d ≢ c) where
  -- an answer leaves every other client as it was
  abbrev LeavesOther : Outcome → Type 0
  LeavesOther (Answers r t) = client t d ≡ client s d
  LeavesOther (Waits_for lock) = Unit {0}
  LeavesOther Never = Unit {0}

  answer_leaves : (m : Maps) (last : ℕ) (r : Reply) (tx : Transaction) (locks : List Lock)
      → LeavesOther (answer_outcome (record s { maps = m; last = last }) c r tx locks)
  answer_leaves m last r tx locks = get_or-set_other s.clients c d (record { done = (client s c).done + 1; tx = tx }) newcomer other

  change_leaves : (tx : Transaction) (lock : Lock) (y : Change (List ℕ)) → LeavesOther (change_outcome s c tx lock y)
  change_leaves Outside lock y = answer_leaves (table_after s.maps y) s.last reply.Done Outside []
  change_leaves (Active sync changes) lock y =
      answer_leaves s.maps s.last reply.Done (Active sync (changes ++ y ∷ [])) (with_lock lock (holder_at s.holders c).locks)
  change_leaves Abandoned lock y = tt

  read_leaves : (tx : Transaction) (lock : Lock) (r : Reply) → LeavesOther (read_outcome s c tx lock r)
  read_leaves Outside lock r = answer_leaves s.maps s.last r Outside []
  read_leaves (Active sync changes) lock r =
      answer_leaves s.maps s.last r (Active sync changes) (with_lock lock (holder_at s.holders c).locks)
  read_leaves Abandoned lock r = tt

  either_leaves : (tx : Transaction) (lock : Lock) (y : Change (List ℕ)) (r : Reply) (b : Bool)
      → LeavesOther (cond b (change_outcome s c tx lock y) (read_outcome s c tx lock r))
  either_leaves tx lock y r true = change_leaves tx lock y
  either_leaves tx lock y r false = read_leaves tx lock r

  abandoned_leaves : LeavesOther (answer_outcome s c reply.Abandoned Abandoned [])
  abandoned_leaves = answer_leaves s.maps s.last reply.Abandoned Abandoned []

  snapshot_leaves : (tx : Transaction)
      → LeavesOther (answer_outcome (record s { last = s.last + 1 }) c (reply.Snapshot (s.last + 1)) tx (holder_at s.holders c).locks)
  snapshot_leaves tx = answer_leaves s.maps (s.last + 1) (reply.Snapshot (s.last + 1)) tx (holder_at s.holders c).locks

  free_leaves : (tx : Transaction) (x : Command) → LeavesOther (free_outcome s c tx x)
  free_leaves Outside (command.Begin sync) = answer_leaves s.maps s.last reply.Done (Active sync []) []
  free_leaves Outside (command.Put id key value) = change_leaves Outside (OnKey id key) (Set id key value)
  free_leaves Outside (command.Remove id key) =
      either_leaves Outside (OnKey id key) (Take id key) reply.Absent (is_some (at (maps_seen s c) (id, key)))
  free_leaves Outside (command.Delete id) = change_leaves Outside (OnMap id) (Clear id)
  free_leaves Outside (command.Get id key) = read_leaves Outside (OnKey id key) (value_or_none (at (maps_seen s c) (id, key)))
  free_leaves Outside command.Commit = tt
  free_leaves Outside command.Snapshot = snapshot_leaves Outside
  free_leaves (Active sync changes) (command.Begin again) = tt
  free_leaves (Active sync changes) (command.Put id key value) =
      change_leaves (Active sync changes) (OnKey id key) (Set id key value)
  free_leaves (Active sync changes) (command.Remove id key) =
      either_leaves (Active sync changes) (OnKey id key) (Take id key) reply.Absent (is_some (at (maps_seen s c) (id, key)))
  free_leaves (Active sync changes) (command.Delete id) = change_leaves (Active sync changes) (OnMap id) (Clear id)
  free_leaves (Active sync changes) (command.Get id key) =
      read_leaves (Active sync changes) (OnKey id key) (value_or_none (at (maps_seen s c) (id, key)))
  free_leaves (Active sync changes) command.Commit =
      answer_leaves (table_after_all s.maps changes) s.last reply.Done Outside []
  free_leaves (Active sync changes) command.Snapshot = snapshot_leaves (Active sync changes)
  free_leaves Abandoned (command.Begin sync) = abandoned_leaves
  free_leaves Abandoned (command.Put id key value) = abandoned_leaves
  free_leaves Abandoned (command.Remove id key) = abandoned_leaves
  free_leaves Abandoned (command.Delete id) = abandoned_leaves
  free_leaves Abandoned (command.Get id key) = abandoned_leaves
  free_leaves Abandoned command.Commit = answer_leaves s.maps s.last reply.Abandoned Outside []
  free_leaves Abandoned command.Snapshot = abandoned_leaves

  hindered_leaves : (lock : Lock) (b : Bool)
      → LeavesOther (cond b (answer_outcome s c reply.Deadlock Abandoned []) (Waits_for lock))
  hindered_leaves lock true = answer_leaves s.maps s.last reply.Deadlock Abandoned []
  hindered_leaves lock false = tt

  lock_leaves : (x : Command) (o : Option Lock) → LeavesOther (outcome_at s c x o)
  lock_leaves x None = free_leaves (client s c).tx x
  lock_leaves x (Some lock) =
      elim (is_none (slice_get (hinderers s.holders c lock) 0)) as
      (λ b. LeavesOther (cond b (free_outcome s c (client s c).tx x) (hindered_outcome s c lock))) [
        | true ↦ free_leaves (client s c).tx x
        | false ↦ hindered_leaves lock (ring s.holders c lock)
      ]

  outcome_leaves : (x : Command) → LeavesOther (outcome s c x)
  outcome_leaves x = lock_leaves x (lock_needed (client s c).tx x)

  answered_leaves : (r : Reply) (o : Outcome) (t : State) → LeavesOther o → if_answers r o ≡ Some t → client t d ≡ client s d
  answered_leaves r (Answers given after) t leaves is =
      elim (same_reply r given) as (λ b. cond b (Some after) None ≡ Some t → client t d ≡ client s d) [
        | true ↦ λ now. ap (λ u. client u d) (sym (same_Some after t now)) ∙ leaves
        | false ↦ λ never. absurd cc
      ] is
  answered_leaves r (Waits_for lock) t leaves is = absurd cc
  answered_leaves r Never t leaves is = absurd cc

  waits_leaves : (o : Outcome) (t : State) → if_waits s c o ≡ Some t → client t d ≡ client s d
  waits_leaves (Answers given after) t is = absurd cc
  waits_leaves (Waits_for lock) t is =
      elim (is_none (holder_at s.holders c).waits) as
      (λ b. cond b (Some (record s { holders = with_wait s.holders c lock })) None ≡ Some t → client t d ≡ client s d) [
        | true ↦ λ now. ap (λ u. client u d) (sym (same_Some (record s { holders = with_wait s.holders c lock }) t now))
        | false ↦ λ never. absurd cc
      ] is
  waits_leaves Never t is = absurd cc

  -- of a command that is the next one
  next_leaves : (number : ℕ) (f : Command → Option State) (o : Option Line) (t : State)
      → ((x : Command) (u : State) → f x ≡ Some u → client u d ≡ client s d) → if_next number f o ≡ Some t → client t d ≡ client s d
  next_leaves number f None t all is = absurd cc
  next_leaves number f (Some line) t all is =
      elim (line.number == number) as (λ b. cond b (f line.command) None ≡ Some t → client t d ≡ client s d) [
        | true ↦ λ now. all line.command t now
        | false ↦ λ never. absurd cc
      ] is

  by_leaves : (scripts : Scripts) (number : ℕ) (w : What) (t : State) → next_by scripts s c number w ≡ Some t → client t d ≡ client s d
  by_leaves scripts number (what.Answered r) t is =
      next_leaves number (λ x. if_answers r (outcome s c x)) (next_line scripts s c) t
      (λ x u now. answered_leaves r (outcome s c x) u (outcome_leaves x) now) is
  by_leaves scripts number what.Waits t is =
      next_leaves number (λ x. if_waits s c (outcome s c x)) (next_line scripts s c) t
      (λ x u now. waits_leaves (outcome s c x) u now) is
  by_leaves scripts number what.End t is =
      elim (((number == 0) && is_none (next_line scripts s c)) && is_active (client s c).tx) as
      (λ b. cond b (Some (state_at_end s c)) None ≡ Some t → client t d ≡ client s d) [
        | true ↦ λ now. ap (λ u. client u d) (sym (same_Some (state_at_end s c) t now))
            ∙ get_or-set_other s.clients c d (record { done = (client s c).done; tx = Abandoned }) newcomer other
        | false ↦ λ never. absurd cc
      ] is
  by_leaves scripts number (what.Reappend id key) t is =
      elim ((((c == 0) && (number == 0)) && is_some (at s.maps (id, key))) && is_free s.holders (OnKey id key)) as
      (λ b. cond b (Some s) None ≡ Some t → client t d ≡ client s d) [
        | true ↦ λ now. ap (λ u. client u d) (sym (same_Some s t now))
        | false ↦ λ never. absurd cc
      ] is

-- an event of the compactor itself
own_leaves : (scripts : Scripts) (s t : State) (number : ℕ) (w : What) → is_active (client s 0).tx ≡ false
    → next_by scripts s 0 number w ≡ Some t → client t 0 ≡ client s 0
own_leaves scripts s t number (what.Answered r) idle is = absurd cc
own_leaves scripts s t number what.Waits idle is = absurd cc
own_leaves scripts s t number what.End idle is =
    let no : (((number == 0) && is_none (next_line scripts s 0)) && is_active (client s 0).tx) ≡ false =
    ap (λ b. ((number == 0) && is_none (next_line scripts s 0)) && b) idle ∙ never (number == 0) (is_none (next_line scripts s 0)) in
    absurd (none_some (state_at_end s 0) t (sym (ap (λ b. cond b (Some (state_at_end s 0)) None) no) ∙ is))
  where
    never : (a b : Bool) → ((a && b) && false) ≡ false
    never true true = refl
    never true false = refl
    never false b = refl

    none_some : (u v : State) → None ≡ Some v → ⊥
    none_some u v is = absurd cc
own_leaves scripts s t number (what.Reappend id key) idle is =
    elim ((((0 == 0) && (number == 0)) && is_some (at s.maps (id, key))) && is_free s.holders (OnKey id key)) as
    (λ b. cond b (Some s) None ≡ Some t → client t 0 ≡ client s 0) [
      | true ↦ λ now. ap (λ u. client u 0) (sym (same_Some s t now))
      | false ↦ λ never. absurd cc
    ] is

idle_next : (scripts : Scripts) (s t : State) (e : Event) → next scripts s e ≡ Some t → is_active (client s 0).tx ≡ false
    → is_active (client t 0).tx ≡ false
idle_next scripts s t e is idle = ⊎_elim
    (λ (own : 0 ≡ e.client). ap (λ (x : Client). is_active x.tx)
    (own_leaves scripts s t e.line e.what idle (ap (λ n. next_by scripts s n e.line e.what) own ∙ is)) ∙ idle)
    (λ other. ap (λ (x : Client). is_active x.tx) (by_leaves s e.client 0 other scripts e.line e.what t is) ∙ idle)
    (cases_eq 0 e.client)

idle_after : (scripts : Scripts) (es : List Event) (s t : State) → run scripts s es ≡ Some t → is_active (client s 0).tx ≡ false
    → is_active (client t 0).tx ≡ false
idle_after scripts [] s t is idle = ap (λ u. is_active (client u 0).tx) (sym (same_Some s t is)) ∙ idle
idle_after scripts (e ∷ es) s t is idle =
    elim (next scripts s e) as (λ o. next scripts s e ≡ o → option_and_then (λ u. run scripts u es) o ≡ Some t → is_active (client t 0).tx ≡ false) [
      | None ↦ λ none never. absurd cc
      | Some u ↦ λ some rest. idle_after scripts es u t rest (idle_next scripts s u e some idle)
    ] refl is

-- ---- who is alone

no_locks : (log : LogState) (begin : ℕ) (tx : Transaction) (h : Holder) → is_active tx ≡ false → IsDrawnBy log begin tx h → h.locks ≡ []
no_locks log begin Outside h idle drawn = drawn.1
no_locks log begin (Active sync changes) h idle drawn = absurd (true≢false idle)
no_locks log begin Abandoned h idle drawn = drawn.1

module _ (b : BookView) (is : IsBook b) (one : length b.session.scripts ≡ 1) where
  compactor_free : (holder_at b.state.holders 0).locks ≡ []
  compactor_free =
      no_locks (drawing_of b.session).log (begin_of (drawing_of b.session) 0) (client b.state 0).tx (holder_at b.state.holders 0)
      (idle_after b.session.scripts b.session.events (begun b.session) b.state is.state refl) ((book_agrees b is).drawn 0)

  pub alone_free : (lock : Option Lock) → hinderers_at b.state.holders 1 lock ≡ []
  alone_free None = refl
  alone_free (Some lock) =
      let count : length b.state.holders ≡ 2 = (book_agrees b is).holders ∙ ap suc one in
      ap (λ n. filter (is_hindered_by b.state.holders 1 lock) (range_with_len 0 n)) count
      ∙ ap (λ (ls : List Lock). filter_two (list_any (do_conflict lock) ls)) compactor_free
    where
      filter_two : Bool → List ℕ
      filter_two b = cond (not (0 == 1) && b) (0 ∷ []) []
