-- What a step that was done makes of the store and asks for, and that a client that is alone never waits.
use Rattle.std.proofs.Common.{◌≡◌, ℕ, ◌+◌, ◌-◌, ◌<◌, ◌≤◌, Bool, true, false, cond, List, [], ◌∷◌, ◌++◌, length, map, Option, Some, None, is_some}
use Rattle.std.proofs.Common.{refl, sym, ap, ◌∙◌, subst, arith, append-nil, length-append}
use Rattle.std.specs.Prelude.{IfSome}
use Rattle.std.proofs.lemmas.Option.{same_Some}
use Rattle.frs_types.specs.declared.lock.Lock.{Lock}
use Rattle.frs_types.specs.declared.record.Action.{Action}
use Rattle.frs_types.specs.Locks.{hinderers_at}
use Rattle.frs_disk.specs.declared.disk.Disk.{Ghosts}
use Rattle.frs_slots.specs.Views.{DrawerView, SlotView, next_drawn}
use Rattle.frs_history.specs.declared.command.Line.{Line}
use Rattle.frs_history.specs.declared.event.Ack.{Ack}
use Rattle.frs_history.specs.declared.event.Event.{Event}
use Rattle.frs_history.specs.Machine.{State, Outcome, client, next_line, outcome}
use Rattle.frs_history.specs.Machine.Outcome.{Answers, Waits_for, Never}
use Rattle.frs_history.specs.Histories.{is_active, is_owed}
use Rattle.frs_locks.specs.Answers.{least_client}
use Rattle.frs_book.specs.declared.step.Step.{Step}
use Rattle.frs_book.specs.declared.step.Step.TheVariants as step
use Rattle.frs_book.specs.Drawn.{SessionHistory, drawing_of, drawn_records, action_at, acks_owed, ack_at}
use Rattle.frs_frame.specs.Spelling.{spelling}
use Rattle.frs_book.specs.Books.{BookView, IsBook, IsClientOf, IsDue, IsDone, HasDrawn, GoesOnWith, StepAnswers, event_by, event_at, event_lsn, moment_of, is_wait, with_ack, lock_wanted}
use Rattle.frs_book.proofs.NextEvents.{end_event}
use Rattle.frs_store.specs.declared.call.Call.TheVariants as call
use Rattle.frs_store.specs.declared.store.Store.{Store}
use Rattle.frs_store.specs.Session.{IsFilled, MissesAtMostOne, IsSettled, SameStart, GoesFurther, TakesStep, HasSlip, StoreAnswers, steps_left}
use Rattle.frs_store.proofs.StepsLeft.{fewer_steps}

-- ---- what is owed

pub misses_none : (b : BookView) → IsSettled b → MissesAtMostOne (acks_owed b.session) b.acks
misses_none b is = ([], is ∙ sym (append-nil b.acks), (let le : 0 ≤ 1 = omega arith in le))

-- ---- the only client

pub only_client : (b : BookView) (c : ℕ) → length b.session.scripts ≡ 1 → IsClientOf b c → c ≡ 1
only_client b c one is = omega (arith, one, is.0, is.1)

nobody_least : (holder : ℕ) (ds : List ℕ) → ds ≡ [] → least_client ds ≡ Some holder → ⊥
nobody_least holder ds none some = none_some (sym (ap least_client none) ∙ some)
  where
    none_some : None ≡ Some holder → ⊥
    none_some is = absurd cc

-- ---- the event of a step

event_client : (s : State) (c : ℕ) (o : Option Line) (e : Event) → event_by s c o ≡ Some e → e.client ≡ c
event_client s c None e is =
    elim (is_active (client s c).tx) as (λ b. cond b (Some (end_event c)) None ≡ Some e → e.client ≡ c) [
      | true ↦ λ now. ap (λ (x : Event). x.client) (sym (same_Some (end_event c) e now))
      | false ↦ λ never. absurd cc
    ] is
event_client s c (Some line) e is = by (outcome s c line.command) is
  where
    by : (o : Outcome) → event_at c line o ≡ Some e → e.client ≡ c
    by (Answers r after) is = ap (λ (x : Event). x.client) (sym (same_Some _ e is))
    by (Waits_for lock) is = ap (λ (x : Event). x.client) (sym (same_Some _ e is))
    by Never is = absurd cc

-- ---- a book whose drawing end knows more

book_with_drawer : (b : BookView) (d : DrawerView) → d.drawn ≡ b.drawer.drawn → d.first ≡ b.drawer.first → IsBook b
    → IsBook (record b { drawer = d })
book_with_drawer b d drawn first is = record {
  session = is.session;
  state = is.state;
  closing = is.closing;
  opening = ap (λ n. n + length b.before) first ∙ is.opening;
  drawn = drawn ∙ is.drawn;
  acks = is.acks;
}

-- a mark was drawn before the book
one_drawn : (b : BookView) → IsBook b → 1 ≤ next_drawn b.drawer
one_drawn b is =
    let opening : b.drawer.first + length b.before ≡ b.session.opening + 1 = is.opening in
    let count : length b.drawer.drawn ≡ length b.before + length (map spelling (drawn_records b.session)) =
    ap length is.drawn ∙ length-append b.before (map spelling (drawn_records b.session)) in
    omega (arith, opening, count)

-- ---- a step that was done

-- what is known of a book's events, whatever the book
pub record KnowsEvents : Type 0 where
  pub next : (b : BookView) → IsBook b → (drawing_of b.session).log.next ≡ next_drawn b.drawer
  pub owed : (old new : BookView) (e : Event) → IsBook old → GoesOnWith old e new
      → acks_owed new.session ≡ acks_owed old.session ++ ack_at (event_lsn old e) (Some (moment_of old e))
  pub due : (old new : BookView) (e : Event) (a : Ack) → IsBook old → GoesOnWith old e new → is_wait e.what ≡ false
      → ack_at (event_lsn old e) (Some (moment_of old e)) ≡ a ∷ [] → IsDue new e.client a

module _ {D : Type 0} (g : Ghosts D) (old : Store D) (c : ℕ) (before after : Option (List ℕ)) (place line : ℕ) (slip : Option SlotView)
    (ack : Option ℕ) (snapshot : Option (ℕ × ℕ)) (mid : Store D) (answer : Step) (stepped : TakesStep g old c before answer mid after)
    (is_done : answer ≡ step.Done place line slip ack snapshot) (is : IsBook old.book) (knows : KnowsEvents) where
  its : TakesStep g old c before (step.Done place line slip ack snapshot) mid after
  its = subst (λ a. TakesStep g old c before a mid after) is_done stepped

  abbrev roomy : BookView
  roomy = record old.book { drawer = its.free.drawer }

  roomy_is_book : IsBook roomy
  roomy_is_book = book_with_drawer old.book its.free.drawer its.drawn.0 its.drawn.1 is

  answers : StepAnswers roomy c before (step.Done place line slip ack snapshot) mid.book after
  answers = subst (λ b. StepAnswers b c before (step.Done place line slip ack snapshot) mid.book after) its.free_is its.answers

  abbrev event : Event
  event = answers.0

  done : IsDone roomy c place line ack snapshot event mid.book
  done = answers.1

  own : event.client ≡ c
  own = event_client old.book.state c (next_line old.book.session.scripts old.book.state c) event done.event

  abbrev lsn : ℕ
  lsn = event_lsn roomy event

  abbrev asked : List Ack
  asked = ack_at lsn (Some (moment_of roomy event))

  -- ---- what was drawn

  abbrev IsAfterDraw : Type 0
  IsAfterDraw = (lsn + 1 ≡ next_drawn mid.book.drawer) × (next_drawn mid.book.drawer ≤ next_drawn old.book.drawer + 1) × HasSlip mid slip

  after_draw : (a : Option Action) → action_at (moment_of roomy event) ≡ a → HasDrawn roomy c a mid.book slip before after → IsAfterDraw
  after_draw None none drew =
      let next : (drawing_of old.book.session).log.next ≡ next_drawn its.free.drawer = knows.next roomy roomy_is_book in
      let least : 1 ≤ next_drawn its.free.drawer = one_drawn roomy roomy_is_book in
      let last : lsn ≡ (drawing_of old.book.session).log.next - 1 =
      ap (λ (x : Option Action). cond (is_some x) (drawing_of old.book.session).log.next ((drawing_of old.book.session).log.next - 1)) none in
      let first : mid.book.drawer.first ≡ its.free.drawer.first = ap (λ (d : DrawerView). d.first) drew.1 in
      let count : length mid.book.drawer.drawn ≡ length its.free.drawer.drawn = ap (λ (d : DrawerView). length d.drawn) drew.1 in
      let same : length its.free.drawer.drawn ≡ length old.book.drawer.drawn = ap length its.drawn.0 in (
        omega (arith, next, least, last, first, count),
        omega (arith, first, count, same, its.drawn.1),
        subst (HasSlip mid) (sym drew.0) (subst (IsFilled mid) (sym (count ∙ same)) its.filled),
      )
  after_draw (Some a) some drew =
      let next : (drawing_of old.book.session).log.next ≡ next_drawn its.free.drawer = knows.next roomy roomy_is_book in
      let last : lsn ≡ (drawing_of old.book.session).log.next =
      ap (λ (x : Option Action). cond (is_some x) (drawing_of old.book.session).log.next ((drawing_of old.book.session).log.next - 1)) some in
      let first : mid.book.drawer.first ≡ its.free.drawer.first = drew.0.first in
      let count : length mid.book.drawer.drawn ≡ length its.free.drawer.drawn + 1 =
      ap length drew.0.drawn ∙ length-append its.free.drawer.drawn (_ ∷ []) in
      let same : length its.free.drawer.drawn ≡ length old.book.drawer.drawn = ap length its.drawn.0 in (
        omega (arith, next, last, first, count),
        omega (arith, first, count, same, its.drawn.1),
        subst (HasSlip mid) (sym drew.1) (
          sym drew.0.ring,
          omega (arith, first, count),
          (length old.book.drawer.drawn, its.filled, omega (arith, count, same)),
        ),
      )

  drawn : IsAfterDraw
  drawn = after_draw (action_at (moment_of roomy event)) refl answers.2

  pub to_fill : HasSlip mid slip
  to_fill = drawn.2

  -- ---- what it asks for

  abbrev its_ack : Ack
  its_ack = record { client = event.client; line = event.line; lsn = lsn }

  asked_is : (b : Bool) → is_owed (moment_of roomy event) ≡ b → asked ≡ cond b (its_ack ∷ []) []
  asked_is b owed = ap (λ k. cond k (its_ack ∷ []) []) owed

  ack_is : (b : Bool) → is_owed (moment_of roomy event) ≡ b → ack ≡ cond b (Some lsn) None
  ack_is b owed = done.ack ∙ ap (λ k. cond k (Some lsn) None) owed

  is_due : is_owed (moment_of roomy event) ≡ true → IsDue mid.book c its_ack
  is_due owed = subst (λ n. IsDue mid.book n its_ack) own
      (knows.due roomy mid.book event its_ack roomy_is_book done.history done.answered (asked_is true owed))

  abbrev IsToAck : ℕ → Type 0
  IsToAck n = (n + 1 ≡ next_drawn mid.book.drawer) × ((a : Ack) × IsDue mid.book c a × (a.lsn ≡ n))

  pub to_acknowledge : IfSome ack IsToAck
  to_acknowledge = by (is_owed (moment_of roomy event)) refl
    where
      by : (b : Bool) → is_owed (moment_of roomy event) ≡ b → IfSome ack IsToAck
      by true owed = subst (λ o. IfSome o IsToAck) (sym (ack_is true owed)) (drawn.0, (its_ack, is_due owed, refl))
      by false idle = subst (λ o. IfSome o IsToAck) (sym (ack_is false idle)) tt

  owed_now : IsSettled old.book → acks_owed mid.book.session ≡ old.book.acks ++ asked
  owed_now settled = knows.owed roomy mid.book event roomy_is_book done.history ∙ ap (λ l. l ++ asked) settled

  -- ---- before it is acknowledged

  pub misses_its : (new : Store D) → new.book ≡ mid.book → IsSettled old.book → MissesAtMostOne (acks_owed new.book.session) new.book.acks
  misses_its new same settled = subst (λ (b : BookView). MissesAtMostOne (acks_owed b.session) b.acks) (sym same)
      (asked, owed_now settled ∙ ap (λ l. l ++ asked) (sym done.history.acks), count (is_owed (moment_of roomy event)) refl)
    where
      count : (b : Bool) → is_owed (moment_of roomy event) ≡ b → length asked ≤ 1
      count true owed = let one : length asked ≡ 1 = ap length (asked_is true owed) in omega (arith, one)
      count false idle = let none : length asked ≡ 0 = ap length (asked_is false idle) in omega (arith, none)

  further : (new : Store D) → SameStart g old new → new.book.session ≡ mid.book.session → GoesFurther g c old new
  further new same session = record { same = same; more = event ∷ []; own = (own, tt); few = omega arith; session = session ∙ done.history.session }

  pub stopped_further : (new : Store D) → SameStart g old new → new.book ≡ mid.book → GoesFurther g c old new
  stopped_further new same book = further new same (ap (λ (b : BookView). b.session) book)

  -- ---- once it is

  module _ (new : Store D) (none : ack ≡ None → new.book ≡ mid.book)
      (made : (n : ℕ) (a : Ack) → ack ≡ Some n → IsDue mid.book c a → new.book ≡ with_ack mid.book a) where
    book_is : new.book ≡ record mid.book { acks = old.book.acks ++ asked }
    book_is = by (is_owed (moment_of roomy event)) refl
      where
        by : (b : Bool) → is_owed (moment_of roomy event) ≡ b → new.book ≡ record mid.book { acks = old.book.acks ++ asked }
        by true owed = made lsn its_ack (ack_is true owed) (is_due owed)
            ∙ λ i. record mid.book { acks = (ap (λ l. l ++ its_ack ∷ []) done.history.acks ∙ ap (λ l. old.book.acks ++ l) (sym (asked_is true owed))) i }
        by false idle = none (ack_is false idle)
            ∙ λ i. record mid.book { acks = (done.history.acks ∙ sym (append-nil old.book.acks) ∙ ap (λ l. old.book.acks ++ l) (sym (asked_is false idle))) i }

    pub done_settled : IsSettled old.book → IsSettled new.book
    done_settled settled =
        ap (λ (b : BookView). acks_owed b.session) book_is ∙ owed_now settled ∙ sym (ap (λ (b : BookView). b.acks) book_is)

    pub done_further : SameStart g old new → GoesFurther g c old new
    done_further same = further new same (ap (λ (b : BookView). b.session) book_is)

    pub done_answers : IsClientOf old.book c → StoreAnswers g old c (call.Done place) new
    done_answers client =
        let more : next_drawn new.book.drawer ≡ next_drawn mid.book.drawer = ap (λ (b : BookView). next_drawn b.drawer) book_is in
        let fewer = fewer_steps roomy mid.book event roomy_is_book done.history (omega (arith, own, client.0)) done.answered in (
          event,
          own,
          done.place,
          ap (λ (b : BookView). b.session.events) book_is ∙ ap (λ (h : SessionHistory). h.events) done.history.session,
          omega (arith, more, drawn.1),
          subst (λ n. n < steps_left old.book c) (sym (ap (λ (b : BookView). steps_left b c) book_is))
              (subst (λ n. steps_left mid.book n < steps_left old.book n) own fewer),
        )

-- ---- a step that waits

-- a client that is alone never waits
pub never_waits : {D : Type 0} (g : Ghosts D) (old mid : Store D) (c holder : ℕ) (before after : Option (List ℕ)) (answer : Step)
    → TakesStep g old c before answer mid after → answer ≡ step.Waits holder → IsBook old.book
    → ((b : BookView) → IsBook b → length b.session.scripts ≡ 1 → (lock : Option Lock) → hinderers_at b.state.holders 1 lock ≡ [])
    → length old.book.session.scripts ≡ 1 → IsClientOf old.book c → ⊥
never_waits g old mid c holder before after answer stepped waits is alone one client =
    let its = subst (λ a. TakesStep g old c before a mid after) waits stepped in
    let wanted = lock_wanted old.book.session.scripts old.book.state c in
    let answers = subst (λ b. StepAnswers b c before (step.Waits holder) mid.book after) its.free_is its.answers in
    nobody_least holder (hinderers_at old.book.state.holders c wanted)
    (ap (λ n. hinderers_at old.book.state.holders n wanted) (only_client old.book c one client) ∙ alone old.book is one wanted) answers.3
