-- What the steps inside a transaction answer, once their parts have done what they say.
use Rattle.std.proofs.Common.{◌≡◌, ◌⊎◌, ℕ, ◌<◌, ◌≤◌, true, false, cond}
use Rattle.std.proofs.Common.{List, [], ◌∷◌, ◌++◌, Option, Some, None, length, map, refl, sym, ap, ◌∙◌, subst, arith, true≢false}
use Rattle.std.proofs.Common.{Result, Ok, Err}
use Rattle.std.proofs.Common.{append-nil, is_some, ◌-◌}
use Rattle.std.specs.Prelude.{slice_set, slice_index_or, IfOk, IfSome, OnOk, OnErr, is_err}
use Rattle.std.specs.List.{find}
use Rattle.std.proofs.lemmas.List.{get_or-set_same, set-set, length-set}
use Rattle.frs_types.specs.declared.limits.TheConstants.{NUMBER_LIMIT}
use Rattle.frs_types.specs.declared.lock.Lock.{Lock}
use Rattle.frs_types.specs.declared.lock.Lock.TheVariants.{OnKey, OnMap}
use Rattle.frs_types.specs.declared.record.Action.{Action}
use Rattle.frs_types.specs.declared.record.Action.TheVariants as action
use Rattle.frs_types.specs.declared.record.Record.{Record}
use Rattle.frs_types.specs.Locks.{Holders, hinderers, with_wait, is_reached}
use Rattle.frs_types.specs.Lawful.{StoredValue, lowest}
use Rattle.frs_types.specs.Maps.{Table, table_after_all}
use Rattle.frs_frame.specs.Spelling.{spelling, without_numbers}
use Rattle.frs_slots.specs.Views.{DrawerView, SlotView, HasLooked, next_drawn}
use Rattle.frs_objects.specs.declared.op.Op.{Op}
use Rattle.frs_objects.specs.Objects.{change_by}
use Rattle.frs_locks.specs.declared.want.Want.{Want}
use Rattle.frs_locks.specs.declared.want.Want.TheVariants.{Held, Waits, Ring}
use Rattle.frs_locks.specs.Answers.{IsAnswer, with_held, without, least_client}
use Rattle.frs_history.specs.declared.command.Command.TheVariants as command
use Rattle.frs_history.specs.declared.command.Line.{Line}
use Rattle.frs_history.specs.declared.event.Reply.{Reply}
use Rattle.frs_history.specs.declared.event.Reply.TheVariants as reply
use Rattle.frs_history.specs.declared.event.What.TheVariants as what
use Rattle.frs_history.specs.Machine.{Client, next_line, outcome, lock_needed}
use Rattle.frs_book.specs.declared.client_state.ClientState.{ClientState}
use Rattle.frs_book.specs.declared.client_state.TxState.{TxState}
use Rattle.frs_book.specs.declared.client_state.TxState.TheVariants as tx
use Rattle.frs_book.specs.declared.ledger.Ledger.{Ledger}
use Rattle.frs_book.specs.declared.room.Full.{Full}
use Rattle.frs_book.specs.declared.step.Step.{Step}
use Rattle.frs_book.specs.declared.step.Step.TheVariants as step
use Rattle.frs_book.specs.Drawn.{tx_for, named_for, action_of, action_by}
use Rattle.frs_book.specs.Books.{HasDrawn, IsPrepared, IsToDraw, SameBook, snapshot_by}
use Rattle.frs_book.specs.Room.{IsFull, HasDrawnOne, step_if_full}
use Rattle.frs_book.specs.Ledgers.{new_client, client_in, begin_lsn, has_begun, machine_state, book_of}
use Rattle.frs_book.proofs.ScriptPlaces.{is_inside}
use Rattle.frs_book.specs.Ledgers.{scripts_of, client_at, transaction_of, drawing_in, IsLedger, IsTurnAt, TakesStep, answered_state}
use Rattle.frs_book.specs.Inside.{changes_in, is_sync_tx, tx_with_change, with_change_of, with_no_changes, IsChangeInside, IsReadInside, IsDeadlock}
use Rattle.frs_book.proofs.NextEvents.{answered_event, not_finished}
use Rattle.frs_book.proofs.LedgerGoesOn.{HasRested, client_is, begin_is, rested_ledger, rested_book}
use Rattle.frs_book.proofs.OutsideCommands.{next_is}
use Rattle.frs_book.proofs.StepAnswered.{HasAnswered, answer_step, full_step}
use Rattle.frs_book.proofs.OutsideSteps.{client_is_there}
use Rattle.frs_book.proofs.PreparedDraws.{drew_spelled, prepared_for, next_still, client_read, noted_client}
use Rattle.frs_book.proofs.RecordDraws.{has_drawn, to_draw}
use Rattle.frs_book.proofs.InsideOutcomes.{commit_outcome}
use Rattle.frs_book.proofs.InsideSteps.{IsAnsweredIn, change_has_answered, read_has_answered, commit_has_answered}
use Rattle.frs_book.proofs.InsideSteps.{deadlock_has_answered, unmoved_ledger, unmoved_book}
use Rattle.frs_book.proofs.InsideSteps.{change_owes, read_owes, commit_owes, deadlock_owes}

-- ---- two clauses of a call's answer

pub both_when_refused : {V E P Q : Type 0} (r : Result V E) → is_err r ≡ true → OnErr r P → OnErr r Q → P × Q
both_when_refused (Ok v) err p q = absurd (true≢false (sym err))
both_when_refused (Err e) err p q = (p, q)

pub both_when_done : {V E P Q : Type 0} (r : Result V E) → is_err r ≡ false → OnOk r P → OnOk r Q → P × Q
both_when_done (Ok v) ok p q = (p, q)
both_when_done (Err e) ok p q = absurd (true≢false ok)

-- ---- locks

-- a client that nobody hinders gets the lock
pub lock_is_held : {E : Type 0} (hs after : Holders) (c : ℕ) (lock : Lock) (r : Result Want E) → hinderers hs c lock ≡ [] → is_err r ≡ false
    → IfOk r (λ want. IsAnswer hs c lock want after) → after ≡ with_held hs c lock
lock_is_held hs after c lock (Ok Held) free ok is = is.1
lock_is_held hs after c lock (Ok (Waits d)) free ok is =
    absurd (true≢false (sym (ap is_some (sym (ap least_client free) ∙ is.0))))
lock_is_held hs after c lock (Ok (Ring d)) free ok is =
    absurd (true≢false (sym (ap is_some (sym (ap (find (λ e. is_reached (with_wait hs c lock) (length hs) e c)) free) ∙ is.1))))
lock_is_held hs after c lock (Err e) free ok is = absurd (true≢false ok)

-- ---- what a client with an active transaction needs

pub put_needs : (t : TxState) (id key value : List ℕ) → has_begun t ≡ true
    → lock_needed (transaction_of t) (command.Put id key value) ≡ Some (OnKey id key)
put_needs tx.Outside id key value begun = absurd (true≢false (sym begun))
put_needs tx.Abandoned id key value begun = absurd (true≢false (sym begun))
put_needs (tx.Active b sync changes) id key value begun = refl

pub remove_needs : (t : TxState) (id key : List ℕ) → has_begun t ≡ true
    → lock_needed (transaction_of t) (command.Remove id key) ≡ Some (OnKey id key)
remove_needs tx.Outside id key begun = absurd (true≢false (sym begun))
remove_needs tx.Abandoned id key begun = absurd (true≢false (sym begun))
remove_needs (tx.Active b sync changes) id key begun = refl

pub delete_needs : (t : TxState) (id : List ℕ) → has_begun t ≡ true
    → lock_needed (transaction_of t) (command.Delete id) ≡ Some (OnMap id)
delete_needs tx.Outside id begun = absurd (true≢false (sym begun))
delete_needs tx.Abandoned id begun = absurd (true≢false (sym begun))
delete_needs (tx.Active b sync changes) id begun = refl

pub get_needs : (t : TxState) (id key : List ℕ) → has_begun t ≡ true
    → lock_needed (transaction_of t) (command.Get id key) ≡ Some (OnKey id key)
get_needs tx.Outside id key begun = absurd (true≢false (sym begun))
get_needs tx.Abandoned id key begun = absurd (true≢false (sym begun))
get_needs (tx.Active b sync changes) id key begun = refl

-- it stands inside a transaction
pub begun_is_inside : (t : TxState) → has_begun t ≡ true → is_inside (transaction_of t) ≡ true
begun_is_inside tx.Outside begun = absurd (true≢false (sym begun))
begun_is_inside tx.Abandoned begun = refl
begun_is_inside (tx.Active b sync changes) begun = refl

-- ---- a client whose transaction ends

-- its changes were made, and then its transaction ended
pub ended_behind : (ks mid : List ClientState) (c : ℕ) (t : TxState) (k : ClientState) → c < length ks
    → mid ≡ slice_set ks c (with_no_changes (client_in ks c)) → k ≡ slice_index_or mid c k
    → slice_set mid c (record k { tx = t }) ≡ slice_set ks c (record (client_in ks c) { tx = t })
ended_behind ks mid c t k within emptied read =
    let there : c < length mid = let count = ap length emptied ∙ length-set ks c (with_no_changes (client_in ks c)) in omega (arith, within, count) in
    let it : k ≡ with_no_changes (client_in ks c) =
    client_read mid c k there read ∙ ap (λ js. client_in js c) emptied
    ∙ get_or-set_same ks c (with_no_changes (client_in ks c)) new_client within in
    (λ i. slice_set (emptied i) c (record (it i) { tx = t }))
    ∙ set-set ks c (with_no_changes (client_in ks c)) (record (client_in ks c) { tx = t })

-- ---- an answer that is to be acknowledged so

answer_step_with : (old : Ledger) (kept : IsLedger old) (c : ℕ) → 1 ≤ c → c < length old.clients.items → (line : Line)
    → next_line (scripts_of old) (machine_state old) c ≡ Some line → (r : Reply) (a : Option Action)
    → action_by (machine_state old).maps (Some line.command) (what.Answered r) ≡ a → (new : Ledger)
    → (is : HasAnswered old c line r a new) (owed : Option ℕ) → is.owed ≡ owed
    → (place : ℕ) (slip : Option SlotView) (before after : Option (List ℕ)) → place ≡ length old.history.events
    → None ≡ snapshot_by (cond (is_some a) (drawing_in old).log.next ((drawing_in old).log.next - 1)) (what.Answered r)
    → HasDrawn (book_of old) c a (book_of new) slip before after
    → TakesStep old c before (step.Done place line.number slip owed None) new after
answer_step_with old kept c some within line at_line r a draws new is owed same place slip before after at_place made drew =
    subst (λ o. TakesStep old c before (step.Done place line.number slip o None) new after) same
    (answer_step old kept c some within line at_line r a draws new is place slip None before after at_place made drew)

-- ---- a client whose turn it is

module _ (old : Ledger) (c : ℕ) (line : Line) (turn : IsTurnAt old c line) where
  abbrev k : ClientState
  k = client_at old c

  -- ---- refusals

  -- there was no memory once the clients and the locks were looked at
  pub no_memory_once_looked : (new : Ledger) (f : Option (List ℕ))
      → new ≡ record old { clients = new.clients; locks = new.locks; objects = new.objects; history = new.history; drawer = new.drawer }
      → new.clients.items ≡ old.clients.items → new.locks ≡ old.locks → new.objects ≡ old.objects
      → new.history.events ≡ old.history.events → (new.drawer ≡ old.drawer) ⊎ HasLooked old.drawer new.drawer
      → TakesStep old c f step.Memory new f
  no_memory_once_looked new f same clients locks objects events drawer = record {
    kept = unmoved_ledger mid new mid_kept from_mid clients;
    opening = ap (λ (a : Ledger). a.opening) same;
    answers = (
      not_finished (scripts_of old) (machine_state old) c line turn.at_line,
      record {
        session = moved.session ∙ mid_book.session;
        state = moved.state ∙ mid_book.state;
        acks = moved.acks ∙ mid_book.acks;
        before = moved.before ∙ mid_book.before;
        drawer = drawer;
      },
      refl,
    );
  }
    where
      mid : Ledger
      mid = record old { history = new.history; drawer = new.drawer }

      mid_rests : HasRested old mid
      mid_rests = record { same = refl; events = events; drawer = drawer }

      mid_kept : IsLedger mid
      mid_kept = rested_ledger old mid turn.turn.kept mid_rests

      mid_book : SameBook (book_of old) (book_of mid)
      mid_book = rested_book old mid turn.turn.kept mid_rests

      from_mid : new ≡ record mid { clients = new.clients }
      from_mid = same ∙ λ i. record old {
        clients = new.clients;
        locks = locks i;
        objects = objects i;
        history = new.history;
        drawer = new.drawer;
      }

      moved : SameBook (book_of mid) (book_of new)
      moved = unmoved_book mid new mid_kept from_mid clients

  -- ---- a change

  module _ (lock : Lock) (op : Op) (named : ℕ) (change : IsChangeInside old c line.command lock op named) where
    pub inside_is_to_draw : IsToDraw (book_of old) c
    inside_is_to_draw = to_draw (book_of old) c line turn.at_line reply.Done _ change.action change.answers change.draws

    pub change_is_full : (new : Ledger) (f : Option (List ℕ)) (full : Full) (answer : Step) → HasRested old new
        → IsFull old.drawer full new.drawer → answer ≡ step_if_full full → TakesStep old c f answer new f
    change_is_full new f full answer rested is told = subst (λ s. TakesStep old c f s new f) (sym told)
        (full_step old new turn.turn.kept c rested f full is inside_is_to_draw)

    module _ (mid new : Ledger) (rested : HasRested old mid) (below : next_drawn mid.drawer < NUMBER_LIMIT)
        (begin low : ℕ) (its_begin : begin ≡ begin_lsn (client_at old c).tx) (its_low : low ≡ lowest (drawing_in old).log)
        (slip : SlotView) (at_ring : slip.ring ≡ mid.drawer.ring) (at_next : slip.lsn ≡ next_drawn mid.drawer)
        (f after : Option (List ℕ)) (prepared : IsPrepared (book_of old) c f) (taken : after ≡ None)
        (drawer : DrawerView)
        (drawn : IfSome f (λ bytes. (r : Record) → bytes ≡ spelling r
        → HasDrawnOne mid.drawer (spelling (record r { tx = begin; lowest = low; named = named })) drawer))
        (locks : Holders) (held : locks ≡ with_held old.locks c lock)
        (pushed : List ClientState) (is_pushed : pushed ≡ slice_set old.clients.items c (with_change_of (client_at old c) op))
        (same : new ≡ record old { history = new.history; clients = new.clients; locks = locks; drawer = drawer })
        (events : new.history.events ≡ mid.history.events ++ answered_event c line reply.Done ∷ [])
        (clients : new.clients.items ≡ slice_set pushed c (answered_state (client_in pushed c) c line.number None)) where
      its_tx : begin ≡ tx_for (drawing_in old) c change.action
      its_tx = its_begin ∙ sym (begin_is old turn.turn.kept c) ∙ sym (change.stands (drawing_in old))

      its_name : named ≡ named_for (drawing_in old).log (tx_for (drawing_in old) c change.action) change.action
      its_name = change.named_is ∙ ap (λ t. named_for (drawing_in old).log t change.action) (sym (change.stands (drawing_in old)))

      drew : HasDrawn (book_of old) c (Some change.action) (book_of new) (Some slip) f after
      drew = has_drawn (book_of old) (book_of new) c change.action mid.drawer slip begin low named f after rested.drawer below
          (subst (λ d. HasDrawnOne mid.drawer (spelling (record { tx = begin; lowest = low; named = named; action = change.action })) d)
          (sym (ap (λ (a : Ledger). a.drawer) same))
          (drew_spelled change.action f old.drawer mid.drawer drawer begin low named
          (prepared_for (book_of old) c line turn.at_line change.action change.draws f prepared) rested.drawer drawn))
          its_tx its_low its_name at_ring at_next taken

      answered_in : IsAnsweredIn old c line reply.Done (Some change.action) (tx_with_change k.tx op) None new
      answered_in = record {
        opening = ap (λ (a : Ledger). a.opening) same;
        closing = ap (λ (a : Ledger). a.closing) same;
        acks = ap (λ (a : Ledger). a.acks) same;
        last = ap (λ (a : Ledger). a.last) same;
        abandon = ap (λ (a : Ledger). a.abandon) same ∙ turn.turn.kept.abandon;
        events = events ∙ ap (λ es. es ++ answered_event c line reply.Done ∷ []) rested.events;
        clients = clients ∙ (λ i. slice_set (is_pushed i) c (answered_state (client_in (is_pushed i) c) c line.number None))
            ∙ noted_client old.clients.items c (with_change_of k op) line.number None (client_is_there old c turn.turn);
        first = drew.0.first;
        drawn = drew.0.drawn;
      }

      change_answered : HasAnswered old c line reply.Done (Some change.action) new
      change_answered = change_has_answered old turn.turn.kept c line lock op named new change answered_in (client_is_there old c turn.turn)
          (ap (λ (a : Ledger). a.objects) same) (ap (λ (a : Ledger). a.locks) same ∙ held)

      unowed_change : change_answered.owed ≡ None
      unfolding change_answered
      unowed_change = change_owes old turn.turn.kept c line lock op named new change answered_in (client_is_there old c turn.turn)
          (ap (λ (a : Ledger). a.objects) same) (ap (λ (a : Ledger). a.locks) same ∙ held)

      pub change_inside_step : (place : ℕ) → place ≡ length mid.history.events
          → TakesStep old c f (step.Done place line.number (Some slip) None None) new after
      change_inside_step place at_place = answer_step_with old turn.turn.kept c turn.turn.some (client_is_there old c turn.turn) line turn.at_line reply.Done
          (Some change.action) change.draws new change_answered None unowed_change place (Some slip) f after
          (at_place ∙ ap length rested.events) refl drew

  -- ---- a command that only reads

  module _ (lock : Lock) (r : Reply) (read : IsReadInside old c line.command lock r) (mid new : Ledger) (rested : HasRested old mid)
      (locks : Holders) (held : locks ≡ with_held old.locks c lock) (drawer : mid.drawer ≡ old.drawer)
      (same : new ≡ record mid { history = new.history; clients = new.clients; locks = locks })
      (events : new.history.events ≡ mid.history.events ++ answered_event c line r ∷ [])
      (clients : new.clients.items ≡ slice_set old.clients.items c (answered_state (client_at old c) c line.number None)) where
    read_same : new ≡ record old { history = new.history; clients = new.clients; locks = locks }
    read_same = same ∙ λ i. record old {
      opening = (rested.same i).opening;
      closing = (rested.same i).closing;
      objects = (rested.same i).objects;
      acks = (rested.same i).acks;
      last = (rested.same i).last;
      abandon = (rested.same i).abandon;
      drawer = drawer i;
      history = new.history;
      clients = new.clients;
      locks = locks;
    }

    read_answered_in : IsAnsweredIn old c line r None k.tx None new
    read_answered_in = record {
      opening = ap (λ (a : Ledger). a.opening) read_same;
      closing = ap (λ (a : Ledger). a.closing) read_same;
      acks = ap (λ (a : Ledger). a.acks) read_same;
      last = ap (λ (a : Ledger). a.last) read_same;
      abandon = ap (λ (a : Ledger). a.abandon) read_same ∙ turn.turn.kept.abandon;
      events = events ∙ ap (λ es. es ++ answered_event c line r ∷ []) rested.events;
      clients = clients;
      first = ap (λ (a : Ledger). a.drawer.first) read_same;
      drawn = ap (λ (a : Ledger). a.drawer.drawn) read_same ∙ sym (append-nil old.drawer.drawn);
    }

    read_answered : HasAnswered old c line r None new
    read_answered = read_has_answered old turn.turn.kept c line lock r new read read_answered_in
        (ap (λ (a : Ledger). a.objects) read_same) (ap (λ (a : Ledger). a.locks) read_same ∙ held)

    unowed_read : read_answered.owed ≡ None
    unfolding read_answered
    unowed_read = read_owes old turn.turn.kept c line lock r new read read_answered_in
        (ap (λ (a : Ledger). a.objects) read_same) (ap (λ (a : Ledger). a.locks) read_same ∙ held)

    pub read_inside_step : (place : ℕ) (f : Option (List ℕ)) → place ≡ length mid.history.events
        → TakesStep old c f (step.Done place line.number None None None) new f
    read_inside_step place f at_place = answer_step_with old turn.turn.kept c turn.turn.some (client_is_there old c turn.turn) line turn.at_line r None read.draws
        new read_answered None unowed_read place None f f (at_place ∙ ap length rested.events) (sym (read.plain _))
        (refl, ap (λ (a : Ledger). a.drawer) read_same, refl)

  -- ---- a commit

  module _ (begun : has_begun k.tx ≡ true) (commits : line.command ≡ command.Commit) where
    commit_draws : action_of line.command ≡ Some action.Commit
    commit_draws = ap action_of commits

    pub commit_is_to_draw : IsToDraw (book_of old) c
    commit_is_to_draw = to_draw (book_of old) c line turn.at_line reply.Done _ action.Commit
        (ap (outcome (machine_state old) c) commits
        ∙ commit_outcome (machine_state old) c k.tx begun (ap (λ (x : Client). x.tx) (client_is old turn.turn.kept c)))
        commit_draws

    pub commit_is_full : (new : Ledger) (f : Option (List ℕ)) (full : Full) (answer : Step) → HasRested old new
        → IsFull old.drawer full new.drawer → answer ≡ step_if_full full → TakesStep old c f answer new f
    commit_is_full new f full answer rested is told = subst (λ s. TakesStep old c f s new f) (sym told)
        (full_step old new turn.turn.kept c rested f full is commit_is_to_draw)

    module _ (mid new : Ledger) (rested : HasRested old mid) (below : next_drawn mid.drawer < NUMBER_LIMIT)
        (begin low : ℕ) (its_begin : begin ≡ begin_lsn (client_at old c).tx) (its_low : low ≡ lowest (drawing_in old).log)
        (slip : SlotView) (at_ring : slip.ring ≡ mid.drawer.ring) (at_next : slip.lsn ≡ next_drawn mid.drawer)
        (f after : Option (List ℕ)) (prepared : IsPrepared (book_of old) c f) (taken : after ≡ None)
        (drawer : DrawerView)
        (drawn : IfSome f (λ bytes. (r : Record) → bytes ≡ spelling r
        → HasDrawnOne mid.drawer (spelling (record r { tx = begin; lowest = low; named = 0 })) drawer))
        (owed : Option ℕ) (is_owed : owed ≡ cond (is_sync_tx k.tx) (Some (next_drawn mid.drawer)) None)
        (locks : Holders) (released : locks ≡ without old.locks c)
        (objects : Table StoredValue) (applied : objects ≡ table_after_all old.objects (map change_by (changes_in k.tx)))
        (ended : List ClientState) (is_ended : ended ≡ slice_set old.clients.items c (record (client_at old c) { tx = tx.Outside }))
        (same : new ≡ record old {
          history = new.history;
          clients = new.clients;
          locks = locks;
          objects = objects;
          drawer = drawer;
        })
        (events : new.history.events ≡ mid.history.events ++ answered_event c line reply.Done ∷ [])
        (clients : new.clients.items ≡ slice_set ended c (answered_state (client_in ended c) c line.number owed)) where
      commit_drew : HasDrawn (book_of old) c (Some action.Commit) (book_of new) (Some slip) f after
      commit_drew = has_drawn (book_of old) (book_of new) c action.Commit mid.drawer slip begin low 0 f after rested.drawer below
          (subst (λ d. HasDrawnOne mid.drawer (spelling (record { tx = begin; lowest = low; named = 0; action = action.Commit })) d)
          (sym (ap (λ (a : Ledger). a.drawer) same))
          (drew_spelled action.Commit f old.drawer mid.drawer drawer begin low 0
          (prepared_for (book_of old) c line turn.at_line action.Commit commit_draws f prepared) rested.drawer drawn))
          (its_begin ∙ sym (begin_is old turn.turn.kept c)) its_low refl at_ring at_next taken

      commit_answered_in : IsAnsweredIn old c line reply.Done (Some action.Commit) tx.Outside owed new
      commit_answered_in = record {
        opening = ap (λ (a : Ledger). a.opening) same;
        closing = ap (λ (a : Ledger). a.closing) same;
        acks = ap (λ (a : Ledger). a.acks) same;
        last = ap (λ (a : Ledger). a.last) same;
        abandon = ap (λ (a : Ledger). a.abandon) same ∙ turn.turn.kept.abandon;
        events = events ∙ ap (λ es. es ++ answered_event c line reply.Done ∷ []) rested.events;
        clients = clients ∙ (λ i. slice_set (is_ended i) c (answered_state (client_in (is_ended i) c) c line.number owed))
            ∙ noted_client old.clients.items c (record k { tx = tx.Outside }) line.number owed (client_is_there old c turn.turn);
        first = commit_drew.0.first;
        drawn = commit_drew.0.drawn;
      }

      commit_owed_next : owed ≡ cond (is_sync_tx k.tx) (Some (drawing_in old).log.next) None
      commit_owed_next = is_owed ∙ ap (λ n. cond (is_sync_tx k.tx) (Some n) None) (next_still old.drawer mid.drawer rested.drawer ∙ next_is old turn.turn.kept c)

      commit_answered : HasAnswered old c line reply.Done (Some action.Commit) new
      commit_answered = commit_has_answered old turn.turn.kept c line owed new begun commits (client_is_there old c turn.turn) commit_answered_in
          (ap (λ (a : Ledger). a.objects) same ∙ applied) (ap (λ (a : Ledger). a.locks) same ∙ released) commit_owed_next

      its_owed : commit_answered.owed ≡ owed
      unfolding commit_answered
      its_owed = commit_owes old turn.turn.kept c line owed new begun commits (client_is_there old c turn.turn) commit_answered_in
          (ap (λ (a : Ledger). a.objects) same ∙ applied) (ap (λ (a : Ledger). a.locks) same ∙ released) commit_owed_next

      pub commit_step : (place : ℕ) → place ≡ length mid.history.events
          → TakesStep old c f (step.Done place line.number (Some slip) owed None) new after
      commit_step place at_place = answer_step_with old turn.turn.kept c turn.turn.some (client_is_there old c turn.turn) line turn.at_line reply.Done
          (Some action.Commit) commit_draws new commit_answered owed its_owed place (Some slip) f after
          (at_place ∙ ap length rested.events) refl commit_drew

  -- ---- a wait that would close a ring

  module _ (ring : IsDeadlock old c line.command) where
    pub deadlock_is_to_draw : IsToDraw (book_of old) c
    deadlock_is_to_draw = to_draw (book_of old) c line turn.at_line reply.Deadlock _ action.Abandon ring.answers refl

    pub deadlock_is_full : (new : Ledger) (f : Option (List ℕ)) (full : Full) (answer : Step) → HasRested old new
        → IsFull old.drawer full new.drawer → answer ≡ step_if_full full → TakesStep old c f answer new f
    deadlock_is_full new f full answer rested is told = subst (λ s. TakesStep old c f s new f) (sym told)
        (full_step old new turn.turn.kept c rested f full is deadlock_is_to_draw)

    module _ (mid new : Ledger) (rested : HasRested old mid) (below : next_drawn mid.drawer < NUMBER_LIMIT)
        (begin low : ℕ) (its_begin : begin ≡ begin_lsn (client_at old c).tx) (its_low : low ≡ lowest (drawing_in old).log)
        (slip : SlotView) (at_ring : slip.ring ≡ mid.drawer.ring) (at_next : slip.lsn ≡ next_drawn mid.drawer)
        (before after : Option (List ℕ)) (taken : after ≡ None)
        (drawer : DrawerView)
        (drawn : (r : Record) → old.abandon ≡ spelling r
        → HasDrawnOne mid.drawer (spelling (record r { tx = begin; lowest = low; named = 0 })) drawer)
        (locks : Holders) (released : locks ≡ without old.locks c)
        (abandon : List ℕ) (its_abandon : abandon ≡ spelling (without_numbers action.Abandon))
        (ended : List ClientState) (is_ended : ended ≡ slice_set old.clients.items c (record (client_at old c) { tx = tx.Abandoned }))
        (same : new ≡ record old {
          history = new.history;
          clients = new.clients;
          locks = locks;
          drawer = drawer;
          abandon = abandon;
        })
        (events : new.history.events ≡ mid.history.events ++ answered_event c line reply.Deadlock ∷ [])
        (clients : new.clients.items ≡ slice_set ended c (answered_state (client_in ended c) c line.number None)) where
      deadlock_drew : HasDrawn (book_of old) c (Some action.Abandon) (book_of new) (Some slip) before after
      deadlock_drew = has_drawn (book_of old) (book_of new) c action.Abandon mid.drawer slip begin low 0 before after rested.drawer below
          (subst (λ d. HasDrawnOne mid.drawer (spelling (record { tx = begin; lowest = low; named = 0; action = action.Abandon })) d)
          (sym (ap (λ (a : Ledger). a.drawer) same))
          (drawn (without_numbers action.Abandon) turn.turn.kept.abandon))
          (its_begin ∙ sym (begin_is old turn.turn.kept c)) its_low refl at_ring at_next taken

      deadlock_answered_in : IsAnsweredIn old c line reply.Deadlock (Some action.Abandon) tx.Abandoned None new
      deadlock_answered_in = record {
        opening = ap (λ (a : Ledger). a.opening) same;
        closing = ap (λ (a : Ledger). a.closing) same;
        acks = ap (λ (a : Ledger). a.acks) same;
        last = ap (λ (a : Ledger). a.last) same;
        abandon = ap (λ (a : Ledger). a.abandon) same ∙ its_abandon;
        events = events ∙ ap (λ es. es ++ answered_event c line reply.Deadlock ∷ []) rested.events;
        clients = clients ∙ (λ i. slice_set (is_ended i) c (answered_state (client_in (is_ended i) c) c line.number None))
            ∙ noted_client old.clients.items c (record k { tx = tx.Abandoned }) line.number None (client_is_there old c turn.turn);
        first = deadlock_drew.0.first;
        drawn = deadlock_drew.0.drawn;
      }

      deadlock_answered : HasAnswered old c line reply.Deadlock (Some action.Abandon) new
      deadlock_answered = deadlock_has_answered old turn.turn.kept c line new ring (client_is_there old c turn.turn) deadlock_answered_in
          (ap (λ (a : Ledger). a.objects) same) (ap (λ (a : Ledger). a.locks) same ∙ released)

      unowed_deadlock : deadlock_answered.owed ≡ None
      unfolding deadlock_answered
      unowed_deadlock = deadlock_owes old turn.turn.kept c line new ring (client_is_there old c turn.turn) deadlock_answered_in
          (ap (λ (a : Ledger). a.objects) same) (ap (λ (a : Ledger). a.locks) same ∙ released)

      pub deadlock_step : (place : ℕ) → place ≡ length mid.history.events
          → TakesStep old c before (step.Done place line.number (Some slip) None None) new after
      deadlock_step place at_place = answer_step_with old turn.turn.kept c turn.turn.some (client_is_there old c turn.turn) line turn.at_line reply.Deadlock
          (Some action.Abandon) refl new deadlock_answered None unowed_deadlock place (Some slip) before after
          (at_place ∙ ap length rested.events) refl deadlock_drew
