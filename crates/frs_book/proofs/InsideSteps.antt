-- The ledger has answered a command inside a transaction once its parts are changed.
use Rattle.std.proofs.Common.{◌≡◌, ℕ, suc, ◌+◌, ◌-◌, ◌<◌, ◌≤◌, true, cond, [], ◌∷◌, ◌++◌}
use Rattle.std.proofs.Common.{Option, Some, None, inl, length, map, refl, sym, ap, ◌∙◌, subst, arith, option_map, option_to_list}
use Rattle.std.proofs.Common.{true≢false}
use Rattle.std.specs.Prelude.{slice_set, vec_capacity}
use Rattle.std.proofs.lemmas.List.{map-append, length-map}
use Rattle.frs_types.specs.declared.lock.Lock.{Lock}
use Rattle.frs_types.specs.declared.record.Action.{Action}
use Rattle.frs_types.specs.declared.record.Action.TheVariants as action
use Rattle.frs_types.specs.Locks.{Holder, nobody, holder_at, with_lock}
use Rattle.frs_types.specs.Lawful.{StoredValue, LogState, plain_maps, changes_of, after_change, after_by}
use Rattle.frs_types.specs.Maps.{Table, table_after_all}
use Rattle.frs_types.specs.ChangeLists.{plain_change}
use Rattle.frs_types.proofs.LogStates.{plain_after_all}
use Rattle.frs_frame.specs.Spelling.{spelling, without_numbers}
use Rattle.frs_objects.specs.declared.op.Op.{Op}
use Rattle.frs_objects.specs.Objects.{AreNew, change_by, put_lsns, puts_among}
use Rattle.frs_locks.specs.Answers.{with_held, without}
use Rattle.frs_history.specs.declared.command.Command.TheVariants as command
use Rattle.frs_history.specs.declared.command.Line.{Line}
use Rattle.frs_history.specs.declared.event.Reply.{Reply}
use Rattle.frs_history.specs.declared.event.Reply.TheVariants as reply
use Rattle.frs_history.specs.declared.event.What.TheVariants as what
use Rattle.frs_history.specs.Machine.{Client, outcome}
use Rattle.frs_history.specs.Machine.Outcome.{Answers}
use Rattle.frs_history.specs.Histories.{is_owed_by}
use Rattle.frs_book.specs.declared.client_state.ClientState.{ClientState}
use Rattle.frs_book.specs.declared.client_state.TxState.{TxState}
use Rattle.frs_book.specs.declared.client_state.TxState.TheVariants as tx
use Rattle.frs_book.specs.declared.ledger.Ledger.{Ledger}
use Rattle.frs_book.specs.Drawn.{Drawing, begin_of, begin_after, record_for, after_draw, acks_owed}
use Rattle.frs_book.specs.Books.{SameBook}
use Rattle.frs_book.specs.Agreement.{IsDrawnBy}
use Rattle.frs_book.specs.Ledgers.{begin_lsn, has_begun, transaction_of, client_of_state, session_of, machine_state, book_of}
use Rattle.frs_book.specs.Ledgers.{scripts_of, client_in, client_at, drawing_in, HasChanges, IsLedger}
use Rattle.frs_book.specs.Ledgers.{answered_state, lines_left}
use Rattle.frs_book.specs.Inside.{changes_in, is_sync_tx, tx_with_change, IsChangeInside, IsReadInside, IsDeadlock}
use Rattle.frs_book.proofs.OwnLsns.{session_has_own_lsns, puts_are_new}
use Rattle.frs_book.proofs.DrawnTransactions.{entries_inside, changes_inside, own_begin_after}
use Rattle.frs_book.proofs.NextEvents.{answered_event}
use Rattle.frs_book.proofs.BookGoesOn.{next_is_drawn}
use Rattle.frs_book.proofs.LedgerGoesOn.{client_is, begin_is, agrees, drawn_is}
use Rattle.frs_book.proofs.StepAnswered.{HasAnswered}
use Rattle.frs_book.proofs.OutsideCommands.{answered_machine}
use Rattle.frs_book.proofs.InsideOutcomes.{commit_outcome, commit_owed, deadlock_unowed}

-- ---- the ledger after an answer

-- What a step inside a transaction leaves: all but the client, the locks, the maps, the history and the drawing end.
pub record IsAnsweredIn (old : Ledger) (c : ℕ) (line : Line) (r : Reply) (a : Option Action) (t : TxState) (owed : Option ℕ)
    (new : Ledger) : Type 0 where
  pub opening : new.opening ≡ old.opening
  pub closing : new.closing ≡ old.closing
  pub acks : new.acks ≡ old.acks
  pub last : new.last ≡ old.last
  pub abandon : new.abandon ≡ spelling (without_numbers action.Abandon)
  pub events : new.history.events ≡ old.history.events ++ answered_event c line r ∷ []
  pub clients : new.clients.items
      ≡ slice_set old.clients.items c (answered_state (record (client_at old c) { tx = t }) c line.number owed)
  pub first : new.drawer.first ≡ old.drawer.first
  pub drawn : new.drawer.drawn
      ≡ old.drawer.drawn ++ map spelling (option_to_list (option_map (record_for (drawing_in old) c) a))

module _ (old : Ledger) (kept : IsLedger old) (c : ℕ) where
  abbrev d : Drawing
  d = drawing_in old

  abbrev k : ClientState
  k = client_at old c

  counted : c < length old.clients.items → c < suc (length (scripts_of old))
  counted within =
      let same : length (map client_of_state old.clients.items) ≡ suc (length (scripts_of old)) = (agrees old kept).clients in
      omega (arith, within, same, length-map old.clients.items client_of_state)

  own_after : (a : Action) → c < length old.clients.items → begin_of (after_draw d c (Some a)) c ≡ begin_after d.log.next (begin_of d c) a
  own_after a within = own_begin_after (scripts_of old) (machine_state old) d (agrees old kept) c (counted within) a

  -- ---- a change

  module _ (line : Line) (lock : Lock) (op : Op) (named : ℕ) (new : Ledger)
      (is : IsChangeInside old c line.command lock op named)
      (rest : IsAnsweredIn old c line reply.Done (Some is.action) (tx_with_change k.tx op) None new)
      (within : c < length old.clients.items)
      (objects : new.objects ≡ old.objects) (locks : new.locks ≡ with_held old.locks c lock) where
    log_is : (after_draw d c (Some is.action)).log ≡ after_change d.log (begin_of d c) (change_by op)
    log_is = ap (λ n. after_by d.log n is.action) (is.stands d) ∙ is.changes d.log (begin_of d c) (next_is_drawn (book_of old) kept.book)

    above_by : (t : TxState) (h : Holder) → has_begun t ≡ true → IsDrawnBy d.log (begin_lsn t) (transaction_of t) h → 0 < begin_lsn t
    above_by tx.Outside h begun drawn = absurd (true≢false (sym begun))
    above_by tx.Abandoned h begun drawn = absurd (true≢false (sym begun))
    above_by (tx.Active b sync changes) h begun drawn = drawn.0

    above : 0 < begin_of d c
    above =
        let own = above_by k.tx (holder_at old.locks c) is.inside (drawn_is old kept c) in
        let same : begin_of d c ≡ begin_lsn k.tx = begin_is old kept c in
        omega (arith, own, same)

    begin_stays : (t : TxState) → begin_lsn (tx_with_change t op) ≡ begin_lsn t
    begin_stays tx.Outside = refl
    begin_stays tx.Abandoned = refl
    begin_stays (tx.Active b sync changes) = refl

    changes_by : (t : TxState) (h : Holder) → begin_of d c ≡ begin_lsn t → IsDrawnBy d.log (begin_lsn t) (transaction_of t) h
        → HasChanges d.log.active t → HasChanges (after_change d.log (begin_of d c) (change_by op)).active (tx_with_change t op)
    changes_by tx.Outside h same drawn has = tt
    changes_by tx.Abandoned h same drawn has = tt
    changes_by (tx.Active b sync changes) h same drawn has =
        ap (λ n. changes_of (after_change d.log n (change_by op)).active b) same
        ∙ changes_inside d.log b (change_by op) drawn.0 drawn.2
        ∙ ap (λ cs. cs ++ change_by op ∷ []) has
        ∙ sym (map-append change_by changes (op ∷ []))

    pub change_has_answered : HasAnswered old c line reply.Done (Some is.action) new
    change_has_answered = record {
      answers = is.answers ∙ ap (Answers reply.Done) (sym (answered_machine old new kept c (tx_with_change k.tx op) line.number None
          (plain_maps old.objects) old.last (record { locks = with_lock lock (holder_at old.locks c).locks; waits = None })
          (ap plain_maps objects) rest.last rest.clients locks));
      words = is.words;
      owes = sym (ap (λ b. cond b (Some d.log.next) None) is.unowed);
      tx = tx_with_change k.tx op;
      owed = None;
      first = rest.first;
      drawn = rest.drawn;
      opening = rest.opening;
      closing = rest.closing;
      acks = rest.acks;
      events = rest.events;
      clients = rest.clients;
      entries = objects ∙ kept.entries ∙ sym (ap (λ (l : LogState). l.entries) log_is ∙ entries_inside d.log (begin_of d c) (change_by op) above);
      begin = begin_stays k.tx ∙ sym (begin_is old kept c) ∙ sym (own_after is.action within ∙ is.keeps_begin d.log.next (begin_of d c));
      changes = subst (λ (l : LogState). HasChanges l.active (tx_with_change k.tx op)) (sym log_is)
          (changes_by k.tx (holder_at old.locks c) (begin_is old kept c) (drawn_is old kept c) (kept.changes c));
      last = (let same = rest.last in omega arith);
      abandon = rest.abandon;
    }

    pub change_owes : change_has_answered.owed ≡ None
    unfolding change_has_answered
    change_owes = refl

  -- ---- without a record

  pub read_has_answered : (line : Line) (lock : Lock) (r : Reply) (new : Ledger) → IsReadInside old c line.command lock r
      → IsAnsweredIn old c line r None k.tx None new → new.objects ≡ old.objects → new.locks ≡ with_held old.locks c lock
      → HasAnswered old c line r None new
  read_has_answered line lock r new is rest objects locks = record {
    answers = is.answers ∙ ap (Answers r) (sym (answered_machine old new kept c k.tx line.number None
        (plain_maps old.objects) old.last (record { locks = with_lock lock (holder_at old.locks c).locks; waits = None })
        (ap plain_maps objects) rest.last rest.clients locks));
    words = refl;
    owes = sym (ap (λ b. cond b (Some (d.log.next - 1)) None) is.unowed);
    tx = k.tx;
    owed = None;
    first = rest.first;
    drawn = rest.drawn;
    opening = rest.opening;
    closing = rest.closing;
    acks = rest.acks;
    events = rest.events;
    clients = rest.clients;
    entries = objects ∙ kept.entries;
    begin = sym (begin_is old kept c);
    changes = kept.changes c;
    last = (let same = rest.last in omega arith);
    abandon = rest.abandon;
  }

  pub read_owes : (line : Line) (lock : Lock) (r : Reply) (new : Ledger) (is : IsReadInside old c line.command lock r)
      (rest : IsAnsweredIn old c line r None k.tx None new) (objects : new.objects ≡ old.objects)
      (locks : new.locks ≡ with_held old.locks c lock) → (read_has_answered line lock r new is rest objects locks).owed ≡ None
  unfolding read_has_answered
  read_owes line lock r new is rest objects locks = refl

  -- ---- the ends of a transaction

  -- what the log has of the transaction's changes
  changes_are : (t : TxState) → has_begun t ≡ true → begin_of d c ≡ begin_lsn t → HasChanges d.log.active t
      → map change_by (changes_in t) ≡ changes_of d.log.active (begin_of d c)
  changes_are tx.Outside begun same has = absurd (true≢false (sym begun))
  changes_are tx.Abandoned begun same has = absurd (true≢false (sym begun))
  changes_are (tx.Active b sync changes) begun same has = sym has ∙ ap (changes_of d.log.active) (sym same)

  -- the LSNs of its puts are new to the maps
  pub commit_is_new : has_begun k.tx ≡ true → AreNew old.objects (put_lsns (puts_among (changes_in k.tx)))
  commit_is_new begun = subst (λ (t : Table StoredValue). AreNew t (put_lsns (puts_among (changes_in k.tx)))) (sym kept.entries)
      (puts_are_new d.log (session_has_own_lsns (session_of old) kept.book.session) (begin_of d c) (changes_in k.tx)
      (changes_are k.tx begun (begin_is old kept c) (kept.changes c)))

  pub commit_has_answered : (line : Line) (owed : Option ℕ) (new : Ledger) → has_begun k.tx ≡ true
      → line.command ≡ command.Commit → c < length old.clients.items
      → IsAnsweredIn old c line reply.Done (Some action.Commit) tx.Outside owed new
      → new.objects ≡ table_after_all old.objects (map change_by (changes_in k.tx)) → new.locks ≡ without old.locks c
      → owed ≡ cond (is_sync_tx k.tx) (Some d.log.next) None → HasAnswered old c line reply.Done (Some action.Commit) new
  commit_has_answered line owed new begun is within rest objects locks owes = record {
    answers = ap (outcome (machine_state old) c) is
        ∙ commit_outcome (machine_state old) c k.tx begun (ap (λ (x : Client). x.tx) (client_is old kept c))
        ∙ ap (Answers reply.Done) (sym (answered_machine old new kept c tx.Outside line.number owed
        (table_after_all (plain_maps old.objects) (map plain_change (map change_by (changes_in k.tx)))) old.last nobody
        (ap plain_maps objects ∙ plain_after_all (map change_by (changes_in k.tx)) old.objects) rest.last rest.clients locks));
    words = refl;
    owes = owes ∙ ap (λ b. cond b (Some d.log.next) None)
        (sym (commit_owed k.tx begun)
        ∙ ap (λ x. is_owed_by (transaction_of k.tx) (Some x) (what.Answered reply.Done)) (sym is));
    tx = tx.Outside;
    owed = owed;
    first = rest.first;
    drawn = rest.drawn;
    opening = rest.opening;
    closing = rest.closing;
    acks = rest.acks;
    events = rest.events;
    clients = rest.clients;
    entries = objects
        ∙ (λ i. table_after_all (kept.entries i) (changes_are k.tx begun (begin_is old kept c) (kept.changes c) i));
    begin = sym (own_after action.Commit within);
    changes = tt;
    last = (let same = rest.last in omega arith);
    abandon = rest.abandon;
  }

  pub commit_owes : (line : Line) (owed : Option ℕ) (new : Ledger) (begun : has_begun k.tx ≡ true)
      (is : line.command ≡ command.Commit) (within : c < length old.clients.items)
      (rest : IsAnsweredIn old c line reply.Done (Some action.Commit) tx.Outside owed new)
      (objects : new.objects ≡ table_after_all old.objects (map change_by (changes_in k.tx)))
      (locks : new.locks ≡ without old.locks c) (owes : owed ≡ cond (is_sync_tx k.tx) (Some d.log.next) None)
      → (commit_has_answered line owed new begun is within rest objects locks owes).owed ≡ owed
  unfolding commit_has_answered
  commit_owes line owed new begun is within rest objects locks owes = refl

  pub deadlock_has_answered : (line : Line) (new : Ledger) → IsDeadlock old c line.command → c < length old.clients.items
      → IsAnsweredIn old c line reply.Deadlock (Some action.Abandon) tx.Abandoned None new → new.objects ≡ old.objects
      → new.locks ≡ without old.locks c → HasAnswered old c line reply.Deadlock (Some action.Abandon) new
  deadlock_has_answered line new is within rest objects locks = record {
    answers = is.answers ∙ ap (Answers reply.Deadlock) (sym (answered_machine old new kept c tx.Abandoned line.number None
        (plain_maps old.objects) old.last nobody (ap plain_maps objects) rest.last rest.clients locks));
    words = refl;
    owes = sym (ap (λ b. cond b (Some d.log.next) None) (deadlock_unowed (transaction_of k.tx) line.command));
    tx = tx.Abandoned;
    owed = None;
    first = rest.first;
    drawn = rest.drawn;
    opening = rest.opening;
    closing = rest.closing;
    acks = rest.acks;
    events = rest.events;
    clients = rest.clients;
    entries = objects ∙ kept.entries;
    begin = sym (own_after action.Abandon within);
    changes = tt;
    last = (let same = rest.last in omega arith);
    abandon = rest.abandon;
  }

  pub deadlock_owes : (line : Line) (new : Ledger) (is : IsDeadlock old c line.command) (within : c < length old.clients.items)
      (rest : IsAnsweredIn old c line reply.Deadlock (Some action.Abandon) tx.Abandoned None new)
      (objects : new.objects ≡ old.objects) (locks : new.locks ≡ without old.locks c)
      → (deadlock_has_answered line new is within rest objects locks).owed ≡ None
  unfolding deadlock_has_answered
  deadlock_owes line new is within rest objects locks = refl

-- ---- want of memory once a client was looked at

-- a ledger whose clients are as they were
module _ (old new : Ledger) (kept : IsLedger old) (same : new ≡ record old { clients = new.clients })
    (clients : new.clients.items ≡ old.clients.items) where
  state_stays : machine_state (record old { clients = new.clients }) ≡ machine_state old
  state_stays i = record (machine_state old) { clients = map client_of_state (clients i) }

  with_clients : IsLedger (record old { clients = new.clients })
  with_clients = record {
    book = record {
      session = kept.book.session;
      state = kept.book.state ∙ ap (λ s. Some s) (sym state_stays);
      closing = kept.book.closing;
      opening = kept.book.opening;
      drawn = kept.book.drawn;
      acks = kept.book.acks;
    };
    entries = kept.entries;
    begins = ap (map (λ (k : ClientState). begin_lsn k.tx)) clients ∙ kept.begins;
    changes = λ c. subst (λ ks. HasChanges (drawing_in old).log.active (client_in ks c).tx) (sym clients) (kept.changes c);
    compactor = ap (λ ks. client_in ks 0) clients ∙ kept.compactor;
    bracketed = kept.bracketed;
    counted = kept.counted;
    due = λ c. kept.due c ∙ ap (λ ks. option_to_list (client_in ks c).due) (sym clients);
    room = subst (λ ks. length (acks_owed (session_of old)) + lines_left ([] ∷ scripts_of old) ks ≤ vec_capacity old.acks) (sym clients) kept.room;
    last = kept.last;
    last_limit = kept.last_limit;
    abandon = kept.abandon;
  }

  pub unmoved_ledger : IsLedger new
  unmoved_ledger = subst IsLedger (sym same) with_clients

  pub unmoved_book : SameBook (book_of old) (book_of new)
  unmoved_book = record {
    session = ap session_of same;
    state = ap machine_state same ∙ state_stays;
    acks = ap (λ (a : Ledger). a.acks.items) same;
    before = ap (λ (a : Ledger). a.opening.drawer.value.drawn) same;
    drawer = inl (ap (λ (a : Ledger). a.drawer) same);
  }
