-- What the commands of a client outside a transaction, its snapshots, and its commands behind an abandoned transaction
-- leave of a ledger, and what their steps answer.
use Rattle.std.proofs.Common.{◌≡◌, ◌≢◌, ◌⊎◌, inl, inr, ℕ, suc, ◌+◌, ◌-◌, ◌<◌, Bool, true, cond}
use Rattle.std.proofs.Common.{List, [], ◌∷◌, ◌++◌, Option, Some, None, length, map, refl, sym, ap, ◌∙◌, subst, arith, append-nil}
use Rattle.std.specs.Prelude.{slice_set}
use Rattle.std.proofs.lemmas.List.{length-map}
use Rattle.frs_types.specs.declared.limits.TheConstants.{NUMBER_LIMIT}
use Rattle.frs_types.specs.declared.record.Action.TheVariants as action
use Rattle.frs_types.specs.Maps.{table_after}
use Rattle.frs_types.specs.Locks.{nobody, holder_at}
use Rattle.frs_types.specs.Lawful.{LogState, plain_maps, lowest, after_by, changes_of}
use Rattle.frs_types.specs.ChangeLists.{plain_change}
use Rattle.frs_types.proofs.LogStates.{plain_after}
use Rattle.frs_frame.specs.Spelling.{spelling, without_numbers}
use Rattle.frs_slots.specs.Views.{DrawerView, SlotView, HasLooked, DrewRecord, next_drawn}
use Rattle.frs_objects.specs.declared.op.Op.{Op}
use Rattle.frs_objects.specs.Objects.{change_by}
use Rattle.frs_history.specs.declared.command.Command.{Command}
use Rattle.frs_history.specs.declared.command.Command.TheVariants as command
use Rattle.frs_history.specs.declared.command.Line.{Line}
use Rattle.frs_history.specs.declared.event.Reply.{Reply}
use Rattle.frs_history.specs.declared.event.Reply.TheVariants as reply
use Rattle.frs_history.specs.declared.event.What.TheVariants as what
use Rattle.frs_history.specs.Machine.{Client, client, outcome, lock_needed, with_client}
use Rattle.frs_history.specs.Machine.Outcome.{Answers}
use Rattle.frs_history.specs.Histories.{is_owed_by, is_active}
use Rattle.frs_book.specs.declared.client_state.TxState.{TxState}
use Rattle.frs_book.specs.declared.client_state.TxState.TheVariants as tx
use Rattle.frs_book.specs.declared.ledger.Ledger.{Ledger}
use Rattle.frs_book.specs.declared.step.Step.TheVariants as step
use Rattle.frs_book.specs.Drawn.{record_for, tx_for, named_for, after_draw, begin_after, action_by}
use Rattle.frs_book.specs.Room.{HasDrawnOne}
use Rattle.frs_book.specs.Ledgers.{begin_lsn, transaction_of, client_of_state, machine_state, scripts_of, client_at}
use Rattle.frs_book.specs.Ledgers.{drawing_in, HasChanges, IsLedger, IsTurn, IsTurnAt, IsTold, IsFreeChange, TakesStep}
use Rattle.frs_book.specs.Ledgers.{answered_state, tx_after_abandoned}
use Rattle.frs_book.proofs.DrawnTransactions.{own_begin_after, none_once_begun}
use Rattle.frs_book.proofs.NextEvents.{answered_event}
use Rattle.frs_book.proofs.LedgerGoesOn.{client_is, begin_is, agrees}
use Rattle.frs_book.proofs.StepAnswered.{HasAnswered, answer_step}
use Rattle.frs_book.proofs.OutsideCommands.{answered_machine, next_is, tx_is, begin_answers, snapshot_answers, abandoned_is}
use Rattle.frs_book.proofs.OutsideCommands.{abandoned_answers, locks_stay, idle_locks_stay}

-- ---- a draw, maybe behind a look

pub drew_behind_look : (old mid new : DrawerView) (bytes : List ℕ) → (mid ≡ old) ⊎ HasLooked old mid → HasDrawnOne mid bytes new
    → DrewRecord old bytes new
drew_behind_look old mid new bytes (inl same) drew =
    let now : new ≡ record old { drawn = old.drawn ++ bytes ∷ [] } = drew ∙ ap (λ (d : DrawerView). record d { drawn = d.drawn ++ bytes ∷ [] }) same in
    record {
      ring = ap (λ (d : DrawerView). d.ring) now;
      first = ap (λ (d : DrawerView). d.first) now;
      capacity = ap (λ (d : DrawerView). d.capacity) now;
      drawn = ap (λ (d : DrawerView). d.drawn) now;
      known_taken = let same = ap (λ (d : DrawerView). d.known_taken) now in omega (arith, same);
      loads = inl (ap (λ (d : DrawerView). d.loads) now);
    }
drew_behind_look old mid new bytes (inr looked) drew =
    let loads : new.loads ≡ mid.loads = ap (λ (d : DrawerView). d.loads) drew in
    record {
      ring = ap (λ (d : DrawerView). d.ring) drew ∙ ap (λ (d : DrawerView). d.ring) looked.same;
      first = ap (λ (d : DrawerView). d.first) drew ∙ ap (λ (d : DrawerView). d.first) looked.same;
      capacity = ap (λ (d : DrawerView). d.capacity) drew ∙ ap (λ (d : DrawerView). d.capacity) looked.same;
      drawn = ap (λ (d : DrawerView). d.drawn) drew ∙ ap (λ (d : DrawerView). d.drawn ++ bytes ∷ []) looked.same;
      known_taken =
          let same = ap (λ (d : DrawerView). d.known_taken) drew in let more = looked.known_taken in omega (arith, same, more);
      loads = inr (loads ∙ looked.loads);
    }

-- ---- a client whose turn it is

pub client_is_there : (a : Ledger) (c : ℕ) → IsTurn a c → c < length a.clients.items
client_is_there a c turn =
    let count = (agrees a turn.kept).clients in
    let mapped : length (map client_of_state a.clients.items) ≡ length a.clients.items = length-map a.clients.items client_of_state in
    omega (arith, count, mapped, turn.most)

module _ (old : Ledger) (c : ℕ) (line : Line) (turn : IsTurnAt old c line) where
  abbrev kept : IsLedger old
  kept = turn.turn.kept

  abbrev within : c < length old.clients.items
  within = client_is_there old c turn.turn

  -- ---- nothing is drawn

  module _ (r : Reply) (told : IsTold old c line.command r) (new : Ledger)
      (same : new ≡ record old { history = new.history; clients = new.clients; locks = new.locks })
      (events : new.history.events ≡ old.history.events ++ answered_event c line r ∷ [])
      (clients : new.clients.items ≡ slice_set old.clients.items c (answered_state (client_at old c) c line.number None))
      (locks : new.locks ≡ slice_set old.locks c nobody) where
    told_answered : HasAnswered old c line r None new
    told_answered = record {
      answers = told.answers ∙ ap (λ s. Answers r s) (sym
          (answered_machine old new kept c (client_at old c).tx line.number None (machine_state old).maps old.last nobody
          (ap (λ (a : Ledger). plain_maps a.objects) same) (ap (λ (a : Ledger). a.last) same) clients locks
          ∙ ap (λ t. with_client (machine_state old) c (record { done = (client (machine_state old) c).done + 1; tx = transaction_of t }) nobody) told.outside));
      words = refl;
      opening = ap (λ (a : Ledger). a.opening) same;
      closing = ap (λ (a : Ledger). a.closing) same;
      acks = ap (λ (a : Ledger). a.acks) same;
      events = events;
      tx = (client_at old c).tx;
      owed = None;
      clients = clients;
      entries = ap (λ (a : Ledger). a.objects) same ∙ kept.entries;
      begin = sym (begin_is old kept c);
      changes = kept.changes c;
      owes = sym (ap (λ t. cond (is_owed_by (transaction_of t) (Some line.command) (what.Answered r)) (Some ((drawing_in old).log.next - 1)) None) told.outside
          ∙ ap (λ b. cond b (Some ((drawing_in old).log.next - 1)) None) told.unowed);
      last = let is = ap (λ (a : Ledger). a.last) same in omega (arith, is);
      first = ap (λ (a : Ledger). a.drawer.first) same;
      drawn = ap (λ (a : Ledger). a.drawer.drawn) same ∙ sym (append-nil old.drawer.drawn);
      abandon = ap (λ (a : Ledger). a.abandon) same ∙ kept.abandon;
    }

    pub told_step : (place : ℕ) (f : Option (List ℕ)) → place ≡ length old.history.events
        → TakesStep old c f (step.Done place line.number None None None) new f
    unfolding told_answered
    told_step place f at_place = answer_step old kept c turn.turn.some within line turn.at_line r None told.draws new told_answered
        place None None f f at_place (sym (told.plain _)) (refl, ap (λ (a : Ledger). a.drawer) same, refl)

  -- ---- a change outside a transaction

  module _ (op : Op) (named : ℕ) (outside : (client_at old c).tx ≡ tx.Outside) (change : IsFreeChange old c line.command op named)
      (new : Ledger) (lsn : ℕ) (at_next : lsn ≡ next_drawn old.drawer)
      (same : new ≡ record old {
        history = new.history;
        clients = new.clients;
        locks = new.locks;
        objects = new.objects;
        drawer = new.drawer;
      })
      (events : new.history.events ≡ old.history.events ++ answered_event c line reply.Done ∷ [])
      (clients : new.clients.items ≡ slice_set old.clients.items c (answered_state (client_at old c) c line.number (Some lsn)))
      (locks : new.locks ≡ slice_set old.locks c nobody)
      (objects : new.objects ≡ table_after old.objects (change_by op))
      (drew : DrewRecord old.drawer (spelling (record (without_numbers change.action) { lowest = lowest (drawing_in old).log; named = named })) new.drawer) where
    stands_outside : tx_for (drawing_in old) c change.action ≡ 0
    stands_outside = change.stands (drawing_in old) ∙ begin_is old kept c ∙ ap begin_lsn outside

    next_same : (drawing_in old).log.next ≡ next_drawn old.drawer
    next_same = sym (next_is old kept c)

    record_is : record (without_numbers change.action) { lowest = lowest (drawing_in old).log; named = named }
        ≡ record_for (drawing_in old) c change.action
    record_is i = record {
      tx = (sym stands_outside) i;
      lowest = lowest (drawing_in old).log;
      named = (change.named_is ∙ ap (λ t. named_for (drawing_in old).log t change.action) (sym stands_outside)) i;
      action = change.action;
    }

    drew_its : DrewRecord old.drawer (spelling (record_for (drawing_in old) c change.action)) new.drawer
    drew_its = subst (λ r. DrewRecord old.drawer (spelling r) new.drawer) record_is drew

    change_answered : HasAnswered old c line reply.Done (Some change.action) new
    change_answered = record {
      answers = change.answers ∙ ap (λ s. Answers reply.Done s) (sym
          (answered_machine old new kept c (client_at old c).tx line.number (Some lsn)
          (table_after (machine_state old).maps (plain_change (change_by op))) old.last nobody
          (ap plain_maps objects ∙ plain_after (change_by op) old.objects) (ap (λ (a : Ledger). a.last) same) clients locks
          ∙ ap (λ t. with_client (record (machine_state old) { maps = table_after (machine_state old).maps (plain_change (change_by op)) }) c
          (record { done = (client (machine_state old) c).done + 1; tx = transaction_of t }) nobody) outside));
      words = change.words;
      opening = ap (λ (a : Ledger). a.opening) same;
      closing = ap (λ (a : Ledger). a.closing) same;
      acks = ap (λ (a : Ledger). a.acks) same;
      events = events;
      tx = (client_at old c).tx;
      owed = Some lsn;
      clients = clients;
      entries = objects ∙ ap (λ t. table_after t (change_by op)) kept.entries
          ∙ ap (λ (l : LogState). l.entries) (sym (change.changes (drawing_in old).log next_same))
          ∙ ap (λ t. (after_by (drawing_in old).log t change.action).entries) (sym stands_outside);
      begin = ap begin_lsn outside ∙ sym (own_begin_after (scripts_of old) (machine_state old) (drawing_in old) (agrees old kept) c machine_within change.action
          ∙ (λ i. begin_after (next_same i) ((begin_is old kept c ∙ ap begin_lsn outside) i) change.action)
          ∙ change.keeps_begin);
      changes = subst (HasChanges (after_draw (drawing_in old) c (Some change.action)).log.active) (sym outside) tt;
      owes = ap (λ n. Some n) (at_next ∙ sym next_same)
          ∙ sym (ap (λ t. cond (is_owed_by (transaction_of t) (Some line.command) (what.Answered reply.Done)) (Some (drawing_in old).log.next) None) outside
          ∙ ap (λ b. cond b (Some (drawing_in old).log.next) None) change.owed);
      last = let is = ap (λ (a : Ledger). a.last) same in omega (arith, is);
      first = drew.first;
      drawn = drew_its.drawn;
      abandon = ap (λ (a : Ledger). a.abandon) same ∙ kept.abandon;
    }
      where
        machine_within : c < suc (length (scripts_of old))
        machine_within = omega (arith, turn.turn.most)

    pub change_step : (place : ℕ) (slip : SlotView) (before after : Option (List ℕ)) → place ≡ length old.history.events
        → slip ≡ record { ring = old.drawer.ring; lsn = next_drawn old.drawer } → next_drawn old.drawer < NUMBER_LIMIT → after ≡ None
        → TakesStep old c before (step.Done place line.number (Some slip) (Some lsn) None) new after
    unfolding change_answered
    change_step place slip before after at_place its_slip below taken =
        answer_step old kept c turn.turn.some within line turn.at_line reply.Done (Some change.action) change.draws new change_answered
        place (Some slip) None before after at_place refl (drew_its, ap (λ x. Some x) its_slip, below, taken)

  -- ---- a begin

  module _ (sync : Bool) (outside : (client_at old c).tx ≡ tx.Outside) (begins : line.command ≡ command.Begin sync)
      (new : Ledger) (lsn : ℕ) (changes : List Op) (at_next : lsn ≡ next_drawn old.drawer) (none : changes ≡ [])
      (same : new ≡ record old { history = new.history; clients = new.clients; drawer = new.drawer })
      (events : new.history.events ≡ old.history.events ++ answered_event c line reply.Done ∷ [])
      (clients : new.clients.items ≡ slice_set old.clients.items c
      (answered_state (record (client_at old c) { tx = tx.Active lsn sync changes }) c line.number None))
      (drew : DrewRecord old.drawer (spelling (record (without_numbers action.Begin) { tx = lsn; lowest = lowest (drawing_in old).log })) new.drawer) where
    begin_next : (drawing_in old).log.next ≡ lsn
    begin_next = sym (next_is old kept c) ∙ sym at_next

    drew_begin : DrewRecord old.drawer (spelling (record_for (drawing_in old) c action.Begin)) new.drawer
    drew_begin = subst (λ n. DrewRecord old.drawer (spelling (record (without_numbers action.Begin) { tx = n; lowest = lowest (drawing_in old).log })) new.drawer) (sym begin_next) drew

    needs_none : lock_needed (client (machine_state old) c).tx line.command ≡ None
    needs_none = (λ i. lock_needed (tx_is old kept c outside i) (begins i))

    machine_at : c < suc (length (scripts_of old))
    machine_at = omega (arith, turn.turn.most)

    begin_answered : HasAnswered old c line reply.Done (Some action.Begin) new
    begin_answered = record {
      answers = ap (outcome (machine_state old) c) begins ∙ begin_answers old kept c outside sync
          ∙ ap (λ s. Answers reply.Done s) (sym
          (answered_machine old new kept c (tx.Active lsn sync changes) line.number None (machine_state old).maps old.last nobody
          (ap (λ (a : Ledger). plain_maps a.objects) same) (ap (λ (a : Ledger). a.last) same) clients
          (ap (λ (a : Ledger). a.locks) same ∙ idle_locks_stay old kept c line turn.at_line needs_none (ap is_active (tx_is old kept c outside)))
          ∙ ap (λ (ops : List Op). with_client (machine_state old) c
          (record { done = (client (machine_state old) c).done + 1; tx = transaction_of (tx.Active lsn sync ops) }) nobody) none));
      words = refl;
      opening = ap (λ (a : Ledger). a.opening) same;
      closing = ap (λ (a : Ledger). a.closing) same;
      acks = ap (λ (a : Ledger). a.acks) same;
      events = events;
      tx = tx.Active lsn sync changes;
      owed = None;
      clients = clients;
      entries = ap (λ (a : Ledger). a.objects) same ∙ kept.entries;
      begin = sym begin_next ∙ sym (own_begin_after (scripts_of old) (machine_state old) (drawing_in old) (agrees old kept) c machine_at action.Begin);
      changes = ap (changes_of (after_draw (drawing_in old) c (Some action.Begin)).log.active) (sym begin_next)
          ∙ none_once_begun (scripts_of old) (machine_state old) (drawing_in old) (agrees old kept) c machine_at
          ∙ ap (map change_by) (sym none);
      owes = sym (λ i. cond (is_owed_by (transaction_of (outside i)) (Some (begins i)) (what.Answered reply.Done)) (Some (drawing_in old).log.next) None);
      last = let is = ap (λ (a : Ledger). a.last) same in omega (arith, is);
      first = drew.first;
      drawn = drew_begin.drawn;
      abandon = ap (λ (a : Ledger). a.abandon) same ∙ kept.abandon;
    }

    pub begin_step : (place : ℕ) (slip : SlotView) (before after : Option (List ℕ)) → place ≡ length old.history.events
        → slip ≡ record { ring = old.drawer.ring; lsn = next_drawn old.drawer } → next_drawn old.drawer < NUMBER_LIMIT → after ≡ None
        → TakesStep old c before (step.Done place line.number (Some slip) None None) new after
    unfolding begin_answered
    begin_step place slip before after at_place its_slip below taken =
        answer_step old kept c turn.turn.some within line turn.at_line reply.Done (Some action.Begin)
        (ap (λ x. action_by (machine_state old).maps (Some x) (what.Answered reply.Done)) begins) new begin_answered
        place (Some slip) None before after at_place refl (drew_begin, ap (λ x. Some x) its_slip, below, taken)

  -- ---- a snapshot

  module _ (there : (client_at old c).tx ≢ tx.Abandoned) (snaps : line.command ≡ command.Snapshot) (new : Ledger) (lsn : ℕ)
      (before_next : lsn ≡ next_drawn old.drawer - 1)
      (same : new ≡ record old { history = new.history; clients = new.clients; last = new.last })
      (events : new.history.events ≡ old.history.events ++ answered_event c line (reply.Snapshot (old.last + 1)) ∷ [])
      (clients : new.clients.items ≡ slice_set old.clients.items c (answered_state (client_at old c) c line.number (Some lsn)))
      (one_more : new.last ≡ old.last + 1) where
    its_tx : (client (machine_state old) c).tx ≡ transaction_of (client_at old c).tx
    its_tx = ap (λ (k : Client). k.tx) (client_is old kept c)

    snapshot_needs : (t : TxState) → lock_needed (transaction_of t) command.Snapshot ≡ None
    snapshot_needs tx.Outside = refl
    snapshot_needs (tx.Active b sync changes) = refl
    snapshot_needs tx.Abandoned = refl

    snapshot_owed : (t : TxState) (n : ℕ) → is_owed_by (transaction_of t) (Some command.Snapshot) (what.Answered (reply.Snapshot n)) ≡ true
    snapshot_owed tx.Outside n = refl
    snapshot_owed (tx.Active b sync changes) n = refl
    snapshot_owed tx.Abandoned n = refl

    snapshot_next : (drawing_in old).log.next - 1 ≡ lsn
    snapshot_next = ap (λ n. n - 1) (sym (next_is old kept c)) ∙ sym before_next

    snapshot_answered : HasAnswered old c line (reply.Snapshot (old.last + 1)) None new
    snapshot_answered = record {
      answers = ap (outcome (machine_state old) c) snaps ∙ snapshot_answers old kept c (client_at old c).tx refl there
          ∙ ap (λ s. Answers (reply.Snapshot (old.last + 1)) s) (sym
          (answered_machine old new kept c (client_at old c).tx line.number (Some lsn) (machine_state old).maps (old.last + 1)
          (record { locks = (holder_at old.locks c).locks; waits = None })
          (ap (λ (a : Ledger). plain_maps a.objects) same) one_more clients
          (ap (λ (a : Ledger). a.locks) same ∙ locks_stay old kept c line turn.at_line
          ((λ i. lock_needed (its_tx i) (snaps i)) ∙ snapshot_needs (client_at old c).tx))));
      words = refl;
      opening = ap (λ (a : Ledger). a.opening) same;
      closing = ap (λ (a : Ledger). a.closing) same;
      acks = ap (λ (a : Ledger). a.acks) same;
      events = events;
      tx = (client_at old c).tx;
      owed = Some lsn;
      clients = clients;
      entries = ap (λ (a : Ledger). a.objects) same ∙ kept.entries;
      begin = sym (begin_is old kept c);
      changes = kept.changes c;
      owes = ap (λ n. Some n) (sym snapshot_next)
          ∙ sym (ap (λ x. cond (is_owed_by (transaction_of (client_at old c).tx) (Some x) (what.Answered (reply.Snapshot (old.last + 1)))) (Some ((drawing_in old).log.next - 1)) None) snaps
          ∙ ap (λ b. cond b (Some ((drawing_in old).log.next - 1)) None) (snapshot_owed (client_at old c).tx (old.last + 1)));
      last = omega (arith, one_more);
      first = ap (λ (a : Ledger). a.drawer.first) same;
      drawn = ap (λ (a : Ledger). a.drawer.drawn) same ∙ sym (append-nil old.drawer.drawn);
      abandon = ap (λ (a : Ledger). a.abandon) same ∙ kept.abandon;
    }

    pub snapshot_step : (place number : ℕ) (f : Option (List ℕ)) → place ≡ length old.history.events → number ≡ old.last + 1
        → TakesStep old c f (step.Done place line.number None (Some lsn) (Some (number, lsn))) new f
    unfolding snapshot_answered
    snapshot_step place number f at_place is = answer_step old kept c turn.turn.some within line turn.at_line (reply.Snapshot (old.last + 1)) None
        (ap (λ x. action_by (machine_state old).maps (Some x) (what.Answered (reply.Snapshot (old.last + 1)))) snaps) new snapshot_answered
        place None (Some (number, lsn)) f f at_place (λ i. Some (is i, (sym snapshot_next) i)) (refl, ap (λ (a : Ledger). a.drawer) same, refl)

  -- ---- behind an abandoned transaction

  module _ (abandoned : (client_at old c).tx ≡ tx.Abandoned) (new : Ledger)
      (same : new ≡ record old { history = new.history; clients = new.clients })
      (events : new.history.events ≡ old.history.events ++ answered_event c line reply.Abandoned ∷ [])
      (clients : new.clients.items ≡ slice_set old.clients.items c
      (answered_state (record (client_at old c) { tx = tx_after_abandoned line.command }) c line.number None)) where
    abandoned_needs : lock_needed (client (machine_state old) c).tx line.command ≡ None
    abandoned_needs = ap (λ t. lock_needed t line.command) (abandoned_is old kept c abandoned)

    draws_nothing : (x : Command) → action_by (machine_state old).maps (Some x) (what.Answered reply.Abandoned) ≡ None
    draws_nothing x = refl

    no_begin : (x : Command) → begin_lsn (tx_after_abandoned x) ≡ 0
    no_begin (command.Begin sync) = refl
    no_begin (command.Put id key value) = refl
    no_begin (command.Remove id key) = refl
    no_begin (command.Delete id) = refl
    no_begin (command.Get id key) = refl
    no_begin command.Commit = refl
    no_begin command.Snapshot = refl

    no_changes_left : (x : Command) → HasChanges (drawing_in old).log.active (tx_after_abandoned x)
    no_changes_left (command.Begin sync) = tt
    no_changes_left (command.Put id key value) = tt
    no_changes_left (command.Remove id key) = tt
    no_changes_left (command.Delete id) = tt
    no_changes_left (command.Get id key) = tt
    no_changes_left command.Commit = tt
    no_changes_left command.Snapshot = tt

    abandoned_answered : HasAnswered old c line reply.Abandoned None new
    abandoned_answered = record {
      answers = abandoned_answers old kept c abandoned line.command
          ∙ ap (λ s. Answers reply.Abandoned s) (sym
          (answered_machine old new kept c (tx_after_abandoned line.command) line.number None (machine_state old).maps old.last nobody
          (ap (λ (a : Ledger). plain_maps a.objects) same) (ap (λ (a : Ledger). a.last) same) clients
          (ap (λ (a : Ledger). a.locks) same ∙ idle_locks_stay old kept c line turn.at_line abandoned_needs (ap is_active (abandoned_is old kept c abandoned)))));
      words = refl;
      opening = ap (λ (a : Ledger). a.opening) same;
      closing = ap (λ (a : Ledger). a.closing) same;
      acks = ap (λ (a : Ledger). a.acks) same;
      events = events;
      tx = tx_after_abandoned line.command;
      owed = None;
      clients = clients;
      entries = ap (λ (a : Ledger). a.objects) same ∙ kept.entries;
      begin = no_begin line.command ∙ sym (begin_is old kept c ∙ ap begin_lsn abandoned);
      changes = no_changes_left line.command;
      owes = sym (ap (λ t. cond (is_owed_by (transaction_of t) (Some line.command) (what.Answered reply.Abandoned)) (Some ((drawing_in old).log.next - 1)) None) abandoned);
      last = let is = ap (λ (a : Ledger). a.last) same in omega (arith, is);
      first = ap (λ (a : Ledger). a.drawer.first) same;
      drawn = ap (λ (a : Ledger). a.drawer.drawn) same ∙ sym (append-nil old.drawer.drawn);
      abandon = ap (λ (a : Ledger). a.abandon) same ∙ kept.abandon;
    }

    pub abandoned_step : (place : ℕ) (f : Option (List ℕ)) → place ≡ length old.history.events
        → TakesStep old c f (step.Done place line.number None None None) new f
    unfolding abandoned_answered
    abandoned_step place f at_place = answer_step old kept c turn.turn.some within line turn.at_line reply.Abandoned None
        (draws_nothing line.command) new abandoned_answered
        place None None f f at_place refl (refl, ap (λ (a : Ledger). a.drawer) same, refl)
