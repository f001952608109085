-- What a command inside an active transaction is answered.
use Rattle.std.proofs.Common.{◌≡◌, ◌≢◌, ℕ, ◌<◌, Bool, true, false, cond, List, [], ◌∷◌, ◌++◌}
use Rattle.std.proofs.Common.{Option, Some, None, length, map, refl, sym, ap, ◌∙◌, subst, arith, true≢false}
use Rattle.std.proofs.Common.{option_map, unwrap_or, is_some}
use Rattle.std.proofs.lemmas.List.{map-append}
use Rattle.frs_types.specs.declared.lock.Lock.{Lock}
use Rattle.frs_types.specs.declared.lock.Lock.TheVariants.{OnKey, OnMap}
use Rattle.frs_types.specs.declared.record.Action.TheVariants as action
use Rattle.frs_types.specs.Locks.{holder_at, with_lock, hinderers, ring, via}
use Rattle.frs_types.specs.Maps.{Place, Table, at, table_after_all}
use Rattle.frs_types.specs.Maps.Change.{Set, Take}
use Rattle.frs_types.specs.Records.{has_words}
use Rattle.frs_types.specs.Lawful.{StoredValue, plain_maps, changes_of, named_at, after_change}
use Rattle.frs_types.specs.ChangeLists.{plain_change}
use Rattle.frs_types.proofs.LogStates.{plain_after_all}
use Rattle.frs_objects.specs.declared.op.Op.{Op}
use Rattle.frs_objects.specs.declared.op.Op.TheVariants as op
use Rattle.frs_objects.specs.Objects.{change_by, lsn_of_place}
use Rattle.frs_slots.specs.Views.{next_drawn}
use Rattle.frs_history.specs.declared.command.Command.{Command}
use Rattle.frs_history.specs.declared.command.Command.TheVariants as command
use Rattle.frs_history.specs.declared.event.Reply.{Reply}
use Rattle.frs_history.specs.declared.event.Reply.TheVariants as reply
use Rattle.frs_history.specs.declared.event.What.TheVariants as what
use Rattle.frs_history.specs.Machine.{Client, Changes, Transaction, State, client, outcome, lock_needed, free_outcome}
use Rattle.frs_history.specs.Machine.{answer_outcome, maps_seen, seen_by, value_or_none, outcome_at}
use Rattle.frs_history.specs.Machine.Transaction.{Outside, Active}
use Rattle.frs_history.specs.Histories.{is_owed_by}
use Rattle.frs_book.specs.declared.client_state.ClientState.{ClientState}
use Rattle.frs_book.specs.declared.client_state.TxState.{TxState}
use Rattle.frs_book.specs.declared.client_state.TxState.TheVariants as tx
use Rattle.frs_book.specs.declared.ledger.Ledger.{Ledger}
use Rattle.frs_book.specs.Drawn.{begin_of}
use Rattle.frs_book.specs.Ledgers.{begin_lsn, has_begun, transaction_of, machine_state, client_at, drawing_in}
use Rattle.frs_book.specs.Ledgers.{HasChanges, IsLedger}
use Rattle.frs_book.specs.Inside.{changes_in, is_sync_tx, tx_with_change, IsChangeInside, IsReadInside, IsDeadlock}
use Rattle.frs_book.proofs.EachStored.{at-plain, stored_at}
use Rattle.frs_book.proofs.LogEffects.{seen_below}
use Rattle.frs_book.proofs.NextEvents.{free_outcome_is, deadlock_outcome_is}
use Rattle.frs_book.proofs.LedgerGoesOn.{client_is, begin_is, agrees, drawn_is}
use Rattle.frs_book.proofs.Unhindered.{no_lock_no_ring}
use Rattle.frs_book.specs.Agreement.{IsDrawnBy}

-- ---- the ends of a transaction

pub commit_outcome : (s : State) (c : ℕ) (t : TxState) → has_begun t ≡ true → (client s c).tx ≡ transaction_of t
    → outcome s c command.Commit
    ≡ answer_outcome (record s { maps = table_after_all s.maps (map plain_change (map change_by (changes_in t))) }) c reply.Done Outside []
commit_outcome s c tx.Outside begun is = absurd (true≢false (sym begun))
commit_outcome s c tx.Abandoned begun is = absurd (true≢false (sym begun))
commit_outcome s c (tx.Active b sync changes) begun is =
    ap (λ u. outcome_at s c command.Commit (lock_needed u command.Commit)) is
    ∙ ap (λ u. free_outcome s c u command.Commit) is

pub commit_owed : (t : TxState) → has_begun t ≡ true
    → is_owed_by (transaction_of t) (Some command.Commit) (what.Answered reply.Done) ≡ is_sync_tx t
commit_owed tx.Outside begun = absurd (true≢false (sym begun))
commit_owed tx.Abandoned begun = absurd (true≢false (sym begun))
commit_owed (tx.Active b sync changes) begun = refl

pub deadlock_unowed : (t : Transaction) (x : Command) → is_owed_by t (Some x) (what.Answered reply.Deadlock) ≡ false
deadlock_unowed Outside (command.Put id key value) = refl
deadlock_unowed Outside (command.Remove id key) = refl
deadlock_unowed Outside (command.Delete id) = refl
deadlock_unowed (Active sync changes) command.Commit = refl
deadlock_unowed t x = refl

abbrev is_commit : Command → Bool
is_commit command.Commit = true
is_commit other = false

change_unowed : (x : Command) (t : TxState) → has_begun t ≡ true → is_commit x ≡ false
    → is_owed_by (transaction_of t) (Some x) (what.Answered reply.Done) ≡ false
change_unowed x tx.Outside begun other = absurd (true≢false (sym begun))
change_unowed x tx.Abandoned begun other = absurd (true≢false (sym begun))
change_unowed (command.Begin asked) (tx.Active b sync changes) begun other = refl
change_unowed (command.Put id key value) (tx.Active b sync changes) begun other = refl
change_unowed (command.Remove id key) (tx.Active b sync changes) begun other = refl
change_unowed (command.Delete id) (tx.Active b sync changes) begun other = refl
change_unowed (command.Get id key) (tx.Active b sync changes) begun other = refl
change_unowed command.Commit (tx.Active b sync changes) begun other = absurd (true≢false other)
change_unowed command.Snapshot (tx.Active b sync changes) begun other = refl

absent_unowed : (x : Command) (t : TxState) → has_begun t ≡ true
    → is_owed_by (transaction_of t) (Some x) (what.Answered reply.Absent) ≡ false
absent_unowed x tx.Outside begun = absurd (true≢false (sym begun))
absent_unowed x tx.Abandoned begun = absurd (true≢false (sym begun))
absent_unowed command.Commit (tx.Active b sync changes) begun = refl
absent_unowed x (tx.Active b sync changes) begun = refl

found_unowed : (x : Command) (value : List ℕ) (t : TxState) → has_begun t ≡ true
    → is_owed_by (transaction_of t) (Some x) (what.Answered (reply.Found value)) ≡ false
found_unowed x value tx.Outside begun = absurd (true≢false (sym begun))
found_unowed x value tx.Abandoned begun = absurd (true≢false (sym begun))
found_unowed command.Commit value (tx.Active b sync changes) begun = refl
found_unowed x value (tx.Active b sync changes) begun = refl

-- ---- commands that nobody hinders

-- the outcome inside a transaction
inside_outcome : (s : State) (c : ℕ) (sync : Bool) (changes : Changes) (x : Command) (lock : Lock)
    → (client s c).tx ≡ Active sync changes → lock_needed (Active sync changes) x ≡ Some lock
    → hinderers s.holders c lock ≡ [] → outcome s c x ≡ free_outcome s c (Active sync changes) x
inside_outcome s c sync changes x lock is needs free =
    free_outcome_is s c x lock (ap (λ u. lock_needed u x) is ∙ needs) free ∙ ap (λ u. free_outcome s c u x) is

one_more_change : (sync : Bool) (ops : List Op) (o : Op)
    → Active sync (map plain_change (map change_by ops) ++ plain_change (change_by o) ∷ [])
    ≡ Active sync (map plain_change (map change_by (ops ++ o ∷ [])))
one_more_change sync ops o = ap (Active sync)
    (sym (ap (map plain_change) (map-append change_by ops (o ∷ []))
    ∙ map-append plain_change (map change_by ops) (change_by o ∷ [])))

module _ (a : Ledger) (kept : IsLedger a) (c : ℕ) where
  abbrev k : ClientState
  k = client_at a c

  -- the maps as the transaction sees them
  abbrev pub table_seen : Table StoredValue
  table_seen = table_after_all a.objects (map change_by (changes_in k.tx))

  abbrev AnswersWith : Command → Reply → Lock → Transaction → Type 0
  AnswersWith x r lock u = outcome (machine_state a) c x ≡ answer_outcome (machine_state a) c r u (with_lock lock (holder_at a.locks c).locks)

  own_tx : (client (machine_state a) c).tx ≡ transaction_of k.tx
  own_tx = ap (λ (x : Client). x.tx) (client_is a kept c)

  -- a command that makes a change
  change_answers : (x : Command) (lock : Lock) (o : Op) → hinderers a.locks c lock ≡ []
      → ((sync : Bool) (changes : Changes) → lock_needed (Active sync changes) x ≡ Some lock)
      → ((sync : Bool) (changes : Changes) → free_outcome (machine_state a) c (Active sync changes) x
      ≡ answer_outcome (machine_state a) c reply.Done (Active sync (changes ++ plain_change (change_by o) ∷ [])) (with_lock lock (holder_at a.locks c).locks))
      → (t : TxState) → has_begun t ≡ true → (client (machine_state a) c).tx ≡ transaction_of t
      → AnswersWith x reply.Done lock (transaction_of (tx_with_change t o))
  change_answers x lock o free needs makes tx.Outside begun is = absurd (true≢false (sym begun))
  change_answers x lock o free needs makes tx.Abandoned begun is = absurd (true≢false (sym begun))
  change_answers x lock o free needs makes (tx.Active b sync changes) begun is =
      let its : Changes = map plain_change (map change_by changes) in
      inside_outcome (machine_state a) c sync its x lock is (needs sync its) free ∙ makes sync its
      ∙ ap (λ u. answer_outcome (machine_state a) c reply.Done u (with_lock lock (holder_at a.locks c).locks)) (one_more_change sync changes o)

  -- a command that only reads
  read_answers : (x : Command) (lock : Lock) (r : Reply) → hinderers a.locks c lock ≡ []
      → ((sync : Bool) (changes : Changes) → lock_needed (Active sync changes) x ≡ Some lock)
      → ((sync : Bool) (changes : Changes) → free_outcome (machine_state a) c (Active sync changes) x
      ≡ answer_outcome (machine_state a) c r (Active sync changes) (with_lock lock (holder_at a.locks c).locks))
      → (t : TxState) → has_begun t ≡ true → (client (machine_state a) c).tx ≡ transaction_of t → AnswersWith x r lock (transaction_of t)
  read_answers x lock r free needs makes tx.Outside begun is = absurd (true≢false (sym begun))
  read_answers x lock r free needs makes tx.Abandoned begun is = absurd (true≢false (sym begun))
  read_answers x lock r free needs makes (tx.Active b sync changes) begun is =
      let its : Changes = map plain_change (map change_by changes) in
      inside_outcome (machine_state a) c sync its x lock is (needs sync its) free ∙ makes sync its

  -- a wait that would close a ring
  module _ (x : Command) (lock : Lock) (within : c < length a.locks) (closes : ring a.locks c lock ≡ true) where
    inside_by : (t : TxState) → lock_needed (transaction_of t) x ≡ Some lock
        → IsDrawnBy (drawing_in a).log (begin_lsn t) (transaction_of t) (holder_at a.locks c) → has_begun t ≡ true
    inside_by tx.Outside needs drawn = absurd (true≢false (sym closes ∙ no_lock_no_ring a.locks c lock within drawn.1))
    inside_by tx.Abandoned needs drawn = absurd (true≢false (sym (ap is_some needs)))
    inside_by (tx.Active b sync changes) needs drawn = refl

    pub deadlock_is : (d : ℕ) → lock_needed (client (machine_state a) c).tx x ≡ Some lock → via a.locks c lock ≡ Some d → IsDeadlock a c x
    deadlock_is d needs back = record {
      inside = inside_by k.tx (ap (λ u. lock_needed u x) (sym own_tx) ∙ needs) (drawn_is a kept c);
      answers = deadlock_outcome_is (machine_state a) c x lock needs d back closes;
    }

  -- ---- what the transaction sees

  seen_is : (t : TxState) → has_begun t ≡ true → (client (machine_state a) c).tx ≡ transaction_of t
      → maps_seen (machine_state a) c ≡ plain_maps (table_after_all a.objects (map change_by (changes_in t)))
  seen_is tx.Outside begun is = absurd (true≢false (sym begun))
  seen_is tx.Abandoned begun is = absurd (true≢false (sym begun))
  seen_is (tx.Active b sync changes) begun is =
      ap (λ t. seen_by t (machine_state a).maps) is ∙ sym (plain_after_all (map change_by changes) a.objects)

  value_seen : has_begun k.tx ≡ true → (p : Place)
      → at (maps_seen (machine_state a) c) p ≡ option_map (λ (h : StoredValue). h.value) (at table_seen p)
  value_seen begun p = ap (λ m. at m p) (seen_is k.tx begun own_tx) ∙ at-plain p table_seen

  -- the table is the one that the log's transaction sees
  table_is : (t : TxState) → has_begun t ≡ true → begin_of (drawing_in a) c ≡ begin_lsn t → HasChanges (drawing_in a).log.active t
      → table_after_all a.objects (map change_by (changes_in t))
      ≡ table_after_all (drawing_in a).log.entries (changes_of (drawing_in a).log.active (begin_of (drawing_in a) c))
  table_is tx.Outside begun same has = absurd (true≢false (sym begun))
  table_is tx.Abandoned begun same has = absurd (true≢false (sym begun))
  table_is (tx.Active b sync changes) begun same has =
      λ i. table_after_all (kept.entries i) ((sym has ∙ ap (changes_of (drawing_in a).log.active) (sym same)) i)

  own_table : has_begun k.tx ≡ true
      → table_seen ≡ table_after_all (drawing_in a).log.entries (changes_of (drawing_in a).log.active (begin_of (drawing_in a) c))
  own_table begun = table_is k.tx begun (begin_is a kept c) (kept.changes c)

  pub named_is : has_begun k.tx ≡ true → (p : Place)
      → lsn_of_place table_seen p ≡ named_at (drawing_in a).log (begin_of (drawing_in a) c) p
  named_is begun p = ap (λ t. lsn_of_place t p) (own_table begun)

  -- a key is there exactly where its LSN isn't 0
  there_by : (o : Option StoredValue) (p : Place) → at table_seen p ≡ o → has_begun k.tx ≡ true
      → lsn_of_place table_seen p ≢ 0 → is_some o ≡ true
  there_by None p is begun some = absurd (some (ap (λ o. unwrap_or (option_map (λ (h : StoredValue). h.lsn) o) 0) is))
  there_by (Some h) p is begun some = refl

  gone_by : (o : Option StoredValue) (p : Place) → at table_seen p ≡ o → has_begun k.tx ≡ true
      → lsn_of_place table_seen p ≡ 0 → is_some o ≡ false
  gone_by None p is begun none = refl
  gone_by (Some h) p is begun none =
      let now = table_after_all (drawing_in a).log.entries (changes_of (drawing_in a).log.active (begin_of (drawing_in a) c)) in
      let held = stored_at (drawing_in a).log.next p h now
      (seen_below _ (machine_state a) (drawing_in a) (agrees a kept) (begin_of (drawing_in a) c)) (ap (λ t. at t p) (sym (own_table begun)) ∙ is) in
      let lsn : lsn_of_place table_seen p ≡ h.lsn = ap (λ o. unwrap_or (option_map (λ (g : StoredValue). g.lsn) o) 0) is in
      absurd (omega (arith, held.0, lsn, none))

  plain_there : (o : Option StoredValue) → is_some (option_map (λ (h : StoredValue). h.value) o) ≡ is_some o
  plain_there None = refl
  plain_there (Some h) = refl

  seen_there : has_begun k.tx ≡ true → (p : Place) → is_some (at (maps_seen (machine_state a) c) p) ≡ is_some (at table_seen p)
  seen_there begun p = ap is_some (value_seen begun p) ∙ plain_there (at table_seen p)

  -- ---- by command

  module _ (begun : has_begun k.tx ≡ true) where
    pub put_inside_is : (id key value : List ℕ) (named : ℕ) → hinderers a.locks c (OnKey id key) ≡ []
        → has_words (action.Put id key value) ≡ true → named ≡ lsn_of_place table_seen (id, key)
        → IsChangeInside a c (command.Put id key value) (OnKey id key) (op.Put id key value (next_drawn a.drawer)) named
    put_inside_is id key value named free words is = record {
      inside = begun;
      free = free;
      answers = change_answers (command.Put id key value) (OnKey id key) (op.Put id key value (next_drawn a.drawer)) free
          (λ _ _. refl) (λ _ _. refl) k.tx begun own_tx;
      action = action.Put id key value;
      draws = refl;
      changes = λ l t next. ap (λ n. after_change l t (Set id key (record { value = value; lsn = n }))) next;
      keeps_begin = λ _ _. refl;
      stands = λ _. refl;
      named_is = is ∙ named_is begun (id, key);
      words = words;
      unowed = change_unowed (command.Put id key value) k.tx begun refl;
    }

    pub delete_inside_is : (id : List ℕ) → hinderers a.locks c (OnMap id) ≡ [] → has_words (action.Delete id) ≡ true
        → IsChangeInside a c (command.Delete id) (OnMap id) (op.Delete id) 0
    delete_inside_is id free words = record {
      inside = begun;
      free = free;
      answers = change_answers (command.Delete id) (OnMap id) (op.Delete id) free (λ _ _. refl) (λ _ _. refl) k.tx begun own_tx;
      action = action.Delete id;
      draws = refl;
      changes = λ l t next. refl;
      keeps_begin = λ _ _. refl;
      stands = λ _. refl;
      named_is = refl;
      words = words;
      unowed = change_unowed (command.Delete id) k.tx begun refl;
    }

    pub remove_inside_is : (id key : List ℕ) (named : ℕ) → hinderers a.locks c (OnKey id key) ≡ []
        → has_words (action.Remove id key) ≡ true → named ≡ lsn_of_place table_seen (id, key) → named ≢ 0
        → IsChangeInside a c (command.Remove id key) (OnKey id key) (op.Remove id key) named
    remove_inside_is id key named free words is some =
        let there : is_some (at (maps_seen (machine_state a) c) (id, key)) ≡ true =
        seen_there begun (id, key) ∙ there_by (at table_seen (id, key)) (id, key) refl begun (λ none. some (is ∙ none)) in
        record {
          inside = begun;
          free = free;
          answers = change_answers (command.Remove id key) (OnKey id key) (op.Remove id key) free (λ _ _. refl)
              (λ sync changes. ap (λ b. cond b
              (answer_outcome (machine_state a) c reply.Done (Active sync (changes ++ Take id key ∷ [])) (with_lock (OnKey id key) (holder_at a.locks c).locks))
              (answer_outcome (machine_state a) c reply.Absent (Active sync changes) (with_lock (OnKey id key) (holder_at a.locks c).locks))) there)
              k.tx begun own_tx;
          action = action.Remove id key;
          draws = refl;
          changes = λ l t next. refl;
          keeps_begin = λ _ _. refl;
          stands = λ _. refl;
          named_is = is ∙ named_is begun (id, key);
          words = words;
          unowed = change_unowed (command.Remove id key) k.tx begun refl;
        }

    pub absent_inside_is : (id key : List ℕ) (named : ℕ) → hinderers a.locks c (OnKey id key) ≡ []
        → named ≡ lsn_of_place table_seen (id, key) → named ≡ 0
        → IsReadInside a c (command.Remove id key) (OnKey id key) reply.Absent
    absent_inside_is id key named free is none =
        let gone : is_some (at (maps_seen (machine_state a) c) (id, key)) ≡ false =
        seen_there begun (id, key) ∙ gone_by (at table_seen (id, key)) (id, key) refl begun (sym is ∙ none) in
        record {
          inside = begun;
          free = free;
          answers = read_answers (command.Remove id key) (OnKey id key) reply.Absent free (λ _ _. refl)
              (λ sync changes. ap (λ b. cond b
              (answer_outcome (machine_state a) c reply.Done (Active sync (changes ++ Take id key ∷ [])) (with_lock (OnKey id key) (holder_at a.locks c).locks))
              (answer_outcome (machine_state a) c reply.Absent (Active sync changes) (with_lock (OnKey id key) (holder_at a.locks c).locks))) gone)
              k.tx begun own_tx;
          draws = refl;
          unowed = absent_unowed (command.Remove id key) k.tx begun;
          plain = λ _. refl;
        }

    get_inside_by : (id key : List ℕ) (o : Option (List ℕ)) → hinderers a.locks c (OnKey id key) ≡ []
        → at (maps_seen (machine_state a) c) (id, key) ≡ o → IsReadInside a c (command.Get id key) (OnKey id key) (value_or_none o)
    get_inside_by id key None free is = record {
      inside = begun;
      free = free;
      answers = read_answers (command.Get id key) (OnKey id key) reply.Absent free (λ _ _. refl)
          (λ sync changes. ap (λ v. answer_outcome (machine_state a) c (value_or_none v) (Active sync changes) (with_lock (OnKey id key) (holder_at a.locks c).locks)) is)
          k.tx begun own_tx;
      draws = refl;
      unowed = absent_unowed (command.Get id key) k.tx begun;
      plain = λ _. refl;
    }
    get_inside_by id key (Some value) free is = record {
      inside = begun;
      free = free;
      answers = read_answers (command.Get id key) (OnKey id key) (reply.Found value) free (λ _ _. refl)
          (λ sync changes. ap (λ v. answer_outcome (machine_state a) c (value_or_none v) (Active sync changes) (with_lock (OnKey id key) (holder_at a.locks c).locks)) is)
          k.tx begun own_tx;
      draws = refl;
      unowed = found_unowed (command.Get id key) value k.tx begun;
      plain = λ _. refl;
    }

    pub get_inside_is : (id key : List ℕ) (r : Reply) → hinderers a.locks c (OnKey id key) ≡ []
        → r ≡ value_or_none (option_map (λ (h : StoredValue). h.value) (at table_seen (id, key)))
        → IsReadInside a c (command.Get id key) (OnKey id key) r
    get_inside_is id key r free is = subst (IsReadInside a c (command.Get id key) (OnKey id key)) (sym is)
        (get_inside_by id key (option_map (λ (h : StoredValue). h.value) (at table_seen (id, key))) free (value_seen begun (id, key)))
