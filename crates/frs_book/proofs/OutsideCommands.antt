-- What commands outside a transaction, a snapshot and the commands of an abandoned transaction are answered where nobody
-- hinders the client, from what the ledger keeps.
use Rattle.std.proofs.Common.{◌≡◌, ◌≢◌, ℕ, ◌+◌, Bool, true, false, cond}
use Rattle.std.proofs.Common.{List, [], ◌∷◌, Option, Some, None, map, refl, sym, ap, ◌∙◌, subst, arith}
use Rattle.std.proofs.Common.{option_map, is_some, unwrap_or}
use Rattle.std.specs.Prelude.{slice_set}
use Rattle.std.proofs.lemmas.List.{map-set}
use Rattle.frs_types.specs.declared.record.Action.TheVariants as action
use Rattle.frs_types.specs.declared.lock.Lock.{Lock}
use Rattle.frs_types.specs.declared.lock.Lock.TheVariants.{OnKey, OnMap}
use Rattle.frs_types.specs.Maps.{Place, Maps, at, table_after_all}
use Rattle.frs_types.specs.Records.{has_words}
use Rattle.frs_types.specs.Locks.{Holder, nobody, holder_at, hinderers}
use Rattle.frs_types.specs.Lawful.{StoredValue, plain_maps, changes_of, named_at, after_change}
use Rattle.frs_types.proofs.ActiveChanges.{changes_of_none}
use Rattle.frs_types.specs.Maps.Change.{Set, Take}
use Rattle.frs_slots.specs.Views.{next_drawn}
use Rattle.frs_objects.specs.declared.op.Op.TheVariants as op
use Rattle.frs_objects.specs.Objects.{lsn_of_place, AreNew}
use Rattle.frs_history.specs.declared.command.Command.{Command}
use Rattle.frs_history.specs.declared.command.Command.TheVariants as command
use Rattle.frs_history.specs.declared.command.Line.{Line}
use Rattle.frs_history.specs.declared.event.Reply.TheVariants as reply
use Rattle.frs_history.specs.declared.event.What.TheVariants as what
use Rattle.frs_history.specs.Machine.{Client, State, client, maps_seen, seen_by, free_outcome, outcome, lock_needed, next_line}
use Rattle.frs_history.specs.Machine.{answer_outcome, change_outcome, read_outcome, value_or_none, with_client}
use Rattle.frs_history.specs.Machine.Transaction.{Outside, Active, Abandoned}
use Rattle.frs_history.specs.Histories.{is_owed_by, is_active}
use Rattle.frs_book.specs.declared.client_state.TxState.{TxState}
use Rattle.frs_book.specs.declared.client_state.TxState.TheVariants as tx
use Rattle.frs_book.specs.declared.ledger.Ledger.{Ledger}
use Rattle.frs_book.specs.Drawn.{action_by}
use Rattle.frs_book.specs.Books.{snapshot_by}
use Rattle.frs_book.specs.Ledgers.{client_of_state, transaction_of, machine_state, book_of, client_at, drawing_in, session_of}
use Rattle.frs_book.specs.Ledgers.{IsLedger, IsTold, IsFreeChange, answered_state, scripts_of, script_at, tx_after_abandoned}
use Rattle.frs_book.proofs.EachStored.{at-plain, stored_at}
use Rattle.frs_book.proofs.LawfulDraws.{none_at_zero}
use Rattle.frs_book.proofs.BookGoesOn.{next_is_drawn}
use Rattle.frs_book.proofs.OwnLsns.{session_has_own_lsns, next_is_new}
use Rattle.frs_book.proofs.NextEvents.{free_outcome_is, lockless_outcome_is}
use Rattle.frs_book.proofs.ScriptPlaces.{IsClientAt, clients_are_placed, nothing_is_waited_for, holders_stay}
use Rattle.frs_book.proofs.LedgerGoesOn.{client_is, agrees}

-- ---- the machine's state once a command was answered

pub answered_machine : (old new : Ledger) (kept : IsLedger old) (c : ℕ) (t : TxState) (n : ℕ) (owed : Option ℕ) (m : Maps)
    (last : ℕ) (h : Holder) → plain_maps new.objects ≡ m → new.last ≡ last
    → new.clients.items ≡ slice_set old.clients.items c (answered_state (record (client_at old c) { tx = t }) c n owed)
    → new.locks ≡ slice_set old.locks c h
    → machine_state new ≡ with_client (record (machine_state old) { maps = m; last = last }) c
    (record { done = (client (machine_state old) c).done + 1; tx = transaction_of t }) h
answered_machine old new kept c t n owed m last h maps is_last clients locks i = record {
  maps = maps i;
  last = is_last i;
  clients = (ap (map client_of_state) clients
      ∙ map-set client_of_state old.clients.items c (answered_state (record (client_at old c) { tx = t }) c n owed)
      ∙ ap (λ k. slice_set (machine_state old).clients c (record { done = k + 1; tx = transaction_of t }))
      (sym (ap (λ (k : Client). k.done) (client_is old kept c)))) i;
  holders = locks i;
}

module _ (a : Ledger) (kept : IsLedger a) (c : ℕ) where
  abbrev s : State
  s = machine_state a

  -- ---- what the ledger says of the log outside transactions

  no_changes : changes_of (drawing_in a).log.active 0 ≡ []
  no_changes = changes_of_none (drawing_in a).log.active 0
      (none_at_zero (scripts_of a) s (drawing_in a) (agrees a kept) (drawing_in a).log.active (agrees a kept).owned)

  pub named_outside : (p : Place) → lsn_of_place a.objects p ≡ named_at (drawing_in a).log 0 p
  named_outside p = ap (λ t. lsn_of_place t p) kept.entries
      ∙ ap (λ cs. lsn_of_place (table_after_all (drawing_in a).log.entries cs) p) (sym no_changes)

  pub next_is : next_drawn a.drawer ≡ (drawing_in a).log.next
  next_is = sym (next_is_drawn (book_of a) kept.book)

  next_new : AreNew a.objects (next_drawn a.drawer ∷ [])
  next_new = subst (λ n. AreNew a.objects (n ∷ [])) (sym next_is)
      (subst (λ t. AreNew t ((drawing_in a).log.next ∷ [])) (sym kept.entries)
      (next_is_new (drawing_in a).log (session_has_own_lsns (session_of a) kept.book.session)))

  -- ---- where the client is outside a transaction

  module _ (outside : (client_at a c).tx ≡ tx.Outside) where
    pub tx_is : (client s c).tx ≡ Outside
    tx_is = ap (λ (k : Client). k.tx) (client_is a kept c) ∙ ap transaction_of outside

    free_is : (x : Command) (lock : Lock) → lock_needed Outside x ≡ Some lock → hinderers a.locks c lock ≡ []
        → outcome s c x ≡ free_outcome s c Outside x
    free_is x lock needs free = free_outcome_is s c x lock (ap (λ t. lock_needed t x) tx_is ∙ needs) free
        ∙ ap (λ t. free_outcome s c t x) tx_is

    lockless_is : (x : Command) → lock_needed Outside x ≡ None → outcome s c x ≡ free_outcome s c Outside x
    lockless_is x needs = lockless_outcome_is s c x (ap (λ t. lock_needed t x) tx_is ∙ needs)
        ∙ ap (λ t. free_outcome s c t x) tx_is

    -- a put
    pub put_is_free : (id key value : List ℕ) (named : ℕ) → hinderers a.locks c (OnKey id key) ≡ []
        → named ≡ lsn_of_place a.objects (id, key) → has_words (action.Put id key value) ≡ true
        → IsFreeChange a c (command.Put id key value) (op.Put id key value (next_drawn a.drawer)) named
    put_is_free id key value named free is words = record {
      answers = free_is (command.Put id key value) (OnKey id key) refl free;
      action = action.Put id key value;
      draws = refl;
      changes = λ l next. ap (λ n. after_change l 0 (Set id key (record { value = value; lsn = n }))) next;
      keeps_begin = refl;
      stands = λ d. refl;
      named_is = is ∙ named_outside (id, key);
      words = words;
      new = next_new;
      owed = refl;
    }

    -- a remove of a key that is there, or isn't
    seen_is : (p : Place) → at (maps_seen s c) p ≡ option_map (λ (h : StoredValue). h.value) (at a.objects p)
    seen_is p = ap (λ t. at (seen_by t s.maps) p) tx_is ∙ at-plain p a.objects

    there_by : (o : Option StoredValue) → unwrap_or (option_map (λ (h : StoredValue). h.lsn) o) 0 ≢ 0
        → is_some (option_map (λ (h : StoredValue). h.value) o) ≡ true
    there_by None some = absurd (some refl)
    there_by (Some h) some = refl

    remove_outcome : (id key : List ℕ) (b : Bool) → hinderers a.locks c (OnKey id key) ≡ []
        → is_some (at (maps_seen s c) (id, key)) ≡ b → outcome s c (command.Remove id key)
        ≡ cond b (change_outcome s c Outside (OnKey id key) (Take id key)) (read_outcome s c Outside (OnKey id key) reply.Absent)
    remove_outcome id key b free there = free_is (command.Remove id key) (OnKey id key) refl free
        ∙ ap (λ t. cond t (change_outcome s c Outside (OnKey id key) (Take id key)) (read_outcome s c Outside (OnKey id key) reply.Absent)) there

    pub remove_is_free : (id key : List ℕ) (named : ℕ) → hinderers a.locks c (OnKey id key) ≡ []
        → named ≡ lsn_of_place a.objects (id, key) → named ≢ 0 → has_words (action.Remove id key) ≡ true
        → IsFreeChange a c (command.Remove id key) (op.Remove id key) named
    remove_is_free id key named free is some words = record {
      answers = remove_outcome id key true free
          (ap is_some (seen_is (id, key)) ∙ there_by (at a.objects (id, key)) (λ none. some (is ∙ none)));
      action = action.Remove id key;
      draws = refl;
      changes = λ l next. refl;
      keeps_begin = refl;
      stands = λ d. refl;
      named_is = is ∙ named_outside (id, key);
      words = words;
      new = tt;
      owed = refl;
    }

    absent_by : (p : Place) (o : Option StoredValue) → at a.objects p ≡ o
        → unwrap_or (option_map (λ (h : StoredValue). h.lsn) o) 0 ≡ 0
        → is_some (option_map (λ (h : StoredValue). h.value) o) ≡ false
    absent_by p None held none = refl
    absent_by p (Some h) held none =
        let stored = stored_at (drawing_in a).log.next p h (drawing_in a).log.entries (agrees a kept).stored
        (ap (λ t. at t p) (sym kept.entries) ∙ held) in
        absurd (omega (arith, stored.0, none))

    pub absent_is_told : (id key : List ℕ) → hinderers a.locks c (OnKey id key) ≡ []
        → lsn_of_place a.objects (id, key) ≡ 0 → IsTold a c (command.Remove id key) reply.Absent
    absent_is_told id key free none = record {
      outside = outside;
      answers = remove_outcome id key false free
          (ap is_some (seen_is (id, key)) ∙ absent_by (id, key) (at a.objects (id, key)) refl none);
      draws = refl;
      unowed = refl;
      plain = λ lsn. refl;
    }

    -- a delete
    pub delete_is_free : (id : List ℕ) → hinderers a.locks c (OnMap id) ≡ [] → has_words (action.Delete id) ≡ true
        → IsFreeChange a c (command.Delete id) (op.Delete id) 0
    delete_is_free id free words = record {
      answers = free_is (command.Delete id) (OnMap id) refl free;
      action = action.Delete id;
      draws = refl;
      changes = λ l next. refl;
      keeps_begin = refl;
      stands = λ d. refl;
      named_is = refl;
      words = words;
      new = tt;
      owed = refl;
    }

    -- a get
    got_draws : (m : Maps) (id key : List ℕ) (o : Option (List ℕ))
        → action_by m (Some (command.Get id key)) (what.Answered (value_or_none o)) ≡ None
    got_draws m id key None = refl
    got_draws m id key (Some value) = refl

    got_unowed : (id key : List ℕ) (o : Option (List ℕ))
        → is_owed_by Outside (Some (command.Get id key)) (what.Answered (value_or_none o)) ≡ false
    got_unowed id key None = refl
    got_unowed id key (Some value) = refl

    got_plain : (o : Option (List ℕ)) (lsn : ℕ) → snapshot_by lsn (what.Answered (value_or_none o)) ≡ None
    got_plain None lsn = refl
    got_plain (Some value) lsn = refl

    pub get_is_told : (id key : List ℕ) → IsTold a c (command.Get id key) (value_or_none (at (plain_maps a.objects) (id, key)))
    get_is_told id key = record {
      outside = outside;
      answers = lockless_is (command.Get id key) refl
          ∙ ap (λ t. read_outcome s c Outside (OnKey id key) (value_or_none (at (seen_by t s.maps) (id, key)))) tx_is;
      draws = got_draws s.maps id key (at (plain_maps a.objects) (id, key));
      unowed = got_unowed id key (at (plain_maps a.objects) (id, key));
      plain = got_plain (at (plain_maps a.objects) (id, key));
    }

    -- a begin
    pub begin_answers : (sync : Bool) → outcome s c (command.Begin sync) ≡ answer_outcome s c reply.Done (Active sync []) []
    begin_answers sync = lockless_is (command.Begin sync) refl

    pub snapshot_outside : outcome s c command.Snapshot
        ≡ answer_outcome (record s { last = s.last + 1 }) c (reply.Snapshot (s.last + 1)) Outside (holder_at s.holders c).locks
    snapshot_outside = lockless_is command.Snapshot refl

  -- ---- a snapshot

  pub snapshot_answers : (t : TxState) → (client_at a c).tx ≡ t → t ≢ tx.Abandoned → outcome s c command.Snapshot
      ≡ answer_outcome (record s { last = s.last + 1 }) c (reply.Snapshot (s.last + 1)) (transaction_of t) (holder_at s.holders c).locks
  snapshot_answers tx.Outside is there = snapshot_outside is
  snapshot_answers (tx.Active b sync changes) is there =
      let now = ap (λ (k : Client). k.tx) (client_is a kept c) ∙ ap transaction_of is in
      lockless_outcome_is s c command.Snapshot (ap (λ t. lock_needed t command.Snapshot) now)
      ∙ ap (λ t. free_outcome s c t command.Snapshot) now
  snapshot_answers tx.Abandoned is there = absurd (there refl)

  -- ---- a command of an abandoned transaction

  pub abandoned_is : (client_at a c).tx ≡ tx.Abandoned → (client s c).tx ≡ Abandoned
  abandoned_is is = ap (λ (k : Client). k.tx) (client_is a kept c) ∙ ap transaction_of is

  free_abandoned : (x : Command)
      → free_outcome s c Abandoned x ≡ answer_outcome s c reply.Abandoned (transaction_of (tx_after_abandoned x)) []
  free_abandoned (command.Begin sync) = refl
  free_abandoned (command.Put id key value) = refl
  free_abandoned (command.Remove id key) = refl
  free_abandoned (command.Delete id) = refl
  free_abandoned (command.Get id key) = refl
  free_abandoned command.Commit = refl
  free_abandoned command.Snapshot = refl

  pub abandoned_answers : (client_at a c).tx ≡ tx.Abandoned → (x : Command)
      → outcome s c x ≡ answer_outcome s c reply.Abandoned (transaction_of (tx_after_abandoned x)) []
  abandoned_answers is x = lockless_outcome_is s c x (ap (λ t. lock_needed t x) (abandoned_is is))
      ∙ ap (λ t. free_outcome s c t x) (abandoned_is is) ∙ free_abandoned x

  -- ---- a client that waits for nothing

  pub placed : IsClientAt (script_at (scripts_of a) c) (client s c) (holder_at a.locks c)
  placed = clients_are_placed (scripts_of a) (plain_maps a.opening.entries.value) a.opening.last.value a.history.events s
      kept.bracketed kept.book.state c

  module _ (line : Line) (at_line : next_line (scripts_of a) s c ≡ Some line)
      (needs : lock_needed (client s c).tx line.command ≡ None) where
    pub locks_stay : a.locks ≡ slice_set a.locks c (record { locks = (holder_at a.locks c).locks; waits = None })
    locks_stay = sym (holders_stay a.locks c (nothing_is_waited_for (script_at (scripts_of a) c) (client s c) (holder_at a.locks c) placed line at_line needs))

    pub idle_locks_stay : is_active (client s c).tx ≡ false → a.locks ≡ slice_set a.locks c nobody
    idle_locks_stay idle = locks_stay ∙ ap (λ ls. slice_set a.locks c (record { locks = ls; waits = None })) (placed.free idle)
