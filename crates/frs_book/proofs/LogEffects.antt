-- The agreement after each kind of effect that an event has on the log and on its client.
use Rattle.std.proofs.Common.{◌≡◌, ◌≢◌, ℕ, suc, ◌+◌, ◌<◌, ◌≤◌, Bool, true, false, cond, not, ◌||◌, ◌==◌}
use Rattle.std.proofs.Common.{List, [], ◌∷◌, ◌++◌, Some, None, map, length, refl, sym, ap, ◌∙◌, subst}
use Rattle.std.proofs.Common.{arith, eqb-true, eq-eqb, ne_eqb}
use Rattle.std.specs.List.{AllByRecursion, list_any}
use Rattle.std.proofs.lemmas.Bool.{eqb-false}
use Rattle.std.proofs.lemmas.List.{set-get_or, map-append}
use Rattle.std.proofs.lemmas.List.Folds.{list_any-append}
use Rattle.frs_types.specs.Maps.{Maps, Table, Change, IsTable, at, table_after, table_after_all}
use Rattle.frs_types.specs.Maps.Change.{Set}
use Rattle.frs_types.specs.Locks.{Holder, holder_at, same_lock, with_lock}
use Rattle.frs_types.specs.Lawful.{StoredValue, Open, LogState, plain_maps, is_open_tx, changes_of, lock_of}
use Rattle.frs_types.specs.Lawful.{with_change, without_transaction}
use Rattle.frs_types.specs.ChangeLists.{plain_change}
use Rattle.frs_types.proofs.ActiveChanges.{changes_of_other, changes_of_own, open_with_change, begun}
use Rattle.frs_types.proofs.ActiveChanges.{changes_of_begun, changes_of_ended, changes_of_none}
use Rattle.frs_types.proofs.LogStates.{plain_after, plain_after_all}
use Rattle.frs_history.specs.Machine.{Client, Changes, Transaction, State, Scripts, client}
use Rattle.frs_history.specs.Machine.Transaction.{Outside, Active, Abandoned}
use Rattle.frs_history.specs.Histories.{is_active}
use Rattle.frs_book.specs.Drawn.{Drawing, begin_of}
use Rattle.frs_book.specs.Agreement.{IsStoredBefore, AreStoredBefore, IsChangeBefore, IsOpenOf, IsDrawnBy, Agreement}
use Rattle.frs_book.proofs.EachStored.{each_to, each_to_more, stored_after, stored_after_all, entries_later}
use Rattle.frs_book.proofs.EachStored.{change_later, changes_later, opens_with_change, opens_without}
use Rattle.frs_book.proofs.EachStored.{each_of_changes, table_sorted, table_sorted_all, plain_again}
use Rattle.frs_book.proofs.Unhindered.{holds_new, holds_still}
use Rattle.frs_book.proofs.ClientChanges.{drawn_still, state_with, drawing_with, own_begin, own_holder, open_of_other}
use Rattle.frs_book.proofs.ClientChanges.{open_of_any, agrees_with}

-- a transaction other than the one that ends stays as open as it was
open_as_before : (active : List Open) (tx t : ℕ) → (t == tx) ≡ false
    → is_open_tx (without_transaction active tx) t ≡ is_open_tx active t
open_as_before [] tx t other = refl
open_as_before (o ∷ active) tx t other =
    elim (o.begin == tx) as (λ b. (o.begin == tx) ≡ b
    → is_open_tx (cond (not b) (o ∷ without_transaction active tx) (without_transaction active tx)) t
    ≡ ((o.begin == t) || is_open_tx active t)) [
      | true ↦ λ own.
          let not_t : (o.begin == t) ≡ false =
          ne_eqb o.begin t (λ is. eqb-false t tx other (sym is ∙ eqb-true o.begin tx own)) in
          open_as_before active tx t other ∙ sym (ap (λ b. b || is_open_tx active t) not_t)
      | false ↦ λ _. ap (λ b. (o.begin == t) || b) (open_as_before active tx t other)
    ] refl

-- what a transaction that hasn't begun leaves as it was
open_before_begin : (active : List Open) (n t : ℕ) → (n == t) ≡ false
    → is_open_tx (active ++ begun n) t ≡ is_open_tx active t
open_before_begin active n t other =
    list_any-append (λ (o : Open). o.begin == t) active (begun n) ∙ ap (λ b. is_open_tx active t || (b || false)) other
    ∙ or_false (is_open_tx active t)
  where
    or_false : (b : Bool) → (b || (false || false)) ≡ b
    or_false true = refl
    or_false false = refl

open_once_begun : (active : List Open) (n : ℕ) → is_open_tx (active ++ begun n) n ≡ true
open_once_begun active n =
    list_any-append (λ (o : Open). o.begin == n) active (begun n)
    ∙ ap (λ b. is_open_tx active n || (b || false)) (eq-eqb n n refl) ∙ or_true (is_open_tx active n)
  where
    or_true : (b : Bool) → (b || (true || false)) ≡ true
    or_true true = refl
    or_true false = refl

module _ (scripts : Scripts) (s : State) (d : Drawing) (agrees : Agreement scripts s d) where
  -- ---- begins

  below_by : (b : ℕ) (tx : Transaction) (h : Holder) → IsDrawnBy d.log b tx h → b < d.log.next
  below_by b Outside h is = omega (arith, is.0, agrees.next)
  below_by b Abandoned h is = omega (arith, is.0, agrees.next)
  below_by b (Active sync changes) h is = is.1

  pub begin_below : (e : ℕ) → begin_of d e < d.log.next
  begin_below e = below_by (begin_of d e) (client s e).tx (holder_at s.holders e) (agrees.drawn e)

  pub none_open_from : (n : ℕ) → d.log.next ≤ n → (active : List Open) → AllByRecursion (IsOpenOf s d) active
      → is_open_tx active n ≡ false
  none_open_from n le [] all = refl
  none_open_from n le (o ∷ active) all =
      let below : begin_of d all.0.client < d.log.next = begin_below all.0.client in
      let is : begin_of d all.0.client ≡ o.begin = all.0.begin in
      ap (λ b. b || is_open_tx active n) (ne_eqb o.begin n (omega arith)) ∙ none_open_from n le active all.1

  -- the changes of each transaction are from before the next LSN
  changes_below : (tx : ℕ) → AllByRecursion (IsChangeBefore d.log.next) (changes_of d.log.active tx)
  changes_below tx = each_of_changes (IsChangeBefore d.log.next) d.log.active tx
      (each_to (IsOpenOf s d) (λ (o : Open). AllByRecursion (IsChangeBefore d.log.next) o.changes)
      (λ o (is : IsOpenOf s d o). is.changes) d.log.active agrees.owned)

  -- the entries as a transaction sees them are from before the next LSN
  pub seen_below : (tx : ℕ) → AreStoredBefore d.log.next (table_after_all d.log.entries (changes_of d.log.active tx))
  seen_below tx = stored_after_all d.log.next (changes_of d.log.active tx) d.log.entries (changes_below tx) agrees.stored

  module _ (c : ℕ) (within : c < suc (length scripts)) where
    abbrev begin : ℕ
    begin = begin_of d c

    abbrev old : Holder
    old = holder_at s.holders c

    others_differ : 0 < begin → (e : ℕ) → e ≢ c → (begin_of d e == begin) ≡ false
    others_differ above e other = ne_eqb (begin_of d e) begin
        (λ same. other (sym (agrees.apart c e above (sym same))))

    -- ---- nothing is drawn

    pub agrees_idle : (last : ℕ) (x : Client) (h : Holder) → IsDrawnBy d.log begin x.tx h
        → ((l : _) → list_any (same_lock l) old.locks ≡ true → list_any (same_lock l) h.locks ≡ true)
        → Agreement scripts (state_with scripts s d agrees c within s.maps last x h d.log begin) d
    agrees_idle last x h own keeps =
        subst (λ bs. Agreement scripts (state_with scripts s d agrees c within s.maps last x h d.log begin)
        (record { log = d.log; begins = bs })) (set-get_or d.begins c 0)
        (agrees_with scripts s d agrees c within s.maps last x h d.log begin agrees.maps agrees.sorted agrees.next
        agrees.stored own (λ e _. agrees.drawn e) (λ e other above same. other (sym (agrees.apart c e above same)))
        (each_to _ _ (open_of_any scripts s d agrees c within s.maps last x h d.log begin (omega arith) refl keeps)
        d.log.active agrees.owned))

    -- ---- a change outside a transaction

    abbrev log_changed : Change StoredValue → LogState
    log_changed y = record {
      entries = table_after d.log.entries y;
      active = d.log.active;
      next = d.log.next + 1;
    }

    pub agrees_outside : (y : Change StoredValue) (x : Client) (h : Holder) → IsChangeBefore (d.log.next + 1) y
        → begin ≡ 0 → IsDrawnBy (log_changed y) 0 x.tx h
        → Agreement scripts
        (state_with scripts s d agrees c within (table_after s.maps (plain_change y)) s.last x h (log_changed y) 0)
        (drawing_with scripts s d agrees c within (table_after s.maps (plain_change y)) s.last x h (log_changed y) 0)
    agrees_outside y x h new none own =
        let m = table_after s.maps (plain_change y) in
        agrees_with scripts s d agrees c within m s.last x h (log_changed y) 0
        (ap (λ k. table_after k (plain_change y)) agrees.maps ∙ sym (plain_after y d.log.entries))
        (table_sorted d.log.entries y agrees.sorted) (omega arith)
        (stored_after (d.log.next + 1) y d.log.entries new
        (entries_later d.log.next (d.log.next + 1) (omega arith) d.log.entries agrees.stored))
        own
        (λ e _. drawn_still d.log (log_changed y) (begin_of d e) (client s e).tx (holder_at s.holders e) (omega arith)
        (λ _. (refl, refl)) (agrees.drawn e))
        (λ e _ above. absurd (omega arith))
        (each_to (IsOpenOf s d) _ (λ o (is : IsOpenOf s d o).
        let above : 0 < o.begin = is.above in
        open_of_other scripts s d agrees c within m s.last x h (log_changed y) 0 (omega arith) o
        (λ same. omega arith) is) d.log.active agrees.owned)

    -- ---- a change inside a transaction

    abbrev log_with : Change StoredValue → LogState
    log_with y = record {
      entries = d.log.entries;
      active = with_change d.log.active begin y;
      next = d.log.next + 1;
    }

    abbrev pub holder_with : Change StoredValue → Holder
    holder_with y = record { locks = with_lock (lock_of y) old.locks; waits = None }

    pub agrees_inside : (y : Change StoredValue) (sync : Bool) (changes : Changes) (done : ℕ)
        → IsChangeBefore (d.log.next + 1) y → IsDrawnBy d.log begin (Active sync changes) old
        → Agreement scripts
        (state_with scripts s d agrees c within s.maps s.last
        (record { done = done; tx = Active sync (changes ++ plain_change y ∷ []) }) (holder_with y) (log_with y) begin)
        (drawing_with scripts s d agrees c within s.maps s.last
        (record { done = done; tx = Active sync (changes ++ plain_change y ∷ []) }) (holder_with y) (log_with y) begin)
    agrees_inside y sync changes done new drawn =
        let x : Client = record { done = done; tx = Active sync (changes ++ plain_change y ∷ []) } in
        let h = holder_with y in
        let le : d.log.next ≤ d.log.next + 1 = omega arith in
        agrees_with scripts s d agrees c within s.maps s.last x h (log_with y) begin agrees.maps agrees.sorted (omega arith)
        (entries_later d.log.next (d.log.next + 1) le d.log.entries agrees.stored) (
          drawn.0,
          omega (arith, drawn.1),
          open_with_change d.log.active begin begin y ∙ drawn.2,
          ap (map plain_change) (changes_of_own d.log.active begin y drawn.2)
              ∙ map-append plain_change (changes_of d.log.active begin) (y ∷ [])
              ∙ ap (λ cs. cs ++ plain_change y ∷ []) drawn.3,
        )
        (λ e other. drawn_still d.log (log_with y) (begin_of d e) (client s e).tx (holder_at s.holders e) le
        (λ _. (
          open_with_change d.log.active begin (begin_of d e) y,
          changes_of_other d.log.active begin (begin_of d e) y (others_differ drawn.0 e other),
        )) (agrees.drawn e))
        (λ e other above same. other (sym (agrees.apart c e above same)))
        (opens_with_change (IsOpenOf s d) _ d.log.active begin y
        (λ o own (is : IsOpenOf s d o).
        let same : o.begin ≡ begin = eqb-true o.begin begin own in
        let owner : is.client ≡ c =
        agrees.apart is.client c (omega (arith, is.begin, is.above)) (is.begin ∙ same) in
        record {
          client = c;
          begin = own_begin scripts s d agrees c within s.maps s.last x h (log_with y) begin ∙ sym same;
          above = is.above;
          changes = each_to_more (IsChangeBefore d.log.next) (IsChangeBefore (d.log.next + 1))
              (change_later d.log.next (d.log.next + 1) le) o.changes y is.changes new;
          locks = subst (λ (k : Holder). AllByRecursion (λ z. list_any (same_lock (lock_of z)) k.locks ≡ true) (o.changes ++ y ∷ []))
              (sym (own_holder scripts s d agrees c within s.maps s.last x h (log_with y) begin))
              (each_to_more (λ z. list_any (same_lock (lock_of z)) (holder_at s.holders is.client).locks ≡ true)
              (λ z. list_any (same_lock (lock_of z)) h.locks ≡ true)
              (λ z held. holds_still (lock_of y) (lock_of z) old.locks
              (ap (λ e. list_any (same_lock (lock_of z)) (holder_at s.holders e).locks) (sym owner) ∙ held)) o.changes y is.locks
              (holds_new (lock_of y) old.locks));
        })
        (λ o apart is. open_of_other scripts s d agrees c within s.maps s.last x h (log_with y) begin le o
        (λ same. eqb-false o.begin begin apart (sym same)) is)
        agrees.owned)

    -- ---- a begin

    abbrev log_begun : LogState
    log_begun = record {
      entries = d.log.entries;
      active = d.log.active ++ begun d.log.next;
      next = d.log.next + 1;
    }

    pub agrees_begun : (sync : Bool) (done : ℕ) (h : Holder) → begin ≡ 0
        → Agreement scripts
        (state_with scripts s d agrees c within s.maps s.last (record { done = done; tx = Active sync [] }) h log_begun d.log.next)
        (drawing_with scripts s d agrees c within s.maps s.last (record { done = done; tx = Active sync [] }) h log_begun d.log.next)
    agrees_begun sync done h none =
        let x : Client = record { done = done; tx = Active sync [] } in
        let n = d.log.next in
        let le : n ≤ n + 1 = omega arith in
        agrees_with scripts s d agrees c within s.maps s.last x h log_begun n agrees.maps agrees.sorted (omega arith)
        (entries_later n (n + 1) le d.log.entries agrees.stored) (
          agrees.next,
          omega arith,
          open_once_begun d.log.active n,
          ap (map plain_change) (changes_of_begun d.log.active n n
              ∙ changes_of_none d.log.active n (none_open_from n (omega arith) d.log.active agrees.owned)),
        )
        (λ e other.
        let below : begin_of d e < n = begin_below e in
        drawn_still d.log log_begun (begin_of d e) (client s e).tx (holder_at s.holders e) le
        (λ _. (
          open_before_begin d.log.active n (begin_of d e) (ne_eqb n (begin_of d e) (omega arith)),
          changes_of_begun d.log.active n (begin_of d e),
        )) (agrees.drawn e))
        (λ e other above same. let below : begin_of d e < n = begin_below e in omega (arith, same))
        (each_to_more (IsOpenOf s d) _ (λ o (is : IsOpenOf s d o).
        let above : 0 < o.begin = is.above in
        open_of_other scripts s d agrees c within s.maps s.last x h log_begun n le o
        (λ same. omega arith) is) d.log.active (record { begin = n; changes = [] }) agrees.owned
        (record {
          client = c;
          begin = own_begin scripts s d agrees c within s.maps s.last x h log_begun n;
          above = agrees.next;
          changes = tt;
          locks = tt;
        }))

    -- ---- an end of a transaction

    abbrev log_ended : Table StoredValue → LogState
    log_ended t = record {
      entries = t;
      active = without_transaction d.log.active begin;
      next = d.log.next + 1;
    }

    pub agrees_ended : (t : Table StoredValue) (m : Maps) (x : Client) (h : Holder) → m ≡ plain_maps t → IsTable t
        → AreStoredBefore (d.log.next + 1) t → 0 < begin → IsDrawnBy (log_ended t) 0 x.tx h
        → Agreement scripts
        (state_with scripts s d agrees c within m s.last x h (log_ended t) 0)
        (drawing_with scripts s d agrees c within m s.last x h (log_ended t) 0)
    agrees_ended t m x h maps sorted stored above own =
        let le : d.log.next ≤ d.log.next + 1 = omega arith in
        agrees_with scripts s d agrees c within m s.last x h (log_ended t) 0 maps sorted (omega arith) stored own
        (λ e other. drawn_still d.log (log_ended t) (begin_of d e) (client s e).tx (holder_at s.holders e) le
        (λ _. (
          open_as_before d.log.active begin (begin_of d e) (others_differ above e other),
          changes_of_ended d.log.active begin (begin_of d e) (others_differ above e other),
        )) (agrees.drawn e))
        (λ e _ more. absurd (omega arith))
        (opens_without (IsOpenOf s d) _ d.log.active begin
        (λ o apart is. open_of_other scripts s d agrees c within m s.last x h (log_ended t) 0 le o
        (λ same. eqb-false o.begin begin apart (sym same)) is)
        agrees.owned)

    -- a commit makes the transaction's changes
    pub agrees_committed : (sync : Bool) (changes : Changes) (x : Client) (h : Holder)
        → IsDrawnBy d.log begin (Active sync changes) old
        → IsDrawnBy (log_ended (table_after_all d.log.entries (changes_of d.log.active begin))) 0 x.tx h
        → Agreement scripts
        (state_with scripts s d agrees c within (table_after_all s.maps changes) s.last x h
        (log_ended (table_after_all d.log.entries (changes_of d.log.active begin))) 0)
        (drawing_with scripts s d agrees c within (table_after_all s.maps changes) s.last x h
        (log_ended (table_after_all d.log.entries (changes_of d.log.active begin))) 0)
    agrees_committed sync changes x h drawn own =
        let its = changes_of d.log.active begin in
        let t = table_after_all d.log.entries its in
        agrees_ended t (table_after_all s.maps changes) x h
        (ap (λ m. table_after_all m changes) agrees.maps
        ∙ ap (table_after_all (plain_maps d.log.entries)) (sym drawn.3)
        ∙ sym (plain_after_all its d.log.entries))
        (table_sorted_all d.log.entries its agrees.sorted)
        (entries_later d.log.next (d.log.next + 1) (omega arith) t (seen_below begin))
        drawn.0 own

  -- ---- an entry that is written again, and the closing mark

  abbrev log_again : Table StoredValue → LogState
  log_again t = record { entries = t; active = d.log.active; next = d.log.next + 1 }

  agrees_again : (t : Table StoredValue) → s.maps ≡ plain_maps t → IsTable t → AreStoredBefore (d.log.next + 1) t
      → Agreement scripts s (record { log = log_again t; begins = d.begins })
  agrees_again t maps sorted stored = record {
    maps = maps;
    sorted = sorted;
    next = omega arith;
    stored = stored;
    clients = agrees.clients;
    holders = agrees.holders;
    begins = agrees.begins;
    drawn = λ e. drawn_still d.log (log_again t) (begin_of d e) (client s e).tx (holder_at s.holders e) (omega arith)
        (λ _. (refl, refl)) (agrees.drawn e);
    apart = agrees.apart;
    owned = each_to (IsOpenOf s d) _ (λ o (is : IsOpenOf s d o). record {
      client = is.client;
      begin = is.begin;
      above = is.above;
      changes = changes_later d.log.next (d.log.next + 1) (omega arith) o.changes is.changes;
      locks = is.locks;
    }) d.log.active agrees.owned;
  }

  pub agrees_compacted : (id key : List ℕ) (h : StoredValue) → at d.log.entries (id, key) ≡ Some h
      → Agreement scripts s (record {
        log = log_again (table_after d.log.entries (Set id key (record { value = h.value; lsn = d.log.next })));
        begins = d.begins;
      })
  agrees_compacted id key h held =
      let new : StoredValue = record { value = h.value; lsn = d.log.next } in
      let own : IsStoredBefore (d.log.next + 1) new = (agrees.next, omega arith) in
      agrees_again (table_after d.log.entries (Set id key new))
      (agrees.maps ∙ plain_again id key h d.log.next d.log.entries agrees.sorted held)
      (table_sorted d.log.entries (Set id key new) agrees.sorted)
      (stored_after (d.log.next + 1) (Set id key new) d.log.entries own
      (entries_later d.log.next (d.log.next + 1) (omega arith) d.log.entries agrees.stored))

  abbrev log_marked : LogState
  log_marked = record { entries = d.log.entries; active = []; next = d.log.next + 1 }

  not_active : (b : ℕ) (tx : Transaction) (h : Holder) → is_active tx ≡ false → IsDrawnBy d.log b tx h
      → IsDrawnBy log_marked b tx h
  not_active b Outside h quiet is = is
  not_active b Abandoned h quiet is = is
  not_active b (Active sync changes) h quiet is = absurd cc

  pub agrees_marked : ((e : ℕ) → is_active (client s e).tx ≡ false)
      → Agreement scripts s (record { log = log_marked; begins = d.begins })
  agrees_marked quiet = record {
    maps = agrees.maps;
    sorted = agrees.sorted;
    next = omega arith;
    stored = entries_later d.log.next (d.log.next + 1) (omega arith) d.log.entries agrees.stored;
    clients = agrees.clients;
    holders = agrees.holders;
    begins = agrees.begins;
    drawn = λ e. not_active (begin_of d e) (client s e).tx (holder_at s.holders e) (quiet e) (agrees.drawn e);
    apart = agrees.apart;
    owned = tt;
  }
