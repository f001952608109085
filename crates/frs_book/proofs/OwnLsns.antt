-- In each state of a log no two values have one LSN, and those of a transaction rise: so the LSNs of the puts that a
-- commit makes, and that of a put outside a transaction, are new to the entries.
use Rattle.std.proofs.Common.{◌≡◌, ◌≢◌, ◌⊎◌, inl, inr, ⊎_elim, ℕ, ◌+◌, ◌<◌, ◌≤◌, Bool, true, false, cond, ◌||◌, ◌==◌}
use Rattle.std.proofs.Common.{List, [], ◌∷◌, ◌++◌, map, refl, sym, ap, ◌∙◌, subst, arith, true≢false, ne_eqb, eq-eqb}
use Rattle.std.proofs.Common.{Less, Equal, Greater, eqb-true, append-nil}
use Rattle.std.specs.List.{AllByRecursion}
use Rattle.std.specs.FinMap.Entries.{put, where_key, by_order}
use Rattle.std.proofs.lemmas.Bool.{or_left, or_right, cases_lt}
use Rattle.std.proofs.lemmas.List.Folds.{list_any-append}
use Rattle.frs_types.specs.declared.record.Action.{Action}
use Rattle.frs_types.specs.declared.record.Action.TheVariants as action
use Rattle.frs_types.specs.declared.record.Record.{Record}
use Rattle.frs_types.specs.Maps.{Place, Table, Change, place_cmp, table_after, table_after_all}
use Rattle.frs_types.specs.Maps.Change.{Set, Take, Clear}
use Rattle.frs_types.specs.Lawful.{StoredValue, LogState, settled_state, is_open_tx, changes_of, with_change}
use Rattle.frs_types.specs.Lawful.{without_transaction, after_change, after_by, after_record, state_after}
use Rattle.frs_types.proofs.ActiveChanges.{changes_of_other, changes_of_own, open_with_change, changes_of_begun}
use Rattle.frs_types.proofs.ActiveChanges.{changes_of_ended, changes_of_own_ended, changes_of_none}
use Rattle.frs_types.proofs.OneMoreRecord.{is_among}
use Rattle.frs_objects.specs.declared.op.Op.{Op}
use Rattle.frs_objects.specs.declared.op.Op.TheVariants.{Put, Remove, Delete}
use Rattle.frs_objects.specs.Objects.{AreNew, change_by, put_lsns, puts_among, table_lsns}
use Rattle.frs_book.specs.Drawn.{SessionHistory, drawing_of, drawn_records, opened}
use Rattle.frs_book.specs.Agreement.{AreStoredBefore, IsSession}
use Rattle.frs_book.proofs.HistoryRuns.{session_is_shown}

-- ---- lists of LSNs

neither : (a b : Bool) → (a || b) ≡ false → (a ≡ false) × (b ≡ false)
neither true b is = absurd (true≢false is)
neither false b is = (refl, is)

none_of_both : (a b : Bool) → a ≡ false → b ≡ false → (a || b) ≡ false
none_of_both a b first none = ap (λ c. c || b) first ∙ none

none_of_two : (n : ℕ) (ns ms : List ℕ) → is_among n ns ≡ false → is_among n ms ≡ false → is_among n (ns ++ ms) ≡ false
none_of_two n ns ms first none = list_any-append (λ m. m == n) ns ms ∙ none_of_both _ _ first none

one_of_two : (n m : ℕ) (ns : List ℕ) → is_among n (ns ++ m ∷ []) ≡ true → (is_among n ns ≡ true) ⊎ (m ≡ n)
one_of_two n m ns is = by_old (is_among n ns) refl (sym (list_any-append (λ k. k == n) ns (m ∷ [])) ∙ is)
  where
    by_new : (b : Bool) → (m == n) ≡ b → (b || false) ≡ true → m ≡ n
    by_new true same is = eqb-true m n same
    by_new false same is = absurd (true≢false (sym is))

    by_old : (b : Bool) → is_among n ns ≡ b → (b || ((m == n) || false)) ≡ true → (is_among n ns ≡ true) ⊎ (m ≡ n)
    by_old true old is = inl old
    by_old false old is = inr (by_new (m == n) refl is)

abbrev pub AreRising : List ℕ → Type 0
AreRising [] = Unit {0}
AreRising (n ∷ ns) = AllByRecursion (λ m. n < m) ns × AreRising ns

rising_more : (ns : List ℕ) (n : ℕ) → ((m : ℕ) → is_among m ns ≡ true → m < n) → AreRising ns → AreRising (ns ++ n ∷ [])
rising_more [] n below rising = (tt, tt)
rising_more (m ∷ ns) n below rising = (
  above ns rising.0,
  rising_more ns n (λ k is. below k (or_right (m == k) _ is)) rising.1,
)
  where
    own : m < n
    own = below m (or_left (m == m) _ (eq-eqb m m refl))

    above : (ks : List ℕ) → AllByRecursion (λ k. m < k) ks → AllByRecursion (λ k. m < k) (ks ++ n ∷ [])
    above [] all = (own, tt)
    above (k ∷ ks) all = (all.0, above ks all.1)

-- ---- the LSNs of entries and of changes

-- the LSN of a change, if it sets a value, in front of others
abbrev pub with_lsn_of : Change StoredValue → List ℕ → List ℕ
with_lsn_of (Set id key h) ns = h.lsn ∷ ns
with_lsn_of (Take id key) ns = ns
with_lsn_of (Clear id) ns = ns

abbrev pub change_lsns : List (Change StoredValue) → List ℕ
change_lsns [] = []
change_lsns (x ∷ cs) = with_lsn_of x (change_lsns cs)

abbrev pub lsns_of : LogState → ℕ → List ℕ
lsns_of s t = change_lsns (changes_of s.active t)

with_lsn_in_front : (x : Change StoredValue) (ns ms : List ℕ) → with_lsn_of x (ns ++ ms) ≡ with_lsn_of x ns ++ ms
with_lsn_in_front (Set id key h) ns ms = refl
with_lsn_in_front (Take id key) ns ms = refl
with_lsn_in_front (Clear id) ns ms = refl

change_lsns-append : (cs ds : List (Change StoredValue)) → change_lsns (cs ++ ds) ≡ change_lsns cs ++ change_lsns ds
change_lsns-append [] ds = refl
change_lsns-append (x ∷ cs) ds =
    ap (with_lsn_of x) (change_lsns-append cs ds) ∙ with_lsn_in_front x (change_lsns cs) (change_lsns ds)

none_in_put : (p : Place) (h : StoredValue) (n : ℕ) (t : Table StoredValue) → (h.lsn == n) ≡ false
    → is_among n (table_lsns t) ≡ false → is_among n (table_lsns (put place_cmp p h t)) ≡ false
none_in_put p h n [] own none = none_of_both (h.lsn == n) false own refl
none_in_put p h n (e ∷ t) own none =
    let both = neither (e.1.lsn == n) (is_among n (table_lsns t)) none in
    elim (place_cmp p e.0) as
    (λ o. is_among n (table_lsns (by_order o ((p, h) ∷ e ∷ t) ((e.0, h) ∷ t) (e ∷ put place_cmp p h t))) ≡ false) [
      | Less ↦ none_of_both (h.lsn == n) _ own none
      | Equal ↦ none_of_both (h.lsn == n) _ own both.1
      | Greater ↦ none_of_both (e.1.lsn == n) _ both.0 (none_in_put p h n t own both.1)
    ]

none_in_rest : (test : Place → Bool) (n : ℕ) (t : Table StoredValue) → is_among n (table_lsns t) ≡ false
    → is_among n (table_lsns (where_key place_cmp test t)) ≡ false
none_in_rest test n [] none = refl
none_in_rest test n (e ∷ t) none =
    let both = neither (e.1.lsn == n) (is_among n (table_lsns t)) none in
    elim (test e.0) as
    (λ b. is_among n (table_lsns (cond b (e ∷ where_key place_cmp test t) (where_key place_cmp test t))) ≡ false) [
      | true ↦ none_of_both (e.1.lsn == n) _ both.0 (none_in_rest test n t both.1)
      | false ↦ none_in_rest test n t both.1
    ]

none_after : (x : Change StoredValue) (n : ℕ) (t : Table StoredValue) → is_among n (with_lsn_of x []) ≡ false
    → is_among n (table_lsns t) ≡ false → is_among n (table_lsns (table_after t x)) ≡ false
none_after (Set id key h) n t own none = none_in_put (id, key) h n t (neither (h.lsn == n) false own).0 none
none_after (Take id key) n t own none = none_in_rest _ n t none
none_after (Clear id) n t own none = none_in_rest _ n t none

first_and_rest : (x : Change StoredValue) (n : ℕ) (ns : List ℕ) → is_among n (with_lsn_of x ns) ≡ false
    → (is_among n (with_lsn_of x []) ≡ false) × (is_among n ns ≡ false)
first_and_rest (Set id key h) n ns none =
    let both = neither (h.lsn == n) (is_among n ns) none in
    (none_of_both (h.lsn == n) false both.0 refl, both.1)
first_and_rest (Take id key) n ns none = (refl, none)
first_and_rest (Clear id) n ns none = (refl, none)

none_after_all : (cs : List (Change StoredValue)) (n : ℕ) (t : Table StoredValue) → is_among n (change_lsns cs) ≡ false
    → is_among n (table_lsns t) ≡ false → is_among n (table_lsns (table_after_all t cs)) ≡ false
none_after_all [] n t own none = none
none_after_all (x ∷ cs) n t own none =
    let both = first_and_rest x n (change_lsns cs) own in
    none_after_all cs n (table_after t x) both.1 (none_after x n t both.0 none)

-- ---- what holds of each state

pub record HaveOwnLsns (s : LogState) : Type 0 where
  -- none is from the next LSN on
  pub entries : (n : ℕ) → s.next ≤ n → is_among n (table_lsns s.entries) ≡ false
  pub changes : (t n : ℕ) → s.next ≤ n → is_among n (lsns_of s t) ≡ false
  pub rising : (t : ℕ) → AreRising (lsns_of s t)
  -- no transaction has that of an entry, and no two transactions have one
  pub new : (t n : ℕ) → is_among n (lsns_of s t) ≡ true → is_among n (table_lsns s.entries) ≡ false
  pub apart : (t u n : ℕ) → (t == u) ≡ false → is_among n (lsns_of s t) ≡ true → is_among n (lsns_of s u) ≡ false

lsn_below : (s : LogState) → HaveOwnLsns s → (t n : ℕ) → is_among n (lsns_of s t) ≡ true → n < s.next
lsn_below s own t n is = ⊎_elim
    (λ lt. lt)
    (λ le. absurd (true≢false (sym is ∙ own.changes t n le)))
    (cases_lt n s.next)

-- a transaction's LSNs stay, or there are none any more, or the transaction tx has the next one more
abbrev Turn : ℕ → ℕ → ℕ → List ℕ → List ℕ → Type 0
Turn next tx t old new = (new ≡ old) ⊎ ((new ≡ []) ⊎ ((t ≡ tx) × (new ≡ old ++ next ∷ [])))

-- After one record. The entries may gain these LSNs, which no transaction has then.
module _ (s u : LogState) (own : HaveOwnLsns s) (tx : ℕ) (gains : ℕ → Bool) (later : u.next ≡ s.next + 1)
    (turn : (t : ℕ) → Turn s.next tx t (lsns_of s t) (lsns_of u t))
    (gained : (n : ℕ) → gains n ≡ false → is_among n (table_lsns s.entries) ≡ false → is_among n (table_lsns u.entries) ≡ false)
    (below : (n : ℕ) → u.next ≤ n → gains n ≡ false)
    (free : (t n : ℕ) → is_among n (lsns_of u t) ≡ true → gains n ≡ false) where
  not_next : (n : ℕ) → u.next ≤ n → (s.next == n) ≡ false
  not_next n le = ne_eqb s.next n (λ same. omega (arith, same, le, later))

  changes_by : (t n : ℕ) → u.next ≤ n → Turn s.next tx t (lsns_of s t) (lsns_of u t) → is_among n (lsns_of u t) ≡ false
  changes_by t n le (inl stays) = ap (is_among n) stays ∙ own.changes t n (omega (arith, le, later))
  changes_by t n le (inr (inl ends)) = ap (is_among n) ends
  changes_by t n le (inr (inr grows)) = ap (is_among n) grows.1
      ∙ none_of_two n (lsns_of s t) (s.next ∷ []) (own.changes t n (omega (arith, le, later)))
      (none_of_both (s.next == n) false (not_next n le) refl)

  rising_by : (t : ℕ) → Turn s.next tx t (lsns_of s t) (lsns_of u t) → AreRising (lsns_of u t)
  rising_by t (inl stays) = subst AreRising (sym stays) (own.rising t)
  rising_by t (inr (inl ends)) = subst AreRising (sym ends) tt
  rising_by t (inr (inr grows)) =
      subst AreRising (sym grows.1) (rising_more (lsns_of s t) s.next (lsn_below s own t) (own.rising t))

  -- an LSN that a transaction has then is one that it had, or the next one
  had_by : (t n : ℕ) → Turn s.next tx t (lsns_of s t) (lsns_of u t) → is_among n (lsns_of u t) ≡ true
      → (is_among n (lsns_of s t) ≡ true) ⊎ ((t ≡ tx) × (s.next ≡ n))
  had_by t n (inl stays) is = inl (sym (ap (is_among n) stays) ∙ is)
  had_by t n (inr (inl ends)) is = absurd (true≢false (sym is ∙ ap (is_among n) ends))
  had_by t n (inr (inr grows)) is = ⊎_elim
      (λ old. inl old)
      (λ new. inr (grows.0, new))
      (one_of_two n s.next (lsns_of s t) (sym (ap (is_among n) grows.1) ∙ is))

  had : (t n : ℕ) → is_among n (lsns_of u t) ≡ true → (is_among n (lsns_of s t) ≡ true) ⊎ ((t ≡ tx) × (s.next ≡ n))
  had t n is = had_by t n (turn t) is

  no_entry : (t n : ℕ) → is_among n (lsns_of u t) ≡ true → is_among n (table_lsns s.entries) ≡ false
  no_entry t n is = ⊎_elim
      (λ old. own.new t n old)
      (λ new. own.entries n (omega (arith, new.1)))
      (had t n is)

  none_by : (t k n : ℕ) → (t == k) ≡ false → is_among n (lsns_of u t) ≡ true
      → Turn s.next tx k (lsns_of s k) (lsns_of u k) → is_among n (lsns_of u k) ≡ false
  none_by t k n other is (inl stays) = ap (is_among n) stays ∙ not_had
    where
      not_had : is_among n (lsns_of s k) ≡ false
      not_had = ⊎_elim
          (λ old. own.apart t k n other old)
          (λ new. own.changes k n (omega (arith, new.1)))
          (had t n is)
  none_by t k n other is (inr (inl ends)) = ap (is_among n) ends
  none_by t k n other is (inr (inr grows)) = ⊎_elim
      (λ old.
      let less : n < s.next = lsn_below s own t n old in
      ap (is_among n) grows.1 ∙ none_of_two n (lsns_of s k) (s.next ∷ []) (own.apart t k n other old)
      (none_of_both (s.next == n) false (ne_eqb s.next n (λ same. omega (arith, same, less))) refl))
      (λ new. absurd (true≢false (sym (eq-eqb t k (new.0 ∙ sym grows.0)) ∙ other)))
      (had t n is)

  own_lsns_stay : HaveOwnLsns u
  own_lsns_stay = record {
    entries = λ n le. gained n (below n le) (own.entries n (omega (arith, le, later)));
    changes = λ t n le. changes_by t n le (turn t);
    rising = λ t. rising_by t (turn t);
    new = λ t n is. gained n (free t n is) (no_entry t n is);
    apart = λ t k n other is. none_by t k n other is (turn k);
  }

-- ---- after each kind of record

-- a change that sets a value gives it the LSN n
abbrev IsSetAt : ℕ → Change StoredValue → Type 0
IsSetAt n (Set id key h) = h.lsn ≡ n
IsSetAt n (Take id key) = Unit {0}
IsSetAt n (Clear id) = Unit {0}

own_lsn : (n : ℕ) (x : Change StoredValue) → IsSetAt n x → (with_lsn_of x [] ≡ []) ⊎ (with_lsn_of x [] ≡ n ∷ [])
own_lsn n (Set id key h) is = inr (ap (λ m. m ∷ []) is)
own_lsn n (Take id key) is = inl refl
own_lsn n (Clear id) is = inl refl

not_own : (n m : ℕ) (x : Change StoredValue) → IsSetAt n x → n ≢ m → is_among m (with_lsn_of x []) ≡ false
not_own n m (Set id key h) is other =
    none_of_both (h.lsn == m) false (ne_eqb h.lsn m (λ same. other (sym is ∙ same))) refl
not_own n m (Take id key) is other = refl
not_own n m (Clear id) is other = refl

module _ (s : LogState) (own : HaveOwnLsns s) where
  -- a change outside a transaction
  own_outside : (x : Change StoredValue) → IsSetAt s.next x
      → HaveOwnLsns (record { entries = table_after s.entries x; active = s.active; next = s.next + 1 })
  own_outside x is =
      let u : LogState = record { entries = table_after s.entries x; active = s.active; next = s.next + 1 } in
      own_lsns_stay s u own 0 (λ n. is_among n (with_lsn_of x [])) refl
      (λ t. inl refl)
      (λ n. none_after x n s.entries)
      (λ n le. not_own s.next n x is (λ same. omega (arith, same, le)))
      (λ t n held. let less : n < s.next = lsn_below s own t n held in
      not_own s.next n x is (λ same. omega (arith, same, less)))

  -- the entries stay
  own_inside : (u : LogState) (tx : ℕ) → u.next ≡ s.next + 1 → u.entries ≡ s.entries
      → ((t : ℕ) → Turn s.next tx t (lsns_of s t) (lsns_of u t)) → HaveOwnLsns u
  own_inside u tx later same turn = own_lsns_stay s u own tx (λ n. false) later turn
      (λ n _ none. ap (λ e. is_among n (table_lsns e)) same ∙ none) (λ n le. refl) (λ t n held. refl)

  with_change_turn : (tx : ℕ) (x : Change StoredValue) → IsSetAt s.next x → (t : ℕ)
      → Turn s.next tx t (lsns_of s t) (change_lsns (changes_of (with_change s.active tx x) t))
  with_change_turn tx x is t = by_own (t == tx) refl
    where
      more : (with_lsn_of x [] ≡ []) ⊎ (with_lsn_of x [] ≡ s.next ∷ []) → t ≡ tx
          → change_lsns (changes_of (with_change s.active tx x) t) ≡ lsns_of s t ++ with_lsn_of x []
          → Turn s.next tx t (lsns_of s t) (change_lsns (changes_of (with_change s.active tx x) t))
      more (inl none) same now = inl (now ∙ ap (λ ns. lsns_of s t ++ ns) none ∙ append-nil (lsns_of s t))
      more (inr one) same now = inr (inr (same, now ∙ ap (λ ns. lsns_of s t ++ ns) one))

      by_open : (b : Bool) → is_open_tx s.active t ≡ b → t ≡ tx
          → Turn s.next tx t (lsns_of s t) (change_lsns (changes_of (with_change s.active tx x) t))
      by_open true opened same = more (own_lsn s.next x is) same
          (ap (λ k. change_lsns (changes_of (with_change s.active k x) t)) (sym same)
          ∙ ap change_lsns (changes_of_own s.active t x opened)
          ∙ change_lsns-append (changes_of s.active t) (x ∷ []))
      by_open false closed same = inl
          (ap change_lsns (changes_of_none (with_change s.active tx x) t (open_with_change s.active tx t x ∙ closed)
          ∙ sym (changes_of_none s.active t closed)))

      by_own : (b : Bool) → (t == tx) ≡ b
          → Turn s.next tx t (lsns_of s t) (change_lsns (changes_of (with_change s.active tx x) t))
      by_own true same = by_open (is_open_tx s.active t) refl (eqb-true t tx same)
      by_own false other = inl (ap change_lsns (changes_of_other s.active tx t x other))

  own_changed : (tx : ℕ) (x : Change StoredValue) → IsSetAt s.next x → HaveOwnLsns (after_change s tx x)
  own_changed tx x is = elim (tx == 0) as (λ b. HaveOwnLsns (cond {A = LogState} b
      (record { entries = table_after s.entries x; active = s.active; next = s.next + 1 })
      (record { entries = s.entries; active = with_change s.active tx x; next = s.next + 1 }))) [
        | true ↦ own_outside x is
        | false ↦ own_inside (record { entries = s.entries; active = with_change s.active tx x; next = s.next + 1 }) tx
            refl refl (with_change_turn tx x is)
      ]

  ended_turn : (tx t : ℕ) → Turn s.next tx t (lsns_of s t) (change_lsns (changes_of (without_transaction s.active tx) t))
  ended_turn tx t = by_own (t == tx) refl
    where
      by_own : (b : Bool) → (t == tx) ≡ b
          → Turn s.next tx t (lsns_of s t) (change_lsns (changes_of (without_transaction s.active tx) t))
      by_own true same = inr (inl
          (ap (λ k. change_lsns (changes_of (without_transaction s.active tx) k)) (eqb-true t tx same)
          ∙ ap change_lsns (changes_of_own_ended s.active tx)))
      by_own false other = inl (ap change_lsns (changes_of_ended s.active tx t other))

  own_committed : (tx : ℕ) → HaveOwnLsns (after_by s tx action.Commit)
  own_committed tx = own_lsns_stay s (after_by s tx action.Commit) own tx (λ n. is_among n (lsns_of s tx)) refl
      (ended_turn tx)
      (λ n. none_after_all (changes_of s.active tx) n s.entries)
      (λ n le. own.changes tx n (omega (arith, le)))
      (λ t n held. by_own t n (t == tx) refl held)
    where
      by_own : (t n : ℕ) (b : Bool) → (t == tx) ≡ b
          → is_among n (change_lsns (changes_of (without_transaction s.active tx) t)) ≡ true → is_among n (lsns_of s tx) ≡ false
      by_own t n true same held = absurd (true≢false (sym held
          ∙ ap (λ k. is_among n (change_lsns (changes_of (without_transaction s.active tx) k))) (eqb-true t tx same)
          ∙ ap (λ cs. is_among n (change_lsns cs)) (changes_of_own_ended s.active tx)))
      by_own t n false other held = own.apart t tx n other
          (sym (ap (λ cs. is_among n (change_lsns cs)) (changes_of_ended s.active tx t other)) ∙ held)

  own_after : (tx : ℕ) (a : Action) → HaveOwnLsns (after_by s tx a)
  own_after tx (action.Put id key value) = own_changed tx (Set id key (record { value = value; lsn = s.next })) refl
  own_after tx (action.Remove id key) = own_changed tx (Take id key) tt
  own_after tx (action.Delete id) = own_changed tx (Clear id) tt
  own_after tx action.Begin = own_inside (after_by s tx action.Begin) 0 refl refl
      (λ t. inl (ap change_lsns (changes_of_begun s.active s.next t)))
  own_after tx action.Commit = own_committed tx
  own_after tx (action.Compaction id key value) = own_outside (Set id key (record { value = value; lsn = s.next })) refl
  own_after tx action.Mark = own_inside (after_by s tx action.Mark) 0 refl refl (λ t. inr (inl refl))
  own_after tx action.Abandon = own_inside (after_by s tx action.Abandon) tx refl refl (ended_turn tx)

own_after_all : (rs : List Record) (s : LogState) → HaveOwnLsns s → HaveOwnLsns (state_after s rs)
own_after_all [] s own = own
own_after_all (r ∷ rs) s own = own_after_all rs (after_record s r) (own_after s own r.tx r.action)

own_at_start : (t : Table StoredValue) (next : ℕ) → AreStoredBefore next t → HaveOwnLsns (settled_state t next)
own_at_start t next stored = record {
  entries = λ n le. none_from t n le stored;
  changes = λ k n le. refl;
  rising = λ k. tt;
  new = λ k n is. absurd (true≢false (sym is));
  apart = λ k u n other is. refl;
}
  where
    none_from : (es : Table StoredValue) (n : ℕ) → next ≤ n → AreStoredBefore next es → is_among n (table_lsns es) ≡ false
    none_from [] n le all = refl
    none_from (e ∷ es) n le all = none_of_both (e.1.lsn == n) _
        (ne_eqb e.1.lsn n (λ same. omega (arith, same, le, all.0))) (none_from es n le all.1)

-- What a session has drawn so far has LSNs of its own.
pub session_has_own_lsns : (h : SessionHistory) → IsSession h → HaveOwnLsns (drawing_of h).log
session_has_own_lsns h is = subst HaveOwnLsns (sym (session_is_shown h is).log)
    (own_after_all (drawn_records h) (opened h).log (own_at_start h.entries (h.opening + 1) is.stored))

-- ---- new LSNs

new_from : (t : Table StoredValue) (ns : List ℕ) → AreRising ns
    → ((n : ℕ) → is_among n ns ≡ true → is_among n (table_lsns t) ≡ false) → AreNew t ns
new_from t [] rising new = tt
new_from t (n ∷ ns) rising new = (
  new n (or_left (n == n) _ (eq-eqb n n refl)),
  rising.0,
  new_from t ns rising.1 (λ m is. new m (or_right (n == m) _ is)),
)

lsns_are : (op : Op) (ops : List Op) → put_lsns (puts_among ops) ≡ change_lsns (map change_by ops)
    → put_lsns (puts_among (op ∷ ops)) ≡ change_lsns (map change_by (op ∷ ops))
lsns_are (Put id key value lsn) ops rest = ap (λ ns. lsn ∷ ns) rest
lsns_are (Remove id key) ops rest = rest
lsns_are (Delete id) ops rest = rest

put_lsns_are : (ops : List Op) → put_lsns (puts_among ops) ≡ change_lsns (map change_by ops)
put_lsns_are [] = refl
put_lsns_are (op ∷ ops) = lsns_are op ops (put_lsns_are ops)

-- The next LSN is new to the entries.
pub next_is_new : (s : LogState) → HaveOwnLsns s → AreNew s.entries (s.next ∷ [])
next_is_new s own = (own.entries s.next (omega arith), tt, tt)

-- So are those of a transaction's puts.
pub puts_are_new : (s : LogState) → HaveOwnLsns s → (tx : ℕ) (ops : List Op) → map change_by ops ≡ changes_of s.active tx
    → AreNew s.entries (put_lsns (puts_among ops))
puts_are_new s own tx ops are =
    subst (AreNew s.entries) (sym (put_lsns_are ops ∙ ap change_lsns are))
    (new_from s.entries (lsns_of s tx) (own.rising tx) (own.new tx))
