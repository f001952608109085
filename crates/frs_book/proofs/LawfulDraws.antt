-- The record that a client draws for an action is lawful where the agreement holds and nobody's change conflicts.
use Rattle.std.proofs.Common.{◌≡◌, ◌≢◌, ℕ, ◌<◌, ◌≤◌, Bool, true, false, ◌||◌, ◌==◌, List, [], ◌∷◌}
use Rattle.std.proofs.Common.{Option, Some, None, refl, sym, ap, ◌∙◌, arith, eq-eqb}
use Rattle.std.proofs.Common.{option_map, unwrap_or, is_some, ne_eqb}
use Rattle.std.specs.List.{AllByRecursion, list_any}
use Rattle.std.proofs.lemmas.Bool.{and_from, lt-ltb, le-leb}
use Rattle.std.proofs.lemmas.Slice.Eq.{bytes_eq-Decides}
use Rattle.frs_types.specs.declared.lock.Lock.{Lock}
use Rattle.frs_types.specs.declared.lock.Lock.TheVariants.{OnKey, OnMap}
use Rattle.frs_types.specs.declared.record.Action.{Action}
use Rattle.frs_types.specs.declared.record.Action.TheVariants.{Put, Remove, Delete, Begin, Commit, Compaction, Mark, Abandon}
use Rattle.frs_types.specs.Maps.{Place, Table, Change, at, table_after_all}
use Rattle.frs_types.specs.Maps.Change.{Set, Take, Clear}
use Rattle.frs_types.specs.Records.{kind_allows, has_words}
use Rattle.frs_types.specs.Locks.{Holder, holder_at, do_conflict}
use Rattle.frs_types.specs.Lawful.{StoredValue, Open, is_open_tx, changes_of, lowest, named_at, is_alone}
use Rattle.frs_types.specs.Lawful.{has_tx, is_stored, fits_by, is_lawful}
use Rattle.frs_types.proofs.ActiveChanges.{changes_of_none}
use Rattle.frs_types.proofs.LowestRises.{ChangeFrom, OpenFrom, StateFrom, lowest_from, needed}
use Rattle.frs_types.proofs.LowestRises.{least_at_most}
use Rattle.frs_history.specs.Machine.{Transaction, State, Scripts, client}
use Rattle.frs_history.specs.Machine.Transaction.{Outside, Active, Abandoned}
use Rattle.frs_book.specs.Drawn.{Drawing, begin_of, tx_for, named_for, record_for}
use Rattle.frs_book.specs.Agreement.{IsStoredBefore, IsChangeBefore, IsOpenOf, IsDrawnBy, Agreement}
use Rattle.frs_book.proofs.EachStored.{each_to, stored_at}
use Rattle.frs_book.proofs.Unhindered.{alone_among}
use Rattle.frs_book.proofs.LogEffects.{begin_below, seen_below}

-- ---- the lowest

change_from_one : (n : ℕ) (x : Change StoredValue) → IsChangeBefore n x → ChangeFrom 1 x
change_from_one n (Set id key h) is = omega (arith, is.0)
change_from_one n (Take id key) is = tt
change_from_one n (Clear id) is = tt

stored_lsn : (t : Table StoredValue) (p : Place) (h : StoredValue) → at t p ≡ Some h
    → unwrap_or (option_map (λ (k : StoredValue). k.lsn) (at t p)) 0 ≡ h.lsn
stored_lsn t p h is = ap (λ o. unwrap_or (option_map (λ (k : StoredValue). k.lsn) o) 0) is

module _ (scripts : Scripts) (s : State) (d : Drawing) (agrees : Agreement scripts s d) where
  from_one : StateFrom 1 d.log
  from_one = record {
    next = omega (arith, agrees.next);
    entries = each_to (λ (e : Place × StoredValue). IsStoredBefore d.log.next e.1) _
        (λ (e : Place × StoredValue) (is : IsStoredBefore d.log.next e.1). omega (arith, is.0)) d.log.entries agrees.stored;
    active = each_to (IsOpenOf s d) (OpenFrom 1) (λ o (is : IsOpenOf s d o).
        (omega (arith, is.above), each_to (IsChangeBefore d.log.next) (ChangeFrom 1) (change_from_one d.log.next) o.changes is.changes))
        d.log.active agrees.owned;
  }

  lowest_above : 0 < lowest d.log
  lowest_above = let le : 1 ≤ lowest d.log = lowest_from 1 d.log from_one in omega arith

  lowest_below : lowest d.log ≤ d.log.next
  lowest_below = least_at_most d.log.next (needed d.log)

  -- ---- names

  named_below_by : (o : Option StoredValue) (tx : ℕ) (p : Place)
      → at (table_after_all d.log.entries (changes_of d.log.active tx)) p ≡ o → named_at d.log tx p < d.log.next
  named_below_by None tx p is =
      let none : named_at d.log tx p ≡ 0 = ap (λ o. unwrap_or (option_map (λ (k : StoredValue). k.lsn) o) 0) is in
      omega (arith, none, agrees.next)
  named_below_by (Some h) tx p is =
      let seen = table_after_all d.log.entries (changes_of d.log.active tx) in
      let held : IsStoredBefore d.log.next h = stored_at d.log.next p h seen (seen_below scripts s d agrees tx) is in
      let own : named_at d.log tx p ≡ h.lsn = stored_lsn seen p h is in
      omega (arith, own, held.1)

  pub named_below : (tx : ℕ) (p : Place) → named_at d.log tx p < d.log.next
  named_below tx p = named_below_by (at (table_after_all d.log.entries (changes_of d.log.active tx)) p) tx p refl

  named_above_by : (o : Option StoredValue) (tx : ℕ) (p : Place)
      → at (table_after_all d.log.entries (changes_of d.log.active tx)) p ≡ o → is_some o ≡ true → 0 < named_at d.log tx p
  named_above_by None tx p is some = absurd cc
  named_above_by (Some h) tx p is some =
      let seen = table_after_all d.log.entries (changes_of d.log.active tx) in
      let held : IsStoredBefore d.log.next h = stored_at d.log.next p h seen (seen_below scripts s d agrees tx) is in
      let own : named_at d.log tx p ≡ h.lsn = stored_lsn seen p h is in
      omega (arith, own, held.0)

  -- ---- a record

  -- its lowest is right: what is left is what its kind asks
  pub lawful_from : (c : ℕ) (a : Action)
      → kind_allows d.log.next a (tx_for d c a) (named_for d.log (tx_for d c a) a) ≡ true
      → named_for d.log (tx_for d c a) a < d.log.next → has_words a ≡ true
      → fits_by d.log (tx_for d c a) (named_for d.log (tx_for d c a) a) a ≡ true
      → is_lawful d.log (record_for d c a) ≡ true
  lawful_from c a kind named words fits =
      and_from _ _ (and_from _ _
      (and_from _ _ (and_from _ _ (and_from _ _ (and_from _ _ kind (lt-ltb _ _ named)) (lt-ltb _ _ lowest_above))
      (le-leb _ _ lowest_below)) words)
      (eq-eqb (lowest d.log) (lowest d.log) refl)) fits

  -- ---- the client's transaction

  has_tx_by : (b : ℕ) (tx : Transaction) (h : Holder) → IsDrawnBy d.log b tx h → has_tx d.log b ≡ true
  has_tx_by b Outside h is = ap (λ e. e || is_open_tx d.log.active b) (eq-eqb b 0 is.0)
  has_tx_by b Abandoned h is = ap (λ e. e || is_open_tx d.log.active b) (eq-eqb b 0 is.0)
  has_tx_by b (Active sync changes) h is = or_second (b == 0) (is_open_tx d.log.active b) is.2
    where
      or_second : (p q : Bool) → q ≡ true → (p || q) ≡ true
      or_second true q is = refl
      or_second false q is = is

  has_own_tx : (c : ℕ) → has_tx d.log (begin_of d c) ≡ true
  has_own_tx c = has_tx_by (begin_of d c) (client s c).tx (holder_at s.holders c) (agrees.drawn c)

  abbrev pub IsFree : ℕ → Lock → Type 0
  IsFree c lock = (e : ℕ) → e ≢ c → list_any (do_conflict lock) (holder_at s.holders e).locks ≡ false

  alone_at : (c : ℕ) (lock : Lock) → IsFree c lock → is_alone d.log (begin_of d c) lock ≡ true
  alone_at c lock free = alone_among s d (begin_of d c) lock (λ e apart. free e (λ same. apart (ap (begin_of d) same)))
      d.log.active agrees.owned

  -- ---- by kind

  pub lawful_put : (c : ℕ) (id key value : List ℕ) → IsFree c (OnKey id key) → has_words (Put id key value) ≡ true
      → is_lawful d.log (record_for d c (Put id key value)) ≡ true
  lawful_put c id key value free words = lawful_from c (Put id key value)
      (lt-ltb _ _ (begin_below scripts s d agrees c)) (named_below (begin_of d c) (id, key)) words
      (and_from _ _ (and_from _ _ (has_own_tx c) (alone_at c (OnKey id key) free))
      (eq-eqb (named_at d.log (begin_of d c) (id, key)) (named_at d.log (begin_of d c) (id, key)) refl))

  pub lawful_remove : (c : ℕ) (id key : List ℕ) → IsFree c (OnKey id key) → has_words (Remove id key) ≡ true
      → is_some (at (table_after_all d.log.entries (changes_of d.log.active (begin_of d c))) (id, key)) ≡ true
      → is_lawful d.log (record_for d c (Remove id key)) ≡ true
  lawful_remove c id key free words there = lawful_from c (Remove id key)
      (lt-ltb _ _ (begin_below scripts s d agrees c)) (named_below (begin_of d c) (id, key)) words
      (and_from _ _ (and_from _ _ (and_from _ _ (has_own_tx c) (alone_at c (OnKey id key) free))
      (eq-eqb (named_at d.log (begin_of d c) (id, key)) (named_at d.log (begin_of d c) (id, key)) refl))
      (lt-ltb _ _ (named_above_by _ (begin_of d c) (id, key) refl there)))

  pub lawful_delete : (c : ℕ) (id : List ℕ) → IsFree c (OnMap id) → has_words (Delete id) ≡ true
      → is_lawful d.log (record_for d c (Delete id)) ≡ true
  lawful_delete c id free words = lawful_from c (Delete id)
      (and_from _ _ (lt-ltb _ _ (begin_below scripts s d agrees c)) refl) agrees.next words
      (and_from _ _ (has_own_tx c) (alone_at c (OnMap id) free))

  pub lawful_begin : (c : ℕ) → is_lawful d.log (record_for d c Begin) ≡ true
  lawful_begin c = lawful_from c Begin (and_from _ _ (eq-eqb d.log.next d.log.next refl) refl) agrees.next refl refl

  pub lawful_commit : (c : ℕ) → 0 < begin_of d c → is_open_tx d.log.active (begin_of d c) ≡ true
      → is_lawful d.log (record_for d c Commit) ≡ true
  lawful_commit c above active = lawful_from c Commit
      (and_from _ _ (and_from _ _ (lt-ltb _ _ above) (lt-ltb _ _ (begin_below scripts s d agrees c))) refl)
      agrees.next refl active

  pub lawful_abandon : (c : ℕ) → 0 < begin_of d c → is_open_tx d.log.active (begin_of d c) ≡ true
      → is_lawful d.log (record_for d c Abandon) ≡ true
  lawful_abandon c above active = lawful_from c Abandon
      (and_from _ _ (and_from _ _ (lt-ltb _ _ above) (lt-ltb _ _ (begin_below scripts s d agrees c))) refl)
      agrees.next refl active

  pub lawful_mark : (c : ℕ) → is_lawful d.log (record_for d c Mark) ≡ true
  lawful_mark c = lawful_from c Mark refl agrees.next refl refl

  pub none_at_zero : (active : List Open) → AllByRecursion (IsOpenOf s d) active → is_open_tx active 0 ≡ false
  none_at_zero [] all = refl
  none_at_zero (o ∷ active) all =
      ap (λ b. b || is_open_tx active 0) (ne_eqb o.begin 0 (λ same. omega (arith, same, all.0.above)))
      ∙ none_at_zero active all.1

  pub lawful_compaction : (c : ℕ) (id key : List ℕ) (h : StoredValue) → at d.log.entries (id, key) ≡ Some h
      → ((e : ℕ) → list_any (do_conflict (OnKey id key)) (holder_at s.holders e).locks ≡ false)
      → has_words (Compaction id key h.value) ≡ true → is_lawful d.log (record_for d c (Compaction id key h.value)) ≡ true
  lawful_compaction c id key h held free words =
      let none : changes_of d.log.active 0 ≡ [] = changes_of_none d.log.active 0 (none_at_zero d.log.active agrees.owned) in
      let same : table_after_all d.log.entries (changes_of d.log.active 0) ≡ d.log.entries =
      ap (table_after_all d.log.entries) none in
      let seen : at (table_after_all d.log.entries (changes_of d.log.active 0)) (id, key) ≡ Some h =
      ap (λ t. at t (id, key)) same ∙ held in
      let own : named_at d.log 0 (id, key) ≡ h.lsn =
      stored_lsn (table_after_all d.log.entries (changes_of d.log.active 0)) (id, key) h seen in
      let was : IsStoredBefore d.log.next h = stored_at d.log.next (id, key) h d.log.entries agrees.stored held in
      lawful_from c (Compaction id key h.value)
      (and_from _ _ refl (lt-ltb _ _ (omega (arith, own, was.0))))
      (named_below 0 (id, key)) words
      (and_from _ _
      (ap (λ o. is_stored o h.value (named_at d.log 0 (id, key))) held
      ∙ and_from _ _ ((bytes_eq-Decides h.value h.value).1 refl) (eq-eqb h.lsn _ (sym own)))
      (alone_among s d 0 (OnKey id key) (λ e _. free e) d.log.active agrees.owned))
