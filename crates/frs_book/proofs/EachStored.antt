-- What holds of each entry and of each change holds after changes, and of the entry that a place has.
use Rattle.std.proofs.Common.{◌≡◌, ℕ, ◌≤◌, Bool, true, false, cond, not, ◌==◌, List, [], ◌∷◌, ◌++◌}
use Rattle.std.proofs.Common.{T, Option, Some, Less, Equal, Greater, refl, sym, ap, ◌∙◌, subst, option_map, is_lt, arith}
use Rattle.std.specs.List.{AllByRecursion}
use Rattle.std.specs.Ordering.{eq_by_cmp}
use Rattle.std.specs.FinMap.Entries.{put, where_key, by_order, below_all, is_sorted, same_entries}
use Rattle.std.proofs.lemmas.Option.{same_Some}
use Rattle.frs_types.specs.declared.record.Action.TheVariants as action
use Rattle.frs_types.specs.Maps.{Place, Table, Change, IsTable, place_cmp, same_place, at, table_after, table_after_all}
use Rattle.frs_types.specs.Maps.Change.{Set, Take, Clear}
use Rattle.frs_types.specs.Lawful.{StoredValue, Open, settled_state, plain_maps, with_change, without_transaction, changes_of}
use Rattle.frs_types.proofs.BackwardIsForward.{sorted_by}
use Rattle.frs_types.proofs.Changes.{place_total, place_from_tie, same_place-Decides, at-table_after}
use Rattle.frs_types.proofs.Truth.{and_first, and_second, and_both, is_true, from_is_true}
use Rattle.frs_book.specs.Agreement.{IsStoredBefore, AreStoredBefore, IsChangeBefore}

-- ---- lists

pub each_to : {X : Type 0} (P Q : X → Type 0) → ((x : X) → P x → Q x) → (xs : List X) → AllByRecursion P xs
    → AllByRecursion Q xs
each_to P Q step [] all = tt
each_to P Q step (x ∷ xs) all = (step x all.0, each_to P Q step xs all.1)

-- the same, with one more behind
pub each_to_more : {X : Type 0} (P Q : X → Type 0) → ((x : X) → P x → Q x) → (xs : List X) (y : X) → AllByRecursion P xs
    → Q y → AllByRecursion Q (xs ++ y ∷ [])
each_to_more P Q step [] y all own = (own, tt)
each_to_more P Q step (x ∷ xs) y all own = (step x all.0, each_to_more P Q step xs y all.1 own)

-- ---- tables

module _ (P : StoredValue → Type 0) where
  abbrev Each : Table StoredValue → Type 0
  Each t = AllByRecursion (λ (e : Place × StoredValue). P e.1) t

  each_put : (p : Place) (h : StoredValue) (t : Table StoredValue) → P h → Each t → Each (put place_cmp p h t)
  each_put p h [] own all = (own, tt)
  each_put p h (e ∷ t) own all =
      elim (place_cmp p e.0) as (λ o. Each (by_order o ((p, h) ∷ e ∷ t) ((e.0, h) ∷ t) (e ∷ put place_cmp p h t))) [
        | Less ↦ (own, all)
        | Equal ↦ (own, all.1)
        | Greater ↦ (all.0, each_put p h t own all.1)
      ]

  each_where : (test : Place → Bool) (t : Table StoredValue) → Each t → Each (where_key place_cmp test t)
  each_where test [] all = tt
  each_where test (e ∷ t) all =
      elim (test e.0) as (λ b. Each (cond b (e ∷ where_key place_cmp test t) (where_key place_cmp test t))) [
        | true ↦ (all.0, each_where test t all.1)
        | false ↦ each_where test t all.1
      ]

  each_at : (p : Place) (h : StoredValue) (t : Table StoredValue) → Each t → at t p ≡ Some h → P h
  each_at p h [] all is = absurd cc
  each_at p h (e ∷ t) all is =
      elim (eq_by_cmp place_cmp p e.0) as (λ b. cond b (Some e.1) (at t p) ≡ Some h → P h) [
        | true ↦ λ here. subst P (same_Some _ _ here) all.0
        | false ↦ λ later. each_at p h t all.1 later
      ] is

-- ---- entries and changes from before an LSN

pub stored_after : (n : ℕ) (x : Change StoredValue) (t : Table StoredValue) → IsChangeBefore n x → AreStoredBefore n t
    → AreStoredBefore n (table_after t x)
stored_after n (Set id key h) t own all = each_put (IsStoredBefore n) (id, key) h t own all
stored_after n (Take id key) t own all = each_where (IsStoredBefore n) _ t all
stored_after n (Clear id) t own all = each_where (IsStoredBefore n) _ t all

pub stored_after_all : (n : ℕ) (cs : List (Change StoredValue)) (t : Table StoredValue)
    → AllByRecursion (IsChangeBefore n) cs → AreStoredBefore n t → AreStoredBefore n (table_after_all t cs)
stored_after_all n [] t each all = all
stored_after_all n (x ∷ cs) t each all =
    stored_after_all n cs (table_after t x) each.1 (stored_after n x t each.0 all)

pub stored_at : (n : ℕ) (p : Place) (h : StoredValue) (t : Table StoredValue) → AreStoredBefore n t
    → at t p ≡ Some h → IsStoredBefore n h
stored_at n p h t all is = each_at (IsStoredBefore n) p h t all is

stored_later : (n m : ℕ) → n ≤ m → (h : StoredValue) → IsStoredBefore n h → IsStoredBefore m h
stored_later n m le h is = (is.0, omega (arith, is.1))

pub entries_later : (n m : ℕ) → n ≤ m → (t : Table StoredValue) → AreStoredBefore n t → AreStoredBefore m t
entries_later n m le t all = each_to _ _ (λ (e : Place × StoredValue). stored_later n m le e.1) t all

pub change_later : (n m : ℕ) → n ≤ m → (x : Change StoredValue) → IsChangeBefore n x → IsChangeBefore m x
change_later n m le (Set id key h) is = stored_later n m le h is
change_later n m le (Take id key) is = tt
change_later n m le (Clear id) is = tt

pub changes_later : (n m : ℕ) → n ≤ m → (cs : List (Change StoredValue)) → AllByRecursion (IsChangeBefore n) cs
    → AllByRecursion (IsChangeBefore m) cs
changes_later n m le cs all = each_to _ _ (change_later n m le) cs all

-- ---- plain maps

pub at-plain : (p : Place) (t : Table StoredValue) → at (plain_maps t) p ≡ option_map (λ (h : StoredValue). h.value) (at t p)
at-plain p [] = refl
at-plain p (e ∷ t) =
    elim (eq_by_cmp place_cmp p e.0) as (λ b. cond b (Some e.1.value) (at (plain_maps t) p)
    ≡ option_map (λ (h : StoredValue). h.value) (cond b (Some e.1) (at t p))) [
      | true ↦ refl
      | false ↦ at-plain p t
    ]

-- ---- active transactions

module _ (P Q : Open → Type 0) where
  -- after one more change of the transaction tx
  pub opens_with_change : (active : List Open) (tx : ℕ) (x : Change StoredValue)
      → ((o : Open) → (o.begin == tx) ≡ true → P o → Q (record o { changes = o.changes ++ x ∷ [] }))
      → ((o : Open) → (o.begin == tx) ≡ false → P o → Q o)
      → AllByRecursion P active → AllByRecursion Q (with_change active tx x)
  opens_with_change [] tx x own other all = tt
  opens_with_change (o ∷ active) tx x own other all = (
    elim (o.begin == tx) as (λ b. (o.begin == tx) ≡ b
        → Q (cond b (record o { changes = o.changes ++ x ∷ [] }) o)) [
          | true ↦ λ is. own o is all.0
          | false ↦ λ is. other o is all.0
        ] refl,
    opens_with_change active tx x own other all.1,
  )

  -- without the transaction tx
  pub opens_without : (active : List Open) (tx : ℕ) → ((o : Open) → (o.begin == tx) ≡ false → P o → Q o)
      → AllByRecursion P active → AllByRecursion Q (without_transaction active tx)
  opens_without [] tx other all = tt
  opens_without (o ∷ active) tx other all =
      elim (o.begin == tx) as (λ b. (o.begin == tx) ≡ b → AllByRecursion Q
      (cond (not b) (o ∷ without_transaction active tx) (without_transaction active tx))) [
        | true ↦ λ _. opens_without active tx other all.1
        | false ↦ λ is. (other o is all.0, opens_without active tx other all.1)
      ] refl

-- what holds of each active transaction's changes holds of those of one
pub each_of_changes : (P : Change StoredValue → Type 0) (active : List Open) (tx : ℕ)
    → AllByRecursion (λ (o : Open). AllByRecursion P o.changes) active → AllByRecursion P (changes_of active tx)
each_of_changes P [] tx all = tt
each_of_changes P (o ∷ active) tx all =
    elim (o.begin == tx) as (λ b. AllByRecursion P (cond b o.changes (changes_of active tx))) [
      | true ↦ all.0
      | false ↦ each_of_changes P active tx all.1
    ]

-- ---- tables in order

-- of frs_types' states, said of a table alone
pub table_sorted : (t : Table StoredValue) (x : Change StoredValue) → IsTable t → IsTable (table_after t x)
table_sorted t (Set id key h) is =
    is_true _ (sorted_by (settled_state t h.lsn) 0 (action.Put id key h.value) (from_is_true _ is))
table_sorted t (Take id key) is = is_true _ (sorted_by (settled_state t 0) 0 (action.Remove id key) (from_is_true _ is))
table_sorted t (Clear id) is = is_true _ (sorted_by (settled_state t 0) 0 (action.Delete id) (from_is_true _ is))

pub table_sorted_all : (t : Table StoredValue) (cs : List (Change StoredValue)) → IsTable t → IsTable (table_after_all t cs)
table_sorted_all t [] is = is
table_sorted_all t (x ∷ cs) is = table_sorted_all (table_after t x) cs (table_sorted t x is)

plain_below : (p : Place) (t : Table StoredValue) → T (below_all place_cmp p t) → T (below_all place_cmp p (plain_maps t))
plain_below p [] is = tt
plain_below p (e ∷ t) is =
    let rest = below_all place_cmp p t in
    and_both (is_lt (place_cmp p e.0)) (below_all place_cmp p (plain_maps t)) (and_first (is_lt (place_cmp p e.0)) rest is)
    (plain_below p t (and_second (is_lt (place_cmp p e.0)) rest is))

plain_in_order : (t : Table StoredValue) → T (is_sorted place_cmp t) → T (is_sorted place_cmp (plain_maps t))
plain_in_order [] is = tt
plain_in_order (e ∷ t) is =
    let below = below_all place_cmp e.0 t in
    and_both (below_all place_cmp e.0 (plain_maps t)) (is_sorted place_cmp (plain_maps t))
    (plain_below e.0 t (and_first below (is_sorted place_cmp t) is))
    (plain_in_order t (and_second below (is_sorted place_cmp t) is))

-- A value under another LSN leaves the plain maps as they are.
pub plain_again : (id key : List ℕ) (h : StoredValue) (n : ℕ) (t : Table StoredValue) → IsTable t
    → at t (id, key) ≡ Some h → plain_maps t ≡ plain_maps (table_after t (Set id key (record { value = h.value; lsn = n })))
plain_again id key h n t sorted held =
    let new : Change StoredValue = Set id key (record { value = h.value; lsn = n }) in
    let now = table_after t new in
    same_entries place_cmp place_total (λ p q tie. sym (place_from_tie p q tie)) (plain_maps t) (plain_maps now)
    (plain_in_order t (from_is_true _ sorted)) (plain_in_order now (from_is_true _ (table_sorted t new sorted)))
    (λ q. at-plain q t ∙ at_place q (same_place (id, key) q) refl ∙ sym (ap value_in (at-table_after q new t)) ∙ sym (at-plain q now))
  where
    value_in : Option StoredValue → Option (List ℕ)
    value_in o = option_map (λ (k : StoredValue). k.value) o

    at_place : (q : Place) (b : Bool) → same_place (id, key) q ≡ b
        → value_in (at t q) ≡ value_in (cond (same_place (id, key) q) (Some (record { value = h.value; lsn = n })) (at t q))
    at_place q true is =
        ap (λ p. value_in (at t p)) (sym ((same_place-Decides (id, key) q).0 is)) ∙ ap value_in held
        ∙ ap (λ b. value_in (cond b (Some (record { value = h.value; lsn = n })) (at t q))) (sym is)
    at_place q false is = ap (λ b. value_in (cond b (Some (record { value = h.value; lsn = n })) (at t q))) (sym is)
