-- The rows that contracts see of a keeper's seat, and which of them a change leaves.
use Rattle.std.proofs.Common.{◌≡◌, ◌≢◌, ◌⊎◌, ◌≤◌, inl, inr, ⊎_elim, ℕ, zero, suc, ◌-◌, List, [], ◌∷◌, map, set, Some, refl, sym, ap, ◌∙◌, subst, arith}
use Rattle.std.specs.Prelude.{slice_get}
use Rattle.std.proofs.lemmas.List.{set-get_or}
use Rattle.std.proofs.lemmas.Option.{get_or_from_slice_get}
use mathlib.Core.Option.{some, some-ne-none, some-injective}
use lib.ListN.{get_elem?}
use Rattle.atomic_table.specs.Seated.{TableId}
use Rattle.frs_rows.specs.Seats.{Lending, row_in, lent_row}
use Rattle.frs_rows.specs.Rows.{KeeperView, HoldView, keeper_view, hold_view, client_row, with_client_row, HasRowOf, OtherRowsStay}

-- ---- a list after one of its elements was set

-- what stands at a place then: the new element, or at another place what stood there
pub at_place : {A : Type 0} (xs : List A) (i j : ℕ) (x y : A) → slice_get (set xs i x) j ≡ Some y
    → ((j ≡ i) × (x ≡ y)) ⊎ ((j ≢ i) × (slice_get xs j ≡ Some y))
at_place [] i j x y e = absurd (cc)
at_place (a ∷ xs) zero zero x y e = inl (refl, cc)
at_place (a ∷ xs) zero (suc j) x y e = inr ((λ q. absurd (omega arith)), e)
at_place (a ∷ xs) (suc i) zero x y e = inr ((λ q. absurd (omega arith)), e)
at_place (a ∷ xs) (suc i) (suc j) x y e =
    ⊎_elim (λ t. inl (ap suc t.0, t.1)) (λ t. inr ((λ q. t.0 (omega arith)), t.1)) (at_place xs i j x y e)

pub elsewhere : {A : Type 0} (xs : List A) (i j : ℕ) (x : A) → j ≢ i → slice_get (set xs i x) j ≡ slice_get xs j
elsewhere [] i j x ne = refl
elsewhere (a ∷ xs) zero zero x ne = absurd (ne refl)
elsewhere (a ∷ xs) zero (suc j) x ne = refl
elsewhere (a ∷ xs) (suc i) zero x ne = refl
elsewhere (a ∷ xs) (suc i) (suc j) x ne = elsewhere xs i j x (λ e. ne (ap suc e))

-- ---- what a call tells

get_of : {A : Type 0} (l : List A) (i : ℕ) (a : A) → get_elem? l i ≡ some a → slice_get l i ≡ Some a
get_of [] i a e = absurd (some-ne-none a (sym e))
get_of (x ∷ xs) zero a e = ap Some (some-injective x a e)
get_of (x ∷ xs) (suc i) a e = get_of xs i a e

less : (p : ℕ) → suc p - 1 ≡ p
less p = omega arith

pub has_row_of : (k : KeeperView) (h : HoldView) (name name' : TableId) (es : List Lending) (p : ℕ) (r : List ℕ)
    → keeper_view name (map row_in es) ≡ k → hold_view name' (suc p) r ≡ h → get_elem? (map row_in es) p ≡ some r
    → HasRowOf k h
has_row_of k h name name' es p r ke he e =
    subst (λ (z : KeeperView × HoldView). HasRowOf z.0 z.1) (λ i. (ke i, he i)) (record {
      client = omega arith;
      row = ap (slice_get (map row_in es)) (less p) ∙ get_of (map row_in es) p r e;
    })

-- ---- the keeper after a change of one row

map_row_set : (es : List Lending) (p : ℕ) (x : List ℕ) → map row_in (set es p (lent_row x)) ≡ set (map row_in es) p x
map_row_set [] p x = refl
map_row_set (e ∷ es) zero x = refl
map_row_set (e ∷ es) (suc p) x = ap (λ (l : List (List ℕ)). row_in e ∷ l) (map_row_set es p x)

pub row_changes : (k : KeeperView) (h : HoldView) (name name' : TableId) (es : List Lending) (p : ℕ) (r x : List ℕ)
    → keeper_view name (map row_in es) ≡ k → hold_view name' (suc p) r ≡ h
    → keeper_view name (map row_in (set es p (lent_row x))) ≡ with_client_row k h.client x
row_changes k h name name' es p r x ke he =
    subst (λ (z : KeeperView × HoldView). keeper_view name (map row_in (set es p (lent_row x))) ≡ with_client_row z.0 z.1.client x)
    (λ i. (ke i, he i))
    (ap (keeper_view name) (map_row_set es p x ∙ ap (λ (q : ℕ). set (map row_in es) q x) (sym (less p))))

pub others_stay : (k : KeeperView) (client : ℕ) (row : List ℕ) → 1 ≤ client
    → OtherRowsStay client k (with_client_row k client row)
others_stay k client row one d least ne = elsewhere k.rows (client - 1) (d - 1) row (λ e. ne (omega arith))

-- the old row again changes nothing
pub same_row : (k : KeeperView) (h : HoldView) → client_row k h.client ≡ Some h.row → with_client_row k h.client h.row ≡ k
same_row k h e =
    ap (keeper_view k.name) (ap (set k.rows (h.client - 1)) (sym (get_or_from_slice_get k.rows (h.client - 1) h.row [] e))
    ∙ set-get_or k.rows (h.client - 1) [])

-- ---- every row is lent

pub still_lent : (es : List Lending) (p : ℕ) (x : List ℕ) → es ≡ map lent_row (map row_in es)
    → set es p (lent_row x) ≡ map lent_row (map row_in (set es p (lent_row x)))
still_lent es p x all =
    ap (λ (l : List Lending). set l p (lent_row x)) all ∙ again (map row_in es) p x
    ∙ ap (λ (l : List Lending). map lent_row (map row_in (set l p (lent_row x)))) (sym all)
  where
    again : (rs : List (List ℕ)) (p : ℕ) (x : List ℕ)
        → set (map lent_row rs) p (lent_row x) ≡ map lent_row (map row_in (set (map lent_row rs) p (lent_row x)))
    again [] p x = refl
    again (r ∷ rs) zero x = ap (λ (l : List Lending). lent_row x ∷ l) (plain rs)
      where
        plain : (rs : List (List ℕ)) → map lent_row rs ≡ map lent_row (map row_in (map lent_row rs))
        plain [] = refl
        plain (r ∷ rs) = ap (λ (l : List Lending). lent_row r ∷ l) (plain rs)
    again (r ∷ rs) (suc p) x = ap (λ (l : List Lending). lent_row r ∷ l) (again rs p x)

pub all_lent : (es fs : List Lending) → es ≡ fs → fs ≡ map lent_row (map row_in fs) → es ≡ map lent_row (map row_in es)
all_lent es fs same all = subst (λ (l : List Lending). l ≡ map lent_row (map row_in l)) (sym same) all
