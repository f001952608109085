-- The first rows are lent, and the others are at home.
use Rattle.std.proofs.Common.{◌≡◌, ℕ, zero, suc, ◌+◌, ◌-◌, ◌<◌, List, ◌∷◌, ◌++◌, map, set, replicate, true, false, refl, ap, arith}
use mathlib.Core.Option.{some}
use lib.ListN.{get_elem?}
use Rattle.frs_rows.specs.Seats.{Lending, row_in, lent_row, row_at_place}

abbrev pub part : List ℕ → ℕ → ℕ → List Lending
part z k m = replicate k (true, z) ++ replicate m (false, z)

pub part_home : (z : List ℕ) (k m : ℕ) → get_elem? (part z k (suc m)) k ≡ some (false, z)
part_home z zero m = refl
part_home z (suc k) m = part_home z k m

pub part_next : (z : List ℕ) (k m : ℕ) → set (part z k (suc m)) k (lent_row z) ≡ part z (suc k) m
part_next z zero m = refl
part_next z (suc k) m = ap (λ (l : List Lending). (true, z) ∷ l) (part_next z k m)

pub part_row : (z : List ℕ) (k m : ℕ) → row_at_place (part z k (suc m)) k ≡ z
part_row z zero m = refl
part_row z (suc k) m = part_row z k m

pub part_all : (z : List ℕ) (k : ℕ) → map row_in (part z k 0) ≡ replicate k z
part_all z zero = refl
part_all z (suc k) = ap (λ (l : List (List ℕ)). z ∷ l) (part_all z k)

pub part_lent : (z : List ℕ) (k : ℕ) → part z k 0 ≡ map lent_row (map row_in (part z k 0))
part_lent z zero = refl
part_lent z (suc k) = ap (λ (l : List Lending). (true, z) ∷ l) (part_lent z k)

pub part_left : (n k : ℕ) → k < n → n - k ≡ suc (n - (k + 1))
part_left n k h = omega arith

pub part_more : (z : List ℕ) (n k : ℕ) → k < n → part z k (n - k) ≡ part z k (suc (n - (k + 1)))
part_more z n k h = ap (part z k) (part_left n k h)
