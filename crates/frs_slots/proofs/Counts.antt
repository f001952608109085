-- How many slots are free, how many items are known, and the greater of two counts.
use Rattle.std.proofs.Common.{◌≡◌, ℕ, ◌+◌, ◌≤◌, max, List, [], ◌∷◌, ◌++◌, length, sym, ◌∙◌, ap, subst, arith, length-append}
use Rattle.std.proofs.Math.Nat.{le-max_left, le-max_right, max-le}
use mathlib.Core.List.{IsPrefix}
use Rattle.rtrb.specs.Ring.{known_free, producer_capacity}
use Rattle.frs_slots.specs.Names.{Pushes}

pub free_within : (p : Pushes) → known_free p ≤ producer_capacity p
free_within p = omega (arith, p.counts)

pub longer : {X : Type 0} (xs ys : List X) → IsPrefix xs ys → length xs ≤ length ys
longer xs ys prefix = let e : length (xs ++ prefix.0) ≡ length ys = ap length prefix.1 in omega (arith, length-append xs prefix.0, e)

pub one_longer : {X : Type 0} (xs ys : List X) (x : X) → ys ≡ xs ++ x ∷ [] → length ys ≡ length xs + 1
one_longer xs ys x e = ap length e ∙ length-append xs (x ∷ [])

pub left_within : (a b m : ℕ) → m ≡ max a b → a ≤ m
left_within a b m e = subst (λ n. a ≤ n) (sym e) (le-max_left a b)

pub right_within : (a b m : ℕ) → m ≡ max a b → b ≤ m
right_within a b m e = subst (λ n. b ≤ n) (sym e) (le-max_right a b)

pub greater_within : (a b m k : ℕ) → m ≡ max a b → a ≤ k → b ≤ k → m ≤ k
greater_within a b m k e left right = subst (λ n. n ≤ k) (sym e) (max-le left right)
