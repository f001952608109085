-- Numbers that rise.
use Rattle.std.proofs.Common.{◌≡◌, ℕ, ◌+◌, ◌<◌, ◌≤◌, List, [], ◌∷◌, ◌++◌, length, get_or, ap, arith, length-append, inl, inr}
use Rattle.std.proofs.lemmas.Bool.{cases_lt}
use Rattle.std.proofs.Math.ListN.{get_or-append}
use Rattle.std.proofs.Math.Seq.{get_or-append_seam}
use Rattle.std.specs.List.Sorted.{IsStrictlyIncreasing}

-- none is above this one
abbrev pub AllUpTo : ℕ → List ℕ → Type 0
AllUpTo last xs = (k : ℕ) → k < length xs → get_or xs k 0 ≤ last

pub rising-push : (xs : List ℕ) (last x : ℕ) → IsStrictlyIncreasing xs → AllUpTo last xs → last < x → IsStrictlyIncreasing (xs ++ x ∷ [])
rising-push xs last x rises all lt k in_range =
    let size : k + 1 < length xs + 1 = omega (arith, in_range, length-append xs (x ∷ [])) in
    elim (cases_lt (k + 1) (length xs)) [
      | inl inner ↦ omega (arith, rises k inner, get_or-append xs (x ∷ []) 0 k (omega arith), get_or-append xs (x ∷ []) 0 (k + 1) inner)
      | inr outer ↦
          let is : k + 1 ≡ length xs = omega arith in
          omega (arith, all k (omega arith), get_or-append xs (x ∷ []) 0 k (omega arith), ap (λ (n : ℕ). get_or (xs ++ x ∷ []) n 0) is, get_or-append_seam xs x [] 0)
    ]

pub up_to-push : (xs : List ℕ) (last x : ℕ) → AllUpTo last xs → last < x → AllUpTo x (xs ++ x ∷ [])
up_to-push xs last x all lt k in_range =
    let size : k < length xs + 1 = omega (arith, in_range, length-append xs (x ∷ [])) in
    elim (cases_lt k (length xs)) [
      | inl inner ↦ omega (arith, all k inner, get_or-append xs (x ∷ []) 0 k inner)
      | inr outer ↦
          let is : k ≡ length xs = omega arith in
          omega (arith, ap (λ (n : ℕ). get_or (xs ++ x ∷ []) n 0) is, get_or-append_seam xs x [] 0)
    ]
