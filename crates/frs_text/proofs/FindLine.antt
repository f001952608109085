-- Lines whose numbers rise, and where a number stands among them.
use Rattle.std.proofs.Common.{◌≡◌, ◌≢◌, nat_lt, ℕ, zero, suc, ◌+◌, ◌<◌, ◌≤◌, List, [], ◌∷◌, length, get_or, eqb, inl, inr, Some, None, refl, ap, ◌∙◌, sym, arith}
use Rattle.std.specs.Prelude.{IsTrue}
use Rattle.std.specs.List.{find}
use Rattle.std.proofs.lemmas.Bool.{and_parts, cases_lt, ltb-true, ne_eqb, eq-eqb, cond-true, cond-false}
use Rattle.std.proofs.lemmas.List.{get_or_default}
use Rattle.frs_history.specs.declared.command.Line.{Line}
use Rattle.frs_history.specs.Scripts.{rises_from}

pub above_low : (low : ℕ) (ls : List Line) (i : ℕ) (d : Line) → IsTrue (rises_from low ls) → i < length ls → low < (get_or ls i d).number
above_low low [] i d h lt = absurd (omega arith)
above_low low (l ∷ ls) zero d h lt = let parts = and_parts (nat_lt low l.number) (rises_from l.number ls) h in ltb-true _ _ parts.0
above_low low (l ∷ ls) (suc i) d h lt = let parts = and_parts (nat_lt low l.number) (rises_from l.number ls) h in
    let first = ltb-true low l.number parts.0 in
    let rest = above_low l.number ls i d parts.1 (omega arith) in
    omega arith

pub rising : (low : ℕ) (ls : List Line) (i j : ℕ) (d : Line) → IsTrue (rises_from low ls) → i < j → j < length ls → (get_or ls i d).number < (get_or ls j d).number
rising low [] i j d h lt inside = absurd (omega arith)
rising low (l ∷ ls) i zero d h lt inside = absurd (omega arith)
rising low (l ∷ ls) zero (suc j) d h lt inside = let parts = and_parts (nat_lt low l.number) (rises_from l.number ls) h in above_low l.number ls j d parts.1 (omega arith)
rising low (l ∷ ls) (suc i) (suc j) d h lt inside = let parts = and_parts (nat_lt low l.number) (rises_from l.number ls) h in rising l.number ls i j d parts.1 (omega arith) (omega arith)

pub found : (t low : ℕ) (ls : List Line) (i : ℕ) (d : Line) → IsTrue (rises_from low ls) → i < length ls → (get_or ls i d).number ≡ t
    → find (λ (l : Line). eqb l.number t) ls ≡ Some (get_or ls i d)
found t low [] i d h lt is = absurd (omega arith)
found t low (l ∷ ls) zero d h lt is = cond-true _ _ _ (eq-eqb l.number t is)
found t low (l ∷ ls) (suc i) d h lt is = let parts = and_parts (nat_lt low l.number) (rises_from l.number ls) h in
    let above = above_low l.number ls i d parts.1 (omega arith) in
    cond-false _ _ _ (ne_eqb l.number t (λ e. omega (arith, e))) ∙ found t l.number ls i d parts.1 (omega arith) is

pub not_found : (t : ℕ) (ls : List Line) → ((j : ℕ) (d : Line) → j < length ls → (get_or ls j d).number ≢ t) → find (λ (l : Line). eqb l.number t) ls ≡ None
not_found t [] other = refl
not_found t (l ∷ ls) other = cond-false _ _ _ (ne_eqb l.number t (other 0 l (omega arith))) ∙ not_found t ls (λ j d lt. other (suc j) d (omega arith))

-- no line before `at` has the number, and no line from `at` on has a lower one
pub absent : (t low : ℕ) (ls : List Line) (at : ℕ) → IsTrue (rises_from low ls) → ((j : ℕ) (d : Line) → j < at → (get_or ls j d).number < t) → ((j : ℕ) (d : Line) → at ≤ j → j < length ls → t < (get_or ls j d).number)
    → find (λ (l : Line). eqb l.number t) ls ≡ None
absent t low ls at h below above = not_found t ls (λ j d lt e. elim (cases_lt j at) [ inl p ↦ omega (arith, below j d p) | inr q ↦ omega (arith, above j d q lt) ])

-- the lines before the middle one have lower numbers, and those behind it have higher ones
pub lower : (t low : ℕ) (ls : List Line) (m : ℕ) (d : Line) → IsTrue (rises_from low ls) → m < length ls → (get_or ls m d).number < t → (j : ℕ) (e : Line) → j < m + 1 → (get_or ls j e).number < t
lower t low ls m d h inside below j e lt = elim (cases_lt j m) [
  | inl p ↦ omega (arith, rising low ls j m e h p inside, ap (λ (l : Line). l.number) (get_or_default ls m d e inside))
  | inr q ↦ let same : j ≡ m = omega arith in rw same (omega (arith, ap (λ (l : Line). l.number) (get_or_default ls m d e inside)))
]

pub higher : (t low : ℕ) (ls : List Line) (m : ℕ) (d : Line) → IsTrue (rises_from low ls) → m < length ls → t < (get_or ls m d).number → (j : ℕ) (e : Line) → m ≤ j → j < length ls → t < (get_or ls j e).number
higher t low ls m d h inside above j e le lt = elim (cases_lt m j) [
  | inl p ↦ omega (arith, rising low ls m j e h p lt, ap (λ (l : Line). l.number) (get_or_default ls m d e inside))
  | inr q ↦ let same : j ≡ m = omega arith in rw same (omega (arith, ap (λ (l : Line). l.number) (get_or_default ls m d e inside)))
]

-- the same of a line that was read
pub read_found : (t : ℕ) (ls : List Line) (m : ℕ) (x : Line) → IsTrue (rises_from 0 ls) → m < length ls → x ≡ get_or ls m x → x.number ≡ t → Some x ≡ find (λ (l : Line). eqb l.number t) ls
read_found t ls m x h inside is same = ap (λ (l : Line). Some l) is ∙ sym (found t 0 ls m x h inside (ap (λ (l : Line). l.number) (sym is) ∙ same))

pub read_lower : (t : ℕ) (ls : List Line) (m : ℕ) (x : Line) → IsTrue (rises_from 0 ls) → m < length ls → x ≡ get_or ls m x → x.number < t → (j : ℕ) (e : Line) → j < m + 1 → (get_or ls j e).number < t
read_lower t ls m x h inside is below = lower t 0 ls m x h inside (omega (arith, ap (λ (l : Line). l.number) is))

pub read_higher : (t : ℕ) (ls : List Line) (m : ℕ) (x : Line) → IsTrue (rises_from 0 ls) → m < length ls → x ≡ get_or ls m x → t < x.number → (j : ℕ) (e : Line) → m ≤ j → j < length ls → t < (get_or ls j e).number
read_higher t ls m x h inside is above = higher t 0 ls m x h inside (omega (arith, ap (λ (l : Line). l.number) is))
