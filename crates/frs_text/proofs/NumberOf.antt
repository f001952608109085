-- Numbers that are written as a word.
use Rattle.std.proofs.Common.{◌≡◌, ℕ, zero, suc, ◌+◌, ◌<◌, ◌≤◌, ◌^◌, Bool, true, false, List, Some, None, Ok, Result, inl, inr, refl, sym, ap, ◌∙◌, arith}
use Rattle.std.proofs.lemmas.Bool.{cond-true, cond-false, false_from_ne_true, cases_eq}
use Rattle.std.proofs.lemmas.Fmt.{parse-decimal, decimal_injective}
use Rattle.std.proofs.lemmas.Slice.Eq.{bytes_eq-Decides}
use Rattle.std.specs.Fmt.{decimal}
use Rattle.std.specs.List.{find, range_with_len}
use Rattle.std.specs.Str.Parse.{ParsesUnsigned}
use Rattle.frs_text.specs.CommandLine.{number_up_to}

find_none : (p : ℕ → Bool) (a k : ℕ) → ((m : ℕ) → a ≤ m → m < a + k → p m ≡ false) → find p (range_with_len a k) ≡ None
find_none p a zero other = refl
find_none p a (suc k) other = cond-false _ _ _ (other a (omega arith) (omega arith)) ∙ find_none p (a + 1) k (λ m le lt. other m (omega arith) (omega arith))

find_first : (p : ℕ → Bool) (a k n : ℕ) → a ≤ n → n < a + k → p n ≡ true → ((m : ℕ) → a ≤ m → m < n → p m ≡ false) → find p (range_with_len a k) ≡ Some n
find_first p a zero n le lt t other = absurd (omega arith)
find_first p a (suc k) n le lt t other = elim (cases_eq a n) [
  | inl same ↦ cond-true _ _ _ (ap p same ∙ t) ∙ ap (λ m. Some m) same
  | inr apart ↦ cond-false _ _ _ (other a (omega arith) (omega (arith, apart))) ∙ find_first p (a + 1) k n (omega (arith, apart)) (omega arith) t (λ m low high. other m (omega arith) high)
]

-- no number in range is written so
pub no_number : (most : ℕ) (word : List ℕ) → ((m : ℕ) → 1 ≤ m → m ≤ most → word ≡ decimal m → ⊥) → None ≡ number_up_to most word
unfolding number_up_to
no_number most word other = sym (find_none _ 1 most (λ m le lt. false_from_ne_true _ (λ t. other m le (omega arith) (sym ((bytes_eq-Decides (decimal m) word).0 t)))))

-- this number is written so
pub the_number : (most n : ℕ) (word : List ℕ) → 1 ≤ n → n ≤ most → most < 2 ^ 32 → word ≡ decimal n → Some n ≡ number_up_to most word
unfolding number_up_to
the_number most n word low high small is = sym (find_first _ 1 most n low (omega arith) ((bytes_eq-Decides (decimal n) word).1 (sym is))
    (λ m le lt. false_from_ne_true _ (λ t. let same : m ≡ n = decimal_injective m n (omega arith) (omega arith) ((bytes_eq-Decides (decimal m) word).0 t ∙ is) in absurd (omega arith))))

-- what `parse` gives of a number that is written so
pub parsed : {E : Type 0} (most m : ℕ) (word : List ℕ) (r : Result ℕ E) → ParsesUnsigned 32 10 word r → most < 2 ^ 32 → m ≤ most → word ≡ decimal m → r ≡ Ok m
parsed most m word r h small le is = parse-decimal 32 m word r (omega arith) (omega arith) is h
