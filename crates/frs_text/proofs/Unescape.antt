-- Words and the bytes for which they stand.
use Rattle.std.proofs.Common.{◌≡◌, ℕ, false, eqb, List, [], ◌∷◌, ◌++◌, Some, None, Option, refl, sym, ap, ◌∙◌, append_assoc}
use Rattle.std.proofs.lemmas.Bool.{cond-false, or_parts, and_left}
use Rattle.std.specs.List.{list_any}
use Rattle.std.specs.Str.{bytes_eq}
use Rattle.frs_text.specs.Scripts.{with_byte, escape_meaning, word_meaning}
use Rattle.frs_text.specs.LineReadings.{after_front}

-- one more byte is known
pub after_front-push : (front : List ℕ) (b : ℕ) (rest : Option (List ℕ)) → after_front (front ++ b ∷ []) rest ≡ after_front front (with_byte b rest)
after_front-push front b None = refl
after_front-push front b (Some rest) = ap (λ bytes. Some bytes) (append_assoc front (b ∷ []) rest)

-- a word without `%` stands for itself
pub unescaped-plain : (word : List ℕ) → list_any (λ y. eqb y 37) word ≡ false → escape_meaning word ≡ Some word
unescaped-plain [] none = refl
unescaped-plain (b ∷ []) none = let parts = or_parts (eqb b 37) (list_any (λ y. eqb y 37) []) none in cond-false _ _ _ parts.0
unescaped-plain (b ∷ c ∷ []) none = let parts = or_parts (eqb b 37) (list_any (λ y. eqb y 37) (c ∷ [])) none in
    cond-false _ _ _ parts.0 ∙ ap (with_byte b) (unescaped-plain (c ∷ []) parts.1)
unescaped-plain (b ∷ c ∷ d ∷ rest) none = let parts = or_parts (eqb b 37) (list_any (λ y. eqb y 37) (c ∷ d ∷ rest)) none in
    cond-false _ _ _ parts.0 ∙ ap (with_byte b) (unescaped-plain (c ∷ d ∷ rest) parts.1)

no_percent : (word : List ℕ) → list_any (λ y. eqb y 37) word ≡ false → bytes_eq word (37 ∷ []) ≡ false
no_percent [] none = refl
no_percent (b ∷ rest) none = let parts = or_parts (eqb b 37) (list_any (λ y. eqb y 37) rest) none in and_left (eqb b 37) (bytes_eq rest []) parts.0

pub meant-plain : (word : List ℕ) → list_any (λ y. eqb y 37) word ≡ false → Some word ≡ word_meaning word
meant-plain word none = sym (cond-false _ _ _ (no_percent word none) ∙ unescaped-plain word none)
