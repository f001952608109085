-- A printed word stands for the bytes of which it was printed.
use Rattle.std.proofs.Common.{◌≡◌, ℕ, ◌+◌, ◌*◌, ◌<◌, ◌/◌, ◌%◌, true, false, List, [], ◌∷◌, ◌++◌, Some, refl, sym, ap, ◌∙◌, inl, inr, arith, eqb}
use Rattle.std.proofs.lemmas.Bool.Decides.{nat_tests}
use Rattle.std.proofs.lemmas.Bool.{cases_Bool, and_parts, and_from, cond-true, cond-false, not-true}
use Rattle.std.specs.Prelude.{◌==◌}
use Rattle.std.specs.Fmt.{digit_glyph}
use Rattle.std.specs.List.{flat_map}
use Rattle.std.specs.Str.{bytes_eq}
use Rattle.frs_text.specs.Transcripts.{AreBytes}
use Rattle.frs_text.specs.Scripts.{is_hex, hex_value, with_byte, escape_meaning, word_meaning}
use Rattle.frs_text.specs.Text.{is_plain, shown_byte, word}

glyph_is_hex : (d : ℕ) → d < 16 → is_hex (digit_glyph true d) ≡ true
glyph_is_hex d lt = grind (arith, nat_tests)

glyph_value : (d : ℕ) → d < 16 → hex_value (digit_glyph true d) ≡ d
glyph_value d lt = grind (arith, nat_tests)

-- a byte other than `%` stands for itself
unescaped_other : (b : ℕ) (rest : List ℕ) → (b == 37) ≡ false → escape_meaning (b ∷ rest) ≡ with_byte b (escape_meaning rest)
unescaped_other b [] f = cond-false _ _ _ f
unescaped_other b (c ∷ []) f = cond-false _ _ _ f
unescaped_other b (c ∷ d ∷ rest) f = cond-false _ _ _ f

unescaped_digits : (high low : ℕ) (rest : List ℕ) → high < 16 → low < 16
    → escape_meaning (37 ∷ digit_glyph true high ∷ digit_glyph true low ∷ rest) ≡ with_byte (16 * high + low) (escape_meaning rest)
unescaped_digits high low rest h l =
    cond-true _ _ _ (and_from _ _ (glyph_is_hex high h) (glyph_is_hex low l)) ∙ (λ i. with_byte (16 * glyph_value high h i + glyph_value low l i) (escape_meaning rest))

reads_back : (bs : List ℕ) → AreBytes bs → escape_meaning (flat_map shown_byte bs) ≡ Some bs
reads_back [] h = refl
reads_back (b ∷ bs) h = elim (cases_Bool (is_plain b)) [
  | inl t ↦ let other : (b == 37) ≡ false = not-true _ (and_parts _ _ t).1 in
      ap (λ w. escape_meaning (w ++ flat_map shown_byte bs)) (cond-true _ _ _ t) ∙ unescaped_other b (flat_map shown_byte bs) other ∙ ap (with_byte b) (reads_back bs h.1)
  | inr f ↦ let small : b < 256 = h.0 in let joined : 16 * (b / 16) + b % 16 ≡ b = omega arith in
      ap (λ w. escape_meaning (w ++ flat_map shown_byte bs)) (cond-false _ _ _ f)
      ∙ unescaped_digits (b / 16) (b % 16) (flat_map shown_byte bs) (omega (arith, small)) (omega arith)
      ∙ ap (λ n. with_byte n (escape_meaning (flat_map shown_byte bs))) joined ∙ ap (with_byte b) (reads_back bs h.1)
]

-- a word of bytes isn't `%` alone
not_alone : (b : ℕ) (rest : List ℕ) → bytes_eq (shown_byte b ++ rest) (37 ∷ []) ≡ false
not_alone b rest = elim (cases_Bool (is_plain b)) [
  | inl t ↦ let other : eqb b 37 ≡ false = not-true _ (and_parts _ _ t).1 in rw (t, other) refl
  | inr f ↦ rw f refl
]

pub word_meant : (bs : List ℕ) → AreBytes bs → word_meaning (word bs) ≡ Some bs
word_meant [] h = refl
word_meant (b ∷ bs) h = cond-false _ _ _ (not_alone b (flat_map shown_byte bs)) ∙ reads_back (b ∷ bs) h

inside : (a b : List ℕ) → Some a ≡ Some b → a ≡ b
inside a b e = cc

pub word_injective : (a b : List ℕ) → AreBytes a → AreBytes b → word a ≡ word b → a ≡ b
word_injective a b h k e = inside a b (sym (word_meant a h) ∙ ap word_meaning e ∙ word_meant b k)
