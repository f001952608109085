-- The words and the lines of a text are found again in it.
use Rattle.std.proofs.Common.{◌≡◌, ℕ, zero, suc, ◌+◌, ◌<◌, ◌≤◌, ◌/◌, ◌%◌, Bool, true, false, nat_lt, List, [], ◌∷◌, ◌++◌, refl, sym, ap, subst, ◌∙◌, inl, inr, append_assoc, arith, cond}
use Rattle.std.proofs.lemmas.Bool.{cases_Bool, and_parts, leb-true, ltb-true}
use Rattle.std.specs.Prelude.{◌==◌, nat_le}
use Rattle.std.specs.Fmt.{decimal, digits, digits_onto, digit_glyph}
use Rattle.std.specs.List.{AllByRecursion, flat_map, join_with_byte, list_all}
use Rattle.frs_text.specs.Text.{Text, is_plain, shown_byte, word, words, line}
use Rattle.frs_recovery.proofs.Lists.{all_join}

abbrev pub head_of : List ℕ → ℕ
head_of [] = 0
head_of (x ∷ xs) = x

abbrev pub tail_of : {X : Type 0} → List X → List X
tail_of [] = []
tail_of (x ∷ xs) = xs

-- ---- texts without a byte

abbrev pub Lacks : ℕ → Text → Type 0
Lacks sep a = AllByRecursion (λ b. b ≡ sep → ⊥) a

-- what stands before the first such byte, and what behind it
cut : (sep : ℕ) (a b x y : Text) → Lacks sep a → Lacks sep b → a ++ sep ∷ x ≡ b ++ sep ∷ y → (a ≡ b) × (x ≡ y)
cut sep [] [] x y h k e = (refl, ap tail_of e)
cut sep [] (c ∷ b) x y h k e = absurd (k.0 (sym (ap head_of e)))
cut sep (c ∷ a) [] x y h k e = absurd (h.0 (ap head_of e))
cut sep (c ∷ a) (d ∷ b) x y h k e = let rest = cut sep a b x y h.1 k.1 (ap tail_of e) in let first : c ≡ d = ap head_of e in
    ((λ i. first i ∷ rest.0 i), rest.1)

has_it : (sep : ℕ) (a r : Text) → Lacks sep (a ++ sep ∷ r) → ⊥
has_it sep [] r h = h.0 refl
has_it sep (x ∷ a) r h = has_it sep a r h.1

-- ---- words: no blank, and no line feed

abbrev pub IsSolid : Text → Type 0
IsSolid w = AllByRecursion (λ b. 32 < b) w

abbrev pub AreSolid : List Text → Type 0
AreSolid ws = AllByRecursion IsSolid ws

lacks-solid : (sep : ℕ) (w : Text) → sep ≤ 32 → IsSolid w → Lacks sep w
lacks-solid sep [] le h = tt
lacks-solid sep (b ∷ w) le h = let above : 32 < b = h.0 in (λ e. absurd (omega (arith, e, above, le)), lacks-solid sep w le h.1)

lacks-words : (w : Text) (ws : List Text) → IsSolid w → AreSolid ws → Lacks 10 (join_with_byte 32 (w ∷ ws))
lacks-words w [] h k = lacks-solid 10 w (omega arith) h
lacks-words w (v ∷ ws) h k = all_join (λ b. b ≡ 10 → ⊥) w (32 ∷ join_with_byte 32 (v ∷ ws)) (lacks-solid 10 w (omega arith) h) (λ e. absurd (omega (arith, e)), lacks-words v ws k.0 k.1)

words_same : (w v : Text) (ws vs : List Text) → IsSolid w → IsSolid v → AreSolid ws → AreSolid vs → join_with_byte 32 (w ∷ ws) ≡ join_with_byte 32 (v ∷ vs) → w ∷ ws ≡ v ∷ vs
words_same w v [] [] hw hv hws hvs e = ap (λ x. x ∷ []) e
words_same w v [] (u ∷ vs) hw hv hws hvs e = absurd (has_it 32 v (join_with_byte 32 (u ∷ vs)) (subst (λ t. Lacks 32 t) e (lacks-solid 32 w (omega arith) hw)))
words_same w v (u ∷ ws) [] hw hv hws hvs e = absurd (has_it 32 w (join_with_byte 32 (u ∷ ws)) (subst (λ t. Lacks 32 t) (sym e) (lacks-solid 32 v (omega arith) hv)))
words_same w v (t ∷ ws) (u ∷ vs) hw hv hws hvs e =
    let parts = cut 32 w v (join_with_byte 32 (t ∷ ws)) (join_with_byte 32 (u ∷ vs)) (lacks-solid 32 w (omega arith) hw) (lacks-solid 32 v (omega arith) hv) e in
    let rest = words_same t u ws vs hws.0 hvs.0 hws.1 hvs.1 parts.1 in λ i. parts.0 i ∷ rest i

-- ---- lines

abbrev pub IsLine : List Text → Type 0
IsLine [] = ⊥
IsLine (w ∷ ws) = IsSolid w × AreSolid ws

not_empty : (a b : Text) → [] ≡ (a ++ 10 ∷ []) ++ b → ⊥
not_empty [] b e = cc
not_empty (x ∷ a) b e = cc

pub lines_same : (xs ys : List (List Text)) → AllByRecursion IsLine xs → AllByRecursion IsLine ys → flat_map line xs ≡ flat_map line ys → xs ≡ ys
lines_same [] [] h k e = refl
lines_same [] (y ∷ ys) h k e = absurd (not_empty (words y) (flat_map line ys) e)
lines_same (x ∷ xs) [] h k e = absurd (not_empty (words x) (flat_map line xs) (sym e))
lines_same ([] ∷ xs) (y ∷ ys) h k e = absurd h.0
lines_same ((w ∷ ws) ∷ xs) ([] ∷ ys) h k e = absurd k.0
lines_same ((w ∷ ws) ∷ xs) ((v ∷ vs) ∷ ys) h k e =
    let here = h.0 in let there = k.0 in
    let parts = cut 10 (words (w ∷ ws)) (words (v ∷ vs)) (flat_map line xs) (flat_map line ys) (lacks-words w ws here.0 here.1) (lacks-words v vs there.0 there.1)
    (sym (append_assoc (words (w ∷ ws)) (10 ∷ []) (flat_map line xs)) ∙ e ∙ append_assoc (words (v ∷ vs)) (10 ∷ []) (flat_map line ys)) in
    let first = words_same w v ws vs here.0 there.0 here.1 there.1 parts.0 in
    let rest = lines_same xs ys h.1 k.1 parts.1 in λ i. first i ∷ rest i

-- ---- what is printed is solid

-- of a word whose bytes are written out
pub solid_by_test : (w : Text) → list_all (λ b. nat_lt 32 b) w ≡ true → IsSolid w
solid_by_test [] h = tt
solid_by_test (b ∷ w) h = let parts = and_parts (nat_lt 32 b) (list_all (λ b. nat_lt 32 b) w) h in (ltb-true _ _ parts.0, solid_by_test w parts.1)

glyph_solid : (upper : Bool) (d : ℕ) → 32 < digit_glyph upper d
glyph_solid upper d = elim (cases_Bool (nat_lt d 10)) [
  | inl t ↦ rw t (omega arith)
  | inr f ↦ rw f (elim upper as (λ u. 32 < (cond u (55 + d) (87 + d))) [ true ↦ omega (arith) | false ↦ omega arith ])
]

shown_solid : (b : ℕ) → IsSolid (shown_byte b)
shown_solid b = elim (cases_Bool (is_plain b)) [
  | inl t ↦ let parts = and_parts _ _ t in let low = and_parts (nat_le 33 b) (nat_le b 126) parts.0 in let above : 33 ≤ b = leb-true _ _ low.0 in rw t (omega (arith, above), tt)
  | inr f ↦ rw f (omega arith, (glyph_solid true (b / 16), (glyph_solid true (b % 16), tt)))
]

shown_all_solid : (bs : List ℕ) → IsSolid (flat_map shown_byte bs)
shown_all_solid [] = tt
shown_all_solid (b ∷ bs) = all_join (λ b. 32 < b) (shown_byte b) (flat_map shown_byte bs) (shown_solid b) (shown_all_solid bs)

pub word_solid : (bs : List ℕ) → IsSolid (word bs)
word_solid [] = (omega arith, tt)
word_solid (b ∷ bs) = shown_all_solid (b ∷ bs)

-- ---- digits

abbrev pub AreDigits : Text → Type 0
AreDigits w = AllByRecursion (λ b. (48 ≤ b) × (b < 58)) w

digit_of : (n : ℕ) → (48 ≤ digit_glyph false (n % 10)) × (digit_glyph false (n % 10) < 58)
digit_of n = let small : n % 10 < 10 = omega arith in let test : nat_lt (n % 10) 10 ≡ true = grind arith in rw test (omega arith, omega (arith, small))

digits_are : (k n : ℕ) (acc : Text) → AreDigits acc → AreDigits (digits_onto k 10 false n acc)
digits_are zero n acc h = h
digits_are (suc k) n acc h = elim (cases_Bool (n / 10 == 0)) [
  | inl t ↦ rw t (digit_of n, h)
  | inr f ↦ rw f (digits_are k (n / 10) (digit_glyph false (n % 10) ∷ acc) (digit_of n, h))
]

pub decimal_digits : (n : ℕ) → AreDigits (decimal n)
unfolding digits
decimal_digits n = digits_are 64 n [] tt

digits_solid : (w : Text) → AreDigits w → IsSolid w
digits_solid [] h = tt
digits_solid (b ∷ w) h = let low : 48 ≤ b = h.0.0 in (omega (arith, low), digits_solid w h.1)

pub decimal_solid : (n : ℕ) → IsSolid (decimal n)
decimal_solid n = digits_solid (decimal n) (decimal_digits n)
