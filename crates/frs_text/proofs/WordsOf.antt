-- The parts of a list between the elements that pass a test: the words of a line, and the lines of a file.
use Rattle.std.proofs.Common.{◌≡◌, ℕ, suc, ◌+◌, ◌-◌, ◌<◌, ◌≤◌, Bool, false, not, eqb, nat_lt, List, [], ◌∷◌, length, take, drop, get_or, Some, None, inl, inr, refl, sym, ap, ◌∙◌, subst, take_all, add-zero, add-one, drop-cons, arith}
use Rattle.std.proofs.lemmas.Bool.{cases_Bool, ltb-true, ltb-false, cond-true, cond-false, not-true, ne_eqb}
use Rattle.std.proofs.lemmas.List.{drop_all, length-drop, get_or-drop}
use Rattle.std.proofs.lemmas.List.Quantifiers.{position-Some}
use Rattle.std.specs.List.{position, position_or_len, slice_split, onto_first, filter}
use Rattle.std.specs.Str.Lines.{lines, lines_of_parts, strip_carriage_return}
use Rattle.frs_text.specs.Scripts.{is_filled}

-- where `position` finds an element
pub at_position : (p : ℕ → Bool) (xs : List ℕ) (i : ℕ) → Some i ≡ position p xs → (position_or_len p xs ≡ i) × (i < length xs)
at_position p xs i e = elim (cases_Bool (nat_lt (position_or_len p xs) (length xs))) [
  | inl t ↦ let found : position p xs ≡ Some (position_or_len p xs) = cond-true _ _ _ t in
      let same : i ≡ position_or_len p xs = cc in
      let lt : position_or_len p xs < length xs = ltb-true _ _ t in
      (sym same, omega arith)
  | inr f ↦ let found : position p xs ≡ None = cond-false _ _ _ f in cc
]

pub no_position : (p : ℕ → Bool) (xs : List ℕ) → None ≡ position p xs → length xs ≤ position_or_len p xs
no_position p xs e = elim (cases_Bool (nat_lt (position_or_len p xs) (length xs))) [
  | inl t ↦ let found : position p xs ≡ Some (position_or_len p xs) = cond-true _ _ _ t in cc
  | inr f ↦ ltb-false _ _ f
]

-- the parts behind the first: none at the end, and else those behind the element that passes
abbrev pub parts_behind : (ℕ → Bool) → List ℕ → List (List ℕ)
parts_behind p [] = []
parts_behind p (x ∷ xs) = slice_split p xs

pub first_part : (p : ℕ → Bool) (xs : List ℕ) → slice_split p xs ≡ take (position_or_len p xs) xs ∷ parts_behind p (drop (position_or_len p xs) xs)
first_part p [] = refl
first_part p (x ∷ xs) = elim (cases_Bool (p x)) [
  | inl t ↦ rw t refl
  | inr f ↦ let more : 1 + position_or_len p xs ≡ suc (position_or_len p xs) = omega arith in
      rw (f, more) (ap (onto_first x) (first_part p xs))
]

-- ---- words

-- the parts that aren't empty
abbrev pub filled_parts : (ℕ → Bool) → List ℕ → List (List ℕ)
filled_parts p xs = filter is_filled (slice_split p xs)

-- what passes the test at the front makes no part
pub filled-from : (p : ℕ → Bool) (xs : List ℕ) → filled_parts p xs ≡ filled_parts p (drop (position_or_len (λ b. not (p b)) xs) xs)
filled-from p [] = refl
filled-from p (x ∷ xs) = elim (cases_Bool (p x)) [
  | inl t ↦ let more : 1 + position_or_len (λ b. not (p b)) xs ≡ suc (position_or_len (λ b. not (p b)) xs) = omega arith in
      rw (t, more) (filled-from p xs)
  | inr f ↦ rw (f, f) refl
]

-- what stands behind the first part
pub filled-behind : (p : ℕ → Bool) (xs : List ℕ) → filter is_filled (parts_behind p (drop (position_or_len p xs) xs)) ≡ filled_parts p (drop (position_or_len p xs) xs)
filled-behind p [] = refl
filled-behind p (x ∷ xs) = elim (cases_Bool (p x)) [
  | inl t ↦ rw (t, t) refl
  | inr f ↦ let more : 1 + position_or_len p xs ≡ suc (position_or_len p xs) = omega arith in
      rw (f, more) (filled-behind p xs)
]

-- a list that begins with an element that fails begins with a part
pub filled-first : (p : ℕ → Bool) (xs : List ℕ) → 0 < length xs → p (get_or xs 0 0) ≡ false
    → filled_parts p xs ≡ take (position_or_len p xs) xs ∷ filled_parts p (drop (position_or_len p xs) xs)
filled-first p [] lt f = absurd (omega arith)
filled-first p (x ∷ xs) lt f = let more : 1 + position_or_len p xs ≡ suc (position_or_len p xs) = omega arith in
    rw (f, more) (ap (λ parts. filter is_filled (onto_first x parts)) (first_part p xs) ∙ ap (λ parts. (x ∷ take (position_or_len p xs) xs) ∷ parts) (filled-behind p xs))

-- the rest of a list, as a slice of it is cut
pub cut_rest : (xs : List ℕ) (s : ℕ) → take (length xs - s) (drop s xs) ≡ drop s xs
cut_rest xs s = take_all (length xs - s) (drop s xs) (omega (arith, length-drop s xs))

-- no element fails: there is no part
pub no_part : (p : ℕ → Bool) (xs : List ℕ) → None ≡ position (λ b. not (p b)) xs → filled_parts p xs ≡ []
no_part p xs e = filled-from p xs ∙ ap (λ ys. filled_parts p ys) (drop_all _ xs (no_position (λ b. not (p b)) xs e))

-- the first element that fails begins a part
pub begins : (p : ℕ → Bool) (xs : List ℕ) (s : ℕ) → Some s ≡ position (λ b. not (p b)) xs
    → (filled_parts p xs ≡ filled_parts p (drop s xs)) × (0 < length (drop s xs)) × (p (get_or (drop s xs) 0 0) ≡ false)
begins p xs s e = let at = at_position (λ b. not (p b)) xs s e in let found = position-Some (λ b. not (p b)) xs s 0 (sym e) in (
  filled-from p xs ∙ ap (λ n. filled_parts p (drop n xs)) at.0,
  omega (arith, length-drop s xs),
  not-true _ (ap (λ b. not (p b)) (get_or-drop s xs 0 0 ∙ ap (λ n. get_or xs n 0) (add-zero s)) ∙ found.1),
)

-- a part that goes to the end
pub part_to_end : (p : ℕ → Bool) (xs : List ℕ) (s : ℕ) → Some s ≡ position (λ b. not (p b)) xs → None ≡ position p (take (length xs - s) (drop s xs))
    → filled_parts p xs ≡ take (length xs - s) (drop s xs) ∷ []
part_to_end p xs s e f = let start = begins p xs s e in
    let past : length (drop s xs) ≤ position_or_len p (drop s xs) = no_position p (drop s xs) (f ∙ ap (position p) (cut_rest xs s)) in
    let first : filled_parts p xs ≡ take (position_or_len p (drop s xs)) (drop s xs) ∷ filled_parts p (drop (position_or_len p (drop s xs)) (drop s xs)) = start.0 ∙ filled-first p (drop s xs) start.1 start.2 in
    let whole : take (position_or_len p (drop s xs)) (drop s xs) ≡ take (length xs - s) (drop s xs) = take_all _ (drop s xs) past ∙ sym (cut_rest xs s) in
    let none : filled_parts p (drop (position_or_len p (drop s xs)) (drop s xs)) ≡ [] = ap (λ ys. filled_parts p ys) (drop_all _ (drop s xs) past) in
    cc

-- a part that ends before an element that passes
pub part_to : (p : ℕ → Bool) (xs : List ℕ) (s t : ℕ) (ys : List ℕ) → ys ≡ take (length xs - s) (drop s xs) → Some s ≡ position (λ b. not (p b)) xs → Some t ≡ position p ys
    → filled_parts p xs ≡ take t ys ∷ filled_parts p (take (length ys - t) (drop t ys))
part_to p xs s t ys is e f = let start = begins p xs s e in
    let same : ys ≡ drop s xs = is ∙ cut_rest xs s in
    let first : filled_parts p ys ≡ take (position_or_len p ys) ys ∷ filled_parts p (drop (position_or_len p ys) ys) = filled-first p ys (rw same start.1) (rw same start.2) in
    let at = at_position p ys t f in
    start.0 ∙ ap (λ zs. filled_parts p zs) (sym same) ∙ first ∙ ap (λ n. take n ys ∷ filled_parts p (drop n ys)) at.0
    ∙ ap (λ zs. take t ys ∷ filled_parts p zs) (sym (cut_rest ys t))

-- ---- lines

pub last_line : (xs : List ℕ) → 0 < length xs → None ≡ position (λ b. eqb b 10) xs → lines xs ≡ xs ∷ []
last_line [] lt e = absurd (omega arith)
last_line (x ∷ xs) lt e =
    let past : length (x ∷ xs) ≤ position_or_len (λ b. eqb b 10) (x ∷ xs) = no_position (λ b. eqb b 10) (x ∷ xs) e in
    let whole : take (position_or_len (λ b. eqb b 10) (x ∷ xs)) (x ∷ xs) ≡ x ∷ xs = take_all _ (x ∷ xs) past in
    let none : parts_behind (λ b. eqb b 10) (drop (position_or_len (λ b. eqb b 10) (x ∷ xs)) (x ∷ xs)) ≡ [] = ap (parts_behind (λ b. eqb b 10)) (drop_all _ (x ∷ xs) past) in
    let parts : slice_split (λ b. eqb b 10) (x ∷ xs) ≡ (x ∷ xs) ∷ [] = first_part (λ b. eqb b 10) (x ∷ xs) ∙ ap (λ front. front ∷ parts_behind (λ b. eqb b 10) (drop (position_or_len (λ b. eqb b 10) (x ∷ xs)) (x ∷ xs))) whole ∙ ap (λ rest. (x ∷ xs) ∷ rest) none in
    ap lines_of_parts parts ∙ cond-false _ _ _ (ne_eqb (length (x ∷ xs)) 0 (λ e. omega (arith, e)))

-- the lines of several parts
pub lines-part : (x : List ℕ) (p : ℕ → Bool) (xs : List ℕ) → lines_of_parts (x ∷ slice_split p xs) ≡ strip_carriage_return x ∷ lines_of_parts (slice_split p xs)
lines-part x p xs = let P : List (List ℕ) → Type 0 = λ parts. lines_of_parts (x ∷ parts) ≡ strip_carriage_return x ∷ lines_of_parts parts in
    subst P (sym (first_part p xs)) refl

pub line_before_feed : (xs : List ℕ) (i : ℕ) (x : List ℕ) → Some i ≡ position (λ b. eqb b 10) xs → x ≡ strip_carriage_return (take i xs) → lines xs ≡ x ∷ lines (take (length xs - (i + 1)) (drop (i + 1) xs))
line_before_feed xs i x e is = let at = at_position (λ b. eqb b 10) xs i e in
    let inside : i < length xs = at.1 in
    let rest : drop i xs ≡ get_or xs i 0 ∷ drop (i + 1) xs = rw add-one (drop-cons xs i 0 inside) in
    let parts : slice_split (λ b. eqb b 10) xs ≡ take i xs ∷ slice_split (λ b. eqb b 10) (drop (i + 1) xs) =
    first_part (λ b. eqb b 10) xs ∙ ap (λ n. take n xs ∷ parts_behind (λ b. eqb b 10) (drop n xs)) at.0 ∙ ap (λ ys. take i xs ∷ parts_behind (λ b. eqb b 10) ys) rest in
    ap lines_of_parts parts ∙ lines-part (take i xs) (λ b. eqb b 10) (drop (i + 1) xs)
    ∙ ap (λ front. front ∷ lines (drop (i + 1) xs)) (sym is) ∙ ap (λ ys. x ∷ lines ys) (sym (cut_rest xs (i + 1)))
