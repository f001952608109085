-- Lists that end alike, and pairs of lists.
use Rattle.std.proofs.Common.{◌≡◌, ◌⊎◌, inl, inr, suc, ◌-◌, List, [], ◌∷◌, ◌++◌, Option, Some, None, length, refl, sym, ap, ◌∙◌, arith}
use Rattle.std.specs.List.{AllByRecursion, AllZip, last_or, slice_get}

-- what holds of each element of two lists holds of each element of both
pub all_join : {A : Type 0} (P : A → Type 0) (xs ys : List A) → AllByRecursion P xs → AllByRecursion P ys → AllByRecursion P (xs ++ ys)
all_join P [] ys left right = right
all_join P (x ∷ xs) ys left right = (left.0, all_join P xs ys left.1 right)

-- of two ends of one list, one is an end of the other
pub ends : {A : Type 0} (a x b y : List A) → a ++ x ≡ b ++ y → ((m : List A) × (a ≡ b ++ m) × (y ≡ m ++ x)) ⊎ ((m : List A) × (b ≡ a ++ m) × (x ≡ m ++ y))
ends [] x b y e = inr (b, refl, e)
ends (f ∷ a) x [] y e = inl (f ∷ a, refl, sym e)
ends {A} (f ∷ a) x (g ∷ b) y e =
    let head : f ≡ g = cc in
    let tail : a ++ x ≡ b ++ y = cc in
    elim (ends a x b y tail) [
      | inl (m, p, q) ↦ inl (m, ap (λ (h : A). h ∷ a) head ∙ ap (λ (z : List A). g ∷ z) p, q)
      | inr (m, p, q) ↦ inr (m, ap (λ (h : A). h ∷ b) (sym head) ∙ ap (λ (z : List A). f ∷ z) p, q)
    ]

-- a list that isn't empty has a last element
pub with_last : {A : Type 0} (x : A) (xs : List A) → (ys : List A) × (y : A) × (x ∷ xs ≡ ys ++ y ∷ [])
with_last x [] = ([], x, refl)
with_last {A} x (z ∷ xs) =
    let (ys, y, e) = with_last z xs in
    (x ∷ ys, y, ap (λ (l : List A). x ∷ l) e)

pub last_is : {A : Type 0} (d : Option A) (xs : List A) (x : A) → last_or d (xs ++ x ∷ []) ≡ Some x
last_is d [] x = refl
last_is d (y ∷ xs) x = last_is (Some y) xs x

pub same_last : {A : Type 0} (xs ys : List A) (x y : A) → xs ++ x ∷ [] ≡ ys ++ y ∷ [] → x ≡ y
same_last xs ys x y e =
    let some : Some x ≡ Some y = sym (last_is None xs x) ∙ ap (last_or None) e ∙ last_is None ys y in
    cc

pub never_empty : {A : Type 0} (xs : List A) (x : A) (l : List A) → l ≡ xs ++ x ∷ [] → l ≡ [] → ⊥
never_empty [] x l is none = let e : x ∷ [] ≡ [] = sym is ∙ none in cc
never_empty (y ∷ xs) x l is none = let e : (y ∷ xs) ++ x ∷ [] ≡ [] = sym is ∙ none in cc

-- what is paired with a front, and with what stands behind it
pub record Apart {A B : Type 0} (R : A → B → Type 0) (m x : List A) (all : List B) : Type 0 where
  pub front : List B
  pub back : List B
  pub is : all ≡ front ++ back
  pub front_zip : AllZip R m front
  pub back_zip : AllZip R x back

pub apart : {A B : Type 0} (R : A → B → Type 0) (m x : List A) (all : List B) → AllZip R (m ++ x) all → Apart R m x all
apart R [] x all z = record { front = []; back = all; is = refl; front_zip = tt; back_zip = z }
apart R (f ∷ m) x [] z = absurd z
apart {A} {B} R (f ∷ m) x (s ∷ all) z =
    let rest = apart R m x all z.1 in
    record { front = s ∷ rest.front; back = rest.back; is = ap (λ (t : List B). s ∷ t) rest.is; front_zip = (z.0, rest.front_zip); back_zip = rest.back_zip }

-- ---- the last element

pub last_get : {A : Type 0} (xs : List A) → last_or None xs ≡ slice_get xs (length xs - 1)
last_get [] = refl
last_get (x ∷ []) = refl
last_get (x ∷ y ∷ xs) =
    let e : length (x ∷ y ∷ xs) - 1 ≡ suc (length (y ∷ xs) - 1) = omega arith in
    last_get (y ∷ xs) ∙ sym (ap (slice_get (x ∷ y ∷ xs)) e)
