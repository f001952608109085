-- A list that has each acknowledgement at most as often as another is no longer than that.
use Rattle.std.proofs.Common.{◌≡◌, ℕ, suc, ◌+◌, ◌<◌, ◌≤◌, Bool, true, false, cond, List, [], ◌∷◌, length}
use Rattle.std.proofs.Common.{refl, sym, ap, ◌∙◌, subst, arith, eq-eqb}
use Rattle.std.specs.Prelude.{count_by}
use Rattle.std.proofs.lemmas.Bool.{and_from}
use Rattle.std.proofs.lemmas.List.Sums.{sum_by-cons}
use Rattle.frs_history.specs.declared.event.Ack.{Ack}
use Rattle.frs_book.specs.Books.{is_same_ack}
use Rattle.frs_book.proofs.BookGoesOn.{same_ack_is}

abbrev occurs : Ack → List Ack → ℕ
occurs a xs = count_by (is_same_ack a) xs

counted_first : (a x : Ack) (xs : List Ack) → occurs a (x ∷ xs) ≡ cond (is_same_ack a x) 1 0 + occurs a xs
counted_first a x xs = sum_by-cons (λ y. cond (is_same_ack a y) 1 0) x xs

same_self : (a : Ack) → is_same_ack a a ≡ true
same_self a = and_from _ _ (and_from _ _ (eq-eqb a.client a.client refl) (eq-eqb a.line a.line refl)) (eq-eqb a.lsn a.lsn refl)

-- the list without one that is in it
pub record IsLess (x : Ack) (ys zs : List Ack) : Type 0 where
  pub counts : (a : Ack) → occurs a ys ≡ cond (is_same_ack a x) 1 0 + occurs a zs
  pub length_is : length ys ≡ suc (length zs)

-- one in front is that one, or another
by_first : (x y : Ack) (ys : List Ack) → (0 < occurs x ys → (zs : List Ack) × IsLess x ys zs) → 0 < occurs x (y ∷ ys) → (b : Bool)
    → is_same_ack x y ≡ b → (zs : List Ack) × IsLess x (y ∷ ys) zs
by_first x y ys later some true same =
    let is : x ≡ y = same_ack_is x y same in (
      ys,
      record {
        counts = λ a. counted_first a y ys ∙ ap (λ z. cond (is_same_ack a z) 1 0 + occurs a ys) (sym is);
        length_is = refl;
      },
    )
by_first x y ys later some false other =
    let first = counted_first x y ys in
    let none : cond {A = ℕ} (is_same_ack x y) 1 0 ≡ 0 = ap (λ b. cond {A = ℕ} b 1 0) other in
    let rest = later (omega (arith, some, first, none)) in (
      y ∷ rest.0,
      record {
        counts = λ a.
            let whole = counted_first a y ys in
            let less = rest.1.counts a in
            let now = counted_first a y rest.0 in
            omega (arith, whole, less, now);
        length_is = ap suc rest.1.length_is;
      },
    )

without_one : (x : Ack) (ys : List Ack) → 0 < occurs x ys → (zs : List Ack) × IsLess x ys zs
without_one x [] some = absurd (omega arith)
without_one x (y ∷ ys) some = by_first x y ys (without_one x ys) some (is_same_ack x y) refl

pub no_longer : (xs ys : List Ack) → ((a : Ack) → occurs a xs ≤ occurs a ys) → length xs ≤ length ys
no_longer [] ys all = omega arith
no_longer (x ∷ xs) ys all =
    let own = counted_first x x xs in
    let one : cond {A = ℕ} (is_same_ack x x) 1 0 ≡ 1 = ap (λ b. cond {A = ℕ} b 1 0) (same_self x) in
    let less = without_one x ys (omega (arith, all x, own, one)) in
    let rest = no_longer xs less.0 (λ a.
    let whole = counted_first a x xs in
    let some = less.1.counts a in
    omega (arith, all a, whole, some)) in
    omega (arith, rest, less.1.length_is)

-- and it is shorter where it has one of them less often
pub shorter : (xs ys : List Ack) (x : Ack) → ((a : Ack) → occurs a xs ≤ occurs a ys) → occurs x xs < occurs x ys
    → length xs < length ys
shorter xs ys x all less =
    let longer = no_longer (x ∷ xs) ys (λ a. by_test a (is_same_ack a x) refl) in
    omega (arith, longer)
  where
    by_test : (a : Ack) (b : Bool) → is_same_ack a x ≡ b → occurs a (x ∷ xs) ≤ occurs a ys
    by_test a true same =
        let is : a ≡ x = same_ack_is a x same in
        let more : occurs a xs < occurs a ys = subst (λ y. occurs y xs < occurs y ys) (sym is) less in
        let whole = counted_first a x xs in
        let one : cond {A = ℕ} (is_same_ack a x) 1 0 ≡ 1 = ap (λ b. cond {A = ℕ} b 1 0) same in
        omega (arith, more, whole, one)
    by_test a false other =
        let whole = counted_first a x xs in
        let none : cond {A = ℕ} (is_same_ack a x) 1 0 ≡ 0 = ap (λ b. cond {A = ℕ} b 1 0) other in
        omega (arith, all a, whole, none)
