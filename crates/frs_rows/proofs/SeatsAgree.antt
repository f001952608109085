-- Each step keeps what ties the seats together.
use Rattle.std.proofs.Common.{◌≡◌, ◌≢◌, ◌⊎◌, ℕ, zero, suc, List, [], ◌∷◌, ◌++◌, length, map, set, replicate, Bool, true, false, true≢false, refl, sym, ap, ◌∙◌, subst, inl, inr, ⊎_elim, eqb, eq-eqb, ne_eqb}
use mathlib.Core.Option.{some, some-ne-none, some-injective}
use prog.Atomic.{either}
use lib.ListN.{get_elem?}
use Rattle.atomic_table.specs.Table.{State, Me, keeps, Allows, Splits, Joins}
use Rattle.atomic_table.proofs.Lists.{at_set, at_snoc, set_again, set_else}
use Rattle.frs_rows.specs.declared.steps.SeatView.{SeatView}
use Rattle.frs_rows.specs.Seats.{Lending, row_in, lent_row, row_at_place, keeper_seat, keeper_with_note, hold_seat, empty_seat, IsKeeperSeat, IsHoldSeat, first_seat, keeper_after_lend, hold_after_lend, keeper_after_back, IsLook, IsChangeTo, AgreesWith, SeatsAgree}

module _ {A : Type 0} where
  pub set_there : (l : List A) (i : ℕ) (a b : A) → get_elem? l i ≡ some b → get_elem? (set l i a) i ≡ some a
  set_there [] i a b e = absurd (some-ne-none b (sym e))
  set_there (x ∷ xs) zero a b e = refl
  set_there (x ∷ xs) (suc i) a b e = set_there xs i a b e

  at_end : (l : List A) (a b : A) (j : ℕ) → get_elem? (l ++ a ∷ []) j ≡ some b → (get_elem? l j ≡ some b) ⊎ ((j ≡ length l) × (a ≡ b))
  at_end [] a b zero e = inr (refl, some-injective a b e)
  at_end [] a b (suc j) e = absurd (some-ne-none b (sym e))
  at_end (x ∷ xs) a b zero e = inl e
  at_end (x ∷ xs) a b (suc j) e = ⊎_elim (λ t. inl t) (λ t. inr (ap suc t.0, t.1)) (at_end xs a b j e)

off : false ≡ true → ⊥
off e = true≢false (sym e)

pub row_there : (es : List Lending) (c : ℕ) (e : Lending) → get_elem? es c ≡ some e → row_at_place es c ≡ row_in e
row_there [] c e is = absurd (some-ne-none e (sym is))
row_there (x ∷ xs) zero e is = ap row_in (some-injective x e is)
row_there (x ∷ xs) (suc c) e is = row_there xs c e is

-- the rule, from the keeper's seat
From : ℕ → List Lending → (ℕ → ℕ) → List SeatView → Type 0
From id es who views = (by : ℕ) (u : SeatView) → get_elem? views by ≡ some u → AgreesWith id es who by u

from_keeper : (views : List SeatView) (id : ℕ) (v : SeatView) → v.keeps ≡ true → SeatsAgree views → get_elem? views id ≡ some v → (who : ℕ → ℕ) × ((by : ℕ) (u : SeatView) → get_elem? views by ≡ some u → AgreesWith id v.rows who by u)
from_keeper views id v k h at =
    let mine = (h.3 id v at).0 k in
    (h.2, subst (λ (x : ℕ × List Lending). (by : ℕ) (u : SeatView) → get_elem? views by ≡ some u → AgreesWith x.0 x.1 h.2 by u) (λ i. (sym mine.0 i, sym mine.1 i)) h.3)

empty_agrees : (id : ℕ) (es : List Lending) (who : ℕ → ℕ) (j : ℕ) → AgreesWith id es who j empty_seat
empty_agrees id es who j = ((λ k. absurd (off k)), (λ _ c. absurd (off c)))

-- a hold of another place is not touched by what changes at the place c
agrees_elsewhere : (id : ℕ) (es : List Lending) (who who' : ℕ → ℕ) (c : ℕ) (x : Lending) (j : ℕ) (u : SeatView) → j ≢ id
    → (u.keeps ≡ false → u.claims ≡ true → (u.place ≢ c) × (who' u.place ≡ who u.place)) → AgreesWith id es who j u → AgreesWith id (set es c x) who' j u
agrees_elsewhere id es who who' c x j u ne apart f =
    ((λ k. absurd (ne (f.0 k).0)), (λ k cl. let t = apart k cl in let g = f.1 k cl in (t.1 ∙ g.0, set_else es c u.place x t.0 ∙ g.1)))

pub begins : (clients width : ℕ) → SeatsAgree (first_seat clients width ∷ [])
begins clients width = (0, replicate clients (false, replicate width 0), (λ _. 0), one)
  where
    one : (by : ℕ) (v : SeatView) → get_elem? (first_seat clients width ∷ []) by ≡ some v → AgreesWith 0 (replicate clients (false, replicate width 0)) (λ _. 0) by v
    one zero v e = subst (AgreesWith 0 (replicate clients (false, replicate width 0)) (λ _. 0) 0) (some-injective _ _ e) ((λ _. (refl, refl, (λ c. absurd (off c)))), (λ k. absurd (true≢false k)))
    one (suc by) v e = absurd (some-ne-none v (sym e))

abbrev pub Rule : State ℕ SeatView → Type 0
Rule s = SeatsAgree s.views

pub blanks : (id : ℕ) (v : SeatView) → Splits Rule id v v empty_seat
blanks id v s h at = (
  h.0,
  h.1,
  h.2,
  λ j u e. ⊎_elim
      (λ was. h.3 j u (subst (λ l. get_elem? l j ≡ some u) (set_again s.views id v at) was))
      (λ (same : empty_seat ≡ u). subst (AgreesWith h.0 h.1 h.2 j) same (empty_agrees h.0 h.1 h.2 j))
      (at_snoc (set s.views id v) empty_seat u j e),
)

pub backs : (id : ℕ) (es : List Lending) (c other p : ℕ) (r : List ℕ) → Joins Rule id (keeper_seat es c) other (hold_seat p r) (keeper_after_back (keeper_seat es c) (hold_seat p r)) empty_seat
backs id es c other p r s h at apart there =
    let w = keeper_after_back (keeper_seat es c) (hold_seat p r) in
    let k = from_keeper s.views id (keeper_seat es c) refl h at in
    let who = k.0 in
    let was : get_elem? s.views other ≡ some (hold_seat p r) = ⊎_elim (λ t. absurd (apart t.0)) (λ t. t.1) (at_set s.views id other w (hold_seat p r) there) in
    let theirs = (k.1 other (hold_seat p r) was).1 refl refl in
    let x : Lending = (false, row_at_place es p) in
    let here : get_elem? (set es p x) p ≡ some (false, r) = set_there es p x (lent_row r) theirs.1 ∙ ap (λ (l : List ℕ). some (false, l)) (row_there es p (lent_row r) theirs.1) in (
      id,
      set es p x,
      who,
      λ j u e. ⊎_elim
          (λ t. subst (AgreesWith id (set es p x) who j) t.1 (empty_agrees id (set es p x) who j))
          (λ t. ⊎_elim
          (λ y. subst (λ (z : ℕ × SeatView). AgreesWith id (set es p x) who z.0 z.1) (λ i. (sym y.0 i, y.1 i)) ((λ _. (refl, refl, (λ _. here))), (λ f. absurd (true≢false f))))
          (λ y. agrees_elsewhere id es who who p x j u y.0 (λ f cl. ((λ same. t.0 (sym ((k.1 j u y.1).1 f cl).0 ∙ ap who same ∙ theirs.0)), refl)) (k.1 j u y.1))
          (at_set s.views id j w u t.1))
          (at_set (set s.views id w) other j empty_seat u e),
    )

pub looks : (slots id : ℕ) (es : List Lending) (c : ℕ) (r : List ℕ) (out : List (ℕ × ℕ)) → Allows Rule slots id (keeper_with_note es c r, out) 0 (λ n. n) (λ n w. IsLook (keeper_with_note es c r) w.0 × (w.1 ≡ out))
looks slots id es c r out s h _ at _ =
    let k = from_keeper s.views id (keeper_with_note es c r) refl h at in
    let who = k.0 in
    let w = keeper_seat es c in (
      w,
      keeps,
      tt,
      (
        id,
        es,
        who,
        λ j u e. ⊎_elim
            (λ y. subst (λ (z : ℕ × SeatView). AgreesWith id es who z.0 z.1) (λ i. (sym y.0 i, y.1 i)) ((λ _. (refl, refl, (λ f. absurd (off f)))), (λ f. absurd (true≢false f))))
            (λ y. k.1 j u y.1)
            (at_set s.views id j w u e),
      ),
      ((refl, λ _. ((k.1 id (keeper_with_note es c r) at).0 refl).2 refl), refl),
    )

pub changes : (slots id : ℕ) (es : List Lending) (c : ℕ) (r x : List ℕ) (out : List (ℕ × ℕ)) → get_elem? es c ≡ some (false, r) → Allows Rule slots id (keeper_seat es c, out) 0 (λ n. n) (λ n w. IsChangeTo x (keeper_seat es c) w.0 × (w.1 ≡ out))
changes slots id es c r x out home s h _ at _ =
    let k = from_keeper s.views id (keeper_seat es c) refl h at in
    let who = k.0 in
    let y : Lending = (false, x) in
    let w = keeper_seat (set es c y) c in (
      w,
      keeps,
      tt,
      (
        id,
        set es c y,
        who,
        λ j u e. ⊎_elim
            (λ t. subst (λ (z : ℕ × SeatView). AgreesWith id (set es c y) who z.0 z.1) (λ i. (sym t.0 i, t.1 i)) ((λ _. (refl, refl, (λ f. absurd (off f)))), (λ f. absurd (true≢false f))))
            (λ t. agrees_elsewhere id es who who c y j u t.0 (λ f cl. (not_home u ((k.1 j u t.1).1 f cl).1, refl)) (k.1 j u t.1))
            (at_set s.views id j w u e),
      ),
      ((refl, (r, home), refl), refl),
    )
  where
    not_home : (u : SeatView) → get_elem? es u.place ≡ some (lent_row u.row) → u.place ≢ c
    not_home u is same = true≢false (ap (λ (z : Lending). z.0) (some-injective _ _ (sym is ∙ ap (get_elem? es) same ∙ home)))

pub lends : (id : ℕ) (es : List Lending) (c : ℕ) (r : List ℕ) → get_elem? es c ≡ some (false, r) → Splits Rule id (keeper_seat es c) (keeper_after_lend (keeper_seat es c)) (hold_after_lend (keeper_seat es c))
lends id es c r home s h at =
    let k = from_keeper s.views id (keeper_seat es c) refl h at in
    let who = k.0 in
    let x : Lending = lent_row (row_at_place es c) in
    let w = keeper_after_lend (keeper_seat es c) in
    let n : ℕ = length (set s.views id w) in
    let who' : ℕ → ℕ = λ i. either (eqb i c) n (who i) in (
      id,
      set es c x,
      who',
      λ j u e. ⊎_elim
          (λ was. ⊎_elim
          (λ t. subst (λ (z : ℕ × SeatView). AgreesWith id (set es c x) who' z.0 z.1) (λ i. (sym t.0 i, t.1 i)) ((λ _. (refl, refl, (λ f. absurd (off f)))), (λ f. absurd (true≢false f))))
          (λ t. agrees_elsewhere id es who who' c x j u t.0 (λ f cl. let ne = not_home u ((k.1 j u t.1).1 f cl).1 in (ne, ap (λ (b : Bool). either b n (who u.place)) (ne_eqb u.place c ne))) (k.1 j u t.1))
          (at_set s.views id j w u was))
          (λ t. subst (λ (z : ℕ × SeatView). AgreesWith id (set es c x) who' z.0 z.1) (λ i. (sym t.0 i, t.1 i))
          ((λ f. absurd (off f)), (λ _ _. (ap (λ (b : Bool). either b n (who c)) (eq-eqb c c refl), set_there es c x (false, r) home))))
          (at_end (set s.views id w) (hold_after_lend (keeper_seat es c)) u j e),
    )
  where
    not_home : (u : SeatView) → get_elem? es u.place ≡ some (lent_row u.row) → u.place ≢ c
    not_home u is same = true≢false (ap (λ (z : Lending). z.0) (some-injective _ _ (sym is ∙ ap (get_elem? es) same ∙ home)))

-- the moves, at views that are keeper_view
pub backs_as : (id : ℕ) (v : SeatView) (other : ℕ) (u : SeatView) → IsKeeperSeat v → IsHoldSeat u → Joins Rule id v other u (keeper_after_back v u) empty_seat
backs_as id v other u k h = subst (λ (z : SeatView × SeatView). Joins Rule id z.0 other z.1 (keeper_after_back z.0 z.1) empty_seat) (λ i. (sym k i, sym h i)) (backs id v.rows v.place other u.place u.row)

pub looks_as : (slots id : ℕ) (me : Me ℕ SeatView) (es : List Lending) (c : ℕ) (r : List ℕ) → me.0 ≡ keeper_with_note es c r → Allows Rule slots id me 0 (λ n. n) (λ n w. IsLook me.0 w.0 × (w.1 ≡ me.1))
looks_as slots id me es c r is = subst (λ (v : SeatView). Allows Rule slots id (v, me.1) 0 (λ n. n) (λ n w. IsLook v w.0 × (w.1 ≡ me.1))) (sym is) (looks slots id es c r me.1)

pub changes_as : (slots id : ℕ) (me : Me ℕ SeatView) (es : List Lending) (c : ℕ) (r x : List ℕ) → me.0 ≡ keeper_seat es c → get_elem? es c ≡ some (false, r) → Allows Rule slots id me 0 (λ n. n) (λ n w. IsChangeTo x me.0 w.0 × (w.1 ≡ me.1))
changes_as slots id me es c r x is home = subst (λ (v : SeatView). Allows Rule slots id (v, me.1) 0 (λ n. n) (λ n w. IsChangeTo x v w.0 × (w.1 ≡ me.1))) (sym is) (changes slots id es c r x me.1 home)

pub lends_as : (id : ℕ) (v : SeatView) (es : List Lending) (c : ℕ) (r : List ℕ) → v ≡ keeper_seat es c → get_elem? es c ≡ some (false, r) → Splits Rule id v (keeper_after_lend v) (hold_after_lend v)
lends_as id v es c r is home = subst (λ (u : SeatView). Splits Rule id u (keeper_after_lend u) (hold_after_lend u)) (sym is) (lends id es c r home)

pub is_keeper : (v : SeatView) (es : List Lending) (c : ℕ) → v ≡ keeper_seat es c → IsKeeperSeat v
is_keeper v es c is = subst IsKeeperSeat (sym is) refl

-- a revise leaves just the new row, and has seen the old one
pub revised_rows : (es : List Lending) (p : ℕ) (a : Lending) (x : List ℕ) → set (set (set es p a) p (false, x)) p (lent_row (row_at_place (set (set es p a) p (false, x)) p)) ≡ set es p (lent_row x)
revised_rows [] p a x = refl
revised_rows (e ∷ es) zero a x = refl
revised_rows (e ∷ es) (suc p) a x = ap (λ (l : List Lending). e ∷ l) (revised_rows es p a x)

pub told_row : (es : List Lending) (p : ℕ) (r : List ℕ) → get_elem? (set es p (false, row_at_place es p)) p ≡ some (false, r) → get_elem? (map row_in es) p ≡ some r
told_row [] p r e = absurd (some-ne-none (false, r) (sym e))
told_row (x ∷ es) zero r e = ap (λ (z : Lending). some (row_in z)) (some-injective _ _ e)
told_row (x ∷ es) (suc p) r e = told_row es p r e
