-- What stands at a place of a table after changes: what the last change that touches the place gives.
use Rattle.std.proofs.Common.{◌≡◌, ℕ, Bool, true, false, cond, not, ◌&&◌, ◌||◌, List, [], ◌∷◌, ◌++◌, Option, Some, None, Equal, refl, sym, ap, ◌∙◌, flat_map, is_eq, nat_cmp, bytes_eq, unwrap_or, Decides, ◌==◌, ◌⊎◌, inl, inr, eqb-true}
use Rattle.std.specs.Bool.{one_answer}
use Rattle.std.specs.List.{AllByRecursion, list_any}
use Rattle.std.specs.Option.{option_or}
use Rattle.std.specs.Ordering.{eq_by_cmp}
use Rattle.std.specs.Cmp.{IsTotalOrder, on_total, tied_then, then_total}
use Rattle.std.specs.Cmp.Lexicographic.{slice_cmp, nat_list_cmp_total}
use Rattle.std.specs.FinMap.Entries.{find-put, find-where_key}
use Rattle.std.proofs.lemmas.Bool.{and_parts, and_from}
use Rattle.std.proofs.lemmas.Slice.Eq.{bytes_eq-Decides}
use Rattle.std.proofs.lemmas.Map.Text.{is_eq-slice_cmp}
use Rattle.frs_types.specs.Maps.{Place, Table, Change, place_cmp, same_place, at, table_after, table_after_all}
use Rattle.frs_types.specs.Maps.Change.{Set, Take, Clear}

-- ---- places

pub same_place-Decides : (p q : Place) → Decides (same_place p q) (p ≡ q)
same_place-Decides p q = (
  λ is.
      let both = and_parts (bytes_eq p.0 q.0) (bytes_eq p.1 q.1) is in
      let ids : p.0 ≡ q.0 = (bytes_eq-Decides p.0 q.0).0 both.0 in
      let keys : p.1 ≡ q.1 = (bytes_eq-Decides p.1 q.1).0 both.1 in
      λ i. (ids i, keys i),
  λ is. and_from _ _ ((bytes_eq-Decides p.0 q.0).1 (ap (λ (x : Place). x.0) is)) ((bytes_eq-Decides p.1 q.1).1 (ap (λ (x : Place). x.1) is)),
)

same_both_ways : (p q : Place) → same_place p q ≡ same_place q p
same_both_ways p q = one_answer (same_place p q) (same_place q p) (same_place-Decides p q) (λ is. sym ((same_place-Decides q p).0 is), λ is. (same_place-Decides q p).1 (sym is))

-- the order of places ties where they are the same
pub place_ties : (p q : Place) → eq_by_cmp place_cmp p q ≡ same_place q p
place_ties p q =
    sym (tied_then (slice_cmp nat_cmp p.0 q.0) (slice_cmp nat_cmp p.1 q.1))
    ∙ ap (λ b. b && is_eq (slice_cmp nat_cmp p.1 q.1)) (is_eq-slice_cmp p.0 q.0)
    ∙ ap (λ b. bytes_eq p.0 q.0 && b) (is_eq-slice_cmp p.1 q.1)
    ∙ same_both_ways p q

pub place_from_tie : (p q : Place) → place_cmp p q ≡ Equal → q ≡ p
place_from_tie p q tie = (same_place-Decides q p).0 (sym (place_ties p q) ∙ ap is_eq tie)

pub place_total : IsTotalOrder place_cmp
place_total = then_total (on_total (λ (p : Place). p.0) nat_list_cmp_total) (on_total (λ (p : Place). p.1) nat_list_cmp_total)

-- ---- one change

module _ {X : Type 0} where
  -- the change speaks of the place, and what it leaves there
  abbrev pub touches : Place → Change X → Bool
  touches p (Set id key x) = same_place (id, key) p
  touches p (Take id key) = same_place (id, key) p
  touches p (Clear id) = bytes_eq id p.0

  abbrev pub given : Change X → Option X
  given (Set id key x) = Some x
  given (Take id key) = None
  given (Clear id) = None

  kept_where : (b : Bool) (o : Option X) → cond (not b) o None ≡ cond b None o
  kept_where true o = refl
  kept_where false o = refl

  pub at-table_after : (p : Place) (x : Change X) (t : Table X) → at (table_after t x) p ≡ cond (touches p x) (given x) (at t p)
  at-table_after p (Set id key x) t = find-put place_cmp place_total p (id, key) x t ∙ ap (λ b. cond b (Some x) (at t p)) (place_ties p (id, key))
  at-table_after p (Take id key) t =
      find-where_key place_cmp (λ q. not (same_place (id, key) q)) p (λ q tie. ap (λ (r : Place). not (same_place (id, key) r)) (place_from_tie p q tie)) t
      ∙ kept_where (same_place (id, key) p) (at t p)
  at-table_after p (Clear id) t =
      find-where_key place_cmp (λ (q : Place). not (bytes_eq id q.0)) p (λ q tie. ap (λ (r : Place). not (bytes_eq id r.0)) (place_from_tie p q tie)) t
      ∙ kept_where (bytes_eq id p.0) (at t p)

  -- ---- a list of changes

  -- what the last change that touches the place leaves there, if one touches it
  abbrev pub latest : Place → List (Change X) → Option (Option X)
  latest p [] = None
  latest p (x ∷ cs) = option_or (latest p cs) (cond (touches p x) (Some (given x)) None)

  latest_one : (o : Option (Option X)) (b : Bool) (g a : Option X) → unwrap_or o (cond b g a) ≡ unwrap_or (option_or o (cond b (Some g) None)) a
  latest_one None true g a = refl
  latest_one None false g a = refl
  latest_one (Some x) b g a = refl

  pub at-table_after_all : (p : Place) (cs : List (Change X)) (t : Table X) → at (table_after_all t cs) p ≡ unwrap_or (latest p cs) (at t p)
  at-table_after_all p [] t = refl
  at-table_after_all p (x ∷ cs) t =
      at-table_after_all p cs (table_after t x)
      ∙ ap (unwrap_or (latest p cs)) (at-table_after p x t)
      ∙ latest_one (latest p cs) (touches p x) (given x) (at t p)

  or_in_turn : (a b c : Option (Option X)) → option_or (option_or a b) c ≡ option_or a (option_or b c)
  or_in_turn None b c = refl
  or_in_turn (Some x) b c = refl

  or_none : (a : Option (Option X)) → option_or a None ≡ a
  or_none None = refl
  or_none (Some x) = refl

  or_itself : (a : Option (Option X)) → option_or a a ≡ a
  or_itself None = refl
  or_itself (Some x) = refl

  pub latest-append : (p : Place) (cs ds : List (Change X)) → latest p (cs ++ ds) ≡ option_or (latest p ds) (latest p cs)
  latest-append p [] ds = sym (or_none (latest p ds))
  latest-append p (x ∷ cs) ds = ap (λ o. option_or o (cond (touches p x) (Some (given x)) None)) (latest-append p cs ds) ∙ or_in_turn (latest p ds) (latest p cs) (cond (touches p x) (Some (given x)) None)

  -- ---- the changes of several transactions, one transaction behind the other

  module _ (p : Place) (f : ℕ → List (Change X)) where
    -- none of them touches the place
    pub latest_none : (ts : List ℕ) → AllByRecursion (λ t. latest p (f t) ≡ None) ts → latest p (flat_map f ts) ≡ None
    latest_none [] untouched = refl
    latest_none (t ∷ ts) untouched = latest-append p (f t) (flat_map f ts) ∙ ap (λ o. option_or o (latest p (f t))) (latest_none ts untouched.1) ∙ untouched.0

    module _ (tx : ℕ) (others : (t : ℕ) → (t == tx) ≡ false → latest p (f t) ≡ None) where
      none_before : (t : ℕ) (ts : List ℕ) → (t == tx) ≡ false → latest p (flat_map f (t ∷ ts)) ≡ latest p (flat_map f ts)
      none_before t ts is = latest-append p (f t) (flat_map f ts) ∙ ap (option_or (latest p (flat_map f ts))) (others t is) ∙ or_none (latest p (flat_map f ts))

      either_before : (t : ℕ) (ts : List ℕ) → (t == tx) ≡ true → (latest p (flat_map f ts) ≡ latest p (f tx)) ⊎ (latest p (flat_map f ts) ≡ None) → latest p (flat_map f (t ∷ ts)) ≡ latest p (f tx)
      either_before t ts is rest =
          latest-append p (f t) (flat_map f ts)
          ∙ ap (λ k. option_or (latest p (flat_map f ts)) (latest p (f k))) (eqb-true t tx is)
          ∙ elim rest as (λ _. option_or (latest p (flat_map f ts)) (latest p (f tx)) ≡ latest p (f tx)) [
            | inl same ↦ ap (λ o. option_or o (latest p (f tx))) same ∙ or_itself (latest p (f tx))
            | inr none ↦ ap (λ o. option_or o (latest p (f tx))) none
          ]

      latest_at_most : (ts : List ℕ) → (latest p (flat_map f ts) ≡ latest p (f tx)) ⊎ (latest p (flat_map f ts) ≡ None)
      latest_at_most [] = inr refl
      latest_at_most (t ∷ ts) = elim (t == tx) as (λ b. (t == tx) ≡ b → (latest p (flat_map f (t ∷ ts)) ≡ latest p (f tx)) ⊎ (latest p (flat_map f (t ∷ ts)) ≡ None)) [
        | true ↦ λ is. inl (either_before t ts is (latest_at_most ts))
        | false ↦ λ is. elim (latest_at_most ts) [
          | inl same ↦ inl (none_before t ts is ∙ same)
          | inr none ↦ inr (none_before t ts is ∙ none)
        ]
      ] refl

      -- where tx is among them, and no other touches the place
      pub latest_of : (ts : List ℕ) → list_any (λ t. t == tx) ts ≡ true → latest p (flat_map f ts) ≡ latest p (f tx)
      latest_of [] is = absurd cc
      latest_of (t ∷ ts) is = elim (t == tx) as (λ b. (t == tx) ≡ b → (b || list_any (λ k. k == tx) ts) ≡ true → latest p (flat_map f (t ∷ ts)) ≡ latest p (f tx)) [
        | true ↦ λ is _. either_before t ts is (latest_at_most ts)
        | false ↦ λ is among. none_before t ts is ∙ latest_of ts among
      ] refl is

  -- the same for lists that do the same at the place
  pub latest_alike : (p : Place) (f g : ℕ → List (Change X)) → ((t : ℕ) → latest p (f t) ≡ latest p (g t)) → (ts : List ℕ) → latest p (flat_map f ts) ≡ latest p (flat_map g ts)
  latest_alike p f g same [] = refl
  latest_alike p f g same (t ∷ ts) =
      latest-append p (f t) (flat_map f ts)
      ∙ ap (λ o. option_or o (latest p (f t))) (latest_alike p f g same ts)
      ∙ ap (option_or (latest p (flat_map g ts))) (same t)
      ∙ sym (latest-append p (g t) (flat_map g ts))
