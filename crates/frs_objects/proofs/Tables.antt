-- What a change of a table changes at each place.
use Rattle.std.proofs.Common.{◌≡◌, Bool, true, false, cond, Some, None, refl, sym, ap, ◌∙◌, nat_cmp}
use Rattle.std.specs.Ordering.{eq_by_cmp}
use Rattle.std.specs.Cmp.{IsTotalOrder, both_tied, on_total, then_total, eq_by_cmp_equiv}
use Rattle.std.specs.Cmp.Lexicographic.{slice_cmp, nat_list_cmp_total, texts_ties}
use Rattle.std.specs.FinMap.Entries.{put, where_key, is_sorted-put, is_sorted-where_key, find-put, find-where_key, same_entries}
use Rattle.std.proofs.lemmas.Bool.{and_parts}
use Rattle.std.proofs.lemmas.Slice.Eq.{bytes_eq-Decides}
use Rattle.std.proofs.lemmas.Map.Lookups.{exact_bytes, exact_pairs}
use Rattle.frs_types.specs.Maps.{Place, Table, IsTable, at, place_cmp, same_place}
use Rattle.frs_types.proofs.Truth.{is_true, from_is_true}

abbrev pub total : IsTotalOrder place_cmp
total = then_total (on_total (λ (p : Place). p.0) nat_list_cmp_total) (on_total (λ (p : Place). p.1) nat_list_cmp_total)

pub tied_place : (p q : Place) → eq_by_cmp place_cmp p q ≡ same_place p q
tied_place p q = sym (both_tied _ _ (slice_cmp nat_cmp p.0 q.0) (slice_cmp nat_cmp p.1 q.1) (texts_ties p.0 q.0) (texts_ties p.1 q.1))

pub place_from : (p q : Place) → same_place p q ≡ true → p ≡ q
place_from p q e = λ i. (((bytes_eq-Decides p.0 q.0).0 (and_parts _ _ e).0) i, ((bytes_eq-Decides p.1 q.1).0 (and_parts _ _ e).1) i)

pub place_itself : (p : Place) → same_place p p ≡ true
place_itself p = sym (tied_place p p) ∙ (eq_by_cmp_equiv total).refl p

-- one place, or two
pub by_place : (p q : Place) (P : Bool → Type 0) → (p ≡ q → P true) → (same_place p q ≡ false → P false) → P (same_place p q)
by_place p q P same apart =
    elim (same_place p q) as (λ b. same_place p q ≡ b → P b) [
      | true ↦ λ e. same (place_from p q e)
      | false ↦ λ e. apart e
    ] refl

module _ {X : Type 0} where
  pub IsTable-put : (p : Place) (x : X) (t : Table X) → IsTable t → IsTable (put place_cmp p x t)
  IsTable-put p x t is = is_true _ (is_sorted-put place_cmp total p x t (from_is_true _ is))

  pub IsTable-where : (test : Place → Bool) (t : Table X) → IsTable t → IsTable (where_key place_cmp test t)
  IsTable-where test t is = is_true _ (is_sorted-where_key place_cmp test t (from_is_true _ is))

  pub at-put : (p q : Place) (x : X) (t : Table X) → at (put place_cmp p x t) q ≡ cond (same_place p q) (Some x) (at t q)
  at-put p q x t = find-put place_cmp total q p x t ∙ ap (λ b. cond b (Some x) (at t q)) ((eq_by_cmp_equiv total).symm q p ∙ tied_place p q)

  pub at-where : (test : Place → Bool) (q : Place) (t : Table X) → at (where_key place_cmp test t) q ≡ cond (test q) (at t q) None
  at-where test q t = find-where_key place_cmp test q (λ x e. ap test (sym (exact_pairs (slice_cmp nat_cmp) (slice_cmp nat_cmp) exact_bytes exact_bytes q x e))) t

  pub same_tables : (s t : Table X) → IsTable s → IsTable t → ((p : Place) → at s p ≡ at t p) → s ≡ t
  same_tables s t i j same = same_entries place_cmp total (exact_pairs (slice_cmp nat_cmp) (slice_cmp nat_cmp) exact_bytes exact_bytes) s t (from_is_true _ i) (from_is_true _ j) same
