-- Entries in the order of their places are what the maps of them list.
use Rattle.std.proofs.Common.{◌≡◌, ℕ, ◌+◌, ◌<◌, Bool, true, false, cond, T, List, [], ◌∷◌, length, get_or, map, fold, Option, Some, None, inl, inr, refl, sym, ap, subst, ◌∙◌, arith, Ordering, Less, Equal, Greater, nat_cmp, is_eq, is_lt}
use Rattle.std.proofs.lemmas.Bool.{cases_Bool}
use Rattle.std.proofs.lemmas.List.{get_or-map, length-map}
use Rattle.std.proofs.lemmas.List.Folds.{flat_map-map}
use Rattle.std.proofs.lemmas.List.Sorted.{IsPermutation-map, IsPermutation-sym, Contains-permutation}
use Rattle.std.proofs.lemmas.Simd.{map-map}
use Rattle.std.proofs.lemmas.Map.Entries.{place_from_lookup, lookup_from_place}
use Rattle.std.proofs.lemmas.Map.Keys.{IsDistinct-head, IsDistinct-tail, IsDistinct-IsPermutation, apart_from_distinct, sorted_head, sorted_tail, sorted_from_all_adjacent}
use Rattle.std.proofs.lemmas.Map.Lookups.{CmpEqualImpliesEq, exact_bytes, exact_pairs}
use Rattle.std.proofs.lemmas.Option.{slice_get_within, get_or_from_slice_get, slice_get-get_or}
use Rattle.std.specs.Borrow.{Bor}
use Rattle.std.specs.Cmp.{IsTotalOrder, both_tied, on_total, then_total, eq_by_cmp_equiv}
use Rattle.std.specs.Cmp.Lexicographic.{slice_cmp, nat_list_cmp_total, texts_ties}
use Rattle.std.specs.FinMap.Entries.{put, find, below_all, is_sorted, is_sorted-put, find-put, find_tied, same_entries}
use Rattle.std.specs.List.{AllByRecursion, IsDistinct, flat_map}
use Rattle.std.specs.List.Sorted.{IsPermutation, IsSortedBy, IsStrictlySortedBy}
use Rattle.std.specs.Map.{lookup, keys_of}
use Rattle.std.specs.Ordering.{eq_by_cmp, ordering_reverse}
use Rattle.frs_types.specs.declared.record.Entry.{Entry}
use Rattle.frs_types.specs.Maps.{Place, Maps, place_cmp, same_place}
use Rattle.frs_types.specs.Survivors.{maps_of}
use Rattle.frs_recovery.specs.Answers.{place_of_entry}
use Rattle.frs_text.specs.Rows.{pair_of, pairs_of, row_line}
use Rattle.frs_text.specs.Text.{entry_line, dump}
use Rattle.frs_types.proofs.Truth.{and_both}

-- ---- the order of places

pub place_total : IsTotalOrder place_cmp
place_total = then_total (on_total (λ (p : Place). p.0) nat_list_cmp_total) (on_total (λ (p : Place). p.1) nat_list_cmp_total)

place_exact : CmpEqualImpliesEq place_cmp
place_exact = exact_pairs (slice_cmp nat_cmp) (slice_cmp nat_cmp) exact_bytes exact_bytes

place_ties : (p q : Place) → same_place p q ≡ eq_by_cmp place_cmp p q
place_ties p q = both_tied _ _ (slice_cmp nat_cmp p.0 q.0) (slice_cmp nat_cmp p.1 q.1) (texts_ties p.0 q.0) (texts_ties p.1 q.1)

-- places that differ in their bytes differ in their order
apart_in_order : (ps : List Place) → IsDistinct same_place ps → IsDistinct (eq_by_cmp place_cmp) ps
apart_in_order ps h = subst (λ (e : Place → Place → Bool). IsDistinct e ps) (λ i p q. place_ties p q i) h

-- ---- a look-up, and entries that change their places

found_by_test : (q : Place) (t : Maps) → find place_cmp q t ≡ lookup (eq_by_cmp place_cmp q) t
found_by_test q [] = refl
found_by_test q (e ∷ t) = ap (λ x. cond (eq_by_cmp place_cmp q e.0) (Some e.1) x) (found_by_test q t)

is_equal : (o : Ordering) → is_eq o ≡ true → o ≡ Equal
is_equal Less h = cc
is_equal Equal h = refl
is_equal Greater h = cc

found_moved : (t u : Maps) (q : Place) (v : List ℕ) → IsPermutation t u → IsDistinct (eq_by_cmp place_cmp) (keys_of t) → lookup (eq_by_cmp place_cmp q) t ≡ Some v → lookup (eq_by_cmp place_cmp q) u ≡ Some v
found_moved t u q v moved apart h =
    let at = place_from_lookup (eq_by_cmp place_cmp q) t v h in
    let entry : Place × List ℕ = (at.1, v) in
    let there = Contains-permutation t u entry moved (at.0, slice_get_within t at.0 entry at.2, get_or_from_slice_get t at.0 entry entry at.2) in
    let apart_there = IsDistinct-IsPermutation (eq_by_cmp place_cmp) (eq_by_cmp_equiv place_total).symm (keys_of t) (keys_of u) (IsPermutation-map (λ (e : Place × List ℕ). e.0) t u moved) apart in
    let same : q ≡ at.1 = place_exact q at.1 (is_equal _ at.3) in
    ap (λ p. lookup (eq_by_cmp place_cmp p) u) same
    ∙ lookup_from_place (eq_by_cmp_equiv place_total) u there.0 at.1 v apart_there (slice_get-get_or u there.0 entry there.1 ∙ ap Some there.2)

found_alike : (t u : Maps) (q : Place) → IsPermutation t u → IsDistinct (eq_by_cmp place_cmp) (keys_of t) → lookup (eq_by_cmp place_cmp q) t ≡ lookup (eq_by_cmp place_cmp q) u
found_alike t u q moved apart =
    let apart_there = IsDistinct-IsPermutation (eq_by_cmp place_cmp) (eq_by_cmp_equiv place_total).symm (keys_of t) (keys_of u) (IsPermutation-map (λ (e : Place × List ℕ). e.0) t u moved) apart in
    by (lookup (eq_by_cmp place_cmp q) t) (lookup (eq_by_cmp place_cmp q) u) refl refl apart_there
  where
    by : (a b : Option (List ℕ)) → lookup (eq_by_cmp place_cmp q) t ≡ a → lookup (eq_by_cmp place_cmp q) u ≡ b → IsDistinct (eq_by_cmp place_cmp) (keys_of u) → a ≡ b
    by (Some v) b h k apart_there = sym (found_moved t u q v moved apart h) ∙ k
    by None (Some v) h k apart_there = sym h ∙ found_moved u t q v (IsPermutation-sym t u moved) apart_there k
    by None None h k apart_there = refl

-- ---- entries that are put one after the other

abbrev puts : Maps → List Entry → Maps
puts t es = fold (λ t (e : Entry). put place_cmp (e.id, e.key) e.value t) t es

puts_sorted : (es : List Entry) (t : Maps) → T (is_sorted place_cmp t) → T (is_sorted place_cmp (puts t es))
puts_sorted [] t h = h
puts_sorted (e ∷ es) t h = puts_sorted es (put place_cmp (place_of_entry e) e.value t) (is_sorted-put place_cmp place_total (place_of_entry e) e.value t h)

abbrev either : {X : Type 0} → Option X → Option X → Option X
either None b = b
either (Some a) b = Some a

missing : (p : Place) (es : List Entry) → AllByRecursion (λ q. eq_by_cmp place_cmp p q ≡ false) (map place_of_entry es) → find place_cmp p (map pair_of es) ≡ None
missing p [] h = refl
missing p (e ∷ es) h = ap (λ b. cond b (Some e.value) (find place_cmp p (map pair_of es))) h.0 ∙ missing p es h.1

found_in_puts : (q : Place) (es : List Entry) (t : Maps) → IsDistinct (eq_by_cmp place_cmp) (map place_of_entry es) → find place_cmp q (puts t es) ≡ either (find place_cmp q (map pair_of es)) (find place_cmp q t)
found_in_puts q [] t apart = refl
found_in_puts q (e ∷ es) t apart =
    found_in_puts q es (put place_cmp (place_of_entry e) e.value t) (IsDistinct-tail (eq_by_cmp place_cmp) (place_of_entry e) (map place_of_entry es) apart)
    ∙ ap (either (find place_cmp q (map pair_of es))) (find-put place_cmp place_total q (place_of_entry e) e.value t)
    ∙ elim (cases_Bool (eq_by_cmp place_cmp q (place_of_entry e))) [
      | inl same ↦
          let none : find place_cmp q (map pair_of es) ≡ None =
          sym (find_tied place_cmp place_total q (place_of_entry e) (is_equal _ same) (map pair_of es)) ∙ missing (place_of_entry e) es (IsDistinct-head (eq_by_cmp place_cmp) (place_of_entry e) (map place_of_entry es) apart) in
          rw (none, same) refl
      | inr other ↦ rw other refl
    ]

-- ---- what is sorted strictly rises

below_from_all : (p : Place) (t : Maps) → AllByRecursion (λ q. place_cmp p q ≡ Less) (keys_of t) → T (below_all place_cmp p t)
below_from_all p [] h = tt
below_from_all p (e ∷ t) h = and_both (is_lt (place_cmp p e.0)) (below_all place_cmp p t) (subst (λ o. T (is_lt o)) (sym h.0) tt) (below_from_all p t h.1)

strictly : (t : Maps) → IsStrictlySortedBy place_cmp (keys_of t) → T (is_sorted place_cmp t)
strictly [] h = tt
strictly (e ∷ t) h =
    and_both (below_all place_cmp e.0 t) (is_sorted place_cmp t) (below_from_all e.0 t (sorted_head place_cmp e.0 (keys_of t) h)) (strictly t (sorted_tail place_cmp e.0 (keys_of t) h))

turned : (o : Ordering) → is_lt (ordering_reverse o) ≡ false → is_eq o ≡ false → o ≡ Less
turned Less h k = refl
turned Equal h k = cc
turned Greater h k = cc

-- by a key of the elements, no one of which is less than the one before it, and all of which are apart
rising_keys : {X : Type 0} (key : X → Place) (xs : List X) → IsSortedBy (λ x y. is_lt (place_cmp (key x) (key y))) xs → IsDistinct (eq_by_cmp place_cmp) (map key xs) → IsStrictlySortedBy place_cmp (map key xs)
rising_keys key [] h apart = sorted_from_all_adjacent place_total [] ([], []) (λ k lt. absurd (omega arith))
rising_keys {X} key (x ∷ xs) h apart =
    let all : List X = x ∷ xs in
    sorted_from_all_adjacent place_total (map key all) (key x) (λ k lt.
    let inside : k + 1 < length all = subst (λ n. k + 1 < n) (length-map all key) lt in
    let not_less : is_lt (place_cmp (key (get_or all (k + 1) x)) (key (get_or all k x))) ≡ false = h k x (omega arith) inside in
    let differ : eq_by_cmp place_cmp (get_or (map key all) k (key x)) (get_or (map key all) (k + 1) (key x)) ≡ false = apart_from_distinct (eq_by_cmp place_cmp) (map key all) k (k + 1) (key x) apart (omega arith) lt in
    let here = get_or-map key all k x (key x) (omega (arith, inside)) in
    let next = get_or-map key all (k + 1) x (key x) inside in
    (λ i. place_cmp (here i) (next i))
    ∙ turned (place_cmp (key (get_or all k x)) (key (get_or all (k + 1) x)))
    (ap is_lt (sym (place_total.antisymm (key (get_or all (k + 1) x)) (key (get_or all k x)))) ∙ not_less)
    ((λ i. eq_by_cmp place_cmp (sym here i) (sym next i)) ∙ differ))

-- ---- the entries in order

or_none : {X : Type 0} (a : Option X) → either a None ≡ a
or_none None = refl
or_none (Some a) = refl

abbrev place_at : Bor Entry → Place
place_at r = place_of_entry r.now

pub rows_in_order : (es : List Entry) (first rows : List (Bor Entry)) → map (λ (r : Bor Entry). r.now) first ≡ es → IsPermutation first rows
    → IsSortedBy (λ (x y : Bor Entry). is_lt (place_cmp (place_at x) (place_at y))) rows → IsDistinct same_place (map place_of_entry es) → pairs_of rows ≡ maps_of es
rows_in_order es first rows are moved sorted apart =
    let row_pair : Bor Entry → Place × List ℕ = λ r. pair_of r.now in
    let keys_first : map place_at first ≡ map place_of_entry es = sym (map-map place_of_entry (λ (r : Bor Entry). r.now) first) ∙ ap (map place_of_entry) are in
    let first_pairs : pairs_of first ≡ map pair_of es = sym (map-map pair_of (λ (r : Bor Entry). r.now) first) ∙ ap (map pair_of) are in
    let first_keys : keys_of (pairs_of first) ≡ map place_at first = map-map (λ (e : Place × List ℕ). e.0) row_pair first in
    let row_keys : keys_of (pairs_of rows) ≡ map place_at rows = map-map (λ (e : Place × List ℕ). e.0) row_pair rows in
    let distinct : IsDistinct (eq_by_cmp place_cmp) (map place_of_entry es) = apart_in_order (map place_of_entry es) apart in
    let first_apart : IsDistinct (eq_by_cmp place_cmp) (map place_at first) = subst (λ ps. IsDistinct (eq_by_cmp place_cmp) ps) (sym keys_first) distinct in
    let rows_apart : IsDistinct (eq_by_cmp place_cmp) (map place_at rows) =
    IsDistinct-IsPermutation (eq_by_cmp place_cmp) (eq_by_cmp_equiv place_total).symm (map place_at first) (map place_at rows) (IsPermutation-map place_at first rows moved) first_apart in
    let pairs_moved : IsPermutation (pairs_of first) (pairs_of rows) = IsPermutation-map row_pair first rows moved in
    let pairs_apart : IsDistinct (eq_by_cmp place_cmp) (keys_of (pairs_of first)) = subst (λ ps. IsDistinct (eq_by_cmp place_cmp) ps) (sym first_keys) first_apart in
    let rising : IsStrictlySortedBy place_cmp (keys_of (pairs_of rows)) = subst (λ ps. IsStrictlySortedBy place_cmp ps) (sym row_keys) (rising_keys place_at rows sorted rows_apart) in
    same_entries place_cmp place_total place_exact (pairs_of rows) (maps_of es) (strictly (pairs_of rows) rising) (puts_sorted es [] tt) (λ q.
    found_by_test q (pairs_of rows) ∙ sym (found_alike (pairs_of first) (pairs_of rows) q pairs_moved pairs_apart) ∙ sym (found_by_test q (pairs_of first))
    ∙ ap (find place_cmp q) first_pairs ∙ sym (found_in_puts q es [] distinct ∙ or_none (find place_cmp q (map pair_of es))))

pub rows_text : (rows : List (Bor Entry)) (m : Maps) → pairs_of rows ≡ m → flat_map row_line rows ≡ dump m
rows_text rows m are = sym (flat_map-map entry_line (λ (r : Bor Entry). pair_of r.now) rows) ∙ ap dump are
