-- The slots of one map, as the list of its entries and as places.
use Rattle.std.proofs.Common.{◌≡◌, ℕ, Bool, true, false, ◌||◌, cond, List, [], ◌∷◌, Option, Some, None, is_some, refl, sym, ap, ◌∙◌, nat_cmp, true≢false, BTreeMap}
use Rattle.std.specs.Ordering.{eq_by_cmp}
use Rattle.std.specs.List.{list_any, IsDistinct}
use Rattle.std.specs.List.Sorted.{IsStrictlySortedBy}
use Rattle.std.specs.Map.{lookup, keys_of}
use Rattle.std.specs.BTreeMap.{is_at}
use Rattle.std.specs.Cmp.{eq_by_cmp_equiv, unsigned_Decides}
use Rattle.std.specs.Cmp.Lexicographic.{slice_cmp, nat_list_cmp_total}
use Rattle.std.specs.Str.{bytes_eq}
use Rattle.std.proofs.lemmas.Map.{lookup-none}
use Rattle.std.proofs.lemmas.Map.Entries.{none_past_head}
use Rattle.std.proofs.lemmas.Map.Keys.{IsDistinct-from_sorted, IsDistinct-tail}
use Rattle.frs_types.specs.Maps.{Place}
use Rattle.frs_objects.specs.declared.places.Slot.{Slot}
use Rattle.frs_objects.specs.Slots.{slot_in, slot_at, slot_without_entry}
use Rattle.frs_objects.specs.Index.{Rows, row_at, lsn_in, is_lsn, is_blank, Agrees}
use Rattle.frs_objects.proofs.NestedMaps.{by_bytes, at_bytes, by_equal}
use Rattle.frs_objects.proofs.Agreement.{split, lsn_from, one_place_by}

-- what a look-up finds is in the list
any_from : {K X : Type 0} (test : K → Bool) (f : X → Bool) (es : List (K × X)) (v : X) → lookup test es ≡ Some v → f v ≡ true → list_any (λ (e : K × X). f e.1) es ≡ true
any_from test f [] v found is = absurd (true≢false (ap is_some (sym found)))
any_from test f (e ∷ es) v found is =
    split (f e.1) (λ b. f e.1 ≡ b → (b || list_any (λ e. f e.1) es) ≡ true) (λ _ _. refl)
    (λ _ other. split (test e.0) (λ b. cond b (Some e.1) (lookup test es) ≡ Some v → list_any (λ e. f e.1) es ≡ true)
    (λ _ here. absurd (true≢false (sym (ap f (the_value e.1 v here) ∙ is) ∙ other)))
    (λ _ there. any_from test f es v there is)
    found) refl
  where
    the_value : {X : Type 0} (v w : X) → Some v ≡ Some w → v ≡ w
    the_value v w e = cc

-- and what is in the list is found by its key
pub record FoundIn {X : Type 0} (f : X → Bool) (es : List (List ℕ × X)) : Type 0 where
  pub key : List ℕ
  pub value : X
  pub is_found : lookup (is_at (slice_cmp nat_cmp key)) es ≡ Some value
  pub passes : f value ≡ true

found_behind : {X : Type 0} (f : X → Bool) (e : List ℕ × X) (es : List (List ℕ × X)) → IsDistinct (eq_by_cmp (slice_cmp nat_cmp)) (keys_of (e ∷ es)) → FoundIn f es → FoundIn f (e ∷ es)
found_behind f e es d s = record {
  key = s.key;
  value = s.value;
  is_found = split (is_at (slice_cmp nat_cmp s.key) e.0) (λ b. cond b (Some e.1) (lookup (is_at (slice_cmp nat_cmp s.key)) es) ≡ Some s.value)
      (λ here. absurd (true≢false (ap is_some (sym s.is_found ∙ lookup-none (is_at (slice_cmp nat_cmp s.key)) es (none_past_head (eq_by_cmp_equiv nat_list_cmp_total) s.key e es d here)))))
      (λ _. s.is_found);
  passes = s.passes;
}

found_from : {X : Type 0} (f : X → Bool) (es : List (List ℕ × X)) → IsDistinct (eq_by_cmp (slice_cmp nat_cmp)) (keys_of es) → list_any (λ (e : List ℕ × X). f e.1) es ≡ true → FoundIn f es
found_from f [] d is = absurd (true≢false (sym is))
found_from {X} f (e ∷ es) d is =
    split (f e.1) (λ b. f e.1 ≡ b → (b || list_any (λ (e : List ℕ × X). f e.1) es) ≡ true → FoundIn f (e ∷ es))
    (λ _ here _. record { key = e.0; value = e.1; is_found = ap (λ b. cond b (Some e.1) (lookup (is_at (slice_cmp nat_cmp e.0)) es)) ((eq_by_cmp_equiv nat_list_cmp_total).refl e.0); passes = here })
    (λ _ _ there. found_behind f e es d (found_from f es (IsDistinct-tail _ e.0 (keys_of es) d) there))
    refl is

-- the LSNs of one map
module _ (maps : BTreeMap (List ℕ) (BTreeMap (List ℕ) Slot)) (rows : Rows) (ws : List (Place × ℕ)) (a : Agrees (slot_at maps) rows ws) (id : List ℕ) (map : BTreeMap (List ℕ) Slot) (is : Some map ≡ by_bytes maps id) (keys : IsStrictlySortedBy (slice_cmp nat_cmp) (keys_of map.entries)) where
  abbrev lists : ℕ → Bool
  lists n = list_any (λ (e : List ℕ × Slot). is_lsn e.1.lsn n) map.entries

  place_listed : (n : ℕ) → lists n ≡ true → (p : Place) × (p.0 ≡ id) × (lsn_in (slot_at maps p) ≡ Some n)
  place_listed n h =
      let s = found_from (λ (v : Slot). is_lsn v.lsn n) map.entries (IsDistinct-from_sorted _ _ keys) h in
      ((id, s.key), refl, ap lsn_in (ap (λ v. slot_in v s.key) (sym is) ∙ s.is_found) ∙ lsn_from s.value.lsn n s.passes)

  slot_listed : (q : Place) (n : ℕ) → id ≡ q.0 → lsn_in (slot_at maps q) ≡ Some n → (o : Option Slot) → slot_at maps q ≡ o → lists n ≡ true
  slot_listed q n same under None e = absurd (true≢false (ap is_some (sym (sym (ap lsn_in e) ∙ under))))
  slot_listed q n same under (Some s) e =
      any_from (is_at (slice_cmp nat_cmp q.1)) (λ (v : Slot). is_lsn v.lsn n) map.entries s (ap (λ v. slot_in v q.1) (is ∙ ap (by_bytes maps) same) ∙ e) (ap (λ v. is_lsn v n) (sym (ap lsn_in e) ∙ under) ∙ (unsigned_Decides n n).1 refl)

  pub listed_goes : (q : Place) (n : ℕ) → lsn_in (slot_at maps q) ≡ Some n → lists n ≡ bytes_eq id q.0
  listed_goes q n under =
      by_equal id q.0 (λ b. lists n ≡ b)
      (λ same. slot_listed q n same under (slot_at maps q) refl)
      (λ apart. split (lists n) (λ b. b ≡ false)
      (λ h. let p = place_listed n h in absurd (true≢false (sym (ap (bytes_eq id) (sym (ap (λ (v : Place). v.0) (one_place_by (slot_at maps) rows ws p.0 q n a p.2 under)) ∙ p.1) ∙ itself id) ∙ apart)))
      (λ _. refl))
    where
      itself : (x : List ℕ) → bytes_eq x x ≡ true
      itself x = by_equal x x (λ b. b ≡ true) (λ _. refl) (λ e. absurd (true≢false (sym ((eq_by_cmp_equiv nat_list_cmp_total).refl x) ∙ at_bytes x x ∙ e)))

  pub listed_keeps : (n : ℕ) → is_blank (row_at rows n) ≡ true → lists n ≡ false
  listed_keeps n blank = split (lists n) (λ b. b ≡ false) (λ h. let p = place_listed n h in absurd (true≢false (sym blank ∙ ap is_blank (a.found p.0 n p.2).1))) (λ _. refl)

-- where a map isn't there, it has nothing to take out
module _ (maps : BTreeMap (List ℕ) (BTreeMap (List ℕ) Slot)) (id : List ℕ) (none : None ≡ by_bytes maps id) where
  none_at : (q : Place) → id ≡ q.0 → slot_at maps q ≡ None
  none_at q same = ap (λ v. slot_in v q.1) (sym (none ∙ ap (by_bytes maps) same))

  pub none_to_empty : (q : Place) → slot_at maps q ≡ cond (bytes_eq id q.0) (slot_without_entry (slot_at maps q)) (slot_at maps q)
  none_to_empty q = by_equal id q.0 (λ b. slot_at maps q ≡ cond b (slot_without_entry (slot_at maps q)) (slot_at maps q)) (λ e. none_at q e ∙ sym (ap slot_without_entry (none_at q e))) (λ _. refl)

  pub none_goes : (q : Place) (n : ℕ) → lsn_in (slot_at maps q) ≡ Some n → false ≡ bytes_eq id q.0
  none_goes q n under = by_equal id q.0 (λ b. false ≡ b) (λ e. absurd (true≢false (ap is_some (sym under ∙ ap lsn_in (none_at q e))))) (λ _. refl)
