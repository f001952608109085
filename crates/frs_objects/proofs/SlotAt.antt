-- What a change of one map changes of the places.
use Rattle.std.proofs.Common.{◌≡◌, ℕ, Bool, true, false, ◌&&◌, cond, List, [], ◌∷◌, Option, Some, None, IsSome, refl, arith, sym, ap, ◌∙◌, subst, nat_cmp, is_eq, true≢false, Ordering, Less, Equal, Greater, BTreeMap, OnErr, Result, Ok, Err, length, is_some}
use Rattle.std.specs.BTreeMap.{get, is_at, WritesThrough, UpdatesBy}
use Rattle.std.specs.Prelude.{nat_lt, if◌then◌else◌}
use Rattle.std.specs.List.{IsDistinct}
use Rattle.std.specs.Map.{lookup, keys_of}
use Rattle.std.specs.Map.Calls.{RetainsPairs}
use Rattle.std.specs.Ordering.{eq_by_cmp}
use Rattle.std.specs.Cmp.{eq_by_cmp_equiv}
use Rattle.std.specs.Cmp.Lexicographic.{slice_cmp, nat_list_cmp_total, texts_ties}
use Rattle.std.specs.Str.{bytes_eq}
use Rattle.std.proofs.lemmas.Map.{lookup-none}
use Rattle.std.proofs.lemmas.Map.Entries.{none_past_head}
use Rattle.std.proofs.lemmas.Map.Keys.{IsDistinct-tail}
use Rattle.std.proofs.lemmas.Map.Lookups.{exact_bytes}
use Rattle.std.proofs.lemmas.Bool.Decides.{nat_tests}
use Rattle.frs_types.specs.Maps.{Place, same_place}
use Rattle.frs_objects.specs.declared.places.Slot.{Slot}
use Rattle.frs_objects.proofs.NestedMaps.{by_bytes, changed, cleared, at_write, at_update, twice}
use Rattle.frs_objects.specs.Slots.{slot_in, slot_at, kept_by, slot_if_used, slot_without_entry}

abbrev Words : Type 0
Words = BTreeMap (List ℕ) Slot

-- a map without entries has nothing at a key
pub none_in : (w : Words) → w.entries ≡ [] → (k : List ℕ) → slot_in None k ≡ by_bytes w k
none_in w e k = sym (ap (lookup (is_at (slice_cmp nat_cmp k))) e)

-- what holds anyway holds of a refusal
pub of_refusal : {V E : Type 0} {P : Type 0} (r : Result V E) → P → OnErr r P
of_refusal (Ok v) p = tt
of_refusal (Err e) p = p

-- ---- what is written and emptied

pub settled_none : (s : Slot) → s.lsn ≡ None → s.wanted ≡ 0 → slot_if_used s ≡ None
settled_none s n z = ap (λ v. kept_by v s) n ∙ ap (λ v. if nat_lt 0 v then Some s else None) z

if_free : (s : Slot) (lsn : Option ℕ) → (lsn ≡ None → s.wanted ≡ 0 → ⊥) → kept_by lsn s ≡ Some s
if_free s (Some n) h = refl
if_free s None h = elim (nat_lt 0 s.wanted) as (λ b. nat_lt 0 s.wanted ≡ b → (if b then Some s else None) ≡ Some s) [
  | true ↦ λ e. refl
  | false ↦ λ e. absurd (h refl (grind (arith, nat_tests)))
] refl

pub settled_some : (s : Slot) → (s.lsn ≡ None → s.wanted ≡ 0 → ⊥) → slot_if_used s ≡ Some s
settled_some s h = if_free s s.lsn h

read_head : {K X : Type 0} (test : K → Bool) (k : K) (w : X) (rest : List (K × X)) (b : Bool) → lookup test (cond b ((k, w) ∷ rest) rest) ≡ cond b (cond (test k) (Some w) (lookup test rest)) (lookup test rest)
read_head test k w rest true = refl
read_head test k w rest false = refl

emptied_head : (s : Slot) (b t : Bool) (x y : Option Slot) → nat_lt 0 s.wanted ≡ b → (t ≡ true → y ≡ None) → x ≡ slot_without_entry y → cond b (cond t (Some (record { lsn = None; wanted = s.wanted })) x) x ≡ slot_without_entry (cond t (Some s) y)
emptied_head s true true x y e none same = sym (ap (λ v. if v then Some (record { lsn = None; wanted = s.wanted }) else None) e)
emptied_head s true false x y e none same = same
emptied_head s false true x y e none same = same ∙ ap slot_without_entry (none refl) ∙ sym (ap (λ v. if v then Some (record { lsn = None; wanted = s.wanted }) else None) e)
emptied_head s false false x y e none same = same

pub emptied_keys : {F : Type 0} (T : F → List ℕ → Slot → Bool → Slot → F → Type 0)
    → ((f : F) (k : List ℕ) (v : Slot) (b : Bool) (w : Slot) (f' : F) → T f k v b w f' → (b ≡ nat_lt 0 v.wanted) × (w ≡ record { lsn = None; wanted = v.wanted }))
    → (f : F) (es kept : List (List ℕ × Slot)) → IsDistinct (eq_by_cmp (slice_cmp nat_cmp)) (keys_of es) → RetainsPairs T f es kept
    → (q : List ℕ) → lookup (is_at (slice_cmp nat_cmp q)) kept ≡ slot_without_entry (lookup (is_at (slice_cmp nat_cmp q)) es)
emptied_keys T h f [] kept d r q = ap (lookup (is_at (slice_cmp nat_cmp q))) r
emptied_keys T h f (e ∷ es) kept d r q =
    let a = h f e.0 e.1 r.0 r.1 r.2 r.4 in
    let rest = emptied_keys T h r.2 es r.3 (IsDistinct-tail _ e.0 (keys_of es) d) r.5 q in
    let test : List ℕ → Bool = is_at (slice_cmp nat_cmp q) in
    let w : Slot = record { lsn = None; wanted = e.1.wanted } in
    ap (lookup test) (r.6 ∙ ap (λ b. cond b ((e.0, r.1) ∷ r.3) r.3) a.0 ∙ ap (λ v. cond (nat_lt 0 e.1.wanted) ((e.0, v) ∷ r.3) r.3) a.1)
    ∙ read_head test e.0 w r.3 (nat_lt 0 e.1.wanted)
    ∙ emptied_head e.1 (nat_lt 0 e.1.wanted) (test e.0) (lookup test r.3) (lookup test es) refl (λ t. lookup-none test es (none_past_head (eq_by_cmp_equiv nat_list_cmp_total) q e es d t)) rest

pub no_entries : {K X : Type 0} (es : List (K × X)) → length es ≡ 0 → es ≡ []
no_entries [] e = refl
no_entries (x ∷ es) e = absurd (omega arith)

-- ---- a map of words that is written back, and that goes where it has nothing left

module _ (m n : BTreeMap (List ℕ) Words) (id : List ℕ) (map w : Words) (value : Some map ≡ by_bytes m id) (writes : WritesThrough (slice_cmp nat_cmp) (slice_cmp nat_cmp id) m w n) where
  pub settled_map : (key : List ℕ) (slot : Slot) → ((k : List ℕ) → by_bytes w k ≡ cond (bytes_eq key k) (slot_if_used slot) (by_bytes map k)) → (q : Place) → slot_at n q ≡ cond (same_place (id, key) q) (slot_if_used slot) (slot_at m q)
  settled_map key slot h = changed slot_in m n id key (Some w) (slot_if_used slot) (at_write m n id map w (sym value) writes) (λ k. h k ∙ ap (λ v. cond (bytes_eq key k) (slot_if_used slot) (slot_in v k)) value)

  pub emptied_map : ((k : List ℕ) → by_bytes w k ≡ slot_without_entry (by_bytes map k)) → (q : Place) → slot_at n q ≡ cond (bytes_eq id q.0) (slot_without_entry (slot_at m q)) (slot_at m q)
  emptied_map h = cleared slot_in slot_without_entry m n id (Some w) (at_write m n id map w (sym value) writes) (λ k. h k ∙ ap (λ v. slot_without_entry (slot_in v k)) value)

  module _ (r : BTreeMap (List ℕ) Words) (none_left : w.entries ≡ []) (removed : UpdatesBy (slice_cmp nat_cmp) (slice_cmp nat_cmp id) n r None) where
    gone : (k : List ℕ) → by_bytes r k ≡ cond (bytes_eq id k) None (by_bytes m k)
    gone = twice m n r id (Some w) None (at_write m n id map w (sym value) writes) (at_update n r id None removed)

    pub settled_gone : (key : List ℕ) (slot : Slot) → ((k : List ℕ) → by_bytes w k ≡ cond (bytes_eq key k) (slot_if_used slot) (by_bytes map k)) → (q : Place) → slot_at r q ≡ cond (same_place (id, key) q) (slot_if_used slot) (slot_at m q)
    settled_gone key slot h = changed slot_in m r id key None (slot_if_used slot) gone (λ k. none_in w none_left k ∙ h k ∙ ap (λ v. cond (bytes_eq key k) (slot_if_used slot) (slot_in v k)) value)

    pub emptied_gone : ((k : List ℕ) → by_bytes w k ≡ slot_without_entry (by_bytes map k)) → (q : Place) → slot_at r q ≡ cond (bytes_eq id q.0) (slot_without_entry (slot_at m q)) (slot_at m q)
    emptied_gone h = cleared slot_in slot_without_entry m r id None gone (λ k. none_in w none_left k ∙ h k ∙ ap (λ v. slot_without_entry (slot_in v k)) value)

pub none_from : {X : Type 0} (o : Option X) → is_some o ≡ false → o ≡ None
none_from None e = refl
none_from (Some x) e = absurd (true≢false e)
