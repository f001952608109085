-- Of consecutive records the survivors rise by their LSNs, which are among those of the records, and no two of them have
-- one place; and the open begins rise likewise.
use Rattle.std.proofs.Common.{◌≡◌, refl, sym, ℕ, zero, suc, ◌+◌, ◌≤◌, ◌<◌, Bool, true, false, ◌||◌, List, [], ◌∷◌, length, map, Option, Some, None, subst, arith}
use Rattle.std.specs.Prelude.{◌==◌, slice_index, All, if◌then◌else◌}
use Rattle.std.specs.List.{AllByRecursion, IsDistinct, list_any}
use Rattle.std.specs.List.Sorted.{IsStrictlyIncreasing}
use Rattle.std.proofs.lemmas.Map.Keys.{IsDistinct-cons}
use Rattle.frs_types.specs.declared.record.Record.{Record}
use Rattle.frs_types.specs.declared.record.Entry.{Entry}
use Rattle.frs_types.specs.Maps.{Place, same_place}
use Rattle.frs_types.specs.Records.{Numbered, numbered_records_from}
use Rattle.frs_types.proofs.OneMoreRecord.{from_entry}
use Rattle.frs_types.specs.Survivors.{entry_by, is_committed_by, committed_records, with_entry, survivors_of, open_begins, is_delete_of}

-- ---- numbers that rise, all of them from low on and below high

abbrev pub RiseIn : ℕ → ℕ → List ℕ → Type 0
RiseIn low high [] = Unit {0}
RiseIn low high (n ∷ ns) = (low ≤ n) × (n < high) × RiseIn (n + 1) high ns

rise_from : (low least high : ℕ) (ns : List ℕ) → least ≤ low → RiseIn low high ns → RiseIn least high ns
rise_from low least high [] below r = tt
rise_from low least high (n ∷ ns) below r = (omega (arith, r.0, below), r.1, r.2)

pub within_of : (low high : ℕ) (ns : List ℕ) → RiseIn low high ns → All (λ n. (low ≤ n) × (n < high)) ns
within_of low high [] r k d l = let no : ⊥ = omega arith in absurd no
within_of low high (n ∷ ns) r zero d l = (r.0, r.1)
within_of low high (n ∷ ns) r (suc k) d l = let h = within_of (n + 1) high ns r.2 k d (omega arith) in (omega (arith, h.0, r.0), h.1)

pub rising_of : (low high : ℕ) (ns : List ℕ) → RiseIn low high ns → IsStrictlyIncreasing ns
rising_of low high [] r k l = let no : ⊥ = omega arith in absurd no
rising_of low high (n ∷ []) r k l = let no : ⊥ = omega arith in absurd no
rising_of low high (n ∷ m ∷ ns) r zero l = let next : n + 1 ≤ m = r.2.0 in omega (arith, next)
rising_of low high (n ∷ m ∷ ns) r (suc k) l =
    let next : suc (k + 1) ≡ suc k + 1 = omega arith in
    subst (λ j. slice_index (n ∷ m ∷ ns) (suc k) < slice_index (n ∷ m ∷ ns) j) next (rising_of (n + 1) high (m ∷ ns) r.2 k (omega arith))

-- ---- LSNs of records

abbrev pub lsns_of : List Numbered → List ℕ
lsns_of qs = map (λ (q : Numbered). q.lsn) qs

numbered_rise : (n : ℕ) (rs : List Record) → RiseIn n (n + length rs) (lsns_of (numbered_records_from n rs))
numbered_rise n [] = tt
numbered_rise n (r ∷ rs) =
    let same : (n + 1) + length rs ≡ n + length (r ∷ rs) = omega arith in
    (omega arith, omega arith, subst (λ high. RiseIn (n + 1) high (lsns_of (numbered_records_from (n + 1) rs))) same (numbered_rise (n + 1) rs))

kept_rise : (b : Bool) (q : Numbered) (later : List Numbered) (low high : ℕ) → low ≤ q.lsn → q.lsn < high → RiseIn (q.lsn + 1) high (lsns_of later)
    → RiseIn low high (lsns_of (if b then q ∷ later else later))
kept_rise true q later low high least most r = (least, most, r)
kept_rise false q later low high least most r = rise_from (q.lsn + 1) low high (lsns_of later) (omega (arith, least)) r

committed_rise : (low high : ℕ) (qs : List Numbered) → RiseIn low high (lsns_of qs) → RiseIn low high (lsns_of (committed_records qs))
committed_rise low high [] r = tt
committed_rise low high (q ∷ later) r = kept_rise (is_committed_by q later) q (committed_records later) low high r.0 r.1 (committed_rise (q.lsn + 1) high later r.2)

-- ---- LSNs of entries

abbrev pub entry_lsns : List Entry → List ℕ
entry_lsns es = map (λ (e : Entry). e.lsn) es

-- an entry has the LSN of its record
older_rise : (b : Bool) (e : Entry) (newer : List Entry) (low high : ℕ) → low ≤ e.lsn → e.lsn < high → RiseIn (e.lsn + 1) high (entry_lsns newer)
    → RiseIn low high (entry_lsns (if b then newer else e ∷ newer))
older_rise false e newer low high least most r = (least, most, r)
older_rise true e newer low high least most r = rise_from (e.lsn + 1) low high (entry_lsns newer) (omega (arith, least)) r

with_entry_rise : (made : Option Entry) (later : List Numbered) (newer : List Entry) (n low high : ℕ) → ((e : Entry) → made ≡ Some e → e.lsn ≡ n) → low ≤ n → n < high
    → RiseIn (n + 1) high (entry_lsns newer) → RiseIn low high (entry_lsns (with_entry made later newer))
with_entry_rise None later newer n low high its least most r = rise_from (n + 1) low high (entry_lsns newer) (omega (arith, least)) r
with_entry_rise (Some e) later newer n low high its least most r =
    let same = sym (its e refl) in
    older_rise _ e newer low high (subst (λ k. low ≤ k) same least) (subst (λ k. k < high) same most) (subst (λ k. RiseIn (k + 1) high (entry_lsns newer)) same r)

survivors_rise : (low high : ℕ) (qs : List Numbered) → RiseIn low high (lsns_of qs) → RiseIn low high (entry_lsns (survivors_of qs))
survivors_rise low high [] r = tt
survivors_rise low high (q ∷ later) r =
    with_entry_rise (entry_by q.lsn q.what.action) later (survivors_of later) q.lsn low high (from_entry q.lsn q.what.action) r.0 r.1 (survivors_rise (q.lsn + 1) high later r.2)

pub all_rise : (first : ℕ) (rs : List Record) → RiseIn first (first + length rs) (entry_lsns (survivors_of (committed_records (numbered_records_from first rs))))
all_rise first rs = survivors_rise first (first + length rs) _ (committed_rise first (first + length rs) _ (numbered_rise first rs))

-- ---- open begins

begun_rise : (b : Bool) (n : ℕ) (later : List ℕ) (low high : ℕ) → low ≤ n → n < high → RiseIn (n + 1) high later → RiseIn low high (if b then n ∷ later else later)
begun_rise true n later low high least most r = (least, most, r)
begun_rise false n later low high least most r = rise_from (n + 1) low high later (omega (arith, least)) r

begins_rise : (low high : ℕ) (qs : List Numbered) → RiseIn low high (lsns_of qs) → RiseIn low high (open_begins qs)
begins_rise low high [] r = tt
begins_rise low high (q ∷ later) r = begun_rise _ q.lsn (open_begins later) low high r.0 r.1 (begins_rise (q.lsn + 1) high later r.2)

pub open_rise : (first : ℕ) (rs : List Record) → RiseIn first (first + length rs) (open_begins (numbered_records_from first rs))
open_rise first rs = begins_rise first (first + length rs) _ (numbered_rise first rs)

-- ---- places of entries

abbrev pub places_of : List Entry → List Place
places_of es = map (λ (e : Entry). (e.id, e.key)) es

not_there : (there rest : Bool) (p q : Place) (qs : List Place) → same_place p q ≡ there → (there || rest) ≡ false → (rest ≡ false → AllByRecursion (λ x. same_place p x ≡ false) qs) → AllByRecursion (λ x. same_place p x ≡ false) (q ∷ qs)
not_there true rest p q qs is none others = cc
not_there false rest p q qs is none others = (is, others none)

none_there : (p : Place) (es : List Entry) → list_any (λ (e : Entry). same_place p (e.id, e.key)) es ≡ false → AllByRecursion (λ q. same_place p q ≡ false) (places_of es)
none_there p [] none = tt
none_there p (e ∷ es) none =
    not_there (same_place p (e.id, e.key)) (list_any (λ (x : Entry). same_place p (x.id, x.key)) es) p (e.id, e.key) (places_of es) refl none (λ h. none_there p es h)

older_apart : (gone there : Bool) (e : Entry) (newer : List Entry) → list_any (λ (x : Entry). same_place (e.id, e.key) (x.id, x.key)) newer ≡ there
    → IsDistinct same_place (places_of newer) → IsDistinct same_place (places_of (if gone || there then newer else e ∷ newer))
older_apart true there e newer is apart = apart
older_apart false true e newer is apart = apart
older_apart false false e newer is apart = IsDistinct-cons same_place (e.id, e.key) (places_of newer) (none_there (e.id, e.key) newer is) apart

with_entry_apart : (made : Option Entry) (later : List Numbered) (newer : List Entry) → IsDistinct same_place (places_of newer) → IsDistinct same_place (places_of (with_entry made later newer))
with_entry_apart None later newer apart = apart
with_entry_apart (Some e) later newer apart =
    older_apart (list_any (λ (l : Numbered). l.what.named == e.lsn) later || list_any (λ (l : Numbered). is_delete_of e.id l.what.action) later) _ e newer refl apart

pub survivors_apart : (qs : List Numbered) → IsDistinct same_place (places_of (survivors_of qs))
unfolding IsDistinct
survivors_apart [] = tt
survivors_apart (q ∷ later) = with_entry_apart (entry_by q.lsn q.what.action) later (survivors_of later) (survivors_apart later)
