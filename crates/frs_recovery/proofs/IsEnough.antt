-- Where a log begins: whether its lowest stands in the oldest of its segments.
use Rattle.std.proofs.Common.{◌&&◌, ◌≡◌, inl, inr, ℕ, ◌+◌, ◌^◌, ◌-◌, ◌≤◌, Bool, true, false, not, List, [], ◌∷◌, Option, Some, None, length, get_or, map, reverse, refl, sym, ap, ◌∙◌, arith, IsTrue}
use Rattle.std.specs.Prelude.{unwrap_or, option_map, flat_map}
use Rattle.std.specs.List.{AllByRecursion, last_or, list_all, slice_get}
use Rattle.std.proofs.Math.Dec.{ltb, leb}
use Rattle.std.proofs.lemmas.Bool.{cases_lt, le-ltb, le-leb, lt-leb, ltb-true, eq-eqb, and_parts}
use Rattle.std.proofs.lemmas.List.{get_or-reverse, length-reverse}
use Rattle.std.proofs.lemmas.Option.{get_or_from_slice_get}
use Rattle.frs_types.specs.declared.record.Record.{Record}
use Rattle.frs_types.specs.Records.{is_allowed, are_allowed_from, kind_allows, has_words, named_lowest}
use Rattle.frs_segment.specs.declared.layout.Segment.{Segment}
use Rattle.frs_segment.specs.Segments.{WholeSegment, body, is_chunk, are_chunks, follow_from, records_of, all_records, are_enough}
use Rattle.frs_segment.specs.Scanning.{places_of_segment}
use Rattle.frs_recovery.proofs.Reaches.{firsts_above, meant_first}
use Rattle.frs_recovery.specs.declared.descent.Descent.{Descent}
use Rattle.frs_recovery.specs.Descent.{IsMeant, HasLookedAt}
use Rattle.frs_recovery.specs.OfferedRecords.{lowest_named}
use Rattle.frs_recovery.specs.FirstFault.{goes_further}
use Rattle.frs_recovery.proofs.Lists.{all_join}

-- ---- the oldest segment

pub oldest_is : (s : WholeSegment) (segments : List WholeSegment) (items : List Segment) (oldest : Segment) → items ≡ reverse (map places_of_segment (s ∷ segments)) → Some oldest ≡ slice_get items (length items - 1) → oldest ≡ places_of_segment s
oldest_is s segments items oldest is at =
    let all : List Segment = map places_of_segment (s ∷ segments) in
    let long : length items ≡ length all = ap length is ∙ length-reverse all in
    let some : length all ≡ length (map places_of_segment segments) + 1 = omega arith in
    sym (get_or_from_slice_get items (length items - 1) oldest oldest (sym at))
    ∙ ap (λ (x : List Segment). get_or x (length items - 1) oldest) is
    ∙ get_or-reverse all (length items - 1) oldest (omega (arith, long, some))
    ∙ ap (λ (k : ℕ). get_or all k oldest) (let e : length all - 1 - (length items - 1) ≡ 0 = omega (arith, long, some) in e)

-- ---- the lowest

pub first_decides : (lowest : ℕ) (s : WholeSegment) (segments : List WholeSegment) → IsTrue (follow_from s.first (s ∷ segments)) → not (list_all (λ (t : WholeSegment). ltb lowest t.first) (s ∷ segments)) ≡ leb s.first lowest
first_decides lowest s segments follow =
    elim (cases_lt lowest s.first) [
      | inl lt ↦ ap not (firsts_above lowest s.first (s ∷ segments) lt follow) ∙ sym (lt-leb s.first lowest lt)
      | inr le ↦ ap (λ (b : Bool). not (b && list_all (λ (t : WholeSegment). ltb lowest t.first) segments)) (le-ltb lowest s.first le) ∙ sym (le-leb s.first lowest le)
    ]

lowest_is : (lowest : ℕ) (rs : List Record) → Some lowest ≡ lowest_named rs → named_lowest rs ≡ lowest
lowest_is lowest rs named = ap (λ (o : Option ℕ). unwrap_or o 1) (sym named)

further_named : (lowest : ℕ) (segments : List WholeSegment) (rs : List Record) → Some lowest ≡ lowest_named rs → goes_further segments rs ≡ list_all (λ (t : WholeSegment). ltb lowest t.first) segments
further_named lowest segments [] named = absurd cc
further_named lowest segments (r ∷ rs) named = ap (λ (n : ℕ). list_all (λ (t : WholeSegment). ltb n t.first) segments) (lowest_is lowest (r ∷ rs) named)

further_unnamed : (segments : List WholeSegment) (rs : List Record) → None ≡ lowest_named rs → goes_further segments rs ≡ true
further_unnamed segments [] none = refl
further_unnamed segments (r ∷ rs) none = absurd (never r rs none)
  where
    never : (q : Record) (rs : List Record) → None ≡ option_map (λ (p : Record). p.lowest) (last_or (Some q) rs) → ⊥
    never q [] e = cc
    never q (p ∷ rs) e = never p rs e

pub enough_is : (l : Descent) (oldest : Segment) (lowest : ℕ) → Some oldest ≡ slice_get l.segments.items (length l.segments.items - 1) → Some lowest ≡ l.records.named
    → (segments : List WholeSegment) → HasLookedAt l segments → leb oldest.first lowest ≡ not (goes_further segments (all_records segments))
enough_is l oldest lowest at named [] looked = absurd (let e : slice_get l.segments.items (length l.segments.items - 1) ≡ None = ap (λ (x : List Segment). slice_get x (length x - 1)) looked.segments_are in cc)
enough_is l oldest lowest at named (s ∷ segments) looked =
    let o : oldest ≡ places_of_segment s = oldest_is s segments l.segments.items oldest looked.segments_are at in
    ap (λ (d : Segment). leb d.first lowest) o
    ∙ sym (first_decides lowest s segments looked.follow)
    ∙ ap not (sym (further_named lowest (s ∷ segments) (all_records (s ∷ segments)) (named ∙ looked.read.named)))

pub not_enough : (l : Descent) → None ≡ l.records.named → (segments : List WholeSegment) → HasLookedAt l segments → false ≡ not (goes_further segments (all_records segments))
not_enough l none segments looked = ap not (sym (further_unnamed segments (all_records segments) (none ∙ looked.read.named)))

-- ---- the lowest is 1 or more

abbrev Names : Record → Type 0
Names r = 1 ≤ r.lowest

allowed_name : (n : ℕ) (rs : List Record) → IsTrue (are_allowed_from n rs) → AllByRecursion Names rs
allowed_name n [] h = tt
allowed_name n (r ∷ rs) h =
    let p = and_parts (is_allowed n r) (are_allowed_from (n + 1) rs) h in
    let front = and_parts (kind_allows n r.action r.tx r.named && ltb r.named n && ltb 0 r.lowest && leb r.lowest n) (has_words r.action) p.0 in
    let within = and_parts (kind_allows n r.action r.tx r.named && ltb r.named n && ltb 0 r.lowest) (leb r.lowest n) front.0 in
    let some = (and_parts (kind_allows n r.action r.tx r.named && ltb r.named n) (ltb 0 r.lowest) within.0).1 in
    (omega (arith, ltb-true 0 r.lowest some), allowed_name (n + 1) rs p.1)

chunks_name : (n : ℕ) (chunks : List (List Record)) → IsTrue (are_chunks n chunks) → AllByRecursion Names (flat_map (λ (c : List Record). c) chunks)
chunks_name n [] h = tt
chunks_name n (c ∷ chunks) h =
    let p = and_parts (is_chunk n c) (are_chunks (n + length c) chunks) h in
    let all = (and_parts (leb 1 (length c) && leb (length c) 256 && leb (length (body c)) (2 ^ 20)) (are_allowed_from n c) p.0).1 in
    all_join Names c (flat_map (λ (d : List Record). d) chunks) (allowed_name n c all) (chunks_name (n + length c) chunks p.1)

segments_name : (segments : List WholeSegment) → AllByRecursion IsMeant segments → AllByRecursion Names (all_records segments)
segments_name [] each = tt
segments_name (s ∷ segments) each = all_join Names (records_of s) (all_records segments) (chunks_name s.first s.chunks each.0.1.chunks) (segments_name segments each.1)

named_some : (o : Option Record) (rs : List Record) → 1 ≤ unwrap_or (option_map (λ (r : Record). r.lowest) o) 1 → AllByRecursion Names rs → 1 ≤ unwrap_or (option_map (λ (r : Record). r.lowest) (last_or o rs)) 1
named_some o [] h all = h
named_some o (r ∷ rs) h all = named_some (Some r) rs all.0 all.1

pub lowest_some : (segments : List WholeSegment) → AllByRecursion IsMeant segments → 1 ≤ named_lowest (all_records segments)
lowest_some segments each = named_some None (all_records segments) (omega arith) (segments_name segments each)

-- ---- the end

pub end_is_enough : (l : Descent) (oldest : Segment) → Some oldest ≡ slice_get l.segments.items (length l.segments.items - 1) → oldest.first ≤ 1
    → (segments : List WholeSegment) → HasLookedAt l segments → IsTrue (goes_further segments (all_records segments)) → IsTrue (are_enough [] segments (all_records segments))
end_is_enough l oldest at le [] looked further = refl
end_is_enough l oldest at le (s ∷ segments) looked further =
    let o : oldest ≡ places_of_segment s = oldest_is s segments l.segments.items oldest looked.segments_are at in
    let first : s.first ≡ 1 = omega (arith, le, ap (λ (d : Segment). d.first) o, meant_first s looked.each.0) in
    by (all_records (s ∷ segments)) first (lowest_some (s ∷ segments) looked.each) further
  where
    by : (rs : List Record) → s.first ≡ 1 → 1 ≤ named_lowest rs → IsTrue (goes_further (s ∷ segments) rs) → IsTrue (are_enough [] (s ∷ segments) rs)
    by [] first some more = eq-eqb s.first 1 first
    by (r ∷ rs) first some more =
        let above = ltb-true (named_lowest (r ∷ rs)) s.first (and_parts (ltb (named_lowest (r ∷ rs)) s.first) (list_all (λ (t : WholeSegment). ltb (named_lowest (r ∷ rs)) t.first) segments) more).0 in
        absurd (omega (arith, above, some, first))
