-- Each file is a segment, or one thing is wrong with it first.
use Rattle.std.proofs.Common.{◌≡◌, ◌⊎◌, inl, inr, ℕ, zero, suc, ◌+◌, ◌^◌, ◌<◌, ◌≤◌, List, [], ◌∷◌, get_or, length, take, drop, Option, Some, None, Result, Ok, Err, refl, sym, subst, ◌++◌, arith}
use Rattle.std.specs.Prelude.{All}
use Rattle.std.proofs.lemmas.Bool.{cases_eq, cases_lt, cases_Bool}
use Rattle.std.proofs.lemmas.List.{get_or_past}
use Rattle.frs_types.specs.declared.record.Record.{Record}
use Rattle.frs_types.specs.Records.{is_allowed}
use Rattle.frs_disk.specs.Disk.{IsNumber}
use Rattle.frs_frame.specs.Decoding.{decoding_of}
use Rattle.frs_frame.proofs.DecodingOf.{decoded_takes, decoded_again}
use Rattle.frs_segment.specs.declared.layout.ChunkPlace.{ChunkPlace}
use Rattle.frs_segment.specs.declared.fault.ScanFault.{ScanFault}
use Rattle.frs_segment.specs.declared.fault.ScanFault.TheVariants.{BadChunk}
use Rattle.frs_segment.specs.Segments.{File, WholeSegment, IsSegment}
use Rattle.frs_segment.specs.Scanning.{header_of, head_of, FillBody, RefusesChunk, IsRefused, TellsRecord}
use Rattle.frs_segment.proofs.FillBody.{Stand, stand_more, stops, bytes_left, filled, no_other, allowed_fits, permitted}
use Rattle.frs_frame.proofs.Takes.{IsBytes, IsBytes-drop, IsBytes-take}
use Rattle.frs_segment.proofs.IsChunk.{head_told, chunk_told, TellsChunk}
use Rattle.frs_segment.proofs.SegmentIn.{Reached, reach_start, reach_more, reach_end, reach_refused}

-- what a result is
which : {A E : Type 0} (r : Result A E) → ((x : A) × (r ≡ Ok x)) ⊎ ((fault : E) × (r ≡ Err fault))
which (Ok x) = inl (x, refl)
which (Err fault) = inr (fault, refl)

-- ---- one record

record_told : (text : List ℕ) (lsn : ℕ) → lsn < 2 ^ 64 → IsBytes text → (found : Option (Record × ℕ)) × TellsRecord text lsn found
record_told text lsn lt fits =
    elim (which (decoding_of text)) [
      | inl (x, e) ↦
          let stands = decoded_takes text x fits e in
          elim (cases_Bool (is_allowed lsn x.0)) [
            | inl is ↦ (Some (x.0, x.1), (is, stands.whole, stands.within))
            | inr isnt ↦ (None, no_other text lsn x.0 (drop x.1 text) lt stands.fits stands.whole isnt)
          ]
      | inr (fault, e) ↦ (None, λ q behind is front. let again = decoded_again text q behind (allowed_fits lsn q lt is) (permitted lsn q is) front in absurd (cc (again, e)))
    ]

-- ---- the records of a chunk

-- records fill the bytes, or none do
abbrev Fills : ChunkPlace → List ℕ → Type 0
Fills place text = ((rs : List Record) × FillBody place text rs) ⊎ ((rs : List Record) → FillBody place text rs → ⊥)

fills_end : (place : ChunkPlace) (text : List ℕ) (rs : List Record) (count : ℕ) (rest : List ℕ) → place.first + place.count ≤ 2 ^ 62 → count ≡ place.count → Stand place text rs count rest → Fills place text
fills_end place text rs count [] limit all s = inl (rs, filled place text rs [] refl (subst (λ (n : ℕ). Stand place text rs n []) all s))
fills_end place text rs count (b ∷ rest) limit all s = inr (bytes_left place text rs count (b ∷ rest) limit all (λ none. omega (arith, none)) s)

-- one record more, or none stands there
fills_next : (place : ChunkPlace) (text : List ℕ) (rs : List Record) (count : ℕ) (rest : List ℕ) (found : Option (Record × ℕ)) → place.first + place.count ≤ 2 ^ 62 → count < place.count → Stand place text rs count rest
    → ((r : Record) (len : ℕ) → Stand place text (rs ++ r ∷ []) (count + 1) (drop len rest) → Fills place text) → TellsRecord rest (place.first + count) found → Fills place text
fills_next place text rs count rest (Some (r, len)) limit some s more tells = more r len (stand_more place text rs count rest r len s tells)
fills_next place text rs count rest None limit some s more tells = inr (stops place text rs count rest limit some s tells)

fills_from : (left : ℕ) (place : ChunkPlace) (text : List ℕ) (rs : List Record) (count : ℕ) (rest : List ℕ) → place.first + place.count ≤ 2 ^ 62 → count + left ≡ place.count → IsBytes rest → Stand place text rs count rest → Fills place text
fills_from zero place text rs count rest limit all fits s = fills_end place text rs count rest limit (omega (arith, all)) s
fills_from (suc left) place text rs count rest limit all fits s =
    let told = record_told rest (place.first + count) (omega (arith, limit, all)) fits in
    fills_next place text rs count rest told.0 limit (omega (arith, all)) s
    (λ r len longer. fills_from left place text (rs ++ r ∷ []) (count + 1) (drop len rest) limit (omega (arith, all)) (IsBytes-drop len rest fits) longer) told.1

fills : (place : ChunkPlace) (text : List ℕ) → place.first + place.count ≤ 2 ^ 62 → IsBytes text → Fills place text
fills place text limit fits = fills_from place.count place text [] 0 text limit (omega arith) fits (record { spelled = refl; count_is = refl; all = refl })

-- ---- one chunk

abbrev ChunkOrRefused : ℕ → ℕ → List ℕ → Type 0
ChunkOrRefused offset next behind = ((place : ChunkPlace) × TellsChunk offset next behind place) ⊎ ((fault : ScanFault) × RefusesChunk offset next behind fault)

chunk_or_refused : (offset next : ℕ) (behind : List ℕ) → IsBytes behind → ChunkOrRefused offset next behind
chunk_or_refused offset next behind fits =
    elim (which (head_of offset next behind)) [
      | inl (place, e) ↦
          let told = head_told offset next behind place e in
          let limit : place.first + place.count ≤ 2 ^ 62 = subst (λ (p : ChunkPlace). p.first + p.count ≤ 2 ^ 62) (sym told.place_is) told.within in
          elim (fills place (take place.body (drop 16 behind)) limit (IsBytes-take place.body (drop 16 behind) (IsBytes-drop 16 behind fits))) [
            | inl (rs, fill) ↦ let t = chunk_told offset next behind place rs (IsBytes-take 16 behind fits) e fill in inl (place, (t.0, t.1, (rs, t.2)))
            | inr none ↦ inr (BadChunk offset, inr (place, e, refl, none))
          ]
      | inr (fault, e) ↦ inr (fault, inl e)
    ]

-- ---- a file

abbrev SegmentOrRefused : File → Type 0
SegmentOrRefused file = ((s : WholeSegment) × IsSegment file s) ⊎ ((fault : ScanFault) × IsRefused file fault)

goes_on : (left : ℕ) (file : File) (first : ℕ) (places : List ChunkPlace) (offset next : ℕ) → IsNumber file.0 → IsBytes file.1 → length file.1 ≤ offset + left → Reached file first places offset next → SegmentOrRefused file
goes_on zero file first places offset next number fits most r = absurd (omega (arith, most, r.inside))
goes_on (suc left) file first places offset next number fits most r =
    elim (cases_eq (get_or file.1 offset 0) 1) [
      | inl is ↦ elim (chunk_or_refused offset next (drop (offset + 1) file.1) (IsBytes-drop (offset + 1) file.1 fits)) [
        | inl (place, told) ↦
            goes_on left file first (places ++ place ∷ []) (offset + (17 + place.body)) (next + place.count) number fits (omega (arith, most)) (reach_more file first places offset next place r is told)
        | inr (fault, refuses) ↦ inr (fault, reach_refused file first places offset next fault r is refuses)
      ]
      | inr closed ↦ let (s, is, e) = reach_end file first places offset next _ r closed number refl in inl (s, is)
    ]

pub segment_or_refused : (file : File) → IsNumber file.0 → IsBytes file.1 → SegmentOrRefused file
segment_or_refused file number fits =
    elim (which (header_of file)) [
      | inl (first, e) ↦ goes_on (length file.1) file first [] 22 first number fits (omega arith) (reach_start file first (IsBytes-take 23 file.1 fits) e)
      | inr (fault, e) ↦ inr (fault, inl e)
    ]

-- bytes, each as the element at its place
pub bytes_of : (text : List ℕ) → All (λ b. b < 256) text → IsBytes text
bytes_of text all i =
    elim (cases_lt i (length text)) [
      | inl lt ↦ all i 0 lt
      | inr le ↦ rw (get_or_past text i 0 le) (omega arith)
    ]
