-- How far a file was read: chunk after chunk.
use Rattle.std.proofs.Common.{◌&&◌, ◌≡◌, inl, inr, ℕ, ◌+◌, ◌^◌, ◌<◌, ◌≤◌, true, List, [], ◌∷◌, ◌++◌, length, get_or, take, drop, Ok, Err, refl, sym, ap, subst, ◌∙◌, append_assoc, arith, IsTrue}
use Rattle.std.specs.List.{flat_map}
use Rattle.std.proofs.Math.Dec.{ltb, leb, eqb}
use Rattle.std.proofs.lemmas.Bool.{lt-ltb, le-leb, ne_eqb, and_parts, and_from, not_from_false}
use Rattle.std.proofs.lemmas.List.{drop_at, drop-drop, drop_more, append-nil, length-append, length-drop}
use Rattle.std.proofs.lemmas.Grind.{flat_map-append}
use Rattle.frs_types.specs.declared.record.Record.{Record}
use Rattle.frs_segment.specs.declared.layout.ChunkPlace.{ChunkPlace}
use Rattle.frs_segment.specs.declared.layout.Segment.{Segment}
use Rattle.frs_segment.specs.declared.fault.ScanFault.{ScanFault}
use Rattle.frs_disk.specs.Disk.{IsNumber}
use Rattle.frs_segment.specs.Front.{header}
use Rattle.frs_segment.specs.Segments.{File, WholeSegment, body, chunk_bytes, chunks_bytes, segment_spelling, end_of, is_chunk, are_chunks}
use Rattle.frs_segment.specs.Scanning.{header_of, chunk_place, places_from, RefusesChunk, IsRefused, TellsFile}
use Rattle.frs_frame.proofs.Takes.{IsBytes}
use Rattle.frs_segment.proofs.IsChunk.{TellsChunk}
use Rattle.frs_segment.proofs.HeaderOf.{header_told, header_bytes}

-- ---- chunks one after another

abbrev pub flat : List (List Record) → List Record
flat chunks = flat_map (λ rs. rs) chunks

pub chunks_bytes-append : (first : ℕ) (chunks more : List (List Record)) → chunks_bytes first (chunks ++ more) ≡ chunks_bytes first chunks ++ chunks_bytes (first + length (flat chunks)) more
chunks_bytes-append first [] more = let e : first + 0 ≡ first = omega arith in ap (λ (n : ℕ). chunks_bytes n more) (sym e)
chunks_bytes-append first (rs ∷ chunks) more =
    let e : first + length rs + length (flat chunks) ≡ first + length (flat (rs ∷ chunks)) = omega (arith, length-append rs (flat chunks)) in
    ap (λ (x : List ℕ). chunk_bytes first rs ++ x) (chunks_bytes-append (first + length rs) chunks more ∙ ap (λ (n : ℕ). chunks_bytes (first + length rs) chunks ++ chunks_bytes n more) e)
    ∙ sym (append_assoc (chunk_bytes first rs) (chunks_bytes (first + length rs) chunks) (chunks_bytes (first + length (flat (rs ∷ chunks))) more))

pub are_chunks-append : (first : ℕ) (chunks : List (List Record)) (rs : List Record) → IsTrue (are_chunks first chunks) → IsTrue (is_chunk (first + length (flat chunks)) rs) → IsTrue (are_chunks first (chunks ++ rs ∷ []))
are_chunks-append first [] rs all is = let e : first + 0 ≡ first = omega arith in and_from (is_chunk first rs) true (ap (λ (n : ℕ). is_chunk n rs) (sym e) ∙ is) refl
are_chunks-append first (qs ∷ chunks) rs all is =
    let parts = and_parts (is_chunk first qs) (are_chunks (first + length qs) chunks) all in
    let e : first + length qs + length (flat chunks) ≡ first + length (flat (qs ∷ chunks)) = omega (arith, length-append qs (flat chunks)) in
    and_from (is_chunk first qs) (are_chunks (first + length qs) (chunks ++ rs ∷ [])) parts.0 (are_chunks-append (first + length qs) chunks rs parts.1 (ap (λ (n : ℕ). is_chunk n rs) e ∙ is))

pub length-chunk_bytes : (first : ℕ) (rs : List Record) → length (chunk_bytes first rs) ≡ 17 + length (body rs)
length-chunk_bytes first rs = omega arith

pub places_from-append : (offset first : ℕ) (chunks : List (List Record)) (rs : List Record)
    → places_from offset first (chunks ++ rs ∷ []) ≡ places_from offset first chunks ++ chunk_place (offset + length (chunks_bytes first chunks)) (first + length (flat chunks)) rs ∷ []
places_from-append offset first [] rs =
    let o : offset ≡ offset + 0 = omega arith in
    let n : first ≡ first + 0 = omega arith in
    ap (λ (m : ℕ). chunk_place m first rs ∷ []) o ∙ ap (λ (m : ℕ). chunk_place (offset + 0) m rs ∷ []) n
places_from-append offset first (qs ∷ chunks) rs =
    let o : offset + 17 + length (body qs) + length (chunks_bytes (first + length qs) chunks) ≡ offset + length (chunks_bytes first (qs ∷ chunks)) =
    omega (arith, length-append (chunk_bytes first qs) (chunks_bytes (first + length qs) chunks), length-chunk_bytes first qs) in
    let n : first + length qs + length (flat chunks) ≡ first + length (flat (qs ∷ chunks)) = omega (arith, length-append qs (flat chunks)) in
    ap (λ (x : List ChunkPlace). chunk_place offset first qs ∷ x) (places_from-append (offset + 17 + length (body qs)) (first + length qs) chunks rs
    ∙ ap (λ (m : ℕ). places_from (offset + 17 + length (body qs)) (first + length qs) chunks ++ chunk_place m (first + length qs + length (flat chunks)) rs ∷ []) o
    ∙ ap (λ (m : ℕ). places_from (offset + 17 + length (body qs)) (first + length qs) chunks ++ chunk_place (offset + length (chunks_bytes first (qs ∷ chunks))) m rs ∷ []) n)

-- ---- how far a file was read

abbrev pub meant : File → ℕ → List (List Record) → WholeSegment
meant file first chunks = record { number = file.0; first = first; chunks = chunks }

-- These places are those of the chunks that the file has up to the gate at the offset, and the LSN is the next one.
pub record Reached (file : File) (first : ℕ) (places : List ChunkPlace) (offset next : ℕ) : Type 0 where
  pub chunks : List (List Record)
  pub header_is : header_of file ≡ Ok first
  pub spelled : file.1 ≡ segment_spelling (meant file first chunks) ++ drop offset file.1
  pub offset_is : offset ≡ length (segment_spelling (meant file first chunks))
  pub next_is : next ≡ end_of (meant file first chunks)
  pub places_are : places ≡ places_from 22 first chunks
  pub all : IsTrue (are_chunks first chunks)
  pub within : next ≤ 2 ^ 62
  pub inside : offset < length file.1

pub reach_start : (file : File) (first : ℕ) → IsBytes (take 23 file.1) → header_of file ≡ Ok first → Reached file first [] 22 first
reach_start file first fits e =
    let h = header_told file first e in
    record {
      chunks = [];
      header_is = e;
      spelled = header_bytes file first fits h;
      offset_is = refl;
      next_is = omega arith;
      places_are = refl;
      all = refl;
      within = omega (arith, h.below);
      inside = omega (arith, h.long);
    }

-- the gate that was reached, and what is behind it
pub at_gate : (text : List ℕ) (offset gate : ℕ) → offset < length text → get_or text offset 0 ≡ gate → drop offset text ≡ gate ∷ drop (offset + 1) text
at_gate text offset gate lt is = drop_more text offset 0 lt ∙ ap (λ (g : ℕ). g ∷ drop (offset + 1) text) is

pub spelling_len : (file : File) (first : ℕ) (chunks : List (List Record)) → length (segment_spelling (meant file first chunks)) ≡ 22 + length (chunks_bytes first chunks)
spelling_len file first chunks = omega arith

pub reach_more : (file : File) (first : ℕ) (places : List ChunkPlace) (offset next : ℕ) (place : ChunkPlace) → Reached file first places offset next → get_or file.1 offset 0 ≡ 1 → TellsChunk offset next (drop (offset + 1) file.1) place
    → Reached file first (places ++ place ∷ []) (offset + (17 + place.body)) (next + place.count)
reach_more file first places offset next place r is told =
    let rs = told.2.0 in
    let chunk = told.2.1 in
    let text = file.1 in
    let old = segment_spelling (meant file first r.chunks) in
    let new_chunks = r.chunks ++ rs ∷ [] in
    let lsn : place.first ≡ first + length (flat r.chunks) = told.1 ∙ r.next_is in
    let here : drop offset text ≡ chunk_bytes place.first rs ++ chunk.gate ∷ chunk.rest = at_gate text offset 1 r.inside is ∙ chunk.spelled in
    let len : length (chunk_bytes place.first rs) ≡ 17 + place.body = length-chunk_bytes place.first rs ∙ ap (λ (n : ℕ). 17 + n) chunk.body_is in
    let behind : drop (offset + (17 + place.body)) text ≡ chunk.gate ∷ chunk.rest = sym (drop-drop (17 + place.body) offset text) ∙ ap (drop (17 + place.body)) here ∙ drop_at (chunk_bytes place.first rs) (chunk.gate ∷ chunk.rest) (17 + place.body) len in
    let one : chunks_bytes (first + length (flat r.chunks)) (rs ∷ []) ≡ chunk_bytes place.first rs = append-nil (chunk_bytes (first + length (flat r.chunks)) rs) ∙ ap (λ (n : ℕ). chunk_bytes n rs) (sym lsn) in
    let grown : chunks_bytes first new_chunks ≡ chunks_bytes first r.chunks ++ chunk_bytes place.first rs = chunks_bytes-append first r.chunks (rs ∷ []) ∙ ap (λ (x : List ℕ). chunks_bytes first r.chunks ++ x) one in
    let new_spelling : segment_spelling (meant file first new_chunks) ≡ old ++ chunk_bytes place.first rs =
    ap (λ (x : List ℕ). (1 ∷ header file.0 first) ++ x) grown ∙ sym (append_assoc (1 ∷ header file.0 first) (chunks_bytes first r.chunks) (chunk_bytes place.first rs)) in
    let new_len : length (segment_spelling (meant file first new_chunks)) ≡ offset + (17 + place.body) = ap length new_spelling ∙ omega (arith, length-append old (chunk_bytes place.first rs), len, r.offset_is) in
    let more_records : length (flat new_chunks) ≡ length (flat r.chunks) + length rs = ap length (flat_map-append (λ (x : List Record). x) r.chunks (rs ∷ [])) ∙ omega (arith, length-append (flat r.chunks) (flat (rs ∷ [])), ap length (append-nil rs)) in
    let place_is : chunk_place (22 + length (chunks_bytes first r.chunks)) (first + length (flat r.chunks)) rs ≡ place =
    let o : 22 + length (chunks_bytes first r.chunks) ≡ place.offset = omega (arith, told.0, r.offset_is, spelling_len file first r.chunks) in
    ap (λ (n : ℕ). chunk_place n (first + length (flat r.chunks)) rs) o ∙ ap (λ (n : ℕ). chunk_place place.offset n rs) (sym lsn)
    ∙ ap (λ (n : ℕ). record { offset = place.offset; first = place.first; count = n; body = length (body rs) }) chunk.count_is
    ∙ ap (λ (n : ℕ). record { offset = place.offset; first = place.first; count = place.count; body = n }) chunk.body_is in
    record {
      chunks = new_chunks;
      header_is = r.header_is;
      spelled = r.spelled ∙ ap (λ (x : List ℕ). old ++ x) here ∙ sym (append_assoc old (chunk_bytes place.first rs) (chunk.gate ∷ chunk.rest))
          ∙ ap (λ (x : List ℕ). x ++ chunk.gate ∷ chunk.rest) (sym new_spelling) ∙ ap (λ (x : List ℕ). segment_spelling (meant file first new_chunks) ++ x) (sym behind);
      offset_is = sym new_len;
      next_is = omega (arith, r.next_is, more_records, chunk.count_is);
      places_are = ap (λ (x : List ChunkPlace). x ++ place ∷ []) r.places_are ∙ ap (λ (p : ChunkPlace). places_from 22 first r.chunks ++ p ∷ []) (sym place_is) ∙ sym (places_from-append 22 first r.chunks rs);
      all = are_chunks-append first r.chunks rs r.all (ap (λ (n : ℕ). is_chunk n rs) (sym lsn) ∙ chunk.chunk);
      within = omega (arith, chunk.within, told.1, chunk.count_is);
      inside = omega (arith, ap length behind, length-drop (offset + (17 + place.body)) text);
    }

-- the file ends where a gate is closed
pub reach_end : (file : File) (first : ℕ) (places : List ChunkPlace) (offset next : ℕ) (found : Segment) → Reached file first places offset next → (get_or file.1 offset 0 ≡ 1 → ⊥)
    → IsNumber file.0 → found ≡ record { number = file.0; first = first; «end» = next; length = offset + 1; chunks = places } → TellsFile file (Ok found)
reach_end file first places offset next found r closed number is =
    let s = meant file first r.chunks in
    let h = header_told file first r.header_is in
    let gate = get_or file.1 offset 0 in (
      s,
      record {
        number = refl;
        gate = gate;
        rest = drop (offset + 1) file.1;
        closed = not_from_false (eqb gate 1) (ne_eqb gate 1 closed);
        bytes = r.spelled ∙ ap (λ (x : List ℕ). segment_spelling s ++ x) (at_gate file.1 offset gate r.inside refl);
        chunks = r.all;
        starts = and_from (leb 1 file.0 && leb 1 first) (ltb first (2 ^ 62)) (and_from (leb 1 file.0) (leb 1 first) (le-leb _ _ number.0) (le-leb _ _ h.some)) (lt-ltb _ _ h.below);
        within = and_from (leb (end_of s) (2 ^ 62)) (ltb file.0 (2 ^ 62)) (le-leb _ _ (omega (arith, r.within, r.next_is))) (lt-ltb _ _ number.1);
      },
      is ∙ ap (λ (n : ℕ). record { number = file.0; first = first; «end» = n; length = offset + 1; chunks = places }) r.next_is
          ∙ ap (λ (n : ℕ). record { number = file.0; first = first; «end» = end_of s; length = n + 1; chunks = places }) r.offset_is
          ∙ ap (λ (x : List ChunkPlace). record { number = file.0; first = first; «end» = end_of s; length = length (segment_spelling s) + 1; chunks = x }) r.places_are,
    )

-- or is refused where no chunk stands behind an open gate
pub reach_refused : (file : File) (first : ℕ) (places : List ChunkPlace) (offset next : ℕ) (fault : ScanFault) → Reached file first places offset next → get_or file.1 offset 0 ≡ 1 → RefusesChunk offset next (drop (offset + 1) file.1) fault → IsRefused file fault
reach_refused file first places offset next fault r is refuses =
    let s = meant file first r.chunks in
    inr (record {
      before = s;
      behind = drop (offset + 1) file.1;
      header = r.header_is;
      number = refl;
      spelled = r.spelled ∙ ap (λ (x : List ℕ). segment_spelling s ++ x) (at_gate file.1 offset 1 r.inside is);
      chunks = r.all;
      within = omega (arith, r.within, r.next_is);
      chunk = subst (λ (n : ℕ). RefusesChunk (length (segment_spelling s)) n (drop (offset + 1) file.1) fault) r.next_is (subst (λ (o : ℕ). RefusesChunk o next (drop (offset + 1) file.1) fault) r.offset_is refuses);
    })
