-- A segment has its heads, and heads behind which chunks stand are those of a segment.
use Rattle.std.proofs.Common.{◌≡◌, ◌&&◌, inl, inr, ℕ, ◌+◌, ◌^◌, ◌<◌, ◌≤◌, Bool, true, not, List, [], ◌∷◌, ◌++◌, length, get_or, take, drop, Result, Ok, Err, refl, sym, ap, subst, ◌∙◌, append_assoc, arith, IsTrue}
use Rattle.std.specs.Prelude.{slice_index}
use Rattle.std.specs.List.{AllZip}
use Rattle.std.proofs.Math.Dec.{ltb, leb, eqb}
use Rattle.std.proofs.lemmas.Bool.{le-leb, lt-ltb, leb-true, and_from, and_parts}
use Rattle.std.proofs.lemmas.List.{append-nil, length-append, length-drop, drop_at, drop-drop, get_or-drop}
use Rattle.frs_types.specs.declared.record.Record.{Record}
use Rattle.frs_disk.specs.Disk.{IsNumber}
use Rattle.frs_segment.specs.declared.layout.ChunkPlace.{ChunkPlace}
use Rattle.frs_segment.specs.declared.layout.Segment.{Segment}
use Rattle.frs_segment.specs.declared.fault.ScanFault.{ScanFault}
use Rattle.frs_segment.specs.declared.fault.ScanFault.TheVariants.{HalfMade}
use Rattle.frs_segment.specs.Front.{header}
use Rattle.frs_segment.specs.Segments.{File, WholeSegment, IsSegment, body, chunk_bytes, chunks_bytes, segment_spelling, end_of, is_chunk, are_chunks}
use Rattle.frs_segment.specs.Scanning.{header_of, head_of, chunk_place, places_from, places_of_segment, IsChunk, IsRefused}
use Rattle.frs_segment.specs.Heads.{gate_behind, next_behind, AreInLine, IsInLine, HaveHeads, HasHeads, HasHeaderBytes, IsRefusedByHeads, StandIn, AreChunks, segment_with}
use Rattle.frs_segment.proofs.IsChunk.{head_of_chunk}
use Rattle.frs_segment.proofs.ReadChunk.{place_is}
use Rattle.frs_segment.proofs.OneSegment.{behind_chunks, segment_header, segment_tail}
use Rattle.frs_segment.proofs.IsRefused.{half_is_shut, head_never_half, header_not_half, shut_header}
use Rattle.frs_segment.proofs.HasHeads.{heads_not_refused, one_heads_fault}
use Rattle.frs_segment.proofs.HeaderOf.{header_told, header_bytes}
use Rattle.frs_segment.proofs.SegmentIn.{flat, at_gate, length-chunk_bytes}
use Rattle.frs_segment.proofs.SegmentOrRefused.{bytes_of}

-- ---- a segment has its heads

-- the chunks at one gate after another have heads
record Headed (text : List ℕ) (offset next : ℕ) (chunks : List (List Record)) : Type 0 where
  pub heads : HaveHeads text offset next (places_from offset next chunks)
  pub gate : gate_behind offset (places_from offset next chunks) ≡ offset + length (chunks_bytes next chunks)
  pub after : next_behind next (places_from offset next chunks) ≡ next + length (flat chunks)

headed : (text : List ℕ) (offset next : ℕ) (chunks : List (List Record)) (gate : ℕ) (rest : List ℕ) → drop offset text ≡ chunks_bytes next chunks ++ gate ∷ rest → IsTrue (are_chunks next chunks) → next + length (flat chunks) ≤ 2 ^ 62
    → Headed text offset next chunks
headed text offset next [] gate rest e all limit = record { heads = tt; gate = omega arith; after = omega arith }
headed text offset next (rs ∷ chunks) gate rest e all limit =
    let parts = and_parts (is_chunk next rs) (are_chunks (next + length rs) chunks) all in
    let records : length (flat (rs ∷ chunks)) ≡ length rs + length (flat chunks) = length-append rs (flat chunks) in
    let bytes : length (chunks_bytes next (rs ∷ chunks)) ≡ 17 + length (body rs) + length (chunks_bytes (next + length rs) chunks) =
    length-append (chunk_bytes next rs) (chunks_bytes (next + length rs) chunks) ∙ ap (λ (n : ℕ). n + length (chunks_bytes (next + length rs) chunks)) (length-chunk_bytes next rs) in
    let here : drop offset text ≡ chunk_bytes next rs ++ (chunks_bytes (next + length rs) chunks ++ gate ∷ rest) = e ∙ append_assoc (chunk_bytes next rs) (chunks_bytes (next + length rs) chunks) (gate ∷ rest) in
    let (g, r, cons) = behind_chunks (next + length rs) chunks gate rest in
    let front : drop offset text ≡ chunk_bytes next rs ++ g ∷ r = here ∙ ap (λ (x : List ℕ). chunk_bytes next rs ++ x) cons in
    let behind : drop 1 (drop offset text) ≡ drop (offset + 1) text = drop-drop 1 offset text in
    let open_gate : slice_index text offset ≡ 1 = let n : offset ≡ offset + 0 = omega arith in ap (λ (k : ℕ). get_or text k 0) n ∙ sym (get_or-drop offset text 0 0) ∙ ap (λ (x : List ℕ). get_or x 0 0) front in
    let cut : 1 ∷ drop (offset + 1) text ≡ chunk_bytes next rs ++ g ∷ r = ap (λ (x : List ℕ). 1 ∷ x) (sym behind) ∙ ap (λ (x : List ℕ). 1 ∷ drop 1 x) front in
    let head = head_of_chunk offset next (drop (offset + 1) text) rs g r cut parts.0 (omega (arith, records, limit)) in
    let on : drop (offset + 17 + length (body rs)) text ≡ chunks_bytes (next + length rs) chunks ++ gate ∷ rest =
    let n : offset + 17 + length (body rs) ≡ offset + (17 + length (body rs)) = omega arith in
    ap (λ (k : ℕ). drop k text) n ∙ sym (drop-drop (17 + length (body rs)) offset text) ∙ ap (drop (17 + length (body rs))) here ∙ drop_at (chunk_bytes next rs) (chunks_bytes (next + length rs) chunks ++ gate ∷ rest) (17 + length (body rs)) (length-chunk_bytes next rs) in
    let rest_headed = headed text (offset + 17 + length (body rs)) (next + length rs) chunks gate rest on parts.1 (omega (arith, records, limit)) in
    record {
      heads = (open_gate, head.0, rest_headed.heads);
      gate = rest_headed.gate ∙ omega (arith, bytes);
      after = rest_headed.after ∙ omega (arith, records);
    }

pub segment_heads : (file : File) (s : WholeSegment) → IsSegment file s → HasHeads file (places_of_segment s)
segment_heads file s is =
    let limit = leb-true (end_of s) (2 ^ 62) (and_parts (leb (end_of s) (2 ^ 62)) (ltb s.number (2 ^ 62)) is.within).0 in
    let tail : drop 22 file.1 ≡ chunks_bytes s.first s.chunks ++ is.gate ∷ is.rest = sym (segment_tail file s is) in
    let h = headed file.1 22 s.first s.chunks is.gate is.rest tail is.chunks limit in
    let gate_there : slice_index file.1 (gate_behind 22 (places_from 22 s.first s.chunks)) ≡ is.gate =
    ap (slice_index file.1) h.gate ∙ sym (get_or-drop 22 file.1 (length (chunks_bytes s.first s.chunks)) 0) ∙ ap (λ (x : List ℕ). get_or x (length (chunks_bytes s.first s.chunks)) 0) tail ∙ after_front (chunks_bytes s.first s.chunks) is.gate is.rest in
    let size : length (segment_spelling s) ≡ 22 + length (chunks_bytes s.first s.chunks) = omega arith in
    record {
      number_is = is.number;
      header = segment_header file s is;
      heads = h.heads;
      end_is = sym h.after;
      length_is = ap (λ (n : ℕ). n + 1) (size ∙ sym h.gate);
      closed = subst (λ (g : ℕ). IsTrue (not (eqb g 1))) (sym gate_there) is.closed;
    }
  where
    after_front : (front : List ℕ) (gate : ℕ) (rest : List ℕ) → get_or (front ++ gate ∷ rest) (length front) 0 ≡ gate
    after_front [] gate rest = refl
    after_front (b ∷ front) gate rest = after_front front gate rest

-- ---- heads with the chunks behind them

-- chunks that stand in line at these places
record Lined (offset next : ℕ) (places : List ChunkPlace) (chunks : List (List Record)) : Type 0 where
  pub places_are : places ≡ places_from offset next chunks
  pub all : IsTrue (are_chunks next chunks)
  pub gate : gate_behind offset places ≡ offset + length (chunks_bytes next chunks)
  pub after : next_behind next places ≡ next + length (flat chunks)

lined : (offset next : ℕ) (places : List ChunkPlace) (chunks : List (List Record)) → AreInLine offset next places → AreChunks places chunks → Lined offset next places chunks
lined offset next [] [] line are = record { places_are = refl; all = refl; gate = omega arith; after = omega arith }
lined offset next [] (c ∷ chunks) line are = absurd are
lined offset next (p ∷ places) [] line are = absurd are
lined offset next (p ∷ places) (c ∷ chunks) line are =
    let is = are.0.1 in
    let here : chunk_place offset next c ≡ p = ap (λ (o : ℕ). chunk_place o next c) (sym line.0) ∙ ap (λ (n : ℕ). chunk_place p.offset n c) (sym line.1) ∙ place_is p are.0.0 c is in
    let o : offset + 17 + p.body ≡ offset + 17 + length (body c) = omega (arith, is.body_is) in
    let n : next + p.count ≡ next + length c = omega (arith, is.count_is) in
    let rest = lined (offset + 17 + p.body) (next + p.count) places chunks line.2 are.1 in
    let bytes : length (chunks_bytes next (c ∷ chunks)) ≡ 17 + length (body c) + length (chunks_bytes (next + length c) chunks) =
    length-append (chunk_bytes next c) (chunks_bytes (next + length c) chunks) ∙ ap (λ (k : ℕ). k + length (chunks_bytes (next + length c) chunks)) (length-chunk_bytes next c) in
    record {
      places_are = ap (λ (q : ChunkPlace). q ∷ places) (sym here) ∙ ap (λ (ps : List ChunkPlace). chunk_place offset next c ∷ ps) (rest.places_are ∙ ap (λ (k : ℕ). places_from k (next + p.count) chunks) o ∙ ap (λ (k : ℕ). places_from (offset + 17 + length (body c)) k chunks) n);
      all = and_from (is_chunk next c) (are_chunks (next + length c) chunks) (ap (λ (k : ℕ). is_chunk k c) (sym line.1) ∙ is.chunk) (ap (λ (k : ℕ). are_chunks k chunks) (sym n) ∙ rest.all);
      gate = rest.gate ∙ ap (λ (k : ℕ). offset + 17 + p.body + length (chunks_bytes k chunks)) n ∙ omega (arith, bytes, is.body_is);
      after = rest.after ∙ omega (arith, is.count_is, length-append c (flat chunks));
    }

-- chunks that stand in a text spell it
spelled : (text : List ℕ) (offset next : ℕ) (places : List ChunkPlace) (chunks : List (List Record)) → AreInLine offset next places → StandIn text places chunks → offset < length text
    → (drop offset text ≡ chunks_bytes next chunks ++ drop (gate_behind offset places) text) × (gate_behind offset places < length text)
spelled text offset next [] [] line stand inside = (refl, inside)
spelled text offset next [] (c ∷ chunks) line stand inside = absurd stand
spelled text offset next (p ∷ places) [] line stand inside = absurd stand
spelled text offset next (p ∷ places) (c ∷ chunks) line stand inside =
    let is : IsChunk p (drop offset text) c = subst (λ (o : ℕ). IsChunk p (drop o text) c) line.0 stand.0 in
    let k : offset + 17 + p.body ≡ offset + (17 + p.body) = omega arith in
    let size : length (chunk_bytes p.first c) ≡ 17 + p.body = length-chunk_bytes p.first c ∙ ap (λ (m : ℕ). 17 + m) is.body_is in
    let behind : drop (offset + 17 + p.body) text ≡ is.gate ∷ is.rest = ap (λ (m : ℕ). drop m text) k ∙ sym (drop-drop (17 + p.body) offset text) ∙ ap (drop (17 + p.body)) is.spelled ∙ drop_at (chunk_bytes p.first c) (is.gate ∷ is.rest) (17 + p.body) size in
    let n : next + p.count ≡ next + length c = omega (arith, is.count_is) in
    let rest = spelled text (offset + 17 + p.body) (next + p.count) places chunks line.2 stand.1 (omega (arith, ap length behind, length-drop (offset + 17 + p.body) text)) in (
      is.spelled ∙ ap (λ (m : ℕ). chunk_bytes m c ++ is.gate ∷ is.rest) line.1 ∙ ap (λ (x : List ℕ). chunk_bytes next c ++ x) (sym behind ∙ rest.0)
          ∙ ap (λ (m : ℕ). chunk_bytes next c ++ (chunks_bytes m chunks ++ drop (gate_behind offset (p ∷ places)) text)) n
          ∙ sym (append_assoc (chunk_bytes next c) (chunks_bytes (next + length c) chunks) (drop (gate_behind offset (p ∷ places)) text)),
      rest.1,
    )

stand_are : (text : List ℕ) (places : List ChunkPlace) (chunks : List (List Record)) → StandIn text places chunks → AreChunks places chunks
stand_are text [] [] stand = tt
stand_are text [] (c ∷ chunks) stand = absurd stand
stand_are text (p ∷ places) [] stand = absurd stand
stand_are text (p ∷ places) (c ∷ chunks) stand = ((drop p.offset text, stand.0), stand_are text places chunks stand.1)

told_as : (found : Segment) (chunks : List (List Record)) → IsInLine found → Lined 22 found.first found.chunks chunks → found ≡ places_of_segment (segment_with found chunks)
told_as found chunks line l =
    let s = segment_with found chunks in
    let size : 22 + length (chunks_bytes found.first chunks) + 1 ≡ length (segment_spelling s) + 1 = omega arith in
    ap (λ (n : ℕ). record { number = found.number; first = found.first; «end» = n; length = found.length; chunks = found.chunks }) (line.end_is ∙ l.after)
    ∙ ap (λ (n : ℕ). record { number = found.number; first = found.first; «end» = end_of s; length = n; chunks = found.chunks }) (line.length_is ∙ ap (λ (n : ℕ). n + 1) l.gate ∙ size)
    ∙ ap (λ (ps : List ChunkPlace). record { number = found.number; first = found.first; «end» = end_of s; length = length (segment_spelling s) + 1; chunks = ps }) l.places_are

-- the file whose bytes are these and that has these heads is that segment
is_segment : (file : File) (found : Segment) (chunks : List (List Record)) (gate : ℕ) (rest : List ℕ) → found.number ≡ file.0 → IsNumber file.0 → IsInLine found → Lined 22 found.first found.chunks chunks → IsTrue (not (eqb gate 1))
    → file.1 ≡ segment_spelling (segment_with found chunks) ++ gate ∷ rest → IsSegment file (segment_with found chunks)
is_segment file found chunks gate rest same number line l closed bytes = record {
  number = same;
  gate = gate;
  rest = rest;
  closed = closed;
  bytes = bytes;
  chunks = l.all;
  starts = and_from (leb 1 found.number && leb 1 found.first) (ltb found.first (2 ^ 62)) (and_from (leb 1 found.number) (leb 1 found.first) (le-leb _ _ (omega (arith, same, number.0))) (le-leb _ _ line.some)) (lt-ltb _ _ line.below);
  within = and_from (leb (end_of (segment_with found chunks)) (2 ^ 62)) (ltb found.number (2 ^ 62)) (le-leb _ _ (omega (arith, line.within, line.end_is, l.after))) (lt-ltb _ _ (omega (arith, same, number.1)));
}

pub whole_segment : (file : File) (found : Segment) (chunks : List (List Record)) → IsNumber file.0 → HasHeaderBytes file → IsInLine found → HasHeads file found → StandIn file.1 found.chunks chunks
    → IsSegment file (segment_with found chunks) × (found ≡ places_of_segment (segment_with found chunks))
whole_segment file found chunks number bytes line has stand =
    let text = file.1 in
    let h = header_told file found.first has.header in
    let l = lined 22 found.first found.chunks chunks line.line (stand_are text found.chunks chunks stand) in
    let tail = spelled text 22 found.first found.chunks chunks line.line stand (omega (arith, h.long)) in
    let o = gate_behind 22 found.chunks in
    let front : text ≡ (1 ∷ header file.0 found.first) ++ drop 22 text = header_bytes file found.first (bytes_of (take 23 text) bytes) h in
    let named : (1 ∷ header file.0 found.first) ++ drop 22 text ≡ (1 ∷ header found.number found.first) ++ drop 22 text = ap (λ (n : ℕ). (1 ∷ header n found.first) ++ drop 22 text) (sym has.number_is) in
    let spelling : text ≡ segment_spelling (segment_with found chunks) ++ slice_index text o ∷ drop (o + 1) text =
    front ∙ named ∙ ap (λ (x : List ℕ). (1 ∷ header found.number found.first) ++ x) (tail.0 ∙ ap (λ (x : List ℕ). chunks_bytes found.first chunks ++ x) (at_gate text o (slice_index text o) tail.1 refl))
    ∙ sym (append_assoc (1 ∷ header found.number found.first) (chunks_bytes found.first chunks) (slice_index text o ∷ drop (o + 1) text)) in
    (is_segment file found chunks (slice_index text o) (drop (o + 1) text) has.number_is number line l has.closed spelling, told_as found chunks line l)

pub meant_segment : (found : Segment) (chunks : List (List Record)) → IsNumber found.number → IsInLine found → AreChunks found.chunks chunks
    → (file : File) × IsSegment file (segment_with found chunks) × (found ≡ places_of_segment (segment_with found chunks))
meant_segment found chunks number line are =
    let l = lined 22 found.first found.chunks chunks line.line are in
    let s = segment_with found chunks in
    let file : File = (found.number, segment_spelling s ++ 0 ∷ []) in
    (file, is_segment file found chunks 0 [] refl number line l refl refl, told_as found chunks line l)

-- ---- what is refused

pub segment_not_refused : (file : File) (fault : ScanFault) (s : WholeSegment) → IsRefusedByHeads file fault → IsSegment file s → ⊥
segment_not_refused file fault s refused is = heads_not_refused file (places_of_segment s) fault (segment_heads file s is) refused

pub heads_half : (file : File) → IsRefusedByHeads file HalfMade → IsRefused file HalfMade
heads_half file (inl failed) = inl failed
heads_half file (inr r) = absurd (head_never_half _ _ _ r.head)

-- a file with a header, or of which another thing is wrong first, isn't half-made
pub heads_whole : (file : File) (found : Segment) → HasHeads file found → IsRefused file HalfMade → ⊥
heads_whole file found has half = header_not_half file found.first has.header (half_is_shut file half)

pub other_whole : (file : File) (fault : ScanFault) → (fault ≡ HalfMade → ⊥) → IsRefusedByHeads file fault → IsRefused file HalfMade → ⊥
other_whole file fault other refused half = other (one_heads_fault file fault HalfMade refused (inl (shut_header file (half_is_shut file half))))
