-- How a segment is described that gets one more chunk, and the newest of a list of segments.
use Rattle.std.proofs.Common.{◌≡◌, ℕ, ◌+◌, ◌-◌, ◌<◌, List, [], ◌∷◌, ◌++◌, length, get_or, set, refl, sym, ◌∙◌, ap, arith, append_assoc, length-append}
use Rattle.std.specs.Prelude.{flat_map}
use Rattle.std.proofs.lemmas.List.{append-nil, get_or_at, set_at, set-set, get_or-set_same}
use Rattle.std.proofs.lemmas.Grind.{flat_map-append}
use Rattle.frs_types.specs.declared.record.Record.{Record}
use Rattle.frs_segment.specs.declared.layout.ChunkPlace.{ChunkPlace}
use Rattle.frs_segment.specs.declared.layout.Segment.{Segment}
use Rattle.frs_segment.specs.Front.{header}
use Rattle.frs_segment.specs.Segments.{WholeSegment, segment_spelling, chunk_bytes, chunks_bytes, body, end_of, records_of}
use Rattle.frs_segment.specs.Scanning.{places_of_segment, chunk_place, places_from}
use Rattle.frs_writer.specs.LogImages.{with_chunk, new_segment}
use Rattle.frs_writer.specs.Places.{with_chunk_place, with_newest_grown, number_of_newest, length_of_newest, chunks_of_newest}
use Rattle.frs_segment.proofs.SegmentIn.{length-chunk_bytes}

places-push : (offset first : ℕ) (chunks : List (List Record)) (rs : List Record) → places_from offset first (chunks ++ rs ∷ [])
    ≡ places_from offset first chunks ++ chunk_place (offset + length (chunks_bytes first chunks)) (first + length (flat_map (λ (c : List Record). c) chunks)) rs ∷ []
places-push offset first [] rs = ap (λ (o : ℕ). chunk_place o first rs ∷ []) (omega arith) ∙ ap (λ (f : ℕ). chunk_place (offset + 0) f rs ∷ []) (omega arith)
places-push offset first (c ∷ chunks) rs =
    let more : _ = places-push (offset + 17 + length (body c)) (first + length c) chunks rs in
    let o : offset + 17 + length (body c) + length (chunks_bytes (first + length c) chunks) ≡ offset + length (chunks_bytes first (c ∷ chunks)) =
    omega (arith, length-append (chunk_bytes first c) (chunks_bytes (first + length c) chunks), length-chunk_bytes first c) in
    let f : first + length c + length (flat_map (λ (x : List Record). x) chunks) ≡ first + length (flat_map (λ (x : List Record). x) (c ∷ chunks)) =
    omega (arith, length-append c (flat_map (λ (x : List Record). x) chunks)) in
    ap (λ (l : List ChunkPlace). chunk_place offset first c ∷ l) (more
    ∙ ap (λ (n : ℕ). places_from (offset + 17 + length (body c)) (first + length c) chunks ++ chunk_place n (first + length c + length (flat_map (λ (x : List Record). x) chunks)) rs ∷ []) o
    ∙ ap (λ (n : ℕ). places_from (offset + 17 + length (body c)) (first + length c) chunks ++ chunk_place (offset + length (chunks_bytes first (c ∷ chunks))) n rs ∷ []) f)

-- the bytes of chunks, and one more
pub bytes_more : (first : ℕ) (chunks : List (List Record)) (rs : List Record) → chunks_bytes first (chunks ++ rs ∷ [])
    ≡ chunks_bytes first chunks ++ chunk_bytes (first + length (flat_map (λ (c : List Record). c) chunks)) rs
bytes_more first [] rs = append-nil (chunk_bytes first rs) ∙ ap (λ (f : ℕ). chunk_bytes f rs) (omega arith)
bytes_more first (c ∷ chunks) rs =
    let f : first + length c + length (flat_map (λ (x : List Record). x) chunks) ≡ first + length (flat_map (λ (x : List Record). x) (c ∷ chunks)) =
    omega (arith, length-append c (flat_map (λ (x : List Record). x) chunks)) in
    ap (λ (l : List ℕ). chunk_bytes first c ++ l) (bytes_more (first + length c) chunks rs)
    ∙ sym (append_assoc (chunk_bytes first c) (chunks_bytes (first + length c) chunks) (chunk_bytes (first + length c + length (flat_map (λ (x : List Record). x) chunks)) rs))
    ∙ ap (λ (n : ℕ). chunks_bytes first (c ∷ chunks) ++ chunk_bytes n rs) f

spelling_long : (s : WholeSegment) (rs : List Record) → length (segment_spelling (with_chunk s rs)) ≡ length (segment_spelling s) + (17 + length (body rs))
spelling_long s rs =
    ap (λ (l : List ℕ). length ((1 ∷ header s.number s.first) ++ l)) (bytes_more s.first s.chunks rs)
    ∙ ap length (sym (append_assoc (1 ∷ header s.number s.first) (chunks_bytes s.first s.chunks) (chunk_bytes (end_of s) rs)))
    ∙ length-append (segment_spelling s) (chunk_bytes (end_of s) rs) ∙ omega (arith, length-chunk_bytes (end_of s) rs)

-- and the end of a segment with it
pub chunk_end : (s : WholeSegment) (rs : List Record) → end_of (with_chunk s rs) ≡ end_of s + length rs
chunk_end s rs =
    ap (λ (l : List Record). s.first + length l) (flat_map-append (λ (c : List Record). c) s.chunks (rs ∷ []) ∙ ap (λ (l : List Record). records_of s ++ l) (append-nil rs))
    ∙ omega (arith, length-append (records_of s) rs)

pub described_grown : (s : WholeSegment) (rs : List Record) → places_of_segment (with_chunk s rs) ≡ with_chunk_place (length rs) (length (body rs)) (places_of_segment s)
described_grown s rs =
    let o : 22 + length (chunks_bytes s.first s.chunks) ≡ length (segment_spelling s) + 1 - 1 = omega (arith, length-append (1 ∷ header s.number s.first) (chunks_bytes s.first s.chunks)) in
    ap (λ (n : ℕ). record { number = s.number; first = s.first; «end» = n; length = length (segment_spelling (with_chunk s rs)) + 1; chunks = places_from 22 s.first (s.chunks ++ rs ∷ []) }) (chunk_end s rs)
    ∙ ap (λ (n : ℕ). record { number = s.number; first = s.first; «end» = end_of s + length rs; length = n; chunks = places_from 22 s.first (s.chunks ++ rs ∷ []) }) (omega (arith, spelling_long s rs))
    ∙ ap (λ (l : List ChunkPlace). record { number = s.number; first = s.first; «end» = end_of s + length rs; length = length (segment_spelling s) + 1 + (17 + length (body rs)); chunks = l }) (places-push 22 s.first s.chunks rs)
    ∙ ap (λ (n : ℕ). record { number = s.number; first = s.first; «end» = end_of s + length rs; length = length (segment_spelling s) + 1 + (17 + length (body rs)); chunks = places_from 22 s.first s.chunks ++ chunk_place n (end_of s) rs ∷ [] }) o

-- ---- the newest of segments

pub newest_grown : (count long : ℕ) (older : List Segment) (s : Segment) → with_newest_grown count long (older ++ s ∷ []) ≡ older ++ with_chunk_place count long s ∷ []
newest_grown count long [] s = refl
newest_grown count long (x ∷ []) s = refl
newest_grown count long (x ∷ y ∷ older) s = ap (λ (l : List Segment). x ∷ l) (newest_grown count long (y ∷ older) s)

pub newest_number : (older : List Segment) (s : Segment) → number_of_newest (older ++ s ∷ []) ≡ s.number
newest_number [] s = refl
newest_number (x ∷ []) s = refl
newest_number (x ∷ y ∷ older) s = newest_number (y ∷ older) s

pub newest_length : (older : List Segment) (s : Segment) → length_of_newest (older ++ s ∷ []) ≡ s.length
newest_length [] s = refl
newest_length (x ∷ []) s = refl
newest_length (x ∷ y ∷ older) s = newest_length (y ∷ older) s

pub newest_chunks : (older : List Segment) (s : Segment) → chunks_of_newest (older ++ s ∷ []) ≡ s.chunks
newest_chunks [] s = refl
newest_chunks (x ∷ []) s = refl
newest_chunks (x ∷ y ∷ older) s = newest_chunks (y ∷ older) s

pub same_newest : {A : Type 0} (xs bs : List A) (a b : A) → xs ++ a ∷ [] ≡ bs ++ b ∷ [] → (xs ≡ bs) × (a ≡ b)
same_newest [] [] a b is = (refl, cc)
same_newest [] (y ∷ bs) a b is = absurd (omega (arith, ap length is, length-append bs (b ∷ [])))
same_newest (x ∷ xs) [] a b is = absurd (omega (arith, ap length is, length-append xs (a ∷ [])))
same_newest {A} (x ∷ xs) (y ∷ bs) a b is =
    let head : x ≡ y = cc in
    let tail : xs ++ a ∷ [] ≡ bs ++ b ∷ [] = cc in
    let rest = same_newest xs bs a b tail in
    (ap (λ (z : A). z ∷ xs) head ∙ ap (λ (l : List A). y ∷ l) rest.0, rest.1)

-- the newest segment at its index
pub newest_get : (segments older : List Segment) (s d : Segment) → segments ≡ older ++ s ∷ [] → get_or segments (length segments - 1) d ≡ s
newest_get segments older s d is =
    ap (λ (l : List Segment). get_or l (length segments - 1) d) is
    ∙ get_or_at older s [] d (length segments - 1) (omega (arith, ap length is, length-append older (s ∷ [])))

pub newest_set : (segments older : List Segment) (s t : Segment) → segments ≡ older ++ s ∷ [] → set segments (length segments - 1) t ≡ older ++ t ∷ []
newest_set segments older s t is =
    ap (λ (l : List Segment). set l (length segments - 1) t) is
    ∙ set_at older s [] t (length segments - 1) (omega (arith, ap length is, length-append older (s ∷ [])))

-- ---- a segment whose places were taken out

pub taken_out : (segments older : List Segment) (newest first mid second : Segment) (places : List ChunkPlace) (at : ℕ) → segments ≡ older ++ newest ∷ [] → at ≡ length segments - 1
    → first ≡ get_or segments at first → places ≡ first.chunks → mid ≡ record first { chunks = [] } → second ≡ get_or (set segments at mid) at second → record second { chunks = places } ≡ newest
taken_out segments older newest first mid second places at are is before out rest after =
    let found : first ≡ newest = before ∙ ap (λ (n : ℕ). get_or segments n first) is ∙ newest_get segments older newest first are in
    let inside : at < length segments = omega (arith, is, ap length are, length-append older (newest ∷ [])) in
    let same : second ≡ record first { chunks = [] } = after ∙ get_or-set_same segments at mid second inside ∙ rest in
    ap (λ (s : Segment). record s { chunks = places }) same ∙ ap (λ (l : List ChunkPlace). record first { chunks = l }) out ∙ found

pub put_back : (segments older : List Segment) (newest mid last : Segment) (at : ℕ) → segments ≡ older ++ newest ∷ [] → at ≡ length segments - 1 → set (set segments at mid) at last ≡ older ++ last ∷ []
put_back segments older newest mid last at are is =
    set-set segments at mid last ∙ ap (λ (n : ℕ). set segments n last) is ∙ newest_set segments older newest last are

-- a segment without a chunk, as it is described
pub fresh : (number first : ℕ) → record { number = number; first = first; «end» = first; length = 23; chunks = [] } ≡ places_of_segment (new_segment number first)
fresh number first = ap (λ (n : ℕ). record { number = number; first = first; «end» = n; length = 23; chunks = [] }) (omega arith)
