-- The newest of the segments, and what one more chunk makes of it.
use Rattle.std.specs.Prelude.{ℕ, ◌+◌, ◌-◌, ◌≤◌, List, [], ◌∷◌, ◌++◌}
use Rattle.frs_segment.specs.declared.format.TheConstants.{HEADER_LENGTH, CHUNK_FRONT, FILE_LIMIT, BODY_LIMIT}
use Rattle.frs_segment.specs.declared.layout.ChunkPlace.{ChunkPlace}
use Rattle.frs_segment.specs.declared.layout.Segment.{Segment}

-- the number, the length and the places of the last of these
abbrev pub number_of_newest : List Segment → ℕ
number_of_newest [] = 0
number_of_newest (s ∷ []) = s.number
number_of_newest (s ∷ t ∷ segments) = number_of_newest (t ∷ segments)

abbrev pub length_of_newest : List Segment → ℕ
length_of_newest [] = 0
length_of_newest (s ∷ []) = s.length
length_of_newest (s ∷ t ∷ segments) = length_of_newest (t ∷ segments)

abbrev pub chunks_of_newest : List Segment → List ChunkPlace
chunks_of_newest [] = []
chunks_of_newest (s ∷ []) = s.chunks
chunks_of_newest (s ∷ t ∷ segments) = chunks_of_newest (t ∷ segments)

-- the segment with one more chunk, of so many records and bytes
abbrev pub with_chunk_place : ℕ → ℕ → Segment → Segment
with_chunk_place count body s = record s {
  «end» = s.«end» + count;
  length = s.length + (CHUNK_FRONT + body);
  chunks = s.chunks ++ record { offset = s.length - 1; first = s.«end»; count = count; body = body } ∷ [];
}

abbrev pub with_newest_grown : ℕ → ℕ → List Segment → List Segment
with_newest_grown count body [] = []
with_newest_grown count body (s ∷ []) = with_chunk_place count body s ∷ []
with_newest_grown count body (s ∷ t ∷ segments) = s ∷ with_newest_grown count body (t ∷ segments)

-- it has a header, and at most one chunk more than fits below the length at which it is left
abbrev pub HasLength : Segment → Type 0
HasLength s = (HEADER_LENGTH ≤ s.length) × (s.length ≤ FILE_LIMIT + CHUNK_FRONT + BODY_LIMIT)
