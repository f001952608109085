-- Segment files, and which log an image of a store spells. A relation on whole files.
use Rattle.std.specs.Prelude.{◌≡◌, ℕ, ◌+◌, Bool, true, false, not, ◌&&◌, ◌==◌, nat_lt, nat_le, List, [], ◌∷◌, ◌++◌, length, map, filter, flat_map, IsTrue, slice_index}
use Rattle.std.specs.FinMap.Entries.{is_sorted}
use Rattle.std.specs.Ordering.{nat_cmp}
use Rattle.std.specs.List.{list_all, AllZip}
use Rattle.frs_types.specs.declared.limits.TheConstants.{NUMBER_LIMIT}
use Rattle.frs_types.specs.declared.record.Record.{Record}
use Rattle.frs_types.specs.Records.{Log, are_allowed_from, named_lowest, from_lowest}
use Rattle.frs_frame.specs.Spelling.{spelling}
use Rattle.frs_segment.specs.declared.format.TheConstants.{HEADER_LENGTH, MOST_RECORDS, BODY_LIMIT}
use Rattle.frs_segment.specs.Front.{header, chunk_head}

-- ---- files

-- A segment as it is meant: its number, the LSN of its first record, and the records of its chunks.
pub record WholeSegment : Type 0 where
  pub number : ℕ
  pub first : ℕ
  pub chunks : List (List Record)

abbrev pub records_of : WholeSegment → List Record
records_of s = flat_map (λ rs. rs) s.chunks

-- the LSN after the segment's last
abbrev pub end_of : WholeSegment → ℕ
end_of s = s.first + length (records_of s)

abbrev pub body : List Record → List ℕ
body rs = flat_map spelling rs

-- an open gate, the head, and the body
abbrev pub chunk_bytes : ℕ → List Record → List ℕ
chunk_bytes first rs = 1 ∷ chunk_head (length (body rs)) (length rs) first ++ body rs

abbrev pub chunks_bytes : ℕ → List (List Record) → List ℕ
chunks_bytes first [] = []
chunks_bytes first (rs ∷ chunks) = chunk_bytes first rs ++ chunks_bytes (first + length rs) chunks

-- the bytes of a segment up to its first closed chunk gate
abbrev pub segment_spelling : WholeSegment → List ℕ
segment_spelling s = (1 ∷ header s.number s.first) ++ chunks_bytes s.first s.chunks

-- a chunk has a record, no more records and bytes than the limits say, and its records may stand at their LSNs
abbrev pub is_chunk : ℕ → List Record → Bool
is_chunk first rs =
    nat_le 1 (length rs) && nat_le (length rs) MOST_RECORDS && nat_le (length (body rs)) BODY_LIMIT
    && are_allowed_from first rs

abbrev pub are_chunks : ℕ → List (List Record) → Bool
are_chunks first [] = true
are_chunks first (rs ∷ chunks) = is_chunk first rs && are_chunks (first + length rs) chunks

-- a file, by its number
abbrev pub File : Type 0
File = ℕ × List ℕ

-- The file is this segment: its bytes are the segment's, then a closed gate, and then any bytes.
pub record IsSegment (file : File) (s : WholeSegment) : Type 0 where
  pub number : s.number ≡ file.0
  pub gate : ℕ
  pub rest : List ℕ
  pub closed : IsTrue (not (gate == 1))
  pub bytes : file.1 ≡ segment_spelling s ++ gate ∷ rest
  pub chunks : IsTrue (are_chunks s.first s.chunks)
  pub starts : IsTrue (nat_le 1 s.number && nat_le 1 s.first && nat_lt s.first NUMBER_LIMIT)
  pub within : IsTrue (nat_le (end_of s) NUMBER_LIMIT && nat_lt s.number NUMBER_LIMIT)

-- A file is open, and not half-made, where it has a header's bytes and an open gate.
abbrev pub is_open_file : File → Bool
is_open_file file = nat_le HEADER_LENGTH (length file.1) && (slice_index file.1 0 == 1)

-- ---- images

-- the files of a disk, by rising number
abbrev pub FileList : Type 0
FileList = List File

abbrev pub open_files : FileList → FileList
open_files image = filter is_open_file image

abbrev pub all_records : List WholeSegment → List Record
all_records segments = flat_map records_of segments

-- each segment's first LSN is the LSN after the last record before it
abbrev pub follow_from : ℕ → List WholeSegment → Bool
follow_from n [] = true
follow_from n (s ∷ segments) = (s.first == n) && follow_from (end_of s) segments

-- of segments that follow each other the first alone begins at or below the LSN
abbrev pub first_alone_reaches : ℕ → List WholeSegment → Bool
first_alone_reaches lowest [] = false
first_alone_reaches lowest (s ∷ segments) =
    nat_le s.first lowest && list_all (λ (t : WholeSegment). nat_lt lowest t.first) segments

abbrev pub first_of : List WholeSegment → ℕ
first_of [] = 1
first_of (s ∷ segments) = s.first

-- Enough files are looked at. Without a record these are all of the open files, and they begin at 1. Else they
-- go back to the greatest file that begins at or below the lowest that the newest record names.
abbrev pub are_enough : FileList → List WholeSegment → List Record → Bool
are_enough [] segments [] = first_of segments == 1
are_enough (file ∷ older) segments [] = false
are_enough older segments (r ∷ rs) = first_alone_reaches (named_lowest (r ∷ rs)) segments

-- The image spells the log by these segments, its newest open files: the log is their records from the named
-- lowest on. Without a record the log is empty and begins at 1. Half-made and older files are not looked at.
pub record SpellsBy (image : FileList) (segments : List WholeSegment) (log : Log) : Type 0 where
  pub rising : IsTrue (is_sorted nat_cmp image)
  pub older : FileList
  pub looked : FileList
  pub files : older ++ looked ≡ open_files image
  pub each : AllZip IsSegment looked segments
  pub follow : IsTrue (follow_from (first_of segments) segments)
  pub enough : IsTrue (are_enough older segments (all_records segments))
  pub shown : log ≡ from_lowest (first_of segments) (all_records segments)

abbrev pub Spells : FileList → Log → Type 0
Spells image log = (segments : List WholeSegment) × SpellsBy image segments log

-- the numbers and first LSNs by which two images spell a log by the same files
abbrev pub places_of : List WholeSegment → List (ℕ × ℕ)
places_of segments = map (λ (s : WholeSegment). (s.number, s.first)) segments
