-- What reading a segment file tells: where its chunks stand, or the first thing from the front that is wrong.
use Rattle.std.specs.Prelude.{◌≡◌, ◌⊎◌, ℕ, ◌+◌, ◌-◌, ◌≤◌, not, ◌&&◌, ◌==◌, nat_lt, nat_le, List, [], ◌∷◌, ◌++◌, length, take, drop, codes, slice_index, slice_range, IsTrue, Option, Some, None, Result, Ok, Err, if◌then◌else◌}
use Rattle.std.specs.Str.{bytes_eq}
use Rattle.std.specs.Int.{Width, w32, w64, byte_len, from_be_bytes}
use Rattle.frs_types.specs.declared.limits.TheConstants.{NUMBER_LIMIT}
use Rattle.frs_types.specs.declared.record.Record.{Record}
use Rattle.frs_types.specs.Records.{is_allowed, are_allowed_from}
use Rattle.frs_frame.specs.Spelling.{spelling}
use Rattle.frs_disk.specs.Disk.{IsNumber}
use Rattle.frs_segment.specs.declared.format.TheConstants.{HEADER_LENGTH, CHUNK_HEAD, CHUNK_FRONT, MOST_RECORDS, BODY_LIMIT}
use Rattle.frs_segment.specs.declared.layout.ChunkPlace.{ChunkPlace}
use Rattle.frs_segment.specs.declared.layout.Segment.{Segment}
use Rattle.frs_segment.specs.declared.fault.ScanFault.{ScanFault}
use Rattle.frs_segment.specs.declared.fault.ScanFault.TheVariants.{HalfMade, BadHeader, BadChunk, NumberLimit, Disk, Memory}
use Rattle.frs_segment.specs.Segments.{File, WholeSegment, IsSegment, body, chunk_bytes, segment_spelling, is_chunk, are_chunks, is_open_file, end_of}

-- ---- where a segment's chunks stand

abbrev pub chunk_place : ℕ → ℕ → List Record → ChunkPlace
chunk_place offset first rs = record { offset = offset; first = first; count = length rs; body = length (body rs) }

-- each chunk stands behind the one before it: a gate, a head, and then its body
abbrev pub places_from : ℕ → ℕ → List (List Record) → List ChunkPlace
places_from offset first [] = []
places_from offset first (rs ∷ chunks) =
    chunk_place offset first rs ∷ places_from (offset + CHUNK_FRONT + length (body rs)) (first + length rs) chunks

-- the segment as one who has read its file knows it; its first gate is the header's last byte
abbrev pub places_of_segment : WholeSegment → Segment
places_of_segment s = record {
  number = s.number;
  first = s.first;
  «end» = end_of s;
  length = length (segment_spelling s) + 1;
  chunks = places_from (HEADER_LENGTH - 1) s.first s.chunks;
}

-- ---- the fields of a file's header and of a chunk's head

-- the number that stands at an offset
abbrev pub field_at : Width → ℕ → List ℕ → ℕ
field_at width at bytes = from_be_bytes width (take (byte_len width) (drop at bytes))

-- The first LSN that the header names, or what is wrong first: the file is half-made, or its letters, its version, its
-- number or its first LSN is wrong, or this LSN is too large.
unfoldable pub header_of : File → Result ℕ ScanFault
header_of file =
    if not (is_open_file file) then Err HalfMade else
    if not (bytes_eq (slice_range file.1 1 5) (codes "FRSS")) then Err (BadHeader 1) else
    if not (slice_index file.1 5 == 1) then Err (BadHeader 5) else
    if not (field_at w64 6 file.1 == file.0) then Err (BadHeader 6) else
    if field_at w64 14 file.1 == 0 then Err (BadHeader 14) else
    if nat_le NUMBER_LIMIT (field_at w64 14 file.1) then Err (NumberLimit (field_at w64 14 file.1)) else
    Ok (field_at w64 14 file.1)

-- What the three fields of a head tell of the chunk whose open gate stands at the offset, where the LSN that follows on
-- is next and the file has so many bytes behind that gate. Before the chunk's records are looked at: its bytes and the
-- gate behind them are there, its count, its length and its first LSN are as they should be, and its LSNs are within
-- the limit.
abbrev pub head_told_by : ℕ → ℕ → ℕ → ℕ → ℕ → ℕ → Result ChunkPlace ScanFault
head_told_by bytes_behind offset next body_length count first =
    if nat_le bytes_behind CHUNK_HEAD then Err (BadChunk offset) else
    if nat_le bytes_behind (CHUNK_HEAD + body_length) then Err (BadChunk offset) else
    if not (nat_le 1 count && nat_le count MOST_RECORDS) then Err (BadChunk offset) else
    if not (nat_le 1 body_length && nat_le body_length BODY_LIMIT) then Err (BadChunk offset) else
    if not (first == next) then Err (BadChunk offset) else
    if nat_lt NUMBER_LIMIT (next + count) then Err (NumberLimit NUMBER_LIMIT) else
    Ok (record { offset = offset; first = next; count = count; body = body_length })

-- what the head behind the open gate at the offset tells, or what is wrong first
unfoldable pub head_of : ℕ → ℕ → List ℕ → Result ChunkPlace ScanFault
head_of offset next behind =
    head_told_by (length behind) offset next (field_at w32 0 behind) (field_at w32 4 behind) (field_at w64 8 behind)

-- ---- a chunk's records

-- these records fill the bytes exactly, are as many as the place tells, and may stand there
pub record FillBody (place : ChunkPlace) (text : List ℕ) (rs : List Record) : Type 0 where
  pub spelled : text ≡ body rs
  pub count_is : length rs ≡ place.count
  pub allowed : IsTrue (are_allowed_from place.first rs)

-- From the front of these bytes on, behind an open gate, there is the chunk that the place tells, with these records,
-- and then a gate.
pub record IsChunk (place : ChunkPlace) (text : List ℕ) (rs : List Record) : Type 0 where
  pub gate : ℕ
  pub rest : List ℕ
  pub spelled : text ≡ chunk_bytes place.first rs ++ gate ∷ rest
  pub count_is : length rs ≡ place.count
  pub body_is : length (body rs) ≡ place.body
  pub chunk : IsTrue (is_chunk place.first rs)
  pub within : place.first + length rs ≤ NUMBER_LIMIT

-- ---- what is wrong first

-- No chunk stands behind the open gate at the offset: a test of its head fails, or no records fill its body.
abbrev pub RefusesChunk : ℕ → ℕ → List ℕ → ScanFault → Type 0
RefusesChunk offset next behind fault =
    (head_of offset next behind ≡ Err fault)
    ⊎ ((place : ChunkPlace) × (head_of offset next behind ≡ Ok place) × (fault ≡ BadChunk offset)
    × ((rs : List Record) → FillBody place (take place.body (drop CHUNK_HEAD behind)) rs → ⊥))

-- The file begins as a segment up to an open gate, and behind this gate stands no chunk.
pub record RefusesBody (file : File) (fault : ScanFault) : Type 0 where
  pub before : WholeSegment
  pub behind : List ℕ
  pub header : header_of file ≡ Ok before.first
  pub number : before.number ≡ file.0
  pub spelled : file.1 ≡ segment_spelling before ++ 1 ∷ behind
  pub chunks : IsTrue (are_chunks before.first before.chunks)
  pub within : end_of before ≤ NUMBER_LIMIT
  pub chunk : RefusesChunk (length (segment_spelling before)) (end_of before) behind fault

-- The file is no segment, and this is wrong first from its front.
abbrev pub IsRefused : File → ScanFault → Type 0
IsRefused file fault = (header_of file ≡ Err fault) ⊎ RefusesBody file fault

-- ---- what a call that reads has answered

-- Why a call that reads the file has answered a fault: this is wrong first. The disk and memory are free.
abbrev pub IsCauseInFile : File → ScanFault → Type 0
IsCauseInFile file Disk = Unit {0}
IsCauseInFile file Memory = Unit {0}
IsCauseInFile file fault = IsRefused file fault

-- the segment that the file is, or what is wrong first; the disk and memory are free
abbrev pub TellsFile : File → Result Segment ScanFault → Type 0
TellsFile file (Ok found) = (s : WholeSegment) × IsSegment file s × (found ≡ places_of_segment s)
TellsFile file (Err fault) = IsCauseInFile file fault

-- Why the bytes aren't the records that the place tells; want of memory is free.
abbrev pub RefusesRecords : ChunkPlace → List ℕ → ScanFault → Type 0
RefusesRecords place bytes HalfMade = ⊥
RefusesRecords place bytes (BadHeader at) = ⊥
RefusesRecords place bytes (BadChunk at) = (at ≡ place.offset) × ((rs : List Record) → FillBody place bytes rs → ⊥)
RefusesRecords place bytes (NumberLimit lsn) = ⊥
RefusesRecords place bytes Disk = ⊥
RefusesRecords place bytes Memory = Unit {0}

-- Of a chunk whose place is known it is only told that it isn't there.
abbrev pub IsFaultAt : ChunkPlace → ScanFault → Type 0
IsFaultAt place HalfMade = ⊥
IsFaultAt place (BadHeader at) = ⊥
IsFaultAt place (BadChunk at) = at ≡ place.offset
IsFaultAt place (NumberLimit lsn) = ⊥
IsFaultAt place Disk = Unit {0}
IsFaultAt place Memory = Unit {0}

-- no such chunk stands at the front of these bytes; want of memory is free
abbrev pub RefusesPlace : ChunkPlace → List ℕ → ScanFault → Type 0
RefusesPlace place text HalfMade = ⊥
RefusesPlace place text (BadHeader at) = ⊥
RefusesPlace place text (BadChunk at) = (at ≡ place.offset) × ((rs : List Record) → IsChunk place text rs → ⊥)
RefusesPlace place text (NumberLimit lsn) = ⊥
RefusesPlace place text Disk = ⊥
RefusesPlace place text Memory = Unit {0}

-- the record at the front that may have this LSN, and where it ends; or there is none
abbrev pub TellsRecord : List ℕ → ℕ → Option (Record × ℕ) → Type 0
TellsRecord bytes lsn (Some (r, len)) =
    IsTrue (is_allowed lsn r) × (bytes ≡ spelling r ++ drop len bytes) × (len ≤ length bytes)
TellsRecord bytes lsn None = (r : Record) (rest : List ℕ) → IsTrue (is_allowed lsn r) → bytes ≡ spelling r ++ rest → ⊥
