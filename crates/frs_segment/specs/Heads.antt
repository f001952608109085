-- What the heads of a segment file's chunks tell, without a look at their records.
use Rattle.std.specs.Prelude.{◌≡◌, ◌⊎◌, ℕ, ◌+◌, ◌-◌, ◌^◌, ◌<◌, ◌≤◌, not, ◌==◌, All, List, [], ◌∷◌, ◌++◌, length, drop, take, slice_index, IsTrue, Option, Some, None, Result, Ok, Err}
use Rattle.std.specs.List.{AllZip}
use Rattle.frs_types.specs.declared.record.Record.{Record}
use Rattle.frs_types.specs.declared.limits.TheConstants.{NUMBER_LIMIT}
use Rattle.frs_segment.specs.declared.format.TheConstants.{HEADER_LENGTH, CHUNK_FRONT}
use Rattle.frs_segment.specs.declared.layout.ChunkPlace.{ChunkPlace}
use Rattle.frs_segment.specs.declared.layout.Segment.{Segment}
use Rattle.frs_segment.specs.declared.walk.Walk.{Walk}
use Rattle.frs_segment.specs.declared.fault.ScanFault.{ScanFault}
use Rattle.frs_segment.specs.declared.fault.ScanFault.TheVariants.{Disk, Memory}
use Rattle.frs_segment.specs.Segments.{File, WholeSegment}
use Rattle.frs_segment.specs.Scanning.{header_of, head_of, IsChunk}

-- ---- chunks one behind the other

-- the offset of the gate behind these chunks, the first of which has its gate at the offset
abbrev pub gate_behind : ℕ → List ChunkPlace → ℕ
gate_behind offset [] = offset
gate_behind offset (place ∷ places) = gate_behind (offset + CHUNK_FRONT + place.body) places

-- the LSN after these chunks, the first of which begins with the LSN next
abbrev pub next_behind : ℕ → List ChunkPlace → ℕ
next_behind next [] = next
next_behind next (place ∷ places) = next_behind (next + place.count) places

-- each chunk stands behind the one before it, and its LSNs go on from that one's
abbrev pub AreInLine : ℕ → ℕ → List ChunkPlace → Type 0
AreInLine offset next [] = Unit {0}
AreInLine offset next (place ∷ places) =
    (place.offset ≡ offset) × (place.first ≡ next)
    × AreInLine (offset + CHUNK_FRONT + place.body) (next + place.count) places

-- The chunks stand in line behind the header, within the limit of LSNs, and the segment ends behind them.
pub record IsInLine (found : Segment) : Type 0 where
  pub some : 1 ≤ found.first
  pub below : found.first < NUMBER_LIMIT
  pub line : AreInLine (HEADER_LENGTH - 1) found.first found.chunks
  pub end_is : found.«end» ≡ next_behind found.first found.chunks
  pub length_is : found.length ≡ gate_behind (HEADER_LENGTH - 1) found.chunks + 1
  pub within : found.«end» ≤ NUMBER_LIMIT

-- ---- what stands in a file

-- at an offset an open gate stands, and behind each open gate a head that tells the next of these chunks
abbrev pub HaveHeads : List ℕ → ℕ → ℕ → List ChunkPlace → Type 0
HaveHeads text offset next [] = Unit {0}
HaveHeads text offset next (place ∷ places) =
    (slice_index text offset ≡ 1) × (head_of offset next (drop (offset + 1) text) ≡ Ok place)
    × HaveHeads text (offset + CHUNK_FRONT + place.body) (next + place.count) places

-- The file has a header, these chunks by their heads, and behind them a closed gate.
pub record HasHeads (file : File) (found : Segment) : Type 0 where
  pub number_is : found.number ≡ file.0
  pub header : header_of file ≡ Ok found.first
  pub heads : HaveHeads file.1 (HEADER_LENGTH - 1) found.first found.chunks
  pub end_is : found.«end» ≡ next_behind found.first found.chunks
  pub length_is : found.length ≡ gate_behind (HEADER_LENGTH - 1) found.chunks + 1
  pub closed : IsTrue (not (slice_index file.1 (gate_behind (HEADER_LENGTH - 1) found.chunks) == 1))

-- in the text the chunk at each of these places has these records
abbrev pub StandIn : List ℕ → List ChunkPlace → List (List Record) → Type 0
StandIn text places chunks =
    AllZip (λ (place : ChunkPlace) (rs : List Record). IsChunk place (drop place.offset text) rs) places chunks

-- so it is in some text, and for each place in one of its own
abbrev pub AreChunks : List ChunkPlace → List (List Record) → Type 0
AreChunks places chunks =
    AllZip (λ (place : ChunkPlace) (rs : List Record). (text : List ℕ) × IsChunk place text rs) places chunks

-- the segment that has these records behind its heads
abbrev pub segment_with : Segment → List (List Record) → WholeSegment
segment_with found chunks = record { number = found.number; first = found.first; chunks = chunks }

-- the file begins with the bytes of a header
abbrev pub HasHeaderBytes : File → Type 0
HasHeaderBytes file = All (λ b. b < 256) (take HEADER_LENGTH file.1)

-- ---- what is wrong first

-- Behind the last of these chunks stands an open gate, and a test of the head behind it fails.
pub record RefusesHead (file : File) (fault : ScanFault) : Type 0 where
  pub first : ℕ
  pub before : List ChunkPlace
  pub header : header_of file ≡ Ok first
  pub heads : HaveHeads file.1 (HEADER_LENGTH - 1) first before
  pub gate : slice_index file.1 (gate_behind (HEADER_LENGTH - 1) before) ≡ 1
  pub head :
      head_of (gate_behind (HEADER_LENGTH - 1) before) (next_behind first before)
      (drop (gate_behind (HEADER_LENGTH - 1) before + 1) file.1) ≡ Err fault

-- of the tests of a file that need no records this is the first that fails
abbrev pub IsRefusedByHeads : File → ScanFault → Type 0
IsRefusedByHeads file fault = (header_of file ≡ Err fault) ⊎ RefusesHead file fault

-- Why the heads of a file weren't told: this is wrong first. The disk and memory are free.
abbrev pub IsCauseInHeads : File → ScanFault → Type 0
IsCauseInHeads file Disk = Unit {0}
IsCauseInHeads file Memory = Unit {0}
IsCauseInHeads file fault = IsRefusedByHeads file fault

-- the segment by its heads, or what is wrong first; the disk and memory are free
abbrev pub TellsHeads : File → Result Segment ScanFault → Type 0
TellsHeads file (Ok found) = HasHeads file found
TellsHeads file (Err fault) = IsCauseInHeads file fault

-- ---- one gate after the other

-- Where the walk begins, if the header is right; or what is wrong with it. The disk and memory are free.
abbrev pub TellsHeader : File → Result Walk ScanFault → Type 0
TellsHeader file (Ok walk) = (header_of file ≡ Ok walk.first) × HasHeaderBytes file × (walk.file_length ≡ length file.1)
TellsHeader file (Err Disk) = Unit {0}
TellsHeader file (Err Memory) = Unit {0}
TellsHeader file (Err fault) = header_of file ≡ Err fault

-- The chunk behind the gate at the offset, by its head, if the gate is open; or what is wrong with that head. The disk
-- and memory are free.
abbrev pub TellsHead : ℕ → ℕ → List ℕ → Result (Option ChunkPlace) ScanFault → Type 0
TellsHead offset next text (Ok None) = IsTrue (not (slice_index text offset == 1))
TellsHead offset next text (Ok (Some place)) =
    (slice_index text offset ≡ 1) × (head_of offset next (drop (offset + 1) text) ≡ Ok place)
    × All (λ b. b < 256) (take CHUNK_FRONT (drop offset text))
TellsHead offset next text (Err Disk) = Unit {0}
TellsHead offset next text (Err Memory) = Unit {0}
TellsHead offset next text (Err fault) =
    (slice_index text offset ≡ 1) × (head_of offset next (drop (offset + 1) text) ≡ Err fault)

-- the chunk begins at this gate and with this LSN, ends within the file's length, and its LSNs are within the limit
pub record IsNext (length offset next : ℕ) (place : ChunkPlace) : Type 0 where
  pub offset_is : place.offset ≡ offset
  pub first_is : place.first ≡ next
  pub inside : offset + (CHUNK_FRONT + place.body) < length
  pub within : next + place.count ≤ NUMBER_LIMIT

-- so does the chunk, if there is one
abbrev pub IsNextIfAny : ℕ → ℕ → ℕ → Option ChunkPlace → Type 0
IsNextIfAny length offset next None = Unit {0}
IsNextIfAny length offset next (Some place) = IsNext length offset next place

-- a walk that stands at the first gate
pub record IsBegun (number : ℕ) (walk : Walk) : Type 0 where
  pub number_is : walk.number ≡ number
  pub gate_is : walk.gate ≡ HEADER_LENGTH - 1
  pub next_is : walk.next ≡ walk.first
  pub none : walk.places.items ≡ []
  pub some : 1 ≤ walk.first
  pub below : walk.first < NUMBER_LIMIT

-- a walk that has gone on by one chunk
pub record GoesPast (place : ChunkPlace) (old new : Walk) : Type 0 where
  pub number_is : new.number ≡ old.number
  pub first_is : new.first ≡ old.first
  pub length_is : new.file_length ≡ old.file_length
  pub gate_is : new.gate ≡ old.gate + (CHUNK_FRONT + place.body)
  pub next_is : new.next ≡ old.next + place.count
  pub small : new.gate + 1 < 2 ^ 64
  pub places_are : new.places.items ≡ old.places.items ++ place ∷ []
