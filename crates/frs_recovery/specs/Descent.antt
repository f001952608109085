-- What is known once the files of a store were looked at from the greatest number down to one of them.
use Rattle.std.specs.Prelude.{◌≡◌, ◌⊎◌, ℕ, ◌-◌, Bool, not, List, [], ◌∷◌, ◌++◌, drop, map, reverse, IsTrue, Option, None, Some}
use Rattle.std.specs.List.{AllByRecursion}
use Rattle.frs_types.specs.declared.record.Record.{Record}
use Rattle.frs_disk.specs.Disk.{Image, bytes_at}
use Rattle.frs_segment.specs.declared.layout.ChunkPlace.{ChunkPlace}
use Rattle.frs_segment.specs.declared.layout.Segment.{Segment}
use Rattle.frs_segment.specs.declared.fault.ScanFault.{ScanFault}
use Rattle.frs_segment.specs.declared.fault.ScanFault.TheVariants as scan
use Rattle.frs_segment.specs.Segments.{File, WholeSegment, IsSegment, is_open_file, end_of, first_of, follow_from, records_of, all_records}
use Rattle.frs_segment.specs.Scanning.{places_of_segment, IsChunk, IsRefused}
use Rattle.frs_segment.specs.Heads.{IsInLine, HasHeads, HasHeaderBytes, AreChunks, StandIn, segment_with}
use Rattle.frs_recovery.specs.declared.descent.Descent.{Descent}
use Rattle.frs_recovery.specs.declared.backward_reader.BackwardReader.{BackwardReader}
use Rattle.frs_recovery.specs.declared.fault.RecoverFault.{RecoverFault}
use Rattle.frs_recovery.specs.declared.fault.RecoverFault.TheVariants.{BadHeader, BadChunk, NumberLimit, Disk, Memory}
use Rattle.frs_recovery.specs.OfferedRecords.{HasRead}
use Rattle.frs_recovery.specs.FirstFault.{refusal_of, ends_below, gap_below}

-- the file of an image with this number
abbrev pub file_at : Image → ℕ → File
file_at image number = (number, bytes_at image number)

-- some file is this segment
abbrev pub IsMeant : WholeSegment → Type 0
IsMeant s = (file : File) × IsSegment file s

-- What the heads of a file that may be half-made have told: where its chunks stand, and that they stand so in the file
-- where the disk tells it.
abbrev pub TellsSegment : Bool → File → Option Segment → Type 0
TellsSegment tells file None = IsTrue tells → IsTrue (not (is_open_file file))
TellsSegment tells file (Some found) =
    (found.number ≡ file.0) × IsInLine found × (IsTrue tells → HasHeads file found × HasHeaderBytes file)

-- Why it was refused. The disk and memory are free.
abbrev pub IsFileFault : File → RecoverFault → Type 0
IsFileFault file Disk = Unit {0}
IsFileFault file Memory = Unit {0}
IsFileFault file fault = (why : ScanFault) × IsRefused file why × (refusal_of file.0 why ≡ Some fault)

-- The records of the segment's chunks were read, in front of those that were; where the disk tells the file, they are
-- those that stand at the chunks' places.
abbrev pub ReadsSegment : Bool → List ℕ → Segment → BackwardReader → BackwardReader → Type 0
ReadsSegment tells bytes found old new =
    (chunks : List (List Record)) × AreChunks found.chunks chunks × (IsTrue tells → StandIn bytes found.chunks chunks)
    × ((rs : List Record) → HasRead old found.«end» rs
    → HasRead new found.first (records_of (segment_with found chunks) ++ rs))

-- The file is no segment, and isn't half-made.
pub record IsUnreadable (file : File) : Type 0 where
  pub no_segment : (s : WholeSegment) → IsSegment file s → ⊥
  pub finished : IsRefused file scan.HalfMade → ⊥

-- if the file is a segment, a chunk stands at the place
abbrev pub NeedsChunk : File → ChunkPlace → Type 0
NeedsChunk file place =
    (s : WholeSegment) → IsSegment file s → (rs : List Record) × IsChunk place (drop place.offset file.1) rs

-- How it is told of a store what is wrong with a file. That it is half-made is wrong with its first byte.
abbrev pub store_fault : ℕ → ScanFault → RecoverFault
store_fault number scan.HalfMade = BadHeader number 0
store_fault number (scan.BadHeader offset) = BadHeader number offset
store_fault number (scan.BadChunk offset) = BadChunk number offset
store_fault number (scan.NumberLimit lsn) = NumberLimit lsn
store_fault number scan.Disk = Disk
store_fault number scan.Memory = Memory

-- These segments were looked at, listed by rising number: each goes on where the one below it ends, and all of their
-- records were read.
pub record HasLookedAt (l : Descent) (segments : List WholeSegment) : Type 0 where
  pub segments_are : l.segments.items ≡ reverse (map places_of_segment segments)
  pub each : AllByRecursion IsMeant segments
  pub follow : IsTrue (follow_from (first_of segments) segments)
  pub read : HasRead l.records (first_of segments) (all_records segments)

-- ---- one more file

-- The file is half-made and was noted.
pub record PassesOver (tells : Bool) (file : File) (old new : Descent) : Type 0 where
  pub half : new.half.items ≡ old.half.items ++ file.0 ∷ []
  pub segments : new.segments ≡ old.segments
  pub records : new.records ≡ old.records
  pub is : IsTrue tells → IsTrue (not (is_open_file file))

-- The file is a segment that ends where those above it begin, and its records were read.
pub record ReadsFile (tells : Bool) (file : File) (segments : List WholeSegment) (old new : Descent) : Type 0 where
  pub half : new.half ≡ old.half
  pub next : WholeSegment
  pub number : next.number ≡ file.0
  pub is : IsTrue tells → IsSegment file next
  pub meets : IsTrue (ends_below next segments)
  pub looked : HasLookedAt new (next ∷ segments)

abbrev pub LooksAt : Bool → File → List WholeSegment → Descent → Descent → Type 0
LooksAt tells file segments old new = PassesOver tells file old new ⊎ ReadsFile tells file segments old new

-- What is wrong with the file, below these segments. The disk and memory are free.
abbrev pub IsFaultBelow : File → List WholeSegment → RecoverFault → Type 0
IsFaultBelow file segments fault =
    ((why : ScanFault) × IsRefused file why × (refusal_of file.0 why ≡ Some fault))
    ⊎ ((s : WholeSegment) × IsSegment file s × IsTrue (not (ends_below s segments))
    × (fault ≡ gap_below segments (end_of s - 1)))

abbrev pub IsWrongFile : File → List WholeSegment → RecoverFault → Type 0
IsWrongFile file segments Disk = Unit {0}
IsWrongFile file segments Memory = Unit {0}
IsWrongFile file segments fault = IsFaultBelow file segments fault
