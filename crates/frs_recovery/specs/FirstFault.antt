-- What is wrong first with the files of a store, from the one with the greatest number down. A relation on whole
-- images.
use Rattle.std.specs.Prelude.{◌≡◌, ◌⊎◌, ℕ, ◌-◌, ◌<◌, All, Bool, true, not, ◌==◌, nat_lt, List, [], ◌∷◌, ◌++◌, IsTrue, Option, Some, None}
use Rattle.std.specs.FinMap.Entries.{is_sorted}
use Rattle.std.specs.Ordering.{nat_cmp}
use Rattle.std.specs.List.{list_all, AllZip}
use Rattle.frs_types.specs.declared.record.Record.{Record}
use Rattle.frs_types.specs.Records.{named_lowest}
use Rattle.frs_disk.specs.Disk.{IsNumber}
use Rattle.frs_segment.specs.declared.fault.ScanFault.{ScanFault}
use Rattle.frs_segment.specs.declared.fault.ScanFault.TheVariants as scan
use Rattle.frs_segment.specs.Segments.{File, FileList, WholeSegment, IsSegment, open_files, all_records, end_of, first_of, follow_from, are_enough}
use Rattle.frs_segment.specs.Scanning.{IsRefused}
use Rattle.frs_recovery.specs.declared.fault.RecoverFault.{RecoverFault}
use Rattle.frs_recovery.specs.declared.fault.RecoverFault.TheVariants.{BadHeader, BadChunk, Gap, NumberLimit}

-- a file as a disk has it: a segment's number, and bytes
abbrev pub IsStored : File → Type 0
IsStored file = IsNumber file.0 × All (λ b. b < 256) file.1

-- ---- the files that hold

-- The log goes further back than these segments: none begins at or below the lowest that the newest record names.
-- Without a record each open file is looked at.
abbrev pub goes_further : List WholeSegment → List Record → Bool
goes_further segments [] = true
goes_further segments (r ∷ rs) = list_all (λ (s : WholeSegment). nat_lt (named_lowest (r ∷ rs)) s.first) segments

-- The greatest open files are these segments, which follow each other, and the log goes further back. The other open
-- files are the older ones.
pub record HoldsDownTo (image older : FileList) (segments : List WholeSegment) : Type 0 where
  pub looked : FileList
  pub files : older ++ looked ≡ open_files image
  pub each : AllZip IsSegment looked segments
  pub follow : IsTrue (follow_from (first_of segments) segments)
  pub further : IsTrue (goes_further segments (all_records segments))

-- ---- what is wrong below them

-- how a file's fault is told of a store; half-made files are passed over, and the other two aren't of the file
abbrev pub refusal_of : ℕ → ScanFault → Option RecoverFault
refusal_of number scan.HalfMade = None
refusal_of number (scan.BadHeader offset) = Some (BadHeader number offset)
refusal_of number (scan.BadChunk offset) = Some (BadChunk number offset)
refusal_of number (scan.NumberLimit lsn) = Some (NumberLimit lsn)
refusal_of number scan.Disk = None
refusal_of number scan.Memory = None

-- those above begin where the segment ends; the newest one may end anywhere
abbrev pub ends_below : WholeSegment → List WholeSegment → Bool
ends_below s [] = true
ends_below s (t ∷ segments) = t.first == end_of s

-- the record before these segments is missed; the last one found below has this LSN, or is 0
abbrev pub gap_below : List WholeSegment → ℕ → RecoverFault
gap_below segments found = Gap (first_of segments - 1) found

-- the greatest of the older files is no segment
pub record IsNoSegment (older : FileList) (fault : RecoverFault) : Type 0 where
  pub before : FileList
  pub file : File
  pub greatest : older ≡ before ++ file ∷ []
  pub why : ScanFault
  pub refused : IsRefused file why
  pub told : refusal_of file.0 why ≡ Some fault

-- the greatest of the older files is a segment that doesn't end where those above it begin
pub record IsGapBetween (older : FileList) (segments : List WholeSegment) (fault : RecoverFault) : Type 0 where
  pub before : FileList
  pub file : File
  pub greatest : older ≡ before ++ file ∷ []
  pub next : WholeSegment
  pub is : IsSegment file next
  pub apart : IsTrue (not (ends_below next segments))
  pub told : fault ≡ gap_below segments (end_of next - 1)

-- no file is left, and the log doesn't begin here
pub record IsGapAtEnd (older : FileList) (segments : List WholeSegment) (fault : RecoverFault) : Type 0 where
  pub none : older ≡ []
  pub missed : IsTrue (not (are_enough [] segments (all_records segments)))
  pub told : fault ≡ gap_below segments 0

abbrev pub IsWrongBelow : FileList → List WholeSegment → RecoverFault → Type 0
IsWrongBelow older segments fault =
    IsNoSegment older fault ⊎ IsGapBetween older segments fault ⊎ IsGapAtEnd older segments fault

-- The image spells no log within the limits, and this is wrong first.
pub record IsWrongFirst (image : FileList) (fault : RecoverFault) : Type 0 where
  pub rising : IsTrue (is_sorted nat_cmp image)
  pub older : FileList
  pub segments : List WholeSegment
  pub holds : HoldsDownTo image older segments
  pub wrong : IsWrongBelow older segments fault
