-- The files of a whole store: what one who has looked at all of them knows, when two images say the same, and what of a
-- log an image shows.
use Rattle.std.specs.Prelude.{◌≡◌, ◌≢◌, ◌⊎◌, ℕ, ◌+◌, ◌-◌, ◌≤◌, Bool, false, not, ◌&&◌, nat_lt, List, [], ◌∷◌, ◌++◌, map, filter, take, None, unwrap_or}
use Rattle.std.specs.List.{last_or, AllZip}
use Rattle.std.specs.FinMap.{entries}
use Rattle.frs_types.specs.Records.{Log, next_lsn, from_lowest}
use Rattle.frs_disk.specs.declared.disk.Disk.{Ghosts}
use Rattle.frs_disk.specs.Disk.{Image}
use Rattle.frs_segment.specs.declared.layout.Found.{Found}
use Rattle.frs_segment.specs.declared.layout.Segment.{Segment}
use Rattle.frs_segment.specs.Segments.{File, FileList, WholeSegment, IsSegment, is_open_file, open_files, first_of, SpellsBy, places_of}
use Rattle.frs_segment.specs.Scanning.{places_of_segment}

-- ---- what was found

abbrev pub numbers_of : List File → List ℕ
numbers_of files = map (λ (f : File). f.0) files

-- the file stands below all of the segments
abbrev pub is_below : List WholeSegment → File → Bool
is_below [] file = false
is_below (s ∷ segments) file = nat_lt file.0 s.number

-- An image spells a log by these segments, and this is what was found: the segments, the half-made files among and
-- above them, all files below them, the greatest number of a file, the next LSN, and the lowest that the newest record
-- names.
pub record IsFound (image : FileList) (segments : List WholeSegment) (log : Log) (found : Found) : Type 0 where
  pub spelled : SpellsBy image segments log
  pub segments_are : found.segments ≡ map places_of_segment segments
  pub half_are :
      found.half ≡ numbers_of (filter (λ (f : File). not (is_open_file f) && not (is_below segments f)) image)
  pub older_are : found.older ≡ numbers_of (filter (is_below segments) image)
  pub greatest_is : found.greatest ≡ unwrap_or (last_or None (numbers_of image)) 0
  pub next_is : found.next ≡ next_lsn log
  pub named_is : found.named ≡ log.first

-- ---- images that say the same

-- The second image spells what the first one spells and, unless this log is empty, by files with the same numbers and
-- first LSNs.
abbrev pub SpellsAlike : FileList → FileList → Type 0
SpellsAlike a b = (log : Log) (segments : List WholeSegment) → SpellsBy a segments log
    → (others : List WholeSegment) × SpellsBy b others log
    × ((log.records ≡ []) ⊎ (places_of others ≡ places_of segments))

-- each image that a crash now may leave spells what is read, and unless that is the empty log by the same files
abbrev pub LeavesAlike : {D : Type 0} → Ghosts D → D → Type 0
LeavesAlike g disk = (c : Image) → g.may_leave disk c → SpellsAlike (entries (g.reads disk)) (entries c)

-- ---- the newest files

-- The newest open files of the image are these segments.
pub record HasNewest (image : FileList) (segments : List WholeSegment) : Type 0 where
  pub older : FileList
  pub looked : FileList
  pub files : older ++ looked ≡ open_files image
  pub each : AllZip IsSegment looked segments

-- They are these as one knows them who has read their files, chunk by chunk.
abbrev pub HasSegments : FileList → List Segment → Type 0
HasSegments image segments = (whole : List WholeSegment) × HasNewest image whole
    × (segments ≡ map places_of_segment whole)

-- They have these numbers and first LSNs, and begin at or below this LSN.
pub record HasNewestAt (places : List (ℕ × ℕ)) (first : ℕ) (image : FileList) : Type 0 where
  pub segments : List WholeSegment
  pub newest : HasNewest image segments
  pub some : segments ≢ []
  pub places_are : places_of segments ≡ places
  pub reaches : first_of segments ≤ first

-- ---- a log up to one of its records

-- the records up to the LSN n, from the lowest on that the newest of them names
abbrev pub log_up_to : ℕ → Log → Log
log_up_to n log = from_lowest log.first (take (n + 1 - log.first) log.records)
