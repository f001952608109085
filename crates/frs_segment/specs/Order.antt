-- When the files of an image are in the order in which one writer makes them.
use Rattle.std.specs.Prelude.{◌≡◌, ℕ, ◌≤◌, List, ◌++◌, length, map}
use Rattle.std.specs.List.{range_with_len}
use Rattle.std.specs.List.Sorted.{IsStrictlyIncreasing}
use Rattle.frs_segment.specs.Segments.{File, FileList, WholeSegment, open_files}
use Rattle.frs_segment.specs.Stores.{numbers_of}

-- the LSNs at which the segments begin
abbrev pub firsts_of : List WholeSegment → List ℕ
firsts_of segments = map (λ (s : WholeSegment). s.first) segments

-- Of an image whose open files are these segments, which follow each other up to the LSN before the next one: its files
-- have the numbers from 1 on, at most so many of them are half-made, above the open ones, and each but the newest has a
-- record. For the LSNs at which the files begin rise, where a half-made one is to begin at the next LSN.
pub record IsInOrder (most next : ℕ) (image : FileList) (segments : List WholeSegment) : Type 0 where
  pub numbers : numbers_of image ≡ range_with_len 1 (length image)
  pub half_made : FileList
  pub files : image ≡ open_files image ++ half_made
  pub few : length half_made ≤ most
  pub rise : IsStrictlyIncreasing (firsts_of segments ++ map (λ (f : File). next) half_made)
