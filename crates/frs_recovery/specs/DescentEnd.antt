-- What is known once the way down through the files of a store has ended well.
use Rattle.std.specs.Prelude.{◌≡◌, ℕ, Bool, not, List, [], ◌∷◌, ◌++◌, filter, reverse, IsTrue, None, option_map, unwrap_or}
use Rattle.std.specs.List.{AllZip, last_or}
use Rattle.frs_segment.specs.declared.layout.Segment.{Segment}
use Rattle.frs_segment.specs.Stores.{numbers_of}
use Rattle.frs_segment.specs.Segments.{File, FileList, WholeSegment, IsSegment, is_open_file, open_files, all_records, are_enough}
use Rattle.frs_recovery.specs.declared.descent.Descent.{Descent}
use Rattle.frs_recovery.specs.Descent.{HasLookedAt}

-- The files above the older ones are these segments and half-made ones. The numbers of the latter were noted, the
-- greatest first.
pub record IsDownTo (image older : FileList) (segments : List WholeSegment) (half : List ℕ) : Type 0 where
  pub files : FileList
  pub are : older ++ files ≡ image
  pub each : AllZip IsSegment (open_files files) segments
  pub half_are : reverse half ≡ numbers_of (filter (λ (f : File). not (is_open_file f)) files)

-- The segments that were looked at are enough. Where the disk tells its files, they are the greatest of the image.
pub record LooksDown (tells : Bool) (image : FileList) (l : Descent) : Type 0 where
  pub older : FileList
  pub segments : List WholeSegment
  pub looked : HasLookedAt l segments
  pub enough : IsTrue (are_enough older segments (all_records segments))
  pub down : IsTrue tells → IsDownTo image older segments l.half.items

-- ---- what is read off the segments, the newest first

abbrev pub end_of_newest : List Segment → ℕ
end_of_newest [] = 1
end_of_newest (s ∷ segments) = s.«end»

abbrev pub least_number : List Segment → ℕ
least_number segments = unwrap_or (option_map (λ (s : Segment). s.number) (last_or None segments)) 0
