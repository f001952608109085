-- What an image shows of a log while the log is written.
use Rattle.std.specs.Prelude.{◌≡◌, ℕ, ◌+◌, List, [], ◌∷◌, ◌++◌, length, IsTrue}
use Rattle.std.specs.List.{AllZip, range_with_len}
use Rattle.std.specs.List.Sorted.{IsStrictlyIncreasing}
use Rattle.std.specs.FinMap.Entries.{is_sorted}
use Rattle.std.specs.Ordering.{nat_cmp}
use Rattle.frs_types.specs.declared.record.Record.{Record}
use Rattle.frs_segment.specs.Order.{IsInOrder, firsts_of}
use Rattle.frs_segment.specs.Stores.{numbers_of}
use Rattle.frs_segment.specs.Segments.{FileList, WholeSegment, IsSegment, segment_spelling, open_files, follow_from, first_of, all_records}

-- All files are open and have the numbers from 1 on, the next file has this number, and it is to begin at this LSN,
-- above those at which the segments begin.
pub record TakesNext (number next : ℕ) (image : FileList) (segments : List WholeSegment) : Type 0 where
  pub all_open : open_files image ≡ image
  pub numbers : numbers_of image ≡ range_with_len 1 (length image)
  pub number_is : number ≡ length image + 1
  pub rise : IsStrictlyIncreasing (firsts_of segments ++ next ∷ [])

-- The newest open files of the image are segments that follow each other, and their records are these from the LSN
-- first on, behind earlier ones. Where the log stands alone no other file is open, none is earlier, and the first
-- record has the LSN 1, or would have it. Without a record it stands alone. Where the store was fresh its files are in
-- order, and at most one is half-made.
pub record ShowsLog (alone fresh : Type 0) (image : FileList) (first : ℕ) (records : List Record) : Type 0 where
  pub rising : IsTrue (is_sorted nat_cmp image)
  pub older : FileList
  pub looked : FileList
  pub files : older ++ looked ≡ open_files image
  pub segments : List WholeSegment
  pub each : AllZip IsSegment looked segments
  pub follow : IsTrue (follow_from (first_of segments) segments)
  pub earlier : List Record
  pub begins : first_of segments + length earlier ≡ first
  pub shown : all_records segments ≡ earlier ++ records
  pub alone_is : alone → (older ≡ []) × (earlier ≡ []) × (first ≡ 1)
  pub whole : records ≡ [] → alone
  pub fresh_is : fresh → IsInOrder 1 (first + length records) image segments

-- the segment's file, whose last gate is closed and the last of its bytes
abbrev pub file_of : WholeSegment → ℕ × List ℕ
file_of s = (s.number, segment_spelling s ++ 0 ∷ [])

-- The same, and the last file is this segment: nothing else stands behind its closed gate or above it. Where the store
-- was fresh this one is the next file behind those in front, which are all open.
pub record EndsWithSegment (alone fresh : Type 0) (image : FileList) (first : ℕ) (records : List Record)
    (last : WholeSegment) : Type 0 where
  pub rising : IsTrue (is_sorted nat_cmp image)
  pub front : FileList
  pub files : image ≡ front ++ file_of last ∷ []
  pub made : IsSegment (file_of last) last
  pub older : FileList
  pub looked : FileList
  pub open_ones : older ++ looked ≡ open_files front
  pub segments : List WholeSegment
  pub each : AllZip IsSegment looked segments
  pub follow : IsTrue (follow_from (first_of (segments ++ last ∷ [])) (segments ++ last ∷ []))
  pub earlier : List Record
  pub begins : first_of (segments ++ last ∷ []) + length earlier ≡ first
  pub shown : all_records (segments ++ last ∷ []) ≡ earlier ++ records
  pub alone_is : alone → (older ≡ []) × (earlier ≡ []) × (first ≡ 1)
  pub whole : records ≡ [] → alone
  pub fresh_is : fresh → TakesNext last.number last.first front segments

-- the segment with one more chunk
abbrev pub with_chunk : WholeSegment → List Record → WholeSegment
with_chunk s rs = record s { chunks = s.chunks ++ rs ∷ [] }

-- a segment without a chunk
abbrev pub new_segment : ℕ → ℕ → WholeSegment
new_segment number first = record { number = number; first = first; chunks = [] }
