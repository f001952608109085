-- What always holds of a writer: its numbers fit each other, and each image that a crash may leave shows its log as
-- far as it is durable.
use Rattle.std.specs.Prelude.{◌≡◌, ℕ, ◌+◌, ◌-◌, ◌<◌, ◌≤◌, List, [], ◌∷◌, ◌++◌, length, map, take, None, IsTrue, All}
use Rattle.std.specs.Option.{option_to_list}
use Rattle.std.specs.FinMap.{entries, get}
use Rattle.frs_types.specs.Records.{Log, IsPlaced, next_lsn}
use Rattle.frs_disk.specs.declared.disk.Disk.{Ghosts}
use Rattle.frs_disk.specs.Disk.{Image, IsNumber}
use Rattle.frs_disk.specs.Frames.{IsSynced, LeftNoFile}
use Rattle.frs_types.specs.declared.limits.TheConstants.{CLIENT_LIMIT, NUMBER_LIMIT}
use Rattle.frs_segment.specs.declared.layout.Segment.{Segment}
use Rattle.frs_segment.specs.Segments.{FileList, WholeSegment}
use Rattle.frs_segment.specs.Stores.{LeavesAlike, HasSegments, HasNewestAt}
use Rattle.frs_segment.specs.Scanning.{places_of_segment}
use Rattle.frs_slots.specs.Views.{next_taken}
use Rattle.frs_writer.specs.Gates.{IsAtGate}
use Rattle.frs_writer.specs.Places.{HasLength}
use Rattle.frs_writer.specs.LogImages.{ShowsLog, EndsWithSegment}
use Rattle.frs_writer.specs.Writer.{WriterView, IsLog, WasEmpty}

-- ---- numbers

-- the records that were taken are written, but for the one that is kept
abbrev pub AreWritten : {D : Type 0} → WriterView D → Type 0
AreWritten w = (written : List (List ℕ)) × (w.taker.taken ≡ written ++ option_to_list w.kept)
    × (w.taker.first + length written ≡ w.synced + 1)

-- The newest segment is the last one, and the next record to be written follows it. A record that was taken is written,
-- or kept; a write that was cut short may have lost some.
pub record IsCounted {D : Type 0} (w : WriterView D) : Type 0 where
  pub older : List Segment
  pub newest : Segment
  pub segments : w.segments ≡ older ++ newest ∷ []
  pub number : IsNumber newest.number
  pub ends : newest.«end» ≡ w.synced + 1
  pub long : HasLength newest
  pub least : 1 ≤ w.taker.first
  pub first : w.taker.first ≤ w.synced + 1
  pub most : next_taken w.taker ≤ NUMBER_LIMIT
  pub written : w.synced + 1 ≤ next_taken w.taker
  pub counted : w.ended ≡ None → AreWritten w
  pub clients : (1 ≤ length w.noted) × (length w.noted ≤ CLIENT_LIMIT)
  pub noted : All (λ n. n ≤ w.synced) w.noted

-- ---- the disk

-- The newest file ends in its closed gate and is durable, and no file stands above it. Neither it nor one above it was
-- removed.
pub record IsAtWork {D : Type 0} (g : Ghosts D) (disk : D) (newest : Segment) : Type 0 where
  pub gate : IsAtGate (newest.length - 1) (get (g.reads disk) newest.number)
  pub durable : IsSynced g disk newest.number
  pub none_above : (q : ℕ) → newest.number < q → get (g.reads disk) q ≡ None
  pub none_removed : (q : ℕ) → newest.number ≤ q → g.removing disk q → ⊥

-- ---- the log

-- the image shows the log up to a record that isn't before this LSN
abbrev pub ShowsFrom : Type 0 → Type 0 → ℕ → Log → FileList → Type 0
ShowsFrom alone fresh synced log image = (n : ℕ) × (synced ≤ n) × (n < next_lsn log)
    × ShowsLog alone fresh image log.first (take (n + 1 - log.first) log.records)

-- what of the log is durable
abbrev pub durable_of : {D : Type 0} → WriterView D → Log → Log
durable_of w log = record log { records = take (w.synced + 1 - log.first) log.records }

-- Each image that a crash may leave shows what is durable. While nothing was cut short it shows that and nothing more,
-- and the newest file is the same in all of them; the writer's segments are the newest files that are read; and from
-- the log's first LSN on the files have the same numbers and first LSNs in all images. The log stands alone where it
-- was empty at the opening.
pub record ShowsDurable {D : Type 0} (g : Ghosts D) (w : WriterView D) (log : Log) : Type 0 where
  pub next_is : next_lsn log ≡ next_taken w.taker
  pub each : (c : Image) → g.may_leave w.disk c
      → ShowsFrom (WasEmpty g w.opened) (LeftNoFile g w.opened) w.synced log (entries c)
  pub newest : w.ended ≡ None → (last : WholeSegment)
      × ((c : Image) → g.may_leave w.disk c
      → EndsWithSegment (WasEmpty g w.opened) (LeftNoFile g w.opened) (entries c) log.first
      (durable_of w log).records last)
      × ((before : List WholeSegment) × (w.segments ≡ map places_of_segment (before ++ last ∷ [])))
  pub read : w.ended ≡ None → HasSegments (entries (g.reads w.disk)) w.segments
  pub alike : w.ended ≡ None → (places : List (ℕ × ℕ))
      × ((c : Image) → g.may_leave w.disk c → HasNewestAt places log.first (entries c))

-- ---- all of it

pub record IsKept {D : Type 0} (g : Ghosts D) (w : WriterView D) : Type 0 where
  pub counted : IsCounted w
  pub told : g.tells w.disk ≡ g.tells w.opened
  pub at_work : w.ended ≡ None → IsTrue (g.tells w.disk) → IsAtWork g w.disk counted.newest
  pub holds : IsTrue (g.tells w.disk) → LeavesAlike g w.opened → (log : Log) → IsLog g w log → IsPlaced log
      → ShowsDurable g w log
