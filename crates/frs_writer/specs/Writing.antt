-- What a call of the writer does: to its segments, to what it has taken, and to what a crash may leave.
use Rattle.std.specs.Prelude.{◌≡◌, ◌≢◌, ◌⊎◌, ℕ, ◌+◌, ◌<◌, ◌≤◌, Bool, ◌&&◌, nat_le, nat_lt, false, List, [], ◌∷◌, ◌++◌, length, take, Some, None, Result, Ok, Err, IsTrue, if◌then◌else◌}
use Rattle.std.specs.List.{AllZip}
use Rattle.std.specs.FinMap.{entries}
use Rattle.std.specs.FinMap.Entries.{is_sorted}
use Rattle.std.specs.Ordering.{nat_cmp}
use Rattle.frs_types.specs.declared.record.Record.{Record}
use Rattle.frs_types.specs.Records.{Log, IsPlaced, next_lsn}
use Rattle.frs_disk.specs.declared.disk.Disk.{Ghosts}
use Rattle.frs_disk.specs.declared.disk.Fault.{Fault}
use Rattle.frs_disk.specs.declared.disk.Fault.TheVariants as fault
use Rattle.frs_disk.specs.Disk.{Image, Rose}
use Rattle.frs_disk.specs.Frames.{IsSynced, IsThere, LeftNoFile, RemovesBelow, Within}
use Rattle.frs_types.specs.declared.limits.TheConstants.{NUMBER_LIMIT}
use Rattle.frs_segment.specs.declared.format.TheConstants.{FILE_LIMIT}
use Rattle.frs_segment.specs.declared.layout.Segment.{Segment}
use Rattle.frs_segment.specs.Segments.{WholeSegment, IsSegment, Spells, open_files, follow_from, all_records}
use Rattle.frs_segment.specs.Segments.{FileList}
use Rattle.frs_segment.specs.Scanning.{places_of_segment}
use Rattle.frs_segment.specs.Order.{IsInOrder}
use Rattle.frs_segment.specs.Stores.{log_up_to, LeavesAlike, HasSegments}
use Rattle.frs_slots.specs.Views.{IsOneMore, MissedRecord}
use Rattle.frs_writer.specs.declared.fault.Refused.{Refused}
use Rattle.frs_writer.specs.declared.fault.WriteFault.{WriteFault}
use Rattle.frs_writer.specs.declared.fault.WriteFault.TheVariants.{Disk, Broken, NumberLimit, Memory}
use Rattle.frs_writer.specs.Groups.{joined_records, lowest_of_last, GathersGroup}
use Rattle.frs_writer.specs.Places.{number_of_newest, length_of_newest, with_newest_grown}
use Rattle.frs_writer.specs.Invariant.{ShowsFrom}
use Rattle.frs_writer.specs.LogImages.{new_segment}
use Rattle.frs_writer.specs.Setup.{OpensNext}
use Rattle.frs_writer.specs.Writer.{WriterView, IsLog, WasEmpty}

-- ---- segments

-- the newest segment is to be left: it has reached 1 MiB, and there are LSNs for another one
abbrev pub is_due : {D : Type 0} → WriterView D → Bool
is_due w = nat_le FILE_LIMIT (length_of_newest w.segments) && nat_lt (w.synced + 1) NUMBER_LIMIT

-- the segments once the next one was made where it is due
abbrev pub segments_after_roll : {D : Type 0} → WriterView D → List Segment
segments_after_roll w =
    if is_due w
    then w.segments ++ places_of_segment (new_segment (number_of_newest w.segments + 1) (w.synced + 1)) ∷ []
    else w.segments

-- the number of the file that a write goes to: the newest, or the next one where this is due
abbrev pub number_to_write : {D : Type 0} → WriterView D → ℕ
number_to_write w = number_of_newest (segments_after_roll w)

-- The next segment was made where it is due, and now none is.
pub record IsRolled {D : Type 0} (old new : WriterView D) : Type 0 where
  pub view : new ≡ record old { disk = new.disk; segments = segments_after_roll old }
  pub here : is_due new ≡ false

-- The same disk at the opening, notes, pins, older files and ring, of which it has at most taken more: what was taken
-- stays, neither number of what is known of the ring falls, and at most one look has missed the next record.
pub record TakesMore {D : Type 0} (old new : WriterView D) : Type 0 where
  pub opened : new.opened ≡ old.opened
  pub noted : new.noted ≡ old.noted
  pub pins : new.pins ≡ old.pins
  pub older : new.older ≡ old.older
  pub ring : (new.taker.ring ≡ old.taker.ring) × (new.taker.first ≡ old.taker.first)
  pub known : old.taker.known ≤ new.taker.known
  pub sure : old.taker.sure ≤ new.taker.sure
  pub misses : (new.taker.misses ≡ old.taker.misses) ⊎ IsOneMore old.taker.misses new.taker.misses
  pub more : List (List ℕ)
  pub taken : new.taker.taken ≡ old.taker.taken ++ more

-- ---- a group

-- A group was written as one chunk: what was kept before and what was then taken. Nothing was written only where
-- nothing was kept and the taker has looked and missed the next record; that miss is then all that it has changed.
pub record WritesGroup {D : Type 0} (limit count : ℕ) (old new : WriterView D) : Type 0 where
  pub group : List (List ℕ)
  pub gathers : GathersGroup limit old.taker new.taker old.kept new.kept group
  pub counted : count ≡ length group
  pub none : count ≡ 0 → (old.kept ≡ None) × (new.kept ≡ None) × MissedRecord old.taker new.taker
  pub synced : new.synced ≡ old.synced + count
  pub lowest : new.lowest ≡ lowest_of_last old.lowest group
  pub segments : new.segments ≡ (if nat_lt 0 count
      then with_newest_grown count (length (joined_records group)) (segments_after_roll old)
      else segments_after_roll old)

-- a group of one record or more was gathered
abbrev pub GathersSome : {D : Type 0} → ℕ → WriterView D → WriterView D → Type 0
GathersSome limit old new = (group : List (List ℕ)) × (1 ≤ length group)
    × GathersGroup limit old.taker new.taker old.kept new.kept group

-- the next segment was made where it is due, and its file is there
abbrev pub HasMadeNext : {D : Type 0} → Ghosts D → WriterView D → WriterView D → Type 0
HasMadeNext g old new = IsTrue (is_due old) × (new.segments ≡ segments_after_roll old)
    × IsThere g new.disk (number_of_newest new.segments)

-- A write to the newest segment that was refused leaves the segments, and the newest one's file is there. The writer is
-- ended only behind a group that it has gathered.
pub record StopsWrite {D : Type 0} (g : Ghosts D) (limit : ℕ) (old new : WriterView D) : Type 0 where
  pub synced : new.synced ≡ old.synced
  pub lowest : new.lowest ≡ old.lowest
  pub segments : new.segments ≡ old.segments
  pub there : IsThere g new.disk (number_of_newest new.segments)
  pub gathered : (new.ended ≡ None) ⊎ GathersSome limit old new

-- What a refusal leaves. Nothing more is durable, and the segments are as they were, or the next one was made. Where
-- none was due the writer is ended only behind a group that it has gathered.
pub record IsLeftRefused {D : Type 0} (g : Ghosts D) (limit : ℕ) (old new : WriterView D) : Type 0 where
  pub synced : new.synced ≡ old.synced
  pub lowest : new.lowest ≡ old.lowest
  pub segments : (new.segments ≡ old.segments) ⊎ HasMadeNext g old new
  pub cut : is_due old ≡ false → old.ended ≡ None → (new.ended ≡ None) ⊎ GathersSome limit old new

-- ---- why a call was refused

-- `Disk` only where the count has risen in the call, `Broken` only where it had risen before, `NumberLimit` only where
-- a new segment would have the number 2^62; each but the first leaves the writer as it was, and want of memory does so
-- too unless it has cut a write short. It isn't the answer where the disk's failure has cut one short before.
abbrev pub HasWriteCause : {D X : Type 0} → Ghosts D → WriterView D → WriterView D → Result X WriteFault → Type 0
HasWriteCause g old new (Ok count) = (g.faults new.disk ≡ g.faults old.disk) × (old.ended ≡ None) × (new.ended ≡ None)
HasWriteCause g old new (Err Disk) = Rose (g.faults old.disk) (g.faults new.disk) × (old.ended ≡ None)
    × (new.ended ≡ Some fault.Failed)
HasWriteCause g old new (Err (Broken at_opening now)) =
    (at_opening ≡ g.faults old.opened) × (now ≡ g.faults old.disk) × Rose at_opening now
    × (old.ended ≡ Some fault.Failed) × (new ≡ old)
HasWriteCause g old new (Err (NumberLimit number)) =
    (number ≡ NUMBER_LIMIT) × (number_of_newest old.segments + 1 ≡ number) × IsTrue (is_due old) × (old.ended ≡ None)
    × (new ≡ old)
HasWriteCause g old new (Err Memory) =
    (g.faults new.disk ≡ g.faults old.disk) × (old.ended ≢ Some fault.Failed)
    × ((new ≡ old) ⊎ ((old.ended ≡ None) × (new.ended ≡ Some fault.Memory)))

-- of a write to the newest segment: `Memory` before anything was changed only where no room was given
abbrev pub HasPutCause : {D : Type 0} → Ghosts D → Type 0 → WriterView D → WriterView D → Result ℕ WriteFault → Type 0
HasPutCause g not_given old new (Ok count) = (g.faults new.disk ≡ g.faults old.disk) × (new.ended ≡ None)
HasPutCause g not_given old new (Err Disk) = Rose (g.faults old.disk) (g.faults new.disk)
    × (new.ended ≡ Some fault.Failed)
HasPutCause g not_given old new (Err (Broken at_opening now)) = ⊥
HasPutCause g not_given old new (Err (NumberLimit number)) = ⊥
HasPutCause g not_given old new (Err Memory) =
    (g.faults new.disk ≡ g.faults old.disk) × (((new ≡ old) × not_given) ⊎ (new.ended ≡ Some fault.Memory))

-- Of the opening, where the new segment has this number: `Disk` only where the count has risen, and with any other
-- answer it is as it was; `NumberLimit` exactly where the number is 2^62, and the disk is then as it was.
abbrev pub HasRefusalCause : {D : Type 0} → Ghosts D → D → ℕ → D → WriteFault → Type 0
HasRefusalCause g disk number left Disk = Rose (g.faults disk) (g.faults left) × (number < NUMBER_LIMIT)
HasRefusalCause g disk number left (Broken at_opening count) = ⊥
HasRefusalCause g disk number left (NumberLimit limit) =
    (g.faults left ≡ g.faults disk) × (limit ≡ NUMBER_LIMIT) × (number ≡ limit) × (left ≡ disk)
HasRefusalCause g disk number left Memory = (g.faults left ≡ g.faults disk) × (number < NUMBER_LIMIT)

abbrev pub HasOpeningCause : {D : Type 0} → Ghosts D → D → ℕ → Result (WriterView D) (Refused D) → Type 0
HasOpeningCause g disk number (Ok w) = (g.faults w.disk ≡ g.faults disk) × (number < NUMBER_LIMIT)
HasOpeningCause g disk number (Err e) = HasRefusalCause g disk number e.disk e.fault

-- a fault of the disk, as the writer tells it
abbrev pub of_fault : Fault → WriteFault
of_fault fault.Failed = Disk
of_fault fault.Memory = Memory

-- ---- what a crash leaves

-- The log, up to a record that isn't before the LSN synced.
abbrev pub SpellsFrom : ℕ → Log → Image → Type 0
SpellsFrom synced log c = (n : ℕ) × (synced ≤ n) × (n < next_lsn log) × Spells (entries c) (log_up_to n log)

-- All open files of the image are segments that follow each other from LSN 1 on, and their records are these.
pub record HoldsAll (image : FileList) (records : List Record) : Type 0 where
  pub rising : IsTrue (is_sorted nat_cmp image)
  pub segments : List WholeSegment
  pub each : AllZip IsSegment (open_files image) segments
  pub follow : IsTrue (follow_from 1 segments)
  pub shown : all_records segments ≡ records

-- and its files are in order, with at most so many half-made ones
pub record HoldsOnly (most : ℕ) (image : FileList) (records : List Record) : Type 0 where
  pub all : HoldsAll image records
  pub order : IsInOrder most (length records + 1) image all.segments

-- these records, and where the store was fresh its files are in order, with at most so many half-made ones
abbrev pub HoldsLog : Type 0 → ℕ → FileList → List Record → Type 0
HoldsLog fresh most image records = HoldsAll image records × (fresh → HoldsOnly most image records)

-- The log, up to a record that isn't before the LSN synced; the first record has the LSN 1. Where
-- the store was fresh its files are in order, and at most one is half-made.
abbrev pub HoldsFrom : Type 0 → ℕ → Log → Image → Type 0
HoldsFrom fresh synced log c = (n : ℕ) × (synced ≤ n) × (n < next_lsn log)
    × HoldsLog fresh 1 (entries c) (take n log.records)

-- Where the writer was well opened and its log is placed, each image has this.
abbrev pub OfPlacedLog : {D : Type 0} → Ghosts D → WriterView D → (Log → Type 0) → Type 0
OfPlacedLog g w P = LeavesAlike g w.opened → (log : Log) → IsLog g w log → IsPlaced log → P log

-- What a crash since the start leaves of the log. Each image spells it up to a record that isn't before the last one
-- durable at the start. Where the log was empty at the opening, all open files are its segments, from LSN 1 on; where
-- there was no file then, its files are in order, and at most the newest is half-made.
pub record LeavesLog {D : Type 0} (g : Ghosts D) (old new : WriterView D) : Type 0 where
  pub images : IsTrue (g.tells old.disk)
      → OfPlacedLog g new (λ log. Within g old.disk new.disk (SpellsFrom old.synced log))
  pub whole : IsTrue (g.tells old.disk) → OfPlacedLog g new (λ log. WasEmpty g new.opened
      → Within g old.disk new.disk (HoldsFrom (LeftNoFile g new.opened) old.synced log))

-- the same, as it is shown
abbrev pub LeavesShown : {D : Type 0} → Ghosts D → WriterView D → WriterView D → Type 0
LeavesShown g old new = IsTrue (g.tells old.disk) → OfPlacedLog g new (λ log.
    Within g old.disk new.disk
    (λ c. ShowsFrom (WasEmpty g new.opened) (LeftNoFile g new.opened) old.synced log (entries c)))

-- What stands once a group was written. Each image that a crash leaves spells the log up to the last durable record,
-- by the same files with the same first LSNs, and has the newest file as it is read. The newest open files are the
-- writer's segments, chunk by chunk; a file whose removal is pending stands below one that is there. Where the log was
-- empty at the opening its files are the log's, and where there was no file then, none is half-made.
pub record IsDurable {D : Type 0} (g : Ghosts D) (old new : WriterView D) : Type 0 where
  pub spelled : IsTrue (g.tells old.disk) → OfPlacedLog g new (λ log.
      (c : Image) → g.may_leave new.disk c → Spells (entries c) (log_up_to new.synced log))
  pub alike : IsTrue (g.tells old.disk) → OfPlacedLog g new (λ log. LeavesAlike g new.disk)
  pub segments : IsTrue (g.tells old.disk) → OfPlacedLog g new (λ log.
      HasSegments (entries (g.reads new.disk)) new.segments)
  pub newest : IsTrue (g.tells old.disk) → IsSynced g new.disk (number_of_newest new.segments)
  pub pending : IsTrue (g.tells old.disk) → RemovesBelow g new.disk
  pub whole : IsTrue (g.tells old.disk) → OfPlacedLog g new (λ log. WasEmpty g new.opened
      → (c : Image) → g.may_leave new.disk c
      → HoldsLog (LeftNoFile g new.opened) 0 (entries c) (take new.synced log.records))

-- ---- what a crash leaves of the files that were found

-- What a crash since the start leaves while a writer is opened. Each image spells what was read at the start. Where
-- this was nothing, all open files are segments without a record; where there was no file, there is at most one.
pub record LeavesFound {D : Type 0} (g : Ghosts D) (old new : D) : Type 0 where
  pub images : IsTrue (g.tells old) → LeavesAlike g old → (log : Log) → Spells (entries (g.reads old)) log
      → Within g old new (λ c. Spells (entries c) log)
  pub whole : IsTrue (g.tells old) → LeavesAlike g old → WasEmpty g old
      → Within g old new (λ c. HoldsLog (LeftNoFile g old) 1 (entries c) [])

-- What is there once it is open. The half-made files are gone, the next segment is made, and all else is read as
-- before, so the newest open files are these segments. A crash leaves the newest file as it is read, and where it would
-- have left at the start what spells alike, it does so now. A file whose removal is pending stands below one that is
-- there. Where there was no file, none is half-made.
pub record IsDurableAtOpening {D : Type 0} (g : Ghosts D) (old new : D) (half : List ℕ) (number first : ℕ)
    (segments : List Segment) : Type 0 where
  pub reads : IsTrue (g.tells old) → OpensNext half number first (g.reads old) (g.reads new)
  pub found : IsTrue (g.tells old) → HasSegments (entries (g.reads new)) segments
  pub newest : IsTrue (g.tells old) → IsSynced g new number
  pub alike : IsTrue (g.tells old) → LeavesAlike g old → LeavesAlike g new
  pub pending : IsTrue (g.tells old) → RemovesBelow g new
  pub whole : IsTrue (g.tells old) → LeavesAlike g old → WasEmpty g old
      → (c : Image) → g.may_leave new c → HoldsLog (LeftNoFile g old) 0 (entries c) []
