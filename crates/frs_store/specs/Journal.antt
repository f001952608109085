-- The writer of a session's log, and what a crash has left of that log since the session's start.
use Rattle.std.specs.Prelude.{◌≡◌, ◌≢◌, ◌⊎◌, ℕ, ◌+◌, ◌<◌, ◌≤◌, length, None, IsTrue}
use Rattle.std.specs.Option.{option_to_list}
use Rattle.std.specs.FinMap.{entries}
use Rattle.frs_types.specs.Records.{Log, IsPlaced, next_lsn}
use Rattle.frs_disk.specs.declared.disk.Disk.{Ghosts}
use Rattle.frs_disk.specs.Disk.{Image}
use Rattle.frs_disk.specs.Frames.{Within, OnlyReads, GoesOn}
use Rattle.frs_segment.specs.Segments.{Spells}
use Rattle.frs_segment.specs.Stores.{LeavesAlike}
use Rattle.frs_slots.specs.Views.{next_taken}
use Rattle.frs_writer.specs.Places.{number_of_newest}
use Rattle.frs_writer.specs.Writer.{WriterView, IsLog}
use Rattle.frs_writer.specs.Writing.{SpellsFrom}

pub record JournalView (D : Type 0) : Type 0 where
  pub start : D  -- the disk as it was at the start
  pub durable : ℕ  -- the last LSN that was durable then
  pub number : ℕ  -- the number of the segment that was made at the opening
  pub writer : WriterView D

-- Where the disk tells what it holds, and at the start each crash would have left what is read, the placed log has this.
abbrev pub OfKnownLog : {D : Type 0} → Ghosts D → JournalView D → (Log → Type 0) → Type 0
OfKnownLog g j P = IsTrue (g.tells j.start) → LeavesAlike g j.start → (log : Log) → IsLog g j.writer log → IsPlaced log
    → P log

-- Between the start and the opening of the writer the disk was only read. Each crash since the start leaves the log up
-- to a record that isn't before the last one that was durable then, and a crash now up to one that isn't before the
-- last one that is durable now. While nothing was cut short each record that was taken is durable or kept, and no more
-- segments were made than records became durable.
pub record IsJournal {D : Type 0} (g : Ghosts D) (j : JournalView D) : Type 0 where
  pub looked : OnlyReads g j.start j.writer.opened
  pub frame : GoesOn g j.start j.writer.disk
  pub least : j.durable ≤ j.writer.synced
  pub first : j.writer.taker.first ≡ j.durable + 1
  pub begins : IsTrue (g.tells j.start) → (base : Log) → Spells (entries (g.reads j.writer.opened)) base
      → next_lsn base ≡ j.durable + 1
  pub counted : j.writer.ended ≡ None
      → next_taken j.writer.taker ≡ j.writer.synced + 1 + length (option_to_list j.writer.kept)
  pub numbers : j.writer.ended ≡ None
      → number_of_newest j.writer.segments + j.durable ≤ j.number + j.writer.synced
  pub since : OfKnownLog g j (λ log. Within g j.start j.writer.disk (SpellsFrom j.durable log))
  pub now : OfKnownLog g j (λ log. (c : Image) → g.may_leave j.writer.disk c → SpellsFrom j.writer.synced log c)

-- there is something to write: a record was kept, or one is known that wasn't taken
abbrev pub HasMore : {D : Type 0} → WriterView D → Type 0
HasMore w = (w.kept ≢ None) ⊎ (length w.taker.taken < w.taker.known)
