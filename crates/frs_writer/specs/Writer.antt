-- How the writer of a log is seen, what its log is, and what one call of `write_group` does.
use Rattle.std.specs.Prelude.{◌≡◌, ℕ, List, [], ◌++◌, map, Option}
use Rattle.std.specs.FinMap.{entries}
use Rattle.frs_types.specs.declared.record.Record.{Record}
use Rattle.frs_types.specs.Records.{Log}
use Rattle.frs_disk.specs.declared.disk.Disk.{Ghosts}
use Rattle.frs_disk.specs.declared.disk.Fault.{Fault}
use Rattle.frs_frame.specs.Spelling.{spelling}
use Rattle.frs_segment.specs.declared.layout.Segment.{Segment}
use Rattle.frs_segment.specs.Segments.{Spells}
use Rattle.frs_slots.specs.Views.{TakerView}

pub record WriterView (D : Type 0) : Type 0 where
  pub opened : D  -- the disk as it was at the opening
  pub disk : D
  pub taker : TakerView
  pub kept : Option (List ℕ)  -- the record that was taken last, where it waits for the next chunk
  pub segments : List Segment
  pub noted : List ℕ  -- for each client the LSN that was noted as durable
  pub pins : List (Option ℕ)  -- for each client the LSN up to which it needs the log, if it has said one
  pub older : List ℕ  -- the files below the segments that the log needs, which may be dropped
  pub synced : ℕ
  pub lowest : ℕ  -- the lowest LSN that the last durable record names
  pub ended : Option Fault  -- what has cut a write short

-- ---- the log

-- What the disk spelled at the opening, and then the records that were taken.
pub record IsLog {D : Type 0} (g : Ghosts D) (w : WriterView D) (log : Log) : Type 0 where
  pub base : Log
  pub spelled : Spells (entries (g.reads w.opened)) base
  pub taken : List Record
  pub bytes : w.taker.taken ≡ map spelling taken
  pub is : log ≡ record base { records = base.records ++ taken }

-- the log was empty at the opening
abbrev pub WasEmpty : {D : Type 0} → Ghosts D → D → Type 0
WasEmpty g opened = Spells (entries (g.reads opened)) (record { first = 1; records = [] })
