-- How a run or a job ends, as a number.
use Rattle.std.specs.Prelude.{ℕ, Bool, ◌||◌, ◌==◌, Result, Ok, Err}
use Rattle.frs_disk.specs.declared.disk.Fault.{Fault}
use Rattle.frs_disk.specs.declared.disk.Fault.TheVariants as faults
use Rattle.frs_engine.specs.declared.status.Status.{Status}
use Rattle.frs_engine.specs.declared.status.Status.TheVariants as status

abbrev pub code_of : Status → ℕ
code_of status.Done = 0
code_of status.WrongWords = 1
code_of status.WrongLine = 2
code_of status.DiskStop = 3
code_of status.WrongStore = 4
code_of status.UnreadFile = 5
code_of status.SinkStop = 6
code_of status.Limit = 8
code_of status.MemoryStop = 9
code_of status.Later = 10

-- where all was done but the text, the sink stopped it
abbrev pub status_unprinted : Status → Status
status_unprinted status.Done = status.SinkStop
status_unprinted other = other

-- The status at the end: the one that was decided, unless the sink failed where all else was done, or memory ran out
-- while the text was printed.
abbrev pub status_after : {V : Type 0} → Status → Result V Fault → Status
status_after decided (Ok v) = decided
status_after decided (Err faults.Failed) = status_unprinted decided
status_after decided (Err faults.Memory) = status.MemoryStop

-- The statuses of a run: all was done; a line of a script is refused; the disk failed; the store is refused; a file
-- wasn't read; the sink failed; a limit was met; memory ran out; not yet.
abbrev pub is_status : ℕ → Bool
is_status n = (n == 0) || (n == 2) || (n == 3) || (n == 4) || (n == 5) || (n == 6) || (n == 8) || (n == 9) || (n == 10)

-- Those of a job: all was done; the disk failed; a refusal; the sink failed; a limit; memory ran out; not yet.
abbrev pub is_plain_status : ℕ → Bool
is_plain_status n = (n == 0) || (n == 3) || (n == 4) || (n == 6) || (n == 8) || (n == 9) || (n == 10)
