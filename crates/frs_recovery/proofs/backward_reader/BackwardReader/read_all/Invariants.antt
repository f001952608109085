-- The records that were taken off the end were read.
use Rattle.std.proofs.Common.{length}
use Rattle.frs_recovery.proofs.BackwardReader.{IsPart}
use Rattle.frs_recovery.proofs.backward_reader.BackwardReader.read_all.Given as goal

abbrev pub invariant-loop-r : goal.invariant-loop-r
invariant-loop-r l = IsPart l.fn.self l.self l.first l.fn.records.items l.older.items

abbrev pub decreases-loop-r : goal.decreases-loop-r
decreases-loop-r l = length l.older.items
