use Rattle.std.proofs.Common.{◌≤◌, ◌-◌, length}
use Rattle.frs_disk.proofs.TableLemmas.{AreOthers}
use Rattle.frs_disk.proofs.table.write_file.Given as goal

abbrev pub invariant-loop-place : goal.invariant-loop-place
invariant-loop-place l = record { within : l.place ≤ length l.files.items; others : AreOthers l.files.items l.place l.number }

abbrev pub decreases-loop-place : goal.decreases-loop-place
decreases-loop-place l = length l.files.items - l.place
