use Rattle.std.proofs.Common.{All}
use Rattle.frs_disk.specs.Disk.{IsNumber}
use Rattle.frs_main.proofs.folder.Folder.listed.Given as goal

abbrev pub invariant-loop-entry : goal.invariant-loop-entry
invariant-loop-entry l = All IsNumber l.numbers.items
