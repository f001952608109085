use Rattle.std.proofs.Common.{◌≡◌, length}
use Rattle.frs_disk.specs.MemOutside.{file_named}
use Rattle.frs_disk.proofs.mem_outside.files.find_named.Given as goal

abbrev pub invariant-loop-rest : goal.invariant-loop-rest
invariant-loop-rest l = file_named l.rest l.name ≡ file_named l.files l.name

abbrev pub decreases-loop-rest : goal.decreases-loop-rest
decreases-loop-rest l = length l.rest
