use Rattle.std.proofs.Common.{◌≡◌, length}
use Rattle.std.specs.Prelude.{max, map}
use Rattle.std.specs.List.{fold}
use Rattle.frs_disk.specs.Outside.{greatest_of}
use Rattle.frs_disk.proofs.mem_outside.shelf.greatest_in.Given as goal

abbrev pub invariant-loop-rest : goal.invariant-loop-rest
invariant-loop-rest l = fold max l.greatest (map (λ e. e.0) l.rest) ≡ greatest_of (map (λ e. e.0) l.held)

abbrev pub decreases-loop-rest : goal.decreases-loop-rest
decreases-loop-rest l = length l.rest
