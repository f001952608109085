use Rattle.frs_disk.proofs.ShelfLemmas.{Passed}
use Rattle.frs_disk.proofs.mem_outside.shelf.place_of.Given as goal

abbrev pub invariant-loop-at : goal.invariant-loop-at
invariant-loop-at l = Passed l.held l.at (l.snapshot, l.segment)
