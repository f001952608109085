use Rattle.frs_segment.proofs.FillBody.{Stand}
use Rattle.frs_segment.proofs.records.records_of.Given as goal

abbrev pub invariant-loop-i : goal.invariant-loop-i
invariant-loop-i l = Stand l.place l.body l.records.items l.i l.rest
