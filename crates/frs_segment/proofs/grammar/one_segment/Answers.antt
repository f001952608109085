use Rattle.frs_segment.proofs.OneSegment.{one_segment, not_both, one_fault}
use Rattle.frs_segment.proofs.grammar.one_segment.Goals as goal

pub returns-clause-segment : goal.returns-clause-segment
returns-clause-segment c = one_segment

pub returns-clause-refused : goal.returns-clause-refused
returns-clause-refused c = not_both

pub returns-clause-fault : goal.returns-clause-fault
returns-clause-fault c = one_fault
