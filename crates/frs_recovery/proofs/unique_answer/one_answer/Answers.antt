use Rattle.frs_recovery.proofs.OneOfTwo.{one_of_two}
use Rattle.frs_recovery.proofs.IsWrongFirst.{not_both, one_fault}
use Rattle.frs_recovery.proofs.unique_answer.one_answer.Goals as goal

pub returns-clause-apart : goal.returns-clause-apart
returns-clause-apart c = not_both c.one_segment.ensures.segment c.one_segment.ensures.refused c.one_segment.ensures.fault

pub returns-clause-one : goal.returns-clause-one
returns-clause-one c = one_fault c.one_segment.ensures.segment c.one_segment.ensures.refused c.one_segment.ensures.fault

pub returns-clause-some : goal.returns-clause-some
returns-clause-some c = one_of_two c.segment_or_refused.ensures c.refusals.ensures.half_made c.refusals.ensures.disk c.refusals.ensures.memory
