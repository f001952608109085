use Rattle.frs_segment.proofs.OneLog.{same_log, same_spelling}
use Rattle.frs_segment.proofs.grammar.one_log.Goals as goal

pub returns-clause-segments : goal.returns-clause-segments
returns-clause-segments c = same_spelling

pub returns-clause-log : goal.returns-clause-log
returns-clause-log c = same_log
