use Rattle.frs_segment.proofs.IsRefused.{half_is_shut, shut_is_half, file_blames, memory_blames}
use Rattle.frs_segment.proofs.grammar.refusals.Goals as goal

pub returns-clause-half_made : goal.returns-clause-half_made
returns-clause-half_made c = half_is_shut

pub returns-clause-shut : goal.returns-clause-shut
returns-clause-shut c = shut_is_half

pub returns-clause-disk : goal.returns-clause-disk
returns-clause-disk c = file_blames

pub returns-clause-memory : goal.returns-clause-memory
returns-clause-memory c = memory_blames
