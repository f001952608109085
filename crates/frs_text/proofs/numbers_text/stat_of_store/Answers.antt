use Rattle.frs_text.proofs.StatOf.{numbers_of_log}
use Rattle.frs_text.proofs.numbers_text.stat_of_store.Goals as goal

pub returns : goal.returns
returns c = numbers_of_log
