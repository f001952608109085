use Rattle.frs_store.proofs.ContinuedLog.{goes_on}
use Rattle.frs_store.proofs.session_end.continued_log.Goals as goal

pub returns : goal.returns
returns c = goes_on
