use Rattle.frs_text.proofs.OneHistory.{one_history}
use Rattle.frs_text.proofs.unique_history.one_history.Goals as goal

pub returns : goal.returns
returns c = one_history
