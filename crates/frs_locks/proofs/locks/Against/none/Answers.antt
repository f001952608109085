-- Nobody is named.
use Rattle.frs_locks.proofs.IndexAnswers.{never}
use Rattle.frs_locks.proofs.locks.Against.none.Goals as goal

pub returns : goal.returns
returns c = λ d. never 65 d
