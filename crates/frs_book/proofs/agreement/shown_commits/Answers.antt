use Rattle.frs_book.proofs.HistoryRuns.{session_is_shown}
use Rattle.frs_book.proofs.agreement.shown_commits.Goals as goal

pub returns : goal.returns
returns c = session_is_shown
