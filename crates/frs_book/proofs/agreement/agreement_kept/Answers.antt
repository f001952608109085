use Rattle.frs_book.proofs.HistoryRuns.{event_keeps, mark_keeps}
use Rattle.frs_book.proofs.agreement.agreement_kept.Goals as goal

pub returns-clause-event : goal.returns-clause-event
returns-clause-event c = event_keeps

pub returns-clause-mark : goal.returns-clause-mark
returns-clause-mark c = mark_keeps
