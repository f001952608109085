use Rattle.frs_book.proofs.BookGoesOn.{next_is_drawn}
use Rattle.frs_book.proofs.OneMoreEvent.{acks_with_mark}
use Rattle.frs_book.proofs.AskedByEvents.{owed_now, due_now}
use Rattle.frs_book.proofs.asked.asked_by_events.Goals as goal

pub returns-clause-next : goal.returns-clause-next
returns-clause-next c = next_is_drawn

pub returns-clause-owed : goal.returns-clause-owed
returns-clause-owed c = owed_now

pub returns-clause-due : goal.returns-clause-due
returns-clause-due c old new e a is on answered asks = due_now old new e is on a answered asks

pub returns-clause-closed : goal.returns-clause-closed
returns-clause-closed c = acks_with_mark
