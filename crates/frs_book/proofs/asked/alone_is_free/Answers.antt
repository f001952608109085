use Rattle.frs_book.proofs.AskedByEvents.{alone_free}
use Rattle.frs_book.proofs.asked.alone_is_free.Goals as goal

pub returns : goal.returns
returns c = alone_free
