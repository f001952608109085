-- The ledger's.
use Rattle.std.proofs.Common.{◌∙◌, ap}
use Rattle.frs_slots.specs.Views.{next_drawn}
use Rattle.frs_book.specs.Books.{BookView}
use Rattle.frs_book.proofs.book.Book.next.Goals as goal

pub returns : goal.returns
returns c = c.next.ensures.next ∙ ap (λ (b : BookView). next_drawn b.drawer) c.self.view_is
