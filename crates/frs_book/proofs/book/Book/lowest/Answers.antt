-- The ledger's.
use Rattle.std.proofs.Common.{◌∙◌, ap}
use Rattle.frs_types.specs.Lawful.{lowest}
use Rattle.frs_book.specs.Books.{BookView}
use Rattle.frs_book.specs.Drawn.{drawing_of}
use Rattle.frs_book.proofs.book.Book.lowest.Goals as goal

pub returns : goal.returns
returns c = c.lowest.ensures ∙ ap (λ (b : BookView). lowest (drawing_of b.session).log) c.self.view_is
