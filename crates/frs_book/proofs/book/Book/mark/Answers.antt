-- The ledger's mark.
use Rattle.std.proofs.Common.{◌∙◌, sym, ap, subst}
use Rattle.frs_book.specs.declared.ledger.Opening.{Opening}
use Rattle.frs_book.specs.Books.{BookView, IsWhole, MarkAnswers}
use Rattle.frs_book.specs.Ledgers.{book_of}
use Rattle.frs_book.proofs.book.Book.mark.Goals as goal

pub mark-requires-clause-whole : goal.mark-requires-clause-whole
mark-requires-clause-whole c = subst (λ (b : BookView). IsWhole b) (sym c.self.view_is) c.requires.whole

pub mark-requires-clause-unmarked : goal.mark-requires-clause-unmarked
mark-requires-clause-unmarked c = ap (λ (b : BookView). b.session.closing) c.self.view_is ∙ c.requires.unmarked

pub invariant_of-self : goal.invariant_of-self
invariant_of-self c = (
  c.self.invariant.0 ∙ sym (ap (λ (o : Opening). o.scripts.value) c.mark.ensures.opening),
  c.mark.ensures.kept,
)

pub returns : goal.returns
returns c =
    subst (λ (b : BookView). MarkAnswers b c.args.framed.now c.mark.result (book_of c.mark.new.self) c.mark.new.framed) c.self.view_is c.mark.ensures.answers
