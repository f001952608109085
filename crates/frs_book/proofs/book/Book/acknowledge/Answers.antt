-- The ledger's acknowledgement.
use Rattle.std.proofs.Common.{◌∙◌, sym, ap, subst}
use Rattle.frs_history.specs.declared.event.Ack.{Ack}
use Rattle.frs_book.specs.declared.ledger.Opening.{Opening}
use Rattle.frs_book.specs.Books.{BookView, IsDue, with_ack}
use Rattle.frs_book.proofs.book.Book.acknowledge.Goals as goal

pub acknowledge-requires-clause-due : goal.acknowledge-requires-clause-due
acknowledge-requires-clause-due c = subst (λ (b : BookView). (a : Ack) × IsDue b c.args.client a) (sym c.self.view_is) c.requires.due

pub invariant_of-self : goal.invariant_of-self
invariant_of-self c = (
  c.self.invariant.0 ∙ sym (ap (λ (o : Opening). o.scripts.value) c.acknowledge.ensures.opening),
  c.acknowledge.ensures.kept,
)

pub returns : goal.returns
returns c = λ x due.
    c.acknowledge.ensures.made x (subst (λ (b : BookView). IsDue b c.args.client x) (sym c.self.view_is) due)
    ∙ ap (λ (b : BookView). with_ack b x) c.self.view_is
