-- The ledger keeps its drawing end.
use Rattle.std.proofs.Common.{◌∙◌, sym, ap, subst}
use Rattle.frs_slots.specs.Views.{DrawerView, AreOfOneRing}
use Rattle.frs_book.specs.Books.{BookView}
use Rattle.frs_book.proofs.LedgerGoesOn.{with_drawer}
use Rattle.frs_book.proofs.book.BookDrawEnd.beside.Goals as goal

pub beside-requires : goal.beside-requires
beside-requires c = subst (λ (b : BookView). AreOfOneRing b.drawer c.args.taker.now) (sym c.self.view_is) c.requires

pub invariant_of-self : goal.invariant_of-self
invariant_of-self c = (
  c.self.invariant.0,
  with_drawer c.self.inside.ledger c.self.invariant.1 c.beside.new.self (ap (λ (d : DrawerView). d.first) c.beside.ensures.drawer)
      (ap (λ (d : DrawerView). d.drawn) c.beside.ensures.drawer),
)

pub returns-clause-drawer : goal.returns-clause-drawer
returns-clause-drawer c = c.beside.ensures.drawer ∙ ap (λ (b : BookView). b.drawer) c.self.view_is

pub returns-clause-others : goal.returns-clause-others
returns-clause-others c = record {
  session = ap (λ (b : BookView). b.session) c.self.view_is;
  state = ap (λ (b : BookView). b.state) c.self.view_is;
  acks = ap (λ (b : BookView). b.acks) c.self.view_is;
  before = ap (λ (b : BookView). b.before) c.self.view_is;
}
