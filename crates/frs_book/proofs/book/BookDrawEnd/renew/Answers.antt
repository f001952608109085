-- The ledger keeps what its drawing end has drawn.
use Rattle.std.proofs.Common.{◌≡◌, sym, ap, subst, Ok, Err, Result, OnOk, OnErr, length}
use Rattle.frs_slots.specs.Views.{DrawerView, AreOfOneRing, IsTakenUp}
use Rattle.frs_book.specs.Books.{BookView}
use Rattle.frs_book.proofs.LedgerGoesOn.{with_drawer}
use Rattle.frs_book.proofs.book.BookDrawEnd.renew.Goals as goal

-- renewed or not, the records and the first LSN stay
still : {A E : Type 0} (X : Type 0) (r : Result A E) (old new : DrawerView)
    → OnOk r (new ≡ record old { ring = new.ring; known_taken = length old.drawn }) → OnErr r ((new ≡ old) × X)
    → (new.first ≡ old.first) × (new.drawn ≡ old.drawn)
still X (Ok x) old new ok err = (ap (λ (d : DrawerView). d.first) ok, ap (λ (d : DrawerView). d.drawn) ok)
still X (Err e) old new ok err = (ap (λ (d : DrawerView). d.first) err.0, ap (λ (d : DrawerView). d.drawn) err.0)

pub renew-requires-clause-one_ring : goal.renew-requires-clause-one_ring
renew-requires-clause-one_ring c = subst (λ (b : BookView). AreOfOneRing b.drawer c.args.taker.now) (sym c.self.view_is) c.requires.one_ring

pub renew-requires-clause-taken_up : goal.renew-requires-clause-taken_up
renew-requires-clause-taken_up c = subst (λ (b : BookView). IsTakenUp b.drawer c.args.taker.now) (sym c.self.view_is) c.requires.taken_up

pub invariant_of-self : goal.invariant_of-self
invariant_of-self c =
    let same = still _ c.renew.result c.self.inside.ledger.drawer c.renew.new.self c.renew.ensures.drawer c.renew.ensures.refused in
    (c.self.invariant.0, with_drawer c.self.inside.ledger c.self.invariant.1 c.renew.new.self same.0 same.1)

pub returns-clause-drawer : goal.returns-clause-drawer
returns-clause-drawer c =
    subst (λ (b : BookView). OnOk c.renew.result (c.renew.new.self ≡ record b.drawer { ring = c.renew.new.self.ring; known_taken = length b.drawer.drawn }))
    c.self.view_is c.renew.ensures.drawer

pub returns-clause-refused : goal.returns-clause-refused
returns-clause-refused c =
    subst (λ (b : BookView). OnErr c.renew.result ((c.renew.new.self ≡ b.drawer) × (c.renew.new.taker ≡ c.args.taker.now)))
    c.self.view_is c.renew.ensures.refused

pub returns-clause-others : goal.returns-clause-others
returns-clause-others c = record {
  session = ap (λ (b : BookView). b.session) c.self.view_is;
  state = ap (λ (b : BookView). b.state) c.self.view_is;
  acks = ap (λ (b : BookView). b.acks) c.self.view_is;
  before = ap (λ (b : BookView). b.before) c.self.view_is;
}
