use Rattle.std.proofs.Common.{sym, subst}
use Rattle.frs_store.specs.Closed.{IsStoreAtEnd}
use Rattle.frs_store.specs.Session.{SessionView}
use Rattle.frs_store.proofs.SessionCloses.{kept_at_end, closed_at_end}
use Rattle.frs_store.proofs.session.close_store.Goals as goal

pub returns-in-Some : goal.returns-in-Some
returns-in-Some g c =
    kept_at_end g.D.Disk (record { store = c.args.store.now; stop = c.args.stop }) c.requires.under_way c.in-Some.stop c.in-Some.is

pub returns-in-None : goal.returns-in-None
returns-in-None g c =
    let d = g.D.Disk in
    let s : SessionView _ = record { store = c.args.store.now; stop = c.args.stop } in
    let closed = c.close.ensures in
    subst (λ stop. IsStoreAtEnd d s c.close.new.self stop) (sym c.err-stop.ensures.value)
    (closed_at_end d s c.requires.under_way c.close.new.self
    (c.asked_by_events.ensures.closed c.args.store.now.book.session c.requires.under_way.«open») c.in-None.is
    closed.session closed.same closed.state closed.acks c.synced.ensures.journal c.history.ensures.book c.close.result closed.going closed.durable closed.closed closed.refused closed.cause)
