use Rattle.std.proofs.Common.{◌-◌, sym, subst, arith, length-set, slice_set}
use Rattle.frs_book.specs.Books.{BookView, IsDue}
use Rattle.frs_store.proofs.StoreGoesOn.{acknowledged}
use Rattle.frs_store.proofs.store.Store.acknowledge.Goals as goal

pub returns-clause-going : goal.returns-clause-going
returns-clause-going g c =
    let s = c.sync.new.self in
    let a = c.requires.due.0 in
    acknowledged g.D.Disk s c.in_ok-sync.ensures.going a (slice_set s.journal.writer.noted (c.args.client - 1) c.args.lsn)
    (length-set s.journal.writer.noted (c.args.client - 1) c.args.lsn) (omega (arith, c.requires.due.2, c.in_ok-sync.ensures.durable)) c.acknowledge.new.self c.acknowledge-2.new.self
    c.acknowledge.ensures (c.acknowledge-2.ensures a (subst (λ (b : BookView). IsDue b c.args.client a) (sym c.sync.ensures.book) c.requires.due.1))

pub returns-clause-session : goal.returns-clause-session
returns-clause-session g c = (returns-clause-going g c).session
