use Rattle.std.proofs.Common.{◌≡◌, ◌+◌, ◌-◌, arith}
use Rattle.frs_slots.specs.Views.{next_drawn}
use Rattle.frs_store.proofs.StoreGoesOn.{durable_all, taken_all}
use Rattle.frs_store.proofs.store.Store.sync_all.Goals as goal

pub returns-clause-durable : goal.returns-clause-durable
returns-clause-durable g c =
    let s = c.args.self.now in
    let last : c.next-last.result - 1 + 1 ≡ next_drawn s.book.drawer =
    omega (arith, c.next-last.ensures, c.synced-last.ensures.journal.first, c.requires.going.session.one_ring.1) in
    durable_all g.D.Disk s c.sync.new.self (c.next-last.result - 1) c.sync.result last c.sync.ensures.book c.sync.ensures.session c.sync.ensures.durable c.sync.ensures.taken

pub returns-clause-taken : goal.returns-clause-taken
returns-clause-taken g c =
    let s = c.args.self.now in
    let last : c.next-last.result - 1 + 1 ≡ next_drawn s.book.drawer =
    omega (arith, c.next-last.ensures, c.synced-last.ensures.journal.first, c.requires.going.session.one_ring.1) in
    taken_all g.D.Disk s c.sync.new.self (c.next-last.result - 1) c.sync.result last c.sync.ensures.book c.sync.ensures.session c.sync.ensures.durable c.sync.ensures.taken
