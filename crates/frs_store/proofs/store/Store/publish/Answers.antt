use Rattle.std.proofs.Common.{◌+◌, ◌∙◌, ap}
use Rattle.frs_store.proofs.StoreGoesOn.{filled_last}
use Rattle.frs_store.proofs.store.Store.publish.Goals as goal

pub learn-requires : goal.learn-requires
learn-requires g c = c.fill.ensures.0 ∙ c.requires.last.0 ∙ c.requires.session.one_ring.0

pub returns-clause-going : goal.returns-clause-going
returns-clause-going g c =
    (filled_last g.D.Disk c.args.self.now c.requires.session c.fill.result.lsn c.requires.others.0 c.learn.new.self (ap (λ n. n + 1) c.fill.ensures.1 ∙ c.requires.last.1)
    c.requires.others.1 c.requires.others.2 c.learn.ensures.in_order c.learn.ensures.other).0

pub returns-clause-journal : goal.returns-clause-journal
returns-clause-journal g c =
    (filled_last g.D.Disk c.args.self.now c.requires.session c.fill.result.lsn c.requires.others.0 c.learn.new.self (ap (λ n. n + 1) c.fill.ensures.1 ∙ c.requires.last.1)
    c.requires.others.1 c.requires.others.2 c.learn.ensures.in_order c.learn.ensures.other).1
