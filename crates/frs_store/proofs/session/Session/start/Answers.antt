use Rattle.frs_store.proofs.UnderWay.{is_under_way}
use Rattle.frs_store.proofs.session.Session.start.Goals as goal

pub invariant_of-result : goal.invariant_of-result
invariant_of-result g c = is_under_way g.D.Disk c.args.disk c.args.script c.in_ok-store.store c.in_ok-store.ensures.going c.in_ok-store.ensures.opened
