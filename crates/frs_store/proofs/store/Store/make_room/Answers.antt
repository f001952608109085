use Rattle.frs_store.proofs.StoreGoesOn.{renewed_session}
use Rattle.frs_store.proofs.store.Store.make_room.Goals as goal

pub returns-clause-session : goal.returns-clause-session
returns-clause-session g c =
    let s = c.sync_all.new.self in
    renewed_session g.D.Disk s c.renew.new.self c.renew.new.end c.in_ok-renew.ensures.drawer c.in_ok-renew.ensures.same c.renew.ensures.others c.sync_all.ensures.session c.in_ok-renew.ensures.one_ring
