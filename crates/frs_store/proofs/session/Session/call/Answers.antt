use Rattle.std.proofs.Common.{subst}
use Rattle.frs_store.specs.Session.{SessionView, GoesFurther, IsStopped}
use Rattle.frs_store.proofs.SessionCalls.{stopped_before, no_further}
use Rattle.frs_store.proofs.session.Session.call.Goals as goal

pub returns-in-Some : goal.returns-in-Some
returns-in-Some g c =
    let d = g.D.Disk in
    let s : SessionView _ = record { store = c.self.inside.store; stop = c.self.inside.stop } in
    record {
      answers = subst (λ (v : SessionView _). IsStopped d v v c.in-Some.stop) c.self.view_is (stopped_before d s c.self.invariant c.in-Some.stop c.in-Some.is);
      further = subst (λ (v : SessionView _). GoesFurther d c.args.client v.store v.store) c.self.view_is (no_further d s c.self.invariant c.args.client);
    }
