-- The first of the clients that leads to the goal.
use Rattle.std.proofs.Common.{◌∙◌, sym, ap, false, None, get_or}
use Rattle.std.specs.Prelude.{find, if◌then◌else◌}
use Rattle.frs_locks.proofs.SoundLocks.{find_first, find_more}
use Rattle.frs_locks.proofs.locks.via_of.Goals as goal

pub returns-then-leads_at : goal.returns-then-leads_at
returns-then-leads_at c = find_first (λ d. get_or c.args.leading.now d false) c.args.clients.now c.loop-client.client-index 0 c.loop-client-test.true c.loop-client.invariant (sym c.leads_at-in-loop-client.ensures ∙ c.if-leads_at.true)
    ∙ ap (λ b. if b then find (λ d. get_or c.args.leading.now d false) c.args.clients.now else None) (sym (sym c.leads_at.ensures ∙ c.if-not-leads_at.false))

pub loop-client-preserved : goal.loop-client-preserved
loop-client-preserved c = find_more (λ d. get_or c.args.leading.now d false) c.args.clients.now c.loop-client.client-index 0 c.loop-client-test.true c.loop-client.invariant (sym c.leads_at-in-loop-client.ensures ∙ c.if-leads_at.false)
