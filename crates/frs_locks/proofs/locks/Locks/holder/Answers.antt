-- The first client that hinders.
use Rattle.std.proofs.Common.{◌∙◌, ap, sym, not, ◌&&◌, ◌==◌}
use Rattle.frs_types.specs.Locks.{is_hindered_by}
use Rattle.frs_locks.proofs.SoundLocks.{least_at, none_more}
use Rattle.frs_locks.proofs.locks.Locks.holder.Goals as goal

pub returns-then-hinders : goal.returns-then-hinders
returns-then-hinders c = least_at (is_hindered_by c.args.self.now c.args.besides c.args.lock.now) c.loop-client.client _ (rw (sym c.count-client-end.ensures) c.loop-client-test.true) c.loop-client.invariant
    (sym (c.hinders.ensures ∙ ap (λ b. not (c.loop-client.client == c.args.besides) && b) (c.against-against.ensures c.loop-client.client)) ∙ c.if-hinders.true)

pub loop-client-preserved : goal.loop-client-preserved
loop-client-preserved c = none_more (is_hindered_by c.args.self.now c.args.besides c.args.lock.now) c.loop-client.client c.loop-client.invariant
    (sym (c.hinders.ensures ∙ ap (λ b. not (c.loop-client.client == c.args.besides) && b) (c.against-against.ensures c.loop-client.client)) ∙ c.if-hinders.false)
