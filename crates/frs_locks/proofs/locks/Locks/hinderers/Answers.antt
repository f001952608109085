-- One client more.
use Rattle.std.proofs.Common.{◌∙◌, ap, not, ◌&&◌, ◌==◌}
use Rattle.frs_types.specs.Locks.{is_hindered_by}
use Rattle.frs_locks.proofs.SoundLocks.{filter_range_more}
use Rattle.frs_locks.proofs.locks.Locks.hinderers.Goals as goal

pub loop-other-preserved : goal.loop-other-preserved
loop-other-preserved c = filter_range_more (is_hindered_by c.args.self.now c.args.client c.args.lock.now) c.loop-other.other c.loop-other.found.items _ c.hinders.result c.loop-other.invariant
    (c.hinders.ensures ∙ ap (λ b. not (c.loop-other.other == c.args.client) && b) (c.against-against.ensures c.loop-other.other)) c.in_ok-push_if.ensures
