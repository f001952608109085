-- One answer more.
use Rattle.frs_locks.proofs.Rounds.{one_more_no}
use Rattle.frs_locks.proofs.round.none_leading.Goals as goal

pub loop-preserved : goal.loop-preserved
loop-preserved c = one_more_no c.loop.counter c.loop.none.items _ c.loop.invariant c.in_ok-push.ensures.items
