-- The taker stays on its ring.
use Rattle.std.proofs.Common.{◌≡◌}
use Rattle.frs_slots.proofs.thread_tests.take_all.Given as goal

abbrev pub invariant-loop-number : goal.invariant-loop-number
invariant-loop-number g l = (l.taker.ring ≡ l.initial.taker.ring) × (l.taker.first ≡ 1)
