-- Until a record is taken the taken ones are as before.
use Rattle.std.proofs.Common.{◌≡◌}
use Rattle.frs_slots.proofs.thread_tests.take_one.Given as goal

abbrev pub invariant-loop : goal.invariant-loop
invariant-loop g l =
    (l.taker.ring ≡ l.initial.taker.ring) × (l.taker.first ≡ l.initial.taker.first) × (l.taker.taken ≡ l.initial.taker.taken)
