use Rattle.std.proofs.Common.{◌≡◌}
use Rattle.std.specs.Prelude.{map}
use Rattle.std.specs.List.{range_with_len}
use Rattle.frs_types.specs.Locks.{waits_for, with_wait}
use Rattle.frs_locks.proofs.locks.Locks.steps.Given as goal

abbrev pub invariant-loop-other : goal.invariant-loop-other
invariant-loop-other l = l.steps.items ≡ map (waits_for (with_wait l.self l.client l.lock)) (range_with_len 0 l.other)
