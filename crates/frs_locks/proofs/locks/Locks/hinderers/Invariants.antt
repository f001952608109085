use Rattle.std.proofs.Common.{◌≡◌}
use Rattle.std.specs.Prelude.{filter}
use Rattle.std.specs.List.{range_with_len}
use Rattle.frs_types.specs.Locks.{is_hindered_by}
use Rattle.frs_locks.proofs.locks.Locks.hinderers.Given as goal

abbrev pub invariant-loop-other : goal.invariant-loop-other
invariant-loop-other l = l.found.items ≡ filter (is_hindered_by l.self l.client l.lock) (range_with_len 0 l.other)
