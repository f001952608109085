use Rattle.std.proofs.Common.{◌≡◌, []}
use Rattle.std.specs.Prelude.{filter}
use Rattle.std.specs.List.{range_with_len}
use Rattle.frs_types.specs.Locks.{is_hindered_by}
use Rattle.frs_locks.proofs.locks.Locks.holder.Given as goal

abbrev pub invariant-loop-client : goal.invariant-loop-client
invariant-loop-client l = filter (is_hindered_by l.self l.besides l.lock) (range_with_len 0 l.client) ≡ []
