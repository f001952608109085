use Rattle.std.proofs.Common.{◌≡◌, replicate}
use Rattle.frs_types.specs.Locks.{nobody}
use Rattle.frs_locks.proofs.locks.Locks.new.Given as goal

abbrev pub invariant-loop : goal.invariant-loop
invariant-loop l = l.held.items ≡ replicate l.counter nobody
