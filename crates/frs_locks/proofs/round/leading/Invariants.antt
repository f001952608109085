use Rattle.std.proofs.Common.{◌≡◌, length}
use Rattle.std.specs.Prelude.{map}
use Rattle.std.specs.List.{range_with_len}
use Rattle.frs_types.specs.Locks.{Holders, waits_for, is_reached}
use Rattle.frs_locks.proofs.round.leading.Given as goal

abbrev pub invariant-loop : goal.invariant-loop
invariant-loop l = (hs : Holders) → l.steps ≡ map (waits_for hs) (range_with_len 0 (length hs))
    → l.leading.items ≡ map (λ d. is_reached hs l.counter d l.goal) (range_with_len 0 (length hs))
