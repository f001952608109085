use Rattle.std.proofs.Common.{◌≡◌, ◌≤◌, List, ℕ, None, length}
use Rattle.frs_writer.specs.Groups.{HasGathered, HasGroup}
use Rattle.frs_writer.proofs.group.gather.Given as goal

-- so far these records were taken, and nothing is kept
abbrev pub invariant-loop : goal.invariant-loop
invariant-loop l = (l.kept ≡ None) × (l.counter ≤ l.limit)
    × ((group : List (List ℕ)) × HasGathered l.fn.taker l.taker l.fn.kept group × HasGroup l.chunk group × (length group ≡ l.counter))
