use Rattle.std.proofs.Common.{◌≡◌, take}
use Rattle.std.specs.Prelude.{map}
use Rattle.frs_locks.specs.Rounds.{does_lead}
use Rattle.frs_locks.proofs.round.round.Given as goal

abbrev pub invariant-loop-clients : goal.invariant-loop-clients
invariant-loop-clients l = l.more.items ≡ map (does_lead l.goal l.leading) (take l.clients-index l.steps)
