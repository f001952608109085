use Rattle.std.proofs.Common.{◌≡◌, false, take}
use Rattle.frs_locks.specs.Rounds.{does_lead}
use Rattle.frs_locks.proofs.round.leads.Given as goal

abbrev pub invariant-loop-client : goal.invariant-loop-client
invariant-loop-client l = does_lead l.goal l.leading (take l.client-index l.clients) ≡ false
