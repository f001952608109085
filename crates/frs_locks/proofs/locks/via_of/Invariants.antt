use Rattle.std.proofs.Common.{◌≡◌, None, false, slice_index_or, take}
use Rattle.std.specs.Prelude.{find}
use Rattle.frs_locks.proofs.locks.via_of.Given as goal

abbrev pub invariant-loop-client : goal.invariant-loop-client
invariant-loop-client l = find (λ d. slice_index_or l.leading d false) (take l.client-index l.clients) ≡ None
