-- Nobody holds anything.
use Rattle.std.proofs.Common.{refl, ap}
use Rattle.frs_locks.specs.Index.{is_client}
use Rattle.frs_locks.specs.declared.map_locks.TheConstants.{PLACES}
use Rattle.frs_locks.proofs.IndexAnswers.{never, empty_map}
use Rattle.frs_locks.proofs.map_locks.MapLocks.new.Goals as goal

pub returns : goal.returns
returns c = record { map = λ d. refl; key = λ k d. ap (λ o. is_client o d) (empty_map c.new.result k c.new.ensures.empty); some_key = λ d. never PLACES d }
