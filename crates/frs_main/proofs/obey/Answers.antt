use Rattle.std.proofs.Common.{subst}
use Rattle.frs_main.proofs.Words.{JobHasWork, PlanHasWork, has_work}
use Rattle.frs_main.proofs.obey.Goals as goal

pub carry_out-requires-after_bounds : goal.carry_out-requires-after_bounds
carry_out-requires-after_bounds g c κs within run is =
    subst JobHasWork is (subst PlanHasWork (c.in_ok-read_words-in_default.ensures {u = tt}) (has_work c.as_slice.result.now))
