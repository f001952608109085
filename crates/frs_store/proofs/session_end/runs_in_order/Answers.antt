use Rattle.frs_store.proofs.RunsInOrder.{in_order, recovers_to_one}
use Rattle.frs_store.proofs.session_end.runs_in_order.Goals as goal

pub returns : goal.returns
returns c = record { maps = in_order; one = recovers_to_one }
