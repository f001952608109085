use Rattle.frs_store.proofs.StartLaws.{begins_with}
use Rattle.frs_store.proofs.start_laws.begun_maps.Goals as goal

pub returns : goal.returns
returns c = begins_with c.one_log.ensures.log
