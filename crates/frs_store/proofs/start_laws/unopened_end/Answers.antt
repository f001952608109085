use Rattle.frs_store.proofs.StartLaws.{unopened_recovers}
use Rattle.frs_store.proofs.start_laws.unopened_end.Goals as goal

pub returns : goal.returns
returns g c = unopened_recovers c.one_log.ensures.log g.D.Disk
