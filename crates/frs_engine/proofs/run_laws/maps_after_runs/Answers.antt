use Rattle.frs_engine.proofs.MapsAfterRuns.{in_order, by_crash, at_once, at_close}
use Rattle.frs_engine.proofs.run_laws.maps_after_runs.Goals as goal

pub returns : goal.returns
returns g c = record {
  maps = in_order;
  crash = by_crash g.D.Disk;
  now = at_once g.D.Disk;
  close = at_close g.D.Disk;
}
