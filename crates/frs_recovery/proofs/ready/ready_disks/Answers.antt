use Rattle.frs_disk.proofs.Frames.{removed_below}
use Rattle.frs_recovery.proofs.ReadyDisks.{restarted_is_ready, no_file_is_ready, image_is_sound, image_spells, looked_at_is_ready}
use Rattle.frs_recovery.proofs.ready.ready_disks.Goals as goal

pub returns : goal.returns
returns g c = record {
  restarted = restarted_is_ready g.D.Disk;
  no_file = no_file_is_ready g.D.Disk;
  looked_at = looked_at_is_ready g.D.Disk;
  sound = image_is_sound g.D.Disk;
  spelled = image_spells g.D.Disk;
  pending = λ disk ready. removed_below g.D.Disk disk ready.removed;
}
