-- What stands behind the view of a writer.
use Rattle.std.specs.Prelude.{◌≡◌, ◌≤◌, Some}
use Rattle.frs_disk.specs.declared.disk.Disk.{Ghosts}
use Rattle.frs_disk.specs.declared.disk.Fault.TheVariants.{Failed}
use Rattle.frs_disk.specs.Disk.{Rose}
use Rattle.frs_writer.specs.declared.writer.Writer.TheInside.{Inside}
use Rattle.frs_writer.specs.Writer.{WriterView}
use Rattle.frs_writer.specs.Invariant.{IsKept}

abbrev pub view_of : {D : Type 0} → Inside D → WriterView D
view_of a = record {
  opened = a.opened.value;
  disk = a.disk;
  taker = a.taker;
  kept = a.kept;
  segments = a.segments.items;
  noted = a.noted.items;
  pins = a.pins.items;
  older = a.older.items;
  synced = a.synced;
  lowest = a.lowest;
  ended = a.ended;
}

pub record IsWriter {D : Type 0} (g : Ghosts D) (a : Inside D) : Type 0 where
  pub kept_is : IsKept g (view_of a)
  pub count : a.count_at_opening ≡ g.faults a.opened.value
  pub later : g.faults a.opened.value ≤ g.faults a.disk
  pub broken : a.ended ≡ Some Failed → Rose (g.faults a.opened.value) (g.faults a.disk)
