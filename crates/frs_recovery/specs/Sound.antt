-- Sound images, the state that a recovery of them gives, and disks from which a session can go on.
use Rattle.std.specs.Prelude.{◌≡◌, List, []}
use Rattle.std.specs.FinMap.{entries}
use Rattle.frs_types.specs.declared.record.Record.{Record}
use Rattle.frs_types.specs.Records.{from_lowest}
use Rattle.frs_types.specs.Lawful.{LogState, Lawful, lowest, table_of}
use Rattle.frs_disk.specs.declared.disk.Disk.{Ghosts}
use Rattle.frs_disk.specs.Frames.{RemovesBelow}
use Rattle.frs_segment.specs.Segments.{FileList, Spells}
use Rattle.frs_segment.specs.Stores.{LeavesAlike}
use Rattle.frs_recovery.specs.declared.recovered.Recovered.{Recovered}

-- ---- images

-- There is a lawful log from LSN 1 on, on no entries, and the image spells its records from the lowest that the newest
-- of them names. Of the empty log it spells the empty log.
abbrev pub IsSound : FileList → Type 0
IsSound image = (records : List Record) × Lawful [] 1 records × Spells image (from_lowest 1 records)

-- The answer has the entries of the state, with their LSNs, and its lowest.
pub record HasState (s : LogState) (r : Recovered) : Type 0 where
  pub entries : table_of r.entries ≡ s.entries
  pub lowest : r.lowest ≡ lowest s

-- ---- disks

-- What the disk reads is sound, each crash now leaves an image that spells the same alike, and no removal is pending at
-- or above the greatest of the files that are there.
pub record IsReady {D : Type 0} (g : Ghosts D) (disk : D) : Type 0 where
  pub sound : IsSound (entries (g.reads disk))
  pub alike : LeavesAlike g disk
  pub removed : RemovesBelow g disk
