-- The chunks behind those that are left were read, and nothing on the disk has changed.
use Rattle.std.proofs.Common.{◌≡◌, length}
use Rattle.frs_disk.specs.Disk.{bytes_at}
use Rattle.frs_disk.specs.Frames.{OnlyReads, ReadsNoWider}
use Rattle.frs_recovery.proofs.ReadSegment.{IsReadBack}
use Rattle.frs_recovery.proofs.descent.read_segment.Given as goal

abbrev pub invariant-loop-left : goal.invariant-loop-left
invariant-loop-left g l =
    let d = g.D.Disk in
    record {
      back : IsReadBack (d.tells l.fn.disk) (bytes_at (d.reads l.fn.disk) l.segment.number) l.segment.«end» l.segment.chunks l.left l.fn.records l.records;
      frame : OnlyReads d l.fn.disk l.disk;
      width : ReadsNoWider d 1048594 l.fn.disk l.disk;
      faults : d.faults l.disk ≡ d.faults l.fn.disk;
    }

abbrev pub decreases-loop-left : goal.decreases-loop-left
decreases-loop-left g l = length l.left
