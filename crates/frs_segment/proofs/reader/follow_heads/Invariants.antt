-- The walk has come to a gate, and nothing on the disk has changed.
use Rattle.std.proofs.Common.{◌≡◌, ◌-◌, IsTrue}
use Rattle.frs_disk.specs.Disk.{bytes_at}
use Rattle.frs_disk.specs.Frames.{OnlyReads, ReadsNoWider}
use Rattle.frs_segment.proofs.FollowHeads.{LeadsTo, HasWalked}
use Rattle.frs_segment.proofs.reader.follow_heads.Given as goal

abbrev pub invariant-loop-walk : goal.invariant-loop-walk
invariant-loop-walk g l =
    let d = g.D.Disk in
    record {
      leads : LeadsTo l.fn.number l.walk;
      told : IsTrue (d.tells l.fn.disk) → HasWalked (l.fn.number, bytes_at (d.reads l.fn.disk) l.fn.number) l.walk;
      frame : OnlyReads d l.fn.disk l.disk;
      width : ReadsNoWider d 23 l.fn.disk l.disk;
      faults : d.faults l.disk ≡ d.faults l.fn.disk;
    }

abbrev pub decreases-loop-walk : goal.decreases-loop-walk
decreases-loop-walk g l = l.walk.file_length - l.walk.gate
