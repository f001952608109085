-- All but the files that are left were looked at, and the log goes further back.
use Rattle.std.proofs.Common.{◌≡◌, length}
use Rattle.std.specs.FinMap.{entries}
use Rattle.frs_disk.specs.Frames.{OnlyReads, ReadsNoWider}
use Rattle.frs_recovery.proofs.GoesDown.{GoesDown}
use Rattle.frs_recovery.proofs.GoDown.{files_left}
use Rattle.frs_recovery.proofs.recovery.go_down.Given as goal

abbrev pub invariant-loop-number : goal.invariant-loop-number
invariant-loop-number g l =
    let d = g.D.Disk in
    record {
      way : GoesDown (d.tells l.fn.disk) (entries (d.reads l.fn.disk)) (files_left l.numbers (d.reads l.fn.disk) (length l.yielded)) l.descent;
      frame : OnlyReads d l.fn.disk l.disk;
      width : ReadsNoWider d 1048594 l.fn.disk l.disk;
      faults : d.faults l.disk ≡ d.faults l.fn.disk;
    }
