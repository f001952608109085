use Rattle.std.proofs.Common.{◌≡◌, ◌⊎◌, ◌<◌, ◌≤◌, ℕ, None, IsSome, IsTrue, length}
use Rattle.std.specs.Prelude.{Contains, slice_index}
use Rattle.std.specs.FinMap.{get}
use Rattle.frs_disk.specs.Frames.{Within, GoesOn}
use Rattle.frs_writer.specs.Setup.{MissesSome, IsMissingSome}
use Rattle.frs_writer.proofs.setup.remove_all.Given as goal

abbrev pub invariant-loop-number : goal.invariant-loop-number
invariant-loop-number g l =
    let d = g.D.Disk in
    record {
      left : IsTrue (d.tells l.fn.disk) → (k : ℕ) → l.number-index ≤ k → k < length l.fn.numbers → IsSome (get (d.reads l.disk) (slice_index l.fn.numbers k));
      gone : IsTrue (d.tells l.fn.disk) → (k : ℕ) → k < l.number-index → get (d.reads l.disk) (slice_index l.fn.numbers k) ≡ None;
      removed : IsTrue (d.tells l.fn.disk) → MissesSome l.fn.numbers (d.reads l.fn.disk) (d.reads l.disk);
      images : Within d l.fn.disk l.disk (IsMissingSome l.fn.numbers (d.may_leave l.fn.disk));
      pending : (n : ℕ) → d.removing l.disk n → d.removing l.fn.disk n ⊎ Contains l.fn.numbers n;
      frame : GoesOn d l.fn.disk l.disk;
      faults : d.faults l.disk ≡ d.faults l.fn.disk;
    }
