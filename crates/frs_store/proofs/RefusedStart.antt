-- What a refused start leaves: the disk was only read, or the next segment was refused, or the opening mark.
use Rattle.std.proofs.Common.{◌≡◌, ℕ, ◌+◌, ◌≤◌, IsTrue, List, [], ◌∷◌, ◌++◌, length, Result, Ok, Err}
use Rattle.std.proofs.Common.{sym, ap, ◌∙◌, subst, arith, length-append}
use Rattle.std.proofs.Math.Seq.{take-append_seam}
use Rattle.std.specs.Prelude.{IfErr}
use Rattle.std.specs.FinMap.{entries, get}
use Rattle.std.specs.Prelude.{IsSome}
use Rattle.frs_types.specs.declared.record.Record.{Record}
use Rattle.frs_types.specs.Records.{Log, from_lowest}
use Rattle.frs_disk.specs.declared.disk.Disk.{Ghosts}
use Rattle.frs_disk.specs.Disk.{Image, Rose}
use Rattle.frs_disk.specs.Frames.{NoneRemovedAbove, Within, OnlyReads, GoesOn}
use Rattle.frs_disk.proofs.Frames.{goes_on_join, reads_go_on}
use Rattle.frs_segment.specs.Segments.{Spells}
use Rattle.frs_segment.specs.Stores.{LeavesAlike}
use Rattle.frs_recovery.specs.declared.fault.RecoverFault.{RecoverFault}
use Rattle.frs_recovery.specs.declared.fault.RecoverFault.TheVariants as recover
use Rattle.frs_recovery.specs.declared.recovered.Recovered.{Recovered}
use Rattle.frs_recovery.specs.Faults.{IsCauseOnDisk, CountsFault}
use Rattle.frs_writer.specs.Writing.{HasRefusalCause}
use Rattle.frs_writer.specs.declared.fault.WriteFault.{WriteFault}
use Rattle.frs_writer.specs.declared.fault.WriteFault.TheVariants.{Disk, Broken, NumberLimit, Memory}
use Rattle.frs_store.specs.declared.stop.StartFault.{StartFault}
use Rattle.frs_store.specs.declared.stop.StartFault.TheVariants as start
use Rattle.frs_store.specs.declared.stop.Unopened.{Unopened}
use Rattle.frs_store.specs.declared.store.Store.{Store}
use Rattle.frs_store.specs.Session.{faults_of}
use Rattle.frs_store.specs.SessionEnd.{SpellsFront, opening_mark}
use Rattle.frs_store.specs.Start.{LeavesOpening, StartHasCause, IsUnopened, IsFoundOn, MarkHasCause, FailsAtMark}
use Rattle.frs_store.specs.Stops.{start_fault_of_recover, start_fault_of_write}

-- what spells the records spells a front of them and what follows
spells_front : (before more : List Record) (c : Image) → Spells (entries c) (from_lowest 1 before) → SpellsFront (length before) (before ++ more) c
spells_front before more c spells = (
  length before,
  (let le : length before ≤ length before = omega arith in le),
  (let both : length (before ++ more) ≡ length before + length more = length-append before more in
      let le : length before ≤ length (before ++ more) = omega (arith, both) in
      le),
  subst (λ rs. Spells (entries c) (from_lowest 1 rs)) (sym (take-append_seam before more)) spells,
)

-- a pending removal stays where it was
pub none_removed_still : {D : Type 0} (g : Ghosts D) (old new : D) → OnlyReads g old new → (IsTrue (g.tells old) → NoneRemovedAbove g old)
    → IsTrue (g.tells new) → NoneRemovedAbove g new
none_removed_still g old new looked none told n pending =
    let there = none (subst IsTrue looked.told told) n (looked.pending n pending) in
    subst (λ (files : Image). (m : ℕ) × IsSome (get files m) × (n ≤ m)) (sym looked.seen) there

-- ---- the disk was only read

module _ {D : Type 0} (g : Ghosts D) (old new : D) (looked : OnlyReads g old new) where
  read_leaves : LeavesOpening g old new
  read_leaves told ready =
      let (before, lawful, spells) = ready.sound in (
        before,
        lawful,
        spells,
        λ c left.
            let (others, by, same) = ready.alike c (looked.within c left) (from_lowest 1 before) spells.0 spells.1 in
            spells_front before (opening_mark before ∷ []) c (others, by),
      )

  pub read_unopened : (fault : StartFault) → StartHasCause g old new fault → IsUnopened g old (record { disk = new; fault = fault })
  read_unopened fault cause = record { images = read_leaves; frame = reads_go_on g old new looked; cause = cause }

  recover_cause : (fault : RecoverFault) → CountsFault (g.faults old) (g.faults new) fault
      → (IsTrue (g.tells old) → IsCauseOnDisk (entries (g.reads old)) fault) → StartHasCause g old new (start_fault_of_recover fault)
  recover_cause (recover.BadHeader segment offset) counts why = (counts, looked, tt, why)
  recover_cause (recover.BadChunk segment offset) counts why = (counts, looked, tt, why)
  recover_cause (recover.Gap expected found) counts why = (counts, looked, tt, why)
  recover_cause (recover.NumberLimit lsn) counts why = (counts, looked, tt, why)
  recover_cause recover.Disk counts why = counts.1
  recover_cause recover.Memory counts why = counts

  pub not_recovered : (fault : RecoverFault) → CountsFault (g.faults old) (g.faults new) fault
      → (IsTrue (g.tells old) → IsCauseOnDisk (entries (g.reads old)) fault)
      → IsUnopened g old (record { disk = new; fault = start_fault_of_recover fault })
  not_recovered fault counts why = read_unopened (start_fault_of_recover fault) (recover_cause fault counts why)

-- ---- the next segment was refused

module _ {D : Type 0} (g : Ghosts D)
    (earlier : (disk : D) (s t : ℕ) (c : Image) → s ≤ t → g.left_since disk t c → g.left_since disk s c)
    (old disk : D) (r : Recovered) (found : IsFoundOn g old disk r) where
  segment_leaves : (last : D) → (IsTrue (g.tells disk) → LeavesAlike g old → (log : Log) → Spells (entries (g.reads disk)) log
      → Within g old last (λ c. Spells (entries c) log)) → LeavesOpening g old last
  segment_leaves last within told ready =
      let (before, lawful, spells) = ready.sound in (
        before,
        lawful,
        spells,
        λ c left. spells_front before (opening_mark before ∷ []) c
            (within (subst IsTrue (sym found.looked.told) told) ready.alike (from_lowest 1 before)
            (subst (λ (files : Image). Spells (entries files) (from_lowest 1 before)) (sym found.looked.seen) spells) c left),
      )

  segment_cause : (last : D) (fault : WriteFault) → HasRefusalCause g disk (r.found.greatest + 1) last fault
      → StartHasCause g old last (start_fault_of_write fault)
  segment_cause last Disk cause = subst (λ n. Rose n (g.faults last)) found.faults cause.0
  segment_cause last (Broken at_opening now) cause = absurd cause
  segment_cause last (NumberLimit number) cause = (
    cause.0 ∙ found.faults,
    subst (OnlyReads g old) (sym cause.3) found.looked,
    cause.1,
    λ told. let its = found.found told in record {
      log = its.1;
      spelled = (its.0, its.2.found.spelled);
      left = omega (arith, found.below, its.2.found.next_is);
      behind = sym cause.2 ∙ ap (λ n. n + 1) its.2.found.greatest_is;
    },
  )
  segment_cause last Memory cause = cause.0 ∙ found.faults

  pub no_segment : (last : D) (fault : WriteFault) → HasRefusalCause g disk (r.found.greatest + 1) last fault → GoesOn g disk last
      → (IsTrue (g.tells disk) → LeavesAlike g old → (log : Log) → Spells (entries (g.reads disk)) log
      → Within g old last (λ c. Spells (entries c) log))
      → IsUnopened g old (record { disk = last; fault = start_fault_of_write fault })
  no_segment last fault cause frame within = record {
    images = segment_leaves last within;
    frame = goes_on_join g earlier old disk last (reads_go_on g old disk found.looked) frame;
    cause = segment_cause last fault cause;
  }

  -- ---- the opening mark was refused

  module _ (s : Store D) (begun : s.journal.start ≡ old) (faults : faults_of g s ≡ g.faults disk) (frame : GoesOn g disk s.journal.writer.disk) where
    mark_cause : (last : D) (fault : StartFault) → MarkHasCause (faults_of g s) (g.faults last) fault → StartHasCause g old last fault
    mark_cause last (start.Recover fault) cause = absurd cause
    mark_cause last (start.LogFull next) cause = absurd cause
    mark_cause last (start.NumberLimit number) cause = absurd cause
    mark_cause last start.Disk cause = subst (λ n. Rose n (g.faults last)) (faults ∙ found.faults) cause
    mark_cause last start.Memory cause = cause ∙ faults ∙ found.faults

    pub no_mark : (result : Result (Store D) (Unopened D)) → IfErr result (FailsAtMark g s) → IfErr result (IsUnopened g old)
    no_mark (Ok t) fails = tt
    no_mark (Err e) fails = record {
      images = subst (λ d. LeavesOpening g d e.disk) begun fails.images;
      frame = goes_on_join g earlier old s.journal.writer.disk e.disk
          (goes_on_join g earlier old disk s.journal.writer.disk (reads_go_on g old disk found.looked) frame) fails.frame;
      cause = mark_cause e.disk e.fault fails.cause;
    }
