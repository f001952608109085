-- What the faults of a file mean to a recovery.
use Rattle.std.proofs.Common.{◌≡◌, ℕ, Bool, List, IsTrue, Result, Ok, Err, refl, sym, subst}
use Rattle.std.specs.Prelude.{IfErr}
use Rattle.frs_types.specs.declared.record.Record.{Record}
use Rattle.frs_disk.specs.Disk.{Image}
use Rattle.frs_segment.specs.declared.fault.ScanFault.{ScanFault}
use Rattle.frs_segment.specs.declared.fault.ScanFault.TheVariants.{HalfMade, BadHeader, BadChunk, NumberLimit, Disk, Memory}
use Rattle.frs_segment.specs.Segments.{File}
use Rattle.frs_segment.specs.Faults.{HasScanCause, GivesScanned, IsOfText}
use Rattle.frs_segment.specs.Heads.{IsRefusedByHeads, IsCauseInHeads}
use Rattle.frs_segment.specs.Scanning.{IsRefused, IsCauseInFile}
use Rattle.frs_recovery.specs.declared.fault.RecoverFault.{RecoverFault}
use Rattle.frs_recovery.specs.Faults.{CountsFault}
use Rattle.frs_recovery.specs.Descent.{file_at, IsUnreadable, IsFileFault, store_fault}

-- ---- what a scan has told

pub store_cause : (file : File) (fault : ScanFault) → (IsRefused file HalfMade → ⊥) → IsCauseInFile file fault → IsFileFault file (store_fault file.0 fault)
store_cause file HalfMade finished refused = absurd (finished refused)
store_cause file (BadHeader at) finished refused = (BadHeader at, refused, refl)
store_cause file (BadChunk at) finished refused = (BadChunk at, refused, refl)
store_cause file (NumberLimit lsn) finished refused = (NumberLimit lsn, refused, refl)
store_cause file Disk finished refused = tt
store_cause file Memory finished refused = tt

pub store_counts : (A : Type 0) (number before now : ℕ) (fault : ScanFault) → HasScanCause {X = A} before now (Err fault) → CountsFault before now (store_fault number fault)
store_counts A number before now HalfMade cause = cause
store_counts A number before now (BadHeader at) cause = cause
store_counts A number before now (BadChunk at) cause = cause
store_counts A number before now (NumberLimit lsn) cause = cause
store_counts A number before now Disk cause = cause
store_counts A number before now Memory cause = cause

pub text_counts : (number before now : ℕ) (fault : ScanFault) → IsOfText fault → now ≡ before → CountsFault before now (store_fault number fault)
text_counts number before now HalfMade of_text same = same
text_counts number before now (BadHeader at) of_text same = same
text_counts number before now (BadChunk at) of_text same = same
text_counts number before now (NumberLimit lsn) of_text same = same
text_counts number before now Disk of_text same = absurd of_text
text_counts number before now Memory of_text same = same

pub text_same : (A : Type 0) (before now : ℕ) (fault : ScanFault) → IsOfText fault → HasScanCause {X = A} before now (Err fault) → now ≡ before
text_same A before now HalfMade of_text cause = cause
text_same A before now (BadHeader at) of_text cause = cause
text_same A before now (BadChunk at) of_text cause = cause
text_same A before now (NumberLimit lsn) of_text cause = cause
text_same A before now Disk of_text cause = absurd of_text
text_same A before now Memory of_text cause = cause

-- ---- the exit of a `?`

pub err_is : {X : Type 0} (P : RecoverFault → Type 0) (r : Result X RecoverFault) (fault : RecoverFault) → r ≡ Err fault → P fault → IfErr r P
err_is {X} P r fault e is = subst (λ (x : Result X RecoverFault). IfErr x P) (sym e) is

-- ---- over the calls

-- what a call has told of a file's fault, told of the disk as it was at first
pub unread_first : (tells tells_now : Bool) (files files_now : Image) (number : ℕ) (fault : RecoverFault) → tells_now ≡ tells → files_now ≡ files → (IsTrue tells_now → IsUnreadable (file_at files_now number) → IsFileFault (file_at files_now number) fault)
    → IsTrue tells → IsUnreadable (file_at files number) → IsFileFault (file_at files number) fault
unread_first tells tells_now files files_now number fault told seen call =
    subst (λ (t : Bool). IsTrue t → IsUnreadable (file_at files number) → IsFileFault (file_at files number) fault) told
    (subst (λ (i : Image). IsTrue tells_now → IsUnreadable (file_at i number) → IsFileFault (file_at i number) fault) seen call)

-- a chunk that isn't read doesn't stand there
pub gives_none : {X : Type 0} (view : X → List Record) (fault : ScanFault) (rs : List Record) → IsOfText fault → GivesScanned view (Err fault) (Ok rs) → ⊥
gives_none view HalfMade rs of_text gives = absurd cc
gives_none view (BadHeader at) rs of_text gives = absurd cc
gives_none view (BadChunk at) rs of_text gives = absurd cc
gives_none view (NumberLimit lsn) rs of_text gives = absurd cc
gives_none view Disk rs of_text gives = of_text
gives_none view Memory rs of_text gives = of_text

-- a fault of the text that heads tell, and that isn't that the file is half-made
pub text_cause : (file : File) (fault : ScanFault) → IsOfText fault → IsCauseInHeads file fault → IsRefusedByHeads file fault
text_cause file HalfMade of_text cause = cause
text_cause file (BadHeader at) of_text cause = cause
text_cause file (BadChunk at) of_text cause = cause
text_cause file (NumberLimit lsn) of_text cause = cause
text_cause file Disk of_text cause = absurd of_text
text_cause file Memory of_text cause = absurd of_text
