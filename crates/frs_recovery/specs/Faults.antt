-- When a recovery is refused, and what a failed call below it means to it.
use Rattle.std.specs.Prelude.{◌≡◌, ℕ, ◌≤◌, Result, Ok, Err}
use Rattle.frs_disk.specs.declared.disk.Fault.{Fault}
use Rattle.frs_disk.specs.declared.disk.Fault.TheVariants as disk
use Rattle.frs_disk.specs.Disk.{Rose}
use Rattle.frs_segment.specs.Segments.{FileList}
use Rattle.frs_recovery.specs.declared.fault.RecoverFault.{RecoverFault}
use Rattle.frs_recovery.specs.declared.fault.RecoverFault.TheVariants.{Disk, Memory}
use Rattle.frs_recovery.specs.FirstFault.{IsWrongFirst}

abbrev pub recover_fault_of : Fault → RecoverFault
recover_fault_of disk.Failed = Disk
recover_fault_of disk.Memory = Memory

-- The fault is about the files. The two others are the disk's and memory's.
abbrev pub IsOfFiles : RecoverFault → Type 0
IsOfFiles Disk = ⊥
IsOfFiles Memory = ⊥
IsOfFiles fault = Unit {0}

-- Why a recovery was refused: this is wrong first with the files. The disk and memory are free.
abbrev pub IsCauseOnDisk : FileList → RecoverFault → Type 0
IsCauseOnDisk image Disk = Unit {0}
IsCauseOnDisk image Memory = Unit {0}
IsCauseOnDisk image fault = IsWrongFirst image fault

-- The answer is an Ok with P, unless the disk or memory has failed.
abbrev pub GivesRecovered : {X : Type 0} → (X → Type 0) → Result X RecoverFault → Type 0
GivesRecovered P (Ok x) = P x
GivesRecovered P (Err Disk) = Unit {0}
GivesRecovered P (Err Memory) = Unit {0}
GivesRecovered P (Err fault) = ⊥

-- The answer is this refusal, unless the disk or memory has failed.
abbrev pub Refuses : {X : Type 0} → RecoverFault → Result X RecoverFault → Type 0
Refuses fault (Ok x) = ⊥
Refuses fault (Err Disk) = Unit {0}
Refuses fault (Err Memory) = Unit {0}
Refuses fault (Err other) = other ≡ fault

-- the count of the disk's faults once this fault was told
abbrev pub CountsFault : ℕ → ℕ → RecoverFault → Type 0
CountsFault before now Disk = (before ≤ now) × Rose before now
CountsFault before now fault = now ≡ before

-- `Disk` is told only where the count of faults has risen, and with any other answer it is as it was
abbrev pub HasRecoverCause : {X : Type 0} → ℕ → ℕ → Result X RecoverFault → Type 0
HasRecoverCause before now (Ok x) = now ≡ before
HasRecoverCause before now (Err fault) = CountsFault before now fault
