-- What a failed call on the disk means to who reads a segment.
use Rattle.std.specs.Prelude.{◌≡◌, ℕ, ◌≤◌, Result, Ok, Err}
use Rattle.frs_disk.specs.declared.disk.Fault.{Fault}
use Rattle.frs_disk.specs.declared.disk.Fault.TheVariants as disk
use Rattle.frs_disk.specs.Disk.{Rose}
use Rattle.frs_segment.specs.declared.fault.ScanFault.{ScanFault}
use Rattle.frs_segment.specs.declared.fault.ScanFault.TheVariants.{HalfMade, BadHeader, BadChunk, NumberLimit, Disk, Memory}

abbrev pub scan_fault_of : Fault → ScanFault
scan_fault_of disk.Failed = Disk
scan_fault_of disk.Memory = Memory

-- `Disk` is told only where the count of faults has risen, and with any other answer it is as it was
abbrev pub HasScanCause : {X : Type 0} → ℕ → ℕ → Result X ScanFault → Type 0
HasScanCause before now (Ok x) = now ≡ before
HasScanCause before now (Err HalfMade) = now ≡ before
HasScanCause before now (Err (BadHeader offset)) = now ≡ before
HasScanCause before now (Err (BadChunk offset)) = now ≡ before
HasScanCause before now (Err (NumberLimit lsn)) = now ≡ before
HasScanCause before now (Err Disk) = (before ≤ now) × Rose before now
HasScanCause before now (Err Memory) = now ≡ before

-- What a call has answered, seen by view, is what was meant, unless the disk or memory has failed.
abbrev pub GivesScanned : {X Y : Type 0} → (X → Y) → Result X ScanFault → Result Y ScanFault → Type 0
GivesScanned view (Ok x) meant = meant ≡ Ok (view x)
GivesScanned view (Err HalfMade) meant = meant ≡ Err HalfMade
GivesScanned view (Err (BadHeader offset)) meant = meant ≡ Err (BadHeader offset)
GivesScanned view (Err (BadChunk offset)) meant = meant ≡ Err (BadChunk offset)
GivesScanned view (Err (NumberLimit lsn)) meant = meant ≡ Err (NumberLimit lsn)
GivesScanned view (Err Disk) meant = Unit {0}
GivesScanned view (Err Memory) meant = Unit {0}

-- the fault is of what was read, and neither the disk's nor memory's
abbrev pub IsOfText : ScanFault → Type 0
IsOfText Disk = ⊥
IsOfText Memory = ⊥
IsOfText fault = Unit {0}
