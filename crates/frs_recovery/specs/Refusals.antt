-- What is printed of a refusal.
use Rattle.std.specs.Prelude.{ℕ, List, ◌++◌, codes, decimal}
use Rattle.frs_recovery.specs.declared.fault.RecoverFault.{RecoverFault}
use Rattle.frs_recovery.specs.declared.fault.RecoverFault.TheVariants.{BadHeader, BadChunk, Gap, NumberLimit, Disk, Memory}

abbrev pub recover_fault_text : RecoverFault → List ℕ
recover_fault_text (BadHeader segment offset) =
    codes "the header of segment " ++ (decimal segment ++ (codes " is wrong at offset " ++ decimal offset))
recover_fault_text (BadChunk segment offset) =
    codes "segment " ++ (decimal segment ++ (codes " has no chunk behind the gate at offset " ++ decimal offset))
recover_fault_text (Gap expected found) =
    codes "the record " ++ (decimal expected ++ (codes " is missing, and the last before it is " ++ decimal found))
recover_fault_text (NumberLimit lsn) = codes "the LSN " ++ (decimal lsn ++ codes " is too large")
recover_fault_text Disk = codes "the disk has failed"
recover_fault_text Memory = codes "out of memory"
