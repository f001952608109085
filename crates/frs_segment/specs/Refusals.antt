-- What is printed of a refusal.
use Rattle.std.specs.Prelude.{ℕ, List, ◌++◌, codes, decimal}
use Rattle.frs_segment.specs.declared.fault.ScanFault.{ScanFault}
use Rattle.frs_segment.specs.declared.fault.ScanFault.TheVariants.{HalfMade, BadHeader, BadChunk, NumberLimit, Disk, Memory}

abbrev pub scan_fault_text : ScanFault → List ℕ
scan_fault_text HalfMade = codes "the file was never finished"
scan_fault_text (BadHeader offset) = codes "the header is wrong at offset " ++ decimal offset
scan_fault_text (BadChunk offset) = codes "there is no chunk behind the gate at offset " ++ decimal offset
scan_fault_text (NumberLimit lsn) = codes "the LSN " ++ (decimal lsn ++ codes " is too large")
scan_fault_text Disk = codes "the disk has failed"
scan_fault_text Memory = codes "out of memory"
