-- What is printed of a refusal.
use Rattle.std.specs.Prelude.{ℕ, List, ◌++◌, codes, decimal}
use Rattle.frs_writer.specs.declared.fault.NotYet.{NotYet}
use Rattle.frs_writer.specs.declared.fault.WriteFault.{WriteFault}
use Rattle.frs_writer.specs.declared.fault.WriteFault.TheVariants.{Disk, Broken, NumberLimit, Memory}

abbrev pub write_fault_text : WriteFault → List ℕ
write_fault_text Disk = codes "the disk has failed"
write_fault_text (Broken at_opening now) = codes "the disk has failed before: "
    ++ (decimal at_opening ++ (codes " faults at the opening, " ++ (decimal now ++ codes " now")))
write_fault_text (NumberLimit number) = codes "a segment would have the number " ++ decimal number
write_fault_text Memory = codes "out of memory"

abbrev pub not_yet_text : NotYet → List ℕ
not_yet_text refused = codes "the log is durable up to " ++ decimal refused.synced
