-- What is printed of a refusal.
use Rattle.std.specs.Prelude.{ℕ, List, ◌++◌, codes, decimal}
use Rattle.frs_objects.specs.declared.fault.MoveFault.{MoveFault}
use Rattle.frs_objects.specs.declared.fault.MoveFault.TheVariants.{Changed, Memory}

abbrev pub move_fault_text : MoveFault → List ℕ
move_fault_text (Changed found) = codes "the entry has LSN " ++ decimal found
move_fault_text Memory = codes "out of memory"
