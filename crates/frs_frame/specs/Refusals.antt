-- What is printed of a refusal.
use Rattle.std.specs.Prelude.{ℕ, List, ◌++◌, codes, decimal}
use Rattle.frs_frame.specs.declared.fault.FrameFault.{FrameFault}
use Rattle.frs_frame.specs.declared.fault.FrameFault.TheVariants.{Kind, Short, Field, Memory}

abbrev pub frame_fault_text : FrameFault → List ℕ
frame_fault_text (Kind byte) = codes "no record begins with the byte " ++ decimal byte
frame_fault_text (Short need have) = decimal need ++ (codes " bytes are needed, and there are " ++ decimal have)
frame_fault_text (Field offset) =
    codes "the field at offset " ++ (decimal offset ++ codes " holds what its kind doesn't allow")
frame_fault_text Memory = codes "out of memory"
