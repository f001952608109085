-- What is printed of a refusal.
use Rattle.std.specs.Prelude.{ℕ, List, ◌++◌, codes, decimal}
use Rattle.frs_text.specs.declared.script_fault.ScriptFault.{ScriptFault}
use Rattle.frs_text.specs.declared.script_fault.ScriptFault.TheVariants as script
use Rattle.frs_text.specs.declared.words_fault.WordsFault.{WordsFault}
use Rattle.frs_text.specs.declared.words_fault.WordsFault.TheVariants as words

abbrev pub script_fault_text : ScriptFault → List ℕ
script_fault_text (script.BadLine line) = codes "line " ++ (decimal line ++ codes " is no command")
script_fault_text (script.TooLong line) = codes "a word of line " ++ (decimal line ++ codes " is too long")
script_fault_text (script.TooMany line) = codes "line " ++ (decimal line ++ codes " is one command too many")
script_fault_text script.Memory = codes "out of memory"

abbrev pub words_fault_text : WordsFault → List ℕ
words_fault_text (words.Usage word) = codes "word " ++ (decimal word ++ codes " has no place or is missing")
words_fault_text words.Memory = codes "out of memory"
