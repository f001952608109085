-- What is printed of a refusal.
use Rattle.std.specs.Prelude.{ℕ, List, ◌++◌, codes, decimal}
use Rattle.frs_types.specs.declared.memory.NoMemory.{NoMemory}
use Rattle.frs_types.specs.declared.word.WordFault.{WordFault}
use Rattle.frs_types.specs.declared.word.WordFault.TheVariants.{TooLong, Empty, Memory}

abbrev pub no_memory_text : NoMemory → List ℕ
no_memory_text refused = codes "out of memory"

abbrev pub word_fault_text : WordFault → List ℕ
word_fault_text (TooLong len) = codes "a word of " ++ (decimal len ++ codes " bytes is too long")
word_fault_text Empty = codes "the word is empty"
word_fault_text Memory = codes "out of memory"
