-- Which bytes are a word.
use Rattle.std.specs.Prelude.{ℕ, nat_lt, List, length, Option, Some, None, if◌then◌else◌}
use Rattle.frs_types.specs.declared.word.WordFault.{WordFault}
use Rattle.frs_types.specs.declared.word.WordFault.TheVariants.{TooLong, Empty}

-- what is wrong with bytes of which there may be so many, at least and at most
abbrev pub word_fault : ℕ → ℕ → List ℕ → Option WordFault
word_fault least most bytes =
    if nat_lt most (length bytes) then Some (TooLong (length bytes)) else
    (if nat_lt (length bytes) least then Some Empty else None)
