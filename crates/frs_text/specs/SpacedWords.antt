-- How the lines of the transcript are put together, word by word.
use Rattle.std.specs.Prelude.{List, ◌∷◌, flat_map}
use Rattle.frs_text.specs.Text.{Text}

-- each word with a space before it
abbrev pub spaced_words : List Text → Text
spaced_words ws = flat_map (λ w. 32 ∷ w) ws
