-- What an edit makes of a row.
use Rattle.std.specs.Prelude.{ℕ, List, [], ◌∷◌, ◌++◌, slice_set}
use Rattle.frs_rows.specs.declared.steps.Edit.{Edit}
use Rattle.frs_rows.specs.declared.steps.Edit.TheVariants.{Keep, Set, Append, Replace}

abbrev pub row_after : Edit → List ℕ → List ℕ
row_after Keep row = row
row_after (Set at number) row = slice_set row at number
row_after (Append number) row = row ++ number ∷ []
row_after (Replace numbers) row = numbers.now
