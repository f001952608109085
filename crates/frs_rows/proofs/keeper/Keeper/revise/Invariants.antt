use Rattle.frs_rows.specs.Edits.{row_after}
use Rattle.frs_rows.proofs.keeper.Keeper.revise.Given as goal

abbrev pub ghosts-revised_hold : goal.ghosts-revised_hold
ghosts-revised_hold a = record { new_row = row_after a._edit a.held.me.0.row }
