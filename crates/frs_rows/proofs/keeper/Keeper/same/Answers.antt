use Rattle.std.proofs.Common.{◌∙◌}
use Rattle.frs_rows.proofs.KeeperRows.{same_row}
use Rattle.frs_rows.proofs.keeper.Keeper.same.Goals as goal

pub returns-clause-keeper : goal.returns-clause-keeper
returns-clause-keeper c = c.revise.ensures.keeper ∙ same_row c.args.self.now c.args.hold.now c.revise.ensures.told.row
