-- By the entry at the place.
use Rattle.std.proofs.Common.{[], Some, None}
use Rattle.frs_objects.specs.Index.{table_in}
use Rattle.frs_objects.proofs.IsNew.{lsn_of_entry}
use Rattle.frs_objects.proofs.index.Index.lsn.Goals as goal

pub returns-in-Some : goal.returns-in-Some
returns-in-Some c a = lsn_of_entry (table_in c.args.self.now) (c.args.id.now, c.args.key.now) (Some c.in-Some.entry.now) (c.in-Some.ensures [] a)

pub returns-in-None : goal.returns-in-None
returns-in-None c a = lsn_of_entry (table_in c.args.self.now) (c.args.id.now, c.args.key.now) None (c.in-None.ensures [] a)
