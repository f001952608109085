use Rattle.std.proofs.Common.{subst}
use Rattle.frs_store.specs.Journal.{IsJournal}
use Rattle.frs_store.proofs.journal.Journal.into_disk.Goals as goal

pub returns-clause-journal : goal.returns-clause-journal
returns-clause-journal g c = subst (IsJournal g.D.Disk) c.self.view_is c.self.invariant
