-- By induction over the list.
use Rattle.frs_filters.proofs.NotesAfter.{commits_noted, names_noted, deletes_noted}
use Rattle.frs_filters.proofs.offered.notes_of_offered.Goals as goal

pub returns-clause-commits : goal.returns-clause-commits
returns-clause-commits c = commits_noted

pub returns-clause-names : goal.returns-clause-names
returns-clause-names c = names_noted

pub returns-clause-deletes : goal.returns-clause-deletes
returns-clause-deletes c = deletes_noted
