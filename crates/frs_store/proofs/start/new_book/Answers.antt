use Rattle.frs_store.proofs.OwnNumbers.{rising_apart, all_before}
use Rattle.frs_slots.specs.Views.{next_drawn}
use Rattle.frs_store.proofs.start.new_book.Goals as goal

pub new-requires-clause-numbers : goal.new-requires-clause-numbers
new-requires-clause-numbers c = rising_apart c.args.entries.items c.requires.rising

pub new-requires-clause-before : goal.new-requires-clause-before
new-requires-clause-before c = all_before (next_drawn c.args.drawer) c.args.entries.items c.requires.before
