-- The later lines are fewer.
use Rattle.std.proofs.Common.{length}
use Rattle.frs_book.proofs.step_tests.+are_bracketed.Given as goal

abbrev pub decreases-are_bracketed : goal.decreases-are_bracketed
decreases-are_bracketed l = length l.lines.now
