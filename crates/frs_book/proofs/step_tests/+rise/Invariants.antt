-- The later lines are fewer.
use Rattle.std.proofs.Common.{length}
use Rattle.frs_book.proofs.step_tests.+rise.Given as goal

abbrev pub decreases-rise : goal.decreases-rise
decreases-rise l = length l.lines.now
