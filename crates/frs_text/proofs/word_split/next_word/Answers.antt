use Rattle.std.proofs.Common.{refl}
use Rattle.frs_text.specs.Scripts.{is_blank}
use Rattle.frs_text.proofs.WordsOf.{no_part, part_to_end, part_to}
use Rattle.frs_text.proofs.word_split.next_word.Goals as goal

pub returns-in_err-start : goal.returns-in_err-start
returns-in_err-start c = rw c.from_residual.ensures (no_part is_blank c.args.line.now c.in_err-start.ensures)

pub returns-in-None : goal.returns-in-None
returns-in-None c = part_to_end is_blank c.args.line.now c.in_ok-start.start c.in_ok-start.ensures c.in-None.ensures

pub returns-in-Some : goal.returns-in-Some
returns-in-Some c = part_to is_blank c.args.line.now c.in_ok-start.start c.in-Some.end _ refl c.in_ok-start.ensures c.in-Some.ensures
