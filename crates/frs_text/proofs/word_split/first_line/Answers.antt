use Rattle.frs_text.proofs.WordsOf.{last_line, line_before_feed}
use Rattle.frs_text.proofs.word_split.first_line.Goals as goal

pub returns-in-None-clause-lines : goal.returns-in-None-clause-lines
returns-in-None-clause-lines c = last_line c.args.bytes.now c.requires c.in-None.ensures

pub returns-in-Some-clause-lines : goal.returns-in-Some-clause-lines
returns-in-Some-clause-lines c = line_before_feed c.args.bytes.now c.in-Some.end c.without_return.result.now c.in-Some.ensures c.without_return.ensures
