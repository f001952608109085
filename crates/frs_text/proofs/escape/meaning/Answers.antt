use Rattle.std.proofs.Common.{sym, ◌∙◌}
use Rattle.frs_text.proofs.Unescape.{meant-plain}
use Rattle.frs_text.proofs.escape.meaning.Goals as goal

pub returns-then-not-contains : goal.returns-then-not-contains
returns-then-not-contains c = meant-plain c.args.word.now (sym c.contains.ensures.value ∙ c.if-not-contains.true)
