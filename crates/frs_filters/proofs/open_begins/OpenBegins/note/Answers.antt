-- What is noted with one record in front.
use Rattle.frs_filters.proofs.HasNoted.{one_shown}
use Rattle.frs_filters.proofs.open_begins.OpenBegins.note.Goals as goal

pub returns-clause-noted : goal.returns-clause-noted
returns-clause-noted c = λ later seen. one_shown _ c.args.self.now _ later c.args.lsn c.args.r.now c.step.ensures.noted seen
