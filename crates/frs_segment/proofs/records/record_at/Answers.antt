use Rattle.std.proofs.Common.{arith, sym, ◌∙◌}
use Rattle.frs_segment.proofs.FillBody.{no_other, none_read}
use Rattle.frs_segment.proofs.records.record_at.Goals as goal

pub returns-then-not-suits : goal.returns-then-not-suits
returns-then-not-suits c = no_other c.args.bytes.now c.args.lsn c.in-Ok.record _ (omega arith) c.in-Ok.ensures.found.fits c.in-Ok.ensures.found.whole (sym c.suits.ensures ∙ c.if-not-suits.true)

pub returns-in_default : goal.returns-in_default
returns-in_default c = none_read c.args.bytes.now c.args.lsn c.in-Err.fault (omega arith) c.in_default.not-Memory c.in-Err.ensures.only
