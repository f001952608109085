use Rattle.std.proofs.Common.{◌∙◌, ap}
use Rattle.frs_engine.specs.declared.status.Status.{Status}
use Rattle.frs_engine.specs.Endings.{ending_status, outcome_text}
use Rattle.frs_engine.specs.Statuses.{code_of, status_after}
use Rattle.frs_engine.proofs.OutcomeText.{is_reported}
use Rattle.frs_engine.proofs.report.report.Goals as goal

pub returns : goal.returns
returns g c =
    let printed = c.print-printed in
    is_reported g.S.Sink (outcome_text c.args.outcome.now) (ending_status c.args.outcome.now.ending) c.code.result c.args.sink.now printed.new.sink printed.result
    (c.code.ensures ∙ ap code_of (c.after.ensures ∙ ap (λ (s : Status). status_after s printed.result) c.status.ensures)) printed.ensures.cause printed.ensures.part printed.ensures.all printed.ensures.told
