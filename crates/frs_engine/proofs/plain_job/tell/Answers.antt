use Rattle.std.proofs.Common.{◌∙◌, ap}
use Rattle.frs_engine.specs.declared.status.Status.{Status}
use Rattle.frs_engine.specs.PlainJobs.{status_found, finding_text}
use Rattle.frs_engine.specs.Statuses.{code_of, status_after}
use Rattle.frs_engine.proofs.OutcomeText.{is_reported, whole_prints}
use Rattle.frs_engine.proofs.plain_job.tell.Goals as goal

pub returns : goal.returns
returns g c =
    let printed = c.print-printed in
    is_reported g.S.Sink (finding_text c.args.finding.now) (status_found c.args.finding.now) c.code.result c.args.sink.now printed.new.sink printed.result
    (c.code.ensures ∙ ap code_of (c.after.ensures ∙ ap (λ (s : Status). status_after s printed.result) c.status.ensures)) printed.ensures.cause (λ told. whole_prints _ _ _ (printed.ensures.part told)) printed.ensures.all printed.ensures.told
