use Rattle.std.proofs.Common.{◌∙◌, None, Some, ap, sym, subst, length}
use Rattle.frs_engine.specs.declared.ending.Ending.{Ending}
use Rattle.frs_engine.specs.declared.outcome.Outcome.{Outcome}
use Rattle.frs_engine.specs.Causes.{IsEndOfRun}
use Rattle.frs_engine.specs.Promise.{IsRun}
use Rattle.frs_engine.proofs.RunOfSession.{told_of_run, survives, closed_by, ends_whole, end_of_run, steady, goes_on, unopened_cause, not_closed}
use Rattle.frs_engine.proofs.run.run_script.Goals as goal

-- ---- a session was opened

pub answer_all-requires-clause-one : goal.answer_all-requires-clause-one
answer_all-requires-clause-one g c = ap length c.in-Ok.ensures.opened.scripts

pub returns-in-Ok-clause-run : goal.returns-in-Ok-clause-run
returns-in-Ok-clause-run g c =
    let d = g.D.Disk in
    record {
      tells = told_of_run d c.args.disk c.args.script c.in-Ok.session c.answer_all.new.session c.close-book.result c.in-Ok.ensures.opened c.answer_all.ensures c.close-book.ensures;
      survives = survives d c.args.disk c.args.script c.in-Ok.session c.answer_all.new.session c.close-book.result c.in-Ok.ensures.opened c.answer_all.ensures c.close-book.ensures
          c.one_log.ensures.log c.begun_maps.ensures c.recovered_commits.ensures.crash c.recovered_commits.ensures.now;
    }

pub returns-in-Ok-clause-whole : goal.returns-in-Ok-clause-whole
returns-in-Ok-clause-whole g c = λ closed.
    ends_whole g.D.Disk c.args.disk c.args.script c.in-Ok.session c.answer_all.new.session c.close-book.result c.in-Ok.ensures.opened c.answer_all.ensures c.close-book.ensures
    (closed_by c.close-book.result.stop (sym c.from.ensures ∙ closed)) c.recovered_commits.ensures.all

pub returns-in-Ok-clause-end : goal.returns-in-Ok-clause-end
returns-in-Ok-clause-end g c =
    subst (λ (e : Ending). IsEndOfRun g.D.Disk c.args.disk c.close-book.result.disk (Some c.close-book.result.book) e) (sym c.from.ensures)
    (end_of_run g.D.Disk c.args.disk c.args.script c.in-Ok.session c.answer_all.new.session c.close-book.result c.in-Ok.ensures.opened c.answer_all.ensures c.close-book.ensures)

pub returns-in-Ok-clause-frame : goal.returns-in-Ok-clause-frame
returns-in-Ok-clause-frame g c =
    goes_on g.D.Disk c.args.disk c.args.script c.in-Ok.session c.answer_all.new.session c.close-book.result c.in-Ok.ensures.opened c.answer_all.ensures c.close-book.ensures

pub returns-in-Ok-clause-steady : goal.returns-in-Ok-clause-steady
returns-in-Ok-clause-steady g c = λ other.
    steady g.D.Disk c.args.disk c.args.script c.in-Ok.session c.answer_all.new.session c.close-book.result c.in-Ok.ensures.opened c.answer_all.ensures c.close-book.ensures
    (λ disk. other (c.from.ensures ∙ disk))

-- ---- and none was

pub returns-in-Err-clause-run : goal.returns-in-Err-clause-run
returns-in-Err-clause-run g c =
    subst (λ (o : Outcome _). IsRun g.D.Disk c.args.disk o.disk c.args.script o.book) (sym c.nothing.ensures)
    (record { tells = tt; survives = λ told ready log spelled. c.unopened_end.ensures c.args.disk c.in-Err.field-0.disk c.in-Err.ensures.refused.images told ready log spelled })

pub returns-in-Err-clause-whole : goal.returns-in-Err-clause-whole
returns-in-Err-clause-whole g c = λ closed. absurd (not_closed c.in-Err.field-0.fault (sym c.from-in-Err.ensures ∙ sym (ap (λ (o : Outcome _). o.ending) c.nothing.ensures) ∙ closed))

pub returns-in-Err-clause-end : goal.returns-in-Err-clause-end
returns-in-Err-clause-end g c =
    subst (λ (o : Outcome _). IsEndOfRun g.D.Disk c.args.disk o.disk o.book o.ending) (sym c.nothing.ensures)
    (subst (λ (e : Ending). IsEndOfRun g.D.Disk c.args.disk c.in-Err.field-0.disk None e) (sym c.from-in-Err.ensures)
    (unopened_cause g.D.Disk c.args.disk c.in-Err.field-0 c.in-Err.ensures.refused))
