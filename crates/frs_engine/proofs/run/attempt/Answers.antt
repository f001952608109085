use Rattle.std.proofs.Common.{inl, inr, refl, sym, subst, []}
use Rattle.frs_engine.specs.declared.outcome.Outcome.{Outcome}
use Rattle.frs_engine.specs.Causes.{IsCause, handed}
use Rattle.frs_engine.specs.Promise.{IsRun}
use Rattle.frs_engine.proofs.RunOfSession.{nothing_run}
use Rattle.frs_engine.proofs.run.attempt.Goals as goal

-- ---- a run was begun

pub returns-in-Ok-clause-run : goal.returns-in-Ok-clause-run
returns-in-Ok-clause-run g c = (c.in-Ok.script, c.run_script.ensures.run, inr (c.in-Ok.ensures.found, c.run_script.ensures.end))

-- ---- and none was

pub returns-in-Err-clause-run : goal.returns-in-Err-clause-run
returns-in-Err-clause-run g c =
    let f = g.F.Files in (
      [],
      subst (λ (o : Outcome _). IsRun g.D.Disk c.args.disk o.disk [] o.book) (sym c.nothing.ensures) (nothing_run g.D.Disk g.met.D.Disk.only_now c.unopened_end.ensures c.args.disk []),
      subst (λ (o : Outcome _). IsCause g.D.Disk f (handed c.args.plan.now c.args.disk o.disk c.args.files.now c.read_script.new.files) [] o.book o.ending) (sym c.nothing.ensures)
          (inl (c.in-Err.ensures.why, refl, refl)),
    )
