use Rattle.std.proofs.Common.{◌≡◌, None}
use Rattle.frs_store.specs.declared.start.TheConstants.{CLIENT}
use Rattle.frs_store.specs.Session.{faults_of, steps_left}
use Rattle.frs_engine.specs.Sessions.{AnswersOwn}
use Rattle.frs_engine.proofs.run.answer_all.Given as goal

abbrev pub invariant-loop-place : goal.invariant-loop-place
invariant-loop-place g l = record {
  answers : AnswersOwn g.D.Disk l.fn.session l.session;
  going : l.session.stop ≡ None;
  faults : faults_of g.D.Disk l.session.store ≡ faults_of g.D.Disk l.fn.session.store;
}

abbrev pub decreases-loop-place : goal.decreases-loop-place
decreases-loop-place g l = steps_left l.session.store.book CLIENT
