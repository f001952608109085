use Rattle.std.proofs.Common.{◌≡◌, inl, inr, ⊎_elim, ◌∙◌, sym, ap, arith, Option, Some, None}
use Rattle.frs_disk.specs.declared.disk.Disk.{Ghosts}
use Rattle.frs_book.specs.Books.{BookView}
use Rattle.frs_engine.specs.declared.ending.Ending.{Ending}
use Rattle.frs_engine.specs.declared.ending.Ending.TheVariants.{Closed, Disk, Unread}
use Rattle.frs_engine.specs.Causes.{handed}
use Rattle.frs_engine.specs.Endings.{status_of}
use Rattle.frs_engine.specs.PlainJobs.{refusal_status}
use Rattle.frs_engine.specs.Promise.{LeavesReady, EndsWholeIf}
use Rattle.frs_engine.proofs.IsCause as cause
use Rattle.frs_engine.proofs.IsCause.{decided_is, known_status, zero_closed, done_closed, sink_cause, not_decided, plan_answered, fault_answered, put_off, store_answered, whole_answered, risen}
use Rattle.frs_engine.proofs.IsSaid.{refusal_not_zero}
use Rattle.frs_engine.proofs.run.frs_run.Goals as goal

ready_if : {D : Type 0} (g : Ghosts D) (old new : D) (book : Option BookView) → EndsWholeIf g old new book → LeavesReady g old new
ready_if g old new None whole = absurd whole
ready_if g old new (Some b) whole = whole.again

pub returns-clause-run : goal.returns-clause-run
returns-clause-run g c =
    let o = c.attempt-outcome.result in
    let ran = c.attempt-outcome.ensures in
    record {
      ending = o.ending;
      script = ran.run.0;
      book = o.book;
      run = ran.run.1;
      whole = λ done. ran.whole (done_closed o.ending _ _ _ c.report-status.ensures.answers done);
      cause = ran.run.2;
      several = ran.several;
      reported = c.report-status.ensures;
      disk_steady = ran.disk_steady;
      files_steady = ran.files_steady;
    }

pub returns-clause-causes : goal.returns-clause-causes
returns-clause-causes g c =
    let o = c.attempt-outcome.result in
    let e : Ending = o.ending in
    let ran = c.attempt-outcome.ensures in
    let answers = c.report-status.ensures.answers in
    let d = g.D.Disk in
    let f = g.F.Files in
    let h = handed c.args.plan.now c.args.disk o.disk c.args.files.now c.attempt-outcome.new.files in
    record {
      known = known_status e _ _ _ answers;
      disk_steady = λ other memory. ran.disk_steady (λ disk. not_decided e _ _ _ answers 3 (λ zero. omega (arith, zero)) other memory (ap status_of disk));
      files_steady = λ other memory. ran.files_steady (λ unread. not_decided e _ _ _ answers 5 (λ zero. omega (arith, zero)) other memory (ap status_of unread));
      untroubled = λ zero.
          let closed : e ≡ Closed = done_closed e _ _ _ answers (inl zero) in (
            ran.disk_steady (λ disk. let x : Closed ≡ Disk = sym closed ∙ disk in cc),
            ran.files_steady (λ unread. let x : Closed ≡ Unread = sym closed ∙ unread in cc),
            c.report-status.ensures.untroubled zero,
          );
      bad = λ is. cause.bad_cause d f h ran.run.0 o.book e ran.run.2 (decided_is _ _ _ _ answers (λ six. omega (arith, is, six)) (λ nine. omega (arith, is, nine)) ∙ is);
      disk_failed = λ is. cause.disk_cause d f h ran.run.0 o.book e ran.run.2 (decided_is _ _ _ _ answers (λ six. omega (arith, is, six)) (λ nine. omega (arith, is, nine)) ∙ is);
      wrong = λ is. (cause.wrong_cause d f h ran.run.0 o.book e ran.run.2 (decided_is _ _ _ _ answers (λ six. omega (arith, is, six)) (λ nine. omega (arith, is, nine)) ∙ is)).0;
      files_failed = λ is. cause.files_cause d f h ran.run.0 o.book e ran.run.2 (decided_is _ _ _ _ answers (λ six. omega (arith, is, six)) (λ nine. omega (arith, is, nine)) ∙ is);
      sink_failed = λ is. sink_cause e _ _ _ answers is;
      limited = λ is.
          cause.limit_cause d f h ran.run.0 o.book e ran.run.1.tells ran.run.2 (decided_is _ _ _ _ answers (λ six. omega (arith, is, six)) (λ nine. omega (arith, is, nine)) ∙ is);
      later = λ is. cause.later_cause d f h ran.run.0 o.book e ran.run.2 (decided_is _ _ _ _ answers (λ six. omega (arith, is, six)) (λ nine. omega (arith, is, nine)) ∙ is);
    }

pub returns-clause-complete : goal.returns-clause-complete
returns-clause-complete g c =
    let o = c.attempt-outcome.result in
    let e : Ending = o.ending in
    let ran = c.attempt-outcome.ensures in
    let answers = c.report-status.ensures.answers in
    let d = g.D.Disk in
    let f = g.F.Files in
    let old = c.args.disk in
    let h = handed c.args.plan.now c.args.disk o.disk c.args.files.now c.attempt-outcome.new.files in
    record {
      several = λ none. plan_answered e _ _ _ answers c.args.plan.now (ran.several none);
      refused = λ told fault has. fault_answered e _ _ _ answers fault (cause.refused_ending d f h ran.run.0 o.book e ran.run.2 told fault has);
      for_later = λ told later. put_off e _ _ _ answers (cause.later_ending d f h ran.run.0 o.book e ran.run.2 told ran.several later);
      wrong = λ told td script spells fault wrong.
          store_answered e _ _ _ answers (refusal_status fault) (refusal_not_zero fault)
          (cause.wrong_end d old o.disk td c.one_log.ensures.log c.one_answer.ensures.apart c.one_answer.ensures.one o.book e fault wrong)
          (cause.script_ending d f h ran.run.0 o.book e ran.run.2 told script spells);
      full = λ told td script spells full.
          store_answered e _ _ _ answers 8 (λ zero. omega (arith, zero))
          (cause.full_end d old o.disk td c.one_log.ensures.log c.one_answer.ensures.apart c.one_answer.ensures.one o.book e full)
          (cause.script_ending d f h ran.run.0 o.book e ran.run.2 told script spells);
      whole = λ told td script spells log room disk files sink.
          whole_answered e _ _ _ answers sink
          (λ unread. risen _ _ files (cause.files_cause d f h ran.run.0 o.book e ran.run.2 (ap status_of unread)))
          (cause.whole_end d old o.disk td c.one_log.ensures.log c.one_answer.ensures.apart c.one_answer.ensures.one o.book e log room (risen _ _ disk))
          (λ ends limit. cause.filled_end d f h ran.run.0 o.book e ran.run.1.tells ran.run.2 limit td log room c.one_log.ensures.log ends)
          (cause.script_ending d f h ran.run.0 o.book e ran.run.2 told script spells);
    }

pub returns-clause-left_alone : goal.returns-clause-left_alone
returns-clause-left_alone g c =
    let o = c.attempt-outcome.result in
    let ran = c.attempt-outcome.ensures in
    let answers = c.report-status.ensures.answers in
    let h = handed c.args.plan.now c.args.disk o.disk c.args.files.now c.attempt-outcome.new.files in
    record {
      unread = λ is. cause.untouched g.D.Disk g.F.Files h ran.run.0 o.book o.ending ran.run.2 (⊎_elim
          (λ two. inl (decided_is _ _ _ _ answers (λ six. omega (arith, two, six)) (λ nine. omega (arith, two, nine)) ∙ two))
          (λ rest. ⊎_elim
          (λ five. inr (inl (decided_is _ _ _ _ answers (λ six. omega (arith, five, six)) (λ nine. omega (arith, five, nine)) ∙ five)))
          (λ ten. inr (inr (decided_is _ _ _ _ answers (λ six. omega (arith, ten, six)) (λ nine. omega (arith, ten, nine)) ∙ ten))) rest)
          is);
      refused = λ four. (cause.wrong_cause g.D.Disk g.F.Files h ran.run.0 o.book o.ending ran.run.2
          (decided_is _ _ _ _ answers (λ six. omega (arith, four, six)) (λ nine. omega (arith, four, nine)) ∙ four)).1;
    }

pub returns-clause-again : goal.returns-clause-again
returns-clause-again g c = λ done.
    let o = c.attempt-outcome.result in
    ready_if g.D.Disk c.args.disk o.disk o.book (c.attempt-outcome.ensures.whole (done_closed o.ending _ _ _ c.report-status.ensures.answers done))
