use Rattle.std.proofs.Common.{◌≡◌, ◌∙◌, ⊎_elim, inl, inr, sym, arith}
use Rattle.frs_engine.specs.PlainJobs.{finding_status, finding_text}
use Rattle.frs_engine.proofs.IsSaid.{done_or_memory, known_plain, sink_stopped, refusal_answered}
use Rattle.frs_engine.proofs.IsCause.{decided_is, answered}
use Rattle.frs_engine.proofs.plain_job.frs_plain.Goals as goal

pub returns-clause-ran : goal.returns-clause-ran
returns-clause-ran g c =
    let f = c.look-finding.result in
    record { decided = finding_status f; text = finding_text f; said = c.look-finding.ensures.said; reported = c.tell-status.ensures }

pub returns-clause-causes : goal.returns-clause-causes
returns-clause-causes g c =
    let f = c.look-finding.result in
    let said = c.look-finding.ensures.said in
    let answers = c.tell-status.ensures.answers in
    record {
      known = known_plain f _ _ _ answers;
      untroubled = λ zero.
          let decided : finding_status f ≡ 0 = decided_is _ _ _ _ answers (λ six. omega (arith, zero, six)) (λ nine. omega (arith, zero, nine)) ∙ zero in
          (said.steady (λ three. omega (arith, three, decided)), c.tell-status.ensures.untroubled zero);
      disk_failed = λ is. (said.failed (decided_is _ _ _ _ answers (λ six. omega (arith, is, six)) (λ nine. omega (arith, is, nine)) ∙ is)).1;
      sink_failed = λ is. sink_stopped f _ _ _ answers is;
      wrong = λ told is.
          let decided : finding_status f ≡ c.tell-status.result = decided_is _ _ _ _ answers
          (λ six. ⊎_elim (λ four. omega (arith, four, six)) (λ eight. omega (arith, eight, six)) is) (λ nine. ⊎_elim (λ four. omega (arith, four, nine)) (λ eight. omega (arith, eight, nine)) is) in
          let why = said.wrong (⊎_elim (λ four. inl (decided ∙ four)) (λ eight. inr (decided ∙ eight)) is) in
          (why.0, why.3 told, sym decided ∙ why.1);
      only_later = λ is. (said.later (decided_is _ _ _ _ answers (λ six. omega (arith, is, six)) (λ nine. omega (arith, is, nine)) ∙ is)).0;
    }

pub returns-clause-complete : goal.returns-clause-complete
returns-clause-complete g c =
    let f = c.look-finding.result in
    let said = c.look-finding.ensures.said in
    let answers = c.tell-status.ensures.answers in
    record {
      later = λ compact.
          let ten : finding_status f ≡ 10 = said.not_yet compact in
          ⊎_elim (λ same. inl (same ∙ ten)) (λ memory. inr memory) (answered _ _ _ _ answers (λ zero. omega (arith, zero, ten)));
      refused = λ told other fault wrong. refusal_answered f _ _ _ answers fault (c.look-finding.ensures.refused told other fault wrong);
      done = λ told other segments log by steady sink_steady. done_or_memory (finding_status f) _ _ _ _ _ (c.look-finding.ensures.only told other segments log by)
          (λ three. (said.failed three).1) answers steady sink_steady;
    }
