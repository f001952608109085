use Rattle.std.proofs.Common.{◌≡◌, ℕ, List, [], refl, sym, ap, subst, ◌∙◌, IsTrue, All, Vec, Global, Err, arith}
use Rattle.std.specs.FinMap.{entries, keys}
use Rattle.std.proofs.lemmas.Grind.{common_steps}
use Rattle.frs_types.specs.Records.{Log}
use Rattle.frs_types.specs.Lawful.{settled_state, state_after}
use Rattle.frs_disk.specs.Disk.{Image, IsNumber}
use Rattle.frs_disk.proofs.Frames.{only_reads_call, only_reads_join}
use Rattle.frs_segment.specs.Segments.{WholeSegment}
use Rattle.frs_disk.specs.declared.disk.Fault.{Fault}
use Rattle.frs_recovery.specs.declared.fault.RecoverFault.{RecoverFault}
use Rattle.frs_recovery.specs.declared.recovered.Recovered.{Recovered}
use Rattle.frs_recovery.specs.Answers.{IsRecovered, IsInRange}
use Rattle.frs_recovery.specs.Sound.{HasState}
use Rattle.frs_recovery.proofs.BackwardIsState.{recovered_is_state}
use Rattle.frs_recovery.specs.Faults.{recover_fault_of, IsCauseOnDisk}
use Rattle.frs_segment.proofs.SpellsBy.{rising}
use Rattle.frs_recovery.proofs.SegmentOf.{err_is}
use Rattle.frs_recovery.proofs.GoDown.{none_down, still_cause}
use Rattle.frs_recovery.proofs.RecoverAnswers.{only_one, never_wrong, only_outside, told_wrong, outside_gives, outside_refuses, outside_cause, outside_counts}
use Rattle.frs_recovery.proofs.recovery.recover.Goals as goal

pub go_down-requires : goal.go_down-requires
go_down-requires g c =
    let d = g.D.Disk in
    record {
      in_range = subst (λ (ns : List ℕ). All IsNumber ns) (sym c.as_slice.ensures.value) c.in_ok-numbers.ensures.in_range;
      all = λ told. c.as_slice.ensures.value ∙ c.in_ok-numbers.ensures.numbers (subst IsTrue c.segments.ensures.told told) ∙ ap (λ (m : Image). keys m) (sym c.segments.ensures.seen);
    }

pub recovered_store-requires : goal.recovered_store-requires
recovered_store-requires g c = record { in_range = c.in_ok-numbers.ensures.in_range }

pub returns-in_err-numbers : goal.returns-in_err-numbers
returns-in_err-numbers g c =
    let d = g.D.Disk in
    let m : Image = d.reads c.args.disk.now in
    let fault : Fault = c.in_err-numbers.field-0.0 in
    let is : c.from_residual.result ≡ Err (recover_fault_of c.in_err-numbers.field-0.0) = grind (arith, common_steps) in
    let listed = only_reads_call d c.args.disk.now c.segments.new.self c.segments.ensures.told c.segments.ensures.seen c.segments.ensures.pending c.segments.ensures.crash c.segments.ensures.time in
    record {
      found = none_down (λ (r : Recovered). IsTrue (d.tells c.args.disk.now) → (segments : List WholeSegment) × (log : Log) × IsRecovered (entries m) segments log r) c.from_residual.result (recover_fault_of fault) is;
      only = λ told segments log by. outside_gives (IsRecovered (entries m) segments log) c.from_residual.result fault is;
      why = λ told. err_is (IsCauseOnDisk (entries m)) c.from_residual.result (recover_fault_of fault) is (outside_cause (entries m) fault);
      refused = λ told other wrong. outside_refuses other c.from_residual.result fault is;
      state = λ told records lawful by. none_down (HasState (state_after (settled_state [] 1) records)) c.from_residual.result (recover_fault_of fault) is;
      in_range = none_down IsInRange c.from_residual.result (recover_fault_of fault) is;
      frame = listed;
      width = omega (arith, c.segments.ensures.width);
      cause = still_cause (d.faults c.args.disk.now) (d.faults c.args.disk.now) (d.faults c.segments.new.self) c.from_residual.result (recover_fault_of fault) is refl (outside_counts (Vec ℕ Global) (d.faults c.args.disk.now) (d.faults c.segments.new.self) fault c.in_err-numbers.ensures.cause);
    }

pub returns-in_err-descent : goal.returns-in_err-descent
returns-in_err-descent g c =
    let d = g.D.Disk in
    let m : Image = d.reads c.args.disk.now in
    let fault : RecoverFault = c.in_err-descent.field-0.0 in
    let result = c.from_residual-in_err-descent.result in
    let is : c.from_residual-in_err-descent.result ≡ Err c.in_err-descent.field-0.0 = grind (arith, common_steps) in
    let cause : IsTrue (d.tells c.args.disk.now) → IsCauseOnDisk (entries m) fault =
    λ told. subst (λ (i : Image). IsCauseOnDisk (entries i) fault) c.segments.ensures.seen (c.in_err-descent.ensures.why (c.segments.ensures.told ∙ told)) in
    let listed = only_reads_call d c.args.disk.now c.segments.new.self c.segments.ensures.told c.segments.ensures.seen c.segments.ensures.pending c.segments.ensures.crash c.segments.ensures.time in
    record {
      found = none_down (λ (r : Recovered). IsTrue (d.tells c.args.disk.now) → (segments : List WholeSegment) × (log : Log) × IsRecovered (entries m) segments log r) result fault is;
      only = λ told segments log by. only_outside c.one_answer.ensures.apart (IsRecovered (entries m) segments log) (entries m) result fault is (cause told) segments log by;
      why = λ told. err_is (IsCauseOnDisk (entries m)) result fault is (cause told);
      refused = λ told other wrong. told_wrong c.one_answer.ensures.one (entries m) result other fault is (cause told) wrong;
      state = λ told records lawful by. none_down (HasState (state_after (settled_state [] 1) records)) result fault is;
      in_range = none_down IsInRange result fault is;
      frame = only_reads_join d g.met.D.Disk.since_earlier c.args.disk.now c.segments.new.self c.go_down.new.disk listed c.go_down.ensures.frame;
      width = omega (arith, c.segments.ensures.width, c.go_down.ensures.width);
      cause = still_cause (d.faults c.args.disk.now) (d.faults c.segments.new.self) (d.faults c.go_down.new.disk) result fault is c.in_ok-numbers.ensures.cause c.in_err-descent.ensures.cause;
    }

pub returns : goal.returns
returns g c =
    let d = g.D.Disk in
    let m : Image = d.reads c.args.disk.now in
    let later : Image = d.reads c.segments.new.self in
    let found : IsTrue (d.tells c.args.disk.now) → (segments : List WholeSegment) × (log : Log) × IsRecovered (entries m) segments log c.recovered_store.result =
    λ told. subst (λ (i : Image). (segments : List WholeSegment) × (log : Log) × IsRecovered (entries i) segments log c.recovered_store.result) c.segments.ensures.seen
    (c.recovered_store.ensures.found (d.tells c.segments.new.self) (entries later) c.in_ok-descent.ensures.down (c.segments.ensures.told ∙ told) (rising later)
    (c.in_ok-numbers.ensures.numbers told ∙ ap (λ (i : Image). keys i) (sym c.segments.ensures.seen))) in
    let listed = only_reads_call d c.args.disk.now c.segments.new.self c.segments.ensures.told c.segments.ensures.seen c.segments.ensures.pending c.segments.ensures.crash c.segments.ensures.time in
    record {
      found = found;
      only = λ told. only_one c.one_log.ensures.segments c.one_log.ensures.log (entries m) c.recovered_store.result (found told);
      why = λ told. tt;
      refused = λ told fault. never_wrong c.one_answer.ensures.apart (entries m) c.recovered_store.result fault (found told);
      state = λ told. recovered_is_state (entries m) c.recovered_store.result (only_one c.one_log.ensures.segments c.one_log.ensures.log (entries m) c.recovered_store.result (found told));
      in_range = c.recovered_store.ensures.in_range (d.tells c.segments.new.self) (entries later) c.in_ok-descent.ensures.down;
      frame = only_reads_join d g.met.D.Disk.since_earlier c.args.disk.now c.segments.new.self c.go_down.new.disk listed c.go_down.ensures.frame;
      width = omega (arith, c.segments.ensures.width, c.go_down.ensures.width);
      cause = c.in_ok-descent.ensures.cause ∙ c.in_ok-numbers.ensures.cause;
    }
