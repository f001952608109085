use Rattle.std.proofs.Common.{◌≡◌, ℕ, ◌-◌, [], ◌∷◌, ◌++◌, length, refl, sym, subst, ◌∙◌, IsTrue, IsSome, Err, arith}
use Rattle.std.proofs.lemmas.Grind.{common_steps}
use Rattle.std.specs.FinMap.{get, entries}
use Rattle.std.proofs.lemmas.List.{length_push, length-reverse}
use Rattle.std.proofs.lemmas.List.Elements.{All-get_or}
use Rattle.std.proofs.lemmas.Iterator.Adapters.{YieldsList-from_rev_slice}
use Rattle.std.proofs.lemmas.Iterator.Consumers.{YieldsList-turn, YieldsList-end}
use Rattle.frs_disk.specs.Disk.{Image, IsNumber}
use Rattle.frs_disk.proofs.Frames.{only_reads_none, only_reads_join}
use Rattle.frs_recovery.proofs.GoesDown.{set_out}
use Rattle.frs_recovery.specs.declared.fault.RecoverFault.{RecoverFault}
use Rattle.frs_recovery.specs.Faults.{IsCauseOnDisk}
use Rattle.frs_recovery.specs.DescentEnd.{LooksDown}
use Rattle.frs_recovery.proofs.SegmentOf.{err_is}
use Rattle.frs_recovery.proofs.GoDown.{files_left, all_left, next_left, turned, turn, turn_on, turn_ends, turn_fails, end_down, end_fails, none_down, still_cause, gap_cause}
use Rattle.frs_recovery.proofs.recovery.go_down.Goals as goal

pub loop-number-init : goal.loop-number-init
loop-number-init g c =
    let d = g.D.Disk in
    record {
      way = set_out (d.tells c.args.disk.now) (entries (d.reads c.args.disk.now)) (files_left c.args.numbers.now (d.reads c.args.disk.now) 0) c.new-descent.result c.new-descent.ensures.looked c.new-descent.ensures.half
          (λ told. all_left c.args.numbers.now (d.reads c.args.disk.now) (c.requires.all told));
      frame = only_reads_none d g.met.D.Disk.only_now c.args.disk.now;
      width = omega arith;
      faults = refl;
    }

pub look_at-requires : goal.look_at-requires
look_at-requires g c =
    let d = g.D.Disk in
    let numbers = c.args.numbers.now in
    let way = c.loop-number.invariant in
    let k : ℕ = length c.loop-number.yielded in
    let number : ℕ = c.in-Some.field-0.now in
    let (lt, is) = turned numbers k number (YieldsList-turn (YieldsList-from_rev_slice numbers cc) c.loop-number.yielded _ c.loop-number.yielded_by _ _ c.in-Some.field-0 c.in-Some.is c.next.ensures.steps) in
    record {
      in_range = subst IsNumber (sym is) (All-get_or IsNumber numbers (length numbers - 1 - k) number (omega (arith, lt)) c.requires.in_range);
      there = λ told. subst (λ (m : Image). IsSome (get m number)) (sym way.frame.seen) (next_left (d.reads c.args.disk.now) numbers k number (c.requires.all (subst IsTrue way.frame.told told)) lt is).there;
    }

pub loop-number-preserved : goal.loop-number-preserved
loop-number-preserved g c =
    let d = g.D.Disk in
    let numbers = c.args.numbers.now in
    let way = c.loop-number.invariant in
    let k : ℕ = length c.loop-number.yielded in
    let number : ℕ = c.in-Some.field-0.now in
    let at = turned numbers k number (YieldsList-turn (YieldsList-from_rev_slice numbers cc) c.loop-number.yielded _ c.loop-number.yielded_by _ _ c.in-Some.field-0 c.in-Some.is c.next.ensures.steps) in
    let m : Image = d.reads c.args.disk.now in
    let turned_to = turn (d.tells c.args.disk.now) (d.tells c.loop-number.disk) m (d.reads c.loop-number.disk) numbers k number c.loop-number.descent c.look_at.new.descent way.way c.requires.all at way.frame.told way.frame.seen c.in_ok-look_at.ensures.looks in
    record {
      way = turn_on (d.tells c.args.disk.now) m numbers k (length (c.loop-number.yielded ++ c.in-Some.field-0 ∷ [])) c.look_at.new.descent c.is_enough.result turned_to c.is_enough.ensures c.if-is_enough.false (length_push c.loop-number.yielded c.in-Some.field-0);
      frame = only_reads_join d g.met.D.Disk.since_earlier c.args.disk.now c.loop-number.disk c.look_at.new.disk way.frame c.look_at.ensures.frame;
      width = omega (arith, way.width, c.look_at.ensures.width);
      faults = c.in_ok-look_at.ensures.cause ∙ way.faults;
    }

pub returns-in_err-look_at-clause-down : goal.returns-in_err-look_at-clause-down
returns-in_err-look_at-clause-down g c =
    let d = g.D.Disk in
    let is : c.from_residual.result ≡ Err c.in_err-look_at.field-0.0 = grind (arith, common_steps) in
    none_down (LooksDown (d.tells c.args.disk.now) (entries (d.reads c.args.disk.now))) c.from_residual.result c.in_err-look_at.field-0.0 is

pub returns-in_err-look_at-clause-why : goal.returns-in_err-look_at-clause-why
returns-in_err-look_at-clause-why g c told =
    let d = g.D.Disk in
    let numbers = c.args.numbers.now in
    let way = c.loop-number.invariant in
    let k : ℕ = length c.loop-number.yielded in
    let number : ℕ = c.in-Some.field-0.now in
    let at = turned numbers k number (YieldsList-turn (YieldsList-from_rev_slice numbers cc) c.loop-number.yielded _ c.loop-number.yielded_by _ _ c.in-Some.field-0 c.in-Some.is c.next.ensures.steps) in
    let m : Image = d.reads c.args.disk.now in
    let is : c.from_residual.result ≡ Err c.in_err-look_at.field-0.0 = grind (arith, common_steps) in
    err_is (IsCauseOnDisk (entries m)) c.from_residual.result c.in_err-look_at.field-0.0 is
    (turn_fails (d.tells c.args.disk.now) (d.tells c.loop-number.disk) m (d.reads c.loop-number.disk) numbers k number c.loop-number.descent c.in_err-look_at.field-0.0 way.way c.requires.all at way.frame.told way.frame.seen c.in_err-look_at.ensures.why told)

pub returns-in_err-look_at-clause-frame : goal.returns-in_err-look_at-clause-frame
returns-in_err-look_at-clause-frame g c =
    only_reads_join g.D.Disk g.met.D.Disk.since_earlier c.args.disk.now c.loop-number.disk c.look_at.new.disk c.loop-number.invariant.frame c.look_at.ensures.frame

pub returns-in_err-look_at-clause-cause : goal.returns-in_err-look_at-clause-cause
returns-in_err-look_at-clause-cause g c =
    let d = g.D.Disk in
    let is : c.from_residual.result ≡ Err c.in_err-look_at.field-0.0 = grind (arith, common_steps) in
    still_cause (d.faults c.args.disk.now) (d.faults c.loop-number.disk) (d.faults c.look_at.new.disk) c.from_residual.result c.in_err-look_at.field-0.0 is c.loop-number.invariant.faults c.in_err-look_at.ensures.cause

pub returns-then-is_enough : goal.returns-then-is_enough
returns-then-is_enough g c =
    let d = g.D.Disk in
    let numbers = c.args.numbers.now in
    let way = c.loop-number.invariant in
    let k : ℕ = length c.loop-number.yielded in
    let number : ℕ = c.in-Some.field-0.now in
    let at = turned numbers k number (YieldsList-turn (YieldsList-from_rev_slice numbers cc) c.loop-number.yielded _ c.loop-number.yielded_by _ _ c.in-Some.field-0 c.in-Some.is c.next.ensures.steps) in
    let m : Image = d.reads c.args.disk.now in
    let turned_to = turn (d.tells c.args.disk.now) (d.tells c.loop-number.disk) m (d.reads c.loop-number.disk) numbers k number c.loop-number.descent c.look_at.new.descent way.way c.requires.all at way.frame.told way.frame.seen c.in_ok-look_at.ensures.looks in
    record {
      down = turn_ends (d.tells c.args.disk.now) m numbers k c.look_at.new.descent c.is_enough.result turned_to c.is_enough.ensures c.if-is_enough.true;
      why = λ told. tt;
      frame = only_reads_join d g.met.D.Disk.since_earlier c.args.disk.now c.loop-number.disk c.look_at.new.disk way.frame c.look_at.ensures.frame;
      width = omega (arith, way.width, c.look_at.ensures.width);
      cause = c.in_ok-look_at.ensures.cause ∙ way.faults;
    }

pub returns-in_err-at_end : goal.returns-in_err-at_end
returns-in_err-at_end g c =
    let d = g.D.Disk in
    let numbers = c.args.numbers.now in
    let way = c.loop-number.invariant in
    let ended = YieldsList-end (YieldsList-from_rev_slice numbers cc) c.loop-number.yielded _ c.loop-number.yielded_by _ _ c.in-None.is c.next.ensures.steps in
    let all : length c.loop-number.yielded ≡ length numbers = ended.1 ∙ length-reverse numbers in
    let m : Image = d.reads c.args.disk.now in
    let fault : RecoverFault = c.in_err-at_end.field-0.0 in
    let is : c.from_residual-in_err-at_end.result ≡ Err c.in_err-at_end.field-0.0 = grind (arith, common_steps) in
    record {
      down = none_down (LooksDown (d.tells c.args.disk.now) (entries m)) c.from_residual-in_err-at_end.result fault is;
      why = λ told. err_is (IsCauseOnDisk (entries m)) c.from_residual-in_err-at_end.result fault is (end_fails (d.tells c.args.disk.now) m numbers (length c.loop-number.yielded) c.loop-number.descent fault way.way all c.in_err-at_end.ensures.gap told);
      frame = way.frame;
      width = way.width;
      cause = gap_cause (d.faults c.args.disk.now) (d.faults c.loop-number.disk) c.from_residual-in_err-at_end.result fault way.way.segments is way.faults (c.in_err-at_end.ensures.gap way.way.segments way.way.looked way.way.further).1;
    }

pub returns : goal.returns
returns g c =
    let d = g.D.Disk in
    let numbers = c.args.numbers.now in
    let way = c.loop-number.invariant in
    let ended = YieldsList-end (YieldsList-from_rev_slice numbers cc) c.loop-number.yielded _ c.loop-number.yielded_by _ _ c.in-None.is c.next.ensures.steps in
    record {
      down = end_down (d.tells c.args.disk.now) (d.reads c.args.disk.now) numbers (length c.loop-number.yielded) c.loop-number.descent way.way (ended.1 ∙ length-reverse numbers) c.in_ok-at_end.ensures.whole;
      why = λ told. tt;
      frame = way.frame;
      width = way.width;
      cause = way.faults;
    }
