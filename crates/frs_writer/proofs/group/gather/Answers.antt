use Rattle.std.proofs.Common.{◌≡◌, true, false, ℕ, ◌+◌, ◌++◌, List, [], ◌∷◌, arith, sym, ◌∙◌, subst, length-append}
use Rattle.frs_writer.specs.Groups.{lowest_in}
use Rattle.frs_writer.proofs.GathersGroup.{one_more, no_more, with_kept, without_kept, Begun}
use Rattle.frs_writer.proofs.group.gather.Goals.{in-Some, in_default}
use Rattle.frs_writer.proofs.group.gather.Goals as goal

begun : (c : goal.After-count-counter) → Begun c.args.taker.now c.args.kept.now c.match-take.chunk
begun c = elim c.match-take.branch [
  | in-Some w ↦ with_kept c.args.taker.now c.args.kept.now w.in-Some.framed c.clear.new.self c.match-take.chunk (sym c.take.ensures.value ∙ w.in-Some.is) w.bytes.ensures.most c.clear.ensures (subst (λ (x : List ℕ). c.match-take.chunk ≡ record { count = c.clear.new.self.count + 1; bytes = c.clear.new.self.bytes ++ x; lowest = lowest_in x }) w.bytes.ensures.bytes (w.chunk-is ∙ w.add.ensures))
  | in_default w ↦ without_kept c.args.taker.now c.args.kept.now c.clear.new.self c.match-take.chunk (sym c.take.ensures.value ∙ w.in_default.is) c.clear.ensures w.chunk-is
]

pub loop-init : goal.loop-init
loop-init c =
    let b = begun c in
    (c.take.ensures.after, omega (arith, b.one, c.count-counter.ensures, c.requires), (b.group, b.gathered, b.has, b.counted ∙ sym c.count-counter.ensures))

pub loop-preserved : goal.loop-preserved
loop-preserved c =
    let (none, le, (group, gathered, has, counted)) = c.loop.invariant in
    let (still, added) = c.take_one.ensures.added c.if-not-take_one.false in
    let (more, now) = one_more c.args.taker.now c.loop.taker c.take_one.new.taker c.args.kept.now c.loop.chunk c.take_one.new.chunk group gathered has added in
    (still, omega (arith, c.loop-test.true), (group ++ added.bytes ∷ [], more, now, omega (arith, length-append group (added.bytes ∷ []), counted)))

pub returns-then-not-take_one : goal.returns-then-not-take_one
returns-then-not-take_one c =
    let (none, le, (group, gathered, has, counted)) = c.loop.invariant in
    let (gathers, now) = no_more c.args.taker.now c.loop.taker c.take_one.new.taker c.args.kept.now c.loop.chunk c.take_one.new.chunk group gathered has c.args.limit c.take_one.new.kept
    (omega (arith, counted, le)) (c.take_one.ensures.stopped (λ is. let both : true ≡ false = sym is ∙ c.if-not-take_one.true in cc)) in
    (group, gathers, now)
