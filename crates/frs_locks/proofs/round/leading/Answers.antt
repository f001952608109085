-- One round more.
use Rattle.std.proofs.Common.{length, ◌∙◌, ap, arith, false, ℕ}
use Rattle.std.specs.Prelude.{map}
use Rattle.std.specs.List.{range_with_len}
use Rattle.frs_types.specs.Locks.{is_reached}
use Rattle.frs_locks.specs.Rounds.{does_lead}
use Rattle.frs_locks.proofs.Rounds.{one_round, count_of}
use Rattle.frs_locks.proofs.round.leading.Goals as goal

pub loop-init : goal.loop-init
loop-init c = λ hs s. c.in_ok-leading.ensures ∙ ap (λ n. map (λ (d : ℕ). false) (range_with_len 0 n)) (count_of hs _ s)

pub loop-preserved : goal.loop-preserved
loop-preserved c = λ hs s. one_round hs c.loop.counter c.args.goal c.args.steps.now c.loop.leading.items _ s (c.loop.invariant hs s)
    (c.in_ok-leading-2.ensures ∙ ap (λ xs. map (does_lead c.args.goal xs) c.args.steps.now) c.as_slice.ensures.value)

pub returns : goal.returns
returns c = λ hs s. c.loop.invariant hs s ∙ ap (λ n. map (λ d. is_reached hs n d c.args.goal) (range_with_len 0 (length hs))) (omega (arith, c.loop-test.false, c.loop.auto.counter-end, count_of hs _ s))
