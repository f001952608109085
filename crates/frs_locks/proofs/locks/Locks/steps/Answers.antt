-- One client more.
use Rattle.std.proofs.Common.{◌∙◌, sym, arith, ◌++◌, ◌∷◌, []}
use Rattle.std.proofs.lemmas.List.FromFn.{map-range_with_len_more}
use Rattle.frs_types.specs.Locks.{waits_for, with_wait}
use Rattle.frs_locks.proofs.locks.Locks.steps.Goals as goal

pub loop-other-preserved : goal.loop-other-preserved
loop-other-preserved c = c.in_ok-push.ensures.items ∙ (λ i. c.loop-other.invariant i ++ c.in_ok-step_of.ensures i ∷ [])
    ∙ sym (map-range_with_len_more (waits_for (with_wait c.args.self.now c.args.client c.args.lock.now)) 0 c.loop-other.other c.loop-other.other (omega arith))
