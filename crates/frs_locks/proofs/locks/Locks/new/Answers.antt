-- Nobody holds anything.
use Rattle.std.proofs.Common.{sym, subst, arith}
use Rattle.frs_locks.specs.Index.{AreSoundLocks}
use Rattle.frs_locks.proofs.SoundLocks.{sound_new}
use Rattle.frs_locks.proofs.locks.Locks.new.Goals as goal

pub invariant_of-result : goal.invariant_of-result
invariant_of-result c = subst (AreSoundLocks c.new-2.result) (sym c.loop.invariant) (sound_new c.new-2.result c.loop.counter c.new-2.ensures.empty
    (omega (arith, c.loop-test.false, c.requires.some)) (omega (arith, c.loop.auto.counter-end, c.requires.most)))
