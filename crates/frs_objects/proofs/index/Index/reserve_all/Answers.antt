-- The LSN of each put is new.
use Rattle.frs_objects.proofs.IsNew.{room_for_last}
use Rattle.frs_objects.proofs.index.Index.reserve_all.Goals as goal

pub reserve_op-requires : goal.reserve_op-requires
reserve_op-requires c = room_for_last c.loop-left.self c.args.self.now c.args.ops.now c.loop-left.left c.index-ops-left.result c.loop-left-test.true c.loop-left.invariant.within c.index-ops-left.is c.loop-left.invariant.index c.loop-left.invariant.shown c.requires.new c.loop-left.invariant.fits
