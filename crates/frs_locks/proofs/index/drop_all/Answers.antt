-- Each lock is given back in turn.
use Rattle.std.proofs.Common.{subst}
use Rattle.frs_locks.specs.Index.{LeavesTo}
use Rattle.frs_locks.proofs.IndexChanges.{leaves_all, left_nothing, alone_at, rest_begins}
use Rattle.std.proofs.lemmas.List.{drop_all}
use Rattle.frs_locks.proofs.index.drop_all.Goals as goal

pub loop-lock-init : goal.loop-lock-init
loop-lock-init c = λ hs index own. leaves_all c.args.maps.now hs c.args.client c.args.locks.now index own

pub loop-lock-preserved : goal.loop-lock-preserved
loop-lock-preserved c = λ hs index own. c.drop_lock.ensures hs _
    (subst (LeavesTo c.loop-lock.maps hs c.args.client) (rest_begins c.args.locks.now c.loop-lock.lock-index c.lock-item.result c.loop-lock-test.true c.lock-item.is) (c.loop-lock.invariant hs index own))
    (alone_at c.args.maps.now hs c.args.client c.args.locks.now c.loop-lock.lock-index c.lock-item.result index own c.loop-lock-test.true c.lock-item.is)

pub returns : goal.returns
returns c = λ hs index lt own. left_nothing c.loop-lock.maps hs c.args.client lt
    (subst (LeavesTo c.loop-lock.maps hs c.args.client) (drop_all c.loop-lock.lock-index c.args.locks.now c.loop-lock-test.false) (c.loop-lock.invariant hs index own))
