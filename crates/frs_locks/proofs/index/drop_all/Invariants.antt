use Rattle.std.proofs.Common.{◌≡◌, reverse, drop}
use Rattle.frs_types.specs.Locks.{Holders, holder_at}
use Rattle.frs_locks.specs.Index.{IsIndexOf, LeavesTo}
use Rattle.frs_locks.proofs.index.drop_all.Given as goal

abbrev pub invariant-loop-lock : goal.invariant-loop-lock
invariant-loop-lock l = (hs : Holders) → IsIndexOf l.initial.maps hs → reverse l.locks ≡ (holder_at hs l.client).locks
    → LeavesTo l.maps hs l.client (drop l.lock-index l.locks)
