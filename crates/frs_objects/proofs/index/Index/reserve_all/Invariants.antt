use Rattle.std.proofs.Common.{◌≡◌, ◌^◌, ◌<◌, ◌≤◌, drop, length}
use Rattle.frs_objects.specs.Objects.{puts_among}
use Rattle.frs_objects.specs.Index.{IsIndex, table_in}
use Rattle.frs_objects.proofs.index.Index.reserve_all.Given as goal

-- What the changes behind the place need is kept.
abbrev pub invariant-loop-left : goal.invariant-loop-left
invariant-loop-left l = record {
  fits : length l.ops < 2 ^ 64;
  within : l.left ≤ length l.ops;
  index : IsIndex l.self (puts_among (drop l.left l.ops));
  shown : table_in l.self ≡ table_in l.fn.self;
}

abbrev pub decreases-loop-left : goal.decreases-loop-left
decreases-loop-left l = l.left
