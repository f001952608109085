use Rattle.std.proofs.Common.{◌≡◌, drop}
use Rattle.frs_objects.specs.Objects.{puts_among}
use Rattle.frs_objects.specs.Index.{IsIndex, table_in}
use Rattle.frs_objects.proofs.index.Index.release_all.Given as goal

-- What the changes need that are left is kept.
abbrev pub invariant-loop-op : goal.invariant-loop-op
invariant-loop-op l = record {
  index : IsIndex l.self (puts_among (drop l.op-index l.ops));
  shown : table_in l.self ≡ table_in l.fn.self;
}
