use Rattle.std.proofs.Common.{◌≡◌, map}
use Rattle.frs_types.specs.Maps.{table_after_all}
use Rattle.frs_objects.specs.Objects.{puts_among, change_by}
use Rattle.frs_objects.specs.Index.{IsIndex, table_in}
use Rattle.frs_objects.proofs.index.Index.commit_all.Given as goal

-- What the changes need that are left is kept, and with them the table is that after all.
abbrev pub invariant-loop-op : goal.invariant-loop-op
invariant-loop-op l = record {
  index : IsIndex l.self (puts_among l.op-iterator.rest.items);
  shown : table_after_all (table_in l.self) (map change_by l.op-iterator.rest.items) ≡ table_after_all (table_in l.fn.self) (map change_by l.fn.ops.items);
}
