use Rattle.std.proofs.Common.{◌≡◌, ℕ, [], true, None}
use Rattle.std.specs.Prelude.{◌==◌, fold}
use Rattle.std.specs.List.{list_any}
use Rattle.std.specs.FinMap.Entries.{put}
use Rattle.frs_types.specs.declared.record.Entry.{Entry}
use Rattle.frs_types.specs.Maps.{place_cmp}
use Rattle.frs_types.specs.Lawful.{table_of}
use Rattle.frs_objects.specs.Objects.{stored_by, HaveOwnNumbers}
use Rattle.frs_objects.specs.Index.{row_at, IsIndex, table_in}
use Rattle.frs_objects.proofs.objects.Objects.of.Given as goal

-- With the entries that are left the table is that of all, and their LSNs are new.
abbrev pub invariant-loop-entry : goal.invariant-loop-entry
invariant-loop-entry l = record {
  index : IsIndex l.index [];
  new : (n : ℕ) → list_any (λ (d : Entry). d.lsn == n) l.entry-iterator.rest.items ≡ true → row_at l.index.entries.entries n ≡ None;
  own : HaveOwnNumbers l.entry-iterator.rest.items;
  shown : fold (λ t (e : Entry). put place_cmp (e.id, e.key) (stored_by e) t) (table_in l.index) l.entry-iterator.rest.items ≡ table_of l.fn.entries.items;
}
