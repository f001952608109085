use Rattle.std.proofs.Common.{◌≡◌, ℕ, List, cond, None}
use Rattle.std.specs.List.{list_any}
use Rattle.std.specs.List.Sorted.{IsStrictlySortedBy}
use Rattle.std.specs.Map.{keys_of}
use Rattle.std.specs.Ordering.{nat_cmp}
use Rattle.frs_objects.specs.declared.places.Slot.{Slot}
use Rattle.frs_objects.specs.Index.{row_at, is_lsn}
use Rattle.frs_objects.proofs.index.remove_all.Given as goal

-- Without the entries of the keys that are left the rows are what they are to be.
abbrev pub invariant-loop-slot : goal.invariant-loop-slot
invariant-loop-slot l = record {
  rows : (n : ℕ) → cond (list_any (λ (e : List ℕ × Slot). is_lsn e.1.lsn n) l.slot-iterator) None (row_at l.entries.entries n) ≡ cond (list_any (λ (e : List ℕ × Slot). is_lsn e.1.lsn n) l.map.entries) None (row_at l.fn.entries.entries n);
  ordered : IsStrictlySortedBy nat_cmp (keys_of l.fn.entries.entries) → IsStrictlySortedBy nat_cmp (keys_of l.entries.entries);
}
