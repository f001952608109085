use Rattle.std.proofs.Common.{◌≡◌, ◌≤◌, ◌+◌, ◌*◌, length}
use Rattle.frs_objects.proofs.TableBytes.{rows_bytes}
use Rattle.frs_objects.proofs.index.Index.bytes.Given as goal

-- What was added and what is left make the whole; and there is room for as many entries of the most bytes.
abbrev pub invariant-loop-row : goal.invariant-loop-row
invariant-loop-row l = record {
  whole : l.bytes + rows_bytes l.row-iterator ≡ rows_bytes l.self.entries.entries;
  room : l.bytes + length l.row-iterator * 65854 ≤ l._count * 65854;
}
