use Rattle.std.proofs.Common.{◌≡◌, IsTrue, flat_map, take}
use Rattle.std.specs.String.{string_bytes}
use Rattle.frs_text.specs.Sinks.{GathersText}
use Rattle.frs_text.specs.Rows.{row_line}
use Rattle.frs_text.proofs.maps_text.write_entries.Given as goal

abbrev pub invariant-loop-row : goal.invariant-loop-row
invariant-loop-row g l = record {
  told : g.S.Sink.tells l.sink ≡ g.S.Sink.tells l.fn.sink;
  cause : g.S.Sink.faults l.sink ≡ g.S.Sink.faults l.fn.sink;
  gathered : IsTrue (g.S.Sink.tells l.fn.sink)
      → GathersText (g.S.Sink.written l.fn.sink) (string_bytes l.fn.text) (g.S.Sink.written l.sink) (string_bytes l.text) (flat_map row_line (take l.row-index l.rows));
}
