use Rattle.std.proofs.Common.{◌≡◌, IsTrue, flat_map, take}
use Rattle.std.specs.String.{string_bytes}
use Rattle.frs_text.specs.Sinks.{GathersText}
use Rattle.frs_text.specs.Text.{event_line}
use Rattle.frs_text.proofs.history_text.write_events.Given as goal

abbrev pub invariant-loop-event : goal.invariant-loop-event
invariant-loop-event g l = record {
  told : g.S.Sink.tells l.sink ≡ g.S.Sink.tells l.fn.sink;
  cause : g.S.Sink.faults l.sink ≡ g.S.Sink.faults l.fn.sink;
  gathered : IsTrue (g.S.Sink.tells l.fn.sink)
      → GathersText (g.S.Sink.written l.fn.sink) (string_bytes l.fn.text) (g.S.Sink.written l.sink) (string_bytes l.text) (flat_map (event_line l.scripts) (take l.event-index l.events));
}
