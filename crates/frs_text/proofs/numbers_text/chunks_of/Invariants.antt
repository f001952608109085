use Rattle.std.proofs.Common.{◌≡◌, ◌≤◌, ◌*◌, length, take}
use Rattle.std.specs.List.{sum_by}
use Rattle.frs_segment.specs.declared.layout.Segment.{Segment}
use Rattle.frs_text.proofs.numbers_text.chunks_of.Given as goal

abbrev pub invariant-loop-segment : goal.invariant-loop-segment
invariant-loop-segment l = record {
  counted : l.chunks ≡ sum_by (λ (s : Segment). length s.chunks) (take l.segment-index l.segments);
  bound : l.chunks ≤ l.segment-index * 18446744073709551616;
}
