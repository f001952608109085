use Rattle.std.proofs.Common.{ℕ, ◌<◌, ◌≤◌, ◌-◌, length, get_or}
use Rattle.frs_history.specs.declared.command.Line.{Line}
use Rattle.frs_text.proofs.line_lookup.find_line.Given as goal

abbrev pub invariant-loop-low : goal.invariant-loop-low
invariant-loop-low l = record {
  in_range : l.high ≤ length l.lines;
  below : (j : ℕ) (d : Line) → j < l.low → (get_or l.lines j d).number < l.number;
  above : (j : ℕ) (d : Line) → l.high ≤ j → j < length l.lines → l.number < (get_or l.lines j d).number;
}

abbrev pub decreases-loop-low : goal.decreases-loop-low
decreases-loop-low l = l.high - l.low
