use Rattle.std.proofs.Common.{◌≡◌, ◌+◌, ◌≤◌, length}
use Rattle.std.specs.Str.Lines.{lines}
use Rattle.frs_text.specs.Scripts.{up_to, script_after, script_of}
use Rattle.frs_text.proofs.script.parse_script.Given as goal

abbrev pub invariant-loop-rest : goal.invariant-loop-rest
invariant-loop-rest l = record {
  goes_on : script_after (up_to l.lines l.snapshots) l.draft (l.number + 1) (lines l.rest) ≡ script_of (up_to l.lines l.snapshots) l.fn.bytes;
  counted : l.number + length l.rest ≤ length l.fn.bytes;
}

abbrev pub decreases-loop-rest : goal.decreases-loop-rest
decreases-loop-rest l = length l.rest
