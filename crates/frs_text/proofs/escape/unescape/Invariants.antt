use Rattle.std.proofs.Common.{◌≡◌, length}
use Rattle.frs_text.specs.Scripts.{escape_meaning}
use Rattle.frs_text.specs.LineReadings.{after_front}
use Rattle.frs_text.proofs.escape.unescape.Given as goal

abbrev pub invariant-loop-rest : goal.invariant-loop-rest
invariant-loop-rest l = after_front l.bytes.items (escape_meaning l.rest) ≡ escape_meaning l.word

abbrev pub decreases-loop-rest : goal.decreases-loop-rest
decreases-loop-rest l = length l.rest
