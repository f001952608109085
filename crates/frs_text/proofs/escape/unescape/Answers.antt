use Rattle.std.proofs.Common.{ap, sym, ◌∙◌}
use Rattle.frs_text.specs.LineReadings.{after_front}
use Rattle.frs_text.proofs.Unescape.{after_front-push}
use Rattle.frs_text.proofs.escape.unescape.Goals as goal

pub loop-rest-preserved : goal.loop-rest-preserved
loop-rest-preserved c = rw c.in_ok-push.ensures.items
    (after_front-push c.loop-rest.bytes.items c.in-Some.byte _ ∙ ap (after_front c.loop-rest.bytes.items) (sym c.in-Some.ensures.found) ∙ c.loop-rest.invariant)
