use Rattle.frs_segment.proofs.TellsHead.{text_cause}
use Rattle.frs_segment.proofs.walk.Walk.head.Goals as goal

pub returns-clause-cause : goal.returns-clause-cause
returns-clause-cause g c = text_cause _ _ c.head_behind.result c.in_ok-front.ensures.cause c.head_behind.ensures.of_text
