use Rattle.frs_segment.proofs.IsInTheMaking.{there_some, torn_front}
use Rattle.std.proofs.Common.{◌∙◌}
use Rattle.frs_segment.proofs.writer.put_body.Goals as goal

pub returns-clause-images : goal.returns-clause-images
returns-clause-images g c told synced x left =
    let from = c.write_durably.ensures.images x left in
    torn_front _ _ _ _ _ (synced from.0 from.1 ∙ there_some _ c.args.gate_at (c.requires.gate told)) from.2
