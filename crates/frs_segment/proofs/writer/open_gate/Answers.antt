use Rattle.std.proofs.Common.{◌∙◌, arith}
use Rattle.std.proofs.lemmas.Grind.{common_steps}
use Rattle.frs_segment.proofs.IsInTheMaking.{overwritten_gate, any_gate, there_some}
use Rattle.frs_segment.proofs.writer.open_gate.Goals as goal

pub returns-clause-opened : goal.returns-clause-opened
returns-clause-opened g c = grind (arith, common_steps, overwritten_gate)

pub returns-clause-images : goal.returns-clause-images
returns-clause-images g c told synced x left =
    let from = c.write_durably.ensures.images x left in
    any_gate _ c.args.gate_at _ _ (c.requires told) (synced from.0 from.1 ∙ there_some _ c.args.gate_at (c.requires told)) from.2
