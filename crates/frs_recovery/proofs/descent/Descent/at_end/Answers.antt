use Rattle.std.proofs.Common.{◌∙◌, ◌-◌, List, length, ap}
use Rattle.std.specs.List.{slice_get}
use Rattle.frs_segment.specs.declared.layout.Segment.{Segment}
use Rattle.frs_recovery.proofs.IsEnough.{end_is_enough}
use Rattle.frs_recovery.proofs.descent.Descent.at_end.Goals as goal

pub returns-in_default-clause-whole : goal.returns-in_default-clause-whole
returns-in_default-clause-whole c =
    end_is_enough c.args.self.now c.in-Some.oldest.now (c.in-Some.ensures.value ∙ ap (λ (x : List Segment). slice_get x (length x - 1)) c.deref.ensures.value) c.if-oldest-gt-FIRST_LSN.false
