use Rattle.std.proofs.Common.{◌∙◌, ◌-◌, List, length, ap}
use Rattle.std.specs.List.{slice_get}
use Rattle.frs_segment.specs.declared.layout.Segment.{Segment}
use Rattle.frs_recovery.proofs.IsEnough.{enough_is, not_enough}
use Rattle.frs_recovery.proofs.descent.Descent.is_enough.Goals as goal

pub returns-in-Some-Some : goal.returns-in-Some-Some
returns-in-Some-Some c =
    enough_is c.args.self.now c.in-Some-Some.oldest.now c.in-Some-Some.lowest (c.in-Some-Some.ensures.value ∙ ap (λ (x : List Segment). slice_get x (length x - 1)) c.deref.ensures.value) c.in-Some-Some.ensures'

pub returns-in_default : goal.returns-in_default
returns-in_default c = not_enough c.args.self.now c.in_default.ensures'
