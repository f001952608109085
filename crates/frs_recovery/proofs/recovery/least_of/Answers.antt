use Rattle.std.proofs.Common.{ap, sym, ◌∙◌, Option}
use Rattle.std.specs.Prelude.{unwrap_or, option_map}
use Rattle.frs_segment.specs.declared.layout.Segment.{Segment}
use Rattle.frs_recovery.proofs.Lists.{last_get}
use Rattle.frs_recovery.proofs.recovery.least_of.Goals as goal

pub returns-in-Some : goal.returns-in-Some
returns-in-Some c = ap (λ (o : Option Segment). unwrap_or (option_map (λ (s : Segment). s.number) o) 0) (c.in-Some.ensures.value ∙ sym (last_get c.args.segments.now))
