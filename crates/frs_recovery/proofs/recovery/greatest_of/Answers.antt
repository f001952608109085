use Rattle.std.proofs.Common.{ℕ, Option, ap, sym, ◌∙◌}
use Rattle.std.specs.Prelude.{unwrap_or}
use Rattle.frs_recovery.proofs.Lists.{last_get}
use Rattle.frs_recovery.proofs.recovery.greatest_of.Goals as goal

pub returns : goal.returns
returns c = c.unwrap_or.ensures ∙ ap (λ (o : Option ℕ). unwrap_or o 0) (c.copied.ensures ∙ c.last.ensures.value ∙ sym (last_get c.args.numbers.now))
