use Rattle.std.proofs.Common.{ℕ, nat_lt, rules}
use Rattle.std.proofs.lemmas.Fn.{filter_same}
use Rattle.frs_recovery.proofs.recovery.numbers_below.Goals as goal

pub returns : goal.returns
returns c = filter_same _ (λ (n : ℕ). nat_lt n c.args.least) _ (λ x b f' k. search rules) _ _ c.retain.ensures.filtered
