use Rattle.std.proofs.Common.{◌∙◌, ℕ, List, ap, filter, nat_lt, rules}
use Rattle.std.proofs.lemmas.Fn.{filter_same}
use Rattle.frs_recovery.proofs.recovery.numbers_above.Goals as goal

pub returns : goal.returns
returns c =
    filter_same _ (nat_lt c.args.least) _ (λ x b f' k. search rules) _ _ c.retain.ensures.filtered
    ∙ ap (λ (x : List ℕ). filter (nat_lt c.args.least) x) c.reverse.ensures.items
