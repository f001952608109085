use Rattle.std.proofs.Common.{rules}
use Rattle.std.proofs.lemmas.List.Sorted.{answers_always, ranks_by}
use Rattle.std.specs.Borrow.{Bor}
use Rattle.frs_types.specs.declared.record.Entry.{Entry}
use Rattle.frs_recovery.specs.Answers.{place_of_entry}
use Rattle.frs_text.proofs.InOrder.{place_total, rows_in_order, rows_text}
use Rattle.frs_text.proofs.maps_text.in_order.Goals as goal

pub returns-clause-pairs : goal.returns-clause-pairs
returns-clause-pairs c =
    rows_in_order _ _ _ c.in_ok-rows.ensures c.sort_unstable_by.ensures.permutation
    (c.sort_unstable_by.ensures.sorted _ (ranks_by place_total (λ (r : Bor Entry). place_of_entry r.now)) (answers_always _ _ _ (λ f a r g h. search rules))) c.requires

pub returns-clause-lines : goal.returns-clause-lines
returns-clause-lines c = rows_text _ _ (returns-clause-pairs c)
