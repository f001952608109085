use Rattle.std.proofs.Common.{◌≡◌, ◌^◌, ◌<◌, length, take, IsTrue}
use Rattle.std.specs.Prelude.{sum_by}
use Rattle.std.specs.List.{AllByRecursion}
use Rattle.frs_history.specs.Scripts.{is_script}
use Rattle.frs_book.proofs.ledger.count_lines.Given as goal

abbrev pub invariant-loop-script : goal.invariant-loop-script
invariant-loop-script l = record {
  count : l.count ≡ sum_by length (take l.script-index l.scripts);
  fits : l.count < 2 ^ 64;
  scripts : AllByRecursion (λ lines. IsTrue (is_script lines)) (take l.script-index l.scripts);
}
