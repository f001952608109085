use Rattle.std.proofs.Common.{All}
use Rattle.std.specs.List.Sorted.{IsStrictlyIncreasing}
use Rattle.frs_disk.specs.Disk.{IsNumber}
use Rattle.frs_main.proofs.Rising.{AllUpTo}
use Rattle.frs_main.proofs.folder.rising.Given as goal

-- what is kept rises up to the last
abbrev pub invariant-loop-number : goal.invariant-loop-number
invariant-loop-number l = record {
  rising : IsStrictlyIncreasing l.kept.items;
  in_range : All IsNumber l.kept.items;
  last : AllUpTo l.last l.kept.items;
}
