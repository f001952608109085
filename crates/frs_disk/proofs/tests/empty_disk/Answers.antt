use Rattle.std.proofs.Common.{◌∙◌, ℕ, List, Result, Ok, Err, IfOk, Vec, ap}
use Rattle.std.specs.declared.alloc.Global.{Global}
use Rattle.std.specs.FinMap.{get, from_entries, get-empty}
use Rattle.std.specs.Ordering.{nat_cmp}
use Rattle.frs_types.proofs.Results.{if_ok_both}
use Rattle.frs_disk.specs.Disk.{Image}
use Rattle.frs_disk.specs.Files.{plain_files}
use Rattle.frs_disk.proofs.tests.empty_disk.Goals as goal

pub returns : goal.returns
returns c = if_ok_both _ _ _ c.of.result
    (λ disk reads restarted. (
      ap (λ (i : Image). get i 1) (reads ∙ ap (λ (l : List (ℕ × Vec ℕ Global)). from_entries {R = nat_cmp} (plain_files l)) c.new-2.ensures.items) ∙ get-empty nat_cmp 1,
      restarted.none 1,
    ))
    c.of.ensures.reads c.of.ensures.restarted
