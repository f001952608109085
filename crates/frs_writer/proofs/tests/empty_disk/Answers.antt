use Rattle.std.proofs.Common.{◌∙◌, [], ℕ, List, ap, Vec}
use Rattle.std.specs.declared.alloc.Global.{Global}
use Rattle.std.specs.FinMap.{entries, from_entries}
use Rattle.std.specs.Ordering.{nat_cmp}
use Rattle.frs_disk.specs.Disk.{Image}
use Rattle.frs_disk.specs.Files.{plain_files}
use Rattle.frs_writer.proofs.TestDisks.{as_given}
use Rattle.frs_writer.proofs.tests.empty_disk.Goals as goal
use Rattle.frs_types.proofs.Results.{if_ok_both}

pub returns : goal.returns
returns c = if_ok_both _ _ _ c.of.result
    (λ disk reads restarted. (
      ap (λ (i : Image). entries i) (reads ∙ ap (λ (l : List (ℕ × Vec ℕ Global)). from_entries {R = nat_cmp} (plain_files l)) c.new.ensures.items) ∙ as_given [] tt,
      restarted.none,
    ))
    c.of.ensures.reads c.of.ensures.restarted
