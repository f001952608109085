use Rattle.std.proofs.Common.{◌∙◌, List, ℕ, Vec, ap}
use Rattle.std.specs.FinMap.{from_sorted}
use Rattle.std.specs.declared.alloc.Global.{Global}
use Rattle.frs_disk.specs.Outside.{shelf_cmp}
use Rattle.frs_disk.specs.ShelfEntries.{shelf_entries}
use Rattle.frs_disk.proofs.ShelfLemmas.{from_none}
use Rattle.frs_disk.proofs.mem_outside.MemShelf.of.Goals as goal

pub returns-clause-empty : goal.returns-clause-empty
returns-clause-empty c = ap (λ (l : List (ℕ × ℕ × Vec ℕ Global)). from_sorted {R = shelf_cmp} (shelf_entries l)) c.new.ensures.items ∙ from_none
