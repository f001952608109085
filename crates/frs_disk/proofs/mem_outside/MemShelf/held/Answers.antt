use Rattle.std.proofs.Common.{◌∙◌, ap, sym}
use Rattle.std.specs.FinMap.{entries-from_sorted}
use Rattle.frs_disk.specs.Outside.{shelf_cmp}
use Rattle.frs_disk.specs.ShelfEntries.{shelf_entries}
use Rattle.frs_disk.proofs.mem_outside.MemShelf.held.Goals as goal

pub returns : goal.returns
returns c = entries-from_sorted shelf_cmp (shelf_entries c.args.self.now.held.items) c.args.self.now.rising ∙ ap shelf_entries (sym c.deref.ensures.value)
