use Rattle.std.proofs.Common.{◌≡◌, ◌∙◌, ℕ, Vec, map, rules, sym}
use Rattle.std.specs.declared.alloc.Global.{Global}
use Rattle.frs_disk.specs.Outside.{greatest_of}
use Rattle.frs_disk.proofs.ShelfLemmas.{greatest_held}
use Rattle.frs_disk.proofs.mem_outside.shelf.MemShelfShelf.greatest.Goals as goal

pub returns-clause-greatest : goal.returns-clause-greatest
returns-clause-greatest c =
    let is : c.greatest_in.result ≡ greatest_of (map (λ (e : ℕ × ℕ × Vec ℕ Global). e.0) c.args.self.now.held.items) = search rules in
    is ∙ sym (greatest_held c.args.self.now.held.items c.args.self.now.rising)
