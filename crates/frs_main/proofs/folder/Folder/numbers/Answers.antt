use Rattle.std.proofs.Common.{List, ℕ, All, subst, sym}
use Rattle.std.proofs.lemmas.List.Sorted.{All-permutation}
use Rattle.frs_disk.specs.Disk.{IsNumber}
use Rattle.frs_main.proofs.folder.Folder.numbers.Goals as goal

pub rising-requires : goal.rising-requires
rising-requires c =
    subst (λ (l : List ℕ). All IsNumber l) (sym c.deref.ensures.value)
    (All-permutation IsNumber c.in_ok-numbers.numbers.items c.sort_unstable.new.self.items c.sort_unstable.ensures.permutation c.in_ok-numbers.ensures)
