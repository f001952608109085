-- A disk without files.
use Rattle.std.proofs.Common.{◌≡◌, ◌∙◌, ℕ, List, [], ap, sym}
use Rattle.std.specs.Ordering.{nat_cmp}
use Rattle.std.specs.FinMap.{entries, empty, entries-from_sorted}
use Rattle.frs_disk.proofs.Choices.{image_of-none}
use Rattle.frs_disk.specs.Disk.{Image}

pub entries_empty : entries {X = List ℕ} {R = nat_cmp} empty ≡ []
entries_empty = ap (λ (i : Image). entries i) (sym image_of-none) ∙ entries-from_sorted nat_cmp [] tt

pub no_entries : (image : Image) → image ≡ empty → entries image ≡ []
no_entries image is = ap (λ (i : Image). entries i) is ∙ entries_empty
