-- The files of a disk that was just made.
use Rattle.std.proofs.Common.{◌≡◌, ◌∙◌, [], ◌∷◌, ℕ, List, sym, subst, refl}
use Rattle.std.specs.Prelude.{T, IsSome}
use Rattle.std.specs.Cmp.{nat_cmp_total}
use Rattle.std.specs.FinMap.{entries, entries_sorted, from_entries, get, get-entries, get-from_entries, nat_cmp-IsAntisymmetric}
use Rattle.std.specs.FinMap.Entries.{is_sorted, same_entries}
use Rattle.std.specs.Ordering.{nat_cmp}
use Rattle.frs_disk.specs.Disk.{Image}
use Rattle.frs_writer.proofs.NewestFile.{last_get}

-- entries in rising order are those of the map that is made of them
pub as_given : (files : List (ℕ × List ℕ)) → T (is_sorted nat_cmp files) → entries (from_entries {R = nat_cmp} files) ≡ files
as_given files rising = same_entries nat_cmp nat_cmp_total nat_cmp-IsAntisymmetric (entries (from_entries files)) files (entries_sorted (from_entries files)) rising
    (λ q. sym (get-entries (from_entries files) q) ∙ get-from_entries nat_cmp_total files q)

pub there : (image : Image) (n : ℕ) (bytes : List ℕ) → entries image ≡ (n, bytes) ∷ [] → IsSome (get image n)
there image n bytes is = subst IsSome (sym (last_get image [] n bytes is)) refl
