use Rattle.std.proofs.Common.{◌≡◌, ◌∙◌, [], ◌∷◌, ◌++◌, ℕ, List, ap, sym, subst, refl, Vec, Global}
use Rattle.std.specs.Prelude.{IsSome}
use Rattle.std.specs.FinMap.{get, find, from_entries, get-from_entries}
use Rattle.std.specs.Cmp.{nat_cmp_total}
use Rattle.std.specs.Ordering.{nat_cmp}
use Rattle.frs_disk.specs.Disk.{Image}
use Rattle.frs_disk.specs.Files.{plain_files}
use Rattle.frs_types.proofs.Results.{if_ok}
use Rattle.frs_segment.proofs.tests.disk_with.Goals as goal

one_file : (image : Image) (files : List (ℕ × Vec ℕ Global)) (bytes : Vec ℕ Global) → image ≡ from_entries (plain_files files) → files ≡ (1, bytes) ∷ [] → IsSome (get image 1)
one_file image files bytes reads is =
    let e : get image 1 ≡ find nat_cmp 1 ((1, bytes.items) ∷ []) = ap (λ (i : Image). get i 1) (reads ∙ ap (λ (f : List (ℕ × Vec ℕ Global)). from_entries {R = nat_cmp} (plain_files f)) is) ∙ get-from_entries nat_cmp_total ((1, bytes.items) ∷ []) 1 in
    subst IsSome (sym e) refl

pub returns : goal.returns
returns c =
    let made = c.in_ok-push.ensures.items ∙ ap (λ (f : List (ℕ × Vec ℕ Global)). f ++ (1, c.args.bytes) ∷ []) c.new-files.ensures.items in
    if_ok _ _ c.of.result (λ disk reads. one_file _ c.push.new.self.items c.args.bytes reads made) c.of.ensures.reads
