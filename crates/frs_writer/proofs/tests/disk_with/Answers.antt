use Rattle.std.proofs.Common.{◌≡◌, ◌∙◌, [], ◌∷◌, ◌++◌, ℕ, List, ap, Vec}
use Rattle.std.specs.declared.alloc.Global.{Global}
use Rattle.std.specs.FinMap.{entries, from_entries}
use Rattle.std.specs.Ordering.{nat_cmp}
use Rattle.frs_disk.specs.Disk.{Image}
use Rattle.frs_disk.specs.Files.{plain_files}
use Rattle.frs_writer.proofs.TestDisks.{as_given, there}
use Rattle.frs_writer.proofs.tests.disk_with.Goals as goal
use Rattle.frs_types.proofs.Results.{if_ok_both}

one_entry : (image : Image) (n : ℕ) (bytes : Vec ℕ Global) (files : List (ℕ × Vec ℕ Global)) → files ≡ (n, bytes) ∷ [] → image ≡ from_entries (plain_files files) → entries image ≡ (n, bytes.items) ∷ []
one_entry image n bytes files is reads = ap (λ (i : Image). entries i) (reads ∙ ap (λ (l : List (ℕ × Vec ℕ Global)). from_entries {R = nat_cmp} (plain_files l)) is) ∙ as_given ((n, bytes.items) ∷ []) tt

pub returns : goal.returns
returns c =
    let made = c.in_ok-push.ensures.items ∙ ap (λ (f : List (ℕ × Vec ℕ Global)). f ++ (c.args.number, c.args.bytes) ∷ []) c.new-files.ensures.items in
    if_ok_both _ _ _ c.of.result
    (λ disk reads restarted.
    let one = one_entry _ c.args.number c.args.bytes c.push.new.self.items made reads in
    (one, restarted.none, there _ c.args.number c.args.bytes.items one))
    c.of.ensures.reads c.of.ensures.restarted
