-- Files in order: none, and with fewer half-made ones.
use Rattle.std.proofs.Common.{◌≡◌, ℕ, List, [], ◌∷◌, ◌++◌, length, refl, sym, ap, subst, ◌∙◌, arith, length-append, map}
use Rattle.std.specs.List.Sorted.{IsStrictlyIncreasing}
use Rattle.std.proofs.lemmas.List.{append-nil}
use Rattle.frs_segment.specs.Order.{IsInOrder, firsts_of}
use Rattle.frs_segment.specs.Segments.{File, FileList, WholeSegment, open_files}

-- there is no file
pub no_files : (most next : ℕ) → IsInOrder most next [] []
no_files most next = record { numbers = refl; half_made = []; files = refl; few = omega arith; rise = λ k within. absurd (omega (arith, within)) }

-- where no file is half-made at most one is
pub more_half : {next : ℕ} {image : FileList} {segments : List WholeSegment} → IsInOrder 0 next image segments → IsInOrder 1 next image segments
more_half order = record { numbers = order.numbers; half_made = order.half_made; files = order.files; few = omega (arith, order.few); rise = order.rise }

-- where all files are open none is half-made
pub none_half : {most : ℕ} (few next : ℕ) (image : FileList) (segments : List WholeSegment) → open_files image ≡ image → IsInOrder most next image segments → IsInOrder few next image segments
none_half few next image segments all order =
    let nothing : order.half_made ≡ [] = no_more order.half_made (omega (arith, ap length all, ap length order.files, length-append (open_files image) order.half_made)) in
    record {
      numbers = order.numbers;
      half_made = [];
      files = sym all ∙ sym (append-nil (open_files image));
      few = omega arith;
      rise = subst (λ (fs : FileList). IsStrictlyIncreasing (firsts_of segments ++ map (λ (f : File). next) fs)) nothing order.rise;
    }
  where
    no_more : (files : FileList) → length files ≡ 0 → files ≡ []
    no_more [] is = refl
    no_more (f ∷ files) is = absurd (omega (arith, is))
