-- Lists of files by rising number.
use Rattle.std.proofs.Common.{◌≡◌, ◌≢◌, ℕ, ◌<◌, Bool, cond, T, List, [], ◌∷◌, ◌++◌, Some, refl, ap, ◌∙◌, arith, IsTrue}
use Rattle.std.specs.List.{list_all}
use Rattle.std.proofs.Math.Dec.{ltb}
use Rattle.std.proofs.lemmas.Bool.{ne_eqb, eq-eqb, lt-ltb, and_from}
use Rattle.std.specs.Ordering.{nat_cmp}
use Rattle.std.specs.Cmp.{unsigned_tied}
use Rattle.std.specs.FinMap.Entries.{find, below_all, is_sorted}
use Rattle.frs_segment.specs.Segments.{File}
use Rattle.frs_types.proofs.Truth.{and_first, and_second, less_by_cmp}

-- the number n is below that of a file among these
below_mid : (x : ℕ) (front : List File) (file : File) (back : List File) → T (below_all nat_cmp x (front ++ file ∷ back)) → x < file.0
below_mid x [] file back is = less_by_cmp x file.0 (and_first _ _ is)
below_mid x (f ∷ front) file back is = below_mid x front file back (and_second _ _ is)

above_all : (x : ℕ) (files : List File) → T (below_all nat_cmp x files) → IsTrue (list_all (λ (f : File). ltb x f.0) files)
above_all x [] is = refl
above_all x (f ∷ files) is = and_from (ltb x f.0) (list_all (λ (g : File). ltb x g.0) files) (lt-ltb x f.0 (less_by_cmp x f.0 (and_first _ _ is))) (above_all x files (and_second _ _ is))

-- before a file there are only lesser numbers, and behind it only greater ones
pub lesser_before : (front : List File) (file : File) (back : List File) → T (is_sorted nat_cmp (front ++ file ∷ back)) → IsTrue (list_all (λ (f : File). ltb f.0 file.0) front)
lesser_before [] file back is = refl
lesser_before (f ∷ front) file back is =
    and_from (ltb f.0 file.0) (list_all (λ (g : File). ltb g.0 file.0) front) (lt-ltb f.0 file.0 (below_mid f.0 front file back (and_first _ _ is))) (lesser_before front file back (and_second _ _ is))

pub greater_behind : (front : List File) (file : File) (back : List File) → T (is_sorted nat_cmp (front ++ file ∷ back)) → IsTrue (list_all (λ (f : File). ltb file.0 f.0) back)
greater_behind [] file back is = above_all file.0 back (and_first _ _ is)
greater_behind (f ∷ front) file back is = greater_behind front file back (and_second _ _ is)

-- a file is found by its number
pub found_mid : (front : List File) (file : File) (back : List File) → T (is_sorted nat_cmp (front ++ file ∷ back)) → find nat_cmp file.0 (front ++ file ∷ back) ≡ Some file.1
found_mid [] file back is = ap (λ (t : Bool). cond t (Some file.1) (find nat_cmp file.0 back)) (unsigned_tied file.0 file.0 ∙ eq-eqb file.0 file.0 refl)
found_mid (f ∷ front) file back is =
    let lt : f.0 < file.0 = below_mid f.0 front file back (and_first _ _ is) in
    let other : file.0 ≢ f.0 = λ e. omega (arith, lt, e) in
    ap (λ (t : Bool). cond t (Some f.1) (find nat_cmp file.0 (front ++ file ∷ back))) (unsigned_tied file.0 f.0 ∙ ne_eqb file.0 f.0 other) ∙ found_mid front file back (and_second _ _ is)
