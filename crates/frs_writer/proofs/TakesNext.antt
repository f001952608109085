-- The files of an image: which are open, and when they are in order.
use Rattle.std.proofs.Common.{◌≡◌, inl, inr, ⊎_elim, ℕ, zero, suc, ◌+◌, ◌<◌, ◌≤◌, Bool, true, false, cond, List, [], ◌∷◌, ◌++◌, length, refl, sym, ap, subst, ◌∙◌, arith, length-append, nat_le, nat_eq, slice_index, get_or}
use Rattle.std.specs.List.{AllZip, range_with_len}
use Rattle.std.specs.List.Sorted.{IsStrictlyIncreasing}
use Rattle.std.proofs.lemmas.Bool.{and_from, and_left, and_right, cases_lt, ne_eqb, le-leb, lt-leb}
use Rattle.std.proofs.lemmas.List.{append-nil, map-append}
use Rattle.std.proofs.lemmas.List.Elements.{filter-append}
use Rattle.std.proofs.Math.ListN.{get_or-append}
use Rattle.std.proofs.Math.Seq.{get_or-append_seam}
use Rattle.frs_segment.specs.Front.{header, IsHalfMade}
use Rattle.frs_segment.specs.Segments.{File, WholeSegment, IsSegment, FileList, chunks_bytes, segment_spelling, is_open_file, open_files}
use Rattle.frs_segment.specs.Order.{IsInOrder, firsts_of}
use Rattle.frs_segment.specs.Stores.{numbers_of}
use Rattle.frs_segment.proofs.IsInOrder.{no_files}
use Rattle.frs_writer.specs.LogImages.{TakesNext}

-- ---- open files

-- a file that begins as a segment and has a byte behind it is open
pub spelled_open : (n : ℕ) (s : WholeSegment) (gate : ℕ) (rest : List ℕ) → is_open_file (n, segment_spelling s ++ gate ∷ rest) ≡ true
spelled_open n s gate rest =
    let long : 23 ≤ length (segment_spelling s ++ gate ∷ rest) = omega (arith, length-append (segment_spelling s) (gate ∷ rest), length-append (1 ∷ header s.number s.first) (chunks_bytes s.first s.chunks)) in
    and_from _ _ (le-leb 23 (length (segment_spelling s ++ gate ∷ rest)) long) refl

pub half_shut : (n : ℕ) (b : List ℕ) → IsHalfMade b → is_open_file (n, b) ≡ false
half_shut n b half = ⊎_elim
    (λ short. and_left (nat_le 23 (length b)) (nat_eq (slice_index b 0) 1) (lt-leb 23 (length b) short))
    (λ gate. and_right (nat_le 23 (length b)) (nat_eq (slice_index b 0) 1) (ne_eqb (slice_index b 0) 1 gate)) half

pub open_more : (image : FileList) (f : File) → is_open_file f ≡ true → open_files (image ++ f ∷ []) ≡ open_files image ++ f ∷ []
open_more image f is = filter-append is_open_file image (f ∷ []) ∙ ap (λ (o : Bool). open_files image ++ cond o (f ∷ []) []) is

pub open_as_before : (image : FileList) (f : File) → is_open_file f ≡ false → open_files (image ++ f ∷ []) ≡ open_files image
open_as_before image f is = filter-append is_open_file image (f ∷ []) ∙ ap (λ (o : Bool). open_files image ++ cond o (f ∷ []) []) is ∙ append-nil (open_files image)

-- ---- files in order

pub all_open_more : (image : FileList) (f : File) → is_open_file f ≡ true → open_files image ≡ image → open_files (image ++ f ∷ []) ≡ image ++ f ∷ []
all_open_more image f is all = open_more image f is ∙ ap (λ (x : FileList). x ++ f ∷ []) all

rising_one : (n : ℕ) → IsStrictlyIncreasing (n ∷ [])
rising_one n k within = absurd (omega (arith, within))

pub rising_more : (ns : List ℕ) (last n : ℕ) → IsStrictlyIncreasing (ns ++ last ∷ []) → last < n → IsStrictlyIncreasing ((ns ++ last ∷ []) ++ n ∷ [])
rising_more ns last n rise lt k within =
    let all = ns ++ last ∷ [] in
    let size : length all ≡ length ns + 1 = length-append ns (last ∷ []) in
    let inside : k + 1 < length all + 1 = omega (arith, within, length-append all (n ∷ [])) in
    elim (cases_lt (k + 1) (length all)) [
      | inl lower ↦ omega (arith, rise k lower, get_or-append all (n ∷ []) 0 k (omega arith), get_or-append all (n ∷ []) 0 (k + 1) lower)
      | inr end ↦
          let is : k + 1 ≡ length all = omega arith in
          let before : k ≡ length ns = omega (arith, is, size) in
          omega (
            arith,
            lt,
            get_or-append all (n ∷ []) 0 k (omega arith),
            ap (λ (j : ℕ). get_or all j 0) before,
            get_or-append_seam ns last [] 0,
            ap (λ (j : ℕ). get_or (all ++ n ∷ []) j 0) is,
            get_or-append_seam all n [] 0,
          )
    ]

pub firsts_more : (segments : List WholeSegment) (s : WholeSegment) → firsts_of (segments ++ s ∷ []) ≡ firsts_of segments ++ s.first ∷ []
firsts_more segments s = map-append (λ (t : WholeSegment). t.first) segments (s ∷ [])

range_more : (a n : ℕ) → range_with_len a (suc n) ≡ range_with_len a n ++ (a + n) ∷ []
range_more a zero = ap (λ (m : ℕ). m ∷ []) (omega arith)
range_more a (suc n) = ap (λ (ms : List ℕ). a ∷ ms) (range_more (a + 1) n ∙ ap (λ (m : ℕ). range_with_len (a + 1) n ++ m ∷ []) (omega arith))

numbered_more : (image : FileList) (f : File) → numbers_of image ≡ range_with_len 1 (length image) → f.0 ≡ length image + 1 → numbers_of (image ++ f ∷ []) ≡ range_with_len 1 (length (image ++ f ∷ []))
numbered_more image f numbers is =
    let next : f.0 ≡ 1 + length image = omega (arith, is) in
    let more : suc (length image) ≡ length (image ++ f ∷ []) = omega (arith, length-append image (f ∷ [])) in
    map-append (λ (g : File). g.0) image (f ∷ []) ∙ ap (λ (ns : List ℕ). ns ++ f.0 ∷ []) numbers
    ∙ ap (λ (n : ℕ). range_with_len 1 (length image) ++ n ∷ []) next ∙ sym (range_more 1 (length image)) ∙ ap (range_with_len 1) more

-- the next file is a segment
pub with_open : (most next : ℕ) (front : FileList) (f : File) (segments : List WholeSegment) (s : WholeSegment) → is_open_file f ≡ true → TakesNext f.0 s.first front segments → IsInOrder most next (front ++ f ∷ []) (segments ++ s ∷ [])
with_open most next front f segments s opened t =
    let all = all_open_more front f opened t.all_open in
    record {
      numbers = numbered_more front f t.numbers t.number_is;
      half_made = [];
      files = sym all ∙ sym (append-nil (open_files (front ++ f ∷ [])));
      few = omega arith;
      rise = subst IsStrictlyIncreasing (sym (firsts_more segments s) ∙ sym (append-nil (firsts_of (segments ++ s ∷ [])))) t.rise;
    }

-- or it is half-made
pub with_half : (next : ℕ) (front : FileList) (f : File) (segments : List WholeSegment) → is_open_file f ≡ false → TakesNext f.0 next front segments → IsInOrder 1 next (front ++ f ∷ []) segments
with_half next front f segments shut t = record {
  numbers = numbered_more front f t.numbers t.number_is;
  half_made = f ∷ [];
  files = ap (λ (x : FileList). x ++ f ∷ []) (sym t.all_open ∙ sym (open_as_before front f shut));
  few = omega arith;
  rise = t.rise;
}

-- behind a segment with a record one more file can stand
pub takes_more : (next : ℕ) (front : FileList) (f : File) (segments : List WholeSegment) (s : WholeSegment) → is_open_file f ≡ true → TakesNext f.0 s.first front segments → s.first < next → TakesNext (f.0 + 1) next (front ++ f ∷ []) (segments ++ s ∷ [])
takes_more next front f segments s opened t lt = record {
  all_open = all_open_more front f opened t.all_open;
  numbers = numbered_more front f t.numbers t.number_is;
  number_is = omega (arith, t.number_is, length-append front (f ∷ []));
  rise = subst (λ (ns : List ℕ). IsStrictlyIncreasing (ns ++ next ∷ [])) (sym (firsts_more segments s)) (rising_more (firsts_of segments) s.first next t.rise lt);
}

-- without a file there is no segment
pub none_looked : (image older looked : FileList) (segments : List WholeSegment) → image ≡ [] → older ++ looked ≡ open_files image → AllZip IsSegment looked segments → segments ≡ []
none_looked image older looked segments none files each = no_segment looked segments (tail older looked (files ∙ ap open_files none)) each
  where
    tail : (front back : FileList) → front ++ back ≡ [] → back ≡ []
    tail [] back e = e
    tail (f ∷ front) back e = absurd cc

    no_segment : (files : FileList) (segments : List WholeSegment) → files ≡ [] → AllZip IsSegment files segments → segments ≡ []
    no_segment files [] none each = refl
    no_segment [] (s ∷ segments) none each = absurd each
    no_segment (f ∷ files) (s ∷ segments) none each = absurd cc

-- the first file has the number 1
pub takes_first : (number next : ℕ) (image : FileList) (segments : List WholeSegment) → image ≡ [] → segments ≡ [] → number ≡ 1 → TakesNext number next image segments
takes_first number next image segments none nothing is = record {
  all_open = ap open_files none ∙ sym none;
  numbers = subst (λ (x : FileList). numbers_of x ≡ range_with_len 1 (length x)) (sym none) refl;
  number_is = omega (arith, is, ap length none);
  rise = subst (λ (ss : List WholeSegment). IsStrictlyIncreasing (firsts_of ss ++ next ∷ [])) (sym nothing) (rising_one next);
}

pub none_order : (next : ℕ) (image : FileList) (segments : List WholeSegment) → image ≡ [] → segments ≡ [] → IsInOrder 1 next image segments
none_order next image segments none nothing =
    subst (λ (x : FileList). IsInOrder 1 next x segments) (sym none) (subst (IsInOrder 1 next []) (sym nothing) (no_files 1 next))
