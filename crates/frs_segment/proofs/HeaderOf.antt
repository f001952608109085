-- What a header that is read tells, and that a file that begins with a header is read so.
use Rattle.std.proofs.Common.{◌≡◌, inl, inr, ℕ, ◌+◌, ◌^◌, ◌<◌, ◌≤◌, Bool, false, not, ◌&&◌, cond, List, ◌∷◌, ◌++◌, length, get_or, take, drop, Result, Ok, Err, sym, ap, ◌∙◌, arith}
use Rattle.std.specs.Prelude.{slice_index, slice_range, codes}
use Rattle.std.specs.Str.{bytes_eq}
use Rattle.std.proofs.Math.Dec.{leb, eqb}
use Rattle.std.specs.Int.{w64, to_be_bytes, from_be_bytes}
use Rattle.std.proofs.lemmas.Bool.{cases_lt, leb-true, leb-false, le-leb, lt-leb, eqb-true, eqb-false, eq-eqb, ne_eqb, and_parts, and_from, not-false, not_from_true}
use Rattle.std.proofs.lemmas.Slice.Eq.{bytes_eq-Decides}
use Rattle.std.proofs.lemmas.List.{drop_more, take_all, length-take-le, get_or-take}
use Rattle.std.proofs.lemmas.Nat.{from_be_bytes-to_be_bytes_8}
use Rattle.frs_segment.specs.Front.{header}
use Rattle.frs_segment.specs.declared.fault.ScanFault.{ScanFault}
use Rattle.frs_segment.specs.declared.fault.ScanFault.TheVariants.{HalfMade, BadHeader, NumberLimit}
use Rattle.frs_segment.specs.Segments.{File, is_open_file}
use Rattle.frs_segment.specs.Scanning.{field_at, header_of}
use Rattle.frs_frame.proofs.Takes.{IsBytes}
use Rattle.frs_segment.proofs.IsChunk.{cut, passed, ok, ok_is, number_front64, window}

-- a header that has passed the tests
pub record Headed (file : File) (first : ℕ) : Type 0 where
  pub gate : slice_index file.1 0 ≡ 1
  pub long : 23 ≤ length file.1
  pub letters : slice_range file.1 1 5 ≡ codes "FRSS"
  pub version : slice_index file.1 5 ≡ 1
  pub number : field_at w64 6 file.1 ≡ file.0
  pub first_is : field_at w64 14 file.1 ≡ first
  pub some : 1 ≤ first
  pub below : first < 2 ^ 62

at_least : (lsn first : ℕ) → lsn ≡ first → (lsn ≡ 0 → ⊥) → 1 ≤ first
at_least lsn first is other = omega arith

at_most : (lsn first : ℕ) → lsn ≡ first → lsn < 2 ^ 62 → first < 2 ^ 62
at_most lsn first is lt = omega arith

pub header_told : (file : File) (first : ℕ) → header_of file ≡ Ok first → Headed file first
unfolding header_of
header_told file first e =
    let lsn = field_at w64 14 file.1 in
    let letters = slice_range file.1 1 5 in
    let a = passed _ _ _ first e in
    let b = passed _ _ _ first a.1 in
    let c = passed _ _ _ first b.1 in
    let d = passed _ _ _ first c.1 in
    let f = passed _ _ _ first d.1 in
    let g = passed _ _ _ first f.1 in
    let opened = and_parts (leb 23 (length file.1)) (eqb (slice_index file.1 0) 1) (not-false (is_open_file file) a.0) in
    let is : lsn ≡ first = ok_is lsn first g.1 in
    record {
      gate = eqb-true (slice_index file.1 0) 1 opened.1;
      long = leb-true 23 (length file.1) opened.0;
      letters = (bytes_eq-Decides letters (codes "FRSS")).0 (not-false (bytes_eq letters (codes "FRSS")) b.0);
      version = eqb-true (slice_index file.1 5) 1 (not-false (eqb (slice_index file.1 5) 1) c.0);
      number = eqb-true (field_at w64 6 file.1) file.0 (not-false (eqb (field_at w64 6 file.1) file.0) d.0);
      first_is = is;
      some = at_least lsn first is (eqb-false lsn 0 f.0);
      below = at_most lsn first is (leb-false (2 ^ 62) lsn g.0);
    }

pub header_again : (file : File) (first : ℕ) → Headed file first → header_of file ≡ Ok first
unfolding header_of
header_again file first h =
    let lsn = field_at w64 14 file.1 in
    let letters = slice_range file.1 1 5 in
    let a : not (is_open_file file) ≡ false = not_from_true (is_open_file file) (and_from (leb 23 (length file.1)) (eqb (slice_index file.1 0) 1) (le-leb _ _ h.long) (eq-eqb _ _ h.gate)) in
    let b : not (bytes_eq letters (codes "FRSS")) ≡ false = not_from_true _ ((bytes_eq-Decides letters (codes "FRSS")).1 h.letters) in
    let c : not (eqb (slice_index file.1 5) 1) ≡ false = not_from_true _ (eq-eqb _ _ h.version) in
    let d : not (eqb (field_at w64 6 file.1) file.0) ≡ false = not_from_true _ (eq-eqb _ _ h.number) in
    let f : eqb lsn 0 ≡ false = ne_eqb lsn 0 (λ zero_is. omega (arith, zero_is, h.first_is, h.some)) in
    let g : leb (2 ^ 62) lsn ≡ false = lt-leb _ _ (omega (arith, h.first_is, h.below)) in
    rw (a, b, c, d, f, g) (ap ok h.first_is)

-- the header is read off the first 23 bytes of the file
abbrev header_by : ℕ → Bool → List ℕ → ℕ → ℕ → ℕ → Result ℕ ScanFault
header_by number opened letters version own first =
    cond (not opened) (Err HalfMade) (cond (not (bytes_eq letters (codes "FRSS"))) (Err (BadHeader 1)) (cond (not (eqb version 1)) (Err (BadHeader 5))
    (cond (not (eqb own number)) (Err (BadHeader 6)) (cond (eqb first 0) (Err (BadHeader 14)) (cond (leb (2 ^ 62) first) (Err (NumberLimit first)) (Ok first))))))

by_parts : (number : ℕ) (text : List ℕ) → length (take 23 text) ≡ 23 → 23 ≤ length text → header_of (number, take 23 text) ≡ header_of (number, text)
unfolding header_of
by_parts number text size long =
    let opened : is_open_file (number, take 23 text) ≡ is_open_file (number, text) =
    ap (λ (b : Bool). b && eqb (get_or (take 23 text) 0 0) 1) (le-leb 23 (length (take 23 text)) (omega (arith, size)) ∙ sym (le-leb 23 (length text) long))
    ∙ ap (λ (g : ℕ). leb 23 (length text) && eqb g 1) (get_or-take 23 text 0 0 (omega arith)) in
    let letters : take 4 (drop 1 (take 23 text)) ≡ take 4 (drop 1 text) = window 4 1 23 text (omega arith) in
    let version : get_or (take 23 text) 5 0 ≡ get_or text 5 0 = get_or-take 23 text 5 0 (omega arith) in
    let own : field_at w64 6 (take 23 text) ≡ field_at w64 6 text = ap (from_be_bytes w64) (window 8 6 23 text (omega arith)) in
    let first : field_at w64 14 (take 23 text) ≡ field_at w64 14 text = ap (from_be_bytes w64) (window 8 14 23 text (omega arith)) in
    ap (λ (x : Bool). header_by number x (take 4 (drop 1 (take 23 text))) (get_or (take 23 text) 5 0) (field_at w64 6 (take 23 text)) (field_at w64 14 (take 23 text))) opened
    ∙ ap (λ (x : List ℕ). header_by number (is_open_file (number, text)) x (get_or (take 23 text) 5 0) (field_at w64 6 (take 23 text)) (field_at w64 14 (take 23 text))) letters
    ∙ ap (λ (x : ℕ). header_by number (is_open_file (number, text)) (take 4 (drop 1 text)) x (field_at w64 6 (take 23 text)) (field_at w64 14 (take 23 text))) version
    ∙ ap (λ (x : ℕ). header_by number (is_open_file (number, text)) (take 4 (drop 1 text)) (get_or text 5 0) x (field_at w64 14 (take 23 text))) own
    ∙ ap (header_by number (is_open_file (number, text)) (take 4 (drop 1 text)) (get_or text 5 0) (field_at w64 6 text)) first

pub header_alike : (number : ℕ) (text : List ℕ) → header_of (number, take 23 text) ≡ header_of (number, text)
header_alike number text =
    elim (cases_lt (length text) 23) [
      | inl short ↦ ap (λ (x : List ℕ). header_of (number, x)) (take_all 23 text (omega arith))
      | inr long ↦
          by_parts number text (length-take-le 23 text long) long
    ]

pub header_bytes : (file : File) (first : ℕ) → IsBytes (take 23 file.1) → Headed file first → file.1 ≡ (1 ∷ header file.0 first) ++ drop 22 file.1
header_bytes file first fits h =
    let text = file.1 in
    let n : to_be_bytes w64 file.0 ≡ take 8 (drop 6 text) = ap (to_be_bytes w64) (sym h.number) ∙ number_front64 23 6 text fits (omega arith) h.long in
    let f : to_be_bytes w64 first ≡ take 8 (drop 14 text) = ap (to_be_bytes w64) (sym h.first_is) ∙ number_front64 23 14 text fits (omega arith) h.long in
    let behind : drop 6 text ≡ to_be_bytes w64 file.0 ++ (to_be_bytes w64 first ++ drop 22 text) =
    sym (ap (λ (x : List ℕ). x ++ (to_be_bytes w64 first ++ drop 22 text)) n ∙ ap (λ (x : List ℕ). take 8 (drop 6 text) ++ (x ++ drop 22 text)) f
    ∙ ap (λ (x : List ℕ). take 8 (drop 6 text) ++ x) (cut 8 14 text) ∙ cut 8 6 text) in
    let versioned : drop 5 text ≡ 1 ∷ drop 6 text = drop_more text 5 0 (omega (arith, h.long)) ∙ ap (λ (g : ℕ). g ∷ drop 6 text) h.version in
    let lettered : drop 1 text ≡ codes "FRSS" ++ drop 5 text = sym (cut 4 1 text) ∙ ap (λ (x : List ℕ). x ++ drop 5 text) h.letters in
    let gated : text ≡ 1 ∷ drop 1 text = drop_more text 0 0 (omega (arith, h.long)) ∙ ap (λ (g : ℕ). g ∷ drop 1 text) h.gate in
    gated ∙ ap (λ (x : List ℕ). 1 ∷ x) lettered ∙ ap (λ (x : List ℕ). 1 ∷ (codes "FRSS" ++ x)) versioned ∙ ap (λ (x : List ℕ). 1 ∷ (codes "FRSS" ++ (1 ∷ x))) behind

-- a file that begins with a header has passed the tests
pub headed_from : (file : File) (first : ℕ) (tail : List ℕ) → file.1 ≡ (1 ∷ header file.0 first) ++ tail → 1 ≤ length tail → file.0 < 2 ^ 62 → 1 ≤ first → first < 2 ^ 62 → Headed file first
headed_from file first tail e some number_below first_some first_below = record {
  gate = ap (λ (x : List ℕ). slice_index x 0) e;
  long = omega (arith, ap length e, some);
  letters = ap (λ (x : List ℕ). slice_range x 1 5) e;
  version = ap (λ (x : List ℕ). slice_index x 5) e;
  number = ap (field_at w64 6) e ∙ from_be_bytes-to_be_bytes_8 file.0 (omega (arith, number_below));
  first_is = ap (field_at w64 14) e ∙ from_be_bytes-to_be_bytes_8 first (omega (arith, first_below));
  some = first_some;
  below = first_below;
}
