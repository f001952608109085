-- What the files that were looked at tell of the whole store.
use Rattle.std.proofs.Common.{◌&&◌, ◌≡◌, ℕ, zero, suc, ◌+◌, ◌-◌, ◌^◌, ◌<◌, ◌≤◌, Bool, true, false, not, cond, List, [], ◌∷◌, ◌++◌, Option, None, length, map, drop, reverse, refl, sym, ap, subst, ◌∙◌, append_assoc, arith, IsTrue, All, length-append, length-drop}
use Rattle.std.specs.Prelude.{filter, unwrap_or, option_map}
use Rattle.std.specs.List.{list_all, AllZip, AllByRecursion}
use Rattle.std.specs.Ordering.{nat_cmp}
use Rattle.std.specs.FinMap.Entries.{is_sorted}
use Rattle.std.proofs.Math.Dec.{ltb, leb, eqb}
use Rattle.std.proofs.lemmas.Bool.{ltb-true, lt-ltb, le-ltb, leb-true, eqb-true, and_parts}
use Rattle.std.proofs.lemmas.List.{append-nil, reverse-append, map-append}
use Rattle.std.proofs.lemmas.List.Elements.{filter-append, filter_agree, All-head, All-tail}
use Rattle.frs_types.specs.declared.record.Record.{Record}
use Rattle.frs_types.specs.Records.{numbered_records_from, numbered_records, named_lowest, are_allowed_from, from_lowest, next_lsn}
use Rattle.frs_disk.specs.Disk.{IsNumber}
use Rattle.frs_segment.specs.declared.layout.Segment.{Segment}
use Rattle.frs_segment.specs.Segments.{File, FileList, WholeSegment, IsSegment, is_open_file, open_files, records_of, all_records, end_of, first_of, follow_from, are_enough, SpellsBy}
use Rattle.frs_segment.specs.Stores.{numbers_of, is_below}
use Rattle.frs_segment.specs.Scanning.{places_of_segment}
use Rattle.frs_recovery.specs.Descent.{IsMeant}
use Rattle.frs_recovery.specs.OfferedRecords.{offered_records}
use Rattle.frs_recovery.specs.DescentEnd.{IsDownTo, end_of_newest, least_number}
use Rattle.frs_types.proofs.Truth.{from_is_true}
use Rattle.frs_recovery.proofs.RisingFiles.{lesser_before, greater_behind}
use Rattle.frs_recovery.proofs.Lists.{all_join, with_last, last_is}
use Rattle.frs_recovery.proofs.Reaches.{named_below, enough_with, meant_first}
use Rattle.frs_recovery.proofs.GoesDown.{half_files, segment_open}

-- ---- the newest segment and the oldest one

follow_end : (n : ℕ) (front : List WholeSegment) (t : WholeSegment) → IsTrue (follow_from n (front ++ t ∷ [])) → end_of t ≡ n + length (all_records (front ++ t ∷ []))
follow_end n [] t follow =
    let first : t.first ≡ n = eqb-true t.first n (and_parts (eqb t.first n) true follow).0 in
    let long : length (records_of t ++ []) ≡ length (records_of t) = ap length (append-nil (records_of t)) in
    omega (arith, first, long)
follow_end n (f ∷ front) t follow =
    let both = and_parts (eqb f.first n) (follow_from (end_of f) (front ++ t ∷ [])) follow in
    let first : f.first ≡ n = eqb-true f.first n both.0 in
    let rest : end_of t ≡ end_of f + length (all_records (front ++ t ∷ [])) = follow_end (end_of f) front t both.1 in
    let long : length (records_of f ++ all_records (front ++ t ∷ [])) ≡ length (records_of f) + length (all_records (front ++ t ∷ [])) = length-append (records_of f) (all_records (front ++ t ∷ [])) in
    omega (arith, first, rest, long)

newest_first : (front : List WholeSegment) (t : WholeSegment) → reverse (map places_of_segment (front ++ t ∷ [])) ≡ places_of_segment t ∷ reverse (map places_of_segment front)
newest_first front t = ap reverse (map-append places_of_segment front (t ∷ [])) ∙ reverse-append (map places_of_segment front) (places_of_segment t ∷ [])

pub newest_end : (segments : List WholeSegment) → IsTrue (follow_from (first_of segments) segments) → end_of_newest (reverse (map places_of_segment segments)) ≡ first_of segments + length (all_records segments)
newest_end [] follow = omega arith
newest_end (s ∷ rest) follow =
    let (front, t, e) = with_last s rest in
    ap (λ (x : List WholeSegment). end_of_newest (reverse (map places_of_segment x))) e ∙ ap end_of_newest (newest_first front t)
    ∙ follow_end s.first front t (subst (λ (x : List WholeSegment). IsTrue (follow_from s.first x)) e follow) ∙ ap (λ (x : List WholeSegment). s.first + length (all_records x)) (sym e)

last_of : (P : WholeSegment → Type 0) (front : List WholeSegment) (t : WholeSegment) → AllByRecursion P (front ++ t ∷ []) → P t
last_of P [] t all = all.0
last_of P (f ∷ front) t all = last_of P front t all.1

meant_end : (s : WholeSegment) → IsMeant s → end_of s ≤ 2 ^ 62
meant_end s (file, is) = leb-true (end_of s) (2 ^ 62) (and_parts (leb (end_of s) (2 ^ 62)) (ltb s.number (2 ^ 62)) is.within).0

pub newest_within : (segments : List WholeSegment) → AllByRecursion IsMeant segments → end_of_newest (reverse (map places_of_segment segments)) ≤ 2 ^ 62
newest_within [] each = omega arith
newest_within (s ∷ rest) each =
    let (front, t, e) = with_last s rest in
    let is : end_of_newest (reverse (map places_of_segment (s ∷ rest))) ≡ end_of t = ap (λ (x : List WholeSegment). end_of_newest (reverse (map places_of_segment x))) e ∙ ap end_of_newest (newest_first front t) in
    subst (λ (n : ℕ). n ≤ 2 ^ 62) (sym is) (meant_end t (last_of IsMeant front t (subst (λ (x : List WholeSegment). AllByRecursion IsMeant x) e each)))

pub first_some : (segments : List WholeSegment) → AllByRecursion IsMeant segments → 1 ≤ first_of segments
first_some [] each = omega arith
first_some (s ∷ segments) each = meant_first s each.0

pub oldest_number : (s : WholeSegment) (segments : List WholeSegment) → least_number (reverse (map places_of_segment (s ∷ segments))) ≡ s.number
oldest_number s segments =
    ap least_number (reverse-append (places_of_segment s ∷ []) (map places_of_segment segments))
    ∙ ap (λ (o : Option Segment). unwrap_or (option_map (λ (d : Segment). d.number) o) 0) (last_is None (reverse (map places_of_segment segments)) (places_of_segment s))

-- ---- the records

numbered_drop : (k n : ℕ) (rs : List Record) → drop k (numbered_records_from n rs) ≡ numbered_records_from (n + k) (drop k rs)
numbered_drop zero n rs = let e : n ≡ n + 0 = omega arith in ap (λ (m : ℕ). numbered_records_from m rs) e
numbered_drop (suc k) n [] = refl
numbered_drop (suc k) n (r ∷ rs) = let e : (n + 1) + k ≡ n + suc k = omega arith in numbered_drop k (n + 1) rs ∙ ap (λ (m : ℕ). numbered_records_from m (drop k rs)) e

pub offered_log : (first : ℕ) (rs : List Record) → first ≤ named_lowest rs → offered_records first rs ≡ numbered_records (from_lowest first rs)
offered_log first rs le =
    let e : first + (named_lowest rs - first) ≡ named_lowest rs = omega arith in
    numbered_drop (named_lowest rs - first) first rs ∙ ap (λ (m : ℕ). numbered_records_from m (drop (named_lowest rs - first) rs)) e

pub log_next : (first : ℕ) (rs : List Record) → first ≤ named_lowest rs → named_lowest rs ≤ first + length rs → next_lsn (from_lowest first rs) ≡ first + length rs
log_next first rs le within =
    let long : length (drop (named_lowest rs - first) rs) ≡ length rs - (named_lowest rs - first) = length-drop (named_lowest rs - first) rs in
    omega (arith, long)

-- the segments that are enough begin at or below the named lowest, and end above it
reached : (segments : List WholeSegment) (r : Record) (rs : List Record) → IsTrue (are_enough [] segments (r ∷ rs)) → IsTrue (are_allowed_from (first_of segments) (r ∷ rs)) → (first_of segments ≤ named_lowest (r ∷ rs)) × (named_lowest (r ∷ rs) ≤ first_of segments + length (r ∷ rs))
reached [] r rs enough may = absurd cc
reached (s ∷ segments) r rs enough may =
    let below = named_below s.first r rs may in
    (leb-true s.first (named_lowest (r ∷ rs)) (and_parts (leb s.first (named_lowest (r ∷ rs))) (list_all (λ (t : WholeSegment). ltb (named_lowest (r ∷ rs)) t.first) segments) enough).0, omega (arith, below))

pub enough_bounds : (older : FileList) (segments : List WholeSegment) (rs : List Record) → IsTrue (are_enough older segments rs) → IsTrue (are_allowed_from (first_of segments) rs) → (first_of segments ≤ named_lowest rs) × (named_lowest rs ≤ first_of segments + length rs)
enough_bounds [] segments [] enough may = let e : first_of segments ≡ 1 = eqb-true (first_of segments) 1 enough in (omega (arith, e), omega (arith, e))
enough_bounds (f ∷ older) segments [] enough may = absurd cc
enough_bounds [] segments (r ∷ rs) enough may = reached segments r rs enough may
enough_bounds (f ∷ older) segments (r ∷ rs) enough may = reached segments r rs enough may

pub enough_open : (older : FileList) (segments : List WholeSegment) (rs : List Record) → IsTrue (are_enough older segments rs) → IsTrue (are_enough (open_files older) segments rs)
enough_open [] segments rs enough = enough
enough_open (f ∷ older) segments [] enough = absurd cc
enough_open (f ∷ older) segments (r ∷ rs) enough = enough_with (open_files (f ∷ older)) segments r rs enough

pub none_older : (older : FileList) → IsTrue (are_enough older [] []) → older ≡ []
none_older [] enough = refl
none_older (f ∷ older) enough = absurd cc

-- ---- tests of files

agree_each : {A : Type 0} (p q : A → Bool) (xs : List A) → AllByRecursion (λ (x : A). p x ≡ q x) xs → filter p xs ≡ filter q xs
agree_each p q [] all = refl
agree_each {A} p q (x ∷ xs) all = ap (λ (b : Bool). cond b (x ∷ filter p xs) (filter p xs)) all.0 ∙ ap (λ (z : List A). cond (q x) (x ∷ z) z) (agree_each p q xs all.1)

none_each : {A : Type 0} (p : A → Bool) (xs : List A) → AllByRecursion (λ (x : A). p x ≡ false) xs → filter p xs ≡ []
none_each p [] all = refl
none_each {A} p (x ∷ xs) all = ap (λ (b : Bool). cond b (x ∷ filter p xs) (filter p xs)) all.0 ∙ none_each p xs all.1

filter_both : {A : Type 0} (p q : A → Bool) (xs : List A) → filter p (filter q xs) ≡ filter (λ (x : A). q x && p x) xs
filter_both p q [] = refl
filter_both {A} p q (x ∷ xs) = at (filter_both p q xs) (q x)
  where
    at : filter p (filter q xs) ≡ filter (λ (y : A). q y && p y) xs → (b : Bool) → filter p (cond b (x ∷ filter q xs) (filter q xs)) ≡ cond (b && p x) (x ∷ filter (λ (y : A). q y && p y) xs) (filter (λ (y : A). q y && p y) xs)
    at rest true = ap (λ (z : List A). cond (p x) (x ∷ z) z) rest
    at rest false = rest

filter_numbers : (p : ℕ → Bool) (files : FileList) → filter p (numbers_of files) ≡ numbers_of (filter (λ (f : File). p f.0) files)
filter_numbers p [] = refl
filter_numbers p (f ∷ files) = at (filter_numbers p files) (p f.0)
  where
    at : filter p (numbers_of files) ≡ numbers_of (filter (λ (g : File). p g.0) files) → (b : Bool) → cond b (f.0 ∷ filter p (numbers_of files)) (filter p (numbers_of files)) ≡ numbers_of (cond b (f ∷ filter (λ (g : File). p g.0) files) (filter (λ (g : File). p g.0) files))
    at rest true = ap (λ (ns : List ℕ). f.0 ∷ ns) rest
    at rest false = rest

each_from : {A : Type 0} (t : A → Bool) (P : A → Type 0) (xs : List A) → ((x : A) → t x ≡ true → P x) → IsTrue (list_all t xs) → AllByRecursion P xs
each_from t P [] h all = tt
each_from t P (x ∷ xs) h all = let both = and_parts (t x) (list_all t xs) all in (h x both.0, each_from t P xs h both.1)

each_apart : {A : Type 0} (P : A → Type 0) (xs ys : List A) → AllByRecursion P (xs ++ ys) → AllByRecursion P xs × AllByRecursion P ys
each_apart P [] ys all = (tt, all)
each_apart P (x ∷ xs) ys all = let rest = each_apart P xs ys all.1 in ((all.0, rest.0), rest.1)

-- ---- the half-made files that were noted

-- where the first open file stands
record Parted (files : FileList) (file : File) : Type 0 where
  front : FileList
  back : FileList
  is : files ≡ front ++ file ∷ back

part : (files : FileList) (file : File) (rest : FileList) → open_files files ≡ file ∷ rest → Parted files file
part [] file rest e = absurd cc
part (f ∷ files) file rest e = at (part files file rest) (is_open_file f) e
  where
    at : (open_files files ≡ file ∷ rest → Parted files file) → (b : Bool) → cond b (f ∷ open_files files) (open_files files) ≡ file ∷ rest → Parted (f ∷ files) file
    at go true e = let same : f ≡ file = cc in record { front = []; back = files; is = ap (λ (g : File). g ∷ files) same }
    at go false e =
        let later = go e in
        record { front = f ∷ later.front; back = later.back; is = ap (λ (x : FileList). f ∷ x) later.is }

-- a half-made file is noted where it stands above the number, or not below it
abbrev is_above : ℕ → File → Bool
is_above n f = not (is_open_file f) && ltb n f.0

abbrev is_not_below : ℕ → File → Bool
is_not_below n f = not (is_open_file f) && not (ltb f.0 n)

low_none : (n : ℕ) (f : File) → ltb f.0 n ≡ true → is_not_below n f ≡ false
low_none n f lt = ap (λ (b : Bool). not (is_open_file f) && not b) lt ∙ and_false (not (is_open_file f))
  where
    and_false : (b : Bool) → (b && false) ≡ false
    and_false true = refl
    and_false false = refl

low_agrees : (n : ℕ) (f : File) → ltb f.0 n ≡ true → is_above n f ≡ is_not_below n f
low_agrees n f lt =
    let less : f.0 < n = ltb-true f.0 n lt in
    let above : ltb n f.0 ≡ not (ltb f.0 n) = le-ltb n f.0 (omega arith) ∙ ap not (sym lt) in
    ap (λ (b : Bool). not (is_open_file f) && b) above

high_agrees : (n : ℕ) (f : File) → ltb n f.0 ≡ true → is_above n f ≡ is_not_below n f
high_agrees n f lt =
    let more : n < f.0 = ltb-true n f.0 lt in
    let below : ltb f.0 n ≡ false = le-ltb f.0 n (omega arith) in
    ap (λ (b : Bool). not (is_open_file f) && b) (lt ∙ ap not (sym below))

open_agrees : (n : ℕ) (f : File) → IsTrue (is_open_file f) → is_above n f ≡ is_not_below n f
open_agrees n f is = ap (λ (b : Bool). not b && ltb n f.0) is ∙ sym (ap (λ (b : Bool). not b && not (ltb f.0 n)) is)

noted : (image older files : FileList) (file : File) (rest : FileList) → older ++ files ≡ image → IsTrue (is_sorted nat_cmp image) → open_files files ≡ file ∷ rest → IsTrue (is_open_file file)
    → filter (is_above file.0) files ≡ filter (is_not_below file.0) image
noted image older files file rest are rising opens is =
    let p = part files file rest opens in
    let whole : image ≡ (older ++ p.front) ++ file ∷ p.back = sym are ∙ ap (λ (x : FileList). older ++ x) p.is ∙ sym (append_assoc older p.front (file ∷ p.back)) in
    let sorted = from_is_true (is_sorted nat_cmp ((older ++ p.front) ++ file ∷ p.back)) (subst (λ (x : FileList). IsTrue (is_sorted nat_cmp x)) whole rising) in
    let low = lesser_before (older ++ p.front) file p.back sorted in
    let none = each_apart (λ (f : File). is_not_below file.0 f ≡ false) older p.front (each_from (λ (f : File). ltb f.0 file.0) (λ (f : File). is_not_below file.0 f ≡ false) (older ++ p.front) (low_none file.0) low) in
    let front = each_apart (λ (f : File). is_above file.0 f ≡ is_not_below file.0 f) older p.front (each_from (λ (f : File). ltb f.0 file.0) (λ (f : File). is_above file.0 f ≡ is_not_below file.0 f) (older ++ p.front) (low_agrees file.0) low) in
    let back = each_from (λ (f : File). ltb file.0 f.0) (λ (f : File). is_above file.0 f ≡ is_not_below file.0 f) p.back (high_agrees file.0) (greater_behind (older ++ p.front) file p.back sorted) in
    let all = subst (λ (x : FileList). AllByRecursion (λ (f : File). is_above file.0 f ≡ is_not_below file.0 f) x) (sym p.is) (all_join (λ (f : File). is_above file.0 f ≡ is_not_below file.0 f) p.front (file ∷ p.back) front.1 (open_agrees file.0 file is, back)) in
    agree_each (is_above file.0) (is_not_below file.0) files all
    ∙ sym (ap (λ (x : FileList). filter (is_not_below file.0) x) (sym are) ∙ filter-append (is_not_below file.0) older files ∙ ap (λ (x : FileList). x ++ filter (is_not_below file.0) files) (none_each (is_not_below file.0) older none.0))

above_half : (n : ℕ) (half : List ℕ) (files : FileList) → reverse half ≡ numbers_of (half_files files) → filter (ltb n) (reverse half) ≡ numbers_of (filter (is_above n) files)
above_half n half files e = ap (λ (x : List ℕ). filter (ltb n) x) e ∙ filter_numbers (ltb n) (half_files files) ∙ ap numbers_of (filter_both (λ (f : File). ltb n f.0) (λ (f : File). not (is_open_file f)) files)

numbered_each : (files : FileList) → All IsNumber (numbers_of files) → AllByRecursion (λ (f : File). is_above 0 f ≡ (not (is_open_file f) && not false)) files
numbered_each [] all = tt
numbered_each (f ∷ files) all =
    let is : IsNumber f.0 = All-head IsNumber f.0 (numbers_of files) all in
    (ap (λ (b : Bool). not (is_open_file f) && b) (lt-ltb 0 f.0 (omega arith)), numbered_each files (All-tail IsNumber f.0 (numbers_of files) all))

-- the half-made files above the number of the oldest segment are those that aren't below the segments
pub half_found : (image older : FileList) (segments : List WholeSegment) (half : List ℕ) → IsDownTo image older segments half → IsTrue (is_sorted nat_cmp image) → All IsNumber (numbers_of image) → IsTrue (are_enough older segments (all_records segments))
    → filter (ltb (least_number (reverse (map places_of_segment segments)))) (reverse half) ≡ numbers_of (filter (λ (f : File). not (is_open_file f) && not (is_below segments f)) image)
half_found image older [] half d rising numbers enough =
    let same : d.files ≡ image = ap (λ (o : FileList). o ++ d.files) (sym (none_older older enough)) ∙ d.are in
    above_half 0 half d.files d.half_are ∙ ap (λ (x : FileList). numbers_of (filter (is_above 0) x)) same
    ∙ ap numbers_of (agree_each (is_above 0) (λ (f : File). not (is_open_file f) && not false) image (numbered_each image numbers))
half_found image older (s ∷ segments) half d rising numbers enough = at (open_files d.files) refl d.each
  where
    at : (opens : FileList) → open_files d.files ≡ opens → AllZip IsSegment opens (s ∷ segments)
        → filter (ltb (least_number (reverse (map places_of_segment (s ∷ segments))))) (reverse half) ≡ numbers_of (filter (λ (f : File). not (is_open_file f) && not (is_below (s ∷ segments) f)) image)
    at [] e zip = absurd zip
    at (file ∷ rest) e zip =
        let least : least_number (reverse (map places_of_segment (s ∷ segments))) ≡ file.0 = oldest_number s segments ∙ zip.0.number in
        ap (λ (n : ℕ). filter (ltb n) (reverse half)) least ∙ above_half file.0 half d.files d.half_are
        ∙ ap numbers_of (noted image older d.files file rest d.are rising e (segment_open file s zip.0))
        ∙ ap (λ (n : ℕ). numbers_of (filter (is_not_below n) image)) (sym zip.0.number)

pub older_found : (image : FileList) (numbers : List ℕ) (segments : List WholeSegment) → numbers ≡ numbers_of image
    → filter (λ n. ltb n (least_number (reverse (map places_of_segment segments)))) numbers ≡ numbers_of (filter (is_below segments) image)
older_found image numbers [] e =
    ap (λ (ns : List ℕ). filter (λ n. ltb n 0) ns) e ∙ filter_numbers (λ n. ltb n 0) image
    ∙ ap numbers_of (filter_agree (λ (f : File). ltb f.0 0) (is_below []) (λ f. le-ltb f.0 0 (omega arith)) image)
older_found image numbers (s ∷ segments) e =
    ap (λ (ns : List ℕ). filter (λ n. ltb n (least_number (reverse (map places_of_segment (s ∷ segments))))) ns) e
    ∙ filter_numbers (λ n. ltb n (least_number (reverse (map places_of_segment (s ∷ segments))))) image
    ∙ ap (λ (m : ℕ). numbers_of (filter (λ (f : File). ltb f.0 m) image)) (oldest_number s segments)

-- ---- the log

pub spelled : (image older : FileList) (segments : List WholeSegment) (half : List ℕ) → IsDownTo image older segments half → IsTrue (is_sorted nat_cmp image) → IsTrue (follow_from (first_of segments) segments) → IsTrue (are_enough older segments (all_records segments))
    → SpellsBy image segments (from_lowest (first_of segments) (all_records segments))
spelled image older segments half d rising follow enough = record {
  rising = rising;
  older = open_files older;
  looked = open_files d.files;
  files = sym (filter-append is_open_file older d.files) ∙ ap open_files d.are;
  each = d.each;
  follow = follow;
  enough = enough_open older segments (all_records segments) enough;
  shown = refl;
}
