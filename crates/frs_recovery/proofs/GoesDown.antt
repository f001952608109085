-- One file more on the way down through the files of a store, and what is wrong where the way ends.
use Rattle.std.proofs.Common.{◌≡◌, inl, inr, ℕ, Bool, true, false, not, cond, List, [], ◌∷◌, ◌++◌, Some, length, reverse, Vec, Global, Result, refl, sym, ap, subst, ◌∙◌, append_assoc, IsTrue, Ok, Err}
use Rattle.std.specs.Prelude.{filter, slice_index}
use Rattle.std.specs.FinMap.Entries.{is_sorted}
use Rattle.std.specs.Ordering.{nat_cmp}
use Rattle.std.specs.List.{AllZip}
use Rattle.std.proofs.Math.Dec.{leb, eqb}
use Rattle.std.proofs.lemmas.Bool.{le-leb, eq-eqb, and_from, both_ways, not-true}
use Rattle.std.proofs.lemmas.List.{append-nil, reverse-append}
use Rattle.std.proofs.lemmas.List.Elements.{filter-append}
use Rattle.frs_segment.specs.declared.layout.Segment.{Segment}
use Rattle.frs_segment.specs.declared.fault.ScanFault.{ScanFault}
use Rattle.frs_segment.specs.declared.fault.ScanFault.TheVariants as scan
use Rattle.frs_segment.specs.Segments.{File, FileList, WholeSegment, IsSegment, is_open_file, open_files, first_of, all_records, are_enough}
use Rattle.frs_segment.specs.Stores.{numbers_of}
use Rattle.frs_segment.specs.Scanning.{header_of, IsRefused}
use Rattle.frs_segment.proofs.HeaderOf.{header_told}
use Rattle.frs_segment.proofs.OneSegment.{segment_header}
use Rattle.frs_recovery.specs.declared.descent.Descent.{Descent}
use Rattle.frs_recovery.specs.declared.backward_reader.BackwardReader.{BackwardReader}
use Rattle.frs_recovery.specs.declared.fault.RecoverFault.{RecoverFault}
use Rattle.frs_recovery.specs.declared.fault.RecoverFault.TheVariants.{BadHeader, BadChunk, Gap, NumberLimit, Disk, Memory}
use Rattle.frs_recovery.specs.Faults.{IsCauseOnDisk}
use Rattle.frs_recovery.specs.OfferedRecords.{HasRead}
use Rattle.frs_recovery.specs.Descent.{HasLookedAt, LooksAt, IsWrongFile, IsFaultBelow}
use Rattle.frs_recovery.specs.DescentEnd.{IsDownTo, LooksDown}
use Rattle.frs_recovery.specs.FirstFault.{goes_further, HoldsDownTo, refusal_of, gap_below, IsWrongBelow, IsWrongFirst}
use Rattle.frs_recovery.proofs.Reaches.{all_allowed, reaches}

-- ---- open files

headed_open : (file : File) (first : ℕ) → header_of file ≡ Ok first → IsTrue (is_open_file file)
headed_open file first h =
    let told = header_told file first h in
    and_from (leb 23 (length file.1)) (eqb (slice_index file.1 0) 1) (le-leb 23 (length file.1) told.long) (eq-eqb (slice_index file.1 0) 1 told.gate)

pub segment_open : (file : File) (s : WholeSegment) → IsSegment file s → IsTrue (is_open_file file)
segment_open file s is = headed_open file s.first (segment_header file s is)

at_true : {A : Type 0} (b : Bool) (x y : A) → b ≡ true → cond b x y ≡ x
at_true true x y e = refl
at_true false x y e = absurd (both_ways false refl e)

at_false : {A : Type 0} (b : Bool) (x y : A) → b ≡ false → cond b x y ≡ y
at_false true x y e = absurd (both_ways true e refl)
at_false false x y e = refl

closed_half : (file : File) → is_open_file file ≡ false → header_of file ≡ Err scan.HalfMade
unfolding header_of
closed_half file e = at_true (not (is_open_file file)) (Err scan.HalfMade) _ (ap not e)

same_err : (a b : ScanFault) → ◌≡◌ {A = Result ℕ ScanFault} (Err a) (Err b) → a ≡ b
same_err a b e = cc

pub refused_open : (file : File) (why : ScanFault) (fault : RecoverFault) → IsRefused file why → refusal_of file.0 why ≡ Some fault → IsTrue (is_open_file file)
refused_open file why fault (inr body) told = headed_open file body.before.first body.header
refused_open file why fault (inl head) told = at (is_open_file file) refl
  where
    at : (b : Bool) → is_open_file file ≡ b → IsTrue b
    at true e = refl
    at false e =
        let is : why ≡ scan.HalfMade = same_err why scan.HalfMade (sym head ∙ closed_half file e) in
        let none : refusal_of file.0 scan.HalfMade ≡ Some fault = subst (λ (w : ScanFault). refusal_of file.0 w ≡ Some fault) is told in
        absurd cc

-- the open files among one more and others, and the half-made ones
open_more : (file : File) (files : FileList) → IsTrue (is_open_file file) → open_files (file ∷ files) ≡ file ∷ open_files files
open_more file files is = at_true (is_open_file file) (file ∷ open_files files) (open_files files) is

open_same : (file : File) (files : FileList) → is_open_file file ≡ false → open_files (file ∷ files) ≡ open_files files
open_same file files is = at_false (is_open_file file) (file ∷ open_files files) (open_files files) is

abbrev pub half_files : FileList → FileList
half_files files = filter (λ (f : File). not (is_open_file f)) files

half_more : (file : File) (files : FileList) → is_open_file file ≡ false → half_files (file ∷ files) ≡ file ∷ half_files files
half_more file files is = at_true (not (is_open_file file)) (file ∷ half_files files) (half_files files) (ap not is)

half_same : (file : File) (files : FileList) → IsTrue (is_open_file file) → half_files (file ∷ files) ≡ half_files files
half_same file files is = at_false (not (is_open_file file)) (file ∷ half_files files) (half_files files) (ap not is)

open_last : (before : FileList) (file : File) → IsTrue (is_open_file file) → open_files (before ++ file ∷ []) ≡ open_files before ++ file ∷ []
open_last before file is = filter-append is_open_file before (file ∷ []) ∙ ap (λ (x : FileList). open_files before ++ x) (open_more file [] is)

-- ---- the way down

-- All but the older files were looked at, and the log goes further back.
pub record GoesDown (tells : Bool) (image older : FileList) (l : Descent) : Type 0 where
  pub segments : List WholeSegment
  pub looked : HasLookedAt l segments
  pub further : IsTrue (goes_further segments (all_records segments))
  pub down : IsTrue tells → IsDownTo image older segments l.half.items

pub set_out : (tells : Bool) (image older : FileList) (l : Descent) → HasLookedAt l [] → l.half.items ≡ [] → (IsTrue tells → older ≡ image) → GoesDown tells image older l
set_out tells image older l looked half all = record {
  segments = [];
  looked = looked;
  further = refl;
  down = λ told. record { files = []; are = append-nil older ∙ all told; each = tt; half_are = ap reverse half };
}

-- One file more was looked at. If the log goes no further back, the segments are enough, whichever files are left.
pub record HasStepped (tells : Bool) (image before : FileList) (l : Descent) : Type 0 where
  pub segments : List WholeSegment
  pub looked : HasLookedAt l segments
  pub enough : goes_further segments (all_records segments) ≡ false → (older : FileList) → IsTrue (are_enough older segments (all_records segments))
  pub down : IsTrue tells → IsDownTo image before segments l.half.items

still_looked : (old new : Descent) (segments : List WholeSegment) → new.segments ≡ old.segments → new.records ≡ old.records → HasLookedAt old segments → HasLookedAt new segments
still_looked old new segments same records l = record {
  segments_are = ap (λ (x : Vec Segment Global). x.items) same ∙ l.segments_are;
  each = l.each;
  follow = l.follow;
  read = subst (λ (b : BackwardReader). HasRead b (first_of segments) (all_records segments)) (sym records) l.read;
}

one_older : (older before files image : FileList) (file : File) → older ≡ before ++ file ∷ [] → older ++ files ≡ image → before ++ file ∷ files ≡ image
one_older older before files image file e are = sym (append_assoc before (file ∷ []) files) ∙ ap (λ (x : FileList). x ++ files) (sym e) ∙ are

pub step : (tells : Bool) (image older before : FileList) (file : File) (old new : Descent) (g : GoesDown tells image older old) → (IsTrue tells → older ≡ before ++ file ∷ []) → LooksAt tells file g.segments old new → HasStepped tells image before new
step tells image older before file old new g e (inl pass) = record {
  segments = g.segments;
  looked = still_looked old new g.segments pass.segments pass.records g.looked;
  enough = λ stops o. absurd (both_ways (goes_further g.segments (all_records g.segments)) stops g.further);
  down = λ told.
      let d = g.down told in
      let shut = not-true (is_open_file file) (pass.is told) in
      record {
        files = file ∷ d.files;
        are = one_older older before d.files image file (e told) d.are;
        each = subst (λ (x : FileList). AllZip IsSegment x g.segments) (sym (open_same file d.files shut)) d.each;
        half_are = ap reverse pass.half ∙ reverse-append old.half.items (file.0 ∷ []) ∙ ap (λ (ns : List ℕ). file.0 ∷ ns) d.half_are ∙ sym (ap numbers_of (half_more file d.files shut));
      };
}
step tells image older before file old new g e (inr r) = record {
  segments = r.next ∷ g.segments;
  looked = r.looked;
  enough = reaches r.next g.segments r.looked.follow (all_allowed r.next.first (r.next ∷ g.segments) r.looked.each r.looked.follow) g.further;
  down = λ told.
      let d = g.down told in
      let opened = segment_open file r.next (r.is told) in
      record {
        files = file ∷ d.files;
        are = one_older older before d.files image file (e told) d.are;
        each = subst (λ (x : FileList). AllZip IsSegment x (r.next ∷ g.segments)) (sym (open_more file d.files opened)) (r.is told, d.each);
        half_are = ap (λ (x : Vec ℕ Global). reverse x.items) r.half ∙ d.half_are ∙ sym (ap numbers_of (half_same file d.files opened));
      };
}

pub goes_on : (tells : Bool) (image before : FileList) (l : Descent) → (s : HasStepped tells image before l) → IsTrue (goes_further s.segments (all_records s.segments)) → GoesDown tells image before l
goes_on tells image before l s further = record { segments = s.segments; looked = s.looked; further = further; down = s.down }

pub is_down : (tells : Bool) (image before : FileList) (l : Descent) → (s : HasStepped tells image before l) → goes_further s.segments (all_records s.segments) ≡ false → LooksDown tells image l
is_down tells image before l s stops = record { older = before; segments = s.segments; looked = s.looked; enough = s.enough stops before; down = s.down }

pub is_down_at_end : (tells : Bool) (image older : FileList) (l : Descent) → (g : GoesDown tells image older l) → older ≡ [] → IsTrue (are_enough [] g.segments (all_records g.segments)) → LooksDown tells image l
is_down_at_end tells image older l g none enough = record { older = older; segments = g.segments; looked = g.looked; enough = subst (λ (o : FileList). IsTrue (are_enough o g.segments (all_records g.segments))) (sym none) enough; down = g.down }

-- ---- what is wrong

holds : (image older : FileList) (segments : List WholeSegment) (half : List ℕ) (l : Descent) → IsDownTo image older segments half → HasLookedAt l segments → IsTrue (goes_further segments (all_records segments)) → HoldsDownTo image (open_files older) segments
holds image older segments half l d looked further = record {
  looked = open_files d.files;
  files = sym (filter-append is_open_file older d.files) ∙ ap open_files d.are;
  each = d.each;
  follow = looked.follow;
  further = further;
}

wrong_below : (older before : FileList) (file : File) (segments : List WholeSegment) (fault : RecoverFault) → older ≡ before ++ file ∷ [] → IsFaultBelow file segments fault → IsWrongBelow (open_files older) segments fault
wrong_below older before file segments fault e (inl (why, refused, told)) = inl (record {
  before = open_files before;
  file = file;
  greatest = ap open_files e ∙ open_last before file (refused_open file why fault refused told);
  why = why;
  refused = refused;
  told = told;
})
wrong_below older before file segments fault e (inr (s, is, apart, told)) = inr (inl (record {
  before = open_files before;
  file = file;
  greatest = ap open_files e ∙ open_last before file (segment_open file s is);
  next = s;
  is = is;
  apart = apart;
  told = told;
}))

cause_below : (image : FileList) (file : File) (segments : List WholeSegment) (fault : RecoverFault) → (IsFaultBelow file segments fault → IsWrongFirst image fault) → IsWrongFile file segments fault → IsCauseOnDisk image fault
cause_below image file segments (BadHeader segment offset) wrong is = wrong is
cause_below image file segments (BadChunk segment offset) wrong is = wrong is
cause_below image file segments (Gap expected found) wrong is = wrong is
cause_below image file segments (NumberLimit lsn) wrong is = wrong is
cause_below image file segments Disk wrong is = tt
cause_below image file segments Memory wrong is = tt

pub wrong_file : (tells : Bool) (image older before : FileList) (file : File) (l : Descent) (fault : RecoverFault) (g : GoesDown tells image older l) → IsTrue tells → IsTrue (is_sorted nat_cmp image) → older ≡ before ++ file ∷ [] → IsWrongFile file g.segments fault → IsCauseOnDisk image fault
wrong_file tells image older before file l fault g told rising e is = cause_below image file g.segments fault (λ below. record {
  rising = rising;
  older = open_files older;
  segments = g.segments;
  holds = holds image older g.segments l.half.items l (g.down told) g.looked g.further;
  wrong = wrong_below older before file g.segments fault e below;
}) is

pub wrong_at_end : (tells : Bool) (image older : FileList) (l : Descent) (fault : RecoverFault) (g : GoesDown tells image older l) → IsTrue tells → IsTrue (is_sorted nat_cmp image) → older ≡ []
    → IsTrue (not (are_enough [] g.segments (all_records g.segments))) × (fault ≡ gap_below g.segments 0) → IsCauseOnDisk image fault
wrong_at_end tells image older l fault g told rising none (missed, is) = subst (IsCauseOnDisk image) (sym is) (record {
  rising = rising;
  older = open_files older;
  segments = g.segments;
  holds = holds image older g.segments l.half.items l (g.down told) g.looked g.further;
  wrong = inr (inr (record { none = ap open_files none; missed = missed; told = refl }));
})
