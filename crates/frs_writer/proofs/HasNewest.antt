-- The newest files of an image, where the last one has one more chunk, or one more segment stands above them.
use Rattle.std.proofs.Common.{◌≡◌, ℕ, ◌+◌, ◌≤◌, List, [], ◌∷◌, ◌++◌, length, map, Some, None, refl, sym, ap, subst, ◌∙◌, arith, append_assoc, length-append}
use Rattle.std.specs.List.{AllZip}
use Rattle.std.proofs.lemmas.List.{map-append}
use Rattle.std.specs.FinMap.{get, entries}
use Rattle.frs_types.specs.declared.record.Record.{Record}
use Rattle.frs_disk.specs.Disk.{Image, SameElsewhere}
use Rattle.frs_segment.specs.Front.{empty_segment}
use Rattle.frs_segment.specs.declared.layout.Segment.{Segment}
use Rattle.frs_segment.specs.Segments.{File, FileList, WholeSegment, IsSegment, segment_spelling, open_files, first_of, places_of}
use Rattle.frs_segment.specs.Scanning.{places_of_segment}
use Rattle.frs_segment.specs.Stores.{HasNewest, HasSegments, HasNewestAt}
use Rattle.frs_segment.proofs.OneSegment.{one_segment}
use Rattle.frs_writer.specs.LogImages.{EndsWithSegment, file_of, with_chunk, new_segment}
use Rattle.frs_writer.proofs.NewestFile.{changed_last, added_last, last_get}
use Rattle.frs_writer.proofs.Places.{same_newest}
use Rattle.frs_writer.proofs.ShowsLog.{zip_more, first_longer}
use Rattle.frs_writer.proofs.TakesNext.{spelled_open, open_more}

-- ---- lists

-- files and their segments, the last ones apart
record Parts (looked : FileList) (segments : List WholeSegment) : Type 0 where
  files : FileList
  file : File
  before : List WholeSegment
  last : WholeSegment
  files_are : looked ≡ files ++ file ∷ []
  segments_are : segments ≡ before ++ last ∷ []
  each : AllZip IsSegment files before
  is : IsSegment file last

last_apart : (looked : FileList) (segments : List WholeSegment) → AllZip IsSegment looked segments → (segments ≡ [] → ⊥) → Parts looked segments
last_apart [] [] each some = absurd (some refl)
last_apart [] (s ∷ segments) each some = absurd each
last_apart (f ∷ looked) [] each some = absurd each
last_apart (f ∷ []) (s ∷ []) each some = record { files = []; file = f; before = []; last = s; files_are = refl; segments_are = refl; each = tt; is = each.0 }
last_apart (f ∷ []) (s ∷ t ∷ segments) each some = absurd each.1
last_apart (f ∷ h ∷ looked) (s ∷ []) each some = absurd each.1
last_apart (f ∷ h ∷ looked) (s ∷ t ∷ segments) each some =
    let rest = last_apart (h ∷ looked) (t ∷ segments) each.1 (λ e. cc) in
    record {
      files = f ∷ rest.files;
      file = rest.file;
      before = s ∷ rest.before;
      last = rest.last;
      files_are = ap (λ (x : FileList). f ∷ x) rest.files_are;
      segments_are = ap (λ (x : List WholeSegment). s ∷ x) rest.segments_are;
      each = (each.0, rest.each);
      is = rest.is;
    }

some_behind : (before : List WholeSegment) (s : WholeSegment) → before ++ s ∷ [] ≡ [] → ⊥
some_behind before s none = omega (arith, ap length none, length-append before (s ∷ []))

first_before : (segments more : List WholeSegment) → (segments ≡ [] → ⊥) → first_of (segments ++ more) ≡ first_of segments
first_before [] more some = absurd (some refl)
first_before (s ∷ segments) more some = refl

abbrev number_and_first : WholeSegment → ℕ × ℕ
number_and_first s = (s.number, s.first)

-- ---- one more chunk

module _ {alone fresh : Type 0} (first : ℕ) (records more : List Record) (last : WholeSegment) (rs : List Record) (e c : Image) (was : EndsWithSegment alone fresh (entries e) first records last)
    (same : SameElsewhere last.number e c) (now : EndsWithSegment alone fresh (entries c) first more (with_chunk last rs)) where
  abbrev grown : WholeSegment
  grown = with_chunk last rs

  open_before : open_files (entries e) ≡ open_files was.front ++ file_of last ∷ []
  open_before = ap open_files was.files ∙ open_more was.front (file_of last) (spelled_open last.number last 0 [])

  files_grown : entries c ≡ was.front ++ file_of grown ∷ []
  files_grown =
      changed_last c e last.number (segment_spelling last ++ 0 ∷ []) was.front same was.files (segment_spelling grown ++ 0 ∷ [])
      (last_get c now.front last.number (segment_spelling grown ++ 0 ∷ []) now.files)

  open_grown : open_files (entries c) ≡ open_files was.front ++ file_of grown ∷ []
  open_grown = ap open_files files_grown ∙ open_more was.front (file_of grown) (spelled_open last.number grown 0 [])

  newest_chunk : (segments : List WholeSegment) → HasNewest (entries e) segments → (segments ≡ [] → ⊥) → (before : List WholeSegment) × (segments ≡ before ++ last ∷ []) × HasNewest (entries c) (before ++ grown ∷ [])
  newest_chunk segments newest some =
      let parts = last_apart newest.looked segments newest.each some in
      let split = same_newest (newest.older ++ parts.files) (open_files was.front) parts.file (file_of last)
      (append_assoc newest.older parts.files (parts.file ∷ []) ∙ ap (λ (x : FileList). newest.older ++ x) (sym parts.files_are) ∙ newest.files ∙ open_before) in
      let one : parts.last ≡ last = one_segment (file_of last) parts.last last (subst (λ (f : File). IsSegment f parts.last) split.1 parts.is) was.made in (
        parts.before,
        parts.segments_are ∙ ap (λ (s : WholeSegment). parts.before ++ s ∷ []) one,
        record {
          older = newest.older;
          looked = parts.files ++ file_of grown ∷ [];
          files = sym (append_assoc newest.older parts.files (file_of grown ∷ [])) ∙ ap (λ (x : FileList). x ++ file_of grown ∷ []) split.0 ∙ sym open_grown;
          each = zip_more parts.files parts.before (file_of grown) grown parts.each now.made;
        },
      )

  pub at_chunk : (places : List (ℕ × ℕ)) (low : ℕ) → HasNewestAt places low (entries e) → HasNewestAt places low (entries c)
  at_chunk places low at =
      let (before, is, newest) = newest_chunk at.segments at.newest at.some in
      record {
        segments = before ++ grown ∷ [];
        newest = newest;
        some = some_behind before grown;
        places_are = map-append number_and_first before (grown ∷ []) ∙ sym (map-append number_and_first before (last ∷ [])) ∙ ap places_of (sym is) ∙ at.places_are;
        reaches = omega (arith, at.reaches, ap first_of is, first_longer before last rs);
      }

  -- the segments that are read, where these are described
  pub read_chunk : (described : List WholeSegment) (before after : List Segment) → HasSegments (entries e) before
      → before ≡ map places_of_segment (described ++ last ∷ []) → after ≡ map places_of_segment (described ++ grown ∷ []) → HasSegments (entries c) after
  read_chunk described before after (whole, newest, whole_are) before_is after_is =
      let (front, is, newest_after) = newest_chunk whole newest some in
      let fronts : map places_of_segment front ≡ map places_of_segment described =
      (same_newest (map places_of_segment front) (map places_of_segment described) (places_of_segment last) (places_of_segment last)
      (sym (map-append places_of_segment front (last ∷ [])) ∙ ap (map places_of_segment) (sym is) ∙ sym whole_are ∙ before_is ∙ map-append places_of_segment described (last ∷ []))).0 in (
        front ++ grown ∷ [],
        newest_after,
        after_is ∙ map-append places_of_segment described (grown ∷ []) ∙ ap (λ (l : List Segment). l ++ places_of_segment grown ∷ []) (sym fronts)
            ∙ sym (map-append places_of_segment front (grown ∷ [])),
      )
    where
      some : whole ≡ [] → ⊥
      some none = omega (arith, ap length (ap (map places_of_segment) (sym none) ∙ sym whole_are ∙ before_is ∙ map-append places_of_segment described (last ∷ [])), length-append (map places_of_segment described) (places_of_segment last ∷ []))

-- ---- one more segment

module _ (n f : ℕ) (e c : Image) (same : SameElsewhere n e c) (none : (q : ℕ) → n ≤ q → get e q ≡ None) (made : IsSegment (n, empty_segment n f) (new_segment n f)) (file : get c n ≡ Some (empty_segment n f)) where
  open_next_too : open_files (entries c) ≡ open_files (entries e) ++ (n, empty_segment n f) ∷ []
  open_next_too = ap open_files (added_last c e n same none (empty_segment n f) file) ∙ open_more (entries e) (n, empty_segment n f) (spelled_open n (new_segment n f) 0 [])

  newest_next : (segments : List WholeSegment) → HasNewest (entries e) segments → HasNewest (entries c) (segments ++ new_segment n f ∷ [])
  newest_next segments newest = record {
    older = newest.older;
    looked = newest.looked ++ (n, empty_segment n f) ∷ [];
    files = sym (append_assoc newest.older newest.looked ((n, empty_segment n f) ∷ [])) ∙ ap (λ (x : FileList). x ++ (n, empty_segment n f) ∷ []) newest.files ∙ sym open_next_too;
    each = zip_more newest.looked segments (n, empty_segment n f) (new_segment n f) newest.each made;
  }

  pub at_next : (places : List (ℕ × ℕ)) (low : ℕ) → HasNewestAt places low (entries e) → HasNewestAt (places ++ (n, f) ∷ []) low (entries c)
  at_next places low at = record {
    segments = at.segments ++ new_segment n f ∷ [];
    newest = newest_next at.segments at.newest;
    some = some_behind at.segments (new_segment n f);
    places_are = map-append number_and_first at.segments (new_segment n f ∷ []) ∙ ap (λ (l : List (ℕ × ℕ)). l ++ (n, f) ∷ []) at.places_are;
    reaches = omega (arith, at.reaches, first_before at.segments (new_segment n f ∷ []) at.some);
  }

  -- it alone
  pub at_only : (low : ℕ) → f ≤ low → HasNewestAt ((n, f) ∷ []) low (entries c)
  at_only low le = record {
    segments = new_segment n f ∷ [];
    newest = record { older = open_files (entries e); looked = (n, empty_segment n f) ∷ []; files = sym open_next_too; each = (made, tt) };
    some = λ is. cc;
    places_are = refl;
    reaches = le;
  }

  pub read_next : (segments : List Segment) → HasSegments (entries e) segments → HasSegments (entries c) (segments ++ places_of_segment (new_segment n f) ∷ [])
  read_next segments (whole, newest, whole_are) = (
    whole ++ new_segment n f ∷ [],
    newest_next whole newest,
    ap (λ (l : List Segment). l ++ places_of_segment (new_segment n f) ∷ []) whole_are ∙ sym (map-append places_of_segment whole (new_segment n f ∷ [])),
  )
