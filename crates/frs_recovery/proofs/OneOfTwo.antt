-- The files of a store spell a log, or one thing is wrong with them first: the way down from the greatest open file ends.
use Rattle.std.proofs.Common.{◌≡◌, ◌⊎◌, inl, inr, ◌-◌, ◌<◌, true, not, List, [], ◌∷◌, ◌++◌, reverse, Some, refl, sym, ap, subst, ◌∙◌, append_assoc, IsTrue, All}
use Rattle.std.specs.FinMap.Entries.{is_sorted}
use Rattle.std.specs.Ordering.{nat_cmp}
use Rattle.std.specs.List.{AllZip, AllByRecursion}
use Rattle.std.proofs.lemmas.Bool.{cases_Bool, both_ways, not-true}
use Rattle.std.proofs.lemmas.List.{append-nil, reverse-append, reverse-reverse}
use Rattle.std.proofs.lemmas.List.Elements.{All-head, All-tail, All-filter, filter_passes}
use Rattle.frs_types.specs.Records.{Log, from_lowest}
use Rattle.frs_disk.specs.Disk.{IsNumber}
use Rattle.frs_segment.specs.declared.fault.ScanFault.{ScanFault}
use Rattle.frs_segment.specs.declared.fault.ScanFault.TheVariants as scan
use Rattle.frs_segment.specs.Segments.{File, FileList, WholeSegment, IsSegment, is_open_file, open_files, all_records, first_of, end_of, follow_from, are_enough, Spells}
use Rattle.frs_segment.specs.Scanning.{IsRefused}
use Rattle.frs_recovery.specs.declared.fault.RecoverFault.{RecoverFault}
use Rattle.frs_recovery.specs.declared.fault.RecoverFault.TheVariants.{BadHeader, BadChunk, NumberLimit}
use Rattle.frs_recovery.specs.Descent.{IsMeant}
use Rattle.frs_recovery.specs.FirstFault.{goes_further, HoldsDownTo, refusal_of, ends_below, gap_below, IsWrongBelow, IsWrongFirst, IsStored}
use Rattle.frs_recovery.proofs.LookAt.{follows}
use Rattle.frs_recovery.proofs.Reaches.{all_allowed, reaches}

-- ---- lists

abbrev IsOpenFile : File → Type 0
IsOpenFile file = IsStored file × IsTrue (is_open_file file)

each_open : (files : FileList) → All IsStored files → All (λ (f : File). is_open_file f ≡ true) files → AllByRecursion IsOpenFile files
each_open [] stored opened = tt
each_open (f ∷ files) stored opened =
    ((All-head IsStored f files stored, All-head (λ (g : File). is_open_file g ≡ true) f files opened), each_open files (All-tail IsStored f files stored) (All-tail (λ (g : File). is_open_file g ≡ true) f files opened))

all_with : (xs ys : FileList) → AllByRecursion IsOpenFile xs → AllByRecursion IsOpenFile ys → AllByRecursion IsOpenFile (xs ++ ys)
all_with [] ys all more = more
all_with (x ∷ xs) ys all more = (all.0, all_with xs ys all.1 more)

all_back : (xs : FileList) → AllByRecursion IsOpenFile xs → AllByRecursion IsOpenFile (reverse xs)
all_back [] all = tt
all_back (x ∷ xs) all = subst (AllByRecursion IsOpenFile) (sym (reverse-append (x ∷ []) xs)) (all_with (reverse xs) (x ∷ []) (all_back xs all.1) (all.0, tt))

-- ---- the way down

abbrev IsAnswered : FileList → Type 0
IsAnswered image = ((log : Log) × Spells image log) ⊎ ((fault : RecoverFault) × IsWrongFirst image fault)

-- the greatest open files are these segments, the log goes further back, and these are left, the greatest first
record IsOnTheWay (image left : FileList) (segments : List WholeSegment) : Type 0 where
  rising : IsTrue (is_sorted nat_cmp image)
  looked : FileList
  files : reverse left ++ looked ≡ open_files image
  each : AllZip IsSegment looked segments
  meant : AllByRecursion IsMeant segments
  follow : IsTrue (follow_from (first_of segments) segments)
  further : IsTrue (goes_further segments (all_records segments))

holds : (image left : FileList) (segments : List WholeSegment) → IsOnTheWay image left segments → HoldsDownTo image (reverse left) segments
holds image left segments w = record { looked = w.looked; files = w.files; each = w.each; follow = w.follow; further = w.further }

is_wrong : (image left : FileList) (segments : List WholeSegment) (fault : RecoverFault) → IsOnTheWay image left segments → IsWrongBelow (reverse left) segments fault → IsAnswered image
is_wrong image left segments fault w wrong = inr (fault, record { rising = w.rising; older = reverse left; segments = segments; holds = holds image left segments w; wrong = wrong })

at_end : (image : FileList) (segments : List WholeSegment) → IsOnTheWay image [] segments → IsAnswered image
at_end image segments w =
    elim (cases_Bool (are_enough [] segments (all_records segments))) [
      | inl is ↦ inl (from_lowest (first_of segments) (all_records segments), (segments, record { rising = w.rising; older = []; looked = w.looked; files = w.files; each = w.each; follow = w.follow; enough = is; shown = refl }))
      | inr is ↦ is_wrong image [] segments (gap_below segments 0) w (inr (inr (record { none = refl; missed = ap not is; told = refl })))
    ]

greatest_of : (file : File) (left : FileList) → reverse (file ∷ left) ≡ reverse left ++ file ∷ []
greatest_of file left = reverse-append (file ∷ []) left

module _ (segment_or_refused : (file : File) → IsNumber file.0 → All (λ b. b < 256) file.1 → ((s : WholeSegment) × IsSegment file s) ⊎ ((fault : ScanFault) × IsRefused file fault))
    (half_made : (file : File) → IsRefused file scan.HalfMade → IsTrue (not (is_open_file file)))
    (no_disk : (file : File) → IsRefused file scan.Disk → ⊥) (no_memory : (file : File) → IsRefused file scan.Memory → ⊥) where
  -- a refused open file is told
  refused_told : (file : File) (why : ScanFault) → IsTrue (is_open_file file) → IsRefused file why → (fault : RecoverFault) × (refusal_of file.0 why ≡ Some fault)
  refused_told file scan.HalfMade opened is = absurd (both_ways (is_open_file file) (not-true (is_open_file file) (half_made file is)) opened)
  refused_told file (scan.BadHeader offset) opened is = (BadHeader file.0 offset, refl)
  refused_told file (scan.BadChunk offset) opened is = (BadChunk file.0 offset, refl)
  refused_told file (scan.NumberLimit lsn) opened is = (NumberLimit lsn, refl)
  refused_told file scan.Disk opened is = absurd (no_disk file is)
  refused_told file scan.Memory opened is = absurd (no_memory file is)

  down : (image left : FileList) (segments : List WholeSegment) → AllByRecursion IsOpenFile left → IsOnTheWay image left segments → IsAnswered image
  down image [] segments all w = at_end image segments w
  down image (file ∷ left) segments all w = of_file (λ s next. down image left (s ∷ segments) all.1 next) (segment_or_refused file all.0.0.0 all.0.0.1)
    where
      with_file : ((s : WholeSegment) → IsOnTheWay image left (s ∷ segments) → IsAnswered image) → (s : WholeSegment) → IsSegment file s → IsTrue (ends_below s segments) → IsAnswered image
      with_file onward s is meets =
          let on = follows s segments meets w.follow in
          let meant : AllByRecursion IsMeant (s ∷ segments) = ((file, is), w.meant) in
          let files : reverse left ++ file ∷ w.looked ≡ open_files image = sym (append_assoc (reverse left) (file ∷ []) w.looked) ∙ ap (λ (x : FileList). x ++ w.looked) (sym (greatest_of file left)) ∙ w.files in
          elim (cases_Bool (goes_further (s ∷ segments) (all_records (s ∷ segments)))) [
            | inl further ↦ onward s (record { rising = w.rising; looked = file ∷ w.looked; files = files; each = (is, w.each); meant = meant; follow = on; further = further })
            | inr stops ↦
                let enough = reaches s segments on (all_allowed s.first (s ∷ segments) meant on) w.further stops (reverse left) in
                inl (from_lowest s.first (all_records (s ∷ segments)), (s ∷ segments, record { rising = w.rising; older = reverse left; looked = file ∷ w.looked; files = files; each = (is, w.each); follow = on; enough = enough; shown = refl }))
          ]

      of_file : ((s : WholeSegment) → IsOnTheWay image left (s ∷ segments) → IsAnswered image) → ((s : WholeSegment) × IsSegment file s) ⊎ ((fault : ScanFault) × IsRefused file fault) → IsAnswered image
      of_file onward (inl (s, is)) =
          elim (cases_Bool (ends_below s segments)) [
            | inl meets ↦ with_file onward s is meets
            | inr apart ↦ is_wrong image (file ∷ left) segments (gap_below segments (end_of s - 1)) w
                (inr (inl (record { before = reverse left; file = file; greatest = greatest_of file left; next = s; is = is; apart = ap not apart; told = refl })))
          ]
      of_file onward (inr (why, is)) =
          let told = refused_told file why all.0.1 is in
          is_wrong image (file ∷ left) segments told.0 w (inl (record { before = reverse left; file = file; greatest = greatest_of file left; why = why; refused = is; told = told.1 }))

  pub one_of_two : (image : FileList) → IsTrue (is_sorted nat_cmp image) → All IsStored image → ((log : Log) × Spells image log) ⊎ ((fault : RecoverFault) × IsWrongFirst image fault)
  one_of_two image rising stored =
      down image (reverse (open_files image)) [] (all_back (open_files image) (each_open (open_files image) (All-filter is_open_file IsStored image stored) (filter_passes is_open_file image)))
      (record { rising = rising; looked = []; files = append-nil (reverse (reverse (open_files image))) ∙ reverse-reverse (open_files image); each = tt; meant = tt; follow = refl; further = refl })
