-- The numbers of a disk's files from the last to the first, and the files themselves.
use Rattle.std.proofs.Common.{◌≡◌, ℕ, ◌+◌, ◌-◌, ◌<◌, List, [], ◌∷◌, ◌++◌, Option, Some, length, take, drop, get_or, reverse, refl, sym, ap, subst, ◌∙◌, arith, Bool, true, false, not, T, IsTrue, Result, Err}
use Rattle.std.specs.Prelude.{unwrap_or, IsSome, IfOk}
use Rattle.std.proofs.lemmas.List.{take_all, take_more, drop_more, take-append-drop, get_or-map, length-map, length-reverse, get_or-reverse}
use Rattle.std.specs.Ordering.{nat_cmp}
use Rattle.std.specs.FinMap.{get, get-entries, entries, entries_sorted, keys}
use Rattle.std.specs.FinMap.Entries.{find, is_sorted}
use Rattle.frs_disk.specs.Disk.{Image, bytes_at}
use Rattle.std.proofs.lemmas.Bool.{not-true, not-false}
use Rattle.frs_segment.specs.Segments.{File, WholeSegment, all_records, are_enough}
use Rattle.frs_recovery.specs.declared.descent.Descent.{Descent}
use Rattle.frs_recovery.specs.declared.fault.RecoverFault.{RecoverFault}
use Rattle.frs_recovery.specs.Faults.{IsCauseOnDisk, CountsFault, HasRecoverCause}
use Rattle.frs_recovery.specs.Descent.{HasLookedAt, LooksAt, IsWrongFile}
use Rattle.frs_recovery.specs.DescentEnd.{LooksDown}
use Rattle.frs_recovery.specs.FirstFault.{goes_further, gap_below}
use Rattle.frs_segment.proofs.SpellsBy.{rising}
use Rattle.frs_recovery.proofs.RisingFiles.{found_mid}
use Rattle.frs_recovery.proofs.GoesDown.{GoesDown, HasStepped, step, goes_on, is_down, is_down_at_end, wrong_file, wrong_at_end}

-- the files of these numbers but for the last k
abbrev pub files_left : List ℕ → Image → ℕ → List File
files_left numbers m k = take (length numbers - k) (entries m)

pub all_left : (numbers : List ℕ) (m : Image) → numbers ≡ keys m → files_left numbers m 0 ≡ entries m
all_left numbers m e =
    let long : length numbers ≡ length (entries m) = ap length e ∙ length-map (entries m) (λ (f : File). f.0) in
    take_all (length numbers - 0) (entries m) (omega (arith, long))

pub none_left : (numbers : List ℕ) (m : Image) (k : ℕ) → k ≡ length numbers → files_left numbers m k ≡ []
none_left numbers m k e = let none : length numbers - k ≡ 0 = omega arith in ap (λ (n : ℕ). take n (entries m)) none

-- where the file with a number stands
pub record Left (m : Image) (numbers : List ℕ) (k number : ℕ) : Type 0 where
  pub last : files_left numbers m k ≡ files_left numbers m (k + 1) ++ (number, bytes_at m number) ∷ []
  pub there : IsSome (get m number)

pub next_left : (m : Image) (numbers : List ℕ) (k number : ℕ) → numbers ≡ keys m → k < length numbers → number ≡ get_or numbers (length numbers - 1 - k) number → Left m numbers k number
next_left m numbers k number all lt is =
    let es = entries m in
    let i : ℕ = length numbers - 1 - k in
    let d : File = (number, []) in
    let file : File = get_or es i d in
    let long : length numbers ≡ length es = ap length all ∙ length-map es (λ (f : File). f.0) in
    let now : length numbers - k ≡ i + 1 = omega arith in
    let next : i ≡ length numbers - (k + 1) = omega arith in
    let here : i < length es = omega (arith, long) in
    let number_is : file.0 ≡ number = sym (get_or-map (λ (f : File). f.0) es i d number here) ∙ ap (λ (ns : List ℕ). get_or ns i number) (sym all) ∙ sym is in
    let split : es ≡ take i es ++ file ∷ drop (i + 1) es = sym (take-append-drop i es) ∙ ap (λ (x : List File). take i es ++ x) (drop_more es i d here) in
    let rises = subst (λ (x : List File). T (is_sorted nat_cmp x)) split (entries_sorted m) in
    let found : get m number ≡ Some file.1 = get-entries m number ∙ ap (find nat_cmp number) split
    ∙ ap (λ (n : ℕ). find nat_cmp n (take i es ++ file ∷ drop (i + 1) es)) (sym number_is) ∙ found_mid (take i es) file (drop (i + 1) es) rises in
    let bytes_is : file.1 ≡ bytes_at m number = ap (λ (o : Option (List ℕ)). unwrap_or o []) (sym found) in
    let file_is : file ≡ (number, bytes_at m number) = λ j. (number_is j, bytes_is j) in
    record {
      last = ap (λ (n : ℕ). take n es) now ∙ take_more es i d here ∙ ap (λ (f : File). take i es ++ f ∷ []) file_is ∙ ap (λ (n : ℕ). take n es ++ (number, bytes_at m number) ∷ []) next;
      there = subst (λ (o : Option (List ℕ)). IsSome o) (sym found) refl;
    }

-- the number at a place from the last one on
pub turned : (numbers : List ℕ) (k number : ℕ) → (k < length (reverse numbers)) × (number ≡ get_or (reverse numbers) k number) → (k < length numbers) × (number ≡ get_or numbers (length numbers - 1 - k) number)
turned numbers k number (lt, is) =
    let within : k < length numbers = omega (arith, lt, length-reverse numbers) in
    (within, is ∙ get_or-reverse numbers k number within)

-- ---- a turn of the way down

-- the file with the greatest number that is left was looked at
pub turn : (tells later : Bool) (m now : Image) (numbers : List ℕ) (k number : ℕ) (old new : Descent) → GoesDown tells (entries m) (files_left numbers m k) old → (IsTrue tells → numbers ≡ keys m)
    → (k < length numbers) × (number ≡ get_or numbers (length numbers - 1 - k) number) → later ≡ tells → now ≡ m
    → ((segments : List WholeSegment) → HasLookedAt old segments → LooksAt later (number, bytes_at now number) segments old new) → HasStepped tells (entries m) (files_left numbers m (k + 1)) new
turn tells later m now numbers k number old new g all (lt, is) told seen looks =
    step tells (entries m) (files_left numbers m k) (files_left numbers m (k + 1)) (number, bytes_at m number) old new g (λ t. (next_left m numbers k number (all t) lt is).last)
    (subst (λ (b : Bool). LooksAt b (number, bytes_at m number) g.segments old new) told (subst (λ (i : Image). LooksAt later (number, bytes_at i number) g.segments old new) seen (looks g.segments g.looked)))

-- it isn't enough yet
pub turn_on : (tells : Bool) (m : Image) (numbers : List ℕ) (k n : ℕ) (new : Descent) (enough : Bool) → HasStepped tells (entries m) (files_left numbers m (k + 1)) new
    → ((segments : List WholeSegment) → HasLookedAt new segments → enough ≡ not (goes_further segments (all_records segments))) → enough ≡ false → n ≡ k + 1 → GoesDown tells (entries m) (files_left numbers m n) new
turn_on tells m numbers k n new enough s says isnt many =
    subst (λ (i : ℕ). GoesDown tells (entries m) (files_left numbers m i) new) (sym many)
    (goes_on tells (entries m) (files_left numbers m (k + 1)) new s (not-false (goes_further s.segments (all_records s.segments)) (sym (says s.segments s.looked) ∙ isnt)))

-- it is
pub turn_ends : (tells : Bool) (m : Image) (numbers : List ℕ) (k : ℕ) (new : Descent) (enough : Bool) → HasStepped tells (entries m) (files_left numbers m (k + 1)) new
    → ((segments : List WholeSegment) → HasLookedAt new segments → enough ≡ not (goes_further segments (all_records segments))) → enough ≡ true → LooksDown tells (entries m) new
turn_ends tells m numbers k new enough s says is =
    is_down tells (entries m) (files_left numbers m (k + 1)) new s (not-true (goes_further s.segments (all_records s.segments)) (sym (says s.segments s.looked) ∙ is))

-- it is refused
pub turn_fails : (tells later : Bool) (m now : Image) (numbers : List ℕ) (k number : ℕ) (old : Descent) (fault : RecoverFault) → GoesDown tells (entries m) (files_left numbers m k) old → (IsTrue tells → numbers ≡ keys m)
    → (k < length numbers) × (number ≡ get_or numbers (length numbers - 1 - k) number) → later ≡ tells → now ≡ m
    → ((segments : List WholeSegment) → HasLookedAt old segments → IsTrue later → IsWrongFile (number, bytes_at now number) segments fault) → (t : IsTrue tells) → IsCauseOnDisk (entries m) fault
turn_fails tells later m now numbers k number old fault g all at told seen wrong t =
    let (within, here) = at in
    wrong_file tells (entries m) (files_left numbers m k) (files_left numbers m (k + 1)) (number, bytes_at m number) old fault g t (rising m) (next_left m numbers k number (all t) within here).last
    (subst (λ (i : Image). IsWrongFile (number, bytes_at i number) g.segments fault) seen (wrong g.segments g.looked (told ∙ t)))

-- no file is left
pub end_down : (tells : Bool) (m : Image) (numbers : List ℕ) (k : ℕ) (l : Descent) → (g : GoesDown tells (entries m) (files_left numbers m k) l) → k ≡ length numbers
    → ((segments : List WholeSegment) → HasLookedAt l segments → IsTrue (goes_further segments (all_records segments)) → IsTrue (are_enough [] segments (all_records segments))) → LooksDown tells (entries m) l
end_down tells m numbers k l g all enough = is_down_at_end tells (entries m) (files_left numbers m k) l g (none_left numbers m k all) (enough g.segments g.looked g.further)

pub end_fails : (tells : Bool) (m : Image) (numbers : List ℕ) (k : ℕ) (l : Descent) (fault : RecoverFault) → (g : GoesDown tells (entries m) (files_left numbers m k) l) → k ≡ length numbers
    → ((segments : List WholeSegment) → HasLookedAt l segments → IsTrue (goes_further segments (all_records segments)) → IsTrue (not (are_enough [] segments (all_records segments))) × (fault ≡ gap_below segments 0)) → IsTrue tells → IsCauseOnDisk (entries m) fault
end_fails tells m numbers k l fault g all wrong t = wrong_at_end tells (entries m) (files_left numbers m k) l fault g t (rising m) (none_left numbers m k all) (wrong g.segments g.looked g.further)

-- ---- what a call that was refused answers

pub none_down : {X : Type 0} (P : X → Type 0) (result : Result X RecoverFault) (fault : RecoverFault) → result ≡ Err fault → IfOk result P
none_down P result fault is = subst (λ (r : Result _ RecoverFault). IfOk r P) (sym is) tt

pub still_cause : {X : Type 0} (start before now : ℕ) (result : Result X RecoverFault) (fault : RecoverFault) → result ≡ Err fault → before ≡ start → CountsFault before now fault → HasRecoverCause start now result
still_cause start before now result fault is same counts =
    subst (λ (r : Result _ RecoverFault). HasRecoverCause start now r) (sym is) (subst (λ (n : ℕ). CountsFault n now fault) same counts)

pub gap_cause : {X : Type 0} (start before : ℕ) (result : Result X RecoverFault) (fault : RecoverFault) (segments : List WholeSegment) → result ≡ Err fault → before ≡ start → fault ≡ gap_below segments 0 → HasRecoverCause start before result
gap_cause start before result fault segments is same gap =
    subst (λ (r : Result _ RecoverFault). HasRecoverCause start before r) (sym is) (subst (λ (f : RecoverFault). CountsFault start before f) (sym gap) same)
