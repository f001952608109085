-- Which faults bytes are refused with.
use Rattle.std.proofs.Common.{◌≡◌, inl, inr, ℕ, ◌+◌, ◌^◌, Bool, true, false, ◌&&◌, not, cond, List, length, IsTrue, Result, Ok, Err, refl, sym, ap, subst, ◌∙◌}
use Rattle.std.specs.Int.{w32, w64}
use Rattle.std.proofs.Math.Dec.{ltb, leb, eqb}
use Rattle.frs_segment.specs.declared.layout.ChunkPlace.{ChunkPlace}
use Rattle.frs_segment.specs.declared.fault.ScanFault.{ScanFault}
use Rattle.frs_segment.specs.declared.fault.ScanFault.TheVariants.{HalfMade, BadHeader, BadChunk, NumberLimit, Disk, Memory}
use Rattle.frs_segment.specs.Segments.{File, segment_spelling, end_of, is_open_file}
use Rattle.frs_segment.specs.Scanning.{field_at, header_of, head_of, RefusesChunk, IsRefused}
use Rattle.frs_segment.proofs.IsChunk.{ok}

abbrev is_of_bytes : ScanFault → Bool
is_of_bytes HalfMade = true
is_of_bytes (BadHeader at) = true
is_of_bytes (BadChunk at) = true
is_of_bytes (NumberLimit lsn) = true
is_of_bytes Disk = false
is_of_bytes Memory = false

abbrev is_of_open : ScanFault → Bool
is_of_open HalfMade = false
is_of_open other = is_of_bytes other

-- each test that refuses tells such a fault
told_by : {A : Type 0} (p : ScanFault → Bool) (b : Bool) (fault : ScanFault) (x : Result A ScanFault) → p fault ≡ true → ((f : ScanFault) → x ≡ Err f → p f ≡ true) → (f : ScanFault) → cond b (Err fault) x ≡ Err f → p f ≡ true
told_by p true fault x here rest f e = let same : fault ≡ f = cc in subst (λ (g : ScanFault). p g ≡ true) same here
told_by p false fault x here rest f e = rest f e

not_told : {A : Type 0} (p : ScanFault → Bool) (y : A) (f : ScanFault) → ok y ≡ Err f → p f ≡ true
not_told p y f e = absurd cc

abbrev HeaderTells : (ScanFault → Bool) → File → Type 0
HeaderTells p file = (f : ScanFault) → header_of file ≡ Err f → p f ≡ true

header_of_bytes : (file : File) → HeaderTells is_of_bytes file
unfolding header_of
header_of_bytes file =
    let lsn = field_at w64 14 file.1 in
    told_by is_of_bytes _ HalfMade _ refl (told_by is_of_bytes _ (BadHeader 1) _ refl (told_by is_of_bytes _ (BadHeader 5) _ refl (told_by is_of_bytes _ (BadHeader 6) _ refl
    (told_by is_of_bytes _ (BadHeader 14) _ refl (told_by is_of_bytes _ (NumberLimit lsn) (Ok lsn) refl (not_told is_of_bytes lsn))))))

open_next : {A : Type 0} (b : Bool) (fault f : ScanFault) (x : Result A ScanFault) → b ≡ true → cond (not b) (Err fault) x ≡ Err f → x ≡ Err f
open_next true fault f x is e = e
open_next false fault f x is e = absurd cc

header_of_open : (file : File) → is_open_file file ≡ true → HeaderTells is_of_open file
unfolding header_of
header_of_open file is f e =
    let lsn = field_at w64 14 file.1 in
    told_by is_of_open _ (BadHeader 1) _ refl (told_by is_of_open _ (BadHeader 5) _ refl (told_by is_of_open _ (BadHeader 6) _ refl
    (told_by is_of_open _ (BadHeader 14) _ refl (told_by is_of_open _ (NumberLimit lsn) (Ok lsn) refl (not_told is_of_open lsn))))) f
    (open_next (is_open_file file) HalfMade f _ is e)

head_of_open : (offset next : ℕ) (behind : List ℕ) (f : ScanFault) → head_of offset next behind ≡ Err f → is_of_open f ≡ true
unfolding head_of
head_of_open offset next behind =
    let n = field_at w32 0 behind in
    let count = field_at w32 4 behind in
    let place : ChunkPlace = record { offset = offset; first = next; count = count; body = n } in
    told_by is_of_open (leb (length behind) 16) (BadChunk offset) _ refl
    (told_by is_of_open (leb (length behind) (16 + n)) (BadChunk offset) _ refl
    (told_by is_of_open (not (leb 1 count && leb count 256)) (BadChunk offset) _ refl
    (told_by is_of_open (not (leb 1 n && leb n (2 ^ 20))) (BadChunk offset) _ refl
    (told_by is_of_open (not (eqb (field_at w64 8 behind) next)) (BadChunk offset) _ refl
    (told_by is_of_open (ltb (2 ^ 62) (next + count)) (NumberLimit (2 ^ 62)) (Ok place) refl (not_told is_of_open place))))))

chunk_of_open : (offset next : ℕ) (behind : List ℕ) (f : ScanFault) → RefusesChunk offset next behind f → is_of_open f ≡ true
chunk_of_open offset next behind f (inl failed) = head_of_open offset next behind f failed
chunk_of_open offset next behind f (inr records) = subst (λ (g : ScanFault). is_of_open g ≡ true) (sym records.2) refl

-- a half-made file isn't open, and a file that isn't open is half-made
pub half_is_shut : (file : File) → IsRefused file HalfMade → IsTrue (not (is_open_file file))
half_is_shut file refused = by (is_open_file file) refl
  where
    by : (b : Bool) → is_open_file file ≡ b → IsTrue (not (is_open_file file))
    by false e = ap not e
    by true e = elim refused [
      | inl failed ↦ let no = header_of_open file e HalfMade failed in absurd cc
      | inr r ↦ let no = chunk_of_open (length (segment_spelling r.before)) (end_of r.before) r.behind HalfMade r.chunk in absurd cc
    ]

pub shut_is_half : (file : File) → IsTrue (not (is_open_file file)) → IsRefused file HalfMade
unfolding header_of
shut_is_half file shut = inl (rw shut refl)

-- the disk and memory are never what is wrong with bytes
file_of_bytes : (file : File) (f : ScanFault) → is_of_open f ≡ is_of_bytes f → IsRefused file f → is_of_bytes f ≡ true
file_of_bytes file f same (inl failed) = header_of_bytes file f failed
file_of_bytes file f same (inr r) = sym same ∙ chunk_of_open (length (segment_spelling r.before)) (end_of r.before) r.behind f r.chunk

pub file_blames : (file : File) → IsRefused file Disk → ⊥
file_blames file refused = let no = file_of_bytes file Disk refl refused in cc

pub memory_blames : (file : File) → IsRefused file Memory → ⊥
memory_blames file refused = let no = file_of_bytes file Memory refl refused in cc

-- ---- by the heads alone

pub head_never_half : (offset next : ℕ) (behind : List ℕ) → head_of offset next behind ≡ Err HalfMade → ⊥
head_never_half offset next behind failed = let no = head_of_open offset next behind HalfMade failed in absurd cc

pub shut_header : (file : File) → IsTrue (not (is_open_file file)) → header_of file ≡ Err HalfMade
unfolding header_of
shut_header file shut = rw shut refl

pub header_not_half : (file : File) (first : ℕ) → header_of file ≡ Ok first → IsTrue (not (is_open_file file)) → ⊥
header_not_half file first is shut = let half = shut_header file shut in absurd (cc (is, half))
