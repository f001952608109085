-- The head that is read stands there, and a chunk that stands there is read.
use Rattle.std.proofs.Common.{◌≡◌, inl, inr, ℕ, ◌+◌, ◌-◌, ◌^◌, ◌<◌, ◌≤◌, Bool, true, false, ◌&&◌, not, cond, List, ◌∷◌, ◌++◌, length, get_or, take, drop, Result, Ok, Err, refl, sym, ap, subst, ◌∙◌, take-append-drop, arith, IsTrue}
use Rattle.std.proofs.Math.Dec.{ltb, leb, eqb}
use Rattle.std.specs.Int.{w32, w64, to_be_bytes, from_be_bytes}
use Rattle.std.proofs.lemmas.Bool.{cases_lt, ltb-false, le-ltb, leb-true, leb-false, le-leb, lt-leb, eqb-true, eq-eqb, and_parts, and_from, not-false, not_from_true}
use Rattle.std.proofs.lemmas.List.{take_at, take-take, drop-take, drop-drop, drop_more, length-append, length-take, length-drop, get_or-take, get_or_past}
use Rattle.std.proofs.lemmas.Nat.{be_bytes_4, be_bytes_8, from_be_bytes-to_be_bytes_4, from_be_bytes-to_be_bytes_8}
use Rattle.frs_types.specs.declared.record.Record.{Record}
use Rattle.frs_types.specs.Records.{are_allowed_from}
use Rattle.frs_frame.proofs.Takes.{IsBytes, IsBytes-drop}
use Rattle.frs_segment.specs.declared.layout.ChunkPlace.{ChunkPlace}
use Rattle.frs_segment.specs.declared.fault.ScanFault.{ScanFault}
use Rattle.frs_segment.specs.declared.fault.ScanFault.TheVariants.{HalfMade, BadHeader, BadChunk, NumberLimit, Disk, Memory}
use Rattle.frs_segment.specs.Segments.{body, chunk_bytes, is_chunk}
use Rattle.frs_segment.specs.Scanning.{field_at, head_of, head_told_by, chunk_place, FillBody, IsChunk, RefusesChunk, RefusesRecords}
use Rattle.frs_segment.proofs.FillBody.{body_least}

-- ---- tests

-- a test that nothing was refused by
pub passed : {A : Type 0} (b : Bool) (fault : ScanFault) (x : Result A ScanFault) (y : A) → cond b (Err fault) x ≡ Ok y → (b ≡ false) × (x ≡ Ok y)
passed true fault x y e = absurd cc
passed false fault x y e = (refl, e)

-- ---- numbers

word_byte : (n at : ℕ) (text : List ℕ) → IsBytes text → (i : ℕ) → get_or (take n (drop at text)) i 0 < 256
word_byte n at text fits i =
    elim (cases_lt i n) [
      | inl lt ↦ rw (get_or-take n (drop at text) i 0 lt) (IsBytes-drop at text fits i)
      | inr le ↦ rw (get_or_past (take n (drop at text)) i 0 (omega (arith, length-take n (drop at text)))) (omega arith)
    ]

pub number_back32 : (at : ℕ) (text : List ℕ) → IsBytes text → at + 4 ≤ length text → to_be_bytes w32 (field_at w32 at text) ≡ take 4 (drop at text)
number_back32 at text fits le = be_bytes_4 (take 4 (drop at text)) (field_at w32 at text) (omega (arith, length-take 4 (drop at text), length-drop at text)) (word_byte 4 at text fits) refl

pub number_back64 : (at : ℕ) (text : List ℕ) → IsBytes text → at + 8 ≤ length text → to_be_bytes w64 (field_at w64 at text) ≡ take 8 (drop at text)
number_back64 at text fits le = be_bytes_8 (take 8 (drop at text)) (field_at w64 at text) (omega (arith, length-take 8 (drop at text), length-drop at text)) (word_byte 8 at text fits) refl

-- what stands in a first part of a text stands in the text
pub window : (n at most : ℕ) (text : List ℕ) → at + n ≤ most → take n (drop at (take most text)) ≡ take n (drop at text)
window n at most text le =
    let m : most ≡ at + (most - at) = omega (arith, le) in
    ap (λ (x : ℕ). take n (drop at (take x text))) m ∙ ap (take n) (drop-take at (most - at) text) ∙ take-take n (most - at) (drop at text) (omega (arith, le))

-- two texts that begin alike have the same windows there
pub same_window : (n at most : ℕ) (a b : List ℕ) → at + n ≤ most → take most a ≡ take most b → take n (drop at a) ≡ take n (drop at b)
same_window n at most a b le same = sym (window n at most a le) ∙ ap (λ (x : List ℕ). take n (drop at x)) same ∙ window n at most b le

-- what stands from one offset to another, and behind it
pub cut : (n at : ℕ) (text : List ℕ) → take n (drop at text) ++ drop (at + n) text ≡ drop at text
cut n at text = ap (λ (x : List ℕ). take n (drop at text) ++ x) (sym (drop-drop n at text)) ∙ take-append-drop n (drop at text)

-- the numbers of a text whose first part holds bytes
pub number_front32 : (most at : ℕ) (text : List ℕ) → IsBytes (take most text) → at + 4 ≤ most → most ≤ length text → to_be_bytes w32 (field_at w32 at text) ≡ take 4 (drop at text)
number_front32 most at text fits le long =
    let same = window 4 at most text le in
    ap (λ (x : List ℕ). to_be_bytes w32 (from_be_bytes w32 x)) (sym same) ∙ number_back32 at (take most text) fits (omega (arith, length-take most text, le, long)) ∙ same

pub number_front64 : (most at : ℕ) (text : List ℕ) → IsBytes (take most text) → at + 8 ≤ most → most ≤ length text → to_be_bytes w64 (field_at w64 at text) ≡ take 8 (drop at text)
number_front64 most at text fits le long =
    let same = window 8 at most text le in
    ap (λ (x : List ℕ). to_be_bytes w64 (from_be_bytes w64 x)) (sym same) ∙ number_back64 at (take most text) fits (omega (arith, length-take most text, le, long)) ∙ same

-- ---- a chunk's head

-- what a head tells that has passed the tests
pub record Told (offset next : ℕ) (behind : List ℕ) (place : ChunkPlace) : Type 0 where
  pub place_is : place ≡ record { offset = offset; first = next; count = field_at w32 4 behind; body = field_at w32 0 behind }
  pub long : 16 + field_at w32 0 behind < length behind
  pub some : 1 ≤ field_at w32 4 behind
  pub few : field_at w32 4 behind ≤ 256
  pub full : 1 ≤ field_at w32 0 behind
  pub short : field_at w32 0 behind ≤ 2 ^ 20
  pub there : field_at w64 8 behind ≡ next
  pub within : next + field_at w32 4 behind ≤ 2 ^ 62

abbrev pub ok : {A : Type 0} → A → Result A ScanFault
ok x = Ok x

pub ok_is : {A : Type 0} (x y : A) → ok x ≡ ok y → x ≡ y
ok_is x y e = cc

pub head_told : (offset next : ℕ) (behind : List ℕ) (place : ChunkPlace) → head_of offset next behind ≡ Ok place → Told offset next behind place
unfolding head_of
head_told offset next behind place e =
    let n = field_at w32 0 behind in
    let count = field_at w32 4 behind in
    let a = passed _ _ _ place e in
    let b = passed _ _ _ place a.1 in
    let c = passed _ _ _ place b.1 in
    let d = passed _ _ _ place c.1 in
    let f = passed _ _ _ place d.1 in
    let g = passed _ _ _ place f.1 in
    let counts = and_parts (leb 1 count) (leb count 256) (not-false (leb 1 count && leb count 256) c.0) in
    let sizes = and_parts (leb 1 n) (leb n (2 ^ 20)) (not-false (leb 1 n && leb n (2 ^ 20)) d.0) in
    record {
      place_is = sym (ok_is _ place g.1);
      long = leb-false (length behind) (16 + n) b.0;
      some = leb-true 1 count counts.0;
      few = leb-true count 256 counts.1;
      full = leb-true 1 n sizes.0;
      short = leb-true n (2 ^ 20) sizes.1;
      there = eqb-true (field_at w64 8 behind) next (not-false (eqb (field_at w64 8 behind) next) f.0);
      within = ltb-false (2 ^ 62) (next + count) g.0;
    }

pub head_again : (offset next : ℕ) (behind : List ℕ) (place : ChunkPlace) → Told offset next behind place → head_of offset next behind ≡ Ok place
unfolding head_of
head_again offset next behind place t =
    let n = field_at w32 0 behind in
    let count = field_at w32 4 behind in
    let a : leb (length behind) 16 ≡ false = lt-leb _ _ (omega (arith, t.long)) in
    let b : leb (length behind) (16 + n) ≡ false = lt-leb _ _ t.long in
    let c : not (leb 1 count && leb count 256) ≡ false = not_from_true _ (and_from (leb 1 count) (leb count 256) (le-leb _ _ t.some) (le-leb _ _ t.few)) in
    let d : not (leb 1 n && leb n (2 ^ 20)) ≡ false = not_from_true _ (and_from (leb 1 n) (leb n (2 ^ 20)) (le-leb _ _ t.full) (le-leb _ _ t.short)) in
    let f : not (eqb (field_at w64 8 behind) next) ≡ false = not_from_true _ (eq-eqb _ _ t.there) in
    let g : ltb (2 ^ 62) (next + count) ≡ false = le-ltb _ _ t.within in
    rw (a, b, c, d, f, g) (ap ok (sym t.place_is))

-- a head of which the first part is known
pub head_alike : (offset next : ℕ) (front behind : List ℕ) → take 16 front ≡ take 16 behind
    → head_of offset next behind ≡ head_told_by (length behind) offset next (field_at w32 0 front) (field_at w32 4 front) (field_at w64 8 front)
unfolding head_of
head_alike offset next front behind same =
    let told : ℕ → ℕ → ℕ → Result ChunkPlace ScanFault = head_told_by (length behind) offset next in
    let n : field_at w32 0 behind ≡ field_at w32 0 front = ap (from_be_bytes w32) (sym (same_window 4 0 16 front behind (omega arith) same)) in
    let count : field_at w32 4 behind ≡ field_at w32 4 front = ap (from_be_bytes w32) (sym (same_window 4 4 16 front behind (omega arith) same)) in
    let first : field_at w64 8 behind ≡ field_at w64 8 front = ap (from_be_bytes w64) (sym (same_window 8 8 16 front behind (omega arith) same)) in
    ap (λ (x : ℕ). told x (field_at w32 4 behind) (field_at w64 8 behind)) n ∙ ap (λ (x : ℕ). told (field_at w32 0 front) x (field_at w64 8 behind)) count ∙ ap (told (field_at w32 0 front) (field_at w32 4 front)) first

-- a file that ends before the head does
pub head_short : (offset next : ℕ) (behind : List ℕ) → length behind ≤ 16 → head_of offset next behind ≡ Err (BadChunk offset)
unfolding head_of
head_short offset next behind le = rw (le-leb (length behind) 16 le) refl

-- the bytes of a head that has passed the tests
pub head_bytes : (offset next : ℕ) (behind : List ℕ) (place : ChunkPlace) → IsBytes (take 16 behind) → Told offset next behind place
    → behind ≡ to_be_bytes w32 place.body ++ (to_be_bytes w32 place.count ++ (to_be_bytes w64 place.first ++ drop 16 behind))
head_bytes offset next behind place fits t =
    let len : 16 ≤ length behind = omega (arith, t.long) in
    let n : to_be_bytes w32 place.body ≡ take 4 (drop 0 behind) = ap (λ (p : ChunkPlace). to_be_bytes w32 p.body) t.place_is ∙ number_front32 16 0 behind fits (omega arith) len in
    let count : to_be_bytes w32 place.count ≡ take 4 (drop 4 behind) = ap (λ (p : ChunkPlace). to_be_bytes w32 p.count) t.place_is ∙ number_front32 16 4 behind fits (omega arith) len in
    let first : to_be_bytes w64 place.first ≡ take 8 (drop 8 behind) = ap (λ (p : ChunkPlace). to_be_bytes w64 p.first) t.place_is ∙ ap (to_be_bytes w64) (sym t.there) ∙ number_front64 16 8 behind fits (omega arith) len in
    sym (ap (λ (x : List ℕ). x ++ (to_be_bytes w32 place.count ++ (to_be_bytes w64 place.first ++ drop 16 behind))) n
    ∙ ap (λ (x : List ℕ). take 4 (drop 0 behind) ++ (x ++ (to_be_bytes w64 place.first ++ drop 16 behind))) count
    ∙ ap (λ (x : List ℕ). take 4 (drop 0 behind) ++ (take 4 (drop 4 behind) ++ (x ++ drop 16 behind))) first
    ∙ ap (λ (x : List ℕ). take 4 (drop 0 behind) ++ (take 4 (drop 4 behind) ++ x)) (cut 8 8 behind)
    ∙ ap (λ (x : List ℕ). take 4 (drop 0 behind) ++ x) (cut 4 4 behind)
    ∙ cut 4 0 behind)

-- ---- a chunk

-- the chunk behind the open gate at the offset stands there
abbrev pub TellsChunk : ℕ → ℕ → List ℕ → ChunkPlace → Type 0
TellsChunk offset next behind place = (place.offset ≡ offset) × (place.first ≡ next) × ((rs : List Record) × IsChunk place (1 ∷ behind) rs)

-- a chunk's bytes, as its gate, its head and its body
abbrev pub chunk_parts : ℕ → List Record → List ℕ → List ℕ
chunk_parts first rs rest = 1 ∷ (to_be_bytes w32 (length (body rs)) ++ (to_be_bytes w32 (length rs) ++ (to_be_bytes w64 first ++ (body rs ++ rest))))

pub chunk_parts_is : (first : ℕ) (rs : List Record) (rest : List ℕ) → chunk_bytes first rs ++ rest ≡ chunk_parts first rs rest
chunk_parts_is first rs rest = refl

-- the records that fill the body of a head make a chunk with it
pub chunk_told : (offset next : ℕ) (behind : List ℕ) (place : ChunkPlace) (rs : List Record) → IsBytes (take 16 behind) → head_of offset next behind ≡ Ok place → FillBody place (take place.body (drop 16 behind)) rs
    → (place.offset ≡ offset) × (place.first ≡ next) × IsChunk place (1 ∷ behind) rs
chunk_told offset next behind place rs fits e fill =
    let t = head_told offset next behind place e in
    let long : 16 + place.body < length behind = subst (λ (p : ChunkPlace). 16 + p.body < length behind) (sym t.place_is) t.long in
    let len : length (body rs) ≡ place.body = omega (arith, ap length fill.spelled, length-take place.body (drop 16 behind), length-drop 16 behind) in
    let gate = get_or behind (16 + place.body) 0 in
    let rest = drop (16 + place.body + 1) behind in
    let after : drop (16 + place.body) behind ≡ gate ∷ rest = drop_more behind (16 + place.body) 0 long in
    let tail : drop 16 behind ≡ body rs ++ gate ∷ rest = sym (cut place.body 16 behind) ∙ ap (λ (x : List ℕ). x ++ drop (16 + place.body) behind) fill.spelled ∙ ap (λ (x : List ℕ). body rs ++ x) after in
    let parts : behind ≡ to_be_bytes w32 (length (body rs)) ++ (to_be_bytes w32 (length rs) ++ (to_be_bytes w64 place.first ++ (body rs ++ gate ∷ rest))) =
    head_bytes offset next behind place fits t
    ∙ ap (λ (x : List ℕ). to_be_bytes w32 place.body ++ (to_be_bytes w32 place.count ++ (to_be_bytes w64 place.first ++ x))) tail
    ∙ ap (λ (n : ℕ). to_be_bytes w32 n ++ (to_be_bytes w32 place.count ++ (to_be_bytes w64 place.first ++ (body rs ++ gate ∷ rest)))) (sym len)
    ∙ ap (λ (n : ℕ). to_be_bytes w32 (length (body rs)) ++ (to_be_bytes w32 n ++ (to_be_bytes w64 place.first ++ (body rs ++ gate ∷ rest)))) (sym fill.count_is) in
    let some : 1 ≤ place.count = subst (λ (p : ChunkPlace). 1 ≤ p.count) (sym t.place_is) t.some in
    let few : place.count ≤ 256 = subst (λ (p : ChunkPlace). p.count ≤ 256) (sym t.place_is) t.few in
    let short : place.body ≤ 2 ^ 20 = subst (λ (p : ChunkPlace). p.body ≤ 2 ^ 20) (sym t.place_is) t.short in
    let within : place.first + place.count ≤ 2 ^ 62 = subst (λ (p : ChunkPlace). p.first + p.count ≤ 2 ^ 62) (sym t.place_is) t.within in
    let is : is_chunk place.first rs ≡ true =
    and_from (leb 1 (length rs) && leb (length rs) 256 && leb (length (body rs)) (2 ^ 20)) (are_allowed_from place.first rs)
    (and_from (leb 1 (length rs) && leb (length rs) 256) (leb (length (body rs)) (2 ^ 20))
    (and_from (leb 1 (length rs)) (leb (length rs) 256) (le-leb _ _ (omega (arith, fill.count_is))) (le-leb _ _ (omega (arith, fill.count_is))))
    (le-leb _ _ (omega (arith, len)))) fill.allowed in (
      ap (λ (p : ChunkPlace). p.offset) t.place_is,
      ap (λ (p : ChunkPlace). p.first) t.place_is,
      record {
        gate = gate;
        rest = rest;
        spelled = ap (λ (x : List ℕ). 1 ∷ x) parts ∙ sym (chunk_parts_is place.first rs (gate ∷ rest));
        count_is = fill.count_is;
        body_is = len;
        chunk = is;
        within = omega (arith, fill.count_is, within);
      },
    )

-- the tests that a chunk's records pass
pub record Passes (first : ℕ) (rs : List Record) : Type 0 where
  pub some : 1 ≤ length rs
  pub few : length rs ≤ 256
  pub short : length (body rs) ≤ 2 ^ 20
  pub all : are_allowed_from first rs ≡ true

pub chunk_passes : (first : ℕ) (rs : List Record) → IsTrue (is_chunk first rs) → Passes first rs
chunk_passes first rs is =
    let a = and_parts (leb 1 (length rs) && leb (length rs) 256 && leb (length (body rs)) (2 ^ 20)) (are_allowed_from first rs) is in
    let b = and_parts (leb 1 (length rs) && leb (length rs) 256) (leb (length (body rs)) (2 ^ 20)) a.0 in
    let c = and_parts (leb 1 (length rs)) (leb (length rs) 256) b.0 in
    record { some = leb-true _ _ c.0; few = leb-true _ _ c.1; short = leb-true _ _ b.1; all = a.1 }

-- a chunk that stands there has this head
pub head_of_chunk : (offset first : ℕ) (behind : List ℕ) (rs : List Record) (gate : ℕ) (rest : List ℕ) → 1 ∷ behind ≡ chunk_bytes first rs ++ gate ∷ rest → IsTrue (is_chunk first rs) → first + length rs ≤ 2 ^ 62
    → (head_of offset first behind ≡ Ok (chunk_place offset first rs)) × (take (length (body rs)) (drop 16 behind) ≡ body rs)
head_of_chunk offset first behind rs gate rest e is within =
    let p = chunk_passes first rs is in
    let tail : behind ≡ to_be_bytes w32 (length (body rs)) ++ (to_be_bytes w32 (length rs) ++ (to_be_bytes w64 first ++ (body rs ++ gate ∷ rest))) = ap (drop 1) (e ∙ chunk_parts_is first rs (gate ∷ rest)) in
    let n : field_at w32 0 behind ≡ length (body rs) = ap (field_at w32 0) tail ∙ from_be_bytes-to_be_bytes_4 (length (body rs)) (omega (arith, p.short)) in
    let count : field_at w32 4 behind ≡ length rs = ap (field_at w32 4) tail ∙ from_be_bytes-to_be_bytes_4 (length rs) (omega (arith, p.few)) in
    let there : field_at w64 8 behind ≡ first = ap (field_at w64 8) tail ∙ from_be_bytes-to_be_bytes_8 first (omega (arith, within)) in
    let after : drop 16 behind ≡ body rs ++ gate ∷ rest = ap (drop 16) tail in
    let len : length behind ≡ 17 + length (body rs) + length rest = ap length tail ∙ omega (arith, length-append (body rs) (gate ∷ rest)) in
    let least = body_least rs in
    let t : Told offset first behind (chunk_place offset first rs) = record {
      place_is = ap (λ (m : ℕ). record { offset = offset; first = first; count = m; body = length (body rs) }) (sym count) ∙ ap (λ (m : ℕ). record { offset = offset; first = first; count = field_at w32 4 behind; body = m }) (sym n);
      long = omega (arith, n, len);
      some = omega (arith, count, p.some);
      few = omega (arith, count, p.few);
      full = omega (arith, n, least, p.some);
      short = omega (arith, n, p.short);
      there = there;
      within = omega (arith, count, within);
    } in
    (head_again offset first behind (chunk_place offset first rs) t, ap (take (length (body rs))) after ∙ take_at (body rs) (gate ∷ rest) (length (body rs)) refl)

-- a chunk that stands there isn't refused
pub not_refused : (offset first : ℕ) (behind : List ℕ) (rs : List Record) (gate : ℕ) (rest : List ℕ) (fault : ScanFault) → 1 ∷ behind ≡ chunk_bytes first rs ++ gate ∷ rest → IsTrue (is_chunk first rs) → first + length rs ≤ 2 ^ 62
    → RefusesChunk offset first behind fault → ⊥
not_refused offset first behind rs gate rest fault e is within refuses =
    let head = head_of_chunk offset first behind rs gate rest e is within in
    elim refuses [
      | inl failed ↦ absurd (cc (head.0, failed))
      | inr (place, told, fault_is, none) ↦
          let place_is : chunk_place offset first rs ≡ place = ok_is (chunk_place offset first rs) place (sym head.0 ∙ told) in
          let fill : FillBody (chunk_place offset first rs) (take (length (body rs)) (drop 16 behind)) rs = record { spelled = head.1; count_is = refl; allowed = (chunk_passes first rs is).all } in
          none rs (subst (λ (p : ChunkPlace). FillBody p (take p.body (drop 16 behind)) rs) place_is fill)
    ]
