-- What an image shows of a log, as its newest file grows, one more is made, and the newest files are read.
use Rattle.std.proofs.Common.{◌≡◌, ◌≢◌, inl, inr, ℕ, ◌+◌, ◌-◌, ◌^◌, ◌<◌, ◌≤◌, true, not, ◌&&◌, List, [], ◌∷◌, ◌++◌, length, take, drop, Option, Some, refl, sym, ap, subst, ◌∙◌, arith, IsTrue, append_assoc, length-append, take-append-drop, length-take-le, nat_lt, nat_le, nat_eq, unwrap_or, option_map}
use Rattle.std.specs.List.{AllZip, last_or, list_all, flat_map}
use Rattle.std.specs.Ordering.{nat_cmp}
use Rattle.std.specs.FinMap.Entries.{is_sorted}
use Rattle.std.proofs.lemmas.Bool.{and_parts, and_from, cases_lt, ne_eqb, eq-eqb, eqb-true, le-leb, leb-true, lt-ltb}
use Rattle.std.proofs.lemmas.List.{append-nil}
use Rattle.std.proofs.lemmas.Grind.{flat_map-append}
use Rattle.std.proofs.Math.Seq.{drop-append-add}
use Rattle.frs_types.specs.declared.record.Record.{Record}
use Rattle.frs_types.specs.Records.{Log, is_allowed, are_allowed_from, named_lowest, from_lowest}
use Rattle.frs_segment.specs.Front.{header, empty_segment, IsHalfMade}
use Rattle.frs_segment.specs.Order.{IsInOrder}
use Rattle.frs_segment.specs.Segments.{File, WholeSegment, IsSegment, FileList, records_of, end_of, body, chunk_bytes, chunks_bytes, segment_spelling, is_chunk, are_chunks, open_files, all_records, follow_from, first_alone_reaches, first_of, are_enough, SpellsBy, Spells}
use Rattle.frs_writer.specs.LogImages.{ShowsLog, EndsWithSegment, TakesNext, file_of, with_chunk, new_segment}
use Rattle.frs_writer.proofs.TakesNext.{spelled_open, half_shut, open_more, open_as_before, all_open_more, with_open, with_half, takes_more, takes_first, none_looked, none_order}
use Rattle.frs_types.proofs.Allowed.{lowest_behind}
use Rattle.frs_writer.proofs.IsPlaced.{named_below}
use Rattle.frs_segment.proofs.SpellsAlike.{none_left}
use Rattle.frs_segment.proofs.SpellsBy.{all_records-append, enough_reaches, all_allowed}
use Rattle.frs_writer.proofs.Places.{bytes_more, chunk_end}

-- ---- lists of segments

pub zip_more : (looked : List File) (segments : List WholeSegment) (f : File) (s : WholeSegment) → AllZip IsSegment looked segments → IsSegment f s → AllZip IsSegment (looked ++ f ∷ []) (segments ++ s ∷ [])
zip_more [] [] f s each is = (is, tt)
zip_more [] (t ∷ segments) f s each is = absurd each
zip_more (g ∷ looked) [] f s each is = absurd each
zip_more (g ∷ looked) (t ∷ segments) f s each is = (each.0, zip_more looked segments f s each.1 is)

all_records_more : (segments : List WholeSegment) (s : WholeSegment) → all_records (segments ++ s ∷ []) ≡ all_records segments ++ records_of s
all_records_more segments s = all_records-append segments (s ∷ []) ∙ ap (λ (rs : List Record). all_records segments ++ rs) (append-nil (records_of s))

-- segments that follow each other, taken apart and put together
follow_behind : (n : ℕ) (a b : List WholeSegment) → IsTrue (follow_from n (a ++ b)) → IsTrue (follow_from (n + length (all_records a)) b)
follow_behind n [] b is = subst (λ (k : ℕ). IsTrue (follow_from k b)) (omega arith) is
follow_behind n (s ∷ a) b is =
    let parts = and_parts (nat_eq s.first n) (follow_from (end_of s) (a ++ b)) is in
    let e : end_of s + length (all_records a) ≡ n + length (all_records (s ∷ a)) = omega (arith, eqb-true s.first n parts.0, length-append (records_of s) (all_records a)) in
    subst (λ (k : ℕ). IsTrue (follow_from k b)) e (follow_behind (end_of s) a b parts.1)

follow_more : (n : ℕ) (segments : List WholeSegment) (s : WholeSegment) → IsTrue (follow_from n segments) → s.first ≡ n + length (all_records segments) → IsTrue (follow_from n (segments ++ s ∷ []))
follow_more n [] s is first = and_from _ _ (eq-eqb s.first n (omega (arith, first))) refl
follow_more n (t ∷ segments) s is first =
    let parts = and_parts (nat_eq t.first n) (follow_from (end_of t) segments) is in
    let e : s.first ≡ end_of t + length (all_records segments) = omega (arith, first, eqb-true t.first n parts.0, length-append (records_of t) (all_records segments)) in
    and_from _ _ parts.0 (follow_more (end_of t) segments s parts.1 e)

-- the last one may have more records
follow_longer : (n : ℕ) (segments : List WholeSegment) (s : WholeSegment) (rs : List Record) → IsTrue (follow_from n (segments ++ s ∷ [])) → IsTrue (follow_from n (segments ++ with_chunk s rs ∷ []))
follow_longer n [] s rs is = is
follow_longer n (t ∷ segments) s rs is =
    let parts = and_parts (nat_eq t.first n) (follow_from (end_of t) (segments ++ s ∷ [])) is in
    and_from _ _ parts.0 (follow_longer (end_of t) segments s rs parts.1)

pub first_longer : (segments : List WholeSegment) (s : WholeSegment) (rs : List Record) → first_of (segments ++ with_chunk s rs ∷ []) ≡ first_of (segments ++ s ∷ [])
first_longer [] s rs = refl
first_longer (t ∷ segments) s rs = refl

-- ---- one more chunk

chunks_more : (n : ℕ) (chunks : List (List Record)) (rs : List Record) → IsTrue (are_chunks n chunks) → IsTrue (is_chunk (n + length (flat_map (λ (x : List Record). x) chunks)) rs) → IsTrue (are_chunks n (chunks ++ rs ∷ []))
chunks_more n [] rs all one = and_from (is_chunk n rs) true (subst (λ (k : ℕ). IsTrue (is_chunk k rs)) (omega arith) one) refl
chunks_more n (qs ∷ chunks) rs all one =
    let parts = and_parts (is_chunk n qs) (are_chunks (n + length qs) chunks) all in
    let e : n + length (flat_map (λ (x : List Record). x) (qs ∷ chunks)) ≡ n + length qs + length (flat_map (λ (x : List Record). x) chunks) = omega (arith, length-append qs (flat_map (λ (x : List Record). x) chunks)) in
    and_from (is_chunk n qs) (are_chunks (n + length qs) (chunks ++ rs ∷ [])) parts.0 (chunks_more (n + length qs) chunks rs parts.1 (subst (λ (k : ℕ). IsTrue (is_chunk k rs)) e one))

records_more : (s : WholeSegment) (rs : List Record) → records_of (with_chunk s rs) ≡ records_of s ++ rs
records_more s rs = flat_map-append (λ (x : List Record). x) s.chunks (rs ∷ []) ∙ ap (λ (x : List Record). records_of s ++ x) (append-nil rs)

-- the bytes of a segment with one more chunk
pub chunk_spelling : (s : WholeSegment) (rs : List Record) → segment_spelling (with_chunk s rs) ≡ segment_spelling s ++ chunk_bytes (end_of s) rs
chunk_spelling s rs =
    ap (λ (b : List ℕ). (1 ∷ header s.number s.first) ++ b) (bytes_more s.first s.chunks rs)
    ∙ sym (append_assoc (1 ∷ header s.number s.first) (chunks_bytes s.first s.chunks) (chunk_bytes (end_of s) rs))

-- a chunk has a record
some_record : (n : ℕ) (rs : List Record) → IsTrue (is_chunk n rs) → 1 ≤ length rs
some_record n rs is =
    let a = and_parts (nat_le 1 (length rs) && nat_le (length rs) 256 && nat_le (length (body rs)) (2 ^ 20)) (are_allowed_from n rs) is in
    let b = and_parts (nat_le 1 (length rs) && nat_le (length rs) 256) (nat_le (length (body rs)) (2 ^ 20)) a.0 in
    leb-true 1 (length rs) (and_parts (nat_le 1 (length rs)) (nat_le (length rs) 256) b.0).0

-- a segment that is longer than its header has a record
pub some_records : (s : WholeSegment) → IsTrue (are_chunks s.first s.chunks) → 23 ≤ length (segment_spelling s) → 1 ≤ length (records_of s)
some_records s all long = at s.chunks refl all
  where
    at : (chunks : List (List Record)) → s.chunks ≡ chunks → IsTrue (are_chunks s.first chunks) → 1 ≤ length (flat_map (λ (x : List Record). x) s.chunks)
    at [] is all = absurd (omega (arith, long, ap (λ (l : List (List Record)). length ((1 ∷ header s.number s.first) ++ chunks_bytes s.first l)) is))
    at (rs ∷ chunks) is all =
        omega (
          arith,
          some_record s.first rs (and_parts (is_chunk s.first rs) (are_chunks (s.first + length rs) chunks) all).0,
          ap (λ (l : List (List Record)). length (flat_map (λ (x : List Record). x) l)) is,
          length-append rs (flat_map (λ (x : List Record). x) chunks),
        )

-- ---- the newest file, and what is written to it

-- whatever stands behind the last file's closed gate
pub rests_shut : {alone fresh : Type 0} {image : FileList} {first : ℕ} {records : List Record} {last : WholeSegment} → (r : EndsWithSegment alone fresh image first records last) → (c : FileList) (gate : ℕ) (rest : List ℕ) → gate ≢ 1 → IsTrue (is_sorted nat_cmp c)
    → c ≡ r.front ++ (last.number, segment_spelling last ++ gate ∷ rest) ∷ [] → ShowsLog alone fresh c first records
rests_shut {first = first} {records = records} {last = last} r c gate rest other sorted is =
    let file : File = (last.number, segment_spelling last ++ gate ∷ rest) in
    record {
      rising = sorted;
      older = r.older;
      looked = r.looked ++ file ∷ [];
      files = sym (append_assoc r.older r.looked (file ∷ [])) ∙ ap (λ (x : FileList). x ++ file ∷ []) r.open_ones ∙ sym (open_more r.front file (spelled_open last.number last gate rest)) ∙ sym (ap open_files is);
      segments = r.segments ++ last ∷ [];
      each = zip_more r.looked r.segments file last r.each made;
      follow = r.follow;
      earlier = r.earlier;
      begins = r.begins;
      shown = r.shown;
      alone_is = r.alone_is;
      whole = r.whole;
      fresh_is = λ fresh.
          subst (λ (x : FileList). IsInOrder 1 (first + length records) x (r.segments ++ last ∷ [])) (sym is)
          (with_open 1 (first + length records) r.front file r.segments last (spelled_open last.number last gate rest) (r.fresh_is fresh));
    }
  where
    made : IsSegment (last.number, segment_spelling last ++ gate ∷ rest) last
    made = record {
      number = refl;
      gate = gate;
      rest = rest;
      closed = ap not (ne_eqb gate 1 other);
      bytes = refl;
      chunks = r.made.chunks;
      starts = r.made.starts;
      within = r.made.within;
    }

-- as it stands
pub rests_shows : {alone fresh : Type 0} {image : FileList} {first : ℕ} {records : List Record} {last : WholeSegment} → EndsWithSegment alone fresh image first records last → ShowsLog alone fresh image first records
rests_shows {image = image} r = rests_shut r image 0 [] (omega arith) r.rising r.files

-- the last file ends at the next LSN
pub rests_end : {alone fresh : Type 0} {image : FileList} {first : ℕ} {records : List Record} {last : WholeSegment} → EndsWithSegment alone fresh image first records last → end_of last ≡ first + length records
rests_end {records = records} {last = last} r =
    let start = first_of (r.segments ++ last ∷ []) in
    let here = and_parts (nat_eq last.first (start + length (all_records r.segments))) true (follow_behind start r.segments (last ∷ []) r.follow) in
    omega (
      arith,
      eqb-true last.first (start + length (all_records r.segments)) here.0,
      r.begins,
      ap length (sym (all_records_more r.segments last) ∙ r.shown),
      length-append (all_records r.segments) (records_of last),
      length-append r.earlier records,
    )

-- all files are open
pub rests_open : {alone fresh : Type 0} {image : FileList} {first : ℕ} {records : List Record} {last : WholeSegment} → (r : EndsWithSegment alone fresh image first records last) → fresh → open_files image ≡ image
rests_open {last = last} r fresh =
    ap open_files r.files ∙ all_open_more r.front (file_of last) (spelled_open last.number last 0 []) (r.fresh_is fresh).all_open ∙ sym r.files

-- where the last file has a record one more can stand behind it
pub rests_takes : {alone fresh : Type 0} {image : FileList} {first : ℕ} {records : List Record} {last : WholeSegment} → (r : EndsWithSegment alone fresh image first records last) → 1 ≤ length (records_of last) → fresh
    → TakesNext (last.number + 1) (first + length records) image (rests_shows r).segments
unfolding rests_shut rests_shows
rests_takes {first = first} {records = records} {last = last} r some fresh =
    subst (λ (x : FileList). TakesNext (last.number + 1) (first + length records) x (r.segments ++ last ∷ [])) (sym r.files)
    (takes_more (first + length records) r.front (file_of last) r.segments last (spelled_open last.number last 0 []) (r.fresh_is fresh) (omega (arith, some, rests_end r)))

-- the last file has one more chunk
pub rests_chunk : {alone fresh : Type 0} {image : FileList} {first : ℕ} {records : List Record} {last : WholeSegment} → (r : EndsWithSegment alone fresh image first records last) → (rs : List Record) → IsTrue (is_chunk (end_of last) rs) → end_of last + length rs ≤ 2 ^ 62
    → (c : FileList) → IsTrue (is_sorted nat_cmp c) → c ≡ r.front ++ file_of (with_chunk last rs) ∷ [] → EndsWithSegment alone fresh c first (records ++ rs) (with_chunk last rs)
rests_chunk {records = records} {last = last} r rs chunk within c sorted is = record {
  rising = sorted;
  front = r.front;
  files = is;
  made = record {
    number = refl;
    gate = 0;
    rest = [];
    closed = refl;
    bytes = refl;
    chunks = chunks_more last.first last.chunks rs r.made.chunks chunk;
    starts = r.made.starts;
    within = and_from _ _ (le-leb (end_of (with_chunk last rs)) (2 ^ 62) (omega (arith, chunk_end last rs, within))) (and_parts (nat_le (end_of last) (2 ^ 62)) (nat_lt last.number (2 ^ 62)) r.made.within).1;
  };
  older = r.older;
  looked = r.looked;
  open_ones = r.open_ones;
  segments = r.segments;
  each = r.each;
  follow = subst (λ (n : ℕ). IsTrue (follow_from n (r.segments ++ with_chunk last rs ∷ []))) (sym (first_longer r.segments last rs)) (follow_longer (first_of (r.segments ++ last ∷ [])) r.segments last rs r.follow);
  earlier = r.earlier;
  begins = ap (λ (n : ℕ). n + length r.earlier) (first_longer r.segments last rs) ∙ r.begins;
  shown =
      all_records_more r.segments (with_chunk last rs) ∙ ap (λ (x : List Record). all_records r.segments ++ x) (records_more last rs)
      ∙ sym (append_assoc (all_records r.segments) (records_of last) rs) ∙ ap (λ (x : List Record). x ++ rs) (sym (all_records_more r.segments last) ∙ r.shown)
      ∙ append_assoc r.earlier records rs;
  alone_is = r.alone_is;
  whole = λ none. absurd (omega (arith, some_record (end_of last) rs chunk, ap length none, length-append records rs));
  fresh_is = r.fresh_is;
}

-- a log stands alone under one condition where it does under another
pub shows_as : {alone other fresh : Type 0} {image : FileList} {first : ℕ} {records : List Record} → (alone → other) → (other → alone) → ShowsLog alone fresh image first records → ShowsLog other fresh image first records
shows_as then when s = record {
  rising = s.rising;
  older = s.older;
  looked = s.looked;
  files = s.files;
  segments = s.segments;
  each = s.each;
  follow = s.follow;
  earlier = s.earlier;
  begins = s.begins;
  shown = s.shown;
  alone_is = λ is. s.alone_is (when is);
  whole = λ none. then (s.whole none);
  fresh_is = s.fresh_is;
}

pub rests_as : {alone other fresh : Type 0} {image : FileList} {first : ℕ} {records : List Record} {last : WholeSegment} → (alone → other) → (other → alone) → EndsWithSegment alone fresh image first records last → EndsWithSegment other fresh image first records last
rests_as then when r = record {
  rising = r.rising;
  front = r.front;
  files = r.files;
  made = r.made;
  older = r.older;
  looked = r.looked;
  open_ones = r.open_ones;
  segments = r.segments;
  each = r.each;
  follow = r.follow;
  earlier = r.earlier;
  begins = r.begins;
  shown = r.shown;
  alone_is = λ is. r.alone_is (when is);
  whole = λ none. then (r.whole none);
  fresh_is = r.fresh_is;
}

-- ---- one more file

-- where there is no file yet the first one can be made
pub shows_takes : {alone fresh : Type 0} {image : FileList} {first : ℕ} {records : List Record} → (s : ShowsLog alone fresh image first records) → (number : ℕ) → image ≡ [] → number ≡ 1 → TakesNext number (first + length records) image s.segments
shows_takes {image = image} {first = first} {records = records} s number none is =
    takes_first number (first + length records) image s.segments none (none_looked image s.older s.looked s.segments none s.files s.each) is

-- a half-made file above the others
pub shows_half : {alone fresh : Type 0} {image : FileList} {first : ℕ} {records : List Record} → (s : ShowsLog alone fresh image first records) → (n : ℕ) → (fresh → TakesNext n (first + length records) image s.segments) → (b : List ℕ) → IsHalfMade b → (c : FileList) → IsTrue (is_sorted nat_cmp c) → c ≡ image ++ (n, b) ∷ [] → ShowsLog alone fresh c first records
shows_half {image = image} {first = first} {records = records} s n takes b half c sorted is = record {
  rising = sorted;
  older = s.older;
  looked = s.looked;
  files = s.files ∙ sym (open_as_before image (n, b) (half_shut n b half)) ∙ sym (ap open_files is);
  segments = s.segments;
  each = s.each;
  follow = s.follow;
  earlier = s.earlier;
  begins = s.begins;
  shown = s.shown;
  alone_is = s.alone_is;
  whole = s.whole;
  fresh_is = λ fresh.
      subst (λ (x : FileList). IsInOrder 1 (first + length records) x s.segments) (sym is)
      (with_half (first + length records) image (n, b) s.segments (half_shut n b half) (takes fresh));
}

-- what a segment without a chunk is behind others
record Next (segments : List WholeSegment) (earlier records : List Record) (first : ℕ) (t : WholeSegment) : Type 0 where
  follow : IsTrue (follow_from (first_of (segments ++ t ∷ [])) (segments ++ t ∷ []))
  begins : first_of (segments ++ t ∷ []) + length earlier ≡ first

next : (segments : List WholeSegment) (earlier records : List Record) (first : ℕ) (t : WholeSegment) → IsTrue (follow_from (first_of segments) segments) → first_of segments + length earlier ≡ first → all_records segments ≡ earlier ++ records
    → t.first ≡ first + length records → Next segments earlier records first t
next [] earlier records first t follow begins shown is =
    let none : length earlier + length records ≡ 0 = omega (arith, ap length shown, length-append earlier records) in
    record {
      follow = and_from _ _ (eq-eqb t.first t.first refl) refl;
      begins = omega (arith, none, is);
    }
next (s ∷ segments) earlier records first t follow begins shown is = record {
  follow = follow_more s.first (s ∷ segments) t follow (omega (arith, is, begins, ap length shown, length-append earlier records));
  begins = begins;
}

-- the file of a segment without a chunk
pub empty_made : (n f : ℕ) → 1 ≤ n → n < 2 ^ 62 → 1 ≤ f → f < 2 ^ 62 → IsSegment (n, empty_segment n f) (new_segment n f)
empty_made n f some below first_some first_below = record {
  number = refl;
  gate = 0;
  rest = [];
  closed = refl;
  bytes = refl;
  chunks = refl;
  starts = and_from _ _ (and_from _ _ (le-leb 1 n some) (le-leb 1 f first_some)) (lt-ltb f (2 ^ 62) first_below);
  within = and_from _ _ (le-leb (end_of (new_segment n f)) (2 ^ 62) (omega (arith, first_below))) (lt-ltb n (2 ^ 62) below);
}

-- a segment without a chunk above the others
pub shows_next : {alone fresh : Type 0} {image : FileList} {first : ℕ} {records : List Record} → (s : ShowsLog alone fresh image first records) → (n f : ℕ) → (fresh → TakesNext n (first + length records) image s.segments) → f ≡ first + length records → 1 ≤ n → n < 2 ^ 62 → 1 ≤ f → f < 2 ^ 62
    → (c : FileList) → IsTrue (is_sorted nat_cmp c) → c ≡ image ++ (n, empty_segment n f) ∷ [] → EndsWithSegment alone fresh c first records (new_segment n f)
shows_next {image = image} {first = first} {records = records} s n f takes first_is some below first_some first_below c sorted is =
    let t = new_segment n f in
    let at = next s.segments s.earlier records first t s.follow s.begins s.shown first_is in
    record {
      rising = sorted;
      front = image;
      files = is;
      made = empty_made n f some below first_some first_below;
      older = s.older;
      looked = s.looked;
      open_ones = s.files;
      segments = s.segments;
      each = s.each;
      follow = at.follow;
      earlier = s.earlier;
      begins = at.begins;
      shown = all_records_more s.segments t ∙ append-nil (all_records s.segments) ∙ s.shown;
      alone_is = s.alone_is;
      whole = s.whole;
      fresh_is = λ fresh. subst (λ (m : ℕ). TakesNext n m image s.segments) (sym first_is) (takes fresh);
    }

-- ---- a log that is spelled is shown

-- what a spelled log's first LSN and its records are to all records of the segments
record Told (older : FileList) (segments : List WholeSegment) (all : List Record) (first : ℕ) (records : List Record) : Type 0 where
  earlier : List Record
  begins : first_of segments + length earlier ≡ first
  shown : all ≡ earlier ++ records
  whole : records ≡ [] → (older ≡ []) × (earlier ≡ []) × (first ≡ 1)
  lowest : first ≡ named_lowest records

-- the first of the segments begins at or below the lowest
pub reaches_from : (lowest : ℕ) (segments : List WholeSegment) → IsTrue (first_alone_reaches lowest segments) → first_of segments ≤ lowest
reaches_from lowest [] is = absurd cc
reaches_from lowest (s ∷ segments) is = leb-true s.first lowest (and_parts (nat_le s.first lowest) (list_all (λ (t : WholeSegment). nat_lt lowest t.first) segments) is).0

enough_from : (older : FileList) (segments : List WholeSegment) (rs : List Record) → (rs ≡ [] → ⊥) → IsTrue (first_alone_reaches (named_lowest rs) segments) → IsTrue (are_enough older segments rs)
enough_from [] segments [] some is = absurd (some refl)
enough_from (file ∷ older) segments [] some is = absurd (some refl)
enough_from [] segments (r ∷ rs) some is = is
enough_from (file ∷ older) segments (r ∷ rs) some is = is

told_some : (older : FileList) (segments : List WholeSegment) (rs : List Record) → (rs ≡ [] → ⊥) → first_of segments ≤ named_lowest rs → named_lowest rs < first_of segments + length rs
    → Told older segments rs (named_lowest rs) (drop (named_lowest rs - first_of segments) rs)
told_some older segments rs some le lt =
    let k = named_lowest rs - first_of segments in
    let parts : take k rs ++ drop k rs ≡ rs = take-append-drop k rs in
    let short : length (take k rs) ≡ k = length-take-le k rs (omega (arith, le, lt)) in
    let left : drop k rs ≡ [] → ⊥ = λ none. omega (arith, le, lt, short, ap length none, ap length parts, length-append (take k rs) (drop k rs)) in
    record {
      earlier = take k rs;
      begins = omega (arith, short, le);
      shown = sym parts;
      whole = λ none. absurd (left none);
      lowest = ap named_lowest (sym parts) ∙ lowest_behind (take k rs) (drop k rs) left;
    }

told : (older : FileList) (looked : List File) (segments : List WholeSegment) (rs : List Record) → all_records segments ≡ rs → AllZip IsSegment looked segments → IsTrue (follow_from (first_of segments) segments) → IsTrue (are_enough older segments rs)
    → Told older segments rs (named_lowest rs) (drop (named_lowest rs - first_of segments) rs)
told [] looked segments [] is each follow enough =
    let one : first_of segments ≡ 1 = eqb-true (first_of segments) 1 enough in
    record {
      earlier = [];
      begins = omega (arith, one);
      shown = sym (none_left (1 - first_of segments) [] refl);
      whole = λ none. (refl, refl, refl);
      lowest = sym (ap named_lowest (none_left (1 - first_of segments) [] refl));
    }
told (file ∷ older) looked segments [] is each follow enough = absurd cc
told older looked segments (r ∷ rs) is each follow enough =
    told_some older segments (r ∷ rs) (λ e. cc)
    (reaches_from (named_lowest (r ∷ rs)) segments (enough_reaches older segments (r ∷ rs) (λ e. cc) enough))
    (named_below (first_of segments) (r ∷ rs) (λ e. cc) (subst (λ (x : List Record). IsTrue (are_allowed_from (first_of segments) x)) is (all_allowed (first_of segments) looked segments each follow)))

-- an image shows the log that it spells
pub base_shows : {fresh : Type 0} (image : FileList) (segments : List WholeSegment) (log : Log) → (fresh → image ≡ []) → SpellsBy image segments log → ShowsLog (log.records ≡ []) fresh image log.first log.records
base_shows {fresh = fresh} image segments log empty p =
    let t = told p.older p.looked segments (all_records segments) refl p.each p.follow p.enough in
    subst (λ (l : Log). ShowsLog (l.records ≡ []) fresh image l.first l.records) (sym p.shown) (record {
      rising = p.rising;
      older = p.older;
      looked = p.looked;
      files = p.files;
      segments = segments;
      each = p.each;
      follow = p.follow;
      earlier = t.earlier;
      begins = t.begins;
      shown = t.shown;
      alone_is = t.whole;
      whole = λ none. none;
      fresh_is = λ is. none_order _ image segments (empty is) (none_looked image p.older p.looked segments (empty is) p.files p.each);
    })

-- the first LSN of a spelled log is the lowest that its newest record names
pub base_lowest : (image : FileList) (segments : List WholeSegment) (log : Log) → SpellsBy image segments log → log.first ≡ named_lowest log.records
base_lowest image segments log p =
    subst (λ (l : Log). l.first ≡ named_lowest l.records) (sym p.shown) (told p.older p.looked segments (all_records segments) refl p.each p.follow p.enough).lowest

-- ---- a log that is shown is spelled from its lowest on

-- segments in two parts: from the greatest on that begins at or below the lowest, and those before it
record Split (lowest : ℕ) (segments : List WholeSegment) : Type 0 where
  before : List WholeSegment
  behind : List WholeSegment
  is : segments ≡ before ++ behind
  reaches : IsTrue (first_alone_reaches lowest behind)

-- behind an LSN above the lowest no segment begins at or below it
above : (lowest n : ℕ) (segments : List WholeSegment) → IsTrue (follow_from n segments) → lowest < n → IsTrue (list_all (λ (t : WholeSegment). nat_lt lowest t.first) segments)
above lowest n [] follow lt = refl
above lowest n (s ∷ segments) follow lt =
    let parts = and_parts (nat_eq s.first n) (follow_from (end_of s) segments) follow in
    let is : s.first ≡ n = eqb-true s.first n parts.0 in
    and_from _ _ (lt-ltb lowest s.first (omega (arith, is, lt))) (above lowest (end_of s) segments parts.1 (omega (arith, is, lt)))

split : (lowest n : ℕ) (s : WholeSegment) (segments : List WholeSegment) → IsTrue (follow_from n (s ∷ segments)) → n ≤ lowest → Split lowest (s ∷ segments)
split lowest n s [] follow le =
    let parts = and_parts (nat_eq s.first n) true follow in
    record { before = []; behind = s ∷ []; is = refl; reaches = and_from _ _ (le-leb s.first lowest (omega (arith, le, eqb-true s.first n parts.0))) refl }
split lowest n s (t ∷ segments) follow le =
    let parts = and_parts (nat_eq s.first n) (follow_from (end_of s) (t ∷ segments)) follow in
    let here : IsTrue (nat_le s.first lowest) = le-leb s.first lowest (omega (arith, le, eqb-true s.first n parts.0)) in
    elim (cases_lt lowest (end_of s)) [
      | inl lt ↦ record { before = []; behind = s ∷ t ∷ segments; is = refl; reaches = and_from _ _ here (above lowest (end_of s) (t ∷ segments) parts.1 lt) }
      | inr more ↦
          let rest = split lowest (end_of s) t segments parts.1 more in
          record { before = s ∷ rest.before; behind = rest.behind; is = ap (λ (x : List WholeSegment). s ∷ x) rest.is; reaches = rest.reaches }
    ]

split_all : (lowest : ℕ) (segments : List WholeSegment) → IsTrue (follow_from (first_of segments) segments) → first_of segments ≤ lowest → (all_records segments ≡ [] → ⊥) → Split lowest segments
split_all lowest [] follow le some = absurd (some refl)
split_all lowest (s ∷ segments) follow le some = split lowest s.first s segments follow le

starts_at : (lowest n : ℕ) (segments : List WholeSegment) → IsTrue (first_alone_reaches lowest segments) → IsTrue (follow_from n segments) → first_of segments ≡ n
starts_at lowest n [] reaches follow = absurd cc
starts_at lowest n (s ∷ segments) reaches follow = eqb-true s.first n (and_parts (nat_eq s.first n) (follow_from (end_of s) segments) follow).0

-- the files of the second part
record Apart (looked : List File) (behind : List WholeSegment) : Type 0 where
  front : List File
  back : List File
  is : looked ≡ front ++ back
  each : AllZip IsSegment back behind

apart : (looked : List File) (before behind : List WholeSegment) → AllZip IsSegment looked (before ++ behind) → Apart looked behind
apart looked [] behind each = record { front = []; back = looked; is = refl; each = each }
apart [] (s ∷ before) behind each = absurd each
apart (f ∷ looked) (s ∷ before) behind each =
    let rest = apart looked before behind each.1 in
    record { front = f ∷ rest.front; back = rest.back; is = ap (λ (x : List File). f ∷ x) rest.is; each = rest.each }

same_log : (first other : ℕ) (records others : List Record) → named_lowest records ≡ named_lowest others → drop (named_lowest records - first) records ≡ drop (named_lowest others - other) others → from_lowest first records ≡ from_lowest other others
same_log first other records others p q i = record { first = p i; records = q i }

module _ {alone fresh : Type 0} (image : FileList) (first : ℕ) (records : List Record) (s : ShowsLog alone fresh image first records) where
  none_spelled : records ≡ [] → Spells image (from_lowest first records)
  none_spelled none =
      let whole = s.alone_is (s.whole none) in
      let nothing : all_records s.segments ≡ [] = s.shown ∙ ap (λ (x : List Record). x ++ records) whole.1 ∙ none in
      let one : first_of s.segments ≡ 1 = omega (arith, s.begins, whole.2, ap length whole.1) in
      let enough : IsTrue (are_enough s.older s.segments []) = subst (λ (x : FileList). IsTrue (are_enough x s.segments [])) (sym whole.0) (eq-eqb (first_of s.segments) 1 one) in (
        s.segments,
        record {
          rising = s.rising;
          older = s.older;
          looked = s.looked;
          files = s.files;
          each = s.each;
          follow = s.follow;
          enough = subst (λ (x : List Record). IsTrue (are_enough s.older s.segments x)) (sym nothing) enough;
          shown = ap (λ (n : ℕ). from_lowest n records) (whole.2 ∙ sym one) ∙ ap (from_lowest (first_of s.segments)) (none ∙ sym nothing);
        },
      )

  module _ (some : records ≡ [] → ⊥) (le : first ≤ named_lowest records) where
    some_all : all_records s.segments ≡ [] → ⊥
    some_all none = some (tail s.earlier records (sym s.shown ∙ none))
      where
        tail : (rs qs : List Record) → rs ++ qs ≡ [] → qs ≡ []
        tail [] qs e = e
        tail (r ∷ rs) qs e = absurd cc

    named : named_lowest (all_records s.segments) ≡ named_lowest records
    named = ap named_lowest s.shown ∙ lowest_behind s.earlier records some

    parts : Split (named_lowest records) s.segments
    parts = split_all (named_lowest records) s.segments s.follow (omega (arith, s.begins, le)) some_all

    all_are : all_records s.segments ≡ all_records parts.before ++ all_records parts.behind
    all_are = ap all_records parts.is ∙ all_records-append parts.before parts.behind

    follow_back : IsTrue (follow_from (first_of s.segments + length (all_records parts.before)) parts.behind)
    follow_back = follow_behind (first_of s.segments) parts.before parts.behind (subst (λ (x : List WholeSegment). IsTrue (follow_from (first_of s.segments) x)) parts.is s.follow)

    begins_back : first_of parts.behind ≡ first_of s.segments + length (all_records parts.before)
    begins_back = starts_at (named_lowest records) (first_of s.segments + length (all_records parts.before)) parts.behind parts.reaches follow_back

    low_enough : first_of parts.behind ≤ named_lowest records
    low_enough = reaches_from (named_lowest records) parts.behind parts.reaches

    -- the newest record stands in the second part
    some_back : all_records parts.behind ≡ [] → ⊥
    some_back none =
        omega (
          arith,
          begins_back,
          low_enough,
          named,
          ap length all_are,
          length-append (all_records parts.before) (all_records parts.behind),
          ap length none,
          named_below (first_of s.segments) (all_records s.segments) some_all (all_allowed (first_of s.segments) s.looked s.segments s.each s.follow),
        )

    named_back : named_lowest records ≡ named_lowest (all_records parts.behind)
    named_back = sym named ∙ ap named_lowest all_are ∙ lowest_behind (all_records parts.before) (all_records parts.behind) some_back

    same_records : drop (named_lowest records - first) records ≡ drop (named_lowest (all_records parts.behind) - first_of parts.behind) (all_records parts.behind)
    same_records =
        let k = named_lowest records - first in
        let j = named_lowest (all_records parts.behind) - first_of parts.behind in
        let e : length s.earlier + k ≡ length (all_records parts.before) + j = omega (arith, s.begins, le, begins_back, low_enough, named_back) in
        sym (drop-append-add s.earlier records k) ∙ ap (drop (length s.earlier + k)) (sym s.shown ∙ all_are)
        ∙ ap (λ (n : ℕ). drop n (all_records parts.before ++ all_records parts.behind)) e ∙ drop-append-add (all_records parts.before) (all_records parts.behind) j

    files_back : Apart s.looked parts.behind
    files_back = apart s.looked parts.before parts.behind (subst (λ (x : List WholeSegment). AllZip IsSegment s.looked x) parts.is s.each)

    some_spelled : Spells image (from_lowest first records)
    some_spelled = (
      parts.behind,
      record {
        rising = s.rising;
        older = s.older ++ files_back.front;
        looked = files_back.back;
        files = append_assoc s.older files_back.front files_back.back ∙ ap (λ (x : FileList). s.older ++ x) (sym files_back.is) ∙ s.files;
        each = files_back.each;
        follow = subst (λ (n : ℕ). IsTrue (follow_from n parts.behind)) (sym begins_back) follow_back;
        enough = enough_from (s.older ++ files_back.front) parts.behind (all_records parts.behind) some_back (subst (λ (n : ℕ). IsTrue (first_alone_reaches n parts.behind)) named_back parts.reaches);
        shown = same_log first (first_of parts.behind) records (all_records parts.behind) named_back same_records;
      },
    )

-- the log is spelled from the lowest on that its newest record names, where it is shown from there on
pub spells : {alone fresh : Type 0} (image : FileList) (first : ℕ) (records : List Record) → ShowsLog alone fresh image first records → ((records ≡ [] → ⊥) → first ≤ named_lowest records) → Spells image (from_lowest first records)
spells image first [] s le = none_spelled image first [] s refl
spells image first (r ∷ rs) s le = some_spelled image first (r ∷ rs) s (λ e. cc) (le (λ e. cc))
