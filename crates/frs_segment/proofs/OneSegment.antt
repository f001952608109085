-- A file is one thing: one segment, or refused with one fault.
use Rattle.std.proofs.Common.{◌&&◌, ◌≡◌, ◌⊎◌, inl, inr, ℕ, ◌+◌, ◌^◌, ◌<◌, ◌≤◌, not, List, [], ◌∷◌, ◌++◌, length, take, drop, Result, Ok, Err, refl, sym, ap, subst, ◌∙◌, append_assoc, arith, IsTrue}
use Rattle.std.specs.Prelude.{slice_index}
use Rattle.std.proofs.Math.Dec.{ltb, leb, eqb}
use Rattle.std.specs.Int.{w32}
use Rattle.std.proofs.lemmas.Bool.{ltb-true, leb-true, eq-eqb, and_parts, both_ways, not-true}
use Rattle.std.proofs.lemmas.List.{take_at, drop_at, append-nil, length-append}
use Rattle.std.proofs.lemmas.Grind.{flat_map-append}
use Rattle.std.proofs.lemmas.Nat.{from_be_bytes-to_be_bytes_4}
use Rattle.frs_types.specs.declared.record.Record.{Record}
use Rattle.frs_segment.specs.declared.fault.ScanFault.{ScanFault}
use Rattle.frs_segment.specs.Front.{header}
use Rattle.frs_segment.specs.Segments.{File, WholeSegment, IsSegment, body, chunk_bytes, chunks_bytes, segment_spelling, end_of, is_chunk, are_chunks}
use Rattle.frs_segment.specs.Scanning.{field_at, header_of, head_of, RefusesChunk, RefusesBody, IsRefused}
use Rattle.frs_segment.proofs.FillBody.{all_fit, one_body}
use Rattle.frs_segment.proofs.IsChunk.{ok_is, chunk_passes, not_refused}
use Rattle.frs_segment.proofs.SegmentIn.{flat}
use Rattle.frs_segment.proofs.HeaderOf.{headed_from, header_again}

-- ---- chunks

-- bytes begin with one chunk
pub one_chunk : (first : ℕ) (c d : List Record) (u v : List ℕ) → IsTrue (is_chunk first c) → IsTrue (is_chunk first d) → first + length c ≤ 2 ^ 62 → first + length d ≤ 2 ^ 62 → chunk_bytes first c ++ u ≡ chunk_bytes first d ++ v → (c ≡ d) × (u ≡ v)
one_chunk first c d u v is_c is_d below_c below_d e =
    let p = chunk_passes first c is_c in
    let q = chunk_passes first d is_d in
    let len : length (body c) ≡ length (body d) = sym (from_be_bytes-to_be_bytes_4 (length (body c)) (omega (arith, p.short))) ∙ ap (field_at w32 1) e ∙ from_be_bytes-to_be_bytes_4 (length (body d)) (omega (arith, q.short)) in
    let tail : body c ++ u ≡ body d ++ v = ap (drop 17) e in
    let bodies : body c ≡ body d = sym (take_at (body c) u (length (body c)) refl) ∙ ap (take (length (body c))) tail ∙ take_at (body d) v (length (body c)) (sym len) in
    let rests : u ≡ v = sym (drop_at (body c) u (length (body c)) refl) ∙ ap (drop (length (body c))) tail ∙ drop_at (body d) v (length (body c)) (sym len) in
    (one_body c d (all_fit first c below_c p.all) (all_fit first d below_d q.all) bodies, rests)

-- the second chunks go on where the first end
record Longer (first : ℕ) (a b : List (List Record)) (x y : List ℕ) : Type 0 where
  more : List (List Record)
  is : b ≡ a ++ more
  rest : x ≡ chunks_bytes (first + length (flat a)) more ++ y
  all : IsTrue (are_chunks (first + length (flat a)) more)

longer_cons : (first : ℕ) (c : List Record) (a b : List (List Record)) (x y : List ℕ) → Longer (first + length c) a b x y → Longer first (c ∷ a) (c ∷ b) x y
longer_cons first c a b x y l =
    let n : first + length c + length (flat a) ≡ first + length (flat (c ∷ a)) = omega (arith, length-append c (flat a)) in
    record {
      more = l.more;
      is = ap (λ (z : List (List Record)). c ∷ z) l.is;
      rest = l.rest ∙ ap (λ (m : ℕ). chunks_bytes m l.more ++ y) n;
      all = ap (λ (m : ℕ). are_chunks m l.more) (sym n) ∙ l.all;
    }

-- of chunks that stand at one front, one list goes on where the other ends
compare : (first : ℕ) (a b : List (List Record)) (x y : List ℕ) → IsTrue (are_chunks first a) → IsTrue (are_chunks first b) → first + length (flat a) ≤ 2 ^ 62 → first + length (flat b) ≤ 2 ^ 62 → chunks_bytes first a ++ x ≡ chunks_bytes first b ++ y
    → Longer first a b x y ⊎ Longer first b a y x
compare first [] b x y all_a all_b below_a below_b e =
    let n : first ≡ first + 0 = omega arith in
    inl (record { more = b; is = refl; rest = e ∙ ap (λ (m : ℕ). chunks_bytes m b ++ y) n; all = ap (λ (m : ℕ). are_chunks m b) (sym n) ∙ all_b })
compare first (c ∷ a) [] x y all_a all_b below_a below_b e =
    let n : first ≡ first + 0 = omega arith in
    inr (record { more = c ∷ a; is = refl; rest = sym e ∙ ap (λ (m : ℕ). chunks_bytes m (c ∷ a) ++ x) n; all = ap (λ (m : ℕ). are_chunks m (c ∷ a)) (sym n) ∙ all_a })
compare first (c ∷ a) (d ∷ b) x y all_a all_b below_a below_b e =
    let pa = and_parts (is_chunk first c) (are_chunks (first + length c) a) all_a in
    let pb = and_parts (is_chunk first d) (are_chunks (first + length d) b) all_b in
    let long_a = length-append c (flat a) in
    let long_b = length-append d (flat b) in
    let one = one_chunk first c d (chunks_bytes (first + length c) a ++ x) (chunks_bytes (first + length d) b ++ y) pa.0 pb.0 (omega (arith, below_a, long_a)) (omega (arith, below_b, long_b))
    (sym (append_assoc (chunk_bytes first c) (chunks_bytes (first + length c) a) x) ∙ e ∙ append_assoc (chunk_bytes first d) (chunks_bytes (first + length d) b) y) in
    let all_b' : IsTrue (are_chunks (first + length c) b) = ap (λ (z : List Record). are_chunks (first + length z) b) one.0 ∙ pb.1 in
    let len : length c ≡ length d = ap length one.0 in
    let rests : chunks_bytes (first + length c) a ++ x ≡ chunks_bytes (first + length c) b ++ y = one.1 ∙ ap (λ (z : List Record). chunks_bytes (first + length z) b ++ y) (sym one.0) in
    elim (compare (first + length c) a b x y pa.1 all_b' (omega (arith, below_a, long_a)) (omega (arith, below_b, long_b, len)) rests) [
      | inl l ↦ inl (subst (λ (z : List Record). Longer first (c ∷ a) (z ∷ b) x y) one.0 (longer_cons first c a b x y l))
      | inr l ↦ inr (subst (λ (z : List Record). Longer first (z ∷ b) (c ∷ a) y x) one.0 (longer_cons first c b a y x l))
    ]

-- ---- gates

-- the byte before the end of chunks that begin with an open gate
opens : (n : ℕ) (more : List (List Record)) (gate : ℕ) (rest behind : List ℕ) → gate ∷ rest ≡ chunks_bytes n more ++ 1 ∷ behind → gate ≡ 1
opens n [] gate rest behind e = cc
opens n (c ∷ more) gate rest behind e = ap (λ (x : List ℕ). slice_index x 0) e

stays_shut : (n : ℕ) (more : List (List Record)) (gate : ℕ) (rest y : List ℕ) → IsTrue (not (eqb gate 1)) → gate ∷ rest ≡ chunks_bytes n more ++ y → more ≡ []
stays_shut n [] gate rest y shut e = refl
stays_shut n (c ∷ more) gate rest y shut e = absurd (both_ways (eqb gate 1) (not-true (eqb gate 1) shut) (eq-eqb gate 1 (ap (λ (x : List ℕ). slice_index x 0) e)))

pub behind_chunks : (n : ℕ) (chunks : List (List Record)) (gate : ℕ) (rest : List ℕ) → (g : ℕ) × (r : List ℕ) × (chunks_bytes n chunks ++ gate ∷ rest ≡ g ∷ r)
behind_chunks n [] gate rest = (gate, rest, refl)
behind_chunks n (c ∷ chunks) gate rest = (1, drop 1 (chunks_bytes n (c ∷ chunks) ++ gate ∷ rest), refl)

-- where a chunk is refused, none goes on
stops_there : (first offset : ℕ) (a b : List (List Record)) (behind : List ℕ) (gate : ℕ) (rest : List ℕ) (fault : ScanFault) → Longer first a b (1 ∷ behind) (gate ∷ rest) → first + length (flat b) ≤ 2 ^ 62 → RefusesChunk offset (first + length (flat a)) behind fault
    → (b ≡ a) × (1 ∷ behind ≡ gate ∷ rest)
stops_there first offset a b behind gate rest fault l below refuses = at l.more l.is l.rest l.all
  where
    at : (more : List (List Record)) → b ≡ a ++ more → 1 ∷ behind ≡ chunks_bytes (first + length (flat a)) more ++ gate ∷ rest → IsTrue (are_chunks (first + length (flat a)) more) → (b ≡ a) × (1 ∷ behind ≡ gate ∷ rest)
    at [] is e all = (is ∙ append-nil a, e)
    at (c ∷ more) is e all =
        let m : ℕ = first + length (flat a) in
        let parts = and_parts (is_chunk m c) (are_chunks (m + length c) more) all in
        let (g, r, cons) = behind_chunks (m + length c) more gate rest in
        let records : length (flat b) ≡ length (flat a) + (length c + length (flat more)) = ap (λ (x : List (List Record)). length (flat x)) is ∙ ap length (flat_map-append (λ (x : List Record). x) a (c ∷ more)) ∙ omega (arith, length-append (flat a) (flat (c ∷ more)), length-append c (flat more)) in
        let here : 1 ∷ behind ≡ chunk_bytes m c ++ g ∷ r = e ∙ append_assoc (chunk_bytes m c) (chunks_bytes (m + length c) more) (gate ∷ rest) ∙ ap (λ (x : List ℕ). chunk_bytes m c ++ x) cons in
        absurd (not_refused offset m behind c g r fault here parts.0 (omega (arith, below, records)) refuses)

-- ---- files

-- what a segment's file has behind its header
pub segment_tail : (file : File) (s : WholeSegment) (is : IsSegment file s) → chunks_bytes s.first s.chunks ++ is.gate ∷ is.rest ≡ drop 22 file.1
segment_tail file s is = sym (ap (drop 22) is.bytes)

pub segment_header : (file : File) (s : WholeSegment) → IsSegment file s → header_of file ≡ Ok s.first
segment_header file s is =
    let starts = and_parts (leb 1 s.number && leb 1 s.first) (ltb s.first (2 ^ 62)) is.starts in
    let some = (and_parts (leb 1 s.number) (leb 1 s.first) starts.0).1 in
    let within = and_parts (leb (end_of s) (2 ^ 62)) (ltb s.number (2 ^ 62)) is.within in
    let below : file.0 < 2 ^ 62 = omega (arith, ltb-true s.number (2 ^ 62) within.1, is.number) in
    let tail = chunks_bytes s.first s.chunks ++ is.gate ∷ is.rest in
    let spelled : file.1 ≡ (1 ∷ header file.0 s.first) ++ tail = is.bytes ∙ append_assoc (1 ∷ header s.number s.first) (chunks_bytes s.first s.chunks) (is.gate ∷ is.rest) ∙ ap (λ (n : ℕ). (1 ∷ header n s.first) ++ tail) is.number in
    header_again file s.first (headed_from file s.first tail spelled (omega (arith, length-append (chunks_bytes s.first s.chunks) (is.gate ∷ is.rest))) below (leb-true _ _ some) (ltb-true _ _ starts.1))

segment_below : (file : File) (s : WholeSegment) → IsSegment file s → s.first + length (flat s.chunks) ≤ 2 ^ 62
segment_below file s is = leb-true (end_of s) (2 ^ 62) (and_parts (leb (end_of s) (2 ^ 62)) (ltb s.number (2 ^ 62)) is.within).0

segment_is : (s t : WholeSegment) → s.number ≡ t.number → s.first ≡ t.first → s.chunks ≡ t.chunks → s ≡ t
segment_is s t number first chunks =
    ap (λ (n : ℕ). record { number = n; first = s.first; chunks = s.chunks }) number
    ∙ ap (λ (n : ℕ). record { number = t.number; first = n; chunks = s.chunks }) first
    ∙ ap (λ (x : List (List Record)). record { number = t.number; first = t.first; chunks = x }) chunks

pub one_segment : (file : File) (s t : WholeSegment) → IsSegment file s → IsSegment file t → s ≡ t
one_segment file s t is it =
    let first : s.first ≡ t.first = ok_is s.first t.first (sym (segment_header file s is) ∙ segment_header file t it) in
    let all_t : IsTrue (are_chunks s.first t.chunks) = ap (λ (n : ℕ). are_chunks n t.chunks) first ∙ it.chunks in
    let below_t : s.first + length (flat t.chunks) ≤ 2 ^ 62 = omega (arith, segment_below file t it, first) in
    let e : chunks_bytes s.first s.chunks ++ is.gate ∷ is.rest ≡ chunks_bytes s.first t.chunks ++ it.gate ∷ it.rest =
    segment_tail file s is ∙ sym (segment_tail file t it) ∙ ap (λ (n : ℕ). chunks_bytes n t.chunks ++ it.gate ∷ it.rest) (sym first) in
    let chunks : s.chunks ≡ t.chunks = elim (compare s.first s.chunks t.chunks (is.gate ∷ is.rest) (it.gate ∷ it.rest) is.chunks all_t (segment_below file s is) below_t e) [
      | inl l ↦ sym (l.is ∙ ap (λ (x : List (List Record)). s.chunks ++ x) (stays_shut (s.first + length (flat s.chunks)) l.more is.gate is.rest (it.gate ∷ it.rest) is.closed l.rest) ∙ append-nil s.chunks)
      | inr l ↦ l.is ∙ ap (λ (x : List (List Record)). t.chunks ++ x) (stays_shut (s.first + length (flat t.chunks)) l.more it.gate it.rest (is.gate ∷ is.rest) it.closed l.rest) ∙ append-nil t.chunks
    ] in
    segment_is s t (is.number ∙ sym it.number) first chunks

pub failed_is : {A : Type 0} (r : Result A ScanFault) (f g : ScanFault) → r ≡ Err f → r ≡ Err g → f ≡ g
failed_is r f g p q = cc

refused_tail : (file : File) (fault : ScanFault) (r : RefusesBody file fault) → chunks_bytes r.before.first r.before.chunks ++ 1 ∷ r.behind ≡ drop 22 file.1
refused_tail file fault r = sym (ap (drop 22) r.spelled)

pub not_both : (file : File) (s : WholeSegment) (fault : ScanFault) → IsSegment file s → IsRefused file fault → ⊥
not_both file s fault is (inl failed) = let head = segment_header file s is in cc
not_both file s fault is (inr r) =
    let a = r.before.chunks in
    let first : s.first ≡ r.before.first = ok_is s.first r.before.first (sym (segment_header file s is) ∙ r.header) in
    let all_a : IsTrue (are_chunks s.first a) = ap (λ (n : ℕ). are_chunks n a) first ∙ r.chunks in
    let below_a : s.first + length (flat a) ≤ 2 ^ 62 = omega (arith, r.within, first) in
    let e : chunks_bytes s.first a ++ 1 ∷ r.behind ≡ chunks_bytes s.first s.chunks ++ is.gate ∷ is.rest =
    ap (λ (n : ℕ). chunks_bytes n a ++ 1 ∷ r.behind) first ∙ refused_tail file fault r ∙ sym (segment_tail file s is) in
    let refuses : RefusesChunk (length (segment_spelling r.before)) (s.first + length (flat a)) r.behind fault = subst (λ (n : ℕ). RefusesChunk (length (segment_spelling r.before)) (n + length (flat a)) r.behind fault) (sym first) r.chunk in
    let open_gate : is.gate ≡ 1 = elim (compare s.first a s.chunks (1 ∷ r.behind) (is.gate ∷ is.rest) all_a is.chunks below_a (segment_below file s is) e) [
      | inl l ↦ let same = (stops_there s.first (length (segment_spelling r.before)) a s.chunks r.behind is.gate is.rest fault l (segment_below file s is) refuses).1 in cc
      | inr l ↦ opens (s.first + length (flat s.chunks)) l.more is.gate is.rest r.behind l.rest
    ] in
    both_ways (eqb is.gate 1) (not-true (eqb is.gate 1) is.closed) (eq-eqb is.gate 1 open_gate)

one_refusal : (offset next : ℕ) (behind : List ℕ) (f g : ScanFault) → RefusesChunk offset next behind f → RefusesChunk offset next behind g → f ≡ g
one_refusal offset next behind f g (inl p) (inl q) = failed_is (head_of offset next behind) f g p q
one_refusal offset next behind f g (inl p) (inr q) = absurd (let told = q.1 in cc)
one_refusal offset next behind f g (inr p) (inl q) = absurd (let told = p.1 in cc)
one_refusal offset next behind f g (inr p) (inr q) = p.2 ∙ sym q.2

pub one_fault : (file : File) (f g : ScanFault) → IsRefused file f → IsRefused file g → f ≡ g
one_fault file f g (inl p) (inl q) = failed_is (header_of file) f g p q
one_fault file f g (inl p) (inr q) = absurd (let head = q.header in cc)
one_fault file f g (inr p) (inl q) = absurd (let head = p.header in cc)
one_fault file f g (inr p) (inr q) =
    let a = p.before.chunks in
    let b = q.before.chunks in
    let first : p.before.first ≡ q.before.first = ok_is p.before.first q.before.first (sym p.header ∙ q.header) in
    let all_b : IsTrue (are_chunks p.before.first b) = ap (λ (n : ℕ). are_chunks n b) first ∙ q.chunks in
    let below_b : p.before.first + length (flat b) ≤ 2 ^ 62 = omega (arith, q.within, first) in
    let e : chunks_bytes p.before.first a ++ 1 ∷ p.behind ≡ chunks_bytes p.before.first b ++ 1 ∷ q.behind =
    refused_tail file f p ∙ sym (refused_tail file g q) ∙ ap (λ (n : ℕ). chunks_bytes n b ++ 1 ∷ q.behind) (sym first) in
    let refuses : RefusesChunk (length (segment_spelling q.before)) (p.before.first + length (flat b)) q.behind g = subst (λ (n : ℕ). RefusesChunk (length (segment_spelling q.before)) (n + length (flat b)) q.behind g) (sym first) q.chunk in
    let same : (a ≡ b) × (p.behind ≡ q.behind) = elim (compare p.before.first a b (1 ∷ p.behind) (1 ∷ q.behind) p.chunks all_b p.within below_b e) [
      | inl l ↦ let s = stops_there p.before.first (length (segment_spelling p.before)) a b p.behind 1 q.behind f l below_b p.chunk in (sym s.0, ap (drop 1) s.1)
      | inr l ↦ let s = stops_there p.before.first (length (segment_spelling q.before)) b a q.behind 1 p.behind g l p.within refuses in (s.0, sym (ap (drop 1) s.1))
    ] in
    let before : q.before ≡ p.before = segment_is q.before p.before (q.number ∙ sym p.number) (sym first) (sym same.0) in
    let moved : RefusesChunk (length (segment_spelling p.before)) (end_of p.before) q.behind g = subst (λ (s : WholeSegment). RefusesChunk (length (segment_spelling s)) (end_of s) q.behind g) before q.chunk in
    one_refusal (length (segment_spelling p.before)) (end_of p.before) p.behind f g p.chunk (subst (λ (x : List ℕ). RefusesChunk (length (segment_spelling p.before)) (end_of p.before) x g) (sym same.1) moved)
