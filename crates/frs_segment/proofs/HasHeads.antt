-- What the heads of a file tell is told once, and it is told by going from one gate to the next.
use Rattle.std.proofs.Common.{◌≡◌, inl, inr, ℕ, ◌+◌, ◌-◌, ◌^◌, ◌<◌, ◌≤◌, Bool, true, false, not, List, [], ◌∷◌, ◌++◌, length, get_or, take, drop, Option, Some, None, Result, Ok, Err, refl, sym, ap, subst, ◌∙◌, arith, IsTrue, IfOk}
use Rattle.std.specs.Prelude.{IfErr, All, slice_index}
use Rattle.std.proofs.Math.Dec.{eqb}
use Rattle.std.proofs.lemmas.Bool.{eq-eqb}
use Rattle.frs_segment.specs.declared.layout.ChunkPlace.{ChunkPlace}
use Rattle.frs_segment.specs.declared.layout.Segment.{Segment}
use Rattle.frs_segment.specs.declared.walk.Walk.{Walk}
use Rattle.frs_segment.specs.declared.fault.ScanFault.{ScanFault}
use Rattle.frs_segment.specs.declared.fault.ScanFault.TheVariants.{HalfMade, BadHeader, BadChunk, NumberLimit, Disk, Memory}
use Rattle.frs_segment.specs.Segments.{File}
use Rattle.frs_segment.specs.Faults.{GivesScanned}
use Rattle.frs_segment.specs.Scanning.{header_of, head_of}
use Rattle.frs_segment.specs.Heads.{gate_behind, next_behind, AreInLine, IsInLine, HaveHeads, HasHeads, RefusesHead, IsRefusedByHeads, IsCauseInHeads, TellsHeads, TellsHead, IsNext}
use Rattle.frs_segment.proofs.IsChunk.{ok_is}
use Rattle.frs_segment.proofs.OneSegment.{failed_is}

-- ---- at one gate

-- the gate at the offset is closed, or it is open and this is wrong with the head behind it
abbrev EndsAt : List ℕ → ℕ → ℕ → Option ScanFault → Type 0
EndsAt text offset next None = IsTrue (not (eqb (slice_index text offset) 1))
EndsAt text offset next (Some fault) = (slice_index text offset ≡ 1) × (head_of offset next (drop (offset + 1) text) ≡ Err fault)

pub shut_open : (gate : ℕ) → IsTrue (not (eqb gate 1)) → gate ≡ 1 → ⊥
shut_open gate shut is = by (eqb gate 1) shut (eq-eqb gate 1 is)
  where
    by : (b : Bool) → IsTrue (not b) → b ≡ true → ⊥
    by true shut is = absurd cc
    by false shut is = absurd cc

ok_or_err : {A : Type 0} (r : Result A ScanFault) (x : A) (fault : ScanFault) → r ≡ Ok x → r ≡ Err fault → ⊥
ok_or_err r x fault a b = absurd (cc (a, b))

one_end : (text : List ℕ) (offset next : ℕ) (x y : Option ScanFault) → EndsAt text offset next x → EndsAt text offset next y → x ≡ y
one_end text offset next None None a b = refl
one_end text offset next None (Some g) a b = absurd (shut_open (slice_index text offset) a b.0)
one_end text offset next (Some f) None a b = absurd (shut_open (slice_index text offset) b a.0)
one_end text offset next (Some f) (Some g) a b = ap (λ (h : ScanFault). Some h) (failed_is (head_of offset next (drop (offset + 1) text)) f g a.1 b.1)

-- from one gate on the heads lead to one end
one_way : (text : List ℕ) (offset next : ℕ) (ps qs : List ChunkPlace) (x y : Option ScanFault) → HaveHeads text offset next ps → EndsAt text (gate_behind offset ps) (next_behind next ps) x
    → HaveHeads text offset next qs → EndsAt text (gate_behind offset qs) (next_behind next qs) y → (ps ≡ qs) × (x ≡ y)
one_way text offset next [] [] x y a ex b ey = (refl, one_end text offset next x y ex ey)
one_way text offset next [] (q ∷ qs) None y a ex b ey = absurd (shut_open (slice_index text offset) ex b.0)
one_way text offset next [] (q ∷ qs) (Some f) y a ex b ey = absurd (ok_or_err (head_of offset next (drop (offset + 1) text)) q f b.1 ex.1)
one_way text offset next (p ∷ ps) [] x None a ex b ey = absurd (shut_open (slice_index text offset) ey a.0)
one_way text offset next (p ∷ ps) [] x (Some f) a ex b ey = absurd (ok_or_err (head_of offset next (drop (offset + 1) text)) p f a.1 ey.1)
one_way text offset next (p ∷ ps) (q ∷ qs) x y a ex b ey =
    let same : q ≡ p = ok_is q p (sym b.1 ∙ a.1) in
    let rest = one_way text (offset + 17 + p.body) (next + p.count) ps qs x y a.2 ex
    (subst (λ (r : ChunkPlace). HaveHeads text (offset + 17 + r.body) (next + r.count) qs) same b.2)
    (subst (λ (r : ChunkPlace). EndsAt text (gate_behind (offset + 17 + r.body) qs) (next_behind (next + r.count) qs) y) same ey) in
    (ap (λ (r : ChunkPlace). r ∷ ps) (sym same) ∙ ap (λ (x : List ChunkPlace). q ∷ x) rest.0, rest.1)

-- ---- a file

abbrev segment_by : ℕ → ℕ → List ChunkPlace → Segment
segment_by number first chunks = record { number = number; first = first; «end» = next_behind first chunks; length = gate_behind 22 chunks + 1; chunks = chunks }

shape : (file : File) (found : Segment) → HasHeads file found → found ≡ segment_by file.0 found.first found.chunks
shape file found has =
    ap (λ (n : ℕ). record { number = n; first = found.first; «end» = found.«end»; length = found.length; chunks = found.chunks }) has.number_is
    ∙ ap (λ (n : ℕ). record { number = file.0; first = found.first; «end» = n; length = found.length; chunks = found.chunks }) has.end_is
    ∙ ap (λ (n : ℕ). record { number = file.0; first = found.first; «end» = next_behind found.first found.chunks; length = n; chunks = found.chunks }) has.length_is

pub one_heads : (file : File) (a b : Segment) → HasHeads file a → HasHeads file b → a ≡ b
one_heads file a b x y =
    let first : b.first ≡ a.first = ok_is b.first a.first (sym y.header ∙ x.header) in
    let way = one_way file.1 22 a.first a.chunks b.chunks None None x.heads x.closed (subst (λ (n : ℕ). HaveHeads file.1 22 n b.chunks) first y.heads) y.closed in
    shape file a x ∙ ap (segment_by file.0 a.first) way.0 ∙ ap (λ (n : ℕ). segment_by file.0 n b.chunks) (sym first) ∙ sym (shape file b y)

abbrev nothing : Option ScanFault
nothing = None

pub heads_not_refused : (file : File) (a : Segment) (fault : ScanFault) → HasHeads file a → IsRefusedByHeads file fault → ⊥
heads_not_refused file a fault x (inl failed) = ok_or_err (header_of file) a.first fault x.header failed
heads_not_refused file a fault x (inr r) =
    let first : r.first ≡ a.first = ok_is r.first a.first (sym r.header ∙ x.header) in
    let way = one_way file.1 22 a.first a.chunks r.before None (Some fault) x.heads x.closed (subst (λ (n : ℕ). HaveHeads file.1 22 n r.before) first r.heads)
    (subst (λ (n : ℕ). EndsAt file.1 (gate_behind 22 r.before) (next_behind n r.before) (Some fault)) first (r.gate, r.head)) in
    absurd (none_some way.1)
  where
    none_some : nothing ≡ Some fault → ⊥
    none_some e = absurd cc

pub one_heads_fault : (file : File) (f g : ScanFault) → IsRefusedByHeads file f → IsRefusedByHeads file g → f ≡ g
one_heads_fault file f g (inl a) (inl b) = failed_is (header_of file) f g a b
one_heads_fault file f g (inl a) (inr b) = absurd (ok_or_err (header_of file) b.first f b.header a)
one_heads_fault file f g (inr a) (inl b) = absurd (ok_or_err (header_of file) a.first g a.header b)
one_heads_fault file f g (inr a) (inr b) =
    let first : b.first ≡ a.first = ok_is b.first a.first (sym b.header ∙ a.header) in
    let way = one_way file.1 22 a.first a.before b.before (Some f) (Some g) a.heads (a.gate, a.head) (subst (λ (n : ℕ). HaveHeads file.1 22 n b.before) first b.heads)
    (subst (λ (n : ℕ). EndsAt file.1 (gate_behind 22 b.before) (next_behind n b.before) (Some g)) first (b.gate, b.head)) in
    some_is way.1
  where
    some_is : Some f ≡ Some g → f ≡ g
    some_is e = cc

-- ---- what the call answers

pub heads_read : (file : File) (r : Result Segment ScanFault) (found : Segment) → TellsHeads file r → HasHeads file found → GivesScanned (λ told. told) r (Ok found)
heads_read file (Ok told) found tells has = ap (λ (x : Segment). Ok x) (one_heads file found told has tells)
heads_read file (Err HalfMade) found tells has = absurd (heads_not_refused file found HalfMade has tells)
heads_read file (Err (BadHeader at)) found tells has = absurd (heads_not_refused file found (BadHeader at) has tells)
heads_read file (Err (BadChunk at)) found tells has = absurd (heads_not_refused file found (BadChunk at) has tells)
heads_read file (Err (NumberLimit lsn)) found tells has = absurd (heads_not_refused file found (NumberLimit lsn) has tells)
heads_read file (Err Disk) found tells has = tt
heads_read file (Err Memory) found tells has = tt

pub heads_refused : (file : File) (r : Result Segment ScanFault) (fault : ScanFault) → TellsHeads file r → IsRefusedByHeads file fault → GivesScanned (λ told. told) r (Err fault)
heads_refused file (Ok told) fault tells refused = absurd (heads_not_refused file told fault tells refused)
heads_refused file (Err HalfMade) fault tells refused = ap (λ (f : ScanFault). Err f) (one_heads_fault file fault HalfMade refused tells)
heads_refused file (Err (BadHeader at)) fault tells refused = ap (λ (f : ScanFault). Err f) (one_heads_fault file fault (BadHeader at) refused tells)
heads_refused file (Err (BadChunk at)) fault tells refused = ap (λ (f : ScanFault). Err f) (one_heads_fault file fault (BadChunk at) refused tells)
heads_refused file (Err (NumberLimit lsn)) fault tells refused = ap (λ (f : ScanFault). Err f) (one_heads_fault file fault (NumberLimit lsn) refused tells)
heads_refused file (Err Disk) fault tells refused = tt
heads_refused file (Err Memory) fault tells refused = tt

pub heads_found : (file : File) (r : Result Segment ScanFault) → TellsHeads file r → IfOk r (HasHeads file)
heads_found file (Ok told) tells = tells
heads_found file (Err fault) tells = tt

pub heads_why : (file : File) (r : Result Segment ScanFault) → TellsHeads file r → IfErr r (IsCauseInHeads file)
heads_why file (Ok told) tells = tt
heads_why file (Err fault) tells = tells

-- ---- one chunk more

pub heads_more : (text : List ℕ) (offset next : ℕ) (ps : List ChunkPlace) (p : ChunkPlace) → HaveHeads text offset next ps → slice_index text (gate_behind offset ps) ≡ 1
    → head_of (gate_behind offset ps) (next_behind next ps) (drop (gate_behind offset ps + 1) text) ≡ Ok p → HaveHeads text offset next (ps ++ p ∷ [])
heads_more text offset next [] p all gate head = (gate, head, tt)
heads_more text offset next (q ∷ ps) p all gate head = (all.0, all.1, heads_more text (offset + 17 + q.body) (next + q.count) ps p all.2 gate head)

pub gate_more : (offset : ℕ) (ps : List ChunkPlace) (p : ChunkPlace) → gate_behind offset (ps ++ p ∷ []) ≡ gate_behind offset ps + (17 + p.body)
gate_more offset [] p = omega arith
gate_more offset (q ∷ ps) p = gate_more (offset + 17 + q.body) ps p

pub next_more : (next : ℕ) (ps : List ChunkPlace) (p : ChunkPlace) → next_behind next (ps ++ p ∷ []) ≡ next_behind next ps + p.count
next_more next [] p = refl
next_more next (q ∷ ps) p = next_more (next + q.count) ps p

pub line_more : (offset next : ℕ) (ps : List ChunkPlace) (p : ChunkPlace) → AreInLine offset next ps → p.offset ≡ gate_behind offset ps → p.first ≡ next_behind next ps → AreInLine offset next (ps ++ p ∷ [])
line_more offset next [] p all o n = (o, n, tt)
line_more offset next (q ∷ ps) p all o n = (all.0, all.1, line_more (offset + 17 + q.body) (next + q.count) ps p all.2 o n)
