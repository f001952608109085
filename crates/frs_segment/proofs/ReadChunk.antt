-- One chunk whose place is known: what stands there is read, and what is read stands there.
use Rattle.std.proofs.Common.{◌≡◌, ℕ, ◌+◌, ◌≤◌, List, [], ◌∷◌, ◌++◌, length, take, drop, Result, Ok, Err, sym, ap, subst, ◌∙◌, append_assoc, take-append-drop, arith, IfOk, Vec, Global}
use Rattle.std.specs.Prelude.{slice_index, IfErr}
use Rattle.std.proofs.lemmas.List.{take_at, drop-drop, drop_more, length-append}
use Rattle.frs_types.specs.declared.record.Record.{Record}
use Rattle.frs_segment.specs.declared.layout.ChunkPlace.{ChunkPlace}
use Rattle.frs_segment.specs.declared.fault.ScanFault.{ScanFault}
use Rattle.frs_segment.specs.declared.fault.ScanFault.TheVariants.{HalfMade, BadHeader, BadChunk, NumberLimit, Disk, Memory}
use Rattle.frs_segment.specs.Segments.{body, chunk_bytes}
use Rattle.frs_segment.specs.Faults.{GivesScanned}
use Rattle.frs_segment.specs.Scanning.{head_of, chunk_place, FillBody, IsChunk, RefusesRecords, RefusesPlace}
use Rattle.frs_frame.proofs.Takes.{IsBytes, IsBytes-drop, IsBytes-take}
use Rattle.frs_segment.proofs.IsChunk.{chunk_told, head_of_chunk, chunk_passes}
use Rattle.frs_segment.proofs.OneSegment.{one_chunk}

pub place_is : (place : ChunkPlace) (text : List ℕ) (rs : List Record) → IsChunk place text rs → chunk_place place.offset place.first rs ≡ place
place_is place text rs is =
    ap (λ (n : ℕ). record { offset = place.offset; first = place.first; count = n; body = length (body rs) }) is.count_is
    ∙ ap (λ (n : ℕ). record { offset = place.offset; first = place.first; count = place.count; body = n }) is.body_is

-- a chunk that stands there begins with an open gate and its head, and then come its records
pub record Begins (place : ChunkPlace) (text : List ℕ) (rs : List Record) : Type 0 where
  pub gate : slice_index text 0 ≡ 1
  pub head : head_of place.offset place.first (drop 1 text) ≡ Ok place
  pub records : FillBody place (take place.body (drop 17 text)) rs

pub chunk_begins : (place : ChunkPlace) (text : List ℕ) (rs : List Record) → IsChunk place text rs → Begins place text rs
chunk_begins place text rs is =
    let front : 1 ∷ drop 1 text ≡ chunk_bytes place.first rs ++ is.gate ∷ is.rest = ap (λ (x : List ℕ). 1 ∷ drop 1 x) is.spelled in
    let head = head_of_chunk place.offset place.first (drop 1 text) rs is.gate is.rest front is.chunk is.within in
    let bytes : take place.body (drop 17 text) ≡ body rs = ap (λ (x : List ℕ). take place.body (drop 17 x)) is.spelled ∙ take_at (body rs) (is.gate ∷ is.rest) place.body is.body_is in
    record {
      gate = ap (λ (x : List ℕ). slice_index x 0) is.spelled;
      head = head.0 ∙ ap (λ (p : ChunkPlace). Ok p) (place_is place text rs is);
      records = record { spelled = bytes; count_is = is.count_is; allowed = (chunk_passes place.first rs is.chunk).all };
    }

pub begun_chunk : (place : ChunkPlace) (text : List ℕ) (rs : List Record) → IsBytes text → 1 ≤ length text → Begins place text rs → IsChunk place text rs
begun_chunk place text rs fits some b =
    let behind : drop 16 (drop 1 text) ≡ drop 17 text = drop-drop 16 1 text in
    let records : FillBody place (take place.body (drop 16 (drop 1 text))) rs = subst (λ (x : List ℕ). FillBody place (take place.body x) rs) (sym behind) b.records in
    let told = chunk_told place.offset place.first (drop 1 text) place rs (IsBytes-take 16 (drop 1 text) (IsBytes-drop 1 text fits)) b.head records in
    let whole : text ≡ 1 ∷ drop 1 text = drop_more text 0 0 (omega arith) ∙ ap (λ (g : ℕ). g ∷ drop 1 text) b.gate in
    subst (λ (x : List ℕ). IsChunk place x rs) (sym whole) told.2

-- a chunk of which 18 bytes and its body are read is the chunk that stands there
pub chunk_shorter : (place : ChunkPlace) (text : List ℕ) (rs : List Record) → IsChunk place text rs → IsChunk place (take (18 + place.body) text) rs
chunk_shorter place text rs is =
    let front = chunk_bytes place.first rs ++ is.gate ∷ [] in
    let len : length front ≡ 18 + place.body = length-append (chunk_bytes place.first rs) (is.gate ∷ []) ∙ omega (arith, is.body_is) in
    let split : text ≡ front ++ is.rest = is.spelled ∙ sym (append_assoc (chunk_bytes place.first rs) (is.gate ∷ []) is.rest) in
    record {
      gate = is.gate;
      rest = [];
      spelled = ap (take (18 + place.body)) split ∙ take_at front is.rest (18 + place.body) len;
      count_is = is.count_is;
      body_is = is.body_is;
      chunk = is.chunk;
      within = is.within;
    }

pub chunk_longer : (n : ℕ) (place : ChunkPlace) (text : List ℕ) (rs : List Record) → IsChunk place (take n text) rs → IsChunk place text rs
chunk_longer n place text rs is = record {
  gate = is.gate;
  rest = is.rest ++ drop n text;
  spelled = sym (take-append-drop n text) ∙ ap (λ (x : List ℕ). x ++ drop n text) is.spelled ∙ append_assoc (chunk_bytes place.first rs) (is.gate ∷ is.rest) (drop n text);
  count_is = is.count_is;
  body_is = is.body_is;
  chunk = is.chunk;
  within = is.within;
}

-- at one place stands one chunk
pub one_at : (place : ChunkPlace) (text : List ℕ) (rs qs : List Record) → IsChunk place text rs → IsChunk place text qs → rs ≡ qs
one_at place text rs qs is it = (one_chunk place.first rs qs (is.gate ∷ is.rest) (it.gate ∷ it.rest) is.chunk it.chunk is.within it.within (sym is.spelled ∙ it.spelled)).0

abbrev pub Records : Type 0
Records = Vec Record Global

pub records_refused : (place : ChunkPlace) (text : List ℕ) (fault : ScanFault) → RefusesRecords place (take place.body (drop 17 text)) fault → RefusesPlace place text fault
records_refused place text HalfMade why = why
records_refused place text (BadHeader at) why = why
records_refused place text (BadChunk at) why = (why.0, λ rs is. why.1 rs (chunk_begins place text rs is).records)
records_refused place text (NumberLimit lsn) why = why
records_refused place text Disk why = why
records_refused place text Memory why = tt

pub chunk_read : (place : ChunkPlace) (text : List ℕ) (rs : List Record) (r : Result Records ScanFault) → IfOk r (λ records. IsChunk place text records.items) → IfErr r (RefusesPlace place text) → IsChunk place text rs → GivesScanned (λ records. records.items) r (Ok rs)
chunk_read place text rs (Ok v) found why is = ap (λ (x : List Record). Ok x) (one_at place text rs v.items is found)
chunk_read place text rs (Err HalfMade) found why is = absurd why
chunk_read place text rs (Err (BadHeader at)) found why is = absurd why
chunk_read place text rs (Err (BadChunk at)) found why is = absurd (why.1 rs is)
chunk_read place text rs (Err (NumberLimit lsn)) found why is = absurd why
chunk_read place text rs (Err Disk) found why is = tt
chunk_read place text rs (Err Memory) found why is = tt
