-- A scan of a file, chunk after chunk.
use Rattle.std.proofs.Common.{◌≡◌, ◌&&◌, Some, inl, inr, ℕ, ◌+◌, ◌^◌, ◌<◌, ◌≤◌, Bool, true, not, List, [], ◌∷◌, ◌++◌, length, take, drop, Result, Ok, Err, refl, sym, ap, subst, ◌∙◌, append_assoc, arith, IsTrue, Vec, Global}
use Rattle.std.specs.Prelude.{slice_index, All}
use Rattle.std.proofs.Math.Dec.{ltb, leb, eqb}
use Rattle.std.proofs.lemmas.Bool.{le-leb, lt-ltb, and_from}
use Rattle.std.proofs.lemmas.List.{append-nil, length-append}
use Rattle.std.proofs.lemmas.Grind.{flat_map-append}
use Rattle.frs_types.specs.declared.record.Record.{Record}
use Rattle.frs_disk.specs.Disk.{IsNumber}
use Rattle.frs_frame.proofs.Takes.{IsBytes, IsBytes-drop, IsBytes-take}
use Rattle.frs_segment.specs.declared.layout.ChunkPlace.{ChunkPlace}
use Rattle.frs_segment.specs.declared.layout.Segment.{Segment}
use Rattle.frs_segment.specs.declared.walk.Walk.{Walk}
use Rattle.frs_segment.specs.declared.fault.ScanFault.{ScanFault}
use Rattle.frs_segment.specs.declared.fault.ScanFault.TheVariants.{HalfMade, BadHeader, BadChunk, NumberLimit, Disk, Memory}
use Rattle.frs_segment.specs.Segments.{File, WholeSegment, IsSegment, body, chunk_bytes, chunks_bytes, segment_spelling, end_of, is_chunk, are_chunks}
use Rattle.frs_segment.specs.Faults.{GivesScanned}
use Rattle.frs_segment.specs.Scanning.{header_of, head_of, chunk_place, places_from, places_of_segment, FillBody, IsChunk, IsCauseInFile, IsFaultAt, RefusesChunk, IsRefused}
use Rattle.frs_segment.specs.Heads.{HasHeaderBytes, TellsHeader, TellsHead, IsNext, IsBegun, GoesPast}
use Rattle.frs_segment.proofs.IsChunk.{TellsChunk, chunk_told}
use Rattle.frs_segment.proofs.ReadChunk.{Records, place_is}
use Rattle.frs_segment.proofs.SegmentIn.{Reached, meant, flat, reach_start, reach_more, reach_refused, at_gate, chunks_bytes-append, are_chunks-append, places_from-append, length-chunk_bytes}
use Rattle.frs_segment.proofs.SegmentOrRefused.{bytes_of}
use Rattle.frs_segment.proofs.TellsHead.{behind_read}
use Rattle.frs_segment.proofs.FollowHeads.{segment_of}

-- ---- what was read, also where the disk doesn't tell the file

-- these chunks were read, and stand one behind the other up to the gate
pub record Gathers (number : ℕ) (walk : Walk) : Type 0 where
  pub chunks : List (List Record)
  pub number_is : walk.number ≡ number
  pub some : 1 ≤ walk.first
  pub below : walk.first < 2 ^ 62
  pub gate_is : walk.gate ≡ 22 + length (chunks_bytes walk.first chunks)
  pub next_is : walk.next ≡ walk.first + length (flat chunks)
  pub places_are : walk.places.items ≡ places_from 22 walk.first chunks
  pub all : IsTrue (are_chunks walk.first chunks)
  pub within : walk.next ≤ 2 ^ 62
  pub small : walk.gate + 1 < 2 ^ 64

pub gathers_start : (number : ℕ) (walk : Walk) → IsBegun number walk → Gathers number walk
gathers_start number walk b = record {
  chunks = [];
  number_is = b.number_is;
  some = b.some;
  below = b.below;
  gate_is = b.gate_is;
  next_is = omega (arith, b.next_is);
  places_are = b.none;
  all = refl;
  within = omega (arith, b.next_is, b.below);
  small = omega (arith, b.gate_is);
}

pub gathers_on : (number : ℕ) (place : ChunkPlace) (old new : Walk) (text : List ℕ) (rs : List Record) → Gathers number old → IsNext old.file_length old.gate old.next place → IsChunk place text rs → GoesPast place old new
    → Gathers number new
gathers_on number place old new text rs l n is g =
    let first = old.first in
    let more = l.chunks ++ rs ∷ [] in
    let lsn : place.first ≡ first + length (flat l.chunks) = n.first_is ∙ l.next_is in
    let one : length (chunks_bytes (first + length (flat l.chunks)) (rs ∷ [])) ≡ 17 + place.body =
    ap length (append-nil (chunk_bytes (first + length (flat l.chunks)) rs)) ∙ length-chunk_bytes (first + length (flat l.chunks)) rs ∙ ap (λ (x : ℕ). 17 + x) is.body_is in
    let grown : length (chunks_bytes first more) ≡ length (chunks_bytes first l.chunks) + (17 + place.body) =
    ap length (chunks_bytes-append first l.chunks (rs ∷ [])) ∙ omega (arith, length-append (chunks_bytes first l.chunks) (chunks_bytes (first + length (flat l.chunks)) (rs ∷ [])), one) in
    let records : length (flat more) ≡ length (flat l.chunks) + length rs = ap length (flat_map-append (λ (x : List Record). x) l.chunks (rs ∷ [])) ∙ omega (arith, length-append (flat l.chunks) (flat (rs ∷ [])), ap length (append-nil rs)) in
    let here : chunk_place (22 + length (chunks_bytes first l.chunks)) (first + length (flat l.chunks)) rs ≡ place =
    ap (λ (x : ℕ). chunk_place x (first + length (flat l.chunks)) rs) (sym (n.offset_is ∙ l.gate_is)) ∙ ap (λ (x : ℕ). chunk_place place.offset x rs) (sym lsn) ∙ place_is place text rs is in
    record {
      chunks = more;
      number_is = g.number_is ∙ l.number_is;
      some = omega (arith, g.first_is, l.some);
      below = omega (arith, g.first_is, l.below);
      gate_is = subst (λ (f : ℕ). new.gate ≡ 22 + length (chunks_bytes f more)) (sym g.first_is) (omega (arith, g.gate_is, l.gate_is, grown));
      next_is = omega (arith, g.next_is, g.first_is, l.next_is, records, is.count_is);
      places_are = subst (λ (f : ℕ). new.places.items ≡ places_from 22 f more) (sym g.first_is) (g.places_are ∙ ap (λ (x : List ChunkPlace). x ++ place ∷ []) l.places_are ∙ ap (λ (p : ChunkPlace). places_from 22 first l.chunks ++ p ∷ []) (sym here) ∙ sym (places_from-append 22 first l.chunks rs));
      all = subst (λ (f : ℕ). IsTrue (are_chunks f more)) (sym g.first_is) (are_chunks-append first l.chunks rs l.all (ap (λ (x : ℕ). is_chunk x rs) (sym lsn) ∙ is.chunk));
      within = omega (arith, g.next_is, n.within);
      small = g.small;
    }

-- what was read is a segment of some bytes
pub gathers_end : (number : ℕ) (walk : Walk) (found : Segment) → Gathers number walk → found ≡ segment_of walk → IsNumber number
    → (bytes : List ℕ) × (s : WholeSegment) × IsSegment (number, bytes) s × (found ≡ places_of_segment s)
gathers_end number walk found l is of_number =
    let s : WholeSegment = record { number = number; first = walk.first; chunks = l.chunks } in
    let len : 22 + length (chunks_bytes walk.first l.chunks) ≡ length (segment_spelling s) = omega arith in (
      segment_spelling s ++ 0 ∷ [],
      s,
      record {
        number = refl;
        gate = 0;
        rest = [];
        closed = refl;
        bytes = refl;
        chunks = l.all;
        starts = and_from (leb 1 number && leb 1 walk.first) (ltb walk.first (2 ^ 62)) (and_from (leb 1 number) (leb 1 walk.first) (le-leb _ _ of_number.0) (le-leb _ _ l.some)) (lt-ltb _ _ l.below);
        within = and_from (leb (end_of s) (2 ^ 62)) (ltb number (2 ^ 62)) (le-leb _ _ (omega (arith, l.within, l.next_is))) (lt-ltb _ _ of_number.1);
      },
      is ∙ ap (λ (n : ℕ). record { number = n; first = walk.first; «end» = walk.next; length = walk.gate + 1; chunks = walk.places.items }) l.number_is
          ∙ ap (λ (n : ℕ). record { number = number; first = walk.first; «end» = n; length = walk.gate + 1; chunks = walk.places.items }) l.next_is
          ∙ ap (λ (n : ℕ). record { number = number; first = walk.first; «end» = end_of s; length = n + 1; chunks = walk.places.items }) (l.gate_is ∙ len)
          ∙ ap (λ (ps : List ChunkPlace). record { number = number; first = walk.first; «end» = end_of s; length = length (segment_spelling s) + 1; chunks = ps }) l.places_are,
    )

-- ---- of a file that the disk tells

pub reached_start : (file : File) (walk : Walk) → IsBegun file.0 walk → TellsHeader file (Ok walk) → Reached file walk.first walk.places.items walk.gate walk.next
reached_start file walk b told =
    subst (λ (n : ℕ). Reached file walk.first walk.places.items walk.gate n) (sym b.next_is) (subst (λ (o : ℕ). Reached file walk.first walk.places.items o walk.first) (sym b.gate_is)
    (subst (λ (ps : List ChunkPlace). Reached file walk.first ps 22 walk.first) (sym b.none) (reach_start file walk.first (bytes_of (take 23 file.1) told.1) told.0)))

pub reached_on : (file : File) (place : ChunkPlace) (old new : Walk) (rs : List Record) → Reached file old.first old.places.items old.gate old.next → slice_index file.1 old.gate ≡ 1 → IsNext old.file_length old.gate old.next place
    → IsChunk place (drop place.offset file.1) rs → GoesPast place old new → Reached file new.first new.places.items new.gate new.next
reached_on file place old new rs r gate n is g =
    let here : IsChunk place (1 ∷ drop (old.gate + 1) file.1) rs = subst (λ (x : List ℕ). IsChunk place x rs) (at_gate file.1 old.gate 1 r.inside gate) (subst (λ (o : ℕ). IsChunk place (drop o file.1) rs) n.offset_is is) in
    let more = reach_more file old.first old.places.items old.gate old.next place r gate (n.offset_is, n.first_is, (rs, here)) in
    subst (λ (f : ℕ). Reached file f new.places.items new.gate new.next) (sym g.first_is) (subst (λ (ps : List ChunkPlace). Reached file old.first ps new.gate new.next) (sym g.places_are)
    (subst (λ (o : ℕ). Reached file old.first (old.places.items ++ place ∷ []) o new.next) (sym g.gate_is) (subst (λ (m : ℕ). Reached file old.first (old.places.items ++ place ∷ []) (old.gate + (17 + place.body)) m) (sym g.next_is) more)))

pub header_wrong : (file : File) (fault : ScanFault) → TellsHeader file (Err fault) → IsCauseInFile file fault
header_wrong file HalfMade told = inl told
header_wrong file (BadHeader at) told = inl told
header_wrong file (BadChunk at) told = inl told
header_wrong file (NumberLimit lsn) told = inl told
header_wrong file Disk told = tt
header_wrong file Memory told = tt

pub head_wrong : (file : File) (walk : Walk) (fault : ScanFault) → Reached file walk.first walk.places.items walk.gate walk.next → TellsHead walk.gate walk.next file.1 (Err fault) → IsCauseInFile file fault
head_wrong file walk HalfMade r told = reach_refused file walk.first walk.places.items walk.gate walk.next HalfMade r told.0 (inl told.1)
head_wrong file walk (BadHeader at) r told = reach_refused file walk.first walk.places.items walk.gate walk.next (BadHeader at) r told.0 (inl told.1)
head_wrong file walk (BadChunk at) r told = reach_refused file walk.first walk.places.items walk.gate walk.next (BadChunk at) r told.0 (inl told.1)
head_wrong file walk (NumberLimit lsn) r told = reach_refused file walk.first walk.places.items walk.gate walk.next (NumberLimit lsn) r told.0 (inl told.1)
head_wrong file walk Disk r told = tt
head_wrong file walk Memory r told = tt

-- no records fill the body of a chunk that isn't read
pub records_wrong : (file : File) (walk : Walk) (place : ChunkPlace) (fault : ScanFault) → Reached file walk.first walk.places.items walk.gate walk.next → TellsHead walk.gate walk.next file.1 (Ok (Some place)) → IsNext walk.file_length walk.gate walk.next place
    → IsFaultAt place fault → ((rs : List Record) → IsChunk place (drop place.offset file.1) rs → GivesScanned (λ (v : Records). v.items) (Err fault) (Ok rs)) → IsCauseInFile file fault
records_wrong file walk place HalfMade r told n at only = absurd at
records_wrong file walk place (BadHeader offset) r told n at only = absurd at
records_wrong file walk place (BadChunk offset) r told n at only =
    let behind = drop (walk.gate + 1) file.1 in
    let fits : IsBytes (take 16 behind) = subst IsBytes (behind_read walk.gate file.1 (take 17 (drop walk.gate file.1)) refl) (IsBytes-take 16 _ (IsBytes-drop 1 _ (bytes_of (take 17 (drop walk.gate file.1)) told.2))) in
    let none : (rs : List Record) → FillBody place (take place.body (drop 16 behind)) rs → ⊥ = λ rs fill.
    let there = chunk_told walk.gate walk.next behind place rs fits told.1 fill in
    let here : IsChunk place (drop place.offset file.1) rs = subst (λ (o : ℕ). IsChunk place (drop o file.1) rs) (sym n.offset_is) (subst (λ (x : List ℕ). IsChunk place x rs) (sym (at_gate file.1 walk.gate 1 r.inside told.0)) there.2) in
    no_answer rs (only rs here) in
    reach_refused file walk.first walk.places.items walk.gate walk.next (BadChunk offset) r told.0 (inr (place, told.1, ap BadChunk (at ∙ n.offset_is), none))
  where
    no_answer : (rs : List Record) → GivesScanned (λ (v : Records). v.items) (Err (BadChunk offset)) (Ok rs) → ⊥
    no_answer rs e = absurd cc
records_wrong file walk place (NumberLimit lsn) r told n at only = absurd at
records_wrong file walk place Disk r told n at only = tt
records_wrong file walk place Memory r told n at only = tt
