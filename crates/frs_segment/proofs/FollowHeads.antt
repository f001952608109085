-- A walk over the heads of a file, from gate to gate.
use Rattle.std.proofs.Common.{◌≡◌, inl, inr, ℕ, ◌+◌, ◌^◌, ◌<◌, ◌≤◌, Bool, not, List, [], ◌∷◌, ◌++◌, length, drop, Some, Ok, Err, refl, sym, ap, subst, ◌∙◌, arith, IsTrue, Result, Option}
use Rattle.std.specs.Prelude.{slice_index}
use Rattle.std.proofs.Math.Dec.{eqb}
use Rattle.frs_disk.specs.Disk.{Image, bytes_at}
use Rattle.frs_segment.specs.declared.layout.ChunkPlace.{ChunkPlace}
use Rattle.frs_segment.specs.declared.layout.Segment.{Segment}
use Rattle.frs_segment.specs.declared.walk.Walk.{Walk}
use Rattle.frs_segment.specs.declared.fault.ScanFault.{ScanFault}
use Rattle.frs_segment.specs.declared.fault.ScanFault.TheVariants.{HalfMade, BadHeader, BadChunk, NumberLimit, Disk, Memory}
use Rattle.frs_segment.specs.Segments.{File}
use Rattle.frs_segment.specs.Scanning.{header_of, head_of}
use Rattle.frs_segment.specs.Heads.{gate_behind, next_behind, AreInLine, IsInLine, HaveHeads, HasHeads, HasHeaderBytes, RefusesHead, IsRefusedByHeads, IsCauseInHeads, TellsHeader, TellsHead, IsNext, IsBegun, GoesPast}
use Rattle.frs_segment.proofs.HasHeads.{heads_more, gate_more, next_more, line_more}

-- ---- what a walk knows

-- the chunks stand in line up to the gate
pub record LeadsTo (number : ℕ) (walk : Walk) : Type 0 where
  pub number_is : walk.number ≡ number
  pub some : 1 ≤ walk.first
  pub below : walk.first < 2 ^ 62
  pub line : AreInLine 22 walk.first walk.places.items
  pub gate_is : walk.gate ≡ gate_behind 22 walk.places.items
  pub next_is : walk.next ≡ next_behind walk.first walk.places.items
  pub within : walk.next ≤ 2 ^ 62
  pub small : walk.gate + 1 < 2 ^ 64

-- the file has them, by their heads
pub record HasWalked (file : File) (walk : Walk) : Type 0 where
  pub header : header_of file ≡ Ok walk.first
  pub bytes : HasHeaderBytes file
  pub heads : HaveHeads file.1 22 walk.first walk.places.items
  pub size : walk.file_length ≡ length file.1

abbrev pub segment_of : Walk → Segment
segment_of walk = record { number = walk.number; first = walk.first; «end» = walk.next; length = walk.gate + 1; chunks = walk.places.items }

-- ---- the first gate

pub leads_start : (number : ℕ) (walk : Walk) → IsBegun number walk → LeadsTo number walk
leads_start number walk b = record {
  number_is = b.number_is;
  some = b.some;
  below = b.below;
  line = subst (λ (ps : List ChunkPlace). AreInLine 22 walk.first ps) (sym b.none) tt;
  gate_is = b.gate_is ∙ ap (gate_behind 22) (sym b.none);
  next_is = b.next_is ∙ ap (next_behind walk.first) (sym b.none);
  within = omega (arith, b.next_is, b.below);
  small = omega (arith, b.gate_is);
}

pub walked_start : (file : File) (walk : Walk) → IsBegun file.0 walk → TellsHeader file (Ok walk) → HasWalked file walk
walked_start file walk b told = record {
  header = told.0;
  bytes = told.1;
  heads = subst (λ (ps : List ChunkPlace). HaveHeads file.1 22 walk.first ps) (sym b.none) tt;
  size = told.2;
}

-- ---- one gate more

pub leads_on : (number : ℕ) (place : ChunkPlace) (old new : Walk) → LeadsTo number old → IsNext old.file_length old.gate old.next place → GoesPast place old new → LeadsTo number new
leads_on number place old new l n g = record {
  number_is = g.number_is ∙ l.number_is;
  some = omega (arith, g.first_is, l.some);
  below = omega (arith, g.first_is, l.below);
  line = subst (λ (ps : List ChunkPlace). AreInLine 22 new.first ps) (sym g.places_are) (subst (λ (f : ℕ). AreInLine 22 f (old.places.items ++ place ∷ [])) (sym g.first_is)
      (line_more 22 old.first old.places.items place l.line (n.offset_is ∙ l.gate_is) (n.first_is ∙ l.next_is)));
  gate_is = g.gate_is ∙ ap (λ (x : ℕ). x + (17 + place.body)) l.gate_is ∙ sym (gate_more 22 old.places.items place) ∙ ap (gate_behind 22) (sym g.places_are);
  next_is = g.next_is ∙ ap (λ (x : ℕ). x + place.count) l.next_is ∙ sym (next_more old.first old.places.items place) ∙ ap (λ (f : ℕ). next_behind f (old.places.items ++ place ∷ [])) (sym g.first_is) ∙ ap (next_behind new.first) (sym g.places_are);
  within = omega (arith, g.next_is, n.within);
  small = g.small;
}

pub walked_on : (file : File) (place : ChunkPlace) (old new : Walk) → LeadsTo file.0 old → HasWalked file old → slice_index file.1 old.gate ≡ 1 → head_of old.gate old.next (drop (old.gate + 1) file.1) ≡ Ok place → GoesPast place old new → HasWalked file new
walked_on file place old new l w gate head g =
    let gate_there : slice_index file.1 (gate_behind 22 old.places.items) ≡ 1 = subst (λ (o : ℕ). slice_index file.1 o ≡ 1) l.gate_is gate in
    let head_there : head_of (gate_behind 22 old.places.items) (next_behind old.first old.places.items) (drop (gate_behind 22 old.places.items + 1) file.1) ≡ Ok place =
    subst (λ (n : ℕ). head_of (gate_behind 22 old.places.items) n (drop (gate_behind 22 old.places.items + 1) file.1) ≡ Ok place) l.next_is (subst (λ (o : ℕ). head_of o old.next (drop (o + 1) file.1) ≡ Ok place) l.gate_is head) in
    record {
      header = w.header ∙ ap (λ (f : ℕ). Ok f) (sym g.first_is);
      bytes = w.bytes;
      heads = subst (λ (ps : List ChunkPlace). HaveHeads file.1 22 new.first ps) (sym g.places_are) (subst (λ (f : ℕ). HaveHeads file.1 22 f (old.places.items ++ place ∷ [])) (sym g.first_is)
          (heads_more file.1 22 old.first old.places.items place w.heads gate_there head_there));
      size = g.length_is ∙ w.size;
    }

-- ---- the last gate

pub in_line : (number : ℕ) (walk : Walk) (found : Segment) → LeadsTo number walk → found ≡ segment_of walk → (found.number ≡ number) × IsInLine found
in_line number walk found l is = subst (λ (d : Segment). (d.number ≡ number) × IsInLine d) (sym is) (
  l.number_is,
  record {
    some = l.some;
    below = l.below;
    line = l.line;
    end_is = l.next_is;
    length_is = ap (λ (n : ℕ). n + 1) l.gate_is;
    within = l.within;
  },
)

pub walk_ends : (file : File) (walk : Walk) (found : Segment) → LeadsTo file.0 walk → HasWalked file walk → IsTrue (not (eqb (slice_index file.1 walk.gate) 1)) → found ≡ segment_of walk → HasHeads file found
walk_ends file walk found l w closed is = subst (HasHeads file) (sym is) (record {
  number_is = l.number_is;
  header = w.header;
  heads = w.heads;
  end_is = l.next_is;
  length_is = ap (λ (n : ℕ). n + 1) l.gate_is;
  closed = subst (λ (o : ℕ). IsTrue (not (eqb (slice_index file.1 o) 1))) l.gate_is closed;
})

refused_there : (file : File) (walk : Walk) (fault : ScanFault) → LeadsTo file.0 walk → HasWalked file walk → slice_index file.1 walk.gate ≡ 1 → head_of walk.gate walk.next (drop (walk.gate + 1) file.1) ≡ Err fault → IsRefusedByHeads file fault
refused_there file walk fault l w gate head = inr (record {
  first = walk.first;
  before = walk.places.items;
  header = w.header;
  heads = w.heads;
  gate = subst (λ (o : ℕ). slice_index file.1 o ≡ 1) l.gate_is gate;
  head = subst (λ (n : ℕ). head_of (gate_behind 22 walk.places.items) n (drop (gate_behind 22 walk.places.items + 1) file.1) ≡ Err fault) l.next_is (subst (λ (o : ℕ). head_of o walk.next (drop (o + 1) file.1) ≡ Err fault) l.gate_is head);
})

pub walk_refused : (file : File) (walk : Walk) (fault : ScanFault) → LeadsTo file.0 walk → HasWalked file walk → TellsHead walk.gate walk.next file.1 (Err fault) → IsCauseInHeads file fault
walk_refused file walk HalfMade l w told = refused_there file walk HalfMade l w told.0 told.1
walk_refused file walk (BadHeader at) l w told = refused_there file walk (BadHeader at) l w told.0 told.1
walk_refused file walk (BadChunk at) l w told = refused_there file walk (BadChunk at) l w told.0 told.1
walk_refused file walk (NumberLimit lsn) l w told = refused_there file walk (NumberLimit lsn) l w told.0 told.1
walk_refused file walk Disk l w told = tt
walk_refused file walk Memory l w told = tt

pub start_refused : (file : File) (fault : ScanFault) → TellsHeader file (Err fault) → IsCauseInHeads file fault
start_refused file HalfMade told = inl told
start_refused file (BadHeader at) told = inl told
start_refused file (BadChunk at) told = inl told
start_refused file (NumberLimit lsn) told = inl told
start_refused file Disk told = tt
start_refused file Memory told = tt

-- ---- over the calls

-- what a call has told of the disk as it was then, told of the disk as it was at first
pub told_of_first : (tells tells_now : Bool) (files files_now : Image) (number number_now size gate next : ℕ) (r : Result (Option ChunkPlace) ScanFault) → tells_now ≡ tells → files_now ≡ files → number_now ≡ number
    → (IsTrue tells_now → size ≡ length (bytes_at files_now number_now) → TellsHead gate next (bytes_at files_now number_now) r)
    → IsTrue tells → size ≡ length (bytes_at files number) → TellsHead gate next (bytes_at files number) r
told_of_first tells tells_now files files_now number number_now size gate next r told seen same call =
    subst (λ (t : Bool). IsTrue t → size ≡ length (bytes_at files number) → TellsHead gate next (bytes_at files number) r) told
    (subst (λ (i : Image). IsTrue tells_now → size ≡ length (bytes_at i number) → TellsHead gate next (bytes_at i number) r) seen
    (subst (λ (n : ℕ). IsTrue tells_now → size ≡ length (bytes_at files_now n) → TellsHead gate next (bytes_at files_now n) r) same call))
