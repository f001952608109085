-- The chunks of a segment, read from the newest to the oldest.
use Rattle.std.proofs.Common.{◌&&◌, ◌≡◌, ℕ, ◌+◌, ◌-◌, ◌^◌, ◌<◌, ◌≤◌, Bool, List, [], ◌∷◌, ◌++◌, length, get_or, take, drop, refl, sym, ap, subst, ◌∙◌, append_assoc, arith, IsTrue}
use Rattle.std.specs.Prelude.{flat_map}
use Rattle.std.proofs.Math.Dec.{ltb, leb}
use Rattle.std.proofs.lemmas.Bool.{and_parts, leb-true}
use Rattle.std.proofs.lemmas.List.{append-nil, take_all, take_more, drop_at, drop-drop, length-append}
use Rattle.frs_types.specs.declared.record.Record.{Record}
use Rattle.frs_disk.specs.Disk.{Image, bytes_at}
use Rattle.frs_segment.specs.declared.layout.ChunkPlace.{ChunkPlace}
use Rattle.frs_segment.specs.declared.layout.Segment.{Segment}
use Rattle.frs_segment.specs.declared.fault.ScanFault.TheVariants.{HalfMade}
use Rattle.frs_segment.specs.Segments.{File, WholeSegment, IsSegment, body, chunk_bytes, chunks_bytes, is_chunk, are_chunks, end_of}
use Rattle.frs_segment.specs.Scanning.{chunk_place, places_from, places_of_segment, IsChunk, IsRefused}
use Rattle.frs_segment.specs.Heads.{next_behind, AreInLine, IsInLine, AreChunks, StandIn}
use Rattle.frs_recovery.specs.declared.backward_reader.BackwardReader.{BackwardReader}
use Rattle.frs_recovery.specs.declared.fault.RecoverFault.{RecoverFault}
use Rattle.frs_recovery.specs.Descent.{file_at, IsFileFault, NeedsChunk, ReadsSegment}
use Rattle.frs_recovery.specs.OfferedRecords.{HasRead}
use Rattle.frs_segment.proofs.OneSegment.{behind_chunks}

abbrev flat : List (List Record) → List Record
flat chunks = flat_map (λ (c : List Record). c) chunks

-- ---- where the chunks of a segment stand

-- the LSN at which the chunks at these places begin, behind which next follows
abbrev pub front_of : ℕ → List ChunkPlace → ℕ
front_of next [] = next
front_of next (place ∷ places) = place.first

-- each chunk ends where the next one begins
abbrev pub IsChained : ℕ → List ChunkPlace → Type 0
IsChained next [] = Unit {0}
IsChained next (place ∷ places) = (place.first + place.count ≡ front_of next places) × IsChained next places

chained_at : (next : ℕ) (older : List ChunkPlace) (place : ChunkPlace) (places : List ChunkPlace) → IsChained next (older ++ place ∷ places) → place.first + place.count ≡ front_of next places
chained_at next [] place places chained = chained.0
chained_at next (q ∷ older) place places chained = chained_at next older place places chained.1

-- chunks that stand in line begin at the first of their LSNs, and are chained
begins_at : (offset first next : ℕ) (places : List ChunkPlace) → AreInLine offset first places → next_behind first places ≡ next → front_of next places ≡ first
begins_at offset first next [] line e = sym e
begins_at offset first next (p ∷ places) line e = line.1

chained_from : (offset first next : ℕ) (places : List ChunkPlace) → AreInLine offset first places → next_behind first places ≡ next → IsChained next places
chained_from offset first next [] line e = tt
chained_from offset first next (p ∷ places) line e =
    (ap (λ (n : ℕ). n + p.count) line.1 ∙ sym (begins_at (offset + 17 + p.body) (first + p.count) next places line.2 e), chained_from (offset + 17 + p.body) (first + p.count) next places line.2 e)

pub chained : (found : Segment) → IsInLine found → IsChained found.«end» found.chunks
chained found line = chained_from 22 found.first found.«end» found.chunks line.line (sym line.end_is)

-- ---- what was read

-- Of the chunks at all of these places those in front are left, and the others were read; where the disk tells the file,
-- they are those that stand there.
pub record IsReadBack (tells : Bool) (bytes : List ℕ) (next : ℕ) (all left : List ChunkPlace) (old now : BackwardReader) : Type 0 where
  pub places : List ChunkPlace
  pub chunks : List (List Record)
  pub parts : all ≡ left ++ places
  pub are : AreChunks places chunks
  pub stand : IsTrue tells → StandIn bytes places chunks
  pub read : (rs : List Record) → HasRead old next rs → HasRead now (front_of next places) (flat chunks ++ rs)

-- before the first
pub none_read : (tells : Bool) (bytes : List ℕ) (next : ℕ) (all : List ChunkPlace) (old : BackwardReader) → IsReadBack tells bytes next all all old old
none_read tells bytes next all old = record { places = []; chunks = []; parts = sym (append-nil all); are = tt; stand = λ told. tt; read = λ rs read. read }

-- after one more, the last of those that were left
pub one_more : (tells : Bool) (bytes : List ℕ) (next : ℕ) (all left older : List ChunkPlace) (place : ChunkPlace) (rs : List Record) (old now new : BackwardReader) → IsReadBack tells bytes next all left old now → left ≡ older ++ place ∷ [] → IsChained next all
    → ((text : List ℕ) × IsChunk place text rs) → (IsTrue tells → IsChunk place (drop place.offset bytes) rs) → ((qs : List Record) → HasRead now (place.first + length rs) qs → HasRead new place.first (rs ++ qs)) → IsReadBack tells bytes next all older old new
one_more tells bytes next all left older place rs old now new back e chained meant there read =
    let parts : all ≡ older ++ place ∷ back.places = back.parts ∙ ap (λ (x : List ChunkPlace). x ++ back.places) e ∙ append_assoc older (place ∷ []) back.places in
    let ends : place.first + length rs ≡ front_of next back.places = ap (λ (n : ℕ). place.first + n) meant.1.count_is ∙ chained_at next older place back.places (subst (IsChained next) parts chained) in
    record {
      places = place ∷ back.places;
      chunks = rs ∷ back.chunks;
      parts = parts;
      are = (meant, back.are);
      stand = λ told. (there told, back.stand told);
      read = λ qs had. subst (λ (x : List Record). HasRead new place.first x) (sym (append_assoc rs (flat back.chunks) qs)) (read (flat back.chunks ++ qs) (subst (λ (n : ℕ). HasRead now n (flat back.chunks ++ qs)) (sym ends) (back.read qs had)));
    }

-- ---- the chunks that stand in a file

first_stands : (offset first : ℕ) (c : List Record) (chunks : List (List Record)) (text : List ℕ) (gate : ℕ) (rest : List ℕ) → text ≡ chunks_bytes first (c ∷ chunks) ++ gate ∷ rest → IsTrue (is_chunk first c) → first + length c ≤ 2 ^ 62 → IsChunk (chunk_place offset first c) text c
first_stands offset first c chunks text gate rest e is within =
    let b = behind_chunks (first + length c) chunks gate rest in
    record {
      gate = b.0;
      rest = b.1;
      spelled = e ∙ append_assoc (chunk_bytes first c) (chunks_bytes (first + length c) chunks) (gate ∷ rest) ∙ ap (λ (x : List ℕ). chunk_bytes first c ++ x) b.2;
      count_is = refl;
      body_is = refl;
      chunk = is;
      within = within;
    }

next_stand : (offset first : ℕ) (c : List Record) (chunks : List (List Record)) (bytes : List ℕ) (gate : ℕ) (rest : List ℕ) → drop offset bytes ≡ chunks_bytes first (c ∷ chunks) ++ gate ∷ rest → drop (offset + 17 + length (body c)) bytes ≡ chunks_bytes (first + length c) chunks ++ gate ∷ rest
next_stand offset first c chunks bytes gate rest e =
    let n : ℕ = 17 + length (body c) in
    let at : offset + 17 + length (body c) ≡ offset + n = omega arith in
    let long : length (chunk_bytes first c) ≡ n = omega arith in
    ap (λ (k : ℕ). drop k bytes) at
    ∙ sym (drop-drop n offset bytes)
    ∙ ap (drop n) (e ∙ append_assoc (chunk_bytes first c) (chunks_bytes (first + length c) chunks) (gate ∷ rest))
    ∙ drop_at (chunk_bytes first c) (chunks_bytes (first + length c) chunks ++ gate ∷ rest) n long

-- at each place stands a chunk
stands_at : (offset first : ℕ) (chunks : List (List Record)) (bytes : List ℕ) (gate : ℕ) (rest : List ℕ) → drop offset bytes ≡ chunks_bytes first chunks ++ gate ∷ rest → IsTrue (are_chunks first chunks) → first + length (flat chunks) ≤ 2 ^ 62
    → (older : List ChunkPlace) (place : ChunkPlace) (places : List ChunkPlace) → places_from offset first chunks ≡ older ++ place ∷ places → (rs : List Record) × IsChunk place (drop place.offset bytes) rs
stands_at offset first [] bytes gate rest e is within [] place places parts = absurd cc
stands_at offset first [] bytes gate rest e is within (q ∷ older) place places parts = absurd cc
stands_at offset first (c ∷ chunks) bytes gate rest e is within [] place places parts =
    let p = and_parts (is_chunk first c) (are_chunks (first + length c) chunks) is in
    let same : chunk_place offset first c ≡ place = cc in
    (c, subst (λ (q : ChunkPlace). IsChunk q (drop q.offset bytes) c) same (first_stands offset first c chunks (drop offset bytes) gate rest e p.0 (omega (arith, within, length-append c (flat chunks)))))
stands_at offset first (c ∷ chunks) bytes gate rest e is within (q ∷ older) place places parts =
    let p = and_parts (is_chunk first c) (are_chunks (first + length c) chunks) is in
    let tail : places_from (offset + 17 + length (body c)) (first + length c) chunks ≡ older ++ place ∷ places = cc in
    stands_at (offset + 17 + length (body c)) (first + length c) chunks bytes gate rest (next_stand offset first c chunks bytes gate rest e) p.1 (omega (arith, within, length-append c (flat chunks))) older place places tail

-- the last of the places that are left
pub last_apart : (left : List ChunkPlace) (d : ChunkPlace) → 1 ≤ length left → left ≡ take (length left - 1) left ++ get_or left (length left - 1) d ∷ []
last_apart left d some =
    let n : length left - 1 + 1 ≡ length left = omega (arith, some) in
    sym (take_all (length left) left (omega arith)) ∙ ap (λ (k : ℕ). take k left) (sym n) ∙ take_more left (length left - 1) d (omega (arith, some))

-- where the file is this segment, a chunk stands at each of its places
pub chunk_needed : (file : File) (found : Segment) (s : WholeSegment) (left older : List ChunkPlace) (place : ChunkPlace) (places : List ChunkPlace) → IsSegment file s → found ≡ places_of_segment s → found.chunks ≡ left ++ places → left ≡ older ++ place ∷ []
    → (rs : List Record) × IsChunk place (drop place.offset file.1) rs
chunk_needed file found s left older place places is was all e =
    let parts : places_from 22 s.first s.chunks ≡ older ++ place ∷ places = ap (λ (d : Segment). d.chunks) (sym was) ∙ all ∙ ap (λ (x : List ChunkPlace). x ++ places) e ∙ append_assoc older (place ∷ []) places in
    let below = leb-true (end_of s) (2 ^ 62) (and_parts (leb (end_of s) (2 ^ 62)) (ltb s.number (2 ^ 62)) is.within).0 in
    stands_at 22 s.first s.chunks file.1 is.gate is.rest (ap (drop 22) is.bytes) is.chunks below older place places parts

-- what a call has told of a chunk's fault, told of the disk as it was at first
abbrev pub Explains : Bool → Image → ℕ → ChunkPlace → RecoverFault → Type 0
Explains tells files number place fault = IsTrue tells → NeedsChunk (file_at files number) place → (IsRefused (file_at files number) HalfMade → ⊥) → IsFileFault (file_at files number) fault

pub explains_first : (tells tells_now : Bool) (files files_now : Image) (number : ℕ) (place : ChunkPlace) (fault : RecoverFault) → tells_now ≡ tells → files_now ≡ files → Explains tells_now files_now number place fault → Explains tells files number place fault
explains_first tells tells_now files files_now number place fault told seen call =
    subst (λ (t : Bool). Explains t files number place fault) told (subst (λ (i : Image). Explains tells_now i number place fault) seen call)

pub there_first : (tells tells_now : Bool) (files files_now : Image) (number : ℕ) (place : ChunkPlace) (rs : List Record) → tells_now ≡ tells → files_now ≡ files → (IsTrue tells_now → IsChunk place (drop place.offset (bytes_at files_now number)) rs)
    → IsTrue tells → IsChunk place (drop place.offset (bytes_at files number)) rs
there_first tells tells_now files files_now number place rs told seen call tells_it = subst (λ (i : Image). IsChunk place (drop place.offset (bytes_at i number)) rs) seen (call (subst IsTrue (sym told) tells_it))

-- once no chunk is left, the segment was read
pub segment_read : (tells : Bool) (bytes : List ℕ) (found : Segment) (left : List ChunkPlace) (old now : BackwardReader) → length left < 1 → IsInLine found → IsReadBack tells bytes found.«end» found.chunks left old now → ReadsSegment tells bytes found old now
segment_read tells bytes found (p ∷ left) old now none line back = absurd (omega (arith, none))
segment_read tells bytes found [] old now none line back =
    let first : front_of found.«end» back.places ≡ found.first = ap (front_of found.«end») (sym back.parts) ∙ begins_at 22 found.first found.«end» found.chunks line.line (sym line.end_is) in (
      back.chunks,
      subst (λ (ps : List ChunkPlace). AreChunks ps back.chunks) (sym back.parts) back.are,
      λ told. subst (λ (ps : List ChunkPlace). StandIn bytes ps back.chunks) (sym back.parts) (back.stand told),
      λ rs had. subst (λ (n : ℕ). HasRead now n (flat back.chunks ++ rs)) first (back.read rs had),
    )
