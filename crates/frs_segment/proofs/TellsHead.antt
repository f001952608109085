-- What a read of a header's bytes, or of those at a gate, tells of the file.
use Rattle.std.proofs.Common.{◌≡◌, ℕ, ◌+◌, List, length, get_or, take, drop, Option, Some, None, Result, Ok, Err, sym, ap, ◌∙◌, arith}
use Rattle.std.specs.Prelude.{slice_index, IfErr}
use Rattle.std.proofs.lemmas.List.{drop-drop, get_or-take, get_or-drop}
use Rattle.frs_segment.specs.declared.layout.ChunkPlace.{ChunkPlace}
use Rattle.frs_segment.specs.declared.walk.Walk.{Walk}
use Rattle.frs_segment.specs.declared.fault.ScanFault.{ScanFault}
use Rattle.frs_segment.specs.declared.fault.ScanFault.TheVariants.{HalfMade, BadHeader, BadChunk, NumberLimit, Disk, Memory}
use Rattle.frs_segment.specs.Segments.{File}
use Rattle.frs_segment.specs.Faults.{HasScanCause, IsOfText}
use Rattle.frs_segment.specs.Scanning.{header_of, head_of}
use Rattle.frs_segment.specs.Heads.{TellsHeader, TellsHead}
use Rattle.frs_segment.proofs.IsChunk.{window}

pub text_cause : {A : Type 0} (before now : ℕ) (r : Result A ScanFault) → now ≡ before → IfErr r IsOfText → HasScanCause before now r
text_cause before now (Ok x) same of_text = same
text_cause before now (Err HalfMade) same of_text = same
text_cause before now (Err (BadHeader at)) same of_text = same
text_cause before now (Err (BadChunk at)) same of_text = same
text_cause before now (Err (NumberLimit lsn)) same of_text = same
text_cause before now (Err Disk) same of_text = absurd of_text
text_cause before now (Err Memory) same of_text = same

pub header_refused : (file : File) (fault : ScanFault) → header_of file ≡ Err fault → TellsHeader file (Err fault)
header_refused file HalfMade e = e
header_refused file (BadHeader at) e = e
header_refused file (BadChunk at) e = e
header_refused file (NumberLimit lsn) e = e
header_refused file Disk e = tt
header_refused file Memory e = tt

pub head_refused : (offset next : ℕ) (text : List ℕ) (fault : ScanFault) → slice_index text offset ≡ 1 → head_of offset next (drop (offset + 1) text) ≡ Err fault → TellsHead offset next text (Err fault)
head_refused offset next text HalfMade gate e = (gate, e)
head_refused offset next text (BadHeader at) gate e = (gate, e)
head_refused offset next text (BadChunk at) gate e = (gate, e)
head_refused offset next text (NumberLimit lsn) gate e = (gate, e)
head_refused offset next text Disk gate e = tt
head_refused offset next text Memory gate e = tt

-- the gate that was read
pub gate_read : (gate : ℕ) (text front : List ℕ) → front ≡ take 17 (drop gate text) → get_or front 0 0 ≡ 1 → slice_index text gate ≡ 1
gate_read gate text front is opened =
    let n : gate + 0 ≡ gate = omega arith in
    sym (ap (λ (x : List ℕ). get_or x 0 0) is ∙ get_or-take 17 (drop gate text) 0 0 (omega arith) ∙ get_or-drop gate text 0 0 ∙ ap (λ (k : ℕ). get_or text k 0) n) ∙ opened

-- what was read behind it
pub behind_read : (gate : ℕ) (text front : List ℕ) → front ≡ take 17 (drop gate text) → take 16 (drop 1 front) ≡ take 16 (drop (gate + 1) text)
behind_read gate text front is = ap (λ (x : List ℕ). take 16 (drop 1 x)) is ∙ window 16 1 17 (drop gate text) (omega arith) ∙ ap (take 16) (drop-drop 1 gate text)
