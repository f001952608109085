-- What a scan answers of a whole file.
use Rattle.std.proofs.Common.{◌≡◌, Result, Ok, Err, sym, ap, ◌∙◌, IfOk}
use Rattle.std.specs.Prelude.{IfErr}
use Rattle.frs_segment.specs.declared.layout.Segment.{Segment}
use Rattle.frs_segment.specs.declared.fault.ScanFault.{ScanFault}
use Rattle.frs_segment.specs.declared.fault.ScanFault.TheVariants.{HalfMade, BadHeader, BadChunk, NumberLimit, Disk, Memory}
use Rattle.frs_segment.specs.Segments.{File, WholeSegment, IsSegment}
use Rattle.frs_segment.specs.Faults.{GivesScanned}
use Rattle.frs_segment.specs.Scanning.{places_of_segment, IsRefused, IsCauseInFile, TellsFile}
use Rattle.frs_segment.proofs.OneSegment.{one_segment, not_both, one_fault}

pub segment_read : (file : File) (r : Result Segment ScanFault) (s : WholeSegment) → TellsFile file r → IsSegment file s → GivesScanned (λ found. found) r (Ok (places_of_segment s))
segment_read file (Ok found) s (t, it, e) is = ap (λ (x : WholeSegment). Ok (places_of_segment x)) (one_segment file s t is it) ∙ ap (λ (x : Segment). Ok x) (sym e)
segment_read file (Err HalfMade) s tells is = absurd (not_both file s HalfMade is tells)
segment_read file (Err (BadHeader at)) s tells is = absurd (not_both file s (BadHeader at) is tells)
segment_read file (Err (BadChunk at)) s tells is = absurd (not_both file s (BadChunk at) is tells)
segment_read file (Err (NumberLimit lsn)) s tells is = absurd (not_both file s (NumberLimit lsn) is tells)
segment_read file (Err Disk) s tells is = tt
segment_read file (Err Memory) s tells is = tt

pub refusal_read : (file : File) (r : Result Segment ScanFault) (fault : ScanFault) → TellsFile file r → IsRefused file fault → GivesScanned (λ found. found) r (Err fault)
refusal_read file (Ok found) fault (t, it, e) refused = absurd (not_both file t fault it refused)
refusal_read file (Err HalfMade) fault tells refused = ap (λ (f : ScanFault). Err f) (one_fault file fault HalfMade refused tells)
refusal_read file (Err (BadHeader at)) fault tells refused = ap (λ (f : ScanFault). Err f) (one_fault file fault (BadHeader at) refused tells)
refusal_read file (Err (BadChunk at)) fault tells refused = ap (λ (f : ScanFault). Err f) (one_fault file fault (BadChunk at) refused tells)
refusal_read file (Err (NumberLimit lsn)) fault tells refused = ap (λ (f : ScanFault). Err f) (one_fault file fault (NumberLimit lsn) refused tells)
refusal_read file (Err Disk) fault tells refused = tt
refusal_read file (Err Memory) fault tells refused = tt

-- the two halves of what is told
pub found_told : (file : File) (r : Result Segment ScanFault) → TellsFile file r → IfOk r (λ found. (s : WholeSegment) × IsSegment file s × (found ≡ places_of_segment s))
found_told file (Ok found) tells = tells
found_told file (Err fault) tells = tt

pub why_told : (file : File) (r : Result Segment ScanFault) → TellsFile file r → IfErr r (IsCauseInFile file)
why_told file (Ok found) tells = tt
why_told file (Err fault) tells = tells
