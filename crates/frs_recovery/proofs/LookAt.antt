-- One file more, below those that were looked at.
use Rattle.std.proofs.Common.{◌≡◌, inl, inr, ℕ, ◌-◌, Bool, true, false, not, cond, List, [], ◌∷◌, ◌++◌, map, reverse, Result, Ok, Err, refl, sym, ap, subst, ◌∙◌, IsTrue}
use Rattle.std.proofs.Math.Dec.{eqb}
use Rattle.std.proofs.lemmas.Bool.{and_from, eq-eqb, eqb-true}
use Rattle.std.proofs.lemmas.List.{reverse-append}
use Rattle.frs_types.specs.declared.record.Record.{Record}
use Rattle.frs_disk.specs.Disk.{Image, bytes_at}
use Rattle.frs_segment.specs.declared.layout.Segment.{Segment}
use Rattle.frs_segment.specs.Segments.{File, WholeSegment, IsSegment, end_of, first_of, follow_from, records_of, all_records}
use Rattle.frs_segment.specs.Scanning.{places_of_segment}
use Rattle.frs_recovery.specs.declared.descent.Descent.{Descent}
use Rattle.frs_recovery.specs.declared.fault.RecoverFault.{RecoverFault}
use Rattle.frs_recovery.specs.declared.fault.RecoverFault.TheVariants.{BadHeader, BadChunk, Gap, NumberLimit, Disk, Memory}
use Rattle.frs_recovery.specs.Descent.{file_at, HasLookedAt, IsMeant, IsFileFault, IsWrongFile, ReadsFile}
use Rattle.frs_recovery.specs.OfferedRecords.{HasRead}
use Rattle.frs_recovery.specs.FirstFault.{ends_below, gap_below}
use Rattle.frs_recovery.proofs.BackwardReader.{nothing_read}

-- ---- a segment

abbrev done : Result (Unit {0}) RecoverFault
done = Ok tt

abbrev refused : RecoverFault → Result (Unit {0}) RecoverFault
refused fault = Err fault

-- it ends where those above it begin, or one record is missed
pub meets_them : (s : WholeSegment) (segments : List WholeSegment) (fault : RecoverFault) → done ≡ cond (ends_below s segments) done (refused fault) → IsTrue (ends_below s segments)
meets_them s segments fault e = by (ends_below s segments) e
  where
    by : (b : Bool) → done ≡ cond b done (refused fault) → IsTrue b
    by true e = refl
    by false e = absurd cc

is_apart : (s : WholeSegment) (segments : List WholeSegment) (fault gap : RecoverFault) → refused fault ≡ cond (ends_below s segments) done (refused gap) → IsTrue (not (ends_below s segments)) × (fault ≡ gap)
is_apart s segments fault gap e = by (ends_below s segments) e
  where
    by : (b : Bool) → refused fault ≡ cond b done (refused gap) → IsTrue (not b) × (fault ≡ gap)
    by true e = absurd cc
    by false e = (refl, cc)

-- the records that were read stand behind the segment
read_down_to : (l : Descent) (s : WholeSegment) (segments : List WholeSegment) → HasLookedAt l segments → IsTrue (ends_below s segments) → HasRead l.records (end_of s) (all_records segments)
read_down_to l s [] looked meets = nothing_read l.records 1 (end_of s) looked.read
read_down_to l s (t ∷ segments) looked meets = subst (λ (n : ℕ). HasRead l.records n (all_records (t ∷ segments))) (eqb-true t.first (end_of s) meets) looked.read

-- segments that follow one another, and one in front of them
pub follows : (t : WholeSegment) (segments : List WholeSegment) → IsTrue (ends_below t segments) → IsTrue (follow_from (first_of segments) segments) → IsTrue (follow_from t.first (t ∷ segments))
follows t [] meets follow = and_from (eqb t.first t.first) true (eq-eqb t.first t.first refl) refl
follows t (u ∷ segments) meets follow =
    and_from (eqb t.first t.first) (follow_from (end_of t) (u ∷ segments)) (eq-eqb t.first t.first refl)
    (subst (λ (n : ℕ). IsTrue (follow_from n (u ∷ segments))) (eqb-true u.first (end_of t) meets) follow)

-- the state once the chunks of a segment were read and it is noted
pub reads_file : (tells : Bool) (file : File) (segments : List WholeSegment) (old new : Descent) (found : Segment) (s : WholeSegment) → HasLookedAt old segments → IsMeant s
    → s.number ≡ file.0 → found ≡ places_of_segment s → (IsTrue tells → IsSegment file s) → IsTrue (ends_below s segments)
    → ((rs : List Record) → HasRead old.records (end_of s) rs → HasRead new.records s.first (records_of s ++ rs)) → new.half ≡ old.half → new.segments.items ≡ old.segments.items ++ found ∷ [] → ReadsFile tells file segments old new
reads_file tells file segments old new found s looked meant number was is meets reads half pushed = record {
  half = half;
  next = s;
  number = number;
  is = is;
  meets = meets;
  looked = record {
    segments_are = pushed ∙ ap (λ (x : List Segment). x ++ found ∷ []) looked.segments_are ∙ ap (λ (d : Segment). reverse (map places_of_segment segments) ++ d ∷ []) was ∙ sym (reverse-append (places_of_segment s ∷ []) (map places_of_segment segments));
    each = (meant, looked.each);
    follow = follows s segments meets looked.follow;
    read = reads (all_records segments) (read_down_to old s segments looked meets);
  };
}

-- ---- what is wrong with a file

-- a segment that doesn't end there
pub apart_wrong : (file : File) (segments : List WholeSegment) (s : WholeSegment) (fault : RecoverFault) → IsSegment file s → refused fault ≡ cond (ends_below s segments) done (refused (gap_below segments (end_of s - 1))) → IsWrongFile file segments fault
apart_wrong file segments s fault is e =
    let apart = is_apart s segments fault (gap_below segments (end_of s - 1)) e in
    subst (IsWrongFile file segments) (sym apart.1) (inr (s, is, apart.0, refl))

-- what a file is refused for
pub refused_wrong : (file : File) (segments : List WholeSegment) (fault : RecoverFault) → IsFileFault file fault → IsWrongFile file segments fault
refused_wrong file segments (BadHeader number at) is = inl is
refused_wrong file segments (BadChunk number at) is = inl is
refused_wrong file segments (Gap expected last) is = inl is
refused_wrong file segments (NumberLimit lsn) is = inl is
refused_wrong file segments Disk is = tt
refused_wrong file segments Memory is = tt

-- ---- over the calls

-- what the reading of a segment has told, told of the disk as it was at first
pub file_first : (files files_now : Image) (number number_now : ℕ) → files_now ≡ files → number_now ≡ number → file_at files_now number_now ≡ file_at files number
file_first files files_now number number_now seen same = ap (λ (i : Image). file_at i number_now) seen ∙ ap (λ (n : ℕ). file_at files n) same
