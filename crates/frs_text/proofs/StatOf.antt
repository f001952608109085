-- The numbers of a store as it was read back are those of its log.
use Rattle.std.proofs.Common.{◌≡◌, ℕ, suc, ◌+◌, ◌-◌, List, [], ◌∷◌, length, map, fold, refl, ap, ◌∙◌, arith}
use Rattle.std.proofs.lemmas.List.{length-map}
use Rattle.std.specs.List.{sum_by}
use Rattle.frs_types.specs.declared.record.Record.{Record}
use Rattle.frs_types.specs.Records.{Log, next_lsn}
use Rattle.frs_segment.specs.declared.layout.Segment.{Segment}
use Rattle.frs_segment.specs.Segments.{FileList, WholeSegment, body}
use Rattle.frs_segment.specs.Scanning.{places_from, places_of_segment}
use Rattle.frs_recovery.specs.declared.recovered.Recovered.{Recovered}
use Rattle.frs_recovery.specs.Answers.{IsRecovered}
use Rattle.frs_text.specs.Text.{stat_of, stat_found}

length-places : (offset first : ℕ) (chunks : List (List Record)) → length (places_from offset first chunks) ≡ length chunks
length-places offset first [] = refl
length-places offset first (rs ∷ chunks) = ap suc (length-places (offset + 17 + length (body rs)) (first + length rs) chunks)

-- a sum that goes on from n, over what was read of the segments
chunks_from : (n : ℕ) (segments : List WholeSegment) → fold (λ a (s : Segment). a + length s.chunks) n (map places_of_segment segments) ≡ fold (λ a (s : WholeSegment). a + length s.chunks) n segments
chunks_from n [] = refl
chunks_from n (s ∷ segments) =
    ap (λ k. fold (λ a (d : Segment). a + length d.chunks) (n + k) (map places_of_segment segments)) (length-places 22 s.first s.chunks) ∙ chunks_from (n + length s.chunks) segments

from_first : (first next n : ℕ) → next ≡ first + n → next - first ≡ n
from_first first next n h = omega (arith, h)

pub numbers_of_log : (image : FileList) (segments : List WholeSegment) (log : Log) (r : Recovered) → IsRecovered image segments log r → stat_found r ≡ stat_of segments log
numbers_of_log image segments log r h =
    let seven = ap (λ (s : List Segment). length s) h.found.segments_are ∙ length-map segments places_of_segment in
    let chunks = ap (λ (s : List Segment). sum_by (λ (d : Segment). length d.chunks) s) h.found.segments_are ∙ chunks_from 0 segments in
    let records : r.found.next - r.found.named ≡ length log.records =
    ap (λ n. n - r.found.named) h.found.next_is ∙ ap (λ n. next_lsn log - n) h.found.named_is ∙ from_first log.first (next_lsn log) (length log.records) refl in
    λ i. record {
      segments = seven i;
      chunks = chunks i;
      records = records i;
      next = h.found.next_is i;
      lowest = h.lowest i;
      live = length (h.entries i);
      gap = h.found.next_is i - h.lowest i;
    }
