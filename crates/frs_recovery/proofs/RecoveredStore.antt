-- What is read off the segments that were looked at is what the store has.
use Rattle.std.proofs.Common.{◌≡◌, ℕ, ◌+◌, ◌^◌, ◌<◌, ◌≤◌, Bool, List, [], ◌∷◌, ◌++◌, Option, None, Some, length, map, reverse, sym, ap, subst, ◌∙◌, arith, IsTrue, All}
use Rattle.std.specs.Prelude.{filter, unwrap_or}
use Rattle.std.specs.List.{last_or, IsDistinct}
use Rattle.std.specs.List.Sorted.{IsStrictlyIncreasing}
use Rattle.std.specs.Ordering.{nat_cmp}
use Rattle.std.specs.FinMap.Entries.{is_sorted}
use Rattle.std.proofs.Math.Dec.{ltb}
use Rattle.std.proofs.lemmas.List.{reverse-reverse}
use Rattle.std.proofs.lemmas.List.Elements.{All-head, All-tail, All-weaker}
use Rattle.frs_types.proofs.LowestRises.{least_at_most}
use Rattle.frs_types.specs.declared.record.Entry.{Entry}
use Rattle.frs_types.specs.declared.record.Record.{Record}
use Rattle.frs_types.specs.Maps.{same_place}
use Rattle.frs_types.specs.Records.{Log, Numbered, numbered_records_from, numbered_records, named_lowest, from_lowest, next_lsn}
use Rattle.frs_types.specs.Survivors.{committed_records, survivors_of, survivors, open_begins, least, lowest_of}
use Rattle.frs_disk.specs.Disk.{IsNumber}
use Rattle.frs_segment.specs.declared.layout.Segment.{Segment}
use Rattle.frs_segment.specs.Segments.{FileList, WholeSegment, all_records, first_of}
use Rattle.frs_segment.specs.Stores.{numbers_of}
use Rattle.frs_segment.specs.Scanning.{places_of_segment}
use Rattle.frs_recovery.specs.declared.descent.Descent.{Descent}
use Rattle.frs_recovery.specs.declared.recovered.Recovered.{Recovered}
use Rattle.frs_recovery.specs.Answers.{IsRecovered, IsInRange, lsns_of, place_of_entry}
use Rattle.frs_recovery.specs.OfferedRecords.{offered_records, HasRead}
use Rattle.frs_recovery.specs.DescentEnd.{LooksDown, end_of_newest, least_number}
use Rattle.frs_recovery.proofs.Reaches.{all_allowed}
use Rattle.frs_recovery.proofs.IsFound.{newest_end, newest_within, first_some, offered_log, log_next, enough_bounds, half_found, older_found, spelled}

-- what is read off, and what was offered and noted
pub record IsReadOff (l : Descent) (numbers : List ℕ) (r : Recovered) : Type 0 where
  pub segments : r.found.segments ≡ reverse l.segments.items
  pub half : r.found.half ≡ filter (ltb (least_number l.segments.items)) (reverse l.half.items)
  pub older : r.found.older ≡ filter (λ n. ltb n (least_number l.segments.items)) numbers
  pub greatest : r.found.greatest ≡ unwrap_or (last_or None numbers) 0
  pub next : r.found.next ≡ end_of_newest l.segments.items
  pub named : r.found.named ≡ unwrap_or l.records.named 1
  pub entries : (first : ℕ) (rs : List Record) → HasRead l.records first rs → r.entries ≡ survivors_of (committed_records (offered_records first rs))
  pub lowest : (first : ℕ) (rs : List Record) → HasRead l.records first rs
      → r.lowest ≡ least r.found.next (lsns_of (survivors_of (committed_records (offered_records first rs))) ++ open_begins (offered_records first rs))

last_within : (n : ℕ) (ns : List ℕ) → n < 2 ^ 62 → All IsNumber ns → unwrap_or (last_or (Some n) ns) 0 < 2 ^ 62
last_within n [] lt all = lt
last_within n (m ∷ ns) lt all = last_within m ns (All-head IsNumber m ns all).1 (All-tail IsNumber m ns all)

greatest_within : (ns : List ℕ) → All IsNumber ns → unwrap_or (last_or None ns) 0 < 2 ^ 62
greatest_within [] all = omega arith
greatest_within (n ∷ ns) all = last_within n ns (All-head IsNumber n ns all).1 (All-tail IsNumber n ns all)

module _ (tells : Bool) (image : FileList) (l : Descent) (way : LooksDown tells image l) (numbers : List ℕ) (r : Recovered) (read : IsReadOff l numbers r) where
  abbrev first : ℕ
  first = first_of way.segments

  abbrev rs : List Record
  rs = all_records way.segments

  abbrev log : Log
  log = from_lowest first rs

  bounds : (first ≤ named_lowest rs) × (named_lowest rs ≤ first + length rs)
  bounds = enough_bounds way.older way.segments rs way.enough (all_allowed first way.segments way.looked.each way.looked.follow)

  offered : offered_records first rs ≡ numbered_records log
  offered = offered_log first rs bounds.0

  end_is : r.found.next ≡ first + length rs
  end_is = read.next ∙ ap end_of_newest way.looked.segments_are ∙ newest_end way.segments way.looked.follow

  next_is : r.found.next ≡ next_lsn log
  next_is = end_is ∙ sym (log_next first rs bounds.0 bounds.1)

  named_is : r.found.named ≡ log.first
  named_is = read.named ∙ ap (λ (o : Option ℕ). unwrap_or o 1) way.looked.read.named

  entries_are : r.entries ≡ survivors log
  entries_are = read.entries first rs way.looked.read ∙ ap (λ (x : List Numbered). survivors_of (committed_records x)) offered

  lowest_is : r.lowest ≡ lowest_of log
  lowest_is =
      read.lowest first rs way.looked.read ∙ ap (λ (x : List Numbered). least r.found.next (lsns_of (survivors_of (committed_records x)) ++ open_begins x)) offered
      ∙ ap (λ (n : ℕ). least n (lsns_of (survivors log) ++ open_begins (numbered_records log))) next_is

  pub found_is : IsTrue tells → IsTrue (is_sorted nat_cmp image) → All IsNumber numbers → numbers ≡ numbers_of image → (segments : List WholeSegment) × (of : Log) × IsRecovered image segments of r
  found_is told rising in_range all =
      let down = way.down told in (
        way.segments,
        log,
        record {
          found = record {
            spelled = spelled image way.older way.segments l.half.items down rising way.looked.follow way.enough;
            segments_are = read.segments ∙ ap reverse way.looked.segments_are ∙ reverse-reverse (map places_of_segment way.segments);
            half_are = read.half ∙ ap (λ (ds : List Segment). filter (ltb (least_number ds)) (reverse l.half.items)) way.looked.segments_are
                ∙ half_found image way.older way.segments l.half.items down rising (subst (λ (ns : List ℕ). All IsNumber ns) all in_range) way.enough;
            older_are = read.older ∙ ap (λ (ds : List Segment). filter (λ n. ltb n (least_number ds)) numbers) way.looked.segments_are ∙ older_found image numbers way.segments all;
            greatest_is = read.greatest ∙ ap (λ (ns : List ℕ). unwrap_or (last_or None ns) 0) all;
            next_is = next_is;
            named_is = named_is;
          };
          entries = entries_are;
          lowest = lowest_is;
        },
      )

  pub in_range_is : ((n : ℕ) (qs : List Record) → IsDistinct same_place (map (λ (e : Entry). (e.id, e.key)) (survivors_of (committed_records (numbered_records_from n qs)))))
      → ((n : ℕ) (qs : List Record) → IsStrictlyIncreasing (map (λ (e : Entry). e.lsn) (survivors_of (committed_records (numbered_records_from n qs)))))
      → ((n : ℕ) (qs : List Record) → All (λ m. (n ≤ m) × (m < n + length qs)) (map (λ (e : Entry). e.lsn) (survivors_of (committed_records (numbered_records_from n qs)))))
      → All IsNumber numbers → IsInRange r
  in_range_is places rising within in_range =
      let some : 1 ≤ first = first_some way.segments way.looked.each in
      let le = bounds in
      record {
        places = subst (λ (es : List Entry). IsDistinct same_place (map place_of_entry es)) (sym entries_are) (places log.first log.records);
        rising = subst (λ (es : List Entry). IsStrictlyIncreasing (lsns_of es)) (sym entries_are) (rising log.first log.records);
        lsns = subst (λ (es : List Entry). All (λ n. (0 < n) × (n < r.found.next)) (lsns_of es)) (sym entries_are)
            (All-weaker (λ n. (log.first ≤ n) × (n < log.first + length log.records)) (λ n. (0 < n) × (n < r.found.next)) (λ n is. (omega (arith, is.0, le.0, some), omega (arith, is.1, next_is))) (lsns_of (survivors log)) (within log.first log.records));
        lowest = omega (arith, read.lowest first rs way.looked.read, least_at_most r.found.next (lsns_of (survivors_of (committed_records (offered_records first rs))) ++ open_begins (offered_records first rs)));
        named = omega (arith, named_is, end_is, le.1);
        next = (omega (arith, end_is, some), subst (λ (n : ℕ). n ≤ 2 ^ 62) (sym (read.next ∙ ap end_of_newest way.looked.segments_are)) (newest_within way.segments way.looked.each));
        greatest = subst (λ (n : ℕ). n < 2 ^ 62) (sym read.greatest) (greatest_within numbers in_range);
      }
