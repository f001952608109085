-- What a recovery answers.
use Rattle.std.specs.Prelude.{◌≡◌, ℕ, ◌<◌, ◌≤◌, List, map, All}
use Rattle.std.specs.List.{IsDistinct}
use Rattle.std.specs.List.Sorted.{IsStrictlyIncreasing}
use Rattle.frs_types.specs.declared.limits.TheConstants.{NUMBER_LIMIT}
use Rattle.frs_types.specs.declared.record.Entry.{Entry}
use Rattle.frs_types.specs.Maps.{Place, same_place}
use Rattle.frs_types.specs.Records.{Log}
use Rattle.frs_types.specs.Survivors.{survivors, lowest_of}
use Rattle.frs_segment.specs.Segments.{FileList, WholeSegment}
use Rattle.frs_segment.specs.Stores.{IsFound}
use Rattle.frs_recovery.specs.declared.recovered.Recovered.{Recovered}

-- The image spells this log by these segments, and the answer has the log's survivors, its lowest, and what was found.
pub record IsRecovered (image : FileList) (segments : List WholeSegment) (log : Log) (r : Recovered) : Type 0 where
  pub found : IsFound image segments log r.found
  pub entries : r.entries ≡ survivors log
  pub lowest : r.lowest ≡ lowest_of log

abbrev pub place_of_entry : Entry → Place
place_of_entry e = (e.id, e.key)

abbrev pub lsns_of : List Entry → List ℕ
lsns_of entries = map (λ (e : Entry). e.lsn) entries

-- What holds of an answer whatever the disk tells of its files.
pub record IsInRange (r : Recovered) : Type 0 where
  pub places : IsDistinct same_place (map place_of_entry r.entries)
  pub rising : IsStrictlyIncreasing (lsns_of r.entries)
  pub lsns : All (λ n. (0 < n) × (n < r.found.next)) (lsns_of r.entries)
  pub lowest : r.lowest ≤ r.found.next
  pub named : r.found.named ≤ r.found.next
  pub next : (1 ≤ r.found.next) × (r.found.next ≤ NUMBER_LIMIT)
  pub greatest : r.found.greatest < NUMBER_LIMIT
