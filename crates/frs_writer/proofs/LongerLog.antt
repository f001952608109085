-- What an image has of a log up to one of its records it has of each longer log.
use Rattle.std.proofs.Common.{◌≡◌, ℕ, ◌+◌, ◌-◌, ◌<◌, ◌≤◌, List, ◌++◌, length, sym, ap, subst, arith, length-append}
use Rattle.std.specs.Prelude.{take}
use Rattle.std.proofs.lemmas.List.{take-append-le}
use Rattle.std.specs.FinMap.{entries}
use Rattle.frs_types.specs.declared.record.Record.{Record}
use Rattle.frs_types.specs.Records.{Log, from_lowest, next_lsn}
use Rattle.frs_disk.specs.Disk.{Image}
use Rattle.frs_segment.specs.Segments.{FileList, Spells}
use Rattle.frs_segment.specs.Stores.{log_up_to}
use Rattle.frs_writer.specs.Invariant.{ShowsFrom}
use Rattle.frs_writer.specs.LogImages.{ShowsLog}
use Rattle.frs_writer.specs.Writing.{SpellsFrom, HoldsLog}

abbrev pub with_more : Log → List Record → Log
with_more log more = record log { records = log.records ++ more }

-- the log up to one of its records is that of the longer log
pub up_to_longer : (n : ℕ) (log : Log) (more : List Record) → n < next_lsn log → log_up_to n (with_more log more) ≡ log_up_to n log
up_to_longer n log more inside = ap (from_lowest log.first) (take-append-le (n + 1 - log.first) log.records more (omega (arith, inside)))

pub spells_longer : (n : ℕ) (log : Log) (more : List Record) (c : Image) → n < next_lsn log → Spells (entries c) (log_up_to n log) → Spells (entries c) (log_up_to n (with_more log more))
spells_longer n log more c inside = subst (Spells (entries c)) (sym (up_to_longer n log more inside))

pub holds_longer : {fresh : Type 0} (most n : ℕ) (records more : List Record) (image : FileList) → n ≤ length records → HoldsLog fresh most image (take n records) → HoldsLog fresh most image (take n (records ++ more))
holds_longer {fresh = fresh} most n records more image inside = subst (HoldsLog fresh most image) (sym (take-append-le n records more inside))

-- up to a record that isn't before the LSN synced
pub spells_more : (synced : ℕ) (log log' : Log) (more : List Record) (c : Image) → log' ≡ with_more log more → SpellsFrom synced log c → SpellsFrom synced log' c
spells_more synced log log' more c is (n, least, most, spells) = subst (λ (l : Log). SpellsFrom synced l c) (sym is) (
  n,
  least,
  omega (arith, most, length-append log.records more),
  subst (λ (l : List Record). Spells (entries c) (from_lowest log.first l)) (sym (take-append-le (n + 1 - log.first) log.records more (omega (arith, most)))) spells,
)

pub shows_more : {alone fresh : Type 0} (synced : ℕ) (log log' : Log) (more : List Record) (image : FileList) → log' ≡ with_more log more → ShowsFrom alone fresh synced log image → ShowsFrom alone fresh synced log' image
shows_more {alone = alone} {fresh = fresh} synced log log' more image is (n, least, most, shows) = subst (λ (l : Log). ShowsFrom alone fresh synced l image) (sym is) (
  n,
  least,
  omega (arith, most, length-append log.records more),
  subst (λ (l : List Record). ShowsLog alone fresh image log.first l) (sym (take-append-le (n + 1 - log.first) log.records more (omega (arith, most)))) shows,
)
