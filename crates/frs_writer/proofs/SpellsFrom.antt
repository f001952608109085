-- What an image spells that shows a part of the log.
use Rattle.std.proofs.Common.{◌≡◌, inl, inr, ℕ, ◌+◌, ◌-◌, ◌<◌, ◌≤◌, true, List, [], ◌++◌, length, take, drop, Option, Some, None, IsSome, refl, sym, ◌∙◌, ap, subst, arith, length-append, take-append-drop, IsTrue}
use Rattle.std.proofs.Math.Seq.{take-append-add}
use Rattle.std.proofs.lemmas.Bool.{cases_lt}
use Rattle.std.proofs.lemmas.List.{length-map}
use Rattle.std.specs.FinMap.{entries, get}
use Rattle.frs_types.specs.declared.record.Record.{Record}
use Rattle.frs_types.specs.Records.{Log, IsPlaced, next_lsn, are_placed_from, named_lowest}
use Rattle.frs_disk.specs.declared.disk.Disk.{Ghosts}
use Rattle.frs_disk.specs.Disk.{Image}
use Rattle.frs_disk.specs.Frames.{IsSynced, RemovesBelow}
use Rattle.frs_frame.specs.Spelling.{spelling}
use Rattle.frs_segment.specs.Segments.{Spells}
use Rattle.frs_segment.specs.Stores.{log_up_to, LeavesAlike, HasSegments}
use Rattle.frs_segment.proofs.SpellsAlike.{spells_alike, none_left}
use Rattle.frs_segment.specs.declared.layout.Segment.{Segment}
use Rattle.frs_writer.specs.Gates.{IsAtGate}
use Rattle.frs_writer.specs.Invariant.{IsAtWork, ShowsFrom, durable_of, ShowsDurable, IsKept}
use Rattle.frs_writer.specs.Places.{number_of_newest}
use Rattle.frs_writer.specs.Writer.{WriterView, IsLog}
use Rattle.frs_writer.specs.Writing.{SpellsFrom}
use Rattle.frs_writer.proofs.IsPlaced.{placed_front, first_below}
use Rattle.frs_writer.proofs.Places.{newest_number}
use Rattle.frs_writer.proofs.ShowsLog.{spells, base_lowest, rests_shows}

module _ {D : Type 0} (g : Ghosts D) (w : WriterView D) (kept : IsKept g w)
    (told : IsTrue (g.tells w.disk)) (well : LeavesAlike g w.opened) (log : Log) (is_log : IsLog g w log) (placed : IsPlaced log) where
  held : ShowsDurable g w log
  held = kept.holds told well log is_log placed

  -- a part that has all records from before the opening begins no later than where its newest one points
  begins : (k : ℕ) → length is_log.base.records ≤ k → (take k log.records ≡ [] → ⊥) → log.first ≤ named_lowest (take k log.records)
  begins k enough some =
      let base : List Record = is_log.base.records in
      let more : List Record = take (k - length base) is_log.taken in
      let parts : take k log.records ≡ base ++ more =
      ap (λ (l : Log). take k l.records) is_log.is ∙ ap (λ (n : ℕ). take n (base ++ is_log.taken)) (omega (arith, enough)) ∙ take-append-add base is_log.taken (k - length base) in
      let all : are_placed_from 0 log.first (take k log.records ++ drop k log.records) ≡ true = subst (λ (l : List Record). are_placed_from 0 log.first l ≡ true) (sym (take-append-drop k log.records)) placed in
      let front : are_placed_from 0 log.first (base ++ more) ≡ true = subst (λ (l : List Record). are_placed_from 0 log.first l ≡ true) parts (placed_front 0 log.first (take k log.records) (drop k log.records) all) in
      let first : log.first ≡ named_lowest base = ap (λ (l : Log). l.first) is_log.is ∙ base_lowest (entries (g.reads w.opened)) is_log.spelled.0 is_log.base is_log.spelled.1 in
      subst (λ (l : List Record). log.first ≤ named_lowest l) (sym parts) (first_below 0 log.first log.first base more front first (λ none. some (parts ∙ none)))

  base_within : (synced : ℕ) → w.taker.first ≤ synced + 1 → is_log.base.first + length is_log.base.records ≤ synced + 1
  base_within synced first =
      omega (arith, first, held.next_is, ap next_lsn is_log.is, length-append is_log.base.records is_log.taken, ap length is_log.bytes, length-map is_log.taken spelling)

  pub spells_from : {alone fresh : Type 0} (synced : ℕ) → w.taker.first ≤ synced + 1 → (c : Image) → ShowsFrom alone fresh synced log (entries c) → SpellsFrom synced log c
  spells_from synced first c (n, least, most, shows) = (
    n,
    least,
    most,
    spells (entries c) log.first (take (n + 1 - log.first) log.records) shows
        (begins (n + 1 - log.first) (omega (arith, least, base_within synced first, ap (λ (l : Log). l.first) is_log.is))),
  )

  pub durable_spells : w.ended ≡ None → (c : Image) → g.may_leave w.disk c → Spells (entries c) (log_up_to w.synced log)
  durable_spells fine c left =
      let (last, rests, segments) = held.newest fine in
      spells (entries c) log.first (durable_of w log).records (rests_shows (rests c left))
      (begins (w.synced + 1 - log.first) (omega (arith, base_within w.synced kept.counted.first, ap (λ (l : Log). l.first) is_log.is)))

  -- where nothing was cut short each image spells it by the same files
  pub durable_alike : g.may_leave w.disk (g.reads w.disk) → w.ended ≡ None → LeavesAlike g w.disk
  durable_alike here fine c left =
      let (places, at) = held.alike fine in
      let part : List Record = take (w.synced + 1 - log.first) log.records in
      spells_alike (entries (g.reads w.disk)) (entries c) (log_up_to w.synced log) places log.first
      (durable_spells fine (g.reads w.disk) here) (durable_spells fine c left) (at (g.reads w.disk) here) (at c left)
      (λ some. begins (w.synced + 1 - log.first) (omega (arith, base_within w.synced kept.counted.first, ap (λ (l : Log). l.first) is_log.is))
      (λ none. some (none_left (named_lowest part - log.first) part none)))

  -- and what is read has the writer's segments
  pub durable_read : w.ended ≡ None → HasSegments (entries (g.reads w.disk)) w.segments
  durable_read fine = held.read fine

pub newest_synced : {D : Type 0} (g : Ghosts D) (w : WriterView D) (kept : IsKept g w)
    → w.ended ≡ None → IsTrue (g.tells w.disk) → IsSynced g w.disk (number_of_newest w.segments)
newest_synced g w kept fine told =
    subst (λ (n : ℕ). IsSynced g w.disk n) (sym (newest_number kept.counted.older kept.counted.newest) ∙ ap number_of_newest (sym kept.counted.segments)) (kept.at_work fine told).durable

-- no removal is pending of the newest file or above it
pub none_pending : {D : Type 0} (g : Ghosts D) (disk : D) (newest : Segment) → IsAtWork g disk newest → RemovesBelow g disk
none_pending g disk newest work n pends = (
  newest.number,
  some_there (get (g.reads disk) newest.number) work.gate,
  elim (cases_lt n newest.number) [
    | inl lt ↦ lt
    | inr le ↦ absurd (work.none_removed n le pends)
  ],
)
  where
    some_there : (file : Option (List ℕ)) → IsAtGate (newest.length - 1) file → IsSome file
    some_there None gate = absurd gate
    some_there (Some bytes) gate = refl
