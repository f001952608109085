-- The records that one chunk gets.
use Rattle.std.specs.Prelude.{◌≡◌, ◌⊎◌, ℕ, ◌+◌, ◌-◌, ◌<◌, ◌≤◌, List, [], ◌∷◌, ◌++◌, length, take, drop, flat_map, replicate, Option, Some, None, IfSome, Result, IfOk, OnOk, OnErr, IsTrue}
use Rattle.std.specs.FinMap.{get}
use Rattle.std.specs.Int.{w64, from_be_bytes}
use Rattle.std.specs.Option.{option_to_list}
use Rattle.frs_slots.specs.Views.{TakerView, next_taken, IsOneMore, TookRecord, MissedRecord}
use Rattle.frs_disk.specs.declared.disk.Disk.{Ghosts}
use Rattle.frs_disk.specs.declared.disk.Fault.{Fault}
use Rattle.frs_disk.specs.Disk.{bytes_at}
use Rattle.frs_disk.specs.Frames.{IsSynced, Within, ChangesOneFile}
use Rattle.frs_types.specs.declared.limits.TheConstants.{NUMBER_LIMIT}
use Rattle.frs_frame.specs.declared.encoding.TheConstants.{RECORD_LIMIT}
use Rattle.frs_segment.specs.declared.format.TheConstants.{BODY_LIMIT, CHUNK_HEAD}
use Rattle.frs_segment.specs.declared.layout.Segment.{Segment}
use Rattle.frs_writer.specs.Gates.{IsShut, sealed_chunk}
use Rattle.frs_writer.specs.Chunk.{ChunkView}
use Rattle.frs_writer.specs.Places.{with_chunk_place}

-- the bytes of records, one after another
abbrev pub joined_records : List (List ℕ) → List ℕ
joined_records group = flat_map (λ (bytes : List ℕ). bytes) group

-- the lowest LSN that the bytes of a record name
abbrev pub lowest_in : List ℕ → ℕ
lowest_in bytes = from_be_bytes w64 (take 8 (drop 9 bytes))

-- the one that the last of these records names, or this where there is none
abbrev pub lowest_of_last : ℕ → List (List ℕ) → ℕ
lowest_of_last other [] = other
lowest_of_last other (bytes ∷ group) = lowest_of_last (lowest_in bytes) group

-- with this record behind them the records would have more than 1 MiB
abbrev pub IsTooLong : List (List ℕ) → List ℕ → Type 0
IsTooLong group bytes = BODY_LIMIT < length (joined_records group) + length bytes

-- So far these records were taken into a chunk, behind the one that was kept from before.
pub record HasGathered (before now : TakerView) (kept : Option (List ℕ)) (group : List (List ℕ)) : Type 0 where
  pub ring : (now.ring ≡ before.ring) × (now.first ≡ before.first)
  pub known : before.known ≤ now.known
  pub sure : before.sure ≤ now.sure
  pub within : next_taken before ≤ NUMBER_LIMIT → next_taken now ≤ NUMBER_LIMIT
  pub taken : List (List ℕ)
  pub taken_are : now.taken ≡ before.taken ++ taken
  pub group_is : group ≡ option_to_list kept ++ taken
  pub fits : length (joined_records group) ≤ BODY_LIMIT
  pub misses : now.misses ≡ before.misses
  pub none_taken : taken ≡ [] → now ≡ before

-- The records of one chunk, at most so many: the one that was kept before, and then those that were taken. They end at
-- the limit, or before a record that doesn't fit, which was taken and is kept, or where the taker has then looked for
-- the next one and missed it. Where none was taken nothing else of the taker has changed.
pub record GathersGroup (limit : ℕ) (before now : TakerView) (kept still : Option (List ℕ))
    (group : List (List ℕ)) : Type 0 where
  pub ring : (now.ring ≡ before.ring) × (now.first ≡ before.first)
  pub known : before.known ≤ now.known
  pub sure : before.sure ≤ now.sure
  pub within : next_taken before ≤ NUMBER_LIMIT → next_taken now ≤ NUMBER_LIMIT
  pub taken : List (List ℕ)
  pub taken_are : now.taken ≡ before.taken ++ taken
  pub group_is : group ++ option_to_list still ≡ option_to_list kept ++ taken
  pub most : length group ≤ limit
  pub fits : length (joined_records group) ≤ BODY_LIMIT
  pub too_long : IfSome still (λ bytes. IsTooLong group bytes × (length bytes ≤ RECORD_LIMIT))
  pub stops : (length group ≡ limit)
      ⊎ ((still ≡ None) → (now.known ≡ length now.taken) × IsOneMore before.misses now.misses)
  pub misses : (now.misses ≡ before.misses) ⊎ IsOneMore before.misses now.misses
  pub none_taken : taken ≡ [] → now ≡ record before { misses = now.misses }

-- the chunk has these records, and its head isn't written yet
abbrev pub HasGroup : ChunkView → List (List ℕ) → Type 0
HasGroup chunk group = chunk ≡ record {
  count = length group;
  bytes = replicate CHUNK_HEAD 0 ++ joined_records group;
  lowest = lowest_of_last 0 group;
}

-- One more record was taken, and is in the chunk.
pub record AddsRecord (before now : TakerView) (chunk after : ChunkView) : Type 0 where
  pub bytes : List ℕ
  pub took : TookRecord before bytes now
  pub within : next_taken before < NUMBER_LIMIT
  pub fits : length chunk.bytes + length bytes ≤ BODY_LIMIT + CHUNK_HEAD
  pub added : after ≡ record { count = chunk.count + 1; bytes = chunk.bytes ++ bytes; lowest = lowest_in bytes }

-- The next record was missed and no more is known, or one more was taken that doesn't fit, and is kept.
pub record StopsGroup (before now : TakerView) (still : Option (List ℕ)) (chunk after : ChunkView) : Type 0 where
  pub chunk_is : after ≡ chunk
  pub why : ((still ≡ None) × MissedRecord before now × (before.known ≡ length before.taken))
      ⊎ ((bytes : List ℕ) × (still ≡ Some bytes) × TookRecord before bytes now × (next_taken before < NUMBER_LIMIT)
      × (BODY_LIMIT + CHUNK_HEAD < length chunk.bytes + length bytes) × (length bytes ≤ RECORD_LIMIT))

-- ---- the disk

-- The group was put behind the gate at the end of the segment, or a crash or a fault has come before its gate was open.
pub record PutsGroup {D : Type 0} (g : Ghosts D) (old new : D) (before after : Segment) (group : List (List ℕ))
    (result : Result ℕ Fault) : Type 0 where
  pub frame : ChangesOneFile g before.number old new
  pub images : IsTrue (g.tells old) → Within g old new (λ c.
      IsShut (take (before.length - 1) (bytes_at (g.reads old) before.number)) (get c before.number)
      ⊎ (get c before.number ≡ Some (take (before.length - 1) (bytes_at (g.reads old) before.number)
      ++ 1 ∷ sealed_chunk before.«end» (length group) (joined_records group))))
  pub counted : IfOk result (λ count. count ≡ length group)
  pub grown_is : OnOk result (after ≡ with_chunk_place (length group) (length (joined_records group)) before)
  pub durable : OnOk result (IsSynced g new before.number)
  pub written : OnOk result (IsTrue (g.tells old) → get (g.reads new) before.number
      ≡ Some (take (before.length - 1) (bytes_at (g.reads old) before.number)
      ++ 1 ∷ sealed_chunk before.«end» (length group) (joined_records group)))
  pub refused : OnErr result (after ≡ before)
