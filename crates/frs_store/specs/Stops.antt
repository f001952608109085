-- Why a session isn't opened, and why it stops.
use Rattle.std.specs.Prelude.{◌≡◌, ◌⊎◌, ℕ, ◌+◌, ◌≤◌, length, None}
use Rattle.frs_types.specs.declared.limits.TheConstants.{NUMBER_LIMIT}
use Rattle.frs_disk.specs.Disk.{Rose}
use Rattle.frs_recovery.specs.declared.fault.RecoverFault.{RecoverFault}
use Rattle.frs_recovery.specs.declared.fault.RecoverFault.TheVariants as recover
use Rattle.frs_writer.specs.declared.fault.WriteFault.{WriteFault}
use Rattle.frs_writer.specs.declared.fault.WriteFault.TheVariants as write
use Rattle.frs_writer.specs.Places.{number_of_newest}
use Rattle.frs_writer.specs.Writer.{WriterView}
use Rattle.frs_book.specs.Drawn.{SessionHistory, drawn_records}
use Rattle.frs_store.specs.declared.stop.StartFault.{StartFault}
use Rattle.frs_store.specs.declared.stop.StartFault.TheVariants as start
use Rattle.frs_store.specs.declared.stop.Stop.{Stop}
use Rattle.frs_store.specs.declared.stop.Stop.TheVariants as stop

abbrev pub stop_of_write : WriteFault → Stop
stop_of_write write.Disk = stop.Disk
stop_of_write (write.Broken at_opening now) = stop.Disk
stop_of_write (write.NumberLimit number) = stop.Limit
stop_of_write write.Memory = stop.Memory

abbrev pub start_fault_of_write : WriteFault → StartFault
start_fault_of_write write.Disk = start.Disk
start_fault_of_write (write.Broken at_opening now) = start.Disk
start_fault_of_write (write.NumberLimit number) = start.NumberLimit number
start_fault_of_write write.Memory = start.Memory

abbrev pub start_fault_of_recover : RecoverFault → StartFault
start_fault_of_recover recover.Disk = start.Disk
start_fault_of_recover recover.Memory = start.Memory
start_fault_of_recover other = start.Recover other

-- ---- why it stops, as the parts tell it that work on its store

-- The disk stops a session only where its count has risen, and else the count is as it was. A limit stops it only where
-- no LSN is left, or the next segment has no number; nothing was cut short then.
abbrev pub StopHasCause : {D : Type 0} → (before now next : ℕ) → WriterView D → Stop → Type 0
StopHasCause before now next writer stop.Disk = Rose before now
StopHasCause before now next writer stop.Limit = (now ≡ before)
    × ((next ≡ NUMBER_LIMIT) ⊎ ((number_of_newest writer.segments + 1 ≡ NUMBER_LIMIT) × (writer.ended ≡ None)))
StopHasCause before now next writer stop.Memory = now ≡ before

-- ---- why it stops, as its user can tell

-- So many records the session drew, the opening mark among them. The next one would have the LSN behind them all,
-- `h.opening + drawn_count h`.
abbrev pub drawn_count : SessionHistory → ℕ
drawn_count h = length (drawn_records h) + 1

-- Where the opening made the segment of this number, the session drew enough records to use up all numbers: each
-- further segment is made only behind a record that became durable.
abbrev pub HasUsedUp : ℕ → SessionHistory → Type 0
HasUsedUp number h = NUMBER_LIMIT ≤ number + drawn_count h + 1

-- The disk has failed in the call; or it hasn't, and no LSN is left, or all numbers of segments may be used up; or it
-- hasn't, and there was no memory.
abbrev pub StopMet : (before now number : ℕ) → SessionHistory → Stop → Type 0
StopMet before now number h stop.Disk = Rose before now
StopMet before now number h stop.Limit =
    (now ≡ before) × ((h.opening + drawn_count h ≡ NUMBER_LIMIT) ⊎ HasUsedUp number h)
StopMet before now number h stop.Memory = now ≡ before
