-- What a disk in memory shows of itself, and what each of its calls does by its plan.
use Rattle.std.specs.Prelude.{◌≡◌, ◌↔◌, ℕ, ◌+◌, Bool, false, ◌||◌, nat_lt, List, length, Option, Some, None, OnErr, Result}
use Rattle.frs_disk.specs.Disk.{Image}
use Rattle.frs_disk.specs.Files.{image_of}
use Rattle.frs_disk.specs.Faults.{is_named, FailsExactly, faults_after}
use Rattle.frs_disk.specs.Calls.{MayLeave, LeftSince, HasRemoved, Notes}
use Rattle.frs_disk.specs.declared.disk.Fault.{Fault}
use Rattle.frs_disk.specs.declared.calls.Call.{Call}
use Rattle.frs_disk.specs.declared.calls.Made.{Made}
use Rattle.frs_disk.specs.declared.mem_disk.FaultPlan.{FaultPlan}
use Rattle.frs_disk.specs.declared.mem_disk.MemDisk.{MemDisk}

-- the files as they were made, before any call
abbrev pub start_of : MemDisk → Image
start_of disk = image_of disk.start.items

-- the files as they are read
abbrev pub files_of : MemDisk → Image
files_of disk = image_of disk.files.items

-- its calls so far
abbrev pub record_of : MemDisk → List Made
record_of disk = disk.calls.items

abbrev pub fault_plan_of : MemDisk → FaultPlan
fault_plan_of disk = disk.plan

abbrev pub faults_of : MemDisk → ℕ
faults_of disk = disk.faults

-- the greatest room that a read was asked for
abbrev pub widest_of : MemDisk → ℕ
widest_of disk = disk.widest

-- what a crash at this moment may leave, and what one since a moment might have
abbrev pub left_by : MemDisk → Image → Type 0
left_by disk = MayLeave (start_of disk) (record_of disk)

abbrev pub left_since_by : MemDisk → ℕ → Image → Type 0
left_since_by disk = LeftSince (start_of disk) (record_of disk)

abbrev pub moment_of : MemDisk → ℕ
moment_of disk = length (record_of disk)

-- the numbers whose file was removed
abbrev pub removed_on : MemDisk → ℕ → Type 0
removed_on disk = HasRemoved (record_of disk)

-- the stop comes before the call with this number
abbrev pub is_stopped : Option ℕ → ℕ → Bool
is_stopped None n = false
is_stopped (Some last) n = nat_lt last n

-- the plan lets the call with this number fail
abbrev pub fails_at : FaultPlan → ℕ → Bool
fails_at plan n = is_named plan.failing.items n || is_stopped plan.stop_after n

-- no file is another, a crash may leave the same as before, and the same removals are pending
pub record IsUntouched (old new : MemDisk) : Type 0 where
  pub files : files_of new ≡ files_of old
  pub leaves : (c : Image) → left_by new c ↔ left_by old c
  pub removing : (n : ℕ) → removed_on new n ↔ removed_on old n

-- What one call does beside its answer: it stands in the record, it has failed exactly where the plan says so,
-- and where it is refused it has changed nothing.
pub record Plays {V : Type 0} (call : Call) (old new : MemDisk) (result : Result V Fault) : Type 0 where
  pub plan : fault_plan_of new ≡ fault_plan_of old
  pub start : start_of new ≡ start_of old
  pub noted : Notes call (record_of old) (record_of new) result
  pub planned : FailsExactly (fails_at (fault_plan_of old) (length (record_of old) + 1)) result
  pub counted : faults_of new ≡ faults_after result (faults_of old)
  pub refused : OnErr result (IsUntouched old new)
