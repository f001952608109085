-- What a run is asked for, and why it ends as it does.
use Rattle.std.specs.Prelude.{◌≡◌, ◌⊎◌, ℕ, ◌+◌, ◌<◌, Bool, true, false, nat_lt, length, List, [], ◌∷◌, Option, Some, None, Ok, Err, IsTrue, if◌then◌else◌}
use Rattle.std.specs.List.{list_any}
use Rattle.std.specs.FinMap.{entries}
use Rattle.frs_types.specs.declared.limits.TheConstants.{CLIENT_LIMIT, NUMBER_LIMIT}
use Rattle.frs_types.specs.Records.{Log, next_lsn}
use Rattle.frs_history.specs.declared.command.Command.{Command}
use Rattle.frs_history.specs.declared.command.Command.TheVariants as command
use Rattle.frs_history.specs.declared.command.Line.{Line}
use Rattle.frs_disk.specs.declared.disk.Disk as disks
use Rattle.frs_disk.specs.declared.outside.Files as files
use Rattle.frs_disk.specs.Disk.{Rose}
use Rattle.frs_disk.specs.Frames.{OnlyReads}
use Rattle.frs_segment.specs.Segments.{FileList, Spells}
use Rattle.frs_recovery.specs.Faults.{IsOfFiles}
use Rattle.frs_recovery.specs.FirstFault.{IsWrongFirst}
use Rattle.frs_book.specs.Drawn.{SessionHistory}
use Rattle.frs_book.specs.Books.{BookView}
use Rattle.frs_store.specs.Start.{greatest_of}
use Rattle.frs_store.specs.Stops.{drawn_count, HasUsedUp}
use Rattle.frs_text.specs.declared.plan.RunPlan.{RunPlan}
use Rattle.frs_text.specs.declared.plan.RunPlan.TheVariants.{Scripts, Demo}
use Rattle.frs_text.specs.declared.script_fault.ScriptFault.{ScriptFault}
use Rattle.frs_text.specs.declared.script_fault.ScriptFault.TheVariants.{BadLine, TooLong, TooMany}
use Rattle.frs_engine.specs.declared.ending.Ending.{Ending}
use Rattle.frs_engine.specs.declared.ending.Ending.TheVariants.{Closed, Bad, Long, Disk, Unread, Past, Crowded, Refused, Limit, Memory, Later}
use Rattle.frs_engine.specs.Endings.{script_in}

-- ---- the plan

-- the name of the one file of a plan
abbrev pub one_file : RunPlan → Option (List ℕ)
one_file (Scripts (name ∷ [])) = Some name
one_file other = None

-- the bytes of that file, where there is one and it is there
abbrev pub bytes_of_plan : RunPlan → (List ℕ → Option (List ℕ)) → Option (List ℕ)
bytes_of_plan (Scripts (name ∷ [])) file = file name
bytes_of_plan other file = None

-- How a run of a plan without one file ends: with more than `CLIENT_LIMIT` clients it is refused, and with more than
-- one it isn't built yet.
abbrev pub ending_of_plan : RunPlan → Ending
ending_of_plan (Scripts names) = if nat_lt CLIENT_LIMIT (length names) then Crowded (length names) else Later
ending_of_plan (Demo clients count) = Later

-- the plan asks for more than one script, and isn't refused
abbrev pub IsPlanForLater : RunPlan → Type 0
IsPlanForLater plan = (one_file plan ≡ None) × (ending_of_plan plan ≡ Later)

-- ---- the bytes of the one file

-- there are bytes, and they spell a script
abbrev pub IsScript : Option (List ℕ) → Type 0
IsScript bytes = (file : List ℕ) × (script : List Line) × (bytes ≡ Some file) × (script_in file ≡ Ok script)

abbrev pub is_snapshot_command : Command → Bool
is_snapshot_command command.Snapshot = true
is_snapshot_command other = false

abbrev pub is_snapshot : Line → Bool
is_snapshot l = is_snapshot_command l.command

-- a line of the script asks for a snapshot
abbrev pub asks_snapshot : List Line → Bool
asks_snapshot script = list_any is_snapshot script

-- there are bytes, and they spell a script that asks for a snapshot
abbrev pub AsksSnapshot : Option (List ℕ) → Type 0
AsksSnapshot bytes =
    (file : List ℕ) × (script : List Line) × (bytes ≡ Some file) × (script_in file ≡ Ok script)
    × (asks_snapshot script ≡ true)

-- the bytes spell this script, which asks for none
abbrev pub SpellsScript : Option (List ℕ) → List Line → Type 0
SpellsScript bytes script =
    (file : List ℕ) × (bytes ≡ Some file) × (script_in file ≡ Ok script) × (asks_snapshot script ≡ false)

-- there are bytes, and they spell no script, for this
abbrev pub HasFault : Option (List ℕ) → ScriptFault → Type 0
HasFault bytes fault = (file : List ℕ) × (bytes ≡ Some file) × (script_in file ≡ Err fault)

-- ---- what a run is handed

-- the plan, and the disk and the files before the run and after it
pub record Handed (D F : Type 0) : Type 0 where
  pub plan : RunPlan
  pub disk : D
  pub disk_after : D
  pub files : F
  pub files_after : F

abbrev pub handed : {D F : Type 0} → RunPlan → D → D → F → F → Handed D F
handed plan disk disk_after files files_after =
    record { plan = plan; disk = disk; disk_after = disk_after; files = files; files_after = files_after }

-- the bytes of the plan's one file, as the files had them
abbrev pub bytes_handed : {D F : Type 0} → files.Ghosts F → Handed D F → Option (List ℕ)
bytes_handed f h = bytes_of_plan h.plan (f.file h.files)

-- There are 2 to 64 files, or a demo is asked for; or the script asks for a snapshot.
abbrev pub IsForLater : {D F : Type 0} → files.Ghosts F → Handed D F → Type 0
IsForLater f h = IsPlanForLater h.plan ⊎ AsksSnapshot (bytes_handed f h)

-- ---- limits

-- What the image spells ends at the last LSN that there is; or an LSN is left, and no number for one more segment.
abbrev pub IsFull : FileList → Type 0
IsFull image =
    (log : Log) × Spells image log
    × ((next_lsn log ≡ NUMBER_LIMIT) ⊎ ((next_lsn log < NUMBER_LIMIT) × (greatest_of image + 1 ≡ NUMBER_LIMIT)))

-- the image spells this log, and an LSN and a number for one more segment are left
abbrev pub HasRoomBehind : FileList → Log → Type 0
HasRoomBehind image log =
    Spells image log × (next_lsn log < NUMBER_LIMIT) × (greatest_of image + 1 < NUMBER_LIMIT)

-- The session that was opened on this image has drawn the last LSN that there is, or so many records that the numbers of
-- segments may be used up by them.
abbrev pub HasFilled : FileList → SessionHistory → Type 0
HasFilled image h = (h.opening + drawn_count h ≡ NUMBER_LIMIT) ⊎ HasUsedUp (greatest_of image + 1) h

-- ---- causes

-- why there is no script to be run, where a run ends so
abbrev pub IsUnread : {F : Type 0} → files.Ghosts F → RunPlan → F → F → Ending → Type 0
IsUnread f plan old new (Bad n) = IsTrue (f.tells old) → HasFault (bytes_of_plan plan (f.file old)) (BadLine n)
IsUnread f plan old new (Long n) = IsTrue (f.tells old) → HasFault (bytes_of_plan plan (f.file old)) (TooLong n)
IsUnread f plan old new Unread = Rose (f.faults old) (f.faults new)
IsUnread f plan old new (Past n) = IsTrue (f.tells old) → HasFault (bytes_of_plan plan (f.file old)) (TooMany n)
IsUnread f plan old new (Crowded n) = (one_file plan ≡ None) × (ending_of_plan plan ≡ Crowded n)
IsUnread f plan old new Memory = Unit {0}
IsUnread f plan old new Later =
    IsPlanForLater plan ⊎ (IsTrue (f.tells old) → AsksSnapshot (bytes_of_plan plan (f.file old)))
IsUnread f plan old new other = ⊥

-- Why no session was opened, where a run ends so. What the files spell is refused, or leaves no room, only where it is
-- so, and the disk was then only read.
abbrev pub IsUnopened : {D : Type 0} → disks.Ghosts D → D → D → Ending → Type 0
IsUnopened d old new (Refused fault) = (d.faults new ≡ d.faults old) × OnlyReads d old new × IsOfFiles fault
    × (IsTrue (d.tells old) → IsWrongFirst (entries (d.reads old)) fault)
IsUnopened d old new Limit = (d.faults new ≡ d.faults old) × OnlyReads d old new
    × (IsTrue (d.tells old) → IsFull (entries (d.reads old)))
IsUnopened d old new Disk = Rose (d.faults old) (d.faults new)
IsUnopened d old new Memory = d.faults new ≡ d.faults old
IsUnopened d old new other = ⊥

-- why a session ended so that had room at its opening
abbrev pub IsStopped : {D : Type 0} → disks.Ghosts D → D → D → SessionHistory → Ending → Type 0
IsStopped d old new h Closed = d.faults new ≡ d.faults old
IsStopped d old new h Limit = (d.faults new ≡ d.faults old)
    × (IsTrue (d.tells old) → HasFilled (entries (d.reads old)) h)
IsStopped d old new h Disk = Rose (d.faults old) (d.faults new)
IsStopped d old new h Memory = d.faults new ≡ d.faults old
IsStopped d old new h other = ⊥

-- why a run ends so that has its script
abbrev pub IsEndOfRun : {D : Type 0} → disks.Ghosts D → D → D → Option BookView → Ending → Type 0
IsEndOfRun d old new None e = IsUnopened d old new e
IsEndOfRun d old new (Some b) e = IsStopped d old new b.session e
    × (IsTrue (d.tells old) → (log : Log) × HasRoomBehind (entries (d.reads old)) log)

-- there was no script to be run, and the disk is as it was
abbrev pub WasNotRun : {D F : Type 0} → files.Ghosts F → Handed D F → Option BookView → Ending → Type 0
WasNotRun f h book e = IsUnread f h.plan h.files h.files_after e × (book ≡ None) × (h.disk_after ≡ h.disk)

-- the script was run, as far as the store allows
abbrev pub WasScriptRun : {D F : Type 0} → disks.Ghosts D → files.Ghosts F → Handed D F → List Line → Option BookView
    → Ending → Type 0
WasScriptRun d f h script book e =
    (IsTrue (f.tells h.files) → SpellsScript (bytes_handed f h) script) × IsEndOfRun d h.disk h.disk_after book e

-- what led to an ending
abbrev pub IsCause : {D F : Type 0} → disks.Ghosts D → files.Ghosts F → Handed D F → List Line → Option BookView → Ending
    → Type 0
IsCause d f h script book e = WasNotRun f h book e ⊎ WasScriptRun d f h script book e
