-- What a run answers and prints, and what it leaves.
use Rattle.std.specs.Prelude.{◌≡◌, ◌≢◌, ◌⊎◌, ℕ, ◌≤◌, ◌&&◌, nat_le, length, List, None, Option, IsTrue}
use Rattle.std.specs.FinMap.{entries}
use Rattle.frs_types.specs.declared.limits.TheConstants.{CLIENT_LIMIT}
use Rattle.frs_types.specs.Records.{Log}
use Rattle.frs_disk.specs.declared.disk.Disk as disks
use Rattle.frs_disk.specs.declared.outside.Files as files
use Rattle.frs_disk.specs.declared.outside.Sink as sinks
use Rattle.frs_disk.specs.Disk.{Rose}
use Rattle.frs_disk.specs.Frames.{OnlyReads}
use Rattle.frs_recovery.specs.declared.fault.RecoverFault.{RecoverFault}
use Rattle.frs_recovery.specs.declared.fault.RecoverFault.TheVariants.{NumberLimit}
use Rattle.frs_recovery.specs.FirstFault.{IsWrongFirst}
use Rattle.frs_history.specs.declared.command.Line.{Line}
use Rattle.frs_history.specs.declared.event.Ack.{Ack}
use Rattle.frs_book.specs.Drawn.{SessionHistory}
use Rattle.frs_book.specs.Books.{BookView}
use Rattle.frs_text.specs.declared.plan.TheConstants.{DEMO_LIMIT}
use Rattle.frs_text.specs.declared.plan.RunPlan.{RunPlan}
use Rattle.frs_text.specs.declared.plan.RunPlan.TheVariants.{Scripts, Demo}
use Rattle.frs_text.specs.declared.script_fault.ScriptFault.{ScriptFault}
use Rattle.frs_text.specs.declared.script_fault.ScriptFault.TheVariants.{BadLine, TooLong, TooMany}
use Rattle.frs_engine.specs.declared.ending.Ending.{Ending}
use Rattle.frs_engine.specs.declared.ending.Ending.TheVariants.{Crowded, Disk, Unread}
use Rattle.frs_engine.specs.Causes.{Handed, bytes_handed, one_file, ending_of_plan, HasFault, SpellsScript, IsForLater, IsFull, HasRoomBehind, HasFilled, IsCause}
use Rattle.frs_engine.specs.Endings.{ending_by, status_of, text_of}
use Rattle.frs_engine.specs.PlainJobs.{refusal_status}
use Rattle.frs_engine.specs.Promise.{Tells, IsRun, EndsWholeIf}
use Rattle.frs_engine.specs.Reports.{IsReported, IsSteady}
use Rattle.frs_engine.specs.Statuses.{is_status}

-- ---- what is asked for

-- the plan names a file, or has the numbers of a demo within their limits
abbrev pub HasWork : RunPlan → Type 0
HasWork (Scripts names) = 1 ≤ length names
HasWork (Demo clients count) =
    IsTrue (nat_le 1 clients && nat_le clients CLIENT_LIMIT && nat_le 1 count && nat_le count DEMO_LIMIT)

-- ---- what is left alone

-- Where there was no script to be run, the disk is as it was; and where the store is refused, it was only read.
pub record LeavesAlone {D : Type 0} (g : disks.Ghosts D) (old new : D) (status : ℕ) : Type 0 where
  pub unread : (status ≡ 2) ⊎ (status ≡ 5) ⊎ (status ≡ 10) → new ≡ old
  pub refused : status ≡ 4 → OnlyReads g old new

-- The files tell what they told, and hold what they held. Where the plan hasn't one file, neither they nor the disk
-- were touched.
pub record LeavesFiles {D F : Type 0} (f : files.Ghosts F) (h : Handed D F) : Type 0 where
  pub told : f.tells h.files_after ≡ f.tells h.files
  pub kept : (name : List ℕ) → f.file h.files_after name ≡ f.file h.files name
  pub untouched : one_file h.plan ≡ None → (h.disk_after ≡ h.disk) × (h.files_after ≡ h.files)

-- ---- limits

-- the plan names too many files, or the one file has a command too many; and the disk is as it was
abbrev pub IsTooMuch : {D F : Type 0} → files.Ghosts F → Handed D F → Type 0
IsTooMuch f h = (((n : ℕ) × (one_file h.plan ≡ None) × (ending_of_plan h.plan ≡ Crowded n))
    ⊎ (IsTrue (f.tells h.files) → (line : ℕ) × HasFault (bytes_handed f h) (TooMany line)))
    × (h.disk_after ≡ h.disk)

-- the store has no room for a session, and was only read
abbrev pub IsFullAtStart : {D F : Type 0} → disks.Ghosts D → Handed D F → Type 0
IsFullAtStart d h = (IsTrue (d.tells h.disk) → IsFull (entries (d.reads h.disk))
    ⊎ ((lsn : ℕ) × IsWrongFirst (entries (d.reads h.disk)) (NumberLimit lsn))) × OnlyReads d h.disk h.disk_after

-- a session of the script that is in the one file has used up the LSNs or the numbers of segments
pub record IsFullBehind {D F : Type 0} (d : disks.Ghosts D) (f : files.Ghosts F) (h : Handed D F) : Type 0 where
  pub script : List Line
  pub session : SessionHistory
  pub tells : (acks : List Ack) × Tells script session acks
  pub spelled : IsTrue (f.tells h.files) → SpellsScript (bytes_handed f h) script
  pub filled : IsTrue (d.tells h.disk) → HasFilled (entries (d.reads h.disk)) session

-- ---- the run

module _ {D F S : Type 0} (d : disks.Ghosts D) (f : files.Ghosts F) (s : sinks.Ghosts S) where
  module _ (h : Handed D F) (sink sink_after : S) (status : ℕ) where
    -- What was run is a legal history of the script, and all that is owed in it but at most the last is acknowledged. A
    -- crash at any moment recovers to the maps after some of its commits, with all acknowledged ones. What was printed
    -- is its text. Where all was done, and the sink alone may have failed, every command was answered.
    pub record WasRun : Type 0 where
      pub ending : Ending
      pub script : List Line
      pub book : Option BookView
      pub run : IsRun d h.disk h.disk_after script book
      pub whole : (status ≡ 0) ⊎ (status ≡ 6) → EndsWholeIf d h.disk h.disk_after book
      pub cause : IsCause d f h script book ending
      pub several : one_file h.plan ≡ None → ending ≡ ending_of_plan h.plan
      pub reported : IsReported s (text_of ending book) (status_of ending) status sink sink_after
      pub disk_steady : ending ≢ Disk → d.faults h.disk_after ≡ d.faults h.disk
      pub files_steady : ending ≢ Unread → f.faults h.files_after ≡ f.faults h.files

    -- Each status has its cause.
    pub record HasCauses : Type 0 where
      pub known : IsTrue (is_status status)
      pub disk_steady : status ≢ 3 → status ≢ 9 → d.faults h.disk_after ≡ d.faults h.disk
      pub files_steady : status ≢ 5 → status ≢ 9 → f.faults h.files_after ≡ f.faults h.files
      pub untroubled : status ≡ 0
          → (d.faults h.disk_after ≡ d.faults h.disk) × (f.faults h.files_after ≡ f.faults h.files)
          × (s.faults sink_after ≡ s.faults sink)
      pub bad : status ≡ 2 → IsTrue (f.tells h.files) → (line : ℕ)
          × (HasFault (bytes_handed f h) (BadLine line) ⊎ HasFault (bytes_handed f h) (TooLong line))
      pub disk_failed : status ≡ 3 → Rose (d.faults h.disk) (d.faults h.disk_after)
      pub wrong : status ≡ 4 → IsTrue (d.tells h.disk)
          → (fault : RecoverFault) × IsWrongFirst (entries (d.reads h.disk)) fault × (refusal_status fault ≡ 4)
      pub files_failed : status ≡ 5 → Rose (f.faults h.files) (f.faults h.files_after)
      pub sink_failed : status ≡ 6 → Rose (s.faults sink) (s.faults sink_after)
      pub limited : status ≡ 8 → IsTooMuch f h ⊎ IsFullAtStart d h ⊎ IsFullBehind d f h
      pub later : status ≡ 10 → IsTrue (f.tells h.files) → IsForLater f h

    -- What is refused is answered so, unless a count rose before it was known, or memory ran out; what can be run is run
    -- to its end, unless a count rose, memory ran out, or a limit was met.
    pub record IsComplete : Type 0 where
      pub several : one_file h.plan ≡ None → (status ≡ status_of (ending_of_plan h.plan)) ⊎ (status ≡ 9)
      pub refused : IsTrue (f.tells h.files) → (fault : ScriptFault) → HasFault (bytes_handed f h) fault
          → (status ≡ status_of (ending_by fault)) ⊎ (status ≡ 9) ⊎ (status ≡ 5)
      pub for_later : IsTrue (f.tells h.files) → IsForLater f h → (status ≡ 10) ⊎ (status ≡ 9) ⊎ (status ≡ 5)
      pub wrong : IsTrue (f.tells h.files) → IsTrue (d.tells h.disk) → (script : List Line)
          → SpellsScript (bytes_handed f h) script → (fault : RecoverFault)
          → IsWrongFirst (entries (d.reads h.disk)) fault
          → (status ≡ refusal_status fault) ⊎ (status ≡ 9) ⊎ (status ≡ 5) ⊎ (status ≡ 3)
      pub full : IsTrue (f.tells h.files) → IsTrue (d.tells h.disk) → (script : List Line)
          → SpellsScript (bytes_handed f h) script → IsFull (entries (d.reads h.disk))
          → (status ≡ 8) ⊎ (status ≡ 9) ⊎ (status ≡ 5) ⊎ (status ≡ 3)
      pub whole : IsTrue (f.tells h.files) → IsTrue (d.tells h.disk) → (script : List Line)
          → SpellsScript (bytes_handed f h) script → (log : Log) → HasRoomBehind (entries (d.reads h.disk)) log
          → IsSteady (d.faults h.disk) (d.faults h.disk_after) → IsSteady (f.faults h.files) (f.faults h.files_after)
          → IsSteady (s.faults sink) (s.faults sink_after)
          → (status ≡ 0) ⊎ (status ≡ 9) ⊎ ((status ≡ 8) × IsFullBehind d f h)
