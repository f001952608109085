-- What is said of a store that is looked at: its maps, its numbers, or why it can't be read back.
use Rattle.std.specs.Prelude.{◌≡◌, ◌≢◌, ◌⊎◌, ℕ, ◌≤◌, Bool, ◌||◌, ◌==◌, List, map, Result, Ok, Err, IsTrue}
use Rattle.std.specs.List.{IsDistinct}
use Rattle.std.specs.FinMap.{entries}
use Rattle.frs_types.specs.Records.{Log}
use Rattle.frs_types.specs.Maps.{same_place}
use Rattle.frs_types.specs.Survivors.{survivors, maps_of}
use Rattle.frs_disk.specs.declared.disk.Disk as disks
use Rattle.frs_disk.specs.declared.outside.Sink as sinks
use Rattle.frs_disk.specs.Disk.{Rose}
use Rattle.frs_segment.specs.Segments.{WholeSegment, SpellsBy}
use Rattle.frs_recovery.specs.declared.fault.RecoverFault.{RecoverFault}
use Rattle.frs_recovery.specs.declared.fault.RecoverFault.TheVariants.{BadHeader, BadChunk, Gap, NumberLimit, Disk, Memory}
use Rattle.frs_recovery.specs.declared.recovered.Recovered.{Recovered}
use Rattle.frs_recovery.specs.Answers.{IsInRange, place_of_entry}
use Rattle.frs_recovery.specs.FirstFault.{IsWrongFirst}
use Rattle.frs_text.specs.Text.{Text, dump, stat_text, stat_of, stat_found}
use Rattle.frs_text.specs.LastLines.{last_line}
use Rattle.frs_text.specs.declared.last_line.LastLine.{LastLine}
use Rattle.frs_text.specs.declared.last_line.LastLine.TheVariants as last
use Rattle.frs_text.specs.declared.plan.PlainPlan.{PlainPlan}
use Rattle.frs_text.specs.declared.plan.PlainPlan.TheVariants as job
use Rattle.frs_engine.specs.declared.finding.Finding.{Finding}
use Rattle.frs_engine.specs.declared.finding.Finding.TheVariants as finding
use Rattle.frs_engine.specs.declared.status.Status.{Status}
use Rattle.frs_engine.specs.declared.status.Status.TheVariants as status
use Rattle.frs_engine.specs.Reports.{IsReported, IsSteady}
use Rattle.frs_engine.specs.Statuses.{code_of, is_plain_status}

-- ---- why it can't be read back

abbrev pub fault_status : RecoverFault → Status
fault_status (BadHeader segment offset) = status.WrongStore
fault_status (BadChunk segment offset) = status.WrongStore
fault_status (Gap expected found) = status.WrongStore
fault_status (NumberLimit lsn) = status.Limit
fault_status Disk = status.DiskStop
fault_status Memory = status.MemoryStop

-- the status by which it is told
abbrev pub refusal_status : RecoverFault → ℕ
refusal_status fault = code_of (fault_status fault)

-- the line that is printed
abbrev pub refusal_line : RecoverFault → LastLine
refusal_line (BadHeader segment offset) = last.WrongHeader segment offset
refusal_line (BadChunk segment offset) = last.WrongChunk segment offset
refusal_line (Gap expected found) = last.MissingRecord expected found
refusal_line (NumberLimit lsn) = last.LimitStop
refusal_line Disk = last.DiskStop
refusal_line Memory = last.MemoryStop

abbrev pub refusal_text : RecoverFault → Text
refusal_text fault = last_line (refusal_line fault)

-- ---- what a job prints

-- what is printed of a store whose files spell this log by these segments
abbrev pub job_text : PlainPlan → List WholeSegment → Log → Text
job_text job.Recover segments log = dump (maps_of (survivors log))
job_text job.Stat segments log = stat_text (stat_of segments log)
job_text job.Compact segments log = last_line last.Later

-- the status that is decided before anything is printed
abbrev pub is_decided : ℕ → Bool
is_decided n = (n == 0) || (n == 3) || (n == 4) || (n == 8) || (n == 9) || (n == 10)

module _ {D : Type 0} (g : disks.Ghosts D) (plan : PlainPlan) (old new : D) where
  -- What is decided and said of the store that was on a disk, before anything is printed: which status, and which text.
  pub record IsSaid (decided : ℕ) (text : Text) : Type 0 where
    pub known : IsTrue (is_decided decided)
    pub later : decided ≡ 10 → (plan ≡ job.Compact) × (text ≡ last_line last.Later)
    pub not_yet : plan ≡ job.Compact → decided ≡ 10
    pub done : decided ≡ 0 → IsTrue (g.tells old)
        → (segments : List WholeSegment) × (log : Log) × SpellsBy (entries (g.reads old)) segments log
        × (text ≡ job_text plan segments log)
    pub wrong : (decided ≡ 4) ⊎ (decided ≡ 8)
        → (fault : RecoverFault) × (decided ≡ refusal_status fault) × (text ≡ refusal_text fault)
        × (IsTrue (g.tells old) → IsWrongFirst (entries (g.reads old)) fault)
    pub failed : decided ≡ 3
        → (g.faults old ≤ g.faults new) × Rose (g.faults old) (g.faults new) × (text ≡ refusal_text Disk)
    pub memory : decided ≡ 9 → text ≡ refusal_text Memory
    pub steady : decided ≢ 3 → g.faults new ≡ g.faults old

-- ---- what a job answers

module _ {D S : Type 0} (d : disks.Ghosts D) (s : sinks.Ghosts S) (plan : PlainPlan) (old new : D) where
  module _ (sink sink_after : S) (status : ℕ) where
    -- What was decided and said of the store that was on the disk at the start, and that this was printed.
    pub record WasLookedAt : Type 0 where
      pub decided : ℕ
      pub text : Text
      pub said : IsSaid d plan old new decided text
      pub reported : IsReported s text decided status sink sink_after

    -- Each status has its cause.
    pub record HasPlainCauses : Type 0 where
      pub known : IsTrue (is_plain_status status)
      pub untroubled : status ≡ 0 → (d.faults new ≡ d.faults old) × (s.faults sink_after ≡ s.faults sink)
      pub disk_failed : status ≡ 3 → Rose (d.faults old) (d.faults new)
      pub sink_failed : status ≡ 6 → Rose (s.faults sink) (s.faults sink_after)
      pub wrong : IsTrue (d.tells old) → (status ≡ 4) ⊎ (status ≡ 8)
          → (fault : RecoverFault) × IsWrongFirst (entries (d.reads old)) fault × (status ≡ refusal_status fault)
      pub only_later : status ≡ 10 → plan ≡ job.Compact

    -- What isn't built yet is answered so, what is wrong first is told, and what can be done is done, unless a count
    -- rose or memory ran out.
    pub record IsPlainComplete : Type 0 where
      pub later : plan ≡ job.Compact → (status ≡ 10) ⊎ (status ≡ 9)
      pub refused : IsTrue (d.tells old) → plan ≢ job.Compact
          → (fault : RecoverFault) → IsWrongFirst (entries (d.reads old)) fault
          → (status ≡ refusal_status fault) ⊎ (status ≡ 3) ⊎ (status ≡ 9)
      pub done : IsTrue (d.tells old) → plan ≢ job.Compact
          → (segments : List WholeSegment) (log : Log) → SpellsBy (entries (d.reads old)) segments log
          → IsSteady (d.faults old) (d.faults new) → IsSteady (s.faults sink) (s.faults sink_after)
          → (status ≡ 0) ⊎ (status ≡ 9)

-- ---- what the code has before it prints

abbrev pub maps_finding : Result Recovered RecoverFault → Finding
maps_finding (Ok r) = finding.Maps r.entries
maps_finding (Err fault) = finding.Refused fault

abbrev pub numbers_finding : Result Recovered RecoverFault → Finding
numbers_finding (Ok r) = finding.Numbers r
numbers_finding (Err fault) = finding.Refused fault

abbrev pub status_found : Finding → Status
status_found finding.Later = status.Later
status_found (finding.Maps entries) = status.Done
status_found (finding.Numbers recovered) = status.Done
status_found (finding.Refused fault) = fault_status fault

-- as a number
abbrev pub finding_status : Finding → ℕ
finding_status f = code_of (status_found f)

abbrev pub finding_text : Finding → Text
finding_text finding.Later = last_line last.Later
finding_text (finding.Maps entries) = dump (maps_of entries)
finding_text (finding.Numbers recovered) = stat_text (stat_found recovered)
finding_text (finding.Refused fault) = refusal_text fault

-- No two entries are at one place, and the numbers of a store are those of one that was read back.
abbrev pub IsPrintable : Finding → Type 0
IsPrintable (finding.Maps entries) = IsDistinct same_place (map place_of_entry entries)
IsPrintable (finding.Numbers recovered) = IsInRange recovered
IsPrintable other = Unit {0}
