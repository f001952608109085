-- What the start of a session answers.
use Rattle.std.specs.Prelude.{◌≡◌, ℕ, ◌<◌, ◌≤◌, ◌+◌, List, [], ◌∷◌, ◌++◌, length, false, None, unwrap_or, IsTrue}
use Rattle.std.specs.List.{last_or}
use Rattle.std.specs.FinMap.{entries}
use Rattle.frs_types.specs.declared.limits.TheConstants.{NUMBER_LIMIT}
use Rattle.frs_types.specs.declared.record.Action.TheVariants.{Mark}
use Rattle.frs_types.specs.declared.record.Record.{Record}
use Rattle.frs_types.specs.Records.{Log, from_lowest, next_lsn}
use Rattle.frs_types.specs.Lawful.{Lawful}
use Rattle.frs_types.specs.Survivors.{survivors, maps_of}
use Rattle.frs_disk.specs.declared.disk.Disk.{Ghosts}
use Rattle.frs_disk.specs.Disk.{Image, Rose}
use Rattle.frs_disk.specs.Frames.{Within, OnlyReads, GoesOn}
use Rattle.frs_frame.specs.Spelling.{spelling}
use Rattle.frs_segment.specs.Segments.{FileList, WholeSegment, Spells}
use Rattle.frs_segment.specs.Stores.{numbers_of}
use Rattle.frs_recovery.specs.declared.recovered.Recovered.{Recovered}
use Rattle.frs_recovery.specs.Sound.{IsReady, HasState}
use Rattle.frs_recovery.specs.Faults.{IsOfFiles}
use Rattle.frs_recovery.specs.FirstFault.{IsWrongFirst}
use Rattle.frs_recovery.specs.Answers.{IsRecovered, IsInRange}
use Rattle.frs_slots.specs.Views.{DrawerView, TakerView, AreOfOneRing}
use Rattle.frs_writer.specs.Writing.{is_due}
use Rattle.frs_history.specs.declared.command.Line.{Line}
use Rattle.frs_book.specs.Books.{SameSession}
use Rattle.frs_store.specs.declared.stop.StartFault.{StartFault}
use Rattle.frs_store.specs.declared.stop.StartFault.TheVariants as start
use Rattle.frs_store.specs.declared.stop.Unopened.{Unopened}
use Rattle.frs_store.specs.declared.store.Store.{Store}
use Rattle.frs_store.specs.Session.{SameStart, faults_of}
use Rattle.frs_store.specs.SessionEnd.{RecoversTo, SpellsFront, state_of, opening_mark}

-- the greatest number of a file, or 0
abbrev pub greatest_of : FileList → ℕ
greatest_of image = unwrap_or (last_or None (numbers_of image)) 0

-- A session of this script, in which nothing has happened. It goes on behind the last LSN that the files spelled, in
-- the file behind the greatest, and its opening mark is durable. Its number and the mark's LSN are below the limit.
pub record IsOpened {D : Type 0} (g : Ghosts D) (disk : D) (script : List Line) (s : Store D) : Type 0 where
  pub start : s.journal.start ≡ disk
  pub scripts : s.book.session.scripts ≡ script ∷ []
  pub last : s.book.session.last ≡ 0
  pub events : s.book.session.events ≡ []
  pub closing : s.book.session.closing ≡ None
  pub acks : s.book.acks ≡ []
  pub opening : s.book.session.opening ≡ s.journal.durable + 1
  pub left : (s.journal.number < NUMBER_LIMIT) × (s.book.session.opening < NUMBER_LIMIT)
  pub written : s.journal.writer.synced ≡ s.book.session.opening
  pub durable : IsTrue (g.tells disk) → (log : Log) × Spells (entries (g.reads disk)) log
      × (next_lsn log ≡ s.journal.durable + 1)
  pub number : IsTrue (g.tells disk) → s.journal.number ≡ greatest_of (entries (g.reads disk)) + 1
  pub faults : g.faults s.journal.writer.disk ≡ g.faults disk

-- Each crash since the start leaves what the files spelled, or that with the opening mark.
abbrev pub LeavesOpening : {D : Type 0} → Ghosts D → D → D → Type 0
LeavesOpening g old new = IsTrue (g.tells old) → IsReady g old → (before : List Record) × Lawful [] 1 before
    × Spells (entries (g.reads old)) (from_lowest 1 before)
    × Within g old new (SpellsFront (length before) (before ++ opening_mark before ∷ []))

-- what the files spell ends at the last LSN that there is
abbrev pub IsFullOnDisk : {D : Type 0} → Ghosts D → D → Type 0
IsFullOnDisk g disk = IsTrue (g.tells disk) → (log : Log) × Spells (entries (g.reads disk)) log
    × (next_lsn log ≡ NUMBER_LIMIT)

-- The number behind the greatest of these files, which spell a log behind which an LSN is left.
pub record IsNextNumber (image : FileList) (number : ℕ) : Type 0 where
  pub log : Log
  pub spelled : Spells image log
  pub left : next_lsn log < NUMBER_LIMIT
  pub behind : number ≡ greatest_of image + 1

-- The disk is told only where its count has risen. What the files spell is refused, or no LSN is left, or no number for
-- another segment, only where it is so, and the disk was then only read. They are judged in this order.
abbrev pub StartHasCause : {D : Type 0} → Ghosts D → D → D → StartFault → Type 0
StartHasCause g old new (start.Recover fault) = (g.faults new ≡ g.faults old) × OnlyReads g old new × IsOfFiles fault
    × (IsTrue (g.tells old) → IsWrongFirst (entries (g.reads old)) fault)
StartHasCause g old new (start.LogFull next) = (g.faults new ≡ g.faults old) × OnlyReads g old new
    × (next ≡ NUMBER_LIMIT) × IsFullOnDisk g old
StartHasCause g old new (start.NumberLimit number) = (g.faults new ≡ g.faults old) × OnlyReads g old new
    × (number ≡ NUMBER_LIMIT) × (IsTrue (g.tells old) → IsNextNumber (entries (g.reads old)) number)
StartHasCause g old new start.Disk = Rose (g.faults old) (g.faults new)
StartHasCause g old new start.Memory = g.faults new ≡ g.faults old

pub record IsUnopened {D : Type 0} (g : Ghosts D) (disk : D) (e : Unopened D) : Type 0 where
  pub images : LeavesOpening g disk e.disk
  pub frame : GoesOn g disk e.disk
  pub cause : StartHasCause g disk e.disk e.fault

-- The image recovers to what survives of the log, and the last LSN is that of the log, or that of an opening mark behind
-- it.
abbrev pub RecoversSame : Log → Image → Type 0
RecoversSame log c = (n : ℕ) × (next_lsn log ≤ n + 1) × (n ≤ next_lsn log)
    × RecoversTo (entries c) n (maps_of (survivors log))

-- ---- its parts

-- The two ends of one ring, from this LSN on, in which the opening mark of this lowest LSN stands, ready to be taken.
pub record HasMark (next low : ℕ) (d : DrawerView) (t : TakerView) : Type 0 where
  pub ring : AreOfOneRing d t
  pub first : t.first ≡ next
  pub drawn : d.drawn ≡ spelling (record { tx = 0; lowest = low; named = 0; action = Mark }) ∷ []
  pub taken : t.taken ≡ []
  pub filled : (t.sure ≡ 1) × (0 < t.known)

-- This was recovered from the disk, which was only read, and an LSN is left.
pub record IsFoundOn {D : Type 0} (g : Ghosts D) (old disk : D) (r : Recovered) : Type 0 where
  pub looked : OnlyReads g old disk
  pub faults : g.faults disk ≡ g.faults old
  pub range : IsInRange r
  pub below : r.found.next < NUMBER_LIMIT
  pub found : IsTrue (g.tells old) → (segments : List WholeSegment) × (log : Log)
      × IsRecovered (entries (g.reads old)) segments log r
  pub state : IsTrue (g.tells old) → (records : List Record) → Lawful [] 1 records
      → Spells (entries (g.reads old)) (from_lowest 1 records) → HasState (state_of records) r

-- Of the ring, in which the opening mark alone was drawn, nothing was taken, and the newest segment isn't to be left.
pub record HasOnlyMark {D : Type 0} (s : Store D) : Type 0 where
  pub drawn : (s.book.drawer.drawn ≡ s.book.before) × (length s.book.before ≡ 1)
  pub taken : (s.journal.writer.taker.taken ≡ []) × (s.journal.writer.kept ≡ None)
  pub known : 0 < s.journal.writer.taker.known
  pub newest : is_due s.journal.writer ≡ false

-- the mark is durable, and the book but for its drawing end is as it was
pub record WritesMark {D : Type 0} (g : Ghosts D) (old new : Store D) : Type 0 where
  pub same : SameStart g old new
  pub book : SameSession old.book new.book
  pub synced : new.journal.writer.synced ≡ old.journal.writer.synced + 1
  pub faults : faults_of g new ≡ faults_of g old

-- the disk or memory has failed
abbrev pub MarkHasCause : (before now : ℕ) → StartFault → Type 0
MarkHasCause before now start.Disk = Rose before now
MarkHasCause before now start.Memory = now ≡ before
MarkHasCause before now other = ⊥

-- the mark wasn't written for sure
pub record FailsAtMark {D : Type 0} (g : Ghosts D) (old : Store D) (e : Unopened D) : Type 0 where
  pub images : LeavesOpening g old.journal.start e.disk
  pub frame : GoesOn g old.journal.writer.disk e.disk
  pub cause : MarkHasCause (faults_of g old) (g.faults e.disk) e.fault
