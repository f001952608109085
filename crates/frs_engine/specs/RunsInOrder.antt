-- Runs on a store, one after another, each ended by a crash or at its close, and the maps after them.
use Rattle.std.specs.Prelude.{◌≡◌, ℕ, ◌-◌, ◌≤◌, List, [], ◌∷◌, length, max, Option, Some, None}
use Rattle.std.specs.FinMap.{entries}
use Rattle.frs_types.specs.Maps.{Maps, After}
use Rattle.frs_types.specs.Lawful.{plain_maps}
use Rattle.frs_types.specs.Records.{Log}
use Rattle.frs_types.specs.Survivors.{survivors, maps_of}
use Rattle.frs_disk.specs.Disk.{Image}
use Rattle.frs_segment.specs.Segments.{Spells}
use Rattle.frs_history.specs.declared.event.Ack.{Ack}
use Rattle.frs_history.specs.Machine.{Changes}
use Rattle.frs_book.specs.Agreement.{IsSession}
use Rattle.frs_book.specs.Drawn.{SessionHistory, commits_in}
use Rattle.frs_book.specs.Books.{BookView}
use Rattle.frs_store.specs.Sessions.{RunEnd, HasLeft, StayBy}
use Rattle.frs_store.specs.Sessions.RunEnd.{AtCrash, AtClose}
use Rattle.frs_store.specs.Start.{RecoversSame}

-- A run that ended: its session, if one was opened, with how that ended; and the files that it left.
pub data EndedRun : Type 0 where
  NotOpened : (left : Image) → EndedRun
  Opened : (session : SessionHistory) → (ended : RunEnd) → (left : Image) → EndedRun

abbrev pub left_by : EndedRun → Image
left_by (NotOpened left) = left
left_by (Opened session ended left) = left

-- A run that wasn't opened left files that recover to the maps of what the files spelled at its start. A session began
-- with those maps, and left files that recover to the maps after its commits up to some LSN.
abbrev pub IsRunOn : Image → EndedRun → Type 0
IsRunOn files (NotOpened left) = (log : Log) → Spells (entries files) log → RecoversSame log left
IsRunOn files (Opened session ended left) =
    IsSession session
    × ((log : Log) → Spells (entries files) log → plain_maps session.entries ≡ maps_of (survivors log))
    × HasLeft ended session left

-- the greatest LSN that is acknowledged, or 0
abbrev pub last_acked : List Ack → ℕ
last_acked [] = 0
last_acked (a ∷ acks) = max a.lsn (last_acked acks)

-- A run that left these files at a crash since its start, behind what was durable at its start.
abbrev pub ended_by_crash : Option BookView → Image → EndedRun
ended_by_crash None left = NotOpened left
ended_by_crash (Some b) left = Opened b.session (AtCrash (b.session.opening - 1)) left

-- a run that a crash ends now, with all that is acknowledged
abbrev pub ended_now : Option BookView → Image → EndedRun
ended_now None left = NotOpened left
ended_now (Some b) left = Opened b.session (AtCrash (last_acked b.acks)) left

-- a run that was closed, with all that was done
abbrev pub ended_at_close : BookView → Image → EndedRun
ended_at_close b left = Opened b.session AtClose left

-- The first run began on the first files, each other one on what the run before it left, and the last files are what the
-- last run left.
abbrev pub AreInOrder : Image → List EndedRun → Image → Type 0
AreInOrder first [] last = last ≡ first
AreInOrder first (r ∷ runs) last = IsRunOn first r × AreInOrder (left_by r) runs last

-- So many of the run's commits are kept, the first ones: of a session those up to some LSN, which isn't before the last
-- one that was durable, and at a close all.
abbrev pub AreKept : EndedRun → ℕ → Type 0
AreKept (NotOpened left) count = count ≡ 0
AreKept (Opened session ended left) count = (count ≤ length (commits_in session)) × StayBy ended session count

abbrev pub commits_of_run : EndedRun → List Changes
commits_of_run (NotOpened left) = []
commits_of_run (Opened session ended left) = commits_in session

-- the maps after the runs, of each of which so many commits are kept
abbrev pub maps_after : Maps → List EndedRun → List ℕ → Maps
maps_after m (r ∷ runs) (count ∷ counts) = maps_after (After m (commits_of_run r) count) runs counts
maps_after m runs counts = m
