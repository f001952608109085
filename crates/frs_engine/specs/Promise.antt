-- The promise of a run of one script on any store: what is told of it, and what a crash leaves.
use Rattle.std.specs.Prelude.{◌≡◌, ℕ, ◌-◌, ◌≤◌, Bool, false, not, ◌&&◌, List, [], ◌∷◌, length, Option, Some, None, IsTrue, is_none}
use Rattle.std.specs.List.{AllByRecursion}
use Rattle.std.specs.FinMap.{entries}
use Rattle.frs_types.specs.Maps.{After}
use Rattle.frs_types.specs.Lawful.{plain_maps}
use Rattle.frs_types.specs.Records.{Log, next_lsn}
use Rattle.frs_types.specs.Survivors.{survivors, maps_of}
use Rattle.frs_disk.specs.declared.disk.Disk.{Ghosts}
use Rattle.frs_disk.specs.Disk.{Image}
use Rattle.frs_disk.specs.Frames.{Within, RemovesBelow}
use Rattle.frs_segment.specs.Segments.{Spells}
use Rattle.frs_recovery.specs.Sound.{IsReady}
use Rattle.frs_history.specs.declared.command.Line.{Line}
use Rattle.frs_history.specs.declared.event.Ack.{Ack}
use Rattle.frs_history.specs.declared.event.Event.{Event}
use Rattle.frs_history.specs.Machine.{Scripts, State, client, next_line}
use Rattle.frs_history.specs.Histories.{is_active, run}
use Rattle.frs_book.specs.Drawn.{SessionHistory, commits_in, commits_up_to, acks_owed}
use Rattle.frs_book.specs.Agreement.{IsSession, begun}
use Rattle.frs_book.specs.Books.{BookView}
use Rattle.frs_store.specs.declared.start.TheConstants.{CLIENT}
use Rattle.frs_store.specs.Session.{MissesAtMostOne}
use Rattle.frs_store.specs.SessionEnd.{RecoversTo, RecoversFront, RecoversAll}
use Rattle.frs_store.specs.Start.{RecoversSame}

-- ---- what is told of a run

abbrev pub AreOwn : List Event → Type 0
AreOwn events = AllByRecursion (λ (e : Event). e.client ≡ CLIENT) events

-- The events are a legal history of the script, and all of them are the client's. What is acknowledged is owed, each
-- once, in order and with its LSN, and all of it but at most the last.
pub record Tells (script : List Line) (h : SessionHistory) (acks : List Ack) : Type 0 where
  pub scripts : h.scripts ≡ script ∷ []
  pub last : h.last ≡ 0
  pub legal : IsSession h
  pub own : AreOwn h.events
  pub owed : MissesAtMostOne (acks_owed h) acks

-- the client's script is at its end, and no transaction of it is active
abbrev pub is_whole_in : Scripts → Option State → Bool
is_whole_in scripts None = false
is_whole_in scripts (Some s) = is_none (next_line scripts s CLIENT) && not (is_active (client s CLIENT).tx)

-- every command of the script was answered
abbrev pub is_whole : SessionHistory → Bool
is_whole h = is_whole_in h.scripts (run h.scripts (begun h) h.events)

-- ---- what a crash leaves

-- The image recovers to the maps after the commits up to its newest LSN, and this isn't before an LSN that is
-- acknowledged.
abbrev pub RecoversAcked : SessionHistory → List Ack → Image → Type 0
RecoversAcked h acks c =
    (n : ℕ) × AllByRecursion (λ (a : Ack). a.lsn ≤ n) acks
    × RecoversTo (entries c) n (After (plain_maps h.entries) (commits_in h) (commits_up_to h n))

module _ {D : Type 0} (g : Ghosts D) (old new : D) where
  -- Of a session that was opened on a disk whose files spell this log: it began with the maps of the log's survivors,
  -- behind the log. Each crash since the start recovers to the maps after the commits up to some LSN, which isn't before
  -- the log's last one; and a crash now to those with all that is acknowledged.
  pub record Survives (log : Log) (h : SessionHistory) (acks : List Ack) : Type 0 where
    pub maps : plain_maps h.entries ≡ maps_of (survivors log)
    pub opening : h.opening ≡ next_lsn log
    pub crash : Within g old new (RecoversFront (next_lsn log - 1) h)
    pub durable : (c : Image) → g.may_leave new c → RecoversAcked h acks c

  -- Each crash since the start recovers to the maps of this log, where no session was opened, or else as above.
  abbrev pub SurvivesIf : Log → Option BookView → Type 0
  SurvivesIf log None = Within g old new (RecoversSame log)
  SurvivesIf log (Some b) = Survives log b.session b.acks

  -- The disk can be run on again: a file whose removal is pending stands below one that is there, and where the disk was
  -- ready at the start it is ready again.
  pub record LeavesReady : Type 0 where
    pub removed : IsTrue (g.tells new) → RemovesBelow g new
    pub ready : IsTrue (g.tells old) → IsReady g old → IsReady g new

  -- All was done: every command was answered, all that is owed is acknowledged, the closing mark stands behind all
  -- events, a crash now has all commits, and the disk can be run on again.
  pub record EndsWhole (h : SessionHistory) (acks : List Ack) : Type 0 where
    pub whole : IsTrue (is_whole h)
    pub acked : acks ≡ acks_owed h
    pub closing : h.closing ≡ Some (length h.events)
    pub all : IsTrue (g.tells old) → IsReady g old → (c : Image) → g.may_leave new c → RecoversAll h c
    pub again : LeavesReady

  abbrev pub TellsIf : List Line → Option BookView → Type 0
  TellsIf script None = Unit {0}
  TellsIf script (Some b) = Tells script b.session b.acks

  abbrev pub EndsWholeIf : Option BookView → Type 0
  EndsWholeIf None = ⊥
  EndsWholeIf (Some b) = EndsWhole b.session b.acks

  -- What a run of the script did on this disk, if a session was opened for it. Of a crash something is said where the
  -- disk tells what it holds and was ready at the start.
  pub record IsRun (script : List Line) (book : Option BookView) : Type 0 where
    pub tells : TellsIf script book
    pub survives : IsTrue (g.tells old) → IsReady g old
        → (log : Log) → Spells (entries (g.reads old)) log → SurvivesIf log book
