-- Runs of a store, one after another, and how many of its commits stay of each.
use Rattle.std.specs.Prelude.{◌≡◌, ℕ, ◌≤◌, List, [], ◌∷◌, length}
use Rattle.std.specs.FinMap.{entries}
use Rattle.frs_types.specs.declared.record.Record.{Record}
use Rattle.frs_types.specs.Maps.{Maps, After}
use Rattle.frs_types.specs.Records.{from_lowest}
use Rattle.frs_disk.specs.Disk.{Image}
use Rattle.frs_segment.specs.Segments.{Spells}
use Rattle.frs_book.specs.Drawn.{SessionHistory, commits_in, commits_up_to}
use Rattle.frs_book.specs.Agreement.{IsSession}
use Rattle.frs_store.specs.SessionEnd.{BeginsOn, RecoversFront, RecoversAll}

-- A run ends in a crash, when all up to an LSN was durable, or at a clean close.
pub data RunEnd : Type 0 where
  AtCrash : (durable : ℕ) → RunEnd
  AtClose : RunEnd

-- the session of a run, how it ended, and the files that it left
pub record Run : Type 0 where
  pub session : SessionHistory
  pub ended : RunEnd
  pub left : Image

abbrev pub HasLeft : RunEnd → SessionHistory → Image → Type 0
HasLeft (AtCrash durable) h left = RecoversFront durable h left
HasLeft AtClose h left = RecoversAll h left

-- The run's session goes on behind the records that the files spelled at its start.
pub record IsRunOn (files : Image) (r : Run) : Type 0 where
  pub before : List Record
  pub spelled : Spells (entries files) (from_lowest 1 before)
  pub begins : BeginsOn before r.session
  pub legal : IsSession r.session
  pub left : HasLeft r.ended r.session r.left

-- The first run begins on the first files, each other one on what the run before it left, and the last files are what
-- the last run left.
abbrev pub AreInOrder : Image → List Run → Image → Type 0
AreInOrder first [] last = last ≡ first
AreInOrder first (r ∷ runs) last = IsRunOn first r × AreInOrder r.left runs last

-- ---- the commits that stay

-- those up to some LSN, which isn't before the last one that was durable; at a clean close all
abbrev pub StayBy : RunEnd → SessionHistory → ℕ → Type 0
StayBy (AtCrash durable) h count = (n : ℕ) × (durable ≤ n) × (count ≡ commits_up_to h n)
StayBy AtClose h count = count ≡ length (commits_in h)

-- so many of the run's commits stay
pub record Stay (r : Run) (count : ℕ) : Type 0 where
  pub most : count ≤ length (commits_in r.session)
  pub which : StayBy r.ended r.session count

-- the maps after the runs, of each of which so many commits stay, the first ones
abbrev pub maps_after : Maps → List Run → List ℕ → Maps
maps_after m (r ∷ runs) (count ∷ counts) = maps_after (After m (commits_in r.session) count) runs counts
maps_after m runs counts = m
