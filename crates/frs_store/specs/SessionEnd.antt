-- What is known of a session that has ended: on what it began, its history and what it drew, what is acknowledged, and
-- what a crash leaves; and what an image recovers to.
use Rattle.std.specs.Prelude.{◌≡◌, ℕ, ◌+◌, ◌≤◌, ◌==◌, List, [], ◌∷◌, ◌++◌, filter, length, take}
use Rattle.std.specs.List.{AllByRecursion}
use Rattle.std.specs.FinMap.{entries}
use Rattle.frs_types.specs.declared.record.Action.TheVariants.{Mark}
use Rattle.frs_types.specs.declared.record.Record.{Record}
use Rattle.frs_types.specs.Maps.{Maps, After}
use Rattle.frs_types.specs.Records.{Log, from_lowest, next_lsn}
use Rattle.frs_types.specs.Survivors.{survivors, maps_of}
use Rattle.frs_types.specs.Lawful.{LogState, settled_state, state_after, plain_maps, lowest, Lawful}
use Rattle.frs_disk.specs.declared.disk.Disk.{Ghosts}
use Rattle.frs_disk.specs.Disk.{Image}
use Rattle.frs_disk.specs.Frames.{Within}
use Rattle.frs_segment.specs.Segments.{FileList, Spells}
use Rattle.frs_recovery.specs.Sound.{IsSound}
use Rattle.frs_history.specs.declared.event.Ack.{Ack}
use Rattle.frs_book.specs.Drawn.{SessionHistory, drawn_records, commits_in, commits_up_to, acks_owed}
use Rattle.frs_book.specs.Agreement.{IsSession}

-- ---- what an image recovers to

-- The image is sound, the newest LSN of the log that it spells is n, and what survives of this are the maps m.
pub record RecoversTo (image : FileList) (n : ℕ) (m : Maps) : Type 0 where
  pub sound : IsSound image
  pub log : Log
  pub spells : Spells image log
  pub newest : next_lsn log ≡ n + 1
  pub maps : maps_of (survivors log) ≡ m

-- the maps after the commits up to the image's newest LSN, which isn't before the LSN low
abbrev pub RecoversFront : ℕ → SessionHistory → Image → Type 0
RecoversFront low h c =
    (n : ℕ) × (low ≤ n) × RecoversTo (entries c) n (After (plain_maps h.entries) (commits_in h) (commits_up_to h n))

-- the maps after all commits
abbrev pub RecoversAll : SessionHistory → Image → Type 0
RecoversAll h c =
    (n : ℕ) × RecoversTo (entries c) n (After (plain_maps h.entries) (commits_in h) (length (commits_in h)))

-- ---- on what a session begins

-- the state that the records reach from LSN 1 on
abbrev pub state_of : List Record → LogState
state_of rs = state_after (settled_state [] 1) rs

-- the mark with which a session goes on behind the records; it counts the transactions that a crash left active
abbrev pub opening_mark : List Record → Record
opening_mark before = record { tx = 0; lowest = lowest (state_of before); named = 0; action = Mark }

-- The session goes on behind these lawful records of the store, with their entries.
pub record BeginsOn (before : List Record) (h : SessionHistory) : Type 0 where
  pub lawful : Lawful [] 1 before
  pub entries : h.entries ≡ (state_of before).entries
  pub opening : h.opening ≡ length before + 1

-- the records of the store, the opening mark, and those that the session drew
abbrev pub records_with : List Record → SessionHistory → List Record
records_with before h = before ++ opening_mark before ∷ drawn_records h

-- ---- acknowledgements

abbrev pub acks_of : ℕ → List Ack → List Ack
acks_of c acks = filter (λ (a : Ack). a.client == c) acks

-- of each client all acknowledgements that are owed were made, in their order, but for at most the last
abbrev pub MissesAtMostLast : List Ack → List Ack → Type 0
MissesAtMostLast owed acks =
    (c : ℕ) → (rest : List Ack) × (acks_of c owed ≡ acks_of c acks ++ rest) × (length rest ≤ 1)

-- ---- the end of a session

-- the store's records before the session, the session, the acknowledgements, and the last LSN that is durable
pub record SessionEnd : Type 0 where
  pub before : List Record
  pub session : SessionHistory
  pub acks : List Ack
  pub synced : ℕ

-- the image spells the records up to the LSN n, from the lowest on that the newest of them names, for some n from low on
abbrev pub SpellsFront : ℕ → List Record → Image → Type 0
SpellsFront low rs c = (n : ℕ) × (low ≤ n) × (n ≤ length rs) × Spells (entries c) (from_lowest 1 (take n rs))

-- Each crash since the start leaves a front of the records, all of the store's before the session among them; a crash
-- now leaves one with all that is durable, and so with all that is acknowledged.
pub record IsSessionEnd {D : Type 0} (g : Ghosts D) (old new : D) (e : SessionEnd) : Type 0 where
  pub begins : BeginsOn e.before e.session
  pub legal : IsSession e.session
  pub owed : MissesAtMostLast (acks_owed e.session) e.acks
  pub acked : AllByRecursion (λ (a : Ack). a.lsn ≤ e.synced) e.acks
  pub least : length e.before ≤ e.synced
  pub crash : Within g old new (SpellsFront (length e.before) (records_with e.before e.session))
  pub now : (c : Image) → g.may_leave new c → SpellsFront e.synced (records_with e.before e.session) c
