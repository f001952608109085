-- What a run of calls leaves of a disk beside what it was made for, and what a crash may leave while it goes on. Each
-- word takes the members of the trait as one argument.
use Rattle.std.specs.Prelude.{◌≡◌, ◌<◌, ◌≤◌, ℕ, max, None, IsTrue, IsSome}
use Rattle.std.specs.FinMap.{empty, get}
use Rattle.frs_disk.specs.declared.disk.Disk.{Ghosts}
use Rattle.frs_disk.specs.Disk.{Image, SameElsewhere, AgreesElsewhere, Keeps, Passes}

-- ---- what there is

-- the file is there, as far as the disk tells
abbrev pub IsThere : {D : Type 0} → Ghosts D → D → ℕ → Type 0
IsThere g disk number = IsTrue (g.tells disk) → IsSome (get (g.reads disk) number)

-- the file isn't there, and no removal of it is pending, as far as the disk tells
abbrev pub CanBeMade : {D : Type 0} → Ghosts D → D → ℕ → Type 0
CanBeMade g disk number = (IsTrue (g.tells disk) → get (g.reads disk) number ≡ None)
    × (IsTrue (g.tells disk) → g.removing disk number → ⊥)

-- no removal is pending of a number above those of the files that are there
abbrev pub NoneRemovedAbove : {D : Type 0} → Ghosts D → D → Type 0
NoneRemovedAbove g disk = (n : ℕ) → g.removing disk n → (m : ℕ) × IsSome (get (g.reads disk) m) × (n ≤ m)

-- the number of each file whose removal is pending is below that of a file that is there
abbrev pub RemovesBelow : {D : Type 0} → Ghosts D → D → Type 0
RemovesBelow g disk = (n : ℕ) → g.removing disk n → (m : ℕ) × IsSome (get (g.reads disk) m) × (n < m)

-- ---- what a crash leaves

-- each crash now leaves this file as a read gives it
abbrev pub IsSynced : {D : Type 0} → Ghosts D → D → ℕ → Type 0
IsSynced g disk number = (c : Image) → g.may_leave disk c → get c number ≡ get (g.reads disk) number

-- a crash at this moment leaves no file
abbrev pub LeftNoFile : {D : Type 0} → Ghosts D → D → Type 0
LeftNoFile g disk = (c : Image) → g.may_leave disk c → c ≡ empty

-- Each crash since the start leaves files that have P.
abbrev pub Within : {D : Type 0} → Ghosts D → D → D → (Image → Type 0) → Type 0
Within g old new P = (c : Image) → g.left_since new (g.moment old) c → P c

-- nothing is pending: a crash leaves the files as they are read, and none was removed
pub record IsRestarted {D : Type 0} (g : Ghosts D) (disk : D) : Type 0 where
  pub only : (c : Image) → g.may_leave disk c → c ≡ g.reads disk
  pub none : (n : ℕ) → g.removing disk n → ⊥

-- ---- frames

-- It only reads: what is read stays, no removal is new, and a crash at no moment leaves what one before it couldn't.
pub record OnlyReads {D : Type 0} (g : Ghosts D) (old new : D) : Type 0 where
  pub told : g.tells new ≡ g.tells old
  pub seen : g.reads new ≡ g.reads old
  pub pending : (n : ℕ) → g.removing new n → g.removing old n
  pub crash : Keeps (g.may_leave old) (g.may_leave new)
  pub time : Passes g.moment g.left_since old new
  pub within : Within g old new (g.may_leave old)

-- It changes one file: all others are read as before, no removal is new, and each crash leaves the others as one
-- before it may have left them.
pub record ChangesOneFile {D : Type 0} (g : Ghosts D) (number : ℕ) (old new : D) : Type 0 where
  pub told : g.tells new ≡ g.tells old
  pub others : IsTrue (g.tells old) → SameElsewhere number (g.reads old) (g.reads new)
  pub pending : (n : ℕ) → g.removing new n → g.removing old n
  pub time : Passes g.moment g.left_since old new
  pub elsewhere : Within g old new (AgreesElsewhere number (g.may_leave old))

-- No read in it was asked for more room than this.
abbrev pub ReadsNoWider : {D : Type 0} → Ghosts D → ℕ → D → D → Type 0
ReadsNoWider g room old new = g.widest new ≤ max (g.widest old) room

-- It goes on from the disk's state: whether content is told stays, and time goes on.
pub record GoesOn {D : Type 0} (g : Ghosts D) (old new : D) : Type 0 where
  pub told : g.tells new ≡ g.tells old
  pub time : Passes g.moment g.left_since old new
