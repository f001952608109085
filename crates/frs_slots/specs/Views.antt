-- What contracts see of the two ends of a ring, and of a slip or a receipt.
use Rattle.std.specs.Prelude.{◌≡◌, ◌⊎◌, ℕ, ◌+◌, ◌-◌, ◌^◌, ◌<◌, ◌≤◌, max, min, List, [], ◌∷◌, ◌++◌, length}

-- the numbers by which a ring is told from every other: what uses them only asks whether two are equal
abbrev pub Ring : Type 0
Ring = List (List ℕ)

-- the end that draws
pub record DrawerView : Type 0 where
  pub ring : Ring
  pub first : ℕ  -- the LSN of the first record
  pub capacity : ℕ  -- how many records may be drawn and not yet taken
  pub drawn : List (List ℕ)  -- the bytes of each record, in the order of their LSNs
  pub known_taken : ℕ  -- so many of them are known to be taken
  pub loads : ℕ  -- how often it has looked how many were taken

-- the end that takes
pub record TakerView : Type 0 where
  pub ring : Ring
  pub first : ℕ  -- the LSN of the first record
  pub taken : List (List ℕ)  -- the bytes of each record, in the order of their LSNs
  pub sure : ℕ  -- so many of the first records were taken, or their receipts were given in order
  pub known : ℕ  -- so many of the first records can be taken
  pub misses : ℕ  -- how often the next record wasn't there

-- the slot of one record: what a slip is before it is filled, and a receipt afterwards
pub record SlotView : Type 0 where
  pub ring : Ring
  pub lsn : ℕ

-- the LSN of the next record to be drawn
abbrev pub next_drawn : DrawerView → ℕ
next_drawn d = d.first + length d.drawn

-- the LSN of the next record to be taken
abbrev pub next_taken : TakerView → ℕ
next_taken t = t.first + length t.taken

-- the records that may still be in the ring, by what the drawer knows
abbrev pub outstanding : DrawerView → ℕ
outstanding d = length d.drawn - d.known_taken

abbrev pub HasRoom : DrawerView → Type 0
HasRoom d = outstanding d < d.capacity

-- the two ends of one ring
abbrev pub AreOfOneRing : DrawerView → TakerView → Type 0
AreOfOneRing d t = (d.ring ≡ t.ring) × (d.first ≡ t.first)

-- every drawn record was taken
abbrev pub IsTakenUp : DrawerView → TakerView → Type 0
IsTakenUp d t = next_drawn d ≡ next_taken t

-- a count after one more, which stands still at its type's end
abbrev pub IsOneMore : ℕ → ℕ → Type 0
IsOneMore before now = now ≡ min (before + 1) (2 ^ 64 - 1)

-- a drawer that has looked how many were taken: it may know more of them, and is else as before
pub record HasLooked (before now : DrawerView) : Type 0 where
  pub same : now ≡ record before { known_taken = now.known_taken; loads = now.loads }
  pub known_taken : before.known_taken ≤ now.known_taken
  pub loads : IsOneMore before.loads now.loads

-- a drawer with one more record, which may have looked
pub record DrewRecord (before : DrawerView) (bytes : List ℕ) (now : DrawerView) : Type 0 where
  pub ring : now.ring ≡ before.ring
  pub first : now.first ≡ before.first
  pub capacity : now.capacity ≡ before.capacity
  pub drawn : now.drawn ≡ before.drawn ++ bytes ∷ []
  pub known_taken : before.known_taken ≤ now.known_taken
  pub loads : (now.loads ≡ before.loads) ⊎ IsOneMore before.loads now.loads

-- a taker that has taken one more record
pub record TookRecord (before : TakerView) (bytes : List ℕ) (now : TakerView) : Type 0 where
  pub ring : now.ring ≡ before.ring
  pub first : now.first ≡ before.first
  pub taken : now.taken ≡ before.taken ++ bytes ∷ []
  pub sure : now.sure ≡ max before.sure (length now.taken)
  pub known : (before.known ≤ now.known) × (length now.taken ≤ now.known)
  pub misses : now.misses ≡ before.misses

-- a taker whose next record wasn't there, and which is else as before
pub record MissedRecord (before now : TakerView) : Type 0 where
  pub same : now ≡ record before { misses = now.misses }
  pub misses : IsOneMore before.misses now.misses
