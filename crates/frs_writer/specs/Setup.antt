-- What the opening of a writer leaves of the files: half-made ones are removed, and a new segment is made.
use Rattle.std.specs.Prelude.{◌≡◌, ◌≢◌, ◌⊎◌, ℕ, List, Some, None, All, Contains}
use Rattle.std.specs.FinMap.{get}
use Rattle.frs_disk.specs.Disk.{Image, SameElsewhere}
use Rattle.frs_segment.specs.Front.{IsInTheMaking, empty_segment}

-- the old files, but that some of these are gone
abbrev pub MissesSome : List ℕ → Image → Image → Type 0
MissesSome numbers old new = (q : ℕ) → (get new q ≡ get old q) ⊎ (Contains numbers q × (get new q ≡ None))

-- of all files but the one of this number it is so
abbrev pub MissesSomeBeside : ℕ → List ℕ → Image → Image → Type 0
MissesSomeBeside number numbers old new =
    (q : ℕ) → q ≢ number → (get new q ≡ get old q) ⊎ (Contains numbers q × (get new q ≡ None))

abbrev pub IsMissingSome : List ℕ → (Image → Type 0) → Image → Type 0
IsMissingSome numbers outcomes c = (d : Image) × outcomes d × MissesSome numbers d c

-- the old files, but that some of these are gone, and that this segment is being made
pub record IsOpening (numbers : List ℕ) (number first : ℕ) (outcomes : Image → Type 0) (c : Image) : Type 0 where
  pub base : Image
  pub was : outcomes base
  pub thinned : Image
  pub by : MissesSome numbers base thinned
  pub elsewhere : SameElsewhere number thinned c
  pub making : IsInTheMaking number first (get c number)

-- these files are gone, the segment is made, and all other files are as they were
pub record OpensNext (half : List ℕ) (number first : ℕ) (old new : Image) : Type 0 where
  pub gone : All (λ n. get new n ≡ None) half
  pub made : get new number ≡ Some (empty_segment number first)
  pub others : (q : ℕ) → q ≢ number → (Contains half q → ⊥) → get new q ≡ get old q
