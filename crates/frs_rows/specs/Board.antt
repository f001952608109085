-- The example of the tests: a number of each client behind a lock.
use Rattle.std.specs.Prelude.{◌≡◌, ◌-◌, ℕ, List, [], ◌∷◌, Some, slice_get}

-- the client's row is its number alone
abbrev pub HasNumber : List ℕ → ℕ → List ℕ → Type 0
HasNumber numbers client row = (n : ℕ) × (row ≡ n ∷ []) × (slice_get numbers (client - 1) ≡ Some n)
