-- Rows that say numbers of a value which stands behind a lock beside their keeper. What they say of it is up to the
-- value's own crate: a relation of the value, a client and a row.
use Rattle.std.specs.Prelude.{◌≡◌, ◌≢◌, ◌≤◌, ℕ, List, Some}
use Rattle.frs_rows.specs.Rows.{KeeperView, client_row}

-- the keeper's row of each client fits the value
abbrev pub RowsFit : {V : Type 0} → (V → ℕ → List ℕ → Type 0) → V → KeeperView → Type 0
RowsFit Fits v k = (client : ℕ) (row : List ℕ) → 1 ≤ client → client_row k client ≡ Some row → Fits v client row

-- what fitted the value v, for any client but one, fits w
abbrev pub OthersFit : {V : Type 0} → (V → ℕ → List ℕ → Type 0) → ℕ → V → V → Type 0
OthersFit Fits client v w = (d : ℕ) (row : List ℕ) → 1 ≤ d → d ≢ client → Fits v d row → Fits w d row
