-- Keepers and holds as contracts see them. Clients count from 1.
use Rattle.std.specs.Prelude.{◌≡◌, ◌≢◌, ◌≤◌, ℕ, zero, suc, ◌-◌, List, [], ◌∷◌, ◌++◌, Option, Some, slice_get, slice_set}
use Rattle.atomic_table.specs.Seated.{TableId}

-- a keeper: its name, and the row of each client from 1 on
pub record KeeperView : Type 0 where
  pub name : TableId
  pub rows : List (List ℕ)

-- a hold: the name of its keeper, its client, and the client's row
pub record HoldView : Type 0 where
  pub name : TableId
  pub client : ℕ
  pub row : List ℕ

abbrev pub keeper_view : TableId → List (List ℕ) → KeeperView
keeper_view name rows = record { name = name; rows = rows }

abbrev pub hold_view : TableId → ℕ → List ℕ → HoldView
hold_view name client row = record { name = name; client = client; row = row }

-- the keeper's row of a client
abbrev pub client_row : KeeperView → ℕ → Option (List ℕ)
client_row k client = slice_get k.rows (client - 1)

-- the keeper with another row of one client
abbrev pub with_client_row : KeeperView → ℕ → List ℕ → KeeperView
with_client_row k client row = keeper_view k.name (slice_set k.rows (client - 1) row)

-- the hold with another row
abbrev pub hold_with_row : HoldView → List ℕ → HoldView
hold_with_row h row = hold_view h.name h.client row

-- a hold for each of the first n clients, in rising order, with the same row each
abbrev pub first_holds : TableId → List ℕ → ℕ → List HoldView
first_holds name row zero = []
first_holds name row (suc n) = first_holds name row n ++ hold_view name (suc n) row ∷ []

-- the keeper's row of the hold's client is the hold's row
pub record HasRowOf (k : KeeperView) (h : HoldView) : Type 0 where
  pub client : 1 ≤ h.client
  pub row : client_row k h.client ≡ Some h.row

-- every other client's row is as it was
abbrev pub OtherRowsStay : ℕ → KeeperView → KeeperView → Type 0
OtherRowsStay client k l = (d : ℕ) → 1 ≤ d → d ≢ client → client_row l d ≡ client_row k d

-- both have this row in place of the one that both had, and every other client's row is as it was
pub record HaveRow (k : KeeperView) (h : HoldView) (row : List ℕ) (l : KeeperView) (i : HoldView) : Type 0 where
  pub told : HasRowOf k h
  pub keeper : l ≡ with_client_row k h.client row
  pub hold : i ≡ hold_with_row h row
  pub others : OtherRowsStay h.client k l
