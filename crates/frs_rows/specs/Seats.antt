-- What the seats of a table of rows know, and the rule that ties them together.
use Rattle.std.specs.Prelude.{◌≡◌, ℕ, suc, List, [], replicate, slice_set, slice_index_or, Bool, true, false}
use mathlib.Core.Option.{some}
use lib.ListN.{get_elem?}
use Rattle.frs_rows.specs.declared.steps.SeatView.{SeatView}

-- a row of a keeper, and whether it is lent to its client's hold
abbrev pub Lending : Type 0
Lending = Bool × List ℕ

abbrev pub row_in : Lending → List ℕ
row_in e = e.1

abbrev pub lent_row : List ℕ → Lending
lent_row r = (true, r)

abbrev pub home_row : List ℕ → Lending
home_row r = (false, r)

abbrev pub row_at_place : List Lending → ℕ → List ℕ
row_at_place es c = row_in (slice_index_or es c (home_row []))

-- ---- seats

-- the keeper without a note. It stands at a place: the one that it lends next, or of which it changes the row
abbrev pub keeper_seat : List Lending → ℕ → SeatView
keeper_seat es c = record { keeps = true; rows = es; claims = false; place = c; row = [] }

-- the keeper with a note of the row that a hold brought back to a place
abbrev pub keeper_with_note : List Lending → ℕ → List ℕ → SeatView
keeper_with_note es c r = record { keeps = true; rows = es; claims = true; place = c; row = r }

-- the hold of a place
abbrev pub hold_seat : ℕ → List ℕ → SeatView
hold_seat c r = record { keeps = false; rows = []; claims = true; place = c; row = r }

-- a seat that knows nothing; also one whose view was spent
abbrev pub empty_seat : SeatView
empty_seat = record { keeps = false; rows = []; claims = false; place = 0; row = [] }

abbrev pub IsKeeperSeat : SeatView → Type 0
IsKeeperSeat v = v ≡ keeper_seat v.rows v.place

abbrev pub IsHoldSeat : SeatView → Type 0
IsHoldSeat v = v ≡ hold_seat v.place v.row

-- a keeper that has lent nothing: each row has this many zeros
abbrev pub first_seat : ℕ → ℕ → SeatView
first_seat clients width = keeper_seat (replicate clients (home_row (replicate width 0))) 0

-- ---- steps

-- Lend: the row at the keeper's place goes out, and the keeper steps on
abbrev pub keeper_after_lend : SeatView → SeatView
keeper_after_lend v = record {
  keeps = v.keeps;
  rows = slice_set v.rows v.place (lent_row (row_at_place v.rows v.place));
  claims = v.claims;
  place = suc v.place;
  row = v.row;
}

abbrev pub hold_after_lend : SeatView → SeatView
hold_after_lend v = hold_seat v.place (row_at_place v.rows v.place)

-- Back: the keeper notes the row that a hold brings, and the row of that place is at home again
abbrev pub keeper_after_back : SeatView → SeatView → SeatView
keeper_after_back v w = record {
  keeps = v.keeps;
  rows = slice_set v.rows w.place (home_row (row_at_place v.rows w.place));
  claims = true;
  place = w.place;
  row = w.row;
}

-- Look: the row in the note is the keeper's own of that place, which is at home, and the note ends
abbrev pub IsLook : SeatView → SeatView → Type 0
IsLook v w =
    (w ≡ keeper_seat v.rows v.place) × (v.claims ≡ true → get_elem? v.rows v.place ≡ some (home_row v.row))

-- Change: the keeper has no note, the row at its place is at home, and it becomes x
abbrev pub IsChangeTo : List ℕ → SeatView → SeatView → Type 0
IsChangeTo x v w = (v.claims ≡ false) × ((r : List ℕ) × (get_elem? v.rows v.place ≡ some (home_row r)))
    × (w ≡ keeper_seat (slice_set v.rows v.place (home_row x)) v.place)

-- ---- the rule

-- What holds of one view, where the seat `by` has it: the keeper is the one seat that keeps, it has all rows, and a
-- row in its note is at home; a hold is the one that `who` has for its place, and its row is lent. A view that neither
-- keeps nor claims is bound by nothing.
abbrev pub AgreesWith : ℕ → List Lending → (ℕ → ℕ) → ℕ → SeatView → Type 0
AgreesWith seat es who by v =
    (v.keeps ≡ true → (by ≡ seat) × (v.rows ≡ es)
    × (v.claims ≡ true → get_elem? es v.place ≡ some (home_row v.row)))
    × (v.keeps ≡ false → v.claims ≡ true → (who v.place ≡ by) × (get_elem? es v.place ≡ some (lent_row v.row)))

-- one seat at most keeps, no two holds have one place, and the row of each hold is the keeper's of its place
abbrev pub SeatsAgree : List SeatView → Type 0
SeatsAgree views = (seat : ℕ) × (es : List Lending) × (who : ℕ → ℕ)
    × ((by : ℕ) (v : SeatView) → get_elem? views by ≡ some v → AgreesWith seat es who by v)
