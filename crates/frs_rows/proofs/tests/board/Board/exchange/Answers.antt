use Rattle.std.proofs.Common.{◌≡◌, ◌<◌, ◌-◌, ℕ, suc, List, [], ◌∷◌, Some, get_or, set, refl, sym, ap, ◌∙◌, subst, arith}
use Rattle.std.specs.Prelude.{slice_get, slice_set}
use Rattle.std.proofs.lemmas.List.{get_or-set_same, length-set}
use Rattle.std.proofs.lemmas.Option.{slice_get_within, slice_get-get_or, get_or_from_slice_get}
use Rattle.atomic_table.specs.Seated.{TableId}
use Rattle.frs_rows.specs.Rows.{KeeperView, HoldView, hold_view, with_client_row, HasRowOf}
use Rattle.frs_rows.specs.RowsFit.{RowsFit, OthersFit}
use Rattle.frs_rows.specs.Board.{HasNumber}
use Rattle.frs_rows.proofs.KeeperRows.{elsewhere}
use Rattle.frs_rows.proofs.RowsFit.{hold_fits, changed_row_fits}
use Rattle.frs_rows.proofs.tests.board.Board.exchange.Goals as goal

-- the number that the visitor left stands in its place
number_there : (numbers : List ℕ) (k : KeeperView) (name : TableId) (place n : ℕ) (h : HoldView) → h ≡ hold_view name (suc place) (n ∷ [])
    → RowsFit HasNumber numbers k → HasRowOf k h → slice_get numbers place ≡ Some n
number_there numbers k name place n h is fit told =
    let f : HasNumber numbers (suc place) (n ∷ []) =
    subst (λ (x : HoldView). HasNumber numbers x.client x.row) is (hold_fits HasNumber numbers k h fit told) in
    let at : suc place - 1 ≡ place = omega arith in
    let same : n ≡ f.0 = ap (λ (l : List ℕ). get_or l 0 0) f.1 in
    ap (slice_get numbers) (sym at) ∙ f.2 ∙ ap Some (sym same)

-- what it leaves is its own number, and no other's
own_number : (numbers : List ℕ) (place n m : ℕ) → slice_get numbers place ≡ Some n → HasNumber (set numbers place m) (suc place) (m ∷ [])
own_number numbers place n m at =
    let e : suc place - 1 ≡ place = omega arith in
    let within = slice_get_within numbers place n at in
    let here : slice_get (set numbers place m) place ≡ Some m =
    slice_get-get_or (set numbers place m) place 0 (subst (λ (l : ℕ). place < l) (sym (length-set numbers place m)) within)
    ∙ ap Some (get_or-set_same numbers place m 0 within) in
    (m, refl, ap (slice_get (set numbers place m)) e ∙ here)

other_numbers : (numbers : List ℕ) (place m : ℕ) → OthersFit HasNumber (suc place) numbers (set numbers place m)
other_numbers numbers place m d r least ne f = (f.0, f.1, elsewhere numbers place (d - 1) m (λ e. ne (omega arith)) ∙ f.2)

pub invariant_of-self : goal.invariant_of-self
invariant_of-self g c =
    let numbers : List ℕ = c.self.inside.numbers.items in
    let keeper : KeeperView = c.self.inside.keeper in
    let v = c.visitor.inside in
    let at = number_there numbers keeper g.N.Name.name v.place v.number v.hold c.visitor.invariant c.self.invariant.1 c.same.ensures.told in
    let hold_is = c.same.ensures.hold ∙ c.visitor.invariant in
    let is : c.set.new.self ≡ with_client_row keeper (suc v.place) (c.args.number ∷ []) =
    c.set.ensures.keeper ∙ (λ i. with_client_row (c.same.ensures.keeper i) (hold_is i).client (slice_set (hold_is i).row 0 c.args.number)) in (
      ap (λ k. k.name) is ∙ c.self.invariant.0,
      changed_row_fits HasNumber numbers (set numbers v.place c.args.number) keeper c.set.new.self (suc v.place) (c.args.number ∷ []) (omega arith)
          c.self.invariant.1 (other_numbers numbers v.place c.args.number) (own_number numbers v.place v.number c.args.number at) is,
    )

pub returns-clause-found : goal.returns-clause-found
returns-clause-found g c =
    let numbers : List ℕ = c.self.inside.numbers.items in
    let v = c.visitor.inside in
    let at = number_there numbers c.self.inside.keeper g.N.Name.name v.place v.number v.hold c.visitor.invariant c.self.invariant.1 c.same.ensures.told in
    (λ i. slice_get (sym c.self.view_is i) (sym c.visitor.view_is i).0) ∙ at
    ∙ ap Some (sym (c.index-found.ensures ∙ get_or_from_slice_get numbers v.place v.number _ at))

pub returns-clause-own : goal.returns-clause-own
returns-clause-own g c =
    let numbers : List ℕ = c.self.inside.numbers.items in
    let v = c.visitor.inside in
    let at = number_there numbers c.self.inside.keeper g.N.Name.name v.place v.number v.hold c.visitor.invariant c.self.invariant.1 c.same.ensures.told in
    c.index-found.ensures ∙ get_or_from_slice_get numbers v.place v.number _ at ∙ ap (λ (x : ℕ × ℕ). x.1) c.visitor.view_is
