-- Rows that say numbers of a value: how a row is known, and how all of them go on to fit when the value changes.
use Rattle.std.proofs.Common.{◌≡◌, ◌≤◌, ◌<◌, ◌-◌, ℕ, zero, suc, List, replicate, Some, sym, ap, ◌∙◌, subst, ⊎_elim, arith}
use Rattle.std.specs.Prelude.{slice_get}
use Rattle.frs_rows.specs.Rows.{KeeperView, HoldView, with_client_row, HasRowOf}
use Rattle.frs_rows.specs.RowsFit.{RowsFit, OthersFit}
use Rattle.frs_rows.proofs.KeeperRows.{at_place}

module _ {V : Type 0} (Fits : V → ℕ → List ℕ → Type 0) where
  -- a hold's row fits the value, once its keeper has told that the row is its own
  pub hold_fits : (v : V) (k : KeeperView) (h : HoldView) → RowsFit Fits v k → HasRowOf k h → Fits v h.client h.row
  hold_fits v k h fit has = fit h.client h.row has.client has.row

  -- the value has become another, which the rows of the other clients fit as well as the one client's new row
  pub changed_row_fits : (v w : V) (k l : KeeperView) (client : ℕ) (row : List ℕ) → 1 ≤ client → RowsFit Fits v k
      → OthersFit Fits client v w → Fits w client row → l ≡ with_client_row k client row → RowsFit Fits w l
  changed_row_fits v w k l client row one fit others own is =
      subst (RowsFit Fits w) (sym is) (λ d r least at. ⊎_elim
      (λ t. subst (λ (x : ℕ × List ℕ). Fits w x.0 x.1) (λ i. (same d least t.0 i, t.1 i)) own)
      (λ t. others d r least (λ e. t.0 (ap (λ (n : ℕ). n - 1) e)) (fit d r least t.1))
      (at_place k.rows (client - 1) (d - 1) row r at))
    where
      same : (d : ℕ) → 1 ≤ d → d - 1 ≡ client - 1 → client ≡ d
      same d least e = omega arith

  -- the value has become another, and no row changes
  pub same_rows_fit : (v w : V) (k l : KeeperView) → RowsFit Fits v k
      → ((d : ℕ) (row : List ℕ) → 1 ≤ d → Fits v d row → Fits w d row) → l ≡ k → RowsFit Fits w l
  same_rows_fit v w k l fit keeps is = subst (RowsFit Fits w) (sym is) (λ d r least at. keeps d r least (fit d r least at))

  -- at first all clients have the same row
  pub first_rows_fit : (v : V) (k : KeeperView) (clients : ℕ) (row : List ℕ) → k.rows ≡ replicate clients row
      → ((d : ℕ) → 1 ≤ d → d ≤ clients → Fits v d row) → RowsFit Fits v k
  first_rows_fit v k clients row is all d r least at =
      let t = in_replicate clients (d - 1) r (ap (λ (l : List (List ℕ)). slice_get l (d - 1)) (sym is) ∙ at) in
      subst (Fits v d) (sym t.1) (all d least (within d least t.0))
    where
      within : (d : ℕ) → 1 ≤ d → d - 1 < clients → d ≤ clients
      within d least l = omega arith

      in_replicate : (n i : ℕ) (y : List ℕ) → slice_get (replicate n row) i ≡ Some y → (i < n) × (y ≡ row)
      in_replicate zero i y e = absurd (cc)
      in_replicate (suc n) zero y e = (omega arith, cc)
      in_replicate (suc n) (suc i) y e = let t = in_replicate n i y e in (omega (arith, t.0), t.1)
