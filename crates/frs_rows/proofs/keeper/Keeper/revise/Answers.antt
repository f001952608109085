use Rattle.std.proofs.Common.{rules, ◌≡◌, ℕ, List, map, set, sym, ◌∙◌, subst}
use mathlib.Core.Option.{some}
use lib.ListN.{get_elem?}
use Rattle.frs_rows.specs.Seats.{Lending, row_in, lent_row}
use Rattle.frs_rows.specs.Rows.{keeper_view, with_client_row, HasRowOf, OtherRowsStay}
use Rattle.frs_rows.specs.Edits.{row_after}
use Rattle.frs_rows.proofs.SeatsAgree.{blanks}
use Rattle.frs_rows.proofs.KeeperRows.{has_row_of, row_changes, others_stay, still_lent, all_lent}
use Rattle.frs_rows.proofs.keeper.Keeper.revise.Goals as goal

pub split_seat-blank-requires : goal.split_seat-blank-requires
split_seat-blank-requires c = (c.self.invariant.0, c.self.invariant.1, blanks _ _)

pub invariant_of-self : goal.invariant_of-self
invariant_of-self c =
    let i = c.self.invariant in
    let t = c.revised_hold.ensures in
    let es : List Lending = c.self.inside.seat.me.0.rows in
    let p : ℕ = c.hold.inside.seat.me.0.place in
    let x : List ℕ = row_after c.args.edit c.hold.inside.seat.me.0.row in
    let rows : c.revised_hold.new.keeper.me.0.rows ≡ set es p (lent_row x) =
    t.keeper.1 ∙ (λ k. set (c.split_seat-blank.ensures.2 k).0.rows (c.replace-seat.ensures.value k).me.0.place (lent_row (row_after c.args.edit (c.replace-seat.ensures.value k).me.0.row))) in
    (t.table.0, i.1, t.keeper.0, all_lent _ (set es p (lent_row x)) rows (still_lent es p x i.3))

pub returns : goal.returns
returns c =
    let i = c.self.invariant in
    let t = c.revised_hold.ensures in
    let k = c.args.self.now in
    let h = c.args.hold.now in
    let es : List Lending = c.self.inside.seat.me.0.rows in
    let p : ℕ = c.hold.inside.seat.me.0.place in
    let r : List ℕ = c.hold.inside.seat.me.0.row in
    let x : List ℕ = row_after c.args.edit r in
    let is : get_elem? (map row_in es) p ≡ some r =
    subst (λ (z : List Lending × (ℕ × List ℕ)). get_elem? (map row_in z.0) z.1.0 ≡ some z.1.1) (λ j. ((c.split_seat-blank.ensures.2 j).0.rows, ((c.replace-seat.ensures.value j).me.0.place, (c.replace-seat.ensures.value j).me.0.row))) t.told in
    let told : HasRowOf k h = has_row_of k h c.self.inside.seat.table_id c.hold.inside.seat.table_id es p r c.self.view_is c.hold.view_is is in
    let rows : c.revised_hold.new.keeper.me.0.rows ≡ set es p (lent_row x) =
    t.keeper.1 ∙ (λ j. set (c.split_seat-blank.ensures.2 j).0.rows (c.replace-seat.ensures.value j).me.0.place (lent_row (row_after c.args.edit (c.replace-seat.ensures.value j).me.0.row))) in
    let name = t.table.0 ∙ sym i.0 in
    let keeper : keeper_view c.revised_hold.new.keeper.table_id (map row_in c.revised_hold.new.keeper.me.0.rows) ≡ with_client_row k h.client (row_after c.args.edit h.row) =
    (λ j. keeper_view (name j) (map row_in (rows j)))
    ∙ row_changes k h c.self.inside.seat.table_id c.hold.inside.seat.table_id es p r x c.self.view_is c.hold.view_is
    ∙ (λ j. with_client_row k h.client (row_after c.args.edit (c.hold.view_is j).row)) in
    record {
      told = told;
      keeper = keeper;
      hold = search rules;
      others = subst (OtherRowsStay h.client k) (sym keeper) (others_stay k h.client (row_after c.args.edit h.row) told.client);
    }
