use Rattle.std.proofs.Common.{ℕ, List, set, false, refl, ap, ◌∙◌, subst}
use Rattle.atomic_table.specs.Table.{Me}
use Rattle.frs_rows.specs.declared.steps.SeatView.{SeatView}
use Rattle.frs_rows.specs.Seats.{Lending, row_at_place, hold_seat, keeper_after_lend, hold_after_lend, keeper_after_back, IsLook, IsChangeTo}
use Rattle.frs_rows.proofs.SeatsAgree.{set_there, backs_as, looks_as, changes_as, lends_as, is_keeper, revised_rows, told_row, row_there}
use Rattle.frs_rows.proofs.steps.revised_hold.Goals as goal

pub join_seat-requires : goal.join_seat-requires
join_seat-requires g c =
    let t = c.requires.table in
    (t.1, t.2, t.3, t.0, backs_as _ _ _ _ c.requires.views.0 c.requires.views.1)

pub load-requires : goal.load-requires
load-requires g c =
    let t = c.requires.table in
    let j = c.join_seat.ensures in
    let u = c.args.held.me.0 in
    let is = ap {A = Me ℕ SeatView} (λ m. m.0) j.2 ∙ ap (λ v. keeper_after_back v u) c.requires.views.0 in
    (j.0 ∙ t.1, t.0, looks_as _ _ _ _ _ _ is)

pub load-requires-2 : goal.load-requires-2
load-requires-2 g c =
    let t = c.requires.table in
    let j = c.join_seat.ensures in
    let l = c.load.ensures in
    let u = c.args.held.me.0 in
    let is = ap {A = Me ℕ SeatView} (λ m. m.0) j.2 ∙ ap (λ v. keeper_after_back v u) c.requires.views.0 in
    let look = subst (λ v. IsLook v c.load.new.seat.me.0) is l.2.0 in
    (l.0 ∙ j.0 ∙ t.1, t.0, changes_as _ _ _ _ _ _ _ look.0 (look.1 refl))

pub split_seat-requires : goal.split_seat-requires
split_seat-requires g c =
    let t = c.requires.table in
    let j = c.join_seat.ensures in
    let l = c.load.ensures in
    let k = c.load-2.ensures in
    let u = c.args.held.me.0 in
    let is = ap {A = Me ℕ SeatView} (λ m. m.0) j.2 ∙ ap (λ v. keeper_after_back v u) c.requires.views.0 in
    let look = subst (λ v. IsLook v c.load.new.seat.me.0) is l.2.0 in
    let change = (subst (λ v. IsChangeTo g.C.NewRow.new_row v c.load-2.new.seat.me.0) look.0 k.2.0).2 in
    (k.0 ∙ l.0 ∙ j.0 ∙ t.1, t.0, lends_as _ _ _ _ _ change (set_there (set c.args.keeper.now.me.0.rows u.place (false, row_at_place c.args.keeper.now.me.0.rows u.place)) u.place (false, g.C.NewRow.new_row) (false, u.row) (look.1 refl)))

pub returns-clause-told : goal.returns-clause-told
returns-clause-told g c =
    let j = c.join_seat.ensures in
    let l = c.load.ensures in
    let u = c.args.held.me.0 in
    let is = ap {A = Me ℕ SeatView} (λ m. m.0) j.2 ∙ ap (λ v. keeper_after_back v u) c.requires.views.0 in
    let look = subst (λ v. IsLook v c.load.new.seat.me.0) is l.2.0 in
    told_row c.args.keeper.now.me.0.rows u.place u.row (look.1 refl)

pub returns-clause-keeper : goal.returns-clause-keeper
returns-clause-keeper g c =
    let j = c.join_seat.ensures in
    let l = c.load.ensures in
    let k = c.load-2.ensures in
    let s = c.split_seat.ensures in
    let v = c.args.keeper.now.me.0 in
    let u = c.args.held.me.0 in
    let is = ap {A = Me ℕ SeatView} (λ m. m.0) j.2 ∙ ap (λ v. keeper_after_back v u) c.requires.views.0 in
    let look = subst (λ v. IsLook v c.load.new.seat.me.0) is l.2.0 in
    let change = (subst (λ v. IsChangeTo g.C.NewRow.new_row v c.load-2.new.seat.me.0) look.0 k.2.0).2 in
    let end = ap {A = Me ℕ SeatView} (λ m. m.0) s.2 ∙ ap keeper_after_lend change in
    (is_keeper _ _ _ end, ap (λ v. v.rows) end ∙ revised_rows v.rows u.place (false, row_at_place v.rows u.place) g.C.NewRow.new_row)

pub returns-clause-hold : goal.returns-clause-hold
returns-clause-hold g c =
    let back : List Lending = set c.args.keeper.now.me.0.rows c.args.held.me.0.place (false, row_at_place c.args.keeper.now.me.0.rows c.args.held.me.0.place) in
    let j = c.join_seat.ensures in
    let l = c.load.ensures in
    let k = c.load-2.ensures in
    let s = c.split_seat.ensures in
    let u = c.args.held.me.0 in
    let is = ap {A = Me ℕ SeatView} (λ m. m.0) j.2 ∙ ap (λ v. keeper_after_back v u) c.requires.views.0 in
    let look = subst (λ v. IsLook v c.load.new.seat.me.0) is l.2.0 in
    let change = (subst (λ v. IsChangeTo g.C.NewRow.new_row v c.load-2.new.seat.me.0) look.0 k.2.0).2 in
    ap {A = Me ℕ SeatView} (λ m. m.0) s.4 ∙ ap hold_after_lend change ∙ ap (hold_seat u.place) (row_there (set back u.place (false, g.C.NewRow.new_row)) u.place (false, g.C.NewRow.new_row) (set_there back u.place (false, g.C.NewRow.new_row) (false, u.row) (look.1 refl)))
