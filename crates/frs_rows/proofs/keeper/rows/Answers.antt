use Rattle.std.proofs.Common.{◌≡◌, ℕ, suc, ◌+◌, ◌-◌, ◌<◌, List, [], ◌∷◌, ◌++◌, map, set, replicate, sym, ap, ◌∙◌, subst, arith}
use Rattle.frs_rows.specs.Seats.{Lending, row_in, lent_row, keeper_seat, hold_seat, keeper_after_lend, hold_after_lend}
use Rattle.frs_rows.specs.Rows.{hold_view, first_holds}
use Rattle.frs_rows.proofs.SeatsAgree.{begins, lends_as, is_keeper}
use Rattle.frs_rows.proofs.KeeperRows.{all_lent}
use Rattle.frs_rows.proofs.FirstHolds.{part, part_home, part_next, part_row, part_all, part_lent, part_more}
use Rattle.frs_rows.proofs.keeper.rows.Goals as goal

pub of_words-requires : goal.of_words-requires
of_words-requires c = begins c.args.clients c.args.width

pub split_seat-lent-requires : goal.split_seat-lent-requires
split_seat-lent-requires c =
    let i = c.loop-count.invariant in
    let z : List ℕ = replicate c.args.width 0 in
    let k : ℕ = c.loop-count.count in
    let m : ℕ = c.args.clients - (k + 1) in
    let is = i.2 ∙ ap (λ (l : List Lending). keeper_seat l k) (part_more z c.args.clients k c.loop-count-test.true) in
    (i.1, subst (λ (n : ℕ). 0 < n) (sym c.in_ok-table.ensures.0) (omega arith), lends_as _ _ (part z k (suc m)) k z is (part_home z k m))

pub loop-count-preserved : goal.loop-count-preserved
loop-count-preserved c =
    let i = c.loop-count.invariant in
    let s = c.split_seat-lent.ensures in
    let z : List ℕ = replicate c.args.width 0 in
    let k : ℕ = c.loop-count.count in
    let m : ℕ = c.args.clients - (k + 1) in
    let is = i.2 ∙ ap (λ (l : List Lending). keeper_seat l k) (part_more z c.args.clients k c.loop-count-test.true) in
    let more : suc k ≡ k + 1 = omega arith in
    let view : c.split_seat-lent.new.seat.me.0 ≡ keeper_seat (part z (k + 1) m) (k + 1) =
    ap (λ m. m.0) s.2 ∙ ap keeper_after_lend is ∙ (λ j. keeper_seat (set (part z k (suc m)) k (lent_row (part_row z k m j))) (suc k)) ∙ (λ j. keeper_seat (part_next z k m j) (suc k)) ∙ (λ j. keeper_seat (part z (more j) m) (more j)) in
    let held = ap (λ m. m.0) s.4 ∙ ap hold_after_lend is ∙ ap (hold_seat k) (part_row z k m) in
    let name = s.3 ∙ i.1 in (
      omega (arith, c.loop-count-test.true),
      s.0 ∙ i.1,
      view,
      c.in_ok-push.ensures.items ∙ (λ j. i.3 j ++ hold_view (name j) (suc (held j).place) (held j).row ∷ []) ∙ ap (first_holds c.in_ok-table.table.shared.table_id z) more,
    )

pub invariant_of-result : goal.invariant_of-result
invariant_of-result c =
    let i = c.loop-count.invariant in
    let z : List ℕ = replicate c.args.width 0 in
    let k : ℕ = c.loop-count.count in
    let all : k ≡ c.args.clients = omega (arith, c.loop-count-test.false, i.0) in
    let none : c.args.clients - k ≡ 0 = omega (arith, c.loop-count-test.false, i.0) in
    let rows = ap (λ v. v.rows) i.2 ∙ (λ j. part z (all j) (none j)) in
    (i.1, subst (λ (n : ℕ). 0 < n) (sym c.in_ok-table.ensures.0) (omega arith), is_keeper _ _ _ i.2, all_lent _ (part z c.args.clients 0) rows (part_lent z c.args.clients))

pub returns-clause-keeper : goal.returns-clause-keeper
returns-clause-keeper c =
    let i = c.loop-count.invariant in
    let z : List ℕ = replicate c.args.width 0 in
    let k : ℕ = c.loop-count.count in
    let all : k ≡ c.args.clients = omega (arith, c.loop-count-test.false, i.0) in
    let none : c.args.clients - k ≡ 0 = omega (arith, c.loop-count-test.false, i.0) in
    ap (λ v. map row_in v.rows) i.2 ∙ (λ j. map row_in (part z (all j) (none j))) ∙ part_all z c.args.clients
