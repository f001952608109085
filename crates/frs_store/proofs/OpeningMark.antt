-- Lawful records from LSN 1 on: the LSN behind those that the newest names, and the opening mark behind them.
use Rattle.std.proofs.Common.{◌≡◌, ◌+◌, ◌-◌, ◌<◌, ◌≤◌, true, List, [], ◌∷◌, ◌++◌, length, drop, refl, ◌∙◌, arith, eq-eqb}
use Rattle.std.proofs.lemmas.Bool.{and_from, lt-ltb, le-leb}
use Rattle.std.proofs.lemmas.List.{length-drop}
use Rattle.frs_types.specs.declared.record.Record.{Record}
use Rattle.frs_types.specs.Records.{named_lowest, from_lowest, next_lsn}
use Rattle.frs_types.specs.Lawful.{settled_state, lowest, is_lawful, Lawful}
use Rattle.frs_types.proofs.LogStates.{lawful_split}
use Rattle.frs_types.proofs.LowestRises.{least_at_most, needed, named_at_least, named_at_most}
use Rattle.frs_book.proofs.BookGoesOn.{next_behind}
use Rattle.frs_store.specs.SessionEnd.{state_of, opening_mark}

module _ (rs : List Record) (lawful : Lawful [] 1 rs) where
  next_is : (state_of rs).next ≡ 1 + length rs
  next_is = next_behind rs (settled_state [] 1)

  pub named_within : (1 ≤ named_lowest rs) × (named_lowest rs ≤ length rs + 1)
  named_within =
      let named : named_lowest rs ≤ lowest (state_of rs) = named_at_most rs lawful in
      let below : lowest (state_of rs) ≤ (state_of rs).next = least_at_most (state_of rs).next (needed (state_of rs)) in
      (named_at_least rs lawful, omega (arith, named, below, next_is))

  -- the next LSN is that behind all of them
  pub next_from_lowest : next_lsn (from_lowest 1 rs) ≡ length rs + 1
  next_from_lowest =
      let left : length (drop (named_lowest rs - 1) rs) ≡ length rs - (named_lowest rs - 1) = length-drop (named_lowest rs - 1) rs in
      omega (arith, left, named_within.0, named_within.1)

  pub mark_is_lawful : is_lawful (state_of rs) (opening_mark rs) ≡ true
  mark_is_lawful =
      let above : 0 < (state_of rs).next = omega (arith, next_is) in
      let least : 1 ≤ named_lowest rs = named_at_least rs lawful in
      let most : named_lowest rs ≤ lowest (state_of rs) = named_at_most rs lawful in
      let lowest_above : 0 < lowest (state_of rs) = omega (arith, least, most) in
      and_from _ _ (and_from _ _ (and_from _ _ (and_from _ _ (and_from _ _ (and_from _ _ refl (lt-ltb _ _ above)) (lt-ltb _ _ lowest_above))
      (le-leb _ _ (least_at_most (state_of rs).next (needed (state_of rs))))) refl)
      (eq-eqb (lowest (state_of rs)) (lowest (state_of rs)) refl)) refl

  -- the opening mark lawfully follows
  pub mark_follows : Lawful [] 1 (rs ++ opening_mark rs ∷ [])
  mark_follows = lawful_split (settled_state [] 1) rs (opening_mark rs ∷ []) ∙ and_from _ _ lawful (and_from _ _ mark_is_lawful refl)
