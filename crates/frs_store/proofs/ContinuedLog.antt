-- A log that goes on behind the records that a store spells, cut at the lowest that its newest record names.
use Rattle.std.proofs.Common.{◌≡◌, ℕ, ◌+◌, ◌-◌, ◌<◌, ◌≤◌, List, [], ◌∷◌, ◌++◌, length, take, drop, refl, sym, ap, ◌∙◌, subst, arith}
use Rattle.std.proofs.Common.{true, take-append-drop, length-append}
use Rattle.std.proofs.lemmas.List.{drop-take, drop-drop, drop-append-le, length-drop}
use Rattle.std.proofs.Math.Seq.{take-append-add}
use Rattle.frs_types.specs.declared.record.Record.{Record}
use Rattle.frs_types.specs.Records.{Log, are_placed_from, named_lowest, from_lowest}
use Rattle.frs_types.specs.Lawful.{settled_state, Lawful}
use Rattle.frs_types.proofs.Allowed.{lowest_behind}
use Rattle.frs_types.proofs.LowestRises.{none_begun, lawful_is_placed, named_at_least}
use Rattle.frs_types.proofs.LogStates.{lawful_front}
use Rattle.frs_segment.specs.Stores.{log_up_to}
use Rattle.frs_writer.proofs.IsPlaced.{placed_front, placed_allowed, first_below, named_below}
use Rattle.frs_writer.proofs.LongerLog.{with_more}

-- the records of a lawful log stand in their places
pub placed : (rs : List Record) → Lawful [] 1 rs → are_placed_from 0 1 rs ≡ true
placed rs lawful = lawful_is_placed (settled_state [] 1) 0 rs (none_begun [] 1) (omega arith) lawful

-- What is cut off at the front of a list doesn't change what its newest record names, unless nothing is left.
cut_lowest : (k : ℕ) (rs : List Record) → k < length rs → named_lowest (drop k rs) ≡ named_lowest rs
cut_lowest k rs lt =
    sym (lowest_behind (take k rs) (drop k rs) (λ none.
    let left : length (drop k rs) ≡ length rs - k = length-drop k rs in
    let no : length (drop k rs) ≡ 0 = ap length none in
    absurd (omega (arith, left, no, lt))))
    ∙ ap named_lowest (take-append-drop k rs)

-- cut at a front and then at what the newest record names, or at once at this
cut_twice : (low : ℕ) (rs : List Record) → 1 ≤ low → low ≤ named_lowest rs → named_lowest (drop (low - 1) rs) ≡ named_lowest rs
    → from_lowest low (drop (low - 1) rs) ≡ from_lowest 1 rs
cut_twice low rs one le same =
    let sum : low - 1 + (named_lowest rs - low) ≡ named_lowest rs - 1 = omega (arith, one, le) in
    let records : drop (named_lowest (drop (low - 1) rs) - low) (drop (low - 1) rs) ≡ drop (named_lowest rs - 1) rs =
    ap (λ n. drop (n - low) (drop (low - 1) rs)) same ∙ drop-drop (named_lowest rs - low) (low - 1) rs ∙ ap (λ n. drop n rs) sum in
    λ i. record { first = same i; records = records i }

module _ (before taken : List Record) (n : ℕ) (lawful : Lawful [] 1 (before ++ taken)) (le : length before ≤ n) where
  abbrev low : ℕ
  low = named_lowest before

  abbrev front : List Record
  front = take n (before ++ taken)

  one : 1 ≤ low
  one = named_at_least before (lawful_front [] 1 before taken lawful)

  -- the front has all records from before
  front_is : front ≡ before ++ take (n - length before) taken
  front_is =
      let sum : n ≡ length before + (n - length before) = omega (arith, le) in
      ap (λ k. take k (before ++ taken)) sum ∙ take-append-add before taken (n - length before)

  front_placed : are_placed_from 0 1 (before ++ take (n - length before) taken) ≡ true
  front_placed = placed (before ++ take (n - length before) taken) (subst (Lawful [] 1) front_is
      (lawful_front [] 1 front (drop n (before ++ taken)) (subst (Lawful [] 1) (sym (take-append-drop n (before ++ taken))) lawful)))

  -- where there are any, the newest of them names an LSN of theirs
  module _ (some : before ≡ [] → ⊥) where
    within : low < 1 + length before
    within = named_below 1 before some (placed_allowed 0 1 before (placed_front 0 1 before (take (n - length before) taken) front_placed))

    longer : length before ≤ length front
    longer =
        let both : length front ≡ length before + length (take (n - length before) taken) =
        ap length front_is ∙ length-append before (take (n - length before) taken) in
        omega (arith, both)

    lower : low ≤ named_lowest front
    lower = subst (λ rs. low ≤ named_lowest rs) (sym front_is) (first_below 0 1 low before (take (n - length before) taken) front_placed refl
        (λ none. let no : length before + length (take (n - length before) taken) ≡ 0 =
        sym (length-append before (take (n - length before) taken)) ∙ ap length none in
        absurd (omega (arith, no, within, one))))

    cut_front : take (n + 1 - low) (drop (low - 1) before ++ taken) ≡ drop (low - 1) front
    cut_front =
        let inside : low - 1 ≤ length before = omega (arith, within, one) in
        let sum : low - 1 + (n + 1 - low) ≡ n = omega (arith, one, within, le) in
        ap (take (n + 1 - low)) (sym (drop-append-le (low - 1) before taken inside))
        ∙ sym (drop-take (low - 1) (n + 1 - low) (before ++ taken))
        ∙ ap (λ k. drop (low - 1) (take k (before ++ taken))) sum

    behind_some : log_up_to n (with_more (from_lowest 1 before) taken) ≡ from_lowest 1 front
    behind_some =
        ap (from_lowest low) cut_front
        ∙ cut_twice low front one lower (cut_lowest (low - 1) front (omega (arith, within, one, longer)))

goes_on_from : (before taken : List Record) (n : ℕ) → Lawful [] 1 (before ++ taken) → length before ≤ n
    → log_up_to n (with_more (from_lowest 1 before) taken) ≡ from_lowest 1 (take n (before ++ taken))
goes_on_from [] taken n lawful le =
    let same : n + 1 - 1 ≡ n = omega arith in
    ap (λ k. from_lowest 1 (take k taken)) same
goes_on_from (r ∷ before) taken n lawful le = behind_some (r ∷ before) taken n lawful le (λ none. cc)

-- What a log up to an LSN is, that goes on behind these records.
pub goes_on : (before taken : List Record) (log : Log) (n : ℕ) → Lawful [] 1 (before ++ taken) → log ≡ with_more (from_lowest 1 before) taken
    → length before ≤ n → log_up_to n log ≡ from_lowest 1 (take n (before ++ taken))
goes_on before taken log n lawful is le = ap (log_up_to n) is ∙ goes_on_from before taken n lawful le
