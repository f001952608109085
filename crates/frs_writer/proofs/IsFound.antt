-- What was found in the files of a store, of its half-made files and of the numbers.
use Rattle.std.proofs.Common.{◌≡◌, ℕ, ◌+◌, ◌<◌, ◌≤◌, ◌&&◌, Bool, not, List, Option, Some, None, IsSome, refl, sym, ap, subst, ◌∙◌, arith}
use Rattle.std.specs.Prelude.{All, is_some}
use Rattle.std.specs.List.{filter}
use Rattle.std.specs.List.Sorted.{IsStrictlyIncreasing}
use Rattle.std.proofs.lemmas.List.Elements.{All-filter, All-map, All-weaker}
use Rattle.std.specs.Ordering.{nat_cmp}
use Rattle.std.specs.FinMap.{get, entries, entries_sorted, get-entries}
use Rattle.std.specs.FinMap.Entries.{find}
use Rattle.frs_types.specs.Records.{Log, next_lsn, named_lowest}
use Rattle.frs_disk.specs.Disk.{Image}
use Rattle.frs_segment.specs.declared.layout.Found.{Found}
use Rattle.frs_segment.specs.Segments.{File, WholeSegment, is_open_file}
use Rattle.frs_segment.specs.Stores.{IsFound, is_below}
use Rattle.frs_writer.proofs.ShowsLog.{base_lowest}
use Rattle.frs_writer.proofs.NumbersOf.{sorted_kept, rising_numbers, all_there, at_most_last}

-- half-made, and not below the segments
abbrev pub is_half : List WholeSegment → File → Bool
is_half segments f = not (is_open_file f) && not (is_below segments f)

module _ (a : Image) (segments : List WholeSegment) (log : Log) (found : Found) (is : IsFound (entries a) segments log found) where
  at_most : (q : ℕ) → IsSome (find nat_cmp q (entries a)) → q ≤ found.greatest
  at_most q some = subst (λ (n : ℕ). q ≤ n) (sym is.greatest_is) (at_most_last None (entries a) (entries_sorted a) q some)

  -- no file has a greater number
  pub found_above : (q : ℕ) → found.greatest < q → get a q ≡ None
  found_above q lt = by (find nat_cmp q (entries a)) refl
    where
      by : (o : Option (List ℕ)) → find nat_cmp q (entries a) ≡ o → get a q ≡ None
      by None none = get-entries a q ∙ none
      by (Some b) some = absurd (omega (arith, lt, at_most q (ap is_some some)))

  -- no removal is pending of a greater number
  pub found_none_removed : (removing : ℕ → Type 0) → ((n : ℕ) → removing n → (m : ℕ) × IsSome (get a m) × (n ≤ m)) → (q : ℕ) → found.greatest < q → removing q → ⊥
  found_none_removed removing pending q lt is_pending =
      let other = pending q is_pending in
      omega (arith, lt, other.2, at_most other.0 (ap is_some (sym (get-entries a other.0)) ∙ other.1))

  -- the half-made files are there
  pub found_half : (number : ℕ) → number ≡ found.greatest + 1 → All (λ n. IsSome (get a n) × (n < number)) found.half
  found_half number next =
      let there : All (λ (f : File). IsSome (get a f.0) × (f.0 < number)) (entries a) =
      All-weaker (λ (f : File). IsSome (find nat_cmp f.0 (entries a))) (λ (f : File). IsSome (get a f.0) × (f.0 < number))
      (λ f some. (ap is_some (get-entries a f.0) ∙ some, omega (arith, next, at_most f.0 some))) (entries a) (all_there (entries a)) in
      subst (All (λ (n : ℕ). IsSome (get a n) × (n < number))) (sym is.half_are)
      (All-map (λ (n : ℕ). IsSome (get a n) × (n < number)) (λ (f : File). f.0) (filter (is_half segments) (entries a)) (All-filter (is_half segments) (λ (f : File). IsSome (get a f.0) × (f.0 < number)) (entries a) there))

  -- by rising number
  pub found_rising : IsStrictlyIncreasing found.half
  found_rising = subst IsStrictlyIncreasing (sym is.half_are) (rising_numbers (filter (is_half segments) (entries a)) (sorted_kept (is_half segments) (entries a) (entries_sorted a)))

  pub found_lowest : log.first ≡ named_lowest log.records
  found_lowest = base_lowest (entries a) segments log is.spelled

  pub found_next : next_lsn log ≡ found.next
  found_next = sym is.next_is
