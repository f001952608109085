-- Entries with rising LSNs have LSNs of their own, and each of them is before the next LSN.
use Rattle.std.proofs.Common.{◌≡◌, ℕ, suc, ◌<◌, false, List, [], ◌∷◌, length, refl, arith}
use Rattle.std.specs.Prelude.{◌==◌, All, slice_index_or}
use Rattle.std.specs.List.{list_any, AllPairs}
use Rattle.std.specs.List.Sorted.{IsStrictlyIncreasing}
use Rattle.std.proofs.lemmas.Bool.{ne_eqb, or_from}
use Rattle.std.proofs.lemmas.List.Kept.{AllPairs-from_increasing}
use Rattle.frs_types.specs.declared.record.Entry.{Entry}
use Rattle.frs_recovery.specs.Answers.{lsns_of}
use Rattle.frs_objects.specs.Objects.{HaveOwnNumbers}
use Rattle.frs_book.specs.Books.{AreBefore}

none_has : (n : ℕ) (es : List Entry) → ((k d : ℕ) → k < length (lsns_of es) → n < slice_index_or (lsns_of es) k d)
    → list_any (λ (e : Entry). e.lsn == n) es ≡ false
none_has n [] above = refl
none_has n (e ∷ es) above =
    or_from (e.lsn == n) (list_any (λ (d : Entry). d.lsn == n) es)
    (ne_eqb e.lsn n (λ same. let lt : n < e.lsn = above 0 0 (omega arith) in omega (arith, lt, same)))
    (none_has n es (λ k d lt. above (suc k) d (omega (arith, lt))))

pairs_apart : (es : List Entry) → AllPairs (λ m n. m < n) (lsns_of es) → HaveOwnNumbers es
pairs_apart [] pairs = tt
pairs_apart (e ∷ es) pairs = (
  none_has e.lsn es (λ k d lt. pairs 0 (suc k) d (omega arith) (omega (arith, lt))),
  pairs_apart es (λ i j d before inside. pairs (suc i) (suc j) d (omega (arith, before)) (omega (arith, inside))),
)

pub rising_apart : (es : List Entry) → IsStrictlyIncreasing (lsns_of es) → HaveOwnNumbers es
rising_apart es rising = pairs_apart es (AllPairs-from_increasing (lsns_of es) rising)

pub all_before : (next : ℕ) (es : List Entry) → All (λ n. (0 < n) × (n < next)) (lsns_of es) → AreBefore next es
all_before next [] all = tt
all_before next (e ∷ es) all = (all 0 0 (omega arith), all_before next es (λ k d lt. all (suc k) d (omega (arith, lt))))
