-- Files that are removed one by one, and what an opening leaves of a log.
use Rattle.std.proofs.Common.{◌≡◌, ◌≢◌, ◌⊎◌, inl, inr, ⊎_elim, ℕ, ◌+◌, ◌<◌, ◌≤◌, List, length, None, IsSome, refl, sym, ◌∙◌, ap, subst, arith}
use Rattle.std.specs.Prelude.{All, Contains, slice_index}
use Rattle.std.specs.List.Sorted.{IsStrictlyIncreasing}
use Rattle.std.proofs.lemmas.List.Kept.{AllPairs-from_increasing}
use Rattle.std.proofs.lemmas.Bool.{cases_eq, cases_lt}
use Rattle.std.proofs.lemmas.List.Elements.{All-from_get_or}
use Rattle.std.specs.FinMap.{get}
use Rattle.frs_disk.specs.declared.disk.Disk.{Ghosts}
use Rattle.frs_disk.specs.Disk.{Image, SameElsewhere, ChangesFile, Removed, Follows, Passes, Elapses}
use Rattle.frs_disk.specs.Frames.{Within}
use Rattle.frs_disk.proofs.Moments.{within_call, within_join}
use Rattle.frs_segment.specs.Front.{IsInTheMaking}
use Rattle.frs_writer.specs.Setup.{MissesSome, IsMissingSome, IsOpening}

-- ---- one file after another

pub thin_none : (numbers : List ℕ) (a : Image) → MissesSome numbers a a
thin_none numbers a q = inl refl

-- one of the files more
pub thin_more : (numbers : List ℕ) (n : ℕ) → Contains numbers n → (a b c : Image) → MissesSome numbers a b → ChangesFile n Removed b c → MissesSome numbers a c
thin_more numbers n has a b c so_far step q = elim (cases_eq q n) [
  | inl is ↦ ⊎_elim (λ same. carry (ap (get c) is ∙ same ∙ ap (get b) (sym is)) (so_far q)) (λ gone. inr (subst (Contains numbers) (sym is) has, ap (get c) is ∙ gone)) step.file
  | inr other ↦ carry (step.others q other) (so_far q)
]
  where
    carry : get c q ≡ get b q → (get b q ≡ get a q) ⊎ (Contains numbers q × (get b q ≡ None)) → (get c q ≡ get a q) ⊎ (Contains numbers q × (get c q ≡ None))
    carry same was = ⊎_elim (λ before. inl (same ∙ before)) (λ gone. inr (gone.0, same ∙ gone.1)) was

-- the files behind it are there as before
pub still_there : (numbers : List ℕ) → IsStrictlyIncreasing numbers → (i : ℕ) (b c : Image) → ((k : ℕ) → i ≤ k → k < length numbers → IsSome (get b (slice_index numbers k)))
    → ChangesFile (slice_index numbers i) Removed b c → (k : ℕ) → i + 1 ≤ k → k < length numbers → IsSome (get c (slice_index numbers k))
still_there numbers rising i b c left step k le lt = subst IsSome (sym (step.others (slice_index numbers k) other)) (left k (omega arith) lt)
  where
    other : slice_index numbers k ≢ slice_index numbers i
    other same = omega (arith, AllPairs-from_increasing numbers rising i k 0 (omega arith) lt, same)

-- the files up to it are gone
pub gone_more : (numbers : List ℕ) → IsStrictlyIncreasing numbers → (i : ℕ) → i < length numbers → (b c : Image) → ((k : ℕ) → k < i → get b (slice_index numbers k) ≡ None)
    → ChangesFile (slice_index numbers i) Removed b c → get c (slice_index numbers i) ≡ None → (k : ℕ) → k < i + 1 → get c (slice_index numbers k) ≡ None
gone_more numbers rising i inside b c so_far step gone k lt = elim (cases_lt k i) [
  | inl less ↦ step.others (slice_index numbers k) (λ same. omega (arith, AllPairs-from_increasing numbers rising k i 0 less inside, same)) ∙ so_far k less
  | inr most ↦ let same : k ≡ i = omega (arith, lt, most) in ap (λ (n : ℕ). get c (slice_index numbers n)) same ∙ gone
]

pub all_gone : (numbers : List ℕ) (i : ℕ) → length numbers ≤ i → (c : Image) → ((k : ℕ) → k < i → get c (slice_index numbers k) ≡ None) → All (λ (n : ℕ). get c n ≡ None) numbers
all_gone numbers i most c gone = All-from_get_or (λ (n : ℕ). get c n ≡ None) numbers 0 (λ k lt. gone k (omega (arith, lt, most)))

module _ {D : Type 0} (g : Ghosts D) (numbers : List ℕ) where
  pub thin_start : (old : D) → ((c : Image) → g.left_since old (g.moment old) c → g.may_leave old c) → Within g old old (IsMissingSome numbers (g.may_leave old))
  thin_start old only c left = (c, only c left, thin_none numbers c)

  pub thin_step : (n : ℕ) → Contains numbers n → (old mid new : D) → Passes g.moment g.left_since old mid → ((c : Image) → g.may_leave mid c → g.left_since mid (g.moment old) c)
      → Within g old mid (IsMissingSome numbers (g.may_leave old)) → Elapses g.moment g.left_since g.may_leave mid new → Follows (ChangesFile n Removed) (g.may_leave mid) (g.may_leave new)
      → Within g old new (IsMissingSome numbers (g.may_leave old))
  thin_step n has old mid new first counts so_far time follows =
      within_join g old mid new (IsMissingSome numbers (g.may_leave old)) first time.passes so_far
      (within_call g mid new (IsMissingSome numbers (g.may_leave old)) time (λ c left. so_far c (counts c left)) later)
    where
      later : (c : Image) → g.may_leave new c → IsMissingSome numbers (g.may_leave old) c
      later c left =
          let from = follows c left in
          let base = so_far from.0 (counts from.0 from.1) in
          (base.0, base.1, thin_more numbers n has base.0 from.0 c base.2 from.2)

-- ---- and the next segment

-- what isn't there stays so
pub thin_absent : (numbers : List ℕ) (a b : Image) → MissesSome numbers a b → (q : ℕ) → get a q ≡ None → get b q ≡ None
thin_absent numbers a b by q none = ⊎_elim (λ same. same ∙ none) (λ gone. gone.1) (by q)

pub opening_thinned : (half : List ℕ) (number first : ℕ) (outcomes : Image → Type 0) → ((d : Image) → outcomes d → get d number ≡ None)
    → (c : Image) → IsMissingSome half outcomes c → IsOpening half number first outcomes c
opening_thinned half number first outcomes absent c thin = record {
  base = thin.0;
  was = thin.1;
  thinned = c;
  by = thin.2;
  elsewhere = λ q other. refl;
  making = subst (IsInTheMaking number first) (sym (thin_absent half thin.0 c thin.2 number (absent thin.0 thin.1))) tt;
}

pub opening_made : (half : List ℕ) (number first : ℕ) (outcomes : Image → Type 0) (e c : Image) → IsMissingSome half outcomes e → SameElsewhere number e c → IsInTheMaking number first (get c number)
    → IsOpening half number first outcomes c
opening_made half number first outcomes e c thin elsewhere making = record { base = thin.0; was = thin.1; thinned = e; by = thin.2; elsewhere = elsewhere; making = making }
