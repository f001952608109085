-- Files by rising number: parts of such a list, what stands in it, and the greatest number.
use Rattle.std.proofs.Common.{◌≡◌, ◌≢◌, inl, inr, ℕ, zero, suc, ◌+◌, ◌<◌, ◌≤◌, Bool, true, false, cond, T, List, [], ◌∷◌, ◌++◌, Option, Some, None, IsSome, refl, sym, ap, subst, ◌∙◌, arith}
use Rattle.std.specs.Prelude.{All, unwrap_or, is_some}
use Rattle.std.specs.List.{AllPairs, filter, last_or, slice_index_or}
use Rattle.std.specs.List.Sorted.{IsStrictlyIncreasing}
use Rattle.std.proofs.lemmas.Bool.{cases_eq}
use Rattle.std.proofs.lemmas.List.Elements.{All-cons, All-map, All-nil}
use Rattle.std.proofs.lemmas.List.Kept.{AllPairs-cons}
use Rattle.std.specs.Ordering.{nat_cmp, eq_by_cmp}
use Rattle.std.specs.FinMap.Entries.{find, below_all, is_sorted}
use Rattle.frs_segment.specs.Segments.{File}
use Rattle.frs_segment.specs.Stores.{numbers_of}
use Rattle.frs_writer.proofs.NewestFile.{tied_not, here}
use Rattle.frs_types.proofs.Truth.{and_first, and_second, and_both, less_by_cmp}

-- ---- parts

below_kept : (p : File → Bool) (x : ℕ) (files : List File) → T (below_all nat_cmp x files) → T (below_all nat_cmp x (filter p files))
below_kept p x [] is = tt
below_kept p x (f ∷ files) is =
    let rest = below_kept p x files (and_second _ _ is) in
    elim (p f) as (λ b. T (below_all nat_cmp x (cond b (f ∷ filter p files) (filter p files)))) [ true ↦ and_both _ _ (and_first _ _ is) rest | false ↦ rest ]

pub sorted_kept : (p : File → Bool) (files : List File) → T (is_sorted nat_cmp files) → T (is_sorted nat_cmp (filter p files))
sorted_kept p [] is = tt
sorted_kept p (f ∷ files) is =
    let rest = sorted_kept p files (and_second _ _ is) in
    elim (p f) as (λ b. T (is_sorted nat_cmp (cond b (f ∷ filter p files) (filter p files)))) [ true ↦ and_both _ _ (below_kept p f.0 files (and_first _ _ is)) rest | false ↦ rest ]

-- a part that each file passes is the whole
pub filter_whole : (p : File → Bool) (files : List File) → All (λ f. p f ≡ true) files → filter p files ≡ files
filter_whole p [] each = refl
filter_whole p (f ∷ files) each =
    ap (λ (b : Bool). cond b (f ∷ filter p files) (filter p files)) (each 0 f (omega arith))
    ∙ ap (λ (l : List File). f ∷ l) (filter_whole p files (λ k d lt. each (suc k) d (omega arith)))

pub filter_swap : (p q : File → Bool) (files : List File) → filter q (filter p files) ≡ filter p (filter q files)
filter_swap p q [] = refl
filter_swap p q (f ∷ files) = by (filter_swap p q files) (p f) refl (q f) refl
  where
    by : filter q (filter p files) ≡ filter p (filter q files) → (s : Bool) → p f ≡ s → (t : Bool) → q f ≡ t → filter q (cond s (f ∷ filter p files) (filter p files)) ≡ filter p (cond t (f ∷ filter q files) (filter q files))
    by rest true s true t =
        ap (λ (b : Bool). cond b (f ∷ filter q (filter p files)) (filter q (filter p files))) t ∙ ap (λ (l : List File). f ∷ l) rest
        ∙ sym (ap (λ (b : Bool). cond b (f ∷ filter p (filter q files)) (filter p (filter q files))) s)
    by rest true s false t = ap (λ (b : Bool). cond b (f ∷ filter q (filter p files)) (filter q (filter p files))) t ∙ rest
    by rest false s true t = rest ∙ sym (ap (λ (b : Bool). cond b (f ∷ filter p (filter q files)) (filter p (filter q files))) s)
    by rest false s false t = rest

-- ---- numbers

above_all : (x : ℕ) (files : List File) → T (below_all nat_cmp x files) → All (λ n. x < n) (numbers_of files)
above_all x [] is = All-nil (λ (n : ℕ). x < n)
above_all x (f ∷ files) is = All-cons (λ (n : ℕ). x < n) f.0 (numbers_of files) (less_by_cmp x f.0 (and_first _ _ is)) (above_all x files (and_second _ _ is))

rising_pairs : (files : List File) → T (is_sorted nat_cmp files) → AllPairs (λ (x y : ℕ). x < y) (numbers_of files)
rising_pairs [] is = λ i j d lt within. absurd (omega arith)
rising_pairs (f ∷ files) is = AllPairs-cons (λ (x y : ℕ). x < y) f.0 (numbers_of files) (above_all f.0 files (and_first _ _ is)) (rising_pairs files (and_second _ _ is))

pub rising_numbers : (files : List File) → T (is_sorted nat_cmp files) → IsStrictlyIncreasing (numbers_of files)
rising_numbers files is k lt = rising_pairs files is k (k + 1) 0 (omega arith) lt

-- the files before one have lower numbers
pub lower_before : (front : List File) (f : File) (files : List File) → T (is_sorted nat_cmp (front ++ f ∷ files)) → All (λ (g : File). g.0 < f.0) front
lower_before [] f files is = All-nil (λ (g : File). g.0 < f.0)
lower_before (g ∷ front) f files is = All-cons (λ (h : File). h.0 < f.0) g front (lower front (and_first _ _ is)) (lower_before front f files (and_second _ _ is))
  where
    lower : (more : List File) → T (below_all nat_cmp g.0 (more ++ f ∷ files)) → g.0 < f.0
    lower [] is = less_by_cmp g.0 f.0 (and_first _ _ is)
    lower (h ∷ more) is = lower more (and_second _ _ is)

-- ---- what stands there

-- whatever stands before it
pub there_more : (f : File) (files : List File) (q : ℕ) → IsSome (find nat_cmp q files) → IsSome (find nat_cmp q (f ∷ files))
there_more f files q some = elim (eq_by_cmp nat_cmp q f.0) as (λ b. IsSome (cond b (Some f.1) (find nat_cmp q files))) [ true ↦ refl | false ↦ some ]

pub there_behind : (front files : List File) (q : ℕ) → IsSome (find nat_cmp q files) → IsSome (find nat_cmp q (front ++ files))
there_behind [] files q some = some
there_behind (f ∷ front) files q some = there_more f (front ++ files) q (there_behind front files q some)

pub all_there : (files : List File) → All (λ (f : File). IsSome (find nat_cmp f.0 files)) files
all_there [] k d lt = absurd (omega arith)
all_there (f ∷ files) zero d lt = ap is_some (here f files)
all_there (f ∷ files) (suc k) d lt = there_more f files (slice_index_or files k d).0 (all_there files k d (omega arith))

pub all_numbers_there : (files : List File) → All (λ (n : ℕ). IsSome (find nat_cmp n files)) (numbers_of files)
all_numbers_there files = All-map (λ (n : ℕ). IsSome (find nat_cmp n files)) (λ (f : File). f.0) files (all_there files)

pub by_numbers : (P : ℕ → Type 0) (files : List File) → All P (numbers_of files) → All (λ (f : File). P f.0) files
by_numbers P [] each = All-nil (λ (f : File). P f.0)
by_numbers P (f ∷ files) each = All-cons (λ (g : File). P g.0) f files (each 0 f.0 (omega arith)) (by_numbers P files (λ k d lt. each (suc k) d (omega arith)))

missing_below : (q : ℕ) (files : List File) → T (below_all nat_cmp q files) → find nat_cmp q files ≡ None
missing_below q [] is = refl
missing_below q (f ∷ files) is =
    let lt : q < f.0 = less_by_cmp q f.0 (and_first _ _ is) in
    ap (λ (t : Bool). cond t (Some f.1) (find nat_cmp q files)) (tied_not q f.0 (λ same. omega (arith, lt, same))) ∙ missing_below q files (and_second _ _ is)

-- what stands in a part stands in the whole, and passes
pub record Kept (p : File → Bool) (files : List File) (q : ℕ) : Type 0 where
  pub bytes : List ℕ
  pub is : find nat_cmp q files ≡ Some bytes
  pub passes : p (q, bytes) ≡ true

pub kept_there : (p : File → Bool) (files : List File) → T (is_sorted nat_cmp files) → (q : ℕ) → IsSome (find nat_cmp q (filter p files)) → Kept p files q
kept_there p [] sorted q some = absurd cc
kept_there p (f ∷ files) sorted q some = elim (cases_eq q f.0) [
  | inl is ↦ subst (λ (n : ℕ). Kept p (f ∷ files) n) (sym is) (head (p f) refl (subst (λ (n : ℕ). IsSome (find nat_cmp n (filter p (f ∷ files)))) is some))
  | inr other ↦ behind other (λ is. kept_there p files (and_second _ _ sorted) q is) (p f) refl some
]
  where
    head : (t : Bool) → p f ≡ t → IsSome (find nat_cmp f.0 (cond t (f ∷ filter p files) (filter p files))) → Kept p (f ∷ files) f.0
    head true passes is = record { bytes = f.1; is = here f files; passes = passes }
    head false fails is = absurd (none_some (missing_below f.0 (filter p files) (below_kept p f.0 files (and_first _ _ sorted))) is)
      where
        none_some : find nat_cmp f.0 (filter p files) ≡ None → IsSome (find nat_cmp f.0 (filter p files)) → ⊥
        none_some none is = cc

    more : q ≢ f.0 → Kept p files q → Kept p (f ∷ files) q
    more other rest = record { bytes = rest.bytes; is = ap (λ (t : Bool). cond t (Some f.1) (find nat_cmp q files)) (tied_not q f.0 other) ∙ rest.is; passes = rest.passes }

    behind : q ≢ f.0 → (IsSome (find nat_cmp q (filter p files)) → Kept p files q) → (t : Bool) → p f ≡ t → IsSome (find nat_cmp q (cond t (f ∷ filter p files) (filter p files))) → Kept p (f ∷ files) q
    behind other rest true e is = more other (rest (subst (λ (b : Bool). IsSome (cond b (Some f.1) (find nat_cmp q (filter p files)))) (tied_not q f.0 other) is))
    behind other rest false e is = more other (rest is)

-- ---- the greatest number

last_above : (x : ℕ) (files : List File) → T (below_all nat_cmp x files) → T (is_sorted nat_cmp files) → x ≤ unwrap_or (last_or (Some x) (numbers_of files)) 0
last_above x [] is sorted = omega arith
last_above x (f ∷ files) is sorted = omega (arith, less_by_cmp x f.0 (and_first _ _ is), last_above f.0 files (and_first _ _ sorted) (and_second _ _ sorted))

pub at_most_last : (o : Option ℕ) (files : List File) → T (is_sorted nat_cmp files) → (q : ℕ) → IsSome (find nat_cmp q files) → q ≤ unwrap_or (last_or o (numbers_of files)) 0
at_most_last o [] sorted q some = absurd cc
at_most_last o (f ∷ files) sorted q some = elim (cases_eq q f.0) [
  | inl is ↦ omega (arith, is, last_above f.0 files (and_first _ _ sorted) (and_second _ _ sorted))
  | inr other ↦ at_most_last (Some f.0) files (and_second _ _ sorted) q (subst (λ (b : Bool). IsSome (cond b (Some f.1) (find nat_cmp q files))) (tied_not q f.0 other) some)
]
