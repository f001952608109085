-- The newest file of a disk changes, or one more stands above the others: what this makes of the list of its files.
use Rattle.std.proofs.Common.{Ordering, Less, ◌≡◌, ◌≢◌, inl, inr, ℕ, ◌<◌, ◌≤◌, Bool, true, false, cond, T, List, [], ◌∷◌, ◌++◌, Some, None, refl, sym, ap, subst, ◌∙◌, arith}
use Rattle.std.proofs.lemmas.Bool.{cases_eq, cases_lt, ne_eqb, eq-eqb}
use Rattle.std.specs.Ordering.{nat_cmp, is_lt, eq_by_cmp}
use Rattle.std.specs.Cmp.{nat_cmp_total, nat_cmp_is, unsigned_tied}
use Rattle.std.specs.FinMap.{get, entries, entries_sorted, get-entries, nat_cmp-IsAntisymmetric}
use Rattle.std.specs.FinMap.Entries.{find, below_all, is_sorted, same_entries, find-append}
use Rattle.frs_disk.specs.Disk.{Image, SameElsewhere}
use Rattle.frs_segment.specs.Segments.{File}
use Rattle.frs_types.proofs.Truth.{and_first, and_second, and_both, less_by_cmp}

-- ---- tests

below_is : (x y : ℕ) → x < y → T (is_lt (nat_cmp x y))
below_is x y lt = subst (λ (o : Ordering). T (is_lt o)) (nat_cmp_is x y Less lt) tt

pub tied_not : (x y : ℕ) → x ≢ y → eq_by_cmp nat_cmp x y ≡ false
tied_not x y other = unsigned_tied x y ∙ ne_eqb x y other

tied : (x : ℕ) → eq_by_cmp nat_cmp x x ≡ true
tied x = unsigned_tied x x ∙ eq-eqb x x refl

some_not : {A : Type 0} (x : A) → Some x ≢ None
some_not x e = cc

-- ---- lists of files

-- a list rises by its numbers alone
below_alike : (front : List File) (n : ℕ) (b new : List ℕ) (x : ℕ) → T (below_all nat_cmp x (front ++ (n, b) ∷ [])) → T (below_all nat_cmp x (front ++ (n, new) ∷ []))
below_alike [] n b new x is = is
below_alike (f ∷ front) n b new x is = and_both _ _ (and_first _ _ is) (below_alike front n b new x (and_second _ _ is))

rising_alike : (front : List File) (n : ℕ) (b new : List ℕ) → T (is_sorted nat_cmp (front ++ (n, b) ∷ [])) → T (is_sorted nat_cmp (front ++ (n, new) ∷ []))
rising_alike [] n b new is = is
rising_alike (f ∷ front) n b new is = and_both _ _ (below_alike front n b new f.0 (and_first _ _ is)) (rising_alike front n b new (and_second _ _ is))

below_last : (front : List File) (n : ℕ) (b : List ℕ) (x : ℕ) → T (below_all nat_cmp x (front ++ (n, b) ∷ [])) → x < n
below_last [] n b x is = less_by_cmp x n (and_first _ _ is)
below_last (f ∷ front) n b x is = below_last front n b x (and_second _ _ is)

-- no file before the last one has the last file's number, or a greater one
none_from : (front : List File) (n : ℕ) (b : List ℕ) → T (is_sorted nat_cmp (front ++ (n, b) ∷ [])) → (q : ℕ) → n ≤ q → find nat_cmp q front ≡ None
none_from [] n b is q le = refl
none_from (f ∷ front) n b is q le =
    let lt : f.0 < n = below_last front n b f.0 (and_first _ _ is) in
    ap (λ (t : Bool). cond t (Some f.1) (find nat_cmp q front)) (tied_not q f.0 (omega arith)) ∙ none_from front n b (and_second _ _ is) q le

below_more : (x n : ℕ) (b : List ℕ) (files : List File) → T (below_all nat_cmp x files) → x < n → T (below_all nat_cmp x (files ++ (n, b) ∷ []))
below_more x n b [] is lt = and_both _ _ (below_is x n lt) tt
below_more x n b (f ∷ files) is lt = and_both _ _ (and_first _ _ is) (below_more x n b files (and_second _ _ is) lt)

-- behind the other file, one that isn't found in the whole list isn't found
none_there : (f : File) (files : List File) (q : ℕ) → q ≢ f.0 → find nat_cmp q (f ∷ files) ≡ None → find nat_cmp q files ≡ None
none_there f files q other none = sym (ap (λ (t : Bool). cond t (Some f.1) (find nat_cmp q files)) (tied_not q f.0 other)) ∙ none

pub here : (f : File) (files : List File) → find nat_cmp f.0 (f ∷ files) ≡ Some f.1
here f files = ap (λ (t : Bool). cond t (Some f.1) (find nat_cmp f.0 files)) (tied f.0)

rising_more : (files : List File) (n : ℕ) (b : List ℕ) → T (is_sorted nat_cmp files) → ((q : ℕ) → n ≤ q → find nat_cmp q files ≡ None) → T (is_sorted nat_cmp (files ++ (n, b) ∷ []))
rising_more [] n b is none = tt
rising_more (f ∷ files) n b is none =
    let lt : f.0 < n = lower in
    and_both _ _ (below_more f.0 n b files (and_first _ _ is) lt) (rising_more files n b (and_second _ _ is) (λ q le. none_there f files q (omega arith) (none q le)))
  where
    lower : f.0 < n
    lower = elim (cases_lt f.0 n) [
      | inl lt ↦ lt
      | inr le ↦ absurd (some_not f.1 (sym (here f files) ∙ none f.0 le))
    ]

-- ---- the files of a disk

rises : (d : Image) (front : List File) (n : ℕ) (b : List ℕ) → entries d ≡ front ++ (n, b) ∷ [] → T (is_sorted nat_cmp (front ++ (n, b) ∷ []))
rises d front n b is = subst (λ (files : List File). T (is_sorted nat_cmp files)) is (entries_sorted d)

-- what stands in a list whose last file has the number n
found : (front : List File) (n : ℕ) (b : List ℕ) (q : ℕ) → find nat_cmp n front ≡ None → find nat_cmp q (front ++ (n, b) ∷ []) ≡ cond (eq_by_cmp nat_cmp q n) (Some b) (find nat_cmp q front)
found front n b q none = find-append nat_cmp nat_cmp_total front n b q none

found_here : (front : List File) (n : ℕ) (b : List ℕ) → find nat_cmp n front ≡ None → find nat_cmp n (front ++ (n, b) ∷ []) ≡ Some b
found_here front n b none = found front n b n none ∙ ap (λ (t : Bool). cond t (Some b) (find nat_cmp n front)) (tied n)

found_there : (front : List File) (n : ℕ) (b : List ℕ) (q : ℕ) → q ≢ n → find nat_cmp n front ≡ None → find nat_cmp q (front ++ (n, b) ∷ []) ≡ find nat_cmp q front
found_there front n b q other none = found front n b q none ∙ ap (λ (t : Bool). cond t (Some b) (find nat_cmp q front)) (tied_not q n other)

-- the files are these, since each number has the same bytes
same : (c : Image) (files : List File) → T (is_sorted nat_cmp files) → ((q : ℕ) → get c q ≡ find nat_cmp q files) → entries c ≡ files
same c files sorted alike = same_entries nat_cmp nat_cmp_total nat_cmp-IsAntisymmetric (entries c) files (entries_sorted c) sorted (λ q. sym (get-entries c q) ∙ alike q)

-- one file of its own, and the others as they were
split : (c : Image) (files : List File) (n : ℕ) → get c n ≡ find nat_cmp n files → ((q : ℕ) → q ≢ n → get c q ≡ find nat_cmp q files) → (q : ℕ) → get c q ≡ find nat_cmp q files
split c files n one others q = elim (cases_eq q n) [
  | inl is ↦ ap (get c) is ∙ one ∙ ap (λ (k : ℕ). find nat_cmp k files) (sym is)
  | inr other ↦ others q other
]

-- the file with the greatest number has other bytes
pub changed_last : (c d : Image) (n : ℕ) (b : List ℕ) (front : List File) → SameElsewhere n d c → entries d ≡ front ++ (n, b) ∷ [] → (new : List ℕ) → get c n ≡ Some new → entries c ≡ front ++ (n, new) ∷ []
changed_last c d n b front elsewhere is new there = same c (front ++ (n, new) ∷ []) (rising_alike front n b new (rises d front n b is)) (split c (front ++ (n, new) ∷ []) n (there ∙ sym (found_here front n new none)) others)
  where
    none : find nat_cmp n front ≡ None
    none = none_from front n b (rises d front n b is) n (omega arith)

    others : (q : ℕ) → q ≢ n → get c q ≡ find nat_cmp q (front ++ (n, new) ∷ [])
    others q other =
        elsewhere q other ∙ get-entries d q ∙ ap (λ (files : List File). find nat_cmp q files) is
        ∙ found_there front n b q other none ∙ sym (found_there front n new q other none)

-- one more file, with a number above the others
pub added_last : (c d : Image) (n : ℕ) → SameElsewhere n d c → ((q : ℕ) → n ≤ q → get d q ≡ None) → (b : List ℕ) → get c n ≡ Some b → entries c ≡ entries d ++ (n, b) ∷ []
added_last c d n elsewhere none b there = same c (entries d ++ (n, b) ∷ []) (rising_more (entries d) n b (entries_sorted d) no_more) (split c (entries d ++ (n, b) ∷ []) n (there ∙ sym (found_here (entries d) n b (no_more n (omega arith)))) others)
  where
    no_more : (q : ℕ) → n ≤ q → find nat_cmp q (entries d) ≡ None
    no_more q le = sym (get-entries d q) ∙ none q le

    others : (q : ℕ) → q ≢ n → get c q ≡ find nat_cmp q (entries d ++ (n, b) ∷ [])
    others q other = elsewhere q other ∙ get-entries d q ∙ sym (found_there (entries d) n b q other (no_more n (omega arith)))

-- one number may have a file, and has none before and after
pub nothing_added : (c d : Image) (n : ℕ) → SameElsewhere n d c → get d n ≡ None → get c n ≡ None → entries c ≡ entries d
nothing_added c d n elsewhere before after =
    same c (entries d) (entries_sorted d) (split c (entries d) n (after ∙ sym before ∙ get-entries d n) (λ q other. elsewhere q other ∙ get-entries d q))

-- the last file stands there by its number, and none above it
pub last_get : (d : Image) (front : List File) (n : ℕ) (b : List ℕ) → entries d ≡ front ++ (n, b) ∷ [] → get d n ≡ Some b
last_get d front n b is =
    get-entries d n ∙ ap (λ (files : List File). find nat_cmp n files) is ∙ found_here front n b (none_from front n b (rises d front n b is) n (omega arith))

pub above_last : (d : Image) (front : List File) (n : ℕ) (b : List ℕ) → entries d ≡ front ++ (n, b) ∷ [] → (q : ℕ) → n < q → get d q ≡ None
above_last d front n b is q lt =
    let sorted = rises d front n b is in
    get-entries d q ∙ ap (λ (files : List File). find nat_cmp q files) is
    ∙ found_there front n b q (omega arith) (none_from front n b sorted n (omega arith)) ∙ none_from front n b sorted q (omega arith)
