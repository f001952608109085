-- Two images that spell a log spell it by the same files, where their newest files have the same numbers and first LSNs
-- back to one that begins at or below the log's first LSN.
use Rattle.std.proofs.Common.{◌≡◌, ◌⊎◌, inl, inr, ℕ, ◌-◌, ◌≤◌, ◌&&◌, Bool, List, [], ◌∷◌, ◌++◌, drop, refl, sym, ap, subst, ◌∙◌, arith, IsTrue, nat_le, nat_lt}
use Rattle.std.specs.List.{AllZip, list_all}
use Rattle.std.proofs.lemmas.Bool.{and_parts, and_from}
use Rattle.std.proofs.lemmas.List.{drop_all}
use Rattle.frs_types.specs.declared.record.Record.{Record}
use Rattle.frs_types.specs.Records.{Log, named_lowest}
use Rattle.frs_segment.specs.Segments.{File, FileList, WholeSegment, IsSegment, all_records, first_alone_reaches, first_of, places_of, SpellsBy, Spells}
use Rattle.frs_segment.specs.Stores.{SpellsAlike, HasNewest, HasNewestAt}
use Rattle.frs_segment.proofs.OneLog.{ends, apart, same_segments, no_earlier, no_further, same_log}
use Rattle.frs_segment.proofs.SpellsBy.{enough_reaches}

-- ---- places

abbrev first_at : List (ℕ × ℕ) → ℕ
first_at [] = 1
first_at (place ∷ places) = place.1

abbrev behind_first : List (ℕ × ℕ) → List (ℕ × ℕ)
behind_first [] = []
behind_first (place ∷ places) = places

-- segments at the same places begin above the same LSNs
above_alike : (lowest : ℕ) (xs ys : List WholeSegment) → places_of xs ≡ places_of ys
    → list_all (λ (u : WholeSegment). nat_lt lowest u.first) xs ≡ list_all (λ (u : WholeSegment). nat_lt lowest u.first) ys
above_alike lowest [] [] same = refl
above_alike lowest [] (t ∷ ys) same = absurd cc
above_alike lowest (s ∷ xs) [] same = absurd cc
above_alike lowest (s ∷ xs) (t ∷ ys) same =
    ap (λ (n : ℕ). nat_lt lowest n && list_all (λ (u : WholeSegment). nat_lt lowest u.first) xs) (ap first_at same)
    ∙ ap (λ (b : Bool). nat_lt lowest t.first && b) (above_alike lowest xs ys (ap behind_first same))

-- and reach as far
reach_alike : (lowest : ℕ) (xs ys : List WholeSegment) → places_of xs ≡ places_of ys → IsTrue (first_alone_reaches lowest xs) → IsTrue (first_alone_reaches lowest ys)
reach_alike lowest [] ys same is = absurd cc
reach_alike lowest (s ∷ xs) [] same is = absurd cc
reach_alike lowest (s ∷ xs) (t ∷ ys) same is =
    let parts = and_parts (nat_le s.first lowest) (list_all (λ (u : WholeSegment). nat_lt lowest u.first) xs) is in
    and_from (nat_le t.first lowest) (list_all (λ (u : WholeSegment). nat_lt lowest u.first) ys)
    (subst (λ (n : ℕ). IsTrue (nat_le n lowest)) (ap first_at same) parts.0)
    (sym (above_alike lowest xs ys (ap behind_first same)) ∙ parts.1)

-- of segments at the same places those that reach to the lowest alone are at the same places
one_reach : (lowest : ℕ) (front other xs ys : List WholeSegment) → places_of (front ++ xs) ≡ places_of (other ++ ys)
    → IsTrue (first_alone_reaches lowest xs) → IsTrue (first_alone_reaches lowest ys) → places_of ys ≡ places_of xs
one_reach lowest [] [] xs ys same one two = sym same
one_reach lowest [] (t ∷ other) xs ys same one two = absurd (no_further lowest t other ys two (reach_alike lowest xs ((t ∷ other) ++ ys) same one))
one_reach lowest (s ∷ front) [] xs ys same one two = absurd (no_further lowest s front xs one (reach_alike lowest ys ((s ∷ front) ++ xs) (sym same) two))
one_reach lowest (s ∷ front) (t ∷ other) xs ys same one two = one_reach lowest front other xs ys (ap behind_first same) one two

-- ---- the files that spell a log

-- The segments that spell a log are the last of newest ones that begin at or below its lowest.
spelled_behind : (image : FileList) (xs segments : List WholeSegment) (log : Log) → SpellsBy image xs log → HasNewest image segments → (segments ≡ [] → ⊥)
    → (all_records xs ≡ [] → ⊥) → first_of segments ≤ named_lowest (all_records xs) → (front : List WholeSegment) × (segments ≡ front ++ xs)
spelled_behind image xs segments log by newest some records low =
    elim (ends by.older by.looked newest.older newest.looked (by.files ∙ sym newest.files)) [
      | inl (m, older, looked) ↦
          let parts = apart m by.looked segments (subst (λ (x : List File). AllZip IsSegment x segments) looked newest.each) in
          (parts.front, parts.is ∙ ap (λ (x : List WholeSegment). parts.front ++ x) (same_segments by.looked parts.back xs parts.back_zip by.each))
      | inr (m, older, looked) ↦
          let parts = apart m newest.looked xs (subst (λ (x : List File). AllZip IsSegment x xs) looked by.each) in
          at parts.front (parts.is ∙ ap (λ (x : List WholeSegment). parts.front ++ x) (same_segments newest.looked parts.back segments parts.back_zip newest.each))
    ]
  where
    at : (front : List WholeSegment) → xs ≡ front ++ segments → (before : List WholeSegment) × (segments ≡ before ++ xs)
    at [] is = ([], sym is)
    at (s ∷ front) is =
        let reaches : IsTrue (first_alone_reaches (named_lowest (all_records xs)) xs) = enough_reaches by.older xs (all_records xs) records by.enough in
        absurd (no_earlier (named_lowest (all_records xs)) s front segments some low (subst (λ (x : List WholeSegment). IsTrue (first_alone_reaches (named_lowest (all_records xs)) x)) is reaches))

pub none_left : (k : ℕ) (rs : List Record) → rs ≡ [] → drop k rs ≡ []
none_left k [] is = drop_all k [] (omega arith)
none_left k (r ∷ rs) is = absurd cc

-- a log with a record is spelled by segments with a record
some_spelled : (image : FileList) (xs : List WholeSegment) (log : Log) → SpellsBy image xs log → (log.records ≡ [] → ⊥) → all_records xs ≡ [] → ⊥
some_spelled image xs log by some none =
    some (ap (λ (l : Log). l.records) by.shown ∙ none_left (named_lowest (all_records xs) - first_of xs) (all_records xs) none)

named_first : (image : FileList) (xs : List WholeSegment) (log : Log) → SpellsBy image xs log → log.first ≡ named_lowest (all_records xs)
named_first image xs log by = ap (λ (l : Log). l.first) by.shown

module _ (a b : FileList) (log : Log) (places : List (ℕ × ℕ)) (first : ℕ) (at_a : HasNewestAt places first a) (at_b : HasNewestAt places first b) (some : log.records ≡ [] → ⊥) (low : first ≤ log.first)
    (xs ys : List WholeSegment) (by_a : SpellsBy a xs log) (by_b : SpellsBy b ys log) where
  same_places : places_of ys ≡ places_of xs
  same_places =
      let named_a = named_first a xs log by_a in
      let named_b = named_first b ys log by_b in
      let some_a = some_spelled a xs log by_a some in
      let some_b = some_spelled b ys log by_b some in
      let (front, is_a) = spelled_behind a xs at_a.segments log by_a at_a.newest at_a.some some_a (omega (arith, at_a.reaches, low, named_a)) in
      let (other, is_b) = spelled_behind b ys at_b.segments log by_b at_b.newest at_b.some some_b (omega (arith, at_b.reaches, low, named_b)) in
      one_reach log.first front other xs ys (sym (ap places_of is_a) ∙ at_a.places_are ∙ sym at_b.places_are ∙ ap places_of is_b)
      (subst (λ (n : ℕ). IsTrue (first_alone_reaches n xs)) (sym named_a) (enough_reaches by_a.older xs (all_records xs) some_a by_a.enough))
      (subst (λ (n : ℕ). IsTrue (first_alone_reaches n ys)) (sym named_b) (enough_reaches by_b.older ys (all_records ys) some_b by_b.enough))

pub spells_alike : (a b : FileList) (log : Log) (places : List (ℕ × ℕ)) (first : ℕ) → Spells a log → Spells b log → HasNewestAt places first a → HasNewestAt places first b
    → ((log.records ≡ [] → ⊥) → first ≤ log.first) → SpellsAlike a b
spells_alike a b log places first (xs, by_a) (ys, by_b) at_a at_b low other segments by =
    (ys, subst (SpellsBy b ys) same by_b, at other.records refl)
  where
    same : log ≡ other
    same = same_log a log other (xs, by_a) (segments, by)

    at : (rs : List Record) → other.records ≡ rs → (other.records ≡ []) ⊎ (places_of ys ≡ places_of segments)
    at [] none = inl none
    at (r ∷ rs) is =
        let some : other.records ≡ [] → ⊥ = λ none. some_not r rs (sym is ∙ none) in
        inr (same_places a b other places first at_a at_b some (subst (λ (l : Log). (l.records ≡ [] → ⊥) → first ≤ l.first) same low some) segments ys by (subst (SpellsBy b ys) same by_b))
      where
        some_not : (q : Record) (qs : List Record) → q ∷ qs ≡ [] → ⊥
        some_not q qs none = cc
