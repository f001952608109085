-- Records of segments that follow each other: each may stand where it does, and how far back the newest one points.
use Rattle.std.proofs.Common.{◌&&◌, ◌≡◌, ℕ, ◌+◌, ◌^◌, ◌<◌, ◌≤◌, true, false, List, [], ◌∷◌, ◌++◌, length, inl, inr, refl, sym, ap, subst, arith, IsTrue}
use Rattle.std.proofs.lemmas.List.{append-nil}
use Rattle.std.specs.List.{list_all, AllByRecursion}
use Rattle.std.proofs.Math.Dec.{ltb, leb, eqb}
use Rattle.std.proofs.lemmas.Bool.{ltb-false, lt-ltb, leb-true, le-leb, eqb-true, and_parts, and_from, and_cases, both_ways}
use Rattle.frs_types.specs.declared.record.Record.{Record}
use Rattle.frs_types.specs.Records.{is_allowed, are_allowed_from, named_lowest}
use Rattle.frs_segment.specs.Segments.{FileList, WholeSegment, records_of, all_records, end_of, follow_from, first_alone_reaches, are_enough}
use Rattle.frs_recovery.specs.Descent.{IsMeant}
use Rattle.frs_recovery.specs.FirstFault.{goes_further}
use Rattle.frs_types.proofs.Allowed.{allowed_joined, lowest_at_most, lowest_behind_one}
use Rattle.frs_segment.proofs.SpellsBy.{segment_allowed}

-- ---- each record may stand where it does

pub meant_allowed : (s : WholeSegment) → IsMeant s → IsTrue (are_allowed_from s.first (records_of s))
meant_allowed s (file, is) = segment_allowed file s is

pub all_allowed : (n : ℕ) (segments : List WholeSegment) → AllByRecursion IsMeant segments → IsTrue (follow_from n segments) → IsTrue (are_allowed_from n (all_records segments))
all_allowed n [] each follow = refl
all_allowed n (s ∷ segments) each follow =
    let both = and_parts (eqb s.first n) (follow_from (end_of s) segments) follow in
    let first : s.first ≡ n = eqb-true s.first n both.0 in
    subst (λ (m : ℕ). IsTrue (are_allowed_from m (records_of s ++ all_records segments))) first
    (allowed_joined s.first (records_of s) (all_records segments) (meant_allowed s each.0) (all_allowed (end_of s) segments each.1 both.1))

-- the newest record names an LSN that is at most its own
pub named_below : (n : ℕ) (r : Record) (rs : List Record) → IsTrue (are_allowed_from n (r ∷ rs)) → named_lowest (r ∷ rs) < n + length (r ∷ rs)
named_below n r [] h = let le = lowest_at_most n r (and_parts (is_allowed n r) true h).0 in omega arith
named_below n r (q ∷ rs) h =
    let rest : named_lowest (q ∷ rs) < (n + 1) + length (q ∷ rs) = named_below (n + 1) q rs (and_parts (is_allowed n r) (are_allowed_from (n + 1) (q ∷ rs)) h).1 in
    let e : (n + 1) + length (q ∷ rs) ≡ n + length (r ∷ q ∷ rs) = omega arith in
    subst (λ (m : ℕ). named_lowest (q ∷ rs) < m) e rest

pub meant_first : (s : WholeSegment) → IsMeant s → 1 ≤ s.first
meant_first s (file, is) = leb-true 1 s.first (and_parts (leb 1 s.number) (leb 1 s.first) (and_parts (leb 1 s.number && leb 1 s.first) (ltb s.first (2 ^ 62)) is.starts).0).1

-- ---- how far back

-- segments that follow on from n begin above what is below n
pub firsts_above : (k n : ℕ) (segments : List WholeSegment) → k < n → IsTrue (follow_from n segments) → IsTrue (list_all (λ (t : WholeSegment). ltb k t.first) segments)
firsts_above k n [] lt follow = refl
firsts_above k n (s ∷ segments) lt follow =
    let both = and_parts (eqb s.first n) (follow_from (end_of s) segments) follow in
    let first : s.first ≡ n = eqb-true s.first n both.0 in
    let here : ltb k s.first ≡ true = lt-ltb k s.first (omega (arith, first)) in
    let later : k < end_of s = omega (arith, first) in
    and_from (ltb k s.first) (list_all (λ (t : WholeSegment). ltb k t.first) segments) here (firsts_above k (end_of s) segments later both.1)

pub enough_with : (older : FileList) (segments : List WholeSegment) (r : Record) (rs : List Record) → IsTrue (first_alone_reaches (named_lowest (r ∷ rs)) segments) → IsTrue (are_enough older segments (r ∷ rs))
enough_with [] segments r rs is = is
enough_with (f ∷ older) segments r rs is = is

first_reaches : (lowest : ℕ) (s : WholeSegment) (segments : List WholeSegment) → IsTrue (list_all (λ (t : WholeSegment). ltb lowest t.first) segments) → list_all (λ (t : WholeSegment). ltb lowest t.first) (s ∷ segments) ≡ false → IsTrue (first_alone_reaches lowest (s ∷ segments))
first_reaches lowest s segments above not_all =
    elim (and_cases (ltb lowest s.first) (list_all (λ (t : WholeSegment). ltb lowest t.first) segments) not_all) [
      | inl here ↦ and_from (leb s.first lowest) (list_all (λ (t : WholeSegment). ltb lowest t.first) segments) (le-leb s.first lowest (ltb-false lowest s.first here)) above
      | inr other ↦ absurd (both_ways (list_all (λ (t : WholeSegment). ltb lowest t.first) segments) other above)
    ]

-- Where the log goes further back than some segments but no further than one in front of them, these are enough.
pub reaches : (s : WholeSegment) (segments : List WholeSegment) → IsTrue (follow_from s.first (s ∷ segments)) → IsTrue (are_allowed_from s.first (all_records (s ∷ segments))) → IsTrue (goes_further segments (all_records segments))
    → goes_further (s ∷ segments) (all_records (s ∷ segments)) ≡ false → (older : FileList) → IsTrue (are_enough older (s ∷ segments) (all_records (s ∷ segments)))
reaches s segments follow may further stops older = at (records_of s) (all_records segments) refl further stops may
  where
    behind : IsTrue (follow_from (end_of s) segments)
    behind = (and_parts (eqb s.first s.first) (follow_from (end_of s) segments) follow).1

    at : (front back : List Record) → records_of s ≡ front → IsTrue (goes_further segments back) → goes_further (s ∷ segments) (front ++ back) ≡ false → IsTrue (are_allowed_from s.first (front ++ back)) → IsTrue (are_enough older (s ∷ segments) (front ++ back))
    at [] [] is further stops may = absurd (both_ways true stops refl)
    at [] (r ∷ rs) is further stops may = enough_with older (s ∷ segments) r rs (first_reaches (named_lowest (r ∷ rs)) s segments further stops)
    at (q ∷ qs) (r ∷ rs) is further stops may =
        let same : named_lowest (r ∷ rs) ≡ named_lowest ((q ∷ qs) ++ r ∷ rs) = sym (lowest_behind_one (q ∷ qs) r rs) in
        let above = subst (λ (n : ℕ). IsTrue (list_all (λ (t : WholeSegment). ltb n t.first) segments)) same further in
        enough_with older (s ∷ segments) q (qs ++ r ∷ rs) (first_reaches (named_lowest ((q ∷ qs) ++ r ∷ rs)) s segments above stops)
    at (q ∷ qs) [] is further stops may =
        let none : (q ∷ qs) ++ [] ≡ q ∷ qs = append-nil (q ∷ qs) in
        let least : named_lowest (q ∷ qs) < s.first + length (q ∷ qs) = named_below s.first q qs (subst (λ (x : List Record). IsTrue (are_allowed_from s.first x)) none may) in
        let lower : named_lowest (q ∷ qs) < end_of s = omega (arith, least, ap length is) in
        let above = firsts_above (named_lowest (q ∷ qs)) (end_of s) segments lower behind in
        subst (λ (x : List Record). IsTrue (are_enough older (s ∷ segments) x)) (sym none)
        (enough_with older (s ∷ segments) q qs (first_reaches (named_lowest (q ∷ qs)) s segments above (subst (λ (x : List Record). goes_further (s ∷ segments) x ≡ false) none stops)))
