-- Records that may stand one behind another, and the lowest that the newest of them names.
use Rattle.std.proofs.Common.{◌≡◌, ℕ, ◌+◌, ◌≤◌, ◌&&◌, List, [], ◌∷◌, ◌++◌, Option, Some, None, length, refl, ap, subst, arith, IsTrue}
use Rattle.std.specs.Prelude.{nat_lt, nat_le, unwrap_or, option_map}
use Rattle.std.specs.List.{last_or}
use Rattle.std.proofs.lemmas.Bool.{leb-true, and_parts, and_from}
use Rattle.frs_types.specs.declared.record.Record.{Record}
use Rattle.frs_types.specs.Records.{has_words, kind_allows, is_allowed, are_allowed_from, named_lowest}

-- a record names no lowest above its LSN
pub lowest_at_most : (n : ℕ) (r : Record) → IsTrue (is_allowed n r) → r.lowest ≤ n
lowest_at_most n r is =
    let front = and_parts (kind_allows n r.action r.tx r.named && nat_lt r.named n && nat_lt 0 r.lowest && nat_le r.lowest n) (has_words r.action) is in
    leb-true r.lowest n (and_parts (kind_allows n r.action r.tx r.named && nat_lt r.named n && nat_lt 0 r.lowest) (nat_le r.lowest n) front.0).1

-- a record behind others may stand in its place
pub allowed_at : (n : ℕ) (rs : List Record) (r : Record) (more : List Record) → IsTrue (are_allowed_from n (rs ++ r ∷ more)) → IsTrue (is_allowed (n + length rs) r)
allowed_at n [] r more all =
    let none : n ≡ n + length {A = Record} [] = omega arith in
    subst (λ (k : ℕ). IsTrue (is_allowed k r)) none (and_parts (is_allowed n r) (are_allowed_from (n + 1) more) all).0
allowed_at n (q ∷ rs) r more all =
    let rest = allowed_at (n + 1) rs r more (and_parts (is_allowed n q) (are_allowed_from (n + 1) (rs ++ r ∷ more)) all).1 in
    let same : (n + 1) + length rs ≡ n + length (q ∷ rs) = omega arith in
    subst (λ (k : ℕ). IsTrue (is_allowed k r)) same rest

-- records behind others may stand there
pub allowed_joined : (n : ℕ) (rs qs : List Record) → IsTrue (are_allowed_from n rs) → IsTrue (are_allowed_from (n + length rs) qs) → IsTrue (are_allowed_from n (rs ++ qs))
allowed_joined n [] qs all more =
    let none : n + length {A = Record} [] ≡ n = omega arith in
    subst (λ (k : ℕ). IsTrue (are_allowed_from k qs)) none more
allowed_joined n (r ∷ rs) qs all more =
    let parts = and_parts (is_allowed n r) (are_allowed_from (n + 1) rs) all in
    let same : n + length (r ∷ rs) ≡ (n + 1) + length rs = omega arith in
    and_from (is_allowed n r) (are_allowed_from (n + 1) (rs ++ qs)) parts.0 (allowed_joined (n + 1) rs qs parts.1 (subst (λ (k : ℕ). IsTrue (are_allowed_from k qs)) same more))

-- the newest record is that of the last records
pub last_behind : (o : Option Record) (front : List Record) (r : Record) (rs : List Record) → last_or o (front ++ r ∷ rs) ≡ last_or None (r ∷ rs)
last_behind o [] r rs = refl
last_behind o (q ∷ front) r rs = last_behind (Some q) front r rs

pub lowest_behind : (front rs : List Record) → (rs ≡ [] → ⊥) → named_lowest (front ++ rs) ≡ named_lowest rs
lowest_behind front [] some = absurd (some refl)
lowest_behind front (r ∷ rs) some = ap (λ (o : Option Record). unwrap_or (option_map (λ (q : Record). q.lowest) o) 1) (last_behind None front r rs)

pub lowest_behind_one : (front : List Record) (r : Record) (rs : List Record) → named_lowest (front ++ r ∷ rs) ≡ named_lowest (r ∷ rs)
lowest_behind_one front r rs = lowest_behind front (r ∷ rs) (λ none. cc)
