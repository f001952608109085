-- Parts of a placed log.
use Rattle.std.proofs.Common.{◌≡◌, ℕ, ◌+◌, ◌<◌, ◌≤◌, true, List, [], ◌∷◌, ◌++◌, length, Option, Some, refl, subst, arith, IsTrue}
use Rattle.std.specs.Prelude.{nat_lt, nat_le, ◌&&◌, unwrap_or, option_map}
use Rattle.std.specs.List.{last_or}
use Rattle.std.proofs.lemmas.Bool.{and_parts, and_from, leb-true, ltb-true}
use Rattle.frs_types.specs.declared.record.Record.{Record}
use Rattle.frs_types.specs.Records.{is_allowed, are_allowed_from, are_placed_from, named_lowest, kind_allows, has_words}
use Rattle.frs_types.proofs.Allowed.{lowest_at_most}

pub placed_front : (low n : ℕ) (rs qs : List Record) → are_placed_from low n (rs ++ qs) ≡ true → are_placed_from low n rs ≡ true
placed_front low n [] qs all = refl
placed_front low n (r ∷ rs) qs all =
    let both = and_parts (is_allowed n r && nat_le low r.lowest) (are_placed_from r.lowest (n + 1) (rs ++ qs)) all in
    and_from _ _ both.0 (placed_front r.lowest (n + 1) rs qs both.1)

pub placed_allowed : (low n : ℕ) (rs : List Record) → are_placed_from low n rs ≡ true → are_allowed_from n rs ≡ true
placed_allowed low n [] all = refl
placed_allowed low n (r ∷ rs) all =
    let both = and_parts (is_allowed n r && nat_le low r.lowest) (are_placed_from r.lowest (n + 1) rs) all in
    and_from _ _ (and_parts (is_allowed n r) (nat_le low r.lowest) both.0).0 (placed_allowed r.lowest (n + 1) rs both.1)

pub allowed_back : (n : ℕ) (rs qs : List Record) → are_allowed_from n (rs ++ qs) ≡ true → are_allowed_from (n + length rs) qs ≡ true
allowed_back n [] qs all = subst (λ (k : ℕ). are_allowed_from k qs ≡ true) (omega arith) all
allowed_back n (r ∷ rs) qs all =
    let both = and_parts (is_allowed n r) (are_allowed_from (n + 1) (rs ++ qs)) all in
    subst (λ (k : ℕ). are_allowed_from k qs ≡ true) (omega arith) (allowed_back (n + 1) rs qs both.1)

pub allowed_front : (n : ℕ) (rs qs : List Record) → are_allowed_from n (rs ++ qs) ≡ true → are_allowed_from n rs ≡ true
allowed_front n [] qs all = refl
allowed_front n (r ∷ rs) qs all =
    let both = and_parts (is_allowed n r) (are_allowed_from (n + 1) (rs ++ qs)) all in
    and_from _ _ both.0 (allowed_front (n + 1) rs qs both.1)

-- the lowest that the newest of these names, where an earlier one names that of o
abbrev pub lowest_or : ℕ → List Record → ℕ
lowest_or low [] = low
lowest_or low (r ∷ rs) = lowest_or r.lowest rs

pub lowest_last : (r : Record) (rs : List Record) → unwrap_or (option_map (λ (q : Record). q.lowest) (last_or (Some r) rs)) 1 ≡ lowest_or r.lowest rs
lowest_last r [] = refl
lowest_last r (q ∷ rs) = lowest_last q rs

pub lowest_cons : (r : Record) (rs : List Record) → named_lowest (r ∷ rs) ≡ lowest_or r.lowest rs
lowest_cons r rs = lowest_last r rs

lowest_rises : (low n : ℕ) (rs : List Record) → are_placed_from low n rs ≡ true → low ≤ lowest_or low rs
lowest_rises low n [] all = omega arith
lowest_rises low n (r ∷ rs) all =
    let both = and_parts (is_allowed n r && nat_le low r.lowest) (are_placed_from r.lowest (n + 1) rs) all in
    let up : low ≤ r.lowest = leb-true low r.lowest (and_parts (is_allowed n r) (nat_le low r.lowest) both.0).1 in
    omega (arith, up, lowest_rises r.lowest (n + 1) rs both.1)

lowest_append : (low n : ℕ) (rs qs : List Record) → are_placed_from low n (rs ++ qs) ≡ true → lowest_or low rs ≤ lowest_or low (rs ++ qs)
lowest_append low n [] qs all = lowest_rises low n qs all
lowest_append low n (r ∷ rs) qs all =
    let both = and_parts (is_allowed n r && nat_le low r.lowest) (are_placed_from r.lowest (n + 1) (rs ++ qs)) all in
    lowest_append r.lowest (n + 1) rs qs both.1

positive : (low n : ℕ) (r : Record) (rs : List Record) → are_placed_from low n (r ∷ rs) ≡ true → 0 < r.lowest
positive low n r rs all =
    let both = and_parts (is_allowed n r && nat_le low r.lowest) (are_placed_from r.lowest (n + 1) rs) all in
    let may = (and_parts (is_allowed n r) (nat_le low r.lowest) both.0).0 in
    let four = (and_parts (kind_allows n r.action r.tx r.named && nat_lt r.named n && nat_lt 0 r.lowest && nat_le r.lowest n) (has_words r.action) may).0 in
    let three = (and_parts (kind_allows n r.action r.tx r.named && nat_lt r.named n && nat_lt 0 r.lowest) (nat_le r.lowest n) four).0 in
    ltb-true 0 r.lowest (and_parts (kind_allows n r.action r.tx r.named && nat_lt r.named n) (nat_lt 0 r.lowest) three).1

-- records that begin at the lowest that the newest of the first ones names begin at or below the lowest that the newest names
pub first_below : (low n first : ℕ) (rs qs : List Record) → are_placed_from low n (rs ++ qs) ≡ true → first ≡ named_lowest rs → (rs ++ qs ≡ [] → ⊥) → first ≤ named_lowest (rs ++ qs)
first_below low n first [] [] all is some = absurd (some refl)
first_below low n first [] (q ∷ qs) all is some =
    let low_q : 0 < q.lowest = positive low n q qs all in
    let both = and_parts (is_allowed n q && nat_le low q.lowest) (are_placed_from q.lowest (n + 1) qs) all in
    omega (arith, is, low_q, lowest_cons q qs, lowest_rises q.lowest (n + 1) qs both.1)
first_below low n first (r ∷ rs) qs all is some =
    let both = and_parts (is_allowed n r && nat_le low r.lowest) (are_placed_from r.lowest (n + 1) (rs ++ qs)) all in
    omega (arith, is, lowest_cons r rs, lowest_cons r (rs ++ qs), lowest_append r.lowest (n + 1) rs qs both.1)

abbrev named_lowest_or : Option Record → List Record → ℕ
named_lowest_or o rs = unwrap_or (option_map (λ (r : Record). r.lowest) (last_or o rs)) 1

newest_lowest : (n : ℕ) (q : Record) (rs : List Record) → q.lowest < n → IsTrue (are_allowed_from n rs) → named_lowest_or (Some q) rs < n + length rs
newest_lowest n q [] lt all = omega (arith, lt)
newest_lowest n q (r ∷ rs) lt all =
    let parts = and_parts (is_allowed n r) (are_allowed_from (n + 1) rs) all in
    omega (arith, newest_lowest (n + 1) r rs (omega (arith, lowest_at_most n r parts.0)) parts.1)

-- the newest record names no lowest above its own LSN
pub named_below : (n : ℕ) (rs : List Record) → (rs ≡ [] → ⊥) → IsTrue (are_allowed_from n rs) → named_lowest rs < n + length rs
named_below n [] some all = absurd (some refl)
named_below n (r ∷ rs) some all =
    let parts = and_parts (is_allowed n r) (are_allowed_from (n + 1) rs) all in
    omega (arith, newest_lowest (n + 1) r rs (omega (arith, lowest_at_most n r parts.0)) parts.1)
