-- What a shelf of snapshots holds, and what is written to a sink.
use Rattle.std.specs.Prelude.{◌≡◌, ℕ, ◌^◌, max, nat_lt, Bool, List, ◌++◌, length, map, Vec}
use Rattle.std.specs.List.{fold, list_all}
use Rattle.std.specs.Ordering.{nat_cmp, ordering_then}
use Rattle.std.specs.declared.cmp.Ordering.{Ordering}
use Rattle.std.specs.declared.alloc.Global.{Global}
use Rattle.std.specs.FinMap.{FinMap, keys}

-- by the number of the snapshot, and then by that of the segment
abbrev pub shelf_cmp : ℕ × ℕ → ℕ × ℕ → Ordering
shelf_cmp a b = ordering_then (nat_cmp a.0 b.0) (nat_cmp a.1 b.1)

-- the bytes of each segment of each snapshot
abbrev pub ShelfFiles : Type 0
ShelfFiles = FinMap shelf_cmp (List ℕ)

-- the greatest of these numbers, or 0
abbrev pub greatest_of : List ℕ → ℕ
greatest_of numbers = fold max 0 numbers

-- the greatest number of a snapshot, or 0
abbrev pub greatest_snapshot : ShelfFiles → ℕ
greatest_snapshot files = greatest_of (map (λ k. k.0) (keys files))

-- the new text is the old one and a first part of these bytes
abbrev pub AddsPartOf : List ℕ → List ℕ → List ℕ → Type 0
AddsPartOf bytes old new = (written : List ℕ) × (rest : List ℕ) × (new ≡ old ++ written) × (written ++ rest ≡ bytes)

-- each file has fewer than 2^32 bytes
abbrev pub are_short : List (List ℕ × Vec ℕ Global) → Bool
are_short files = list_all (λ f. nat_lt (length f.1.items) (2 ^ 32)) files
