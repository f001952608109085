-- The end of a segment while a chunk is written behind it.
use Rattle.std.specs.Prelude.{◌≡◌, ◌≢◌, ℕ, ◌+◌, List, [], ◌∷◌, ◌++◌, length, take, Option, IsSomeAnd}
use Rattle.frs_segment.specs.Front.{chunk_head}

-- the file ends in a closed gate at this place
abbrev pub IsAtGate : ℕ → Option (List ℕ) → Type 0
IsAtGate gate_at file = IsSomeAnd file (λ bytes. bytes ≡ take gate_at bytes ++ 0 ∷ [] × (length bytes ≡ gate_at + 1))

-- the file begins with these bytes and a closed gate
abbrev pub IsShut : List ℕ → Option (List ℕ) → Type 0
IsShut front file = IsSomeAnd file (λ bytes. (gate : ℕ) × (gate ≢ 1)
    × (take (length front + 1) bytes ≡ front ++ gate ∷ []))

-- what is behind the gate of a chunk: the head, the records, and the closed gate of the next one
abbrev pub sealed_chunk : ℕ → ℕ → List ℕ → List ℕ
sealed_chunk first count body = chunk_head (length body) count first ++ body ++ 0 ∷ []
