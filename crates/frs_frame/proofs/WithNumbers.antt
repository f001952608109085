-- Three numbers written one after the other stand where the head has them.
use Rattle.std.proofs.Common.{◌≡◌, ℕ, ◌+◌, ◌≤◌, List, [], ◌∷◌, ◌++◌, length, take, drop, refl, arith, ◌∙◌}
use Rattle.std.proofs.lemmas.List.{drop-drop}
use Rattle.std.specs.Int.{w64, to_be_bytes}
use Rattle.frs_frame.specs.Spelling.{with_numbers}

abbrev pub written : ℕ → ℕ → List ℕ → List ℕ
written at n bytes = take at bytes ++ to_be_bytes w64 n ++ drop (at + 8) bytes

pub numbers_stand : (tx lowest named : ℕ) (bytes : List ℕ) → 25 ≤ length bytes → written 17 named (written 9 lowest (written 1 tx bytes)) ≡ with_numbers tx lowest named bytes
unfolding with_numbers
numbers_stand tx lowest named [] long = absurd (omega arith)
numbers_stand tx lowest named (b ∷ bytes) long =
    let behind : drop 8 (drop 8 (drop 8 bytes)) ≡ drop 24 bytes = drop-drop 8 8 (drop 8 bytes) ∙ drop-drop 16 8 bytes in
    rw behind refl
