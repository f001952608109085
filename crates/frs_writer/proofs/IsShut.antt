-- What the calls of a chunk do to the end of a file.
use Rattle.std.proofs.Common.{◌≡◌, ◌≢◌, ◌⊎◌, inl, inr, ℕ, ◌+◌, List, [], ◌∷◌, ◌++◌, length, take, drop, Option, Some, None, IsSomeAnd, sym, ◌∙◌, ap, subst, arith, append_assoc, length-append, length-take-le}
use Rattle.std.specs.Prelude.{slice_set, unwrap_or}
use Rattle.std.proofs.lemmas.Bool.{cases_eq}
use Rattle.std.proofs.lemmas.List.{take_all, take_at, drop_all, append-nil, set_at}
use Rattle.frs_disk.specs.Disk.{bytes_after_write}
use Rattle.frs_segment.specs.Front.{HasAnyGate}
use Rattle.frs_writer.specs.Gates.{IsShut}
use Rattle.frs_writer.specs.Gates.{IsAtGate}

-- the bytes before the gate
pub at_gate : (file : Option (List ℕ)) (gate_at : ℕ) → IsAtGate gate_at file
    → (file ≡ Some (take gate_at (unwrap_or file []) ++ 0 ∷ [])) × (length (take gate_at (unwrap_or file [])) ≡ gate_at) × (length (unwrap_or file []) ≡ gate_at + 1)
at_gate None gate_at is = absurd is
at_gate (Some b) gate_at is = (ap Some is.0, length-take-le gate_at b (omega (arith, is.1)), is.1)

-- a closed gate behind the front, and whatever behind it
pub shut : (front : List ℕ) (gate : ℕ) (body : List ℕ) → gate ≢ 1 → IsShut front (Some (front ++ gate ∷ body))
shut front gate body other =
    (gate, other, ap (take (length front + 1)) (sym (append_assoc front (gate ∷ []) body)) ∙ take_at (front ++ gate ∷ []) body (length front + 1) (length-append front (gate ∷ [])))

module _ (front : List ℕ) (gate_at : ℕ) (size : length front ≡ gate_at) where
  pub put_bytes : (body bytes : List ℕ) → bytes ≡ front ++ 0 ∷ [] → bytes_after_write (gate_at + 1) body bytes ≡ front ++ 0 ∷ body
  put_bytes body bytes is =
      let long : length bytes ≡ gate_at + 1 = ap length is ∙ omega (arith, length-append front (0 ∷ []), size) in
      ap (λ (l : List ℕ). l ++ body ++ drop (gate_at + 1 + length body) bytes) (take_all (gate_at + 1) bytes (omega (arith, long)))
      ∙ ap (λ (l : List ℕ). bytes ++ body ++ l) (drop_all (gate_at + 1 + length body) bytes (omega (arith, long)))
      ∙ append-nil (bytes ++ body) ∙ ap (λ (l : List ℕ). l ++ body) is ∙ append_assoc front (0 ∷ []) body

  pub set_gate : (gate : ℕ) (body : List ℕ) → slice_set (front ++ 0 ∷ body) gate_at gate ≡ front ++ gate ∷ body
  set_gate gate body = set_at front 0 body gate gate_at size

  pub shut_stage : (bytes : List ℕ) (file : Option (List ℕ)) → bytes ≡ front ++ 0 ∷ [] → IsSomeAnd file (λ b. take (gate_at + 1) b ≡ take (gate_at + 1) bytes) → IsShut front file
  shut_stage bytes None is has = absurd has
  shut_stage bytes (Some b) is has =
      let long : length (front ++ 0 ∷ []) ≡ gate_at + 1 = omega (arith, length-append front (0 ∷ []), size) in
      let whole : take (gate_at + 1) bytes ≡ front ++ 0 ∷ [] = ap (take (gate_at + 1)) is ∙ take_all (gate_at + 1) (front ++ 0 ∷ []) (omega (arith, long)) in
      (0, omega arith, ap (λ (n : ℕ). take (n + 1) b) size ∙ has ∙ whole)

  -- any gate before a whole chunk
  pub gate_stage : (body : List ℕ) (file : Option (List ℕ)) → HasAnyGate gate_at (front ++ 0 ∷ body) file → IsShut front file ⊎ (file ≡ Some (front ++ 1 ∷ body))
  gate_stage body file has =
      let is : file ≡ Some (front ++ has.0 ∷ body) = has.1 ∙ ap Some (set_gate has.0 body) in
      elim (cases_eq has.0 1) [
        | inl one ↦ inr (is ∙ ap (λ (g : ℕ). Some (front ++ g ∷ body)) one)
        | inr other ↦ inl (subst (IsShut front) (sym is) (shut front has.0 body other))
      ]
