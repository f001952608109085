-- Words joined with spaces.
use Rattle.std.proofs.Common.{◌≡◌, List, [], ◌∷◌, ◌++◌, sym, ap, ◌∙◌, refl, append_assoc}
use Rattle.std.proofs.lemmas.List.{append-nil}
use Rattle.std.specs.List.{join_with_byte}
use Rattle.frs_text.specs.Text.{Text}
use Rattle.frs_text.specs.SpacedWords.{spaced_words}

pub joined_from_first : (w : Text) (ws : List Text) → join_with_byte 32 (w ∷ ws) ≡ w ++ spaced_words ws
joined_from_first w [] = sym (append-nil w)
joined_from_first w (v ∷ ws) = ap (λ t. w ++ 32 ∷ t) (joined_from_first v ws)

pub spaced-append : (vs ws : List Text) → spaced_words (vs ++ ws) ≡ spaced_words vs ++ spaced_words ws
spaced-append [] ws = refl
spaced-append (v ∷ vs) ws = ap (λ t. 32 ∷ (v ++ t)) (spaced-append vs ws) ∙ ap (λ t. 32 ∷ t) (sym (append_assoc v (spaced_words vs) (spaced_words ws)))

-- the words of a line: two numbers, and what is said
pub event_words : (a b : Text) (said answer : List Text) → join_with_byte 32 (a ∷ b ∷ said ++ answer) ≡ (a ++ 32 ∷ b) ++ (spaced_words said ++ spaced_words answer)
event_words a b said answer = joined_from_first a (b ∷ said ++ answer) ∙ ap (λ t. a ++ (32 ∷ (b ++ t))) (spaced-append said answer) ∙ sym (append_assoc a (32 ∷ b) (spaced_words said ++ spaced_words answer))

-- a line, put together in three steps
pub line_in_steps : (t u v w a b : Text) (said answer : List Text) → u ≡ t ++ (a ++ 32 ∷ b) → v ≡ u ++ (spaced_words said ++ spaced_words answer) → w ≡ v ++ 10 ∷ []
    → w ≡ t ++ (join_with_byte 32 (a ∷ b ∷ said ++ answer) ++ 10 ∷ [])
line_in_steps t u v w a b said answer h k g = rw (g, k, h, event_words) (simp append_assoc)
