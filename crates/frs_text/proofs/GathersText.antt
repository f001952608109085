-- Texts that are gathered and written in pieces.
use Rattle.std.proofs.Common.{◌≡◌, ℕ, ◌+◌, ◌<◌, ◌≤◌, List, [], ◌∷◌, ◌++◌, length, take, drop, get_or, sym, subst, refl, ap, ◌∙◌, append_assoc, take_all}
use Rattle.std.proofs.lemmas.List.{append-nil, take-append-drop}
use Rattle.std.proofs.lemmas.List.Concat.{flat_map-append}
use Rattle.std.proofs.lemmas.Grind.{take_at_read}
use Rattle.std.specs.List.{flat_map}
use Rattle.frs_disk.specs.Outside.{AddsPartOf}
use Rattle.frs_text.specs.Sinks.{GathersText}

-- nothing was taken
pub nothing_taken : (old text : List ℕ) → AddsPartOf text old old
nothing_taken old text = ([], text, sym (append-nil old), refl)

pub gathers_more : (o p n l t n2 l2 t2 : List ℕ) → GathersText o p n l t → GathersText n l n2 l2 t2 → GathersText o p n2 l2 (t ++ t2)
gathers_more o p n l t n2 l2 t2 a b = record {
  taken = a.taken ++ b.taken;
  appended = b.appended ∙ ap (λ x. x ++ b.taken) a.appended ∙ append_assoc o a.taken b.taken;
  rest = append_assoc a.taken b.taken l2 ∙ ap (λ x. a.taken ++ x) b.rest ∙ sym (append_assoc a.taken l t2) ∙ ap (λ x. x ++ t2) a.rest ∙ append_assoc p t t2;
}

pub adds_more : (o p n l t n2 t2 : List ℕ) → GathersText o p n l t → AddsPartOf (l ++ t2) n n2 → AddsPartOf (p ++ (t ++ t2)) o n2
adds_more o p n l t n2 t2 a b = (
  a.taken ++ b.0,
  b.1,
  b.2 ∙ ap (λ x. x ++ b.0) a.appended ∙ append_assoc o a.taken b.0,
  append_assoc a.taken b.0 b.1 ∙ ap (λ x. a.taken ++ x) b.3 ∙ sym (append_assoc a.taken l t2) ∙ ap (λ x. x ++ t2) a.rest ∙ append_assoc p t t2,
)

-- a front of a text is one of a longer text
pub adds_of_longer : (old new text more : List ℕ) → AddsPartOf text old new → AddsPartOf (text ++ more) old new
adds_of_longer old new text more a = (a.0, a.1 ++ more, a.2, sym (append_assoc a.0 a.1 more) ∙ ap (λ x. x ++ more) a.3)

-- what is gathered begins with what was taken
pub adds_of_gathered : (o p n l t : List ℕ) → GathersText o p n l t → AddsPartOf (p ++ t) o n
adds_of_gathered o p n l t a = (a.taken, l, a.appended, a.rest)

-- one more piece
pub taken_more : {X : Type 0} (f : X → List ℕ) (xs : List X) (i : ℕ) (x : X) → i < length xs → x ≡ get_or xs i x → flat_map f (take (i + 1) xs) ≡ flat_map f (take i xs) ++ f x
taken_more f xs i x lt is =
    ap (λ ys. flat_map f ys) ((take_at_read xs i x lt).1 ∙ ap (λ y. take i xs ++ y ∷ []) (sym is))
    ∙ flat_map-append f (take i xs) (x ∷ []) ∙ ap (λ t. flat_map f (take i xs) ++ t) (append-nil (f x))

-- a text in three parts: the pieces before x, that of x, and those behind it
pub in_three : {X : Type 0} (f : X → List ℕ) (xs : List X) (i : ℕ) (x : X) → i < length xs → x ≡ get_or xs i x → flat_map f xs ≡ (flat_map f (take i xs) ++ f x) ++ flat_map f (drop (i + 1) xs)
in_three f xs i x lt is =
    ap (λ ys. flat_map f ys) (sym (take-append-drop (i + 1) xs)) ∙ flat_map-append f (take (i + 1) xs) (drop (i + 1) xs)
    ∙ ap (λ t. t ++ flat_map f (drop (i + 1) xs)) (taken_more f xs i x lt is)

-- the step of a loop over the pieces
pub piece_gathered : {X : Type 0} (f : X → List ℕ) (xs : List X) (i : ℕ) (x : X) (o p n l n2 l2 : List ℕ) → i < length xs → x ≡ get_or xs i x
    → GathersText o p n l (flat_map f (take i xs)) → GathersText n l n2 l2 (f x) → GathersText o p n2 l2 (flat_map f (take (i + 1) xs))
piece_gathered f xs i x o p n l n2 l2 lt is a b = let P : List ℕ → Type 0 = λ t. GathersText o p n2 l2 t in
    subst P (sym (taken_more f xs i x lt is)) (gathers_more o p n l (flat_map f (take i xs)) n2 l2 (f x) a b)

-- the loop stopped in a piece
pub stopped_in_piece : {X : Type 0} (f : X → List ℕ) (xs : List X) (i : ℕ) (x : X) (o p n l n2 : List ℕ) → i < length xs → x ≡ get_or xs i x
    → GathersText o p n l (flat_map f (take i xs)) → AddsPartOf (l ++ f x) n n2 → AddsPartOf (p ++ flat_map f xs) o n2
stopped_in_piece f xs i x o p n l n2 lt is a b = let P : List ℕ → Type 0 = λ t. AddsPartOf t o n2 in
    subst P (append_assoc p (flat_map f (take i xs) ++ f x) (flat_map f (drop (i + 1) xs)) ∙ ap (λ t. p ++ t) (sym (in_three f xs i x lt is)))
    (adds_of_longer o n2 (p ++ (flat_map f (take i xs) ++ f x)) (flat_map f (drop (i + 1) xs)) (adds_more o p n l (flat_map f (take i xs)) n2 (f x) a b))

-- the loop has come to the end
pub all_gathered : {X : Type 0} (f : X → List ℕ) (xs : List X) (i : ℕ) (o p n l : List ℕ) → length xs ≤ i → GathersText o p n l (flat_map f (take i xs)) → GathersText o p n l (flat_map f xs)
all_gathered {X} f xs i o p n l le a = let P : List X → Type 0 = λ ys. GathersText o p n l (flat_map f ys) in subst P (take_all i xs le) a

-- two texts one after the other: the first is all there, and the second stopped
pub stopped_in_second : (o n l t n2 t2 : List ℕ) → GathersText o [] n l t → AddsPartOf (l ++ t2) n n2 → AddsPartOf (t ++ t2) o n2
stopped_in_second o n l t n2 t2 a b = adds_more o [] n l t n2 t2 a b

-- the last of what was gathered is handed on
pub stopped_at_end : (o n l t n2 : List ℕ) → GathersText o [] n l t → AddsPartOf l n n2 → AddsPartOf t o n2
stopped_at_end o n l t n2 a b = let P : List ℕ → Type 0 = λ x. AddsPartOf x o n2 in let Q : List ℕ → Type 0 = λ x. AddsPartOf x n n2 in
    subst P (append-nil t) (adds_more o [] n l t n2 [] a (subst Q (sym (append-nil l)) b))
