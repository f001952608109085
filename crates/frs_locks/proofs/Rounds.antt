-- The rounds of the walk find who is reached.
use Rattle.std.proofs.Common.{◌≡◌, ⊎_elim, ℕ, ◌+◌, ◌<◌, ◌≤◌, Bool, false, ◌||◌, ◌==◌, List, [], ◌∷◌, ◌++◌, length, map, take, get_or, sym, ◌∙◌, ap, subst, arith, add-one}
use Rattle.std.specs.List.{list_any, range_with_len}
use Rattle.std.proofs.lemmas.Bool.{cases_lt}
use Rattle.std.proofs.lemmas.List.{map_more, get_or_past}
use Rattle.std.proofs.lemmas.Simd.{map-map}
use Rattle.std.proofs.lemmas.List.FromFn.{get_or-map-range_with_len, length-map-range_with_len, map-range_with_len_more}
use Rattle.frs_types.specs.Locks.{Holder, Holders, nobody, waits_for, is_reached}
use Rattle.frs_locks.specs.Rounds.{does_lead}
use Rattle.frs_locks.proofs.NoRing.{stays_put}

pub one_more_no : (n : ℕ) (none more : List Bool) → none ≡ map (λ (d : ℕ). false) (range_with_len 0 n) → more ≡ none ++ false ∷ [] → more ≡ map (λ (d : ℕ). false) (range_with_len 0 (n + 1))
one_more_no n none more h m = m ∙ ap (λ xs. xs ++ false ∷ []) h ∙ sym (map-range_with_len_more (λ (d : ℕ). false) 0 n n (omega arith))

pub one_answer_more : (f : List ℕ → Bool) (steps : List (List ℕ)) (i : ℕ) (item : List ℕ) (more pushed : List Bool) (said : Bool) → i < length steps → item ≡ get_or steps i item
    → more ≡ map f (take i steps) → said ≡ f item → pushed ≡ more ++ said ∷ [] → pushed ≡ map f (take (i + 1) steps)
one_answer_more f steps i item more pushed said lt is h s p = p ∙ (λ j. h j ++ (s ∙ ap f is) j ∷ []) ∙ sym (map_more f steps i item lt)

-- what was found at a client is whether it reaches the goal, also where there is no such client
pub found_at : (hs : Holders) (k goal : ℕ) (leading : List Bool) → leading ≡ map (λ d. is_reached hs k d goal) (range_with_len 0 (length hs)) → (e : ℕ) → get_or leading e false ≡ is_reached hs k e goal
found_at hs k goal leading h e = ap (λ xs. get_or xs e false) h ∙ ⊎_elim
    (λ lt. get_or-map-range_with_len (λ d. is_reached hs k d goal) 0 (length hs) e e false lt (omega arith))
    (λ le. get_or_past _ e false (subst (λ n. n ≤ e) (sym (length-map-range_with_len (λ d. is_reached hs k d goal) 0 (length hs))) le)
    ∙ sym (stays_put hs e goal (ap (λ (i : Holder). i.waits) (get_or_past hs e nobody le)) k))
    (cases_lt e (length hs))

pub one_round : (hs : Holders) (k goal : ℕ) (steps : List (List ℕ)) (leading more : List Bool) → steps ≡ map (waits_for hs) (range_with_len 0 (length hs))
    → leading ≡ map (λ d. is_reached hs k d goal) (range_with_len 0 (length hs)) → more ≡ map (does_lead goal leading) steps
    → more ≡ map (λ d. is_reached hs (k + 1) d goal) (range_with_len 0 (length hs))
one_round hs k goal steps leading more s h m = m ∙ ap (map (does_lead goal leading)) s ∙ map-map _ _ _
    ∙ (λ i. map (λ d. list_any (λ e. (e == goal) || found_at hs k goal leading h e i) (waits_for hs d)) (range_with_len 0 (length hs)))
    ∙ (λ i. map (λ d. is_reached hs (sym (add-one k) i) d goal) (range_with_len 0 (length hs)))

pub count_of : (hs : Holders) (steps : List (List ℕ)) → steps ≡ map (waits_for hs) (range_with_len 0 (length hs)) → length steps ≡ length hs
count_of hs steps s = ap length s ∙ length-map-range_with_len (waits_for hs) 0 (length hs)
