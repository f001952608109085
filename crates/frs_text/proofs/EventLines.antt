-- The events of a legal history stand at lines of scripts, or at none.
use Rattle.std.proofs.Common.{◌≡◌, ℕ, zero, suc, ◌<◌, Bool, true, false, List, [], ◌∷◌, length, get_or, Option, Some, None, is_some, refl, subst, inl, inr, arith, nat_lt, cond}
use Rattle.std.specs.Prelude.{◌==◌, option_and_then, slice_get}
use Rattle.std.specs.List.{AllByRecursion, list_all}
use Rattle.std.proofs.lemmas.Bool.{cases_Bool, and_parts, cond-false, ltb-true, eqb-true}
use Rattle.frs_history.specs.declared.command.Command.{Command}
use Rattle.frs_history.specs.declared.command.Line.{Line}
use Rattle.frs_history.specs.declared.event.Event.{Event}
use Rattle.frs_history.specs.declared.event.What.{What}
use Rattle.frs_history.specs.declared.event.What.TheVariants as what
use Rattle.frs_history.specs.Machine.{State, Scripts, start, client, next_line, outcome}
use Rattle.frs_history.specs.Histories.{Legal, if_answers, if_waits, if_next, next_by, next, run}
use Rattle.frs_history.specs.Scripts.{rises_from, is_bracketed, is_script}
use Rattle.frs_types.specs.Maps.{Maps}

-- an answered or waiting event stands at a line, and the others at none
abbrev pub HasLineNumber : ℕ → What → Type 0
HasLineNumber n (what.Answered r) = 0 < n
HasLineNumber n what.Waits = 0 < n
HasLineNumber n what.End = n ≡ 0
HasLineNumber n (what.Reappend id key) = n ≡ 0

abbrev pub StandsAtLine : Event → Type 0
StandsAtLine e = HasLineNumber e.line e.what

-- ---- the lines of scripts have numbers above 0

above_low : (low : ℕ) (ls : List Line) (k : ℕ) (l : Line) → rises_from low ls ≡ true → slice_get ls k ≡ Some l → low < l.number
above_low low [] k l h e = cc
above_low low (x ∷ ls) zero l h e = let parts = and_parts (nat_lt low x.number) (rises_from x.number ls) h in
    let same : x ≡ l = cc in subst (λ (y : Line). low < y.number) same (ltb-true _ _ parts.0)
above_low low (x ∷ ls) (suc k) l h e = let parts = and_parts (nat_lt low x.number) (rises_from x.number ls) h in
    let first : low < x.number = ltb-true _ _ parts.0 in let rest = above_low x.number ls k l parts.1 e in omega (arith, first, rest)

of_script : (ls : List Line) (k : ℕ) (l : Line) → is_script ls ≡ true → slice_get ls k ≡ Some l → 0 < l.number
of_script ls k l h e = above_low 0 ls k l (and_parts (rises_from 0 ls) (is_bracketed false ls) h).0 e

of_scripts : (scripts : Scripts) (c k : ℕ) (l : Line) → list_all is_script scripts ≡ true → slice_get (get_or scripts c []) k ≡ Some l → 0 < l.number
of_scripts [] c k l h e = cc
of_scripts (ls ∷ scripts) zero k l h e = of_script ls k l (and_parts (is_script ls) (list_all is_script scripts) h).0 e
of_scripts (ls ∷ scripts) (suc c) k l h e = of_scripts scripts c k l (and_parts (is_script ls) (list_all is_script scripts) h).1 e

numbered : (scripts : Scripts) (s : State) (c : ℕ) (l : Line) → list_all is_script scripts ≡ true → next_line scripts s c ≡ Some l → 0 < l.number
numbered scripts s zero l h e = cc
numbered scripts s (suc c) l h e = of_scripts scripts c (client s (suc c)).done l h e

-- ---- one event

at_line : (n : ℕ) (f : Command → Option State) (o : Option Line) (t : State) → if_next n f o ≡ Some t → (l : Line) × (o ≡ Some l) × (l.number ≡ n)
at_line n f None t e = cc
at_line n f (Some l) s e = elim (cases_Bool (l.number == n)) [
  | inl t ↦ (l, refl, eqb-true _ _ t)
  | inr u ↦ let none : if_next n f (Some l) ≡ None = cond-false _ _ _ u in cc
]

tested : (b : Bool) (s t : State) → (cond b (Some s) None) ≡ Some t → b ≡ true
tested true s t e = refl
tested false s t e = cc

at_some_line : (scripts : Scripts) (s t : State) (c n : ℕ) (f : Command → Option State) → list_all is_script scripts ≡ true → if_next n f (next_line scripts s c) ≡ Some t → 0 < n
at_some_line scripts s t c n f h e = let found = at_line n f (next_line scripts s c) t e in
    subst (λ k. 0 < k) found.2 (numbered scripts s c found.0 h found.1)

placed_by : (scripts : Scripts) (s t : State) (c n : ℕ) (w : What) → list_all is_script scripts ≡ true → next_by scripts s c n w ≡ Some t → HasLineNumber n w
placed_by scripts s t c n (what.Answered r) h e = at_some_line scripts s t c n (λ x. if_answers r (outcome s c x)) h e
placed_by scripts s t c n what.Waits h e = at_some_line scripts s t c n (λ x. if_waits s c (outcome s c x)) h e
placed_by scripts s t c n what.End h e = eqb-true _ _ (and_parts _ _ (and_parts _ _ (tested _ _ _ e)).0).0
placed_by scripts s t c n (what.Reappend id key) h e = eqb-true _ _ (and_parts _ _ (and_parts _ _ (and_parts _ _ (tested _ _ _ e)).0).0).1

-- ---- all events

one_more : (scripts : Scripts) (s : State) (x : Event) (es : List Event) (o : Option State) → list_all is_script scripts ≡ true → next scripts s x ≡ o → is_some (option_and_then (λ t. run scripts t es) o) ≡ true
    → ((t : State) → is_some (run scripts t es) ≡ true → AllByRecursion StandsAtLine es) → AllByRecursion StandsAtLine (x ∷ es)
one_more scripts s x es None h is some rest = cc
one_more scripts s x es (Some t) h is some rest = (placed_by scripts s t x.client x.line x.what h is, rest t some)

all_placed : (scripts : Scripts) (s : State) (es : List Event) → list_all is_script scripts ≡ true → is_some (run scripts s es) ≡ true → AllByRecursion StandsAtLine es
all_placed scripts s [] h e = tt
all_placed scripts s (x ∷ es) h e = one_more scripts s x es (next scripts s x) h refl e (λ t some. all_placed scripts t es h some)

pub placed : (scripts : Scripts) (m : Maps) (s : ℕ) (es : List Event) → list_all is_script scripts ≡ true → Legal m s scripts es → AllByRecursion StandsAtLine es
placed scripts m s es h legal = all_placed scripts (start m s (length scripts)) es h legal
