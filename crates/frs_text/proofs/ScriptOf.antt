-- What bytes read as is a script: its numbers rise, and its transactions begin before they end.
use Rattle.std.proofs.Common.{◌≡◌, ℕ, ◌+◌, ◌<◌, ◌≤◌, Bool, true, false, ◌&&◌, nat_lt, List, [], ◌∷◌, ◌++◌, Some, None, Ok, Option, Result, inl, inr, refl, sym, subst, length, arith}
use Rattle.std.specs.Prelude.{IsTrue}
use Rattle.std.proofs.lemmas.List.{append-nil}
use Rattle.std.specs.List.{fold}
use Rattle.std.specs.Str.Lines.{lines}
use Rattle.std.proofs.lemmas.Bool.{and_parts, and_from, cases_Bool, cond-false, lt-ltb, ltb-true}
use Rattle.frs_history.specs.declared.command.Command.{Command}
use Rattle.frs_history.specs.declared.command.Line.{Line}
use Rattle.frs_history.specs.Scripts.{rises_from, may_stand, inside_after, is_bracketed, is_script}
use Rattle.frs_text.specs.Scripts.{LineMeaning, ScriptLimits, is_inside, refusal, fault_of, numbered_line, meaning_of_line, with_fault_unless, script_after, script_of}
use Rattle.frs_text.specs.Scripts.LineMeaning.{Nothing, Says, Wrong}
use Rattle.frs_text.specs.declared.script_fault.ScriptFault.{ScriptFault}
use Rattle.frs_text.specs.declared.script_fault.ScriptFault.TheVariants.{BadLine}

-- the numbers of the lines are below n
abbrev all_below : ℕ → List Line → Bool
all_below n [] = true
all_below n (l ∷ ls) = nat_lt l.number n && all_below n ls

all_below-more : (n m : ℕ) (ls : List Line) → n ≤ m → IsTrue (all_below n ls) → IsTrue (all_below m ls)
all_below-more n m [] le h = refl
all_below-more n m (l ∷ ls) le h = let parts = and_parts (nat_lt l.number n) (all_below n ls) h in
    and_from _ _ (lt-ltb _ _ (omega (arith, ltb-true _ _ parts.0))) (all_below-more n m ls le parts.1)

all_below-push : (n : ℕ) (ls : List Line) (x : Command) → IsTrue (all_below n ls) → IsTrue (all_below (n + 1) (ls ++ (record { number = n; command = x }) ∷ []))
all_below-push n [] x h = and_from _ _ (lt-ltb _ _ (omega arith)) refl
all_below-push n (l ∷ ls) x h = let parts = and_parts (nat_lt l.number n) (all_below n ls) h in
    and_from _ _ (lt-ltb _ _ (omega (arith, ltb-true _ _ parts.0))) (all_below-push n ls x parts.1)

rises-push : (low n : ℕ) (ls : List Line) (x : Command) → low < n → IsTrue (rises_from low ls) → IsTrue (all_below n ls) → IsTrue (rises_from low (ls ++ (record { number = n; command = x }) ∷ []))
rises-push low n [] x lt h b = and_from _ _ (lt-ltb _ _ lt) refl
rises-push low n (l ∷ ls) x lt h b = let parts = and_parts (nat_lt low l.number) (rises_from l.number ls) h in let others = and_parts (nat_lt l.number n) (all_below n ls) b in
    and_from _ _ parts.0 (rises-push l.number n ls x (ltb-true _ _ others.0) parts.1 others.1)

-- a transaction is open behind these lines, where it was before
abbrev inside_from : Bool → List Line → Bool
inside_from inside ls = fold (λ i (l : Line). inside_after i l.command) inside ls

bracketed-push : (inside : Bool) (n : ℕ) (ls : List Line) (x : Command) → IsTrue (is_bracketed inside ls) → may_stand (inside_from inside ls) x ≡ true → IsTrue (is_bracketed inside (ls ++ (record { number = n; command = x }) ∷ []))
bracketed-push inside n [] x h may = and_from _ _ may refl
bracketed-push inside n (l ∷ ls) x h may = let parts = and_parts (may_stand inside l.command) (is_bracketed (inside_after inside l.command) ls) h in
    and_from _ _ parts.0 (bracketed-push (inside_after inside l.command) n ls x parts.1 may)

-- a script, whose numbers are below n
abbrev IsScriptBelow : ℕ → List Line → Type 0
IsScriptBelow n ls = IsTrue (rises_from 0 ls) × IsTrue (is_bracketed false ls) × IsTrue (all_below n ls)

not_refused : (allowed : ScriptLimits) (before : List Line) (n : ℕ) (x : Command) → refusal allowed before n x ≡ None → may_stand (is_inside before) x ≡ true
not_refused allowed before n x e = elim (cases_Bool (may_stand (is_inside before) x)) [ inl t ↦ t | inr f ↦ let bad : refusal allowed before n x ≡ Some (BadLine n) = cond-false _ _ _ f in cc ]

one_more : (allowed : ScriptLimits) (before : List Line) (n : ℕ) (s : LineMeaning) → 0 < n → fault_of allowed before n s ≡ None → IsScriptBelow n before → IsScriptBelow (n + 1) (before ++ numbered_line n s)
one_more allowed before n Nothing lt e h = let P : List Line → Type 0 = λ ls. IsScriptBelow (n + 1) ls in subst P (sym (append-nil before)) (h.0, h.1, all_below-more n (n + 1) before (omega arith) h.2)
one_more allowed before n Wrong lt e h = cc
one_more allowed before n (Says x) lt e h = (rises-push 0 n before x lt h.0 h.2, bracketed-push false n before x h.1 (not_refused allowed before n x e), all_below-push n before x h.2)

after_unless : (fault : Option ScriptFault) (rest : Result (List Line) ScriptFault) (ls : List Line) → with_fault_unless fault rest ≡ Ok ls → (fault ≡ None) × (rest ≡ Ok ls)
after_unless None rest ls e = (refl, e)
after_unless (Some fault) rest ls e = cc

after_is_script : (allowed : ScriptLimits) (before : List Line) (n : ℕ) (texts : List (List ℕ)) (ls : List Line) → 0 < n → IsScriptBelow n before → script_after allowed before n texts ≡ Ok ls → IsTrue (is_script ls)
after_is_script allowed before n [] ls lt h e = let same : before ≡ ls = cc in let P : List Line → Type 0 = λ x. IsTrue (is_script x) in subst P same (and_from _ _ h.0 h.1)
after_is_script allowed before n (text ∷ texts) ls lt h e =
    let both = after_unless (fault_of allowed before n (meaning_of_line text)) (script_after allowed (before ++ numbered_line n (meaning_of_line text)) (n + 1) texts) ls e in
    after_is_script allowed (before ++ numbered_line n (meaning_of_line text)) (n + 1) texts ls (omega arith) (one_more allowed before n (meaning_of_line text) lt both.0 h) both.1

-- what the bytes of a file read as is a script
pub is_script-script_of : (allowed : ScriptLimits) (bytes : List ℕ) (ls : List Line) → script_of allowed bytes ≡ Ok ls → IsTrue (is_script ls)
is_script-script_of allowed bytes ls e = after_is_script allowed [] 1 (lines bytes) ls (omega arith) (refl, refl, refl) e

-- the reader has come to the end
pub read_to_end : (allowed : ScriptLimits) (read : List Line) (n : ℕ) (rest bytes : List ℕ) → length rest ≡ 0 → script_after allowed read n (lines rest) ≡ script_of allowed bytes → IsTrue (is_script read)
read_to_end allowed read n [] bytes e goes_on = is_script-script_of allowed bytes read (sym goes_on)
read_to_end allowed read n (x ∷ xs) bytes e goes_on = absurd (omega (arith, e))
