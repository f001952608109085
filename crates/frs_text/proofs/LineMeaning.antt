-- What a line says, told from what the reader has of it.
use Rattle.std.proofs.Common.{◌≡◌, ℕ, Bool, true, false, List, Some, ◌⊎◌, inl, inr, refl, ◌∙◌}
use Rattle.std.proofs.lemmas.Bool.{cases_Bool, cond-true, cond-false}
use Rattle.frs_history.specs.declared.command.Command.{Command}
use Rattle.frs_history.specs.declared.command.Command.TheVariants as command
use Rattle.frs_history.specs.declared.command.Line.{Line}
use Rattle.frs_history.specs.Scripts.{may_stand}
use Rattle.frs_text.specs.Scripts.{LineMeaning, ScriptLimits, is_long, is_inside, fault_of}
use Rattle.frs_text.specs.Scripts.LineMeaning.{Nothing, Says, Wrong}
use Rattle.frs_text.specs.LineReadings.{reading_of}
use Rattle.frs_text.specs.declared.line_grammar.LineReading.TheVariants as reading
use Rattle.frs_text.specs.declared.script_fault.ScriptFault.TheVariants.{TooLong}

says_seen : (x : Command) → ((reading_of (Says x) ≡ reading.Long) × (is_long x ≡ true)) ⊎ ((reading_of (Says x) ≡ reading.Found x) × (is_long x ≡ false))
says_seen x = elim (cases_Bool (is_long x)) [ inl t ↦ inl (cond-true _ _ _ t, t) | inr f ↦ inr (cond-false _ _ _ f, f) ]

pub nothing_said : (s : LineMeaning) → reading_of s ≡ reading.Nothing → s ≡ Nothing
nothing_said Nothing e = refl
nothing_said Wrong e = cc
nothing_said (Says x) e = elim (says_seen x) [ inl p ↦ let q = p.0 in cc | inr p ↦ let q = p.0 in cc ]

pub wrong_said : (s : LineMeaning) → reading_of s ≡ reading.Wrong → s ≡ Wrong
wrong_said Nothing e = cc
wrong_said Wrong e = refl
wrong_said (Says x) e = elim (says_seen x) [ inl p ↦ let q = p.0 in cc | inr p ↦ let q = p.0 in cc ]

pub found_said : (s : LineMeaning) (x : Command) → reading_of s ≡ reading.Found x → s ≡ Says x
found_said Nothing x e = cc
found_said Wrong x e = cc
found_said (Says y) x e = elim (says_seen y) [ inl p ↦ let q = p.0 in cc | inr p ↦ let q = p.0 in cc ]

-- a command with words may stand anywhere
long_may_stand : (inside : Bool) (x : Command) → is_long x ≡ true → may_stand inside x ≡ true
long_may_stand inside (command.Put id key value) t = refl
long_may_stand inside (command.Remove id key) t = refl
long_may_stand inside (command.Get id key) t = refl
long_may_stand inside (command.Delete id) t = refl
long_may_stand inside (command.Begin sync) t = cc
long_may_stand inside command.Commit t = cc
long_may_stand inside command.Snapshot t = cc

pub long_fault : (allowed : ScriptLimits) (before : List Line) (n : ℕ) (s : LineMeaning) → reading_of s ≡ reading.Long → fault_of allowed before n s ≡ Some (TooLong n)
long_fault allowed before n Nothing e = cc
long_fault allowed before n Wrong e = cc
long_fault allowed before n (Says x) e = elim (says_seen x) [
  | inl p ↦ cond-true _ _ _ (long_may_stand (is_inside before) x p.1) ∙ cond-true _ _ _ p.1
  | inr p ↦ let q = p.0 in cc
]
