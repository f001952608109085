-- Which lines are a script.
use Rattle.std.specs.Prelude.{ℕ, Bool, true, false, not, ◌&&◌, nat_lt, List, [], ◌∷◌}
use Rattle.frs_history.specs.declared.command.Command.{Command}
use Rattle.frs_history.specs.declared.command.Command.TheVariants.{Begin, Commit}
use Rattle.frs_history.specs.declared.command.Line.{Line}

-- the numbers of the lines are above this one, and rise
abbrev pub rises_from : ℕ → List Line → Bool
rises_from low [] = true
rises_from low (l ∷ ls) = nat_lt low l.number && rises_from l.number ls

-- the command may stand inside a transaction, or outside
abbrev pub may_stand : Bool → Command → Bool
may_stand inside (Begin sync) = not inside
may_stand inside Commit = inside
may_stand inside other = true

-- whether what follows the command is inside a transaction
abbrev pub inside_after : Bool → Command → Bool
inside_after inside (Begin sync) = true
inside_after inside Commit = false
inside_after inside other = inside

-- each begin stands outside a transaction, and each commit inside one
abbrev pub is_bracketed : Bool → List Line → Bool
is_bracketed inside [] = true
is_bracketed inside (l ∷ ls) = may_stand inside l.command && is_bracketed (inside_after inside l.command) ls

abbrev pub is_script : List Line → Bool
is_script lines = rises_from 0 lines && is_bracketed false lines
