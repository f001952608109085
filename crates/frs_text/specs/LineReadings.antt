-- What the readers of a script give, as they see it.
use Rattle.std.specs.Prelude.{◌≡◌, ◌≤◌, ◌+◌, ◌&&◌, ℕ, Bool, IsTrue, nat_lt, List, ◌++◌, length, Option, Some, None, option_map, if◌then◌else◌}
use Rattle.frs_text.specs.Scripts.{LineMeaning, is_long, is_begin_command, is_change, is_snapshot, is_inside, count_of_changes, snapshots_of}
use Rattle.frs_history.specs.declared.command.Command.{Command}
use Rattle.frs_history.specs.declared.command.Line.{Line}
use Rattle.frs_text.specs.Scripts.LineMeaning.{Nothing, Says, Wrong}
use Rattle.frs_text.specs.declared.script_builder.TheConstants.{MOST_CHANGES}
use Rattle.frs_text.specs.declared.line_grammar.LineReading.{LineReading}
use Rattle.frs_text.specs.declared.line_grammar.LineReading.TheVariants as reading

-- the bytes with these before them
abbrev pub after_front : List ℕ → Option (List ℕ) → Option (List ℕ)
after_front front bytes = option_map (λ rest. front ++ rest) bytes

-- the bytes, where they are no more than that
abbrev pub bytes_up_to : ℕ → List ℕ → Option (List ℕ)
bytes_up_to most bytes = if nat_lt most (length bytes) then None else Some bytes

-- what a line says, as the reader has it: a command with a word above its limit has no value
abbrev pub reading_of : LineMeaning → LineReading
reading_of Nothing = reading.Nothing
reading_of (Says x) = if is_long x then reading.Long else reading.Found x
reading_of Wrong = reading.Wrong

-- what is counted of the lines so far: whether a transaction is open, its changes, and the snapshots
pub record Counts (lines : List Line) (inside : Bool) (changes snapshots : ℕ) : Type 0 where
  pub open_now : inside ≡ is_inside lines
  pub changes_so_far : IsTrue inside → changes ≡ count_of_changes lines
  pub few : changes ≤ MOST_CHANGES
  pub snapshots_so_far : snapshots ≡ snapshots_of lines

-- the changes of the transaction, and the snapshots, with one more command
abbrev pub changes_after : Bool → ℕ → Command → ℕ
changes_after inside changes x =
    if is_begin_command x then 0 else (if is_change x && inside then changes + 1 else changes)

abbrev pub snapshots_after : ℕ → Command → ℕ
snapshots_after snapshots x = if is_snapshot x then snapshots + 1 else snapshots
