-- Scripts: what each line says, and which line is refused.
use Rattle.std.specs.Prelude.{◌≡◌, ℕ, ◌+◌, ◌-◌, ◌*◌, Bool, true, false, ◌&&◌, ◌||◌, ◌==◌, nat_lt, nat_le, List, [], ◌∷◌, ◌++◌, length, filter, fold, count_by, Option, Some, None, option_map, option_and_then, Result, Ok, Err, if◌then◌else◌, codes}
use Rattle.std.specs.List.{list_all, slice_split}
use Rattle.std.specs.Str.{bytes_eq}
use Rattle.std.specs.Str.Lines.{lines}
use Rattle.frs_history.specs.declared.command.Command.{Command}
use Rattle.frs_history.specs.declared.command.Command.TheVariants as command
use Rattle.frs_history.specs.declared.command.Line.{Line}
use Rattle.frs_history.specs.Scripts.{may_stand, inside_after}
use Rattle.frs_types.specs.declared.limits.TheConstants.{ID_LIMIT, KEY_LIMIT, VALUE_LIMIT}
use Rattle.frs_text.specs.declared.script_builder.TheConstants.{MOST_CHANGES}
use Rattle.frs_text.specs.declared.script_fault.ScriptFault.{ScriptFault}
use Rattle.frs_text.specs.declared.script_fault.ScriptFault.TheVariants.{BadLine, TooLong, TooMany, Memory}

-- ---- words

-- a space or a tab
abbrev pub is_blank : ℕ → Bool
is_blank b = (b == 32) || (b == 9)

abbrev pub is_filled : List ℕ → Bool
is_filled [] = false
is_filled (b ∷ bs) = true

-- the words of a line: what stands between blanks, where it isn't empty
abbrev pub words_of : List ℕ → List (List ℕ)
words_of line = filter is_filled (slice_split is_blank line)

-- the bytes that a command is written in, and the blanks
abbrev pub is_script_byte : ℕ → Bool
is_script_byte b = is_blank b || (nat_le 0x21 b && nat_le b 0x7E)

-- ---- escapes

-- 0 to 9, A to F, a to f
abbrev pub is_hex : ℕ → Bool
is_hex c = (nat_le 48 c && nat_le c 57) || (nat_le 65 c && nat_le c 70) || (nat_le 97 c && nat_le c 102)

abbrev pub hex_value : ℕ → ℕ
hex_value c = if nat_le c 57 then c - 48 else (if nat_le c 70 then c - 55 else c - 87)

abbrev pub with_byte : ℕ → Option (List ℕ) → Option (List ℕ)
with_byte b bs = option_map (λ rest. b ∷ rest) bs

-- The bytes for which a word stands. `%` and two digits stand for one byte, every other byte for itself.
abbrev pub escape_meaning : List ℕ → Option (List ℕ)
escape_meaning [] = Some []
escape_meaning (b ∷ []) = if b == 0x25 then None else Some (b ∷ [])
escape_meaning (b ∷ c ∷ []) = if b == 0x25 then None else with_byte b (escape_meaning (c ∷ []))
escape_meaning (b ∷ c ∷ d ∷ rest) =
    if b == 0x25
    then (if is_hex c && is_hex d then with_byte (16 * hex_value c + hex_value d) (escape_meaning rest) else None)
    else with_byte b (escape_meaning (c ∷ d ∷ rest))

-- and `%` alone stands for no bytes
abbrev pub word_meaning : List ℕ → Option (List ℕ)
word_meaning word = if bytes_eq word (0x25 ∷ []) then Some [] else escape_meaning word

abbrev pub if_filled : List ℕ → Option (List ℕ)
if_filled bytes = if is_filled bytes then Some bytes else None

-- an id or a key has at least one byte
abbrev pub name_meaning : List ℕ → Option (List ℕ)
name_meaning word = option_and_then if_filled (word_meaning word)

-- ---- commands

-- exactly one word, two or three
abbrev pub one : List (List ℕ) → Option (List ℕ)
one (a ∷ []) = Some a
one other = None

abbrev pub two : List (List ℕ) → Option (List ℕ × List ℕ)
two (a ∷ b ∷ []) = Some (a, b)
two other = None

abbrev pub three : List (List ℕ) → Option (List ℕ × List ℕ × List ℕ)
three (a ∷ b ∷ c ∷ []) = Some (a, b, c)
three other = None

-- `begin`, or `begin async`
abbrev pub begin_of : List (List ℕ) → Option Command
begin_of [] = Some (command.Begin true)
begin_of (mode ∷ []) = if bytes_eq mode (codes "async") then Some (command.Begin false) else None
begin_of other = None

-- the command, where no words follow
abbrev pub lone_command : Command → List (List ℕ) → Option Command
lone_command x [] = Some x
lone_command x (w ∷ ws) = None

-- the put of a value under an id and a key
abbrev pub put_word : List ℕ → List ℕ → List ℕ → Option Command
put_word id key word = option_map (λ value. command.Put id key value) (word_meaning word)

-- ID KEY VALUE
abbrev pub put_words : List ℕ × List ℕ × List ℕ → Option Command
put_words w = option_and_then (λ id. option_and_then (λ key. put_word id key w.2) (name_meaning w.1)) (name_meaning w.0)

-- ID KEY
abbrev pub remove_words : List ℕ × List ℕ → Option Command
remove_words w = option_and_then (λ id. option_map (λ key. command.Remove id key) (name_meaning w.1)) (name_meaning w.0)

abbrev pub get_words : List ℕ × List ℕ → Option Command
get_words w = option_and_then (λ id. option_map (λ key. command.Get id key) (name_meaning w.1)) (name_meaning w.0)

-- ID
abbrev pub delete_word : List ℕ → Option Command
delete_word w = option_map (λ id. command.Delete id) (name_meaning w)

-- the command with this name, of the words that follow the name
abbrev pub command_of : List ℕ → List (List ℕ) → Option Command
command_of name words =
    if bytes_eq name (codes "begin") then begin_of words
    else (if bytes_eq name (codes "put") then option_and_then put_words (three words)
    else (if bytes_eq name (codes "remove") then option_and_then remove_words (two words)
    else (if bytes_eq name (codes "delete") then option_and_then delete_word (one words)
    else (if bytes_eq name (codes "get") then option_and_then get_words (two words)
    else (if bytes_eq name (codes "commit") then lone_command command.Commit words
    else (if bytes_eq name (codes "snapshot") then lone_command command.Snapshot words
    else None))))))

-- ---- one line

-- a line says nothing, or a command, or something that is none
pub data LineMeaning : Type 0 where
  Nothing : LineMeaning
  Says : (x : Command) → LineMeaning
  Wrong : LineMeaning

abbrev pub meaning_of_command : Option Command → LineMeaning
meaning_of_command None = Wrong
meaning_of_command (Some x) = Says x

-- a comment begins with `#`
abbrev pub is_comment : List ℕ → Bool
is_comment [] = false
is_comment (b ∷ bs) = b == 35

abbrev pub meaning_of_words : Bool → List (List ℕ) → LineMeaning
meaning_of_words allowed [] = Nothing
meaning_of_words allowed (name ∷ words) =
    if is_comment name then Nothing else (if allowed then meaning_of_command (command_of name words) else Wrong)

-- what a line says, whose bytes all have to be allowed unless it is a comment
abbrev pub meaning_of_line : List ℕ → LineMeaning
meaning_of_line line = meaning_of_words (list_all is_script_byte line) (words_of line)

-- ---- the lines before

-- a transaction is open after these lines
abbrev pub is_inside : List Line → Bool
is_inside before = fold (λ inside (l : Line). inside_after inside l.command) false before

abbrev pub is_change : Command → Bool
is_change (command.Put id key value) = true
is_change (command.Remove id key) = true
is_change (command.Delete id) = true
is_change other = false

abbrev pub is_snapshot : Command → Bool
is_snapshot command.Snapshot = true
is_snapshot other = false

abbrev pub is_begin_command : Command → Bool
is_begin_command (command.Begin sync) = true
is_begin_command other = false

-- how many changes stand behind the last `begin`
abbrev pub count_of_changes : List Line → ℕ
count_of_changes before =
    fold (λ n (l : Line). if is_begin_command l.command then 0 else (if is_change l.command then n + 1 else n)) 0 before

abbrev pub snapshots_of : List Line → ℕ
snapshots_of before = count_by (λ (l : Line). is_snapshot l.command) before

-- ---- a file

-- how many commands a file may have, and how many snapshots
pub record ScriptLimits : Type 0 where
  pub commands : ℕ
  pub snapshots : ℕ

abbrev pub up_to : ℕ → ℕ → ScriptLimits
up_to commands snapshots = record { commands = commands; snapshots = snapshots }

-- an id, key or value is above its limit
abbrev pub is_long : Command → Bool
is_long (command.Put id key value) =
    nat_lt ID_LIMIT (length id) || nat_lt KEY_LIMIT (length key) || nat_lt VALUE_LIMIT (length value)
is_long (command.Remove id key) = nat_lt ID_LIMIT (length id) || nat_lt KEY_LIMIT (length key)
is_long (command.Get id key) = nat_lt ID_LIMIT (length id) || nat_lt KEY_LIMIT (length key)
is_long (command.Delete id) = nat_lt ID_LIMIT (length id)
is_long other = false

-- the command is one too many: of all, of the snapshots, or of the changes of its transaction
abbrev pub is_past : ScriptLimits → List Line → Command → Bool
is_past allowed before x =
    nat_le allowed.commands (length before)
    || (is_snapshot x && nat_le allowed.snapshots (snapshots_of before))
    || (is_change x && is_inside before && nat_le MOST_CHANGES (count_of_changes before))

-- why line n with this command is refused behind these lines
abbrev pub refusal : ScriptLimits → List Line → ℕ → Command → Option ScriptFault
refusal allowed before n x =
    if may_stand (is_inside before) x
    then (if is_long x then Some (TooLong n) else (if is_past allowed before x then Some (TooMany n) else None))
    else Some (BadLine n)

abbrev pub fault_of : ScriptLimits → List Line → ℕ → LineMeaning → Option ScriptFault
fault_of allowed before n Nothing = None
fault_of allowed before n Wrong = Some (BadLine n)
fault_of allowed before n (Says x) = refusal allowed before n x

-- the line with its number, where it says a command
abbrev pub numbered_line : ℕ → LineMeaning → List Line
numbered_line n Nothing = []
numbered_line n Wrong = []
numbered_line n (Says x) = record { number = n; command = x } ∷ []

abbrev pub with_fault_unless : {X : Type 0} → Option ScriptFault → Result X ScriptFault → Result X ScriptFault
with_fault_unless None result = result
with_fault_unless (Some fault) result = Err fault

-- these lines, which begin with number n, read behind those before: the first that is refused decides
abbrev pub script_after : ScriptLimits → List Line → ℕ → List (List ℕ) → Result (List Line) ScriptFault
script_after allowed before n [] = Ok before
script_after allowed before n (bytes ∷ rest) =
    with_fault_unless (fault_of allowed before n (meaning_of_line bytes))
    (script_after allowed (before ++ numbered_line n (meaning_of_line bytes)) (n + 1) rest)

-- the script of a file's bytes, or the first line that is refused
abbrev pub script_of : ScriptLimits → List ℕ → Result (List Line) ScriptFault
script_of allowed bytes = script_after allowed [] 1 (lines bytes)

-- ---- answers

-- the answer is want of memory, or this holds
abbrev pub MemoryOr : ScriptFault → Type 0 → Type 0
MemoryOr Memory P = Unit {0}
MemoryOr other P = P

-- the answer is what the bytes read as, unless there was no memory
abbrev pub Parses : Result (List Line) ScriptFault → Result (List Line) ScriptFault → Type 0
Parses (Ok script) read = read ≡ Ok script
Parses (Err fault) read = MemoryOr fault (read ≡ Err fault)
