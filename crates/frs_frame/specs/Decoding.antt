-- Reading a record from the front of bytes, field by field, with the first fault from the left.
use Rattle.std.specs.Prelude.{◌≡◌, ℕ, ◌+◌, Bool, nat_lt, List, length, slice_range, Option, Some, None, Result, Ok, Err, if◌then◌else◌}
use Rattle.std.specs.Int.{Width, w8, w64, byte_len, from_be_bytes}
use Rattle.frs_types.specs.declared.record.Action.{Action}
use Rattle.frs_types.specs.declared.record.Action.TheVariants as actions
use Rattle.frs_types.specs.declared.record.Record.{Record}
use Rattle.frs_types.specs.Records.{is_id_len, is_key_len, is_value_len}
use Rattle.frs_frame.specs.declared.decoding.Head.{Head}
use Rattle.frs_frame.specs.declared.kind.Kind.{Kind}
use Rattle.frs_frame.specs.declared.kind.Kind.TheVariants.{Put, Remove, Delete, Begin, Commit, Compaction, Mark, Abandon}
use Rattle.frs_frame.specs.declared.fault.FrameFault.{FrameFault}
use Rattle.frs_frame.specs.declared.fault.FrameFault.TheVariants as faults
use Rattle.frs_frame.specs.Kinds.{kind_of_byte, permits_tx, permits_named}
use Rattle.frs_frame.specs.Spelling.{id_width, key_width, value_width}

-- what was read, and the offset of the byte behind it
abbrev pub Reading : Type 0 → Type 0
Reading X = Result (X × ℕ) FrameFault

infixl 10 ◌>>=◌
abbrev pub ◌>>=◌ : {X Y : Type 0} → Reading X → (X × ℕ → Reading Y) → Reading Y
(Ok x) >>= f = f x
(Err fault) >>= f = Err fault

-- What a call answered is what reading gives; want of memory is free.
abbrev pub FailsDecoding : {Y : Type 0} → FrameFault → Reading Y → Type 0
FailsDecoding faults.Memory read = Unit {0}
FailsDecoding (faults.Kind byte) read = read ≡ Err (faults.Kind byte)
FailsDecoding (faults.Short need have) read = read ≡ Err (faults.Short need have)
FailsDecoding (faults.Field offset) read = read ≡ Err (faults.Field offset)

abbrev pub GivesDecoded : {X Y : Type 0} → (X → Y × ℕ) → Result X FrameFault → Reading Y → Type 0
GivesDecoded view (Ok x) read = read ≡ Ok (view x)
GivesDecoded view (Err fault) read = FailsDecoding fault read

-- the bytes of a field from one offset to another, where they are there
unfoldable pub field : List ℕ → ℕ → ℕ → Reading (List ℕ)
field bytes at end =
    if nat_lt (length bytes) end then Err (faults.Short end (length bytes)) else Ok (slice_range bytes at end, end)

unfoldable pub number_at : Width → List ℕ → ℕ → Reading ℕ
number_at width bytes at = field bytes at (at + byte_len width) >>= λ f. Ok (from_be_bytes width f.0, f.1)

-- a field that stands at an offset and has to pass a test
abbrev pub if_holds : {X : Type 0} → (X → Bool) → ℕ → Reading X → Reading X
if_holds test at read = read >>= λ x. if test x.0 then Ok x else Err (faults.Field at)

-- A word's length is a field of its own: it is if_holds before the word's bytes are looked for.
unfoldable pub word_at : Width → (ℕ → Bool) → List ℕ → ℕ → Reading (List ℕ)
word_at width test bytes at = if_holds test at (number_at width bytes at) >>= λ len. field bytes len.1 (len.1 + len.0)

unfoldable pub id_at : List ℕ → ℕ → Reading (List ℕ)
id_at = word_at id_width is_id_len

unfoldable pub key_at : List ℕ → ℕ → Reading (List ℕ)
key_at = word_at key_width is_key_len

unfoldable pub value_at : List ℕ → ℕ → Reading (List ℕ)
value_at = word_at value_width is_value_len

-- what stands behind the head, by the kind
unfoldable pub action_at : Kind → List ℕ → ℕ → Reading Action
action_at Put bytes at =
    id_at bytes at >>= λ i. key_at bytes i.1 >>= λ k. value_at bytes k.1 >>= λ v. Ok (actions.Put i.0 k.0 v.0, v.1)
action_at Remove bytes at = id_at bytes at >>= λ i. key_at bytes i.1 >>= λ k. Ok (actions.Remove i.0 k.0, k.1)
action_at Delete bytes at = id_at bytes at >>= λ i. Ok (actions.Delete i.0, i.1)
action_at Begin bytes at = Ok (actions.Begin, at)
action_at Commit bytes at = Ok (actions.Commit, at)
action_at Compaction bytes at =
    id_at bytes at >>= λ i. key_at bytes i.1 >>= λ k. value_at bytes k.1 >>= λ v.
    Ok (actions.Compaction i.0 k.0 v.0, v.1)
action_at Mark bytes at = Ok (actions.Mark, at)
action_at Abandon bytes at = Ok (actions.Abandon, at)

-- the kind that the first byte stands for
abbrev pub kind_or_fault : Option Kind → ℕ × ℕ → Reading Kind
kind_or_fault (Some kind) byte = Ok (kind, byte.1)
kind_or_fault None byte = Err (faults.Kind byte.0)

unfoldable pub kind_at : List ℕ → Reading Kind
kind_at bytes = number_at w8 bytes 0 >>= λ byte. kind_or_fault (kind_of_byte byte.0) byte

-- the transaction, the lowest and the named LSN, each as the kind allows it
unfoldable pub head_at : Kind → List ℕ → ℕ → Reading Head
head_at kind bytes at =
    if_holds (permits_tx kind) at (number_at w64 bytes at) >>= λ tx.
    if_holds (nat_lt 0) tx.1 (number_at w64 bytes tx.1) >>= λ lowest.
    if_holds (permits_named kind) lowest.1 (number_at w64 bytes lowest.1) >>= λ named.
    Ok (record { tx = tx.0; lowest = lowest.0; named = named.0 }, named.1)

-- the record at the front, and its length
unfoldable pub decoding_of : List ℕ → Reading Record
decoding_of bytes =
    kind_at bytes >>= λ kind. head_at kind.0 bytes kind.1 >>= λ head. action_at kind.0 bytes head.1 >>= λ action.
    Ok (record { tx = head.0.tx; lowest = head.0.lowest; named = head.0.named; action = action.0 }, action.1)
