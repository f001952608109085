-- The bytes of a record: its kind, its three numbers and what its action holds. Numbers are big-endian.
use Rattle.std.specs.Prelude.{ℕ, List, [], ◌∷◌, ◌++◌, length, take, drop}
use Rattle.std.specs.Int.{Width, w8, w16, w64, to_be_bytes}
use Rattle.frs_types.specs.declared.record.Action.{Action}
use Rattle.frs_types.specs.declared.record.Action.TheVariants.{Put, Remove, Delete, Begin, Commit, Compaction, Mark, Abandon}
use Rattle.frs_types.specs.declared.record.Record.{Record}
use Rattle.frs_frame.specs.declared.encoding.TheConstants.{RECORD_HEAD}
use Rattle.frs_frame.specs.declared.kind.Kind.{Kind}
use Rattle.frs_frame.specs.Kinds.{kind_of, code}

-- the widths of the lengths that stand before words
abbrev pub id_width : Width
id_width = w8

abbrev pub key_width : Width
key_width = w8

abbrev pub value_width : Width
value_width = w16

-- a word is its length and its bytes
abbrev pub word_bytes : Width → List ℕ → List ℕ
word_bytes width word = to_be_bytes width (length word) ++ word

-- what stands behind the head, by the kind
abbrev pub payload : Action → List ℕ
payload (Put id key value) = word_bytes id_width id ++ word_bytes key_width key ++ word_bytes value_width value
payload (Remove id key) = word_bytes id_width id ++ word_bytes key_width key
payload (Delete id) = word_bytes id_width id
payload Begin = []
payload Commit = []
payload (Compaction id key value) = word_bytes id_width id ++ word_bytes key_width key ++ word_bytes value_width value
payload Mark = []
payload Abandon = []

-- the three numbers of the head: the transaction, the lowest and the named LSN
abbrev pub numbers : ℕ → ℕ → ℕ → List ℕ
numbers tx lowest named = to_be_bytes w64 tx ++ to_be_bytes w64 lowest ++ to_be_bytes w64 named

-- the head of a record of that kind, with its three numbers 0
abbrev pub blank_head : Kind → List ℕ
blank_head kind = code kind ∷ numbers 0 0 0

-- the bytes of a record
unfoldable pub spelling : Record → List ℕ
spelling r = code (kind_of r.action) ∷ numbers r.tx r.lowest r.named ++ payload r.action

-- the record of an action with no number yet
abbrev pub without_numbers : Action → Record
without_numbers action = record { tx = 0; lowest = 0; named = 0; action = action }

-- the bytes of a record with other numbers in its head
unfoldable pub with_numbers : ℕ → ℕ → ℕ → List ℕ → List ℕ
with_numbers tx lowest named bytes = take 1 bytes ++ numbers tx lowest named ++ drop RECORD_HEAD bytes
