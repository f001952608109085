-- The kinds of records: the byte of each, and the fields that each permits wherever it stands.
use Rattle.std.specs.Prelude.{ℕ, Bool, true, ◌==◌, nat_lt, List, [], ◌∷◌, Option}
use Rattle.std.specs.List.{find}
use Rattle.frs_types.specs.declared.record.Action.{Action}
use Rattle.frs_types.specs.declared.record.Action.TheVariants as actions
use Rattle.frs_frame.specs.declared.kind.Kind.{Kind}
use Rattle.frs_frame.specs.declared.kind.Kind.TheVariants.{Put, Remove, Delete, Begin, Commit, Compaction, Mark, Abandon}

abbrev pub kind_of : Action → Kind
kind_of (actions.Put id key value) = Put
kind_of (actions.Remove id key) = Remove
kind_of (actions.Delete id) = Delete
kind_of actions.Begin = Begin
kind_of actions.Commit = Commit
kind_of (actions.Compaction id key value) = Compaction
kind_of actions.Mark = Mark
kind_of actions.Abandon = Abandon

-- the first byte of a record
abbrev pub code : Kind → ℕ
code Put = 1
code Remove = 2
code Delete = 3
code Begin = 4
code Commit = 5
code Compaction = 6
code Mark = 7
code Abandon = 8

abbrev pub kinds : List Kind
kinds = Put ∷ Remove ∷ Delete ∷ Begin ∷ Commit ∷ Compaction ∷ Mark ∷ Abandon ∷ []

-- the kind that begins with the byte
abbrev pub kind_of_byte : ℕ → Option Kind
kind_of_byte byte = find (λ k. code k == byte) kinds

-- Changes may belong to any transaction or to none, a compaction and a mark to none, and the others always name one.
abbrev pub permits_tx : Kind → ℕ → Bool
permits_tx Put tx = true
permits_tx Remove tx = true
permits_tx Delete tx = true
permits_tx Begin tx = nat_lt 0 tx
permits_tx Commit tx = nat_lt 0 tx
permits_tx Compaction tx = tx == 0
permits_tx Mark tx = tx == 0
permits_tx Abandon tx = nat_lt 0 tx

-- A put and a remove may name a record, a compaction always does, and the others never do.
abbrev pub permits_named : Kind → ℕ → Bool
permits_named Put named = true
permits_named Remove named = true
permits_named Delete named = named == 0
permits_named Begin named = named == 0
permits_named Commit named = named == 0
permits_named Compaction named = nat_lt 0 named
permits_named Mark named = named == 0
permits_named Abandon named = named == 0
