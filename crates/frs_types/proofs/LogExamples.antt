-- Two logs, computed: the fields that their records must carry, and records that may not stand where they do.
use Rattle.std.proofs.Common.{◌≡◌, ℕ, ◌+◌, ◌-◌, zero, suc, List, [], ◌∷◌, ◌++◌, true, false, refl, map}
use Rattle.std.specs.Prelude.{codes}
use Rattle.frs_types.specs.declared.record.Action.{Action}
use Rattle.frs_types.specs.declared.record.Action.TheVariants.{Put, Remove, Delete, Begin, Commit, Compaction, Mark, Abandon}
use Rattle.frs_types.specs.declared.record.Record.{Record}
use Rattle.frs_types.specs.Records.{is_allowed, well_formed, IsPlaced, are_placed_from, next_lsn, named_lowest}
use Rattle.frs_types.specs.Lawful.{are_lawful, is_lawful, settled_state, state_after}

abbrev pub rec : ℕ → ℕ → ℕ → Action → Record
rec tx lowest named action = record { tx = tx; lowest = lowest; named = named; action = action }

abbrev m : List ℕ
m = codes "m"

abbrev k : List ℕ
k = codes "k"

-- ---- a put, and a transaction that puts, removes and puts the same key

-- The opening mark, LSN 1, and the first seven records behind it; the last one is the closing mark.
abbrev transaction : List Record
transaction =
    rec 0 1 0 Mark ∷ rec 0 2 0 (Put m k (codes "z")) ∷ rec 3 2 0 Begin ∷ rec 3 2 2 (Put m k (codes "a")) ∷ rec 3 2 4 (Remove m k)
    ∷ rec 3 2 0 (Put m k (codes "b")) ∷ rec 3 2 0 Commit ∷ rec 0 6 0 Mark ∷ []

transaction_placed : IsPlaced (record { first = 1; records = transaction })
transaction_placed = refl

transaction_next : next_lsn (record { first = 1; records = transaction }) ≡ 9
transaction_next = refl

transaction_lowest : named_lowest transaction ≡ 6
transaction_lowest = refl

-- The records' fields are those that the state before each asks for.
transaction_lawful : are_lawful (settled_state [] 1) transaction ≡ true
transaction_lawful = refl

-- ---- a begin that keeps the lowest while one key is put seventy times

-- puts of one key, from an LSN on, each of which names the one before it
abbrev puts_again : ℕ → ℕ → List Record
puts_again lsn zero = []
puts_again lsn (suc n) = rec 0 2 (lsn - 1) (Put m (codes "c") (codes "v")) ∷ puts_again (lsn + 1) n

-- LSN 2 is an old put, and LSN 75 writes it again; the transaction that began at LSN 3 commits behind it.
abbrev held_back : List Record
held_back =
    rec 0 1 0 Mark ∷ rec 0 2 0 (Put m (codes "a") (codes "x")) ∷ rec 3 2 0 Begin ∷ rec 3 2 0 (Put m (codes "b") (codes "y"))
    ∷ rec 0 2 0 (Put m (codes "c") (codes "v")) ∷ puts_again 6 69 ++ rec 0 2 2 (Compaction m (codes "a") (codes "x")) ∷ rec 3 3 0 Commit ∷ []

held_back_placed : IsPlaced (record { first = 1; records = held_back })
held_back_placed = refl

held_back_next : next_lsn (record { first = 1; records = held_back }) ≡ 77
held_back_next = refl

held_back_lowest : named_lowest held_back ≡ 3
held_back_lowest = refl

held_back_lawful : are_lawful (settled_state [] 1) held_back ≡ true
held_back_lawful = refl

-- ---- records that may not stand where they do

-- Each breaks one rule of its place: its transaction, its lowest or what it names.
misplaced : map (λ (p : ℕ × Record). is_allowed p.0 p.1)
    ((3, rec 3 2 0 (Put m k (codes "a"))) ∷ (3, rec 2 2 0 Begin) ∷ (3, rec 2 4 0 Commit) ∷ (3, rec 2 0 0 Commit) ∷ (3, rec 0 2 3 (Remove m k))
    ∷ (3, rec 0 2 2 (Delete m)) ∷ (3, rec 0 2 0 Commit) ∷ (3, rec 0 2 0 Abandon) ∷ (3, rec 2 2 0 Mark) ∷ (3, rec 0 2 0 (Compaction m k [])) ∷ (3, rec 2 2 2 (Compaction m k [])) ∷ [])
    ≡ false ∷ false ∷ false ∷ false ∷ false ∷ false ∷ false ∷ false ∷ false ∷ false ∷ false ∷ []
misplaced = refl

-- A begin may carry any transaction but 0 where its place isn't known.
begin_anywhere : well_formed (rec 2 2 0 Begin) ≡ true
begin_anywhere = refl

-- The lowest never falls.
falling : are_placed_from 0 5 (rec 0 4 0 Mark ∷ rec 0 3 0 Mark ∷ []) ≡ false
falling = refl

-- ---- other fields than those of the first log

-- the log up to its put of LSN 4
abbrev before_put : List Record
before_put = rec 0 1 0 Mark ∷ rec 0 2 0 (Put m k (codes "z")) ∷ rec 3 2 0 Begin ∷ []

-- Next may come a put that names LSN 2 and carries lowest 2, and no other.
one_put_follows : map (λ (p : ℕ × ℕ). is_lawful (state_after (settled_state [] 1) before_put) (rec 3 p.0 p.1 (Put m k (codes "a")))) ((2, 2) ∷ (2, 0) ∷ (2, 3) ∷ (1, 2) ∷ (3, 2) ∷ []) ≡ true ∷ false ∷ false ∷ false ∷ false ∷ []
one_put_follows = refl
