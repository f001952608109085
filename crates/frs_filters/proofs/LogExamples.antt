-- What survives in logs, and their lowest, computed by the definitions.
use Rattle.std.proofs.Common.{◌≡◌, ℕ, ◌+◌, zero, suc, List, [], ◌∷◌, ◌++◌, refl}
use Rattle.std.specs.Prelude.{codes, decimal}
use Rattle.std.specs.Fmt.{digits}
use Rattle.frs_types.proofs.LogExamples.{rec}
use Rattle.frs_types.specs.declared.record.Action.{Action}
use Rattle.frs_types.specs.declared.record.Action.TheVariants.{Put, Remove, Delete, Begin, Commit, Compaction, Mark, Abandon}
use Rattle.frs_types.specs.declared.record.Record.{Record}
use Rattle.frs_types.specs.declared.record.Entry.{Entry}
use Rattle.frs_types.specs.Records.{Log, from_lowest}
use Rattle.frs_types.specs.Survivors.{survivors, lowest_of}

abbrev entry : List ℕ → List ℕ → ℕ → Entry
entry key value lsn = record { id = codes "m"; key = key; value = value; lsn = lsn }

abbrev from_one : List Record → Log
from_one records = record { first = 1; records = records }

abbrev put : List ℕ → List ℕ → Action
put key value = Put (codes "m") key value

abbrev a : List ℕ
a = codes "a"

abbrev b : List ℕ
b = codes "b"

abbrev c : List ℕ
c = codes "c"

abbrev k : List ℕ
k = codes "k"

-- ---- a put, and a transaction that puts, removes and puts the same key

abbrev begun : List Record
begun = rec 0 1 0 Mark ∷ rec 0 2 0 (put k (codes "z")) ∷ rec 3 2 0 Begin ∷ rec 3 2 2 (put k (codes "a")) ∷ rec 3 2 4 (Remove (codes "m") k) ∷ []

abbrev put_again : Log
put_again = from_one (begun ++ rec 3 2 0 (put k (codes "b")) ∷ rec 3 2 0 Commit ∷ [])

put_again_leaves : survivors put_again ≡ entry k (codes "b") 6 ∷ []
put_again_leaves = refl

put_again_lowest : lowest_of put_again ≡ 6
put_again_lowest = refl

-- without its last put: LSN 4 is skipped, and still names LSN 2
abbrev removed : Log
removed = from_one (begun ++ rec 3 2 0 Commit ∷ [])

removed_leaves : survivors removed ≡ []
removed_leaves = refl

removed_lowest : lowest_of removed ≡ 7
removed_lowest = refl

-- and before its commit
begun_leaves : survivors (from_one begun) ≡ entry k (codes "z") 2 ∷ []
begun_leaves = refl

begun_lowest : lowest_of (from_one begun) ≡ 2
begun_lowest = refl

-- ---- a transaction that is abandoned, or open still

abbrev changed : List Record
changed = rec 0 1 0 Mark ∷ rec 0 2 0 (put k (codes "a")) ∷ rec 3 2 0 Begin ∷ rec 3 2 2 (put k (codes "b")) ∷ []

abandoned_leaves : survivors (from_one (changed ++ rec 3 2 0 Abandon ∷ [])) ≡ entry k (codes "a") 2 ∷ []
abandoned_leaves = refl

abandoned_lowest : lowest_of (from_one (changed ++ rec 3 2 0 Abandon ∷ [])) ≡ 2
abandoned_lowest = refl

open_leaves : survivors (from_one changed) ≡ entry k (codes "a") 2 ∷ []
open_leaves = refl

-- ---- a map that is deleted in a transaction, and then has one key

abbrev deleted : Log
deleted = from_one
    (rec 0 1 0 Mark ∷ rec 0 2 0 (put a (codes "1")) ∷ rec 3 2 0 Begin ∷ rec 3 2 0 (put b (codes "2")) ∷ rec 3 2 0 (Delete (codes "m"))
    ∷ rec 3 2 0 (put a (codes "3")) ∷ rec 3 2 0 Commit ∷ [])

deleted_leaves : survivors deleted ≡ entry a (codes "3") 6 ∷ []
deleted_leaves = refl

deleted_lowest : lowest_of deleted ≡ 6
deleted_lowest = refl

-- ---- an old put, 199 puts of another key, and the old entry again

-- puts of the key b from an LSN on, each of which names the one before it
abbrev puts_of_b : ℕ → ℕ → List Record
puts_of_b before zero = []
puts_of_b before (suc n) = rec 0 2 before (put b (codes "v")) ∷ puts_of_b (before + 1) n

abbrev written_again : Log
written_again = from_one
    (rec 0 1 0 Mark ∷ rec 0 2 0 (put a (codes "x")) ∷ rec 0 2 0 (put b (codes "v")) ∷ puts_of_b 3 198 ++ rec 0 2 2 (Compaction (codes "m") a (codes "x")) ∷ [])

written_again_leaves : survivors written_again ≡ entry b (codes "v") 201 ∷ entry a (codes "x") 202 ∷ []
written_again_leaves = refl

written_again_lowest : lowest_of written_again ≡ 201
written_again_lowest = refl

-- ---- the same behind a begin, with seventy puts of a third key

-- puts of the key c from an LSN on, with the values v2, v3 and so on
abbrev puts_of_c : ℕ → ℕ → ℕ → List Record
puts_of_c before i zero = []
puts_of_c before i (suc n) = rec 0 2 before (put c (codes "v" ++ decimal i)) ∷ puts_of_c (before + 1) (i + 1) n

abbrev held_back : List Record
held_back =
    rec 0 1 0 Mark ∷ rec 0 2 0 (put a (codes "x")) ∷ rec 3 2 0 Begin ∷ rec 3 2 0 (put b (codes "y")) ∷ rec 0 2 0 (put c (codes "v1"))
    ∷ puts_of_c 5 2 69 ++ rec 0 2 2 (Compaction (codes "m") a (codes "x")) ∷ []

-- the begin, LSN 3, is the lowest
held_back_lowest : lowest_of (from_one held_back) ≡ 3
held_back_lowest = refl

-- Its commit, LSN 76, carries it, so the log may have been cut there.
abbrev committed_last : List Record
committed_last = held_back ++ rec 3 3 0 Commit ∷ []

committed_last_leaves : survivors (from_one committed_last) ≡ entry b (codes "y") 4 ∷ entry c (codes "v70") 74 ∷ entry a (codes "x") 75 ∷ []
unfolding digits
committed_last_leaves = refl

committed_last_cut : survivors (from_lowest 1 committed_last) ≡ entry b (codes "y") 4 ∷ entry c (codes "v70") 74 ∷ entry a (codes "x") 75 ∷ []
unfolding digits
committed_last_cut = refl

committed_last_lowest : lowest_of (from_one committed_last) ≡ 4
unfolding digits
committed_last_lowest = refl

-- ---- no changes

empty_leaves : survivors (from_one []) ≡ []
empty_leaves = refl

empty_lowest : lowest_of (from_one []) ≡ 1
empty_lowest = refl

mark_leaves : survivors (from_one (rec 0 1 0 Mark ∷ [])) ≡ []
mark_leaves = refl

mark_lowest : lowest_of (from_one (rec 0 1 0 Mark ∷ [])) ≡ 2
mark_lowest = refl
