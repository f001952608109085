-- Logs read back, computed: what survives in each of their prefixes is what the state has that the prefix reaches, and so
-- is what survives of the records from the lowest that the prefix names last.
use Rattle.std.proofs.Common.{◌≡◌, ℕ, ◌+◌, zero, suc, List, [], ◌∷◌, ◌++◌, true, refl, map, take}
use Rattle.std.specs.Prelude.{codes, decimal}
use Rattle.std.specs.Fmt.{digits}
use Rattle.frs_types.specs.declared.record.Action.TheVariants.{Put, Remove, Delete, Begin, Commit, Compaction, Mark, Abandon}
use Rattle.frs_types.specs.declared.record.Record.{Record}
use Rattle.frs_types.specs.Records.{Log, from_lowest}
use Rattle.frs_types.specs.Survivors.{survivors, lowest_of}
use Rattle.frs_types.specs.Lawful.{LogState, are_lawful, settled_state, state_after, table_of, lowest}
use Rattle.frs_types.proofs.LogExamples.{rec}

abbrev from_start : List Record → Log
from_start rs = record { first = 1; records = rs }

abbrev state_of : List Record → LogState
state_of rs = state_after (settled_state [] 1) rs

-- the log is lawful, and each of these logs is read back as the state that it reaches
record AreReadBack (log : List Record) (prefixes : List (List Record)) : Type 0 where
  lawful : are_lawful (settled_state [] 1) log ≡ true
  entries : map (λ rs. table_of (survivors (from_start rs))) prefixes ≡ map (λ rs. (state_of rs).entries) prefixes
  lowests : map (λ rs. lowest_of (from_start rs)) prefixes ≡ map (λ rs. lowest (state_of rs)) prefixes
  cut_entries : map (λ rs. table_of (survivors (from_lowest 1 rs))) prefixes ≡ map (λ rs. (state_of rs).entries) prefixes
  cut_lowests : map (λ rs. lowest_of (from_lowest 1 rs)) prefixes ≡ map (λ rs. lowest (state_of rs)) prefixes

abbrev prefixes_of : List Record → List (List Record)
prefixes_of [] = [] ∷ []
prefixes_of (r ∷ rs) = [] ∷ map (λ qs. r ∷ qs) (prefixes_of rs)

abbrev m : List ℕ
m = codes "m"

abbrev a : List ℕ
a = codes "a"

abbrev b : List ℕ
b = codes "b"

abbrev c : List ℕ
c = codes "c"

-- ---- changes one by one, and a transaction on one key

abbrev replaced : List Record
replaced = rec 0 1 0 Mark ∷ rec 0 2 0 (Put m a (codes "1")) ∷ rec 0 2 2 (Put m a (codes "2")) ∷ rec 0 3 0 Mark ∷ []

replaced_read : AreReadBack replaced (prefixes_of replaced)
replaced_read = record { lawful = refl; entries = refl; lowests = refl; cut_entries = refl; cut_lowests = refl }

abbrev removed_inside : List Record
removed_inside = rec 0 1 0 Mark ∷ rec 0 2 0 (Put m a (codes "z")) ∷ rec 3 2 0 Begin ∷ rec 3 2 2 (Put m a (codes "a")) ∷ rec 3 2 4 (Remove m a) ∷ []

abbrev put_again : List Record
put_again = removed_inside ++ rec 3 2 0 (Put m a (codes "b")) ∷ rec 3 2 0 Commit ∷ rec 0 6 0 Mark ∷ []

put_again_read : AreReadBack put_again (prefixes_of put_again)
put_again_read = record { lawful = refl; entries = refl; lowests = refl; cut_entries = refl; cut_lowests = refl }

abbrev removed : List Record
removed = removed_inside ++ rec 3 2 0 Commit ∷ rec 0 7 0 Mark ∷ []

removed_read : AreReadBack removed (prefixes_of removed)
removed_read = record { lawful = refl; entries = refl; lowests = refl; cut_entries = refl; cut_lowests = refl }

abbrev abandoned : List Record
abandoned = rec 0 1 0 Mark ∷ rec 0 2 0 (Put m a (codes "a")) ∷ rec 3 2 0 Begin ∷ rec 3 2 2 (Put m a (codes "b")) ∷ rec 3 2 0 Abandon ∷ rec 0 2 0 Mark ∷ []

abandoned_read : AreReadBack abandoned (prefixes_of abandoned)
abandoned_read = record { lawful = refl; entries = refl; lowests = refl; cut_entries = refl; cut_lowests = refl }

-- ---- deletes

abbrev deleted : List Record
deleted = rec 0 1 0 Mark ∷ rec 0 2 0 (Put m a (codes "1")) ∷ rec 3 2 0 Begin ∷ rec 3 2 0 (Put m b (codes "2")) ∷ rec 3 2 0 (Delete m) ∷ rec 3 2 0 (Put m a (codes "3")) ∷ rec 3 2 0 Commit ∷ rec 0 6 0 Mark ∷ []

deleted_read : AreReadBack deleted (prefixes_of deleted)
deleted_read = record { lawful = refl; entries = refl; lowests = refl; cut_entries = refl; cut_lowests = refl }

-- Between a put and its transaction's commit another map is deleted, and then the put's own map by the same transaction.
abbrev deleted_between : List Record
deleted_between =
    rec 0 1 0 Mark ∷ rec 2 2 0 Begin ∷ rec 2 2 0 (Put m a (codes "1")) ∷ rec 0 2 0 (Put (codes "n") a (codes "2")) ∷ rec 0 2 0 (Delete (codes "n")) ∷ rec 2 2 0 (Delete m) ∷ rec 2 2 0 (Put m b (codes "3"))
    ∷ rec 2 2 0 Commit ∷ []

deleted_between_read : AreReadBack deleted_between (prefixes_of deleted_between)
deleted_between_read = record { lawful = refl; entries = refl; lowests = refl; cut_entries = refl; cut_lowests = refl }

-- ---- a mark that ends two transactions

abbrev ended_by_mark : List Record
ended_by_mark =
    rec 0 1 0 Mark ∷ rec 2 2 0 Begin ∷ rec 3 2 0 Begin ∷ rec 2 2 0 (Put m a (codes "1")) ∷ rec 3 2 0 (Put m b (codes "2")) ∷ rec 0 2 0 Mark ∷ rec 0 7 0 (Put m a (codes "3")) ∷ []

ended_by_mark_read : AreReadBack ended_by_mark (prefixes_of ended_by_mark)
ended_by_mark_read = record { lawful = refl; entries = refl; lowests = refl; cut_entries = refl; cut_lowests = refl }

-- ---- compactions

-- An entry below an open begin is written again, and the transaction commits behind it.
abbrev written_again : List Record
written_again =
    rec 0 1 0 Mark ∷ rec 0 2 0 (Put m a (codes "x")) ∷ rec 3 2 0 Begin ∷ rec 3 2 0 (Put m b (codes "y")) ∷ rec 0 2 2 (Compaction m a (codes "x")) ∷ rec 0 3 0 (Put m c (codes "z")) ∷ rec 3 3 0 Commit ∷ rec 0 4 0 Mark ∷ []

written_again_read : AreReadBack written_again (prefixes_of written_again)
written_again_read = record { lawful = refl; entries = refl; lowests = refl; cut_entries = refl; cut_lowests = refl }

-- puts of a key, the first of which names the LSN before and each other the one before it
abbrev puts_of : List ℕ → ℕ → ℕ → List Record
puts_of key before zero = []
puts_of key before (suc n) = rec 0 2 before (Put m key (codes "v")) ∷ puts_of key (before + 1) n

-- An old put, 199 puts of another key, the old entry again, and a mark.
abbrev long : List Record
long = rec 0 1 0 Mark ∷ rec 0 2 0 (Put m a (codes "x")) ∷ rec 0 2 0 (Put m b (codes "v")) ∷ puts_of b 3 198 ++ rec 0 2 2 (Compaction m a (codes "x")) ∷ rec 0 201 0 Mark ∷ []

-- all of it, and its last four prefixes
abbrev long_prefixes : List (List Record)
long_prefixes = take 199 long ∷ take 200 long ∷ take 201 long ∷ take 202 long ∷ long ∷ []

long_read : AreReadBack long long_prefixes
long_read = record { lawful = refl; entries = refl; lowests = refl; cut_entries = refl; cut_lowests = refl }

-- puts of the third key from an LSN on, with the values v2, v3 and so on
abbrev puts_of_c : ℕ → ℕ → ℕ → List Record
puts_of_c before i zero = []
puts_of_c before i (suc n) = rec 0 2 before (Put m c (codes "v" ++ decimal i)) ∷ puts_of_c (before + 1) (i + 1) n

-- The same behind a begin, with seventy puts of the third key.
abbrev held_back : List Record
held_back =
    rec 0 1 0 Mark ∷ rec 0 2 0 (Put m a (codes "x")) ∷ rec 3 2 0 Begin ∷ rec 3 2 0 (Put m b (codes "y")) ∷ rec 0 2 0 (Put m c (codes "v1")) ∷ puts_of_c 5 2 69 ++ rec 0 2 2 (Compaction m a (codes "x"))
    ∷ rec 3 3 0 Commit ∷ []

held_back_read : AreReadBack held_back (prefixes_of held_back)
unfolding digits
held_back_read = record { lawful = refl; entries = refl; lowests = refl; cut_entries = refl; cut_lowests = refl }
