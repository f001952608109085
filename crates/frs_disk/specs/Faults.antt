-- Which calls of a form in memory fail.
use Rattle.std.specs.Prelude.{◌≡◌, ℕ, ◌+◌, ◌-◌, ◌^◌, min, Bool, true, false, ◌==◌, List, Result, Ok, Err, ⊤, codes}
use Rattle.std.specs.List.{list_any}
use Rattle.frs_disk.specs.declared.disk.Fault.{Fault}
use Rattle.frs_disk.specs.declared.disk.Fault.TheVariants.{Failed, Memory}

-- the number is among these
abbrev pub is_named : List ℕ → ℕ → Bool
is_named numbers n = list_any (λ k. k == n) numbers

-- a count after one more, which stands still at its type's end
abbrev pub count_after_one : ℕ → ℕ
count_after_one n = min (n + 1) (2 ^ 64 - 1)

-- a call fails exactly where this test says so, but for want of memory
abbrev pub FailsExactly : {V : Type 0} → Bool → Result V Fault → Type 0
FailsExactly test (Ok value) = test ≡ false
FailsExactly test (Err Failed) = test ≡ true
FailsExactly test (Err Memory) = ⊤

-- the count of faults after this answer
abbrev pub faults_after : {V : Type 0} → Result V Fault → ℕ → ℕ
faults_after (Ok value) n = n
faults_after (Err Failed) n = count_after_one n
faults_after (Err Memory) n = n

-- what is printed of a fault
abbrev pub fault_text : Fault → List ℕ
fault_text Failed = codes "the call has failed"
fault_text Memory = codes "out of memory"
