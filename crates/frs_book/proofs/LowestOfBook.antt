-- The lowest of the log from what a book has at hand: the least LSN of an entry, the clients' begins and the next LSN.
use Rattle.std.proofs.Common.{◌≡◌, ◌⊎◌, inl, inr, ⊎_elim, ℕ, ◌<◌, ◌≤◌, true, ◌==◌, List, [], ◌∷◌, ◌++◌}
use Rattle.std.proofs.Common.{map, subst, arith, eqb-true}
use Rattle.std.specs.List.{AllByRecursion}
use Rattle.std.proofs.lemmas.Bool.{or_cases}
use Rattle.frs_types.specs.Maps.{Place}
use Rattle.frs_types.specs.Lawful.{StoredValue, Open, lowest, is_open_tx}
use Rattle.frs_types.proofs.LowestRises.{least_at_most, least_of_each, least_from, needed, behind_table, both_in}
use Rattle.frs_locks.proofs.NoRing.{In}
use Rattle.frs_history.specs.Machine.{Transaction, State, Scripts, client}
use Rattle.frs_history.specs.Machine.Transaction.{Outside, Active, Abandoned}
use Rattle.frs_types.specs.Locks.{Holder, holder_at}
use Rattle.frs_book.specs.Drawn.{Drawing, begin_of}
use Rattle.frs_book.specs.Agreement.{IsOpenOf, IsDrawnBy, Agreement}

each_member : (P : ℕ → Type 0) (ns : List ℕ) → AllByRecursion P ns → (n : ℕ) → In n ns → P n
each_member P [] all n is = absurd is
each_member P (m ∷ ns) all n (inl here) = subst P here all.0
each_member P (m ∷ ns) all n (inr later) = each_member P ns all.1 n later

open_member : (active : List Open) (n : ℕ) → is_open_tx active n ≡ true → In n (map (λ (o : Open). o.begin) active)
open_member [] n is = absurd cc
open_member (o ∷ active) n is = ⊎_elim
    (λ here. inl (eqb-true o.begin n here))
    (λ later. inr (open_member active n later))
    (or_cases (o.begin == n) (is_open_tx active n) is)

module _ (scripts : Scripts) (s : State) (d : Drawing) (agrees : Agreement scripts s d) where
  begin_is_open : (b : ℕ) (tx : Transaction) (h : Holder) → IsDrawnBy d.log b tx h → 0 < b → is_open_tx d.log.active b ≡ true
  begin_is_open b Outside h is above = absurd (omega (arith, is.0, above))
  begin_is_open b Abandoned h is above = absurd (omega (arith, is.0, above))
  begin_is_open b (Active sync changes) h is above = is.2

  begins_at_least : (v : ℕ) → ((c : ℕ) → 0 < begin_of d c → v ≤ begin_of d c) → (active : List Open)
      → AllByRecursion (IsOpenOf s d) active → AllByRecursion (λ n. v ≤ n) (map (λ (o : Open). o.begin) active)
  begins_at_least v low [] all = tt
  begins_at_least v low (o ∷ active) all =
      let owner = low all.0.client (omega (arith, all.0.begin, all.0.above)) in
      (omega (arith, owner, all.0.begin), begins_at_least v low active all.1)

  -- What isn't above any of them, and is one of them, is the lowest.
  pub lowest_is : (v : ℕ) → v ≤ d.log.next → AllByRecursion (λ (e : Place × StoredValue). v ≤ e.1.lsn) d.log.entries
      → ((c : ℕ) → 0 < begin_of d c → v ≤ begin_of d c)
      → (v ≡ d.log.next) ⊎ (In v (map (λ (e : Place × StoredValue). e.1.lsn) d.log.entries)
      ⊎ ((c : ℕ) × (0 < begin_of d c) × (begin_of d c ≡ v)))
      → v ≡ lowest d.log
  lowest_is v next entries begins one =
      let above : v ≤ lowest d.log = least_from v d.log.next (needed d.log) next
      (both_in (λ n. v ≤ n) d.log.entries (map (λ (o : Open). o.begin) d.log.active) entries (begins_at_least v begins d.log.active agrees.owned)) in
      let each = least_of_each d.log.next (needed d.log) in
      let below : lowest d.log ≤ v = ⊎_elim
      (λ (is : v ≡ d.log.next). let le : lowest d.log ≤ d.log.next = least_at_most d.log.next (needed d.log) in omega arith)
      (λ other. ⊎_elim
      (λ here. each_member (λ n. lowest d.log ≤ n) (map (λ (e : Place × StoredValue). e.1.lsn) d.log.entries)
      (first_part (λ n. lowest d.log ≤ n) (map (λ (e : Place × StoredValue). e.1.lsn) d.log.entries) (map (λ (o : Open). o.begin) d.log.active) each) v here)
      (λ begun. subst (λ n. lowest d.log ≤ n) begun.2 (each_member (λ n. lowest d.log ≤ n) (map (λ (o : Open). o.begin) d.log.active)
      (behind_table (λ n. lowest d.log ≤ n) d.log.entries (map (λ (o : Open). o.begin) d.log.active) each) (begin_of d begun.0)
      (open_member d.log.active (begin_of d begun.0)
      (begin_is_open (begin_of d begun.0) (client s begun.0).tx (holder_at s.holders begun.0) (agrees.drawn begun.0) begun.1))))
      other)
      one in
      omega arith
    where
      first_part : (P : ℕ → Type 0) (xs ys : List ℕ) → AllByRecursion P (xs ++ ys) → AllByRecursion P xs
      first_part P [] ys all = tt
      first_part P (x ∷ xs) ys all = (all.0, first_part P xs ys all.1)
