-- The lowest of the log is the least of the least begin and the least LSN of an entry.
use Rattle.std.proofs.Common.{◌≡◌, ◌⊎◌, inl, inr, ⊎_elim, ℕ, ◌+◌, ◌<◌, ◌≤◌, min, List, [], ◌∷◌, Option, Some, None, refl, sym, ap, ◌∙◌}
use Rattle.std.proofs.Common.{subst, arith}
use Rattle.std.specs.List.{AllByRecursion}
use Rattle.std.proofs.lemmas.Bool.{cases_lt}
use Rattle.frs_types.specs.Maps.{Place, Table}
use Rattle.frs_types.specs.Survivors.{least}
use Rattle.frs_types.specs.Lawful.{StoredValue, lowest}
use Rattle.frs_types.proofs.LowestRises.{least_at_most, least_of_each}
use Rattle.frs_slots.specs.Views.{next_drawn}
use Rattle.frs_objects.specs.Objects.{table_lsns, least_lsn}
use Rattle.frs_locks.proofs.NoRing.{In}
use Rattle.frs_book.specs.declared.ledger.Ledger.{Ledger}
use Rattle.frs_book.specs.Ledgers.{machine_state, book_of, scripts_of, drawing_in, IsLedger, IsLeastBegin, IsLesser}
use Rattle.frs_book.proofs.BookGoesOn.{next_is_drawn}
use Rattle.frs_book.proofs.LowestOfBook.{lowest_is}
use Rattle.frs_book.proofs.LedgerGoesOn.{begin_is, agrees}

pub min_is : (n m : ℕ) → (min n m ≡ n) ⊎ (min n m ≡ m)
min_is n m = ⊎_elim (λ (lt : n < m). inl (omega arith)) (λ (le : m ≤ n). inr (omega arith)) (cases_lt n m)

least_is_in : (n : ℕ) (ns : List ℕ) → (least n ns ≡ n) ⊎ In (least n ns) ns
least_is_in n [] = inl refl
least_is_in n (m ∷ ns) = ⊎_elim
    (λ (first : least (min n m) ns ≡ min n m). ⊎_elim
    (λ (own : min n m ≡ n). inl (first ∙ own))
    (λ (other : min n m ≡ m). inr (inl (sym (first ∙ other))))
    (min_is n m))
    (λ (later : In (least (min n m) ns) ns). inr (inr later))
    (least_is_in (min n m) ns)

each_entry : (v : ℕ) (t : Table StoredValue) → AllByRecursion (λ n. v ≤ n) (table_lsns t)
    → AllByRecursion (λ (e : Place × StoredValue). v ≤ e.1.lsn) t
each_entry v [] all = tt
each_entry v (e ∷ t) all = (all.0, each_entry v t all.1)

-- ---- begin by begin

-- none of the begins so far, and of one more, is below the lesser
pub each_more : (b : ℕ → ℕ) (i least begin lesser_begin : ℕ) → ((k : ℕ) → k < i → 0 < b k → least ≤ b k)
    → IsLesser least begin lesser_begin → begin ≡ b i → (k : ℕ) → k < i + 1 → 0 < b k → lesser_begin ≤ b k
each_more b i least begin lesser_begin old is here k lt some = ⊎_elim
    (λ (earlier : k < i). let was = old k earlier some in omega (arith, was, is.most))
    (λ (late : i ≤ k).
    let same : k ≡ i = omega (arith, late, lt) in
    let own : b k ≡ begin = ap b same ∙ sym here in
    let low = is.below (omega (arith, own, some)) in
    omega (arith, own, low))
    (cases_lt k i)

-- and it is one of them, or the next LSN
pub one_more : (b : ℕ → ℕ) (i next least begin lesser_begin : ℕ) → (least ≡ next) ⊎ ((k : ℕ) × (0 < b k) × (b k ≡ least))
    → IsLesser least begin lesser_begin → begin ≡ b i
    → (lesser_begin ≡ next) ⊎ ((k : ℕ) × (0 < b k) × (b k ≡ lesser_begin))
one_more b i next least begin lesser_begin old is here = ⊎_elim
    (λ (same : lesser_begin ≡ least). ⊎_elim
    (λ (last : least ≡ next). inl (same ∙ last))
    (λ (begun : (k : ℕ) × (0 < b k) × (b k ≡ least)). inr (begun.0, begun.1, begun.2 ∙ sym same))
    old)
    (λ (own : (0 < begin) × (begin ≡ lesser_begin)). inr (i, (let some = own.0 in omega (arith, some, here)), sym here ∙ own.1))
    is.one

-- ---- the entries

-- the lesser of the least begin and the least LSN of an entry, if there is one
abbrev pub lesser : Option ℕ → ℕ → ℕ
lesser None l = l
lesser (Some n) l = min n l

module _ (a : Ledger) (kept : IsLedger a) (l : ℕ) (is : IsLeastBegin a.clients.items (next_drawn a.drawer) l) where
  from_both : (v : ℕ) → v ≤ l → AllByRecursion (λ (e : Place × StoredValue). v ≤ e.1.lsn) a.objects
      → (v ≡ l) ⊎ In v (table_lsns a.objects) → v ≡ lowest (drawing_in a).log
  from_both v below entries one =
      let next : (drawing_in a).log.next ≡ next_drawn a.drawer = next_is_drawn (book_of a) kept.book in
      lowest_is (scripts_of a) (machine_state a) (drawing_in a) (agrees a kept) v (omega (arith, is.most, next, below))
      (subst (λ t. AllByRecursion (λ (e : Place × StoredValue). v ≤ e.1.lsn) t) kept.entries entries)
      (λ c above. let same = begin_is a kept c in let each = is.each c (omega (arith, same, above)) in omega (arith, each, same, below))
      (⊎_elim
      (λ (own : v ≡ l). ⊎_elim
      (λ (end : l ≡ next_drawn a.drawer). inl (own ∙ end ∙ sym next))
      (λ begun. inr (inr (begun.0, omega (arith, begin_is a kept begun.0, begun.1), begin_is a kept begun.0 ∙ begun.2 ∙ sym own)))
      is.one)
      (λ (entry : In v (table_lsns a.objects)). inr (inl (subst (λ t. In v (table_lsns t)) kept.entries entry)))
      one)

  by_table : (t : Table StoredValue) → a.objects ≡ t → lesser (least_lsn t) l ≡ lowest (drawing_in a).log
  by_table [] none = from_both l (omega arith) (subst (λ t. AllByRecursion (λ (e : Place × StoredValue). l ≤ e.1.lsn) t) (sym none) tt) (inl refl)
  by_table (e ∷ t) some =
      let m = least e.1.lsn (table_lsns t) in
      let first : m ≤ e.1.lsn = least_at_most e.1.lsn (table_lsns t) in
      let each : AllByRecursion (λ (x : Place × StoredValue). m ≤ x.1.lsn) t = each_entry m t (least_of_each e.1.lsn (table_lsns t)) in
      from_both (min m l) (omega arith)
      (subst (λ u. AllByRecursion (λ (x : Place × StoredValue). min m l ≤ x.1.lsn) u) (sym some)
      (omega (arith, first), lower (min m l) m t (omega arith) each))
      (⊎_elim
      (λ (own : min m l ≡ m). inr (subst (λ u. In (min m l) (table_lsns u)) (sym some)
      (⊎_elim
      (λ (here : m ≡ e.1.lsn). inl (sym (own ∙ here)))
      (λ (later : In m (table_lsns t)). inr (subst (λ n. In n (table_lsns t)) (sym own) later))
      (least_is_in e.1.lsn (table_lsns t)))))
      (λ (other : min m l ≡ l). inl other)
      (min_is m l))
    where
      lower : (v m : ℕ) (u : Table StoredValue) → v ≤ m → AllByRecursion (λ (x : Place × StoredValue). m ≤ x.1.lsn) u
          → AllByRecursion (λ (x : Place × StoredValue). v ≤ x.1.lsn) u
      lower v m [] le all = tt
      lower v m (x ∷ u) le all = (omega (arith, le, all.0), lower v m u le all.1)

  pub lowest_by : lesser (least_lsn a.objects) l ≡ lowest (drawing_in a).log
  lowest_by = by_table a.objects refl
