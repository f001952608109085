-- The first row is the oldest entry, and the rows are as many as the entries.
use Rattle.std.proofs.Common.{◌≡◌, ℕ, ◌+◌, ◌<◌, ◌≤◌, min, true, false, cond, T, List, [], ◌∷◌, length, Option, Some, None, is_some, refl, sym, ap, ◌∙◌, subst, arith, nat_cmp, is_eq, is_lt, inl, inr, ◌⊎◌, ⊎_elim, true≢false, Ordering, Less, Equal, Greater}
use Rattle.std.specs.Prelude.{◌==◌, ◌||◌, nat_eq, nat_lt, if◌then◌else◌, option_map, slice_get}
use Rattle.std.specs.List.{AllByRecursion, list_any, IsDistinct}
use Rattle.std.specs.List.Sorted.{IsStrictlySortedBy}
use Rattle.std.specs.Map.{keys_of}
use Rattle.std.specs.Cmp.{unsigned_Decides}
use Rattle.std.specs.FinMap.Entries.{below_all, is_sorted, length-put}
use Rattle.std.proofs.lemmas.Map.Keys.{IsDistinct-cons, sorted_head, sorted_tail}
use Rattle.std.proofs.lemmas.Bool.Decides.{nat_tests}
use Rattle.frs_types.specs.declared.record.Entry.{Entry}
use Rattle.frs_types.specs.Maps.{Place, Table, at, place_cmp, same_place}
use Rattle.frs_types.specs.Lawful.{StoredValue}
use Rattle.frs_types.specs.Survivors.{least}
use Rattle.frs_types.proofs.Truth.{from_is_true, and_first, and_second, less_by_cmp}
use Rattle.frs_objects.specs.declared.places.Slot.{Slot}
use Rattle.frs_objects.specs.Objects.{stored_by, entry_of, table_lsns, least_lsn, older_of, oldest_entry}
use Rattle.frs_objects.specs.Index.{Rows, row_at, with_row, table_by, lsn_in, is_blank, Agrees}
use Rattle.frs_objects.proofs.Tables.{total, tied_place, by_place, place_itself}
use Rattle.frs_objects.proofs.Shown.{by_number, row_head, row_behind, IsTable-shown, Shows, shows, stored_in, stored_under, at-shown}
use Rattle.frs_objects.proofs.Agreement.{split, the_entry, the_stored}

-- ---- what holds at each place of a table holds of each of its entries

missed : (p : Place) (t : Table StoredValue) → T (below_all place_cmp p t) → at t p ≡ None
missed p [] is = refl
missed p (x ∷ t) is = ap (λ b. cond b (Some x.1) (at t p)) (less_apart (place_cmp p x.0) (and_first _ _ is)) ∙ missed p t (and_second _ _ is)
  where
    less_apart : (o : Ordering) → T (is_lt o) → is_eq o ≡ false
    less_apart Less is = refl
    less_apart Equal is = absurd is
    less_apart Greater is = absurd is

at_head : (x y : Place × StoredValue) (t : Table StoredValue) (p : Place) → at (x ∷ t) p ≡ cond (same_place p x.0) (Some x.1) (at t p)
at_head x y t p = ap (λ b. cond b (Some x.1) (at t p)) (tied_place p x.0)

pub each_at : (P : Place → StoredValue → Type 0) (t : Table StoredValue) → T (is_sorted place_cmp t) → ((p : Place) (h : StoredValue) → at t p ≡ Some h → P p h) → AllByRecursion (λ (x : Place × StoredValue). P x.0 x.1) t
each_at P [] is h = tt
each_at P (x ∷ t) is h = (
  h x.0 x.1 (at_head x x t x.0 ∙ ap (λ b. cond b (Some x.1) (at t x.0)) (place_itself x.0)),
  each_at P t (and_second _ _ is) (λ p g there. h p g (at_head x x t p ∙ by_place p x.0 (λ b. cond b (Some x.1) (at t p) ≡ Some g)
      (λ e. absurd (true≢false (ap is_some (sym there ∙ ap (at t) e ∙ missed x.0 t (and_first _ _ is)))))
      (λ _. there))),
)

-- ---- the oldest entry

abbrev pub Later : Place → StoredValue → Place × StoredValue → Type 0
Later p h y = (y ≡ (p, h)) ⊎ (h.lsn < y.1.lsn)

-- no entry of the table is older
none_older : (n : ℕ) (t : Table StoredValue) → AllByRecursion (λ (y : Place × StoredValue). n ≤ y.1.lsn) t → (o : Option Entry) → oldest_entry t ≡ o → (e : Entry) → older_of e o ≡ older_of e (oldest_entry t)
none_older n t all o is e = ap (older_of e) (sym is)

oldest_bound : (n : ℕ) (t : Table StoredValue) (e : Entry) → AllByRecursion (λ (y : Place × StoredValue). n ≤ y.1.lsn) t → oldest_entry t ≡ Some e → n ≤ e.lsn
oldest_bound n [] e all is = absurd (true≢false (ap is_some (sym is)))
oldest_bound n (y ∷ t) e all is = subst (λ (v : Entry). n ≤ v.lsn) (the_value (older_of (entry_of y.0 y.1) (oldest_entry t)) e is) (either (oldest_entry t) (λ o h. oldest_bound n t o all.1 h))
  where
    the_value : (d e : Entry) → Some d ≡ Some e → d ≡ e
    the_value d e is = cc

    either : (o : Option Entry) → ((e : Entry) → o ≡ Some e → n ≤ e.lsn) → n ≤ (older_of (entry_of y.0 y.1) o).lsn
    either None h = all.0
    either (Some o) h = split (nat_lt o.lsn y.1.lsn) (λ b. n ≤ (if b then o else entry_of y.0 y.1).lsn) (λ _. h o refl) (λ _. all.0)

at_most_later : (p : Place) (h : StoredValue) (t : Table StoredValue) → AllByRecursion (Later p h) t → AllByRecursion (λ (y : Place × StoredValue). h.lsn ≤ y.1.lsn) t
at_most_later p h [] all = tt
at_most_later p h (y ∷ t) all = (⊎_elim (λ e. omega (arith, ap (λ (v : Place × StoredValue). v.1.lsn) e)) (λ l. omega (arith, l)) all.0, at_most_later p h t all.1)

not_lower : (m n : ℕ) → m ≤ n → nat_lt n m ≡ false
not_lower m n l = grind (arith, nat_tests)

pub oldest_from : (p : Place) (h : StoredValue) (t : Table StoredValue) → AllByRecursion (Later p h) t → at t p ≡ Some h → oldest_entry t ≡ Some (entry_of p h)
oldest_from p h [] all is = absurd (true≢false (ap is_some (sym is)))
oldest_from p h (y ∷ t) all is =
    ⊎_elim
    (λ e. ap (λ (v : Place × StoredValue). Some (older_of (entry_of v.0 v.1) (oldest_entry t))) e ∙ ap Some (stays (oldest_entry t) refl))
    (λ l. ap (λ o. Some (older_of (entry_of y.0 y.1) o)) (oldest_from p h t all.1 (behind l)) ∙ ap (λ b. Some (if b then entry_of p h else entry_of y.0 y.1)) (newer l))
    all.0
  where
    stays : (o : Option Entry) → oldest_entry t ≡ o → older_of (entry_of p h) o ≡ entry_of p h
    stays None e = refl
    stays (Some o) e = let bound : h.lsn ≤ o.lsn = oldest_bound h.lsn t o (at_most_later p h t all.1) e in ap (λ b. if b then o else entry_of p h) (not_lower h.lsn o.lsn bound)

    newer : h.lsn < y.1.lsn → nat_lt h.lsn y.1.lsn ≡ true
    newer l = grind (arith, nat_tests)

    behind : h.lsn < y.1.lsn → at t p ≡ Some h
    behind l = by_place p y.0 (λ b. cond b (Some y.1) (at t p) ≡ Some h → at t p ≡ Some h)
        (λ _ e. let same : y.1 ≡ h = the_stored y.1 h e in absurd (omega (arith, ap (λ (v : StoredValue). v.lsn) same, l)))
        (λ _ e. e)
        (sym (at_head y y t p) ∙ is)

-- ---- the least LSN is the oldest entry's

least_min : (n m : ℕ) (ns : List ℕ) → least (min n m) ns ≡ min n (least m ns)
least_min n m [] = refl
least_min n m (k ∷ ns) = ap (λ (j : ℕ). least j ns) nested ∙ least_min n (min m k) ns
  where
    nested : min (min n m) k ≡ min n (min m k)
    nested = omega arith

pub least_oldest : (t : Table StoredValue) → least_lsn t ≡ option_map (λ (e : Entry). e.lsn) (oldest_entry t)
least_oldest [] = refl
least_oldest (y ∷ []) = refl
least_oldest (y ∷ z ∷ t) = ap Some (least_min y.1.lsn z.1.lsn (table_lsns t) ∙ lower (oldest_entry (z ∷ t)) (least_oldest (z ∷ t)))
  where
    lower : (o : Option Entry) → Some (least z.1.lsn (table_lsns t)) ≡ option_map (λ (e : Entry). e.lsn) o → min y.1.lsn (least z.1.lsn (table_lsns t)) ≡ (older_of (entry_of y.0 y.1) o).lsn
    lower None e = absurd (true≢false (ap is_some e))
    lower (Some o) e =
        let own : least z.1.lsn (table_lsns t) ≡ o.lsn = cc in
        ap (min y.1.lsn) own ∙ split (nat_lt o.lsn y.1.lsn) (λ b. nat_lt o.lsn y.1.lsn ≡ b → min y.1.lsn o.lsn ≡ (if b then o else entry_of y.0 y.1).lsn) (λ _ h. grind (arith, nat_tests)) (λ _ h. grind (arith, nat_tests)) refl

-- ---- rows without a blank

row_among : (P : ℕ → Type 0) (rows : Rows) (n : ℕ) (o : Option Entry) → AllByRecursion P (keys_of rows) → row_at rows n ≡ Some o → P n
row_among P [] n o all is = absurd (true≢false (ap is_some (sym is)))
row_among P (row ∷ rows) n o all is =
    by_number n row.0 (λ b. cond b (Some row.1) (row_at rows n) ≡ Some o → P n)
    (λ e _. subst P (sym e) all.0)
    (λ _ there. row_among P rows n o all.1 there)
    (sym (row_head n row rows) ∙ is)

-- a row behind the first has a greater LSN
row_later : (row : ℕ × Option Entry) (rows : Rows) (n : ℕ) (o : Option Entry) → IsStrictlySortedBy nat_cmp (keys_of (row ∷ rows)) → row_at rows n ≡ Some o → row.0 < n
row_later row rows n o sorted is = less_by_cmp row.0 n (subst (λ c. T (is_lt c)) (sym (row_among (λ m. nat_cmp row.0 m ≡ Less) rows n o (sorted_head nat_cmp row.0 (keys_of rows) sorted) is)) tt)

module _ (slots : Place → Option Slot) (k : ℕ) (o : Option Entry) (rest : Rows) (a : Agrees slots ((k, o) ∷ rest) []) where
  first_row : row_at ((k, o) ∷ rest) k ≡ Some o
  first_row = row_head k (k, o) rest ∙ ap (λ b. cond b (Some o) (row_at rest k)) ((unsigned_Decides k k).1 refl)

  first_entry : (w : Option Entry) → o ≡ w → (e : Entry) × (o ≡ Some e)
  first_entry None h = absurd (true≢false (sym (ap (λ v. is_blank (Some v)) h) ∙ sym (ap is_blank first_row) ∙ a.blank k))
  first_entry (Some e) h = (e, h)

  first_oldest_by : (e : Entry) → o ≡ Some e → oldest_entry (table_by ((k, o) ∷ rest)) ≡ Some e
  first_oldest_by e h =
      let t : Table StoredValue = table_by ((k, o) ∷ rest) in
      let row : row_at ((k, o) ∷ rest) k ≡ Some (Some e) = first_row ∙ ap Some h in
      let own = a.owned k e row in
      let here : at t (e.id, e.key) ≡ Some (stored_by e) = at-shown a (e.id, e.key) ∙ ap (stored_under ((k, o) ∷ rest)) own.1 ∙ ap stored_in row in
      oldest_from (e.id, e.key) (stored_by e) t (each_at (λ p g. Later (e.id, e.key) (stored_by e) (p, g)) t (from_is_true _ (IsTable-shown ((k, o) ∷ rest))) (λ p g there. later own.0 row p g (shows ((k, o) ∷ rest) p g a.ordered there))) here
    where
      later : e.lsn ≡ k → row_at ((k, o) ∷ rest) k ≡ Some (Some e) → (p : Place) (g : StoredValue) → Shows ((k, o) ∷ rest) p g → Later (e.id, e.key) (stored_by e) (p, g)
      later is row p g s =
          by_number s.lsn k (λ b. cond b (Some o) (row_at rest s.lsn) ≡ Some (Some s.entry) → Later (e.id, e.key) (stored_by e) (p, g))
          (λ same _. let f : s.entry ≡ e = the_entry s.entry e (sym s.row ∙ ap (row_at ((k, o) ∷ rest)) same ∙ row) in
          inl (λ i. (((sym s.place ∙ ap (λ (v : Entry). (v.id, v.key)) f) i), ((sym s.stored ∙ ap stored_by f) i))))
          (λ _ there. let l : k < s.lsn = row_later (k, o) rest s.lsn (Some s.entry) a.ordered there in
          let lsn : s.entry.lsn ≡ s.lsn = (a.owned s.lsn s.entry s.row).0 in
          let stored : s.entry.lsn ≡ g.lsn = ap (λ (v : StoredValue). v.lsn) s.stored in
          inr (omega (arith, l, lsn, stored, is)))
          (sym (row_head s.lsn (k, o) rest) ∙ s.row)

  pub first_oldest : o ≡ oldest_entry (table_by ((k, o) ∷ rest))
  first_oldest = let f = first_entry o refl in f.1 ∙ sym (first_oldest_by f.0 f.1)

  pub first_least : Some k ≡ least_lsn (table_by ((k, o) ∷ rest))
  first_least =
      let f = first_entry o refl in
      let own = a.owned k f.0 (first_row ∙ ap Some f.1) in
      sym (least_oldest (table_by ((k, o) ∷ rest)) ∙ ap (option_map (λ (e : Entry). e.lsn)) (first_oldest_by f.0 f.1) ∙ ap Some own.0)

-- ---- as many rows as entries

-- under two LSNs stand entries of two places
abbrev pub HaveOwnPlaces : Rows → Type 0
HaveOwnPlaces rows = (m n : ℕ) (d e : Entry) → row_at rows m ≡ Some (Some d) → row_at rows n ≡ Some (Some e) → ◌≡◌ {A = Place} (d.id, d.key) (e.id, e.key) → m ≡ n

abbrev pub HaveNoBlank : Rows → Type 0
HaveNoBlank rows = (n : ℕ) → is_blank (row_at rows n) ≡ false

no_blank_behind : (row : ℕ × Option Entry) (rows : Rows) → IsStrictlySortedBy nat_cmp (keys_of (row ∷ rows)) → HaveNoBlank (row ∷ rows) → (n : ℕ) (o : Option (Option Entry)) → row_at rows n ≡ o → is_blank o ≡ false
no_blank_behind row rows sorted h n None e = refl
no_blank_behind row rows sorted h n (Some None) e = sym (ap is_blank (row_behind n row rows None sorted e)) ∙ h n
no_blank_behind row rows sorted h n (Some (Some d)) e = refl

-- the place of a row's entry isn't that of a later row
pub new_place : (row : ℕ × Option Entry) (rows : Rows) (e : Entry) → row.1 ≡ Some e → IsStrictlySortedBy nat_cmp (keys_of (row ∷ rows)) → HaveOwnPlaces (row ∷ rows) → at (table_by rows) (e.id, e.key) ≡ None
new_place row rows e is sorted own = nothing (at (table_by rows) (e.id, e.key)) refl
  where
    nothing : (there : Option StoredValue) → at (table_by rows) (e.id, e.key) ≡ there → there ≡ None
    nothing None there = refl
    nothing (Some g) there =
        let s = shows rows (e.id, e.key) g (sorted_tail nat_cmp row.0 (keys_of rows) sorted) there in
        let head : row_at (row ∷ rows) row.0 ≡ Some (Some e) = row_head row.0 row rows ∙ ap (λ b. cond b (Some row.1) (row_at rows row.0)) ((unsigned_Decides row.0 row.0).1 refl) ∙ ap Some is in
        let same : row.0 ≡ s.lsn = own row.0 s.lsn e s.entry head (row_behind s.lsn row rows (Some s.entry) sorted s.row) (sym s.place) in
        let later : row.0 < s.lsn = row_later row rows s.lsn (Some s.entry) sorted s.row in
        absurd (omega (arith, same, later))

pub own_behind : (row : ℕ × Option Entry) (rows : Rows) → IsStrictlySortedBy nat_cmp (keys_of (row ∷ rows)) → HaveOwnPlaces (row ∷ rows) → HaveOwnPlaces rows
own_behind row rows sorted own m n d e i j same = own m n d e (row_behind m row rows (Some d) sorted i) (row_behind n row rows (Some e) sorted j) same

length_row : (row : ℕ × Option Entry) (rows : Rows) (o : Option Entry) → row.1 ≡ o → IsStrictlySortedBy nat_cmp (keys_of (row ∷ rows)) → HaveNoBlank (row ∷ rows) → HaveOwnPlaces (row ∷ rows) → length (table_by rows) ≡ length rows → length (with_row o (table_by rows)) ≡ length rows + 1
length_row row rows None is sorted h own rest = absurd (true≢false (sym (ap (λ v. is_blank (Some v)) is) ∙ sym (ap is_blank (row_head row.0 row rows ∙ ap (λ b. cond b (Some row.1) (row_at rows row.0)) ((unsigned_Decides row.0 row.0).1 refl))) ∙ h row.0))
length_row row rows (Some e) is sorted h own rest =
    length-put place_cmp total (e.id, e.key) (stored_by e) (table_by rows) (from_is_true _ (IsTable-shown rows))
    ∙ ap (λ o. cond (is_some o) (length (table_by rows)) (length (table_by rows) + 1)) (new_place row rows e is sorted own)
    ∙ ap (λ n. n + 1) rest

pub length_shown : (rows : Rows) → IsStrictlySortedBy nat_cmp (keys_of rows) → HaveNoBlank rows → HaveOwnPlaces rows → length (table_by rows) ≡ length rows
length_shown [] sorted h own = refl
length_shown (row ∷ rows) sorted h own =
    length_row row rows row.1 refl sorted h own
    (length_shown rows (sorted_tail nat_cmp row.0 (keys_of rows) sorted) (λ n. no_blank_behind row rows sorted h n (row_at rows n) refl)
    (own_behind row rows sorted own))
    ∙ (omega arith)

pub own_places : (slots : Place → Option Slot) (rows : Rows) → Agrees slots rows [] → HaveOwnPlaces rows
own_places slots rows a m n d e i j same = the_number m n (sym (a.owned m d i).1 ∙ ap (λ p. lsn_in (slots p)) same ∙ (a.owned n e j).1)
  where
    the_number : (m n : ℕ) → Some m ≡ Some n → m ≡ n
    the_number m n e = cc

pub length_agrees : (slots : Place → Option Slot) (rows : Rows) → Agrees slots rows [] → length (table_by rows) ≡ length rows
length_agrees slots rows a = length_shown rows a.ordered (λ n. a.blank n) (own_places slots rows a)

-- ---- by the first row of a list

pub oldest_of_rows : (slots : Place → Option Slot) (rows : Rows) → Agrees slots rows [] → (k : ℕ) (o : Option Entry) → slice_get rows 0 ≡ Some (k, o) → o ≡ oldest_entry (table_by rows)
oldest_of_rows slots [] a k o is = absurd (true≢false (ap is_some (sym is)))
oldest_of_rows slots (row ∷ rest) a k o is = ap (λ (v : ℕ × Option Entry). v.1) (the_row (k, o) row (sym is)) ∙ first_oldest slots row.0 row.1 rest a
  where
    the_row : (v w : ℕ × Option Entry) → Some v ≡ Some w → v ≡ w
    the_row v w e = cc

pub least_of_rows : (slots : Place → Option Slot) (rows : Rows) → Agrees slots rows [] → (k : ℕ) (o : Option Entry) → slice_get rows 0 ≡ Some (k, o) → Some k ≡ least_lsn (table_by rows)
least_of_rows slots [] a k o is = absurd (true≢false (ap is_some (sym is)))
least_of_rows slots (row ∷ rest) a k o is = ap (λ (v : ℕ × Option Entry). Some v.0) (the_row (k, o) row (sym is)) ∙ first_least slots row.0 row.1 rest a
  where
    the_row : (v w : ℕ × Option Entry) → Some v ≡ Some w → v ≡ w
    the_row v w e = cc

-- ---- LSNs of a table

none_listed : (n : ℕ) (t : Table StoredValue) → AllByRecursion (λ (x : Place × StoredValue). (x.1.lsn == n) ≡ false) t → list_any (λ m. m == n) (table_lsns t) ≡ false
none_listed n [] all = refl
none_listed n (x ∷ t) all = ap (λ b. b || list_any (λ m. m == n) (table_lsns t)) all.0 ∙ none_listed n t all.1

pub unlisted_at : (slots : Place → Option Slot) (rows : Rows) → Agrees slots rows [] → (n : ℕ) → row_at rows n ≡ None → list_any (λ m. m == n) (table_lsns (table_by rows)) ≡ false
unlisted_at slots rows a n none =
    none_listed n (table_by rows) (each_at (λ p h. (h.lsn == n) ≡ false) (table_by rows) (from_is_true _ (IsTable-shown rows)) (λ p h there. apart p h (shows rows p h a.ordered there)))
  where
    apart : (p : Place) (h : StoredValue) → Shows rows p h → (h.lsn == n) ≡ false
    apart p h s =
        let lsn : h.lsn ≡ s.lsn = sym (ap (λ (v : StoredValue). v.lsn) s.stored) ∙ (a.owned s.lsn s.entry s.row).0 in
        by_number h.lsn n (λ b. b ≡ false) (λ e. absurd (true≢false (ap is_some (sym s.row ∙ ap (row_at rows) (sym lsn ∙ e) ∙ none)))) (λ _. refl)

own_lsns : (t : Table StoredValue) → T (is_sorted place_cmp t) → ((p q : Place) (g h : StoredValue) → at t p ≡ Some g → at t q ≡ Some h → g.lsn ≡ h.lsn → p ≡ q) → IsDistinct nat_eq (table_lsns t)
unfolding IsDistinct
own_lsns [] is one = tt
own_lsns (x ∷ t) is one =
    IsDistinct-cons nat_eq x.1.lsn (table_lsns t)
    (all_lsns (λ m. (x.1.lsn == m) ≡ false) t (each_at (λ p h. (x.1.lsn == h.lsn) ≡ false) t (and_second _ _ is) (λ p h there. by_number x.1.lsn h.lsn (λ b. b ≡ false)
    (λ e. absurd (true≢false (ap is_some (sym there ∙ ap (at t) (sym (one x.0 p x.1 h (at_head x x t x.0 ∙ ap (λ b. cond b (Some x.1) (at t x.0)) (place_itself x.0)) (behind p h there) e)) ∙ missed x.0 t (and_first _ _ is)))))
    (λ _. refl))))
    (own_lsns t (and_second _ _ is) (λ p q g h i j e. one p q g h (behind p g i) (behind q h j) e))
  where
    all_lsns : (P : ℕ → Type 0) (t : Table StoredValue) → AllByRecursion (λ (x : Place × StoredValue). P x.1.lsn) t → AllByRecursion P (table_lsns t)
    all_lsns P [] all = tt
    all_lsns P (x ∷ t) all = (all.0, all_lsns P t all.1)

    behind : (p : Place) (g : StoredValue) → at t p ≡ Some g → at (x ∷ t) p ≡ Some g
    behind p g there = at_head x x t p ∙ by_place p x.0 (λ b. cond b (Some x.1) (at t p) ≡ Some g)
        (λ e. absurd (true≢false (ap is_some (sym there ∙ ap (at t) e ∙ missed x.0 t (and_first _ _ is))))) (λ _. there)

pub lsns_distinct : (slots : Place → Option Slot) (rows : Rows) → Agrees slots rows [] → IsDistinct nat_eq (table_lsns (table_by rows))
lsns_distinct slots rows a =
    own_lsns (table_by rows) (from_is_true _ (IsTable-shown rows)) (λ p q g h i j e. one p q g h (shows rows p g a.ordered i) (shows rows q h a.ordered j) e)
  where
    one : (p q : Place) (g h : StoredValue) → Shows rows p g → Shows rows q h → g.lsn ≡ h.lsn → p ≡ q
    one p q g h s r e =
        let first : s.lsn ≡ g.lsn = sym (a.owned s.lsn s.entry s.row).0 ∙ ap (λ (v : StoredValue). v.lsn) s.stored in
        let second : r.lsn ≡ h.lsn = sym (a.owned r.lsn r.entry r.row).0 ∙ ap (λ (v : StoredValue). v.lsn) r.stored in
        let same : s.entry ≡ r.entry = the_entry s.entry r.entry (sym s.row ∙ ap (row_at rows) (first ∙ e ∙ sym second) ∙ r.row) in
        sym s.place ∙ ap (λ (v : Entry). (v.id, v.key)) same ∙ r.place
