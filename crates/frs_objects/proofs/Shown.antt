-- What rows show: at each place of an entry that entry, and nothing elsewhere.
use Rattle.std.proofs.Common.{◌≡◌, ℕ, Bool, true, false, cond, List, [], ◌∷◌, Option, Some, None, is_some, refl, sym, ap, ◌∙◌, nat_cmp, true≢false}
use Rattle.std.specs.Prelude.{◌==◌}
use Rattle.std.specs.Ordering.{eq_by_cmp}
use Rattle.std.specs.Cmp.{nat_cmp_total, eq_by_cmp_equiv, unsigned_ties, unsigned_Decides}
use Rattle.std.specs.List.Sorted.{IsStrictlySortedBy}
use Rattle.std.specs.Map.{keys_of}
use Rattle.std.specs.BTreeMap.{is_at}
use Rattle.std.proofs.lemmas.Map.{lookup-none}
use Rattle.std.proofs.lemmas.Map.Entries.{none_past_head}
use Rattle.std.proofs.lemmas.Map.Keys.{IsDistinct-from_sorted, sorted_tail}
use Rattle.frs_types.specs.declared.record.Entry.{Entry}
use Rattle.frs_types.specs.Maps.{Place, Table, IsTable, at, same_place}
use Rattle.frs_types.specs.Lawful.{StoredValue}
use Rattle.frs_objects.specs.declared.places.Slot.{Slot}
use Rattle.frs_objects.specs.Objects.{stored_by}
use Rattle.frs_objects.specs.Index.{Rows, row_at, with_row, table_by, lsn_in, Agrees}
use Rattle.frs_objects.proofs.Tables.{IsTable-put, at-put, by_place, place_itself}

-- one number, or two
pub by_number : (m n : ℕ) (P : Bool → Type 0) → (m ≡ n → P true) → ((m == n) ≡ false → P false) → P (m == n)
by_number m n P same apart =
    elim (m == n) as (λ b. (m == n) ≡ b → P b) [
      | true ↦ λ e. same ((unsigned_Decides m n).0 e)
      | false ↦ λ e. apart e
    ] refl

pub at_number : (m n : ℕ) → is_at (nat_cmp m) n ≡ (m == n)
at_number m n = sym (unsigned_ties m n)

pub row_head : (n : ℕ) (row : ℕ × Option Entry) (rows : Rows) → row_at (row ∷ rows) n ≡ cond (n == row.0) (Some row.1) (row_at rows n)
row_head n row rows = ap (λ b. cond b (Some row.1) (row_at rows n)) (at_number n row.0)

-- a row behind the first one
pub row_behind : (n : ℕ) (row : ℕ × Option Entry) (rows : Rows) (o : Option Entry) → IsStrictlySortedBy nat_cmp (keys_of (row ∷ rows)) → row_at rows n ≡ Some o → row_at (row ∷ rows) n ≡ Some o
row_behind n row rows o sorted is =
    elim (eq_by_cmp nat_cmp n row.0) as (λ b. eq_by_cmp nat_cmp n row.0 ≡ b → cond b (Some row.1) (row_at rows n) ≡ Some o) [
      | true ↦ λ e. absurd (some_none (sym is ∙ lookup-none _ rows (none_past_head (eq_by_cmp_equiv nat_cmp_total) n row rows (IsDistinct-from_sorted nat_cmp (keys_of (row ∷ rows)) sorted) e)))
      | false ↦ λ e. is
    ] refl
  where
    some_none : {X : Type 0} {x : X} → Some x ≡ None → ⊥
    some_none e = true≢false (ap is_some e)

with_table : (o : Option Entry) (t : Table StoredValue) → IsTable t → IsTable (with_row o t)
with_table None t is = is
with_table (Some e) t is = IsTable-put (e.id, e.key) (stored_by e) t is

pub IsTable-shown : (rows : Rows) → IsTable (table_by rows)
IsTable-shown [] = refl
IsTable-shown (row ∷ rows) = with_table row.1 (table_by rows) (IsTable-shown rows)

-- what is shown at a place is an entry's
pub record Shows (rows : Rows) (p : Place) (h : StoredValue) : Type 0 where
  pub lsn : ℕ
  pub entry : Entry
  pub row : row_at rows lsn ≡ Some (Some entry)
  pub place : (entry.id, entry.key) ≡ p
  pub stored : stored_by entry ≡ h

shows_head : (row : ℕ × Option Entry) (rows : Rows) (p : Place) (h : StoredValue) (o : Option Entry) → row.1 ≡ o → IsStrictlySortedBy nat_cmp (keys_of (row ∷ rows)) → ((h : StoredValue) → at (table_by rows) p ≡ Some h → Shows rows p h) → at (with_row o (table_by rows)) p ≡ Some h → Shows (row ∷ rows) p h
shows_head row rows p h None is sorted rest shown = behind row rows p h sorted (rest h shown)
  where
    behind : (row : ℕ × Option Entry) (rows : Rows) (p : Place) (h : StoredValue) → IsStrictlySortedBy nat_cmp (keys_of (row ∷ rows)) → Shows rows p h → Shows (row ∷ rows) p h
    behind row rows p h sorted s = record { lsn = s.lsn; entry = s.entry; row = row_behind s.lsn row rows (Some s.entry) sorted s.row; place = s.place; stored = s.stored }
shows_head row rows p h (Some e) is sorted rest shown =
    by_place (e.id, e.key) p (λ b. cond b (Some (stored_by e)) (at (table_by rows) p) ≡ Some h → Shows (row ∷ rows) p h)
    (λ same here. record { lsn = row.0; entry = e; row = row_head row.0 row rows ∙ ap (λ b. cond b (Some row.1) (row_at rows row.0)) ((unsigned_Decides row.0 row.0).1 refl) ∙ ap Some is; place = same; stored = the_same (stored_by e) h here })
    (λ apart there. let s = rest h there in record { lsn = s.lsn; entry = s.entry; row = row_behind s.lsn row rows (Some s.entry) sorted s.row; place = s.place; stored = s.stored })
    (sym (at-put (e.id, e.key) p (stored_by e) (table_by rows)) ∙ shown)
  where
    the_same : {X : Type 0} (x y : X) → Some x ≡ Some y → x ≡ y
    the_same x y e = cc

pub shows : (rows : Rows) (p : Place) (h : StoredValue) → IsStrictlySortedBy nat_cmp (keys_of rows) → at (table_by rows) p ≡ Some h → Shows rows p h
shows [] p h sorted shown = absurd (true≢false (sym (ap is_some shown)))
shows (row ∷ rows) p h sorted shown = shows_head row rows p h row.1 refl sorted (λ h there. shows rows p h (sorted_tail nat_cmp row.0 (keys_of rows) sorted) there) shown

-- something is shown at the place of each entry
pub shown : (rows : Rows) (n : ℕ) (e : Entry) → row_at rows n ≡ Some (Some e) → is_some (at (table_by rows) (e.id, e.key)) ≡ true
shown [] n e is = absurd (true≢false (sym (ap is_some is)))
shown (row ∷ rows) n e is =
    by_number n row.0 (λ b. cond b (Some row.1) (row_at rows n) ≡ Some (Some e) → is_some (at (with_row row.1 (table_by rows)) (e.id, e.key)) ≡ true)
    (λ _ here. let o : row.1 ≡ Some e = cc in ap (λ v. is_some (at (with_row v (table_by rows)) (e.id, e.key))) o ∙ ap is_some (at-put (e.id, e.key) (e.id, e.key) (stored_by e) (table_by rows)) ∙ ap (λ b. is_some (cond b (Some (stored_by e)) (at (table_by rows) (e.id, e.key)))) (place_itself (e.id, e.key)))
    (λ _ there. stays row.1 (shown rows n e there))
    (sym (row_head n row rows) ∙ is)
  where
    either : (b : Bool) (h : StoredValue) (o : Option StoredValue) → is_some o ≡ true → is_some (cond b (Some h) o) ≡ true
    either true h o e = refl
    either false h o e = e

    stays : (o : Option Entry) → is_some (at (table_by rows) (e.id, e.key)) ≡ true → is_some (at (with_row o (table_by rows)) (e.id, e.key)) ≡ true
    stays None there = there
    stays (Some f) there = ap is_some (at-put (f.id, f.key) (e.id, e.key) (stored_by f) (table_by rows)) ∙ either (same_place (f.id, f.key) (e.id, e.key)) (stored_by f) (at (table_by rows) (e.id, e.key)) there

-- ---- by the place's LSN

abbrev pub stored_in : Option (Option Entry) → Option StoredValue
stored_in (Some (Some e)) = Some (stored_by e)
stored_in other = None

abbrev pub stored_under : Rows → Option ℕ → Option StoredValue
stored_under rows None = None
stored_under rows (Some n) = stored_in (row_at rows n)

module _ {slots : Place → Option Slot} {rows : Rows} {puts : List (Place × ℕ)} (a : Agrees slots rows puts) where
  some_from : (p : Place) (o : Option StoredValue) → at (table_by rows) p ≡ o → is_some o ≡ true → (n : ℕ) (e : Entry) → lsn_in (slots p) ≡ Some n → row_at rows n ≡ Some (Some e) → o ≡ Some (stored_by e)
  some_from p None is some n e under row = absurd (true≢false (sym some))
  some_from p (Some h) is some n e under row =
      let s = shows rows p h a.ordered is in
      let named = (a.owned s.lsn s.entry s.row).1 in
      let lsn : s.lsn ≡ n = the_same s.lsn n (sym named ∙ ap (λ q. lsn_in (slots q)) s.place ∙ under) in
      let entry : Some (Some s.entry) ≡ Some (Some e) = sym s.row ∙ ap (row_at rows) lsn ∙ row in
      ap Some (sym s.stored ∙ ap stored_by (the_entry s.entry e entry))
    where
      the_same : (m n : ℕ) → Some m ≡ Some n → m ≡ n
      the_same m n e = cc

      the_entry : (d e : Entry) → Some (Some d) ≡ Some (Some e) → d ≡ e
      the_entry d e is = cc

  none_from : (p : Place) (o : Option StoredValue) → at (table_by rows) p ≡ o → lsn_in (slots p) ≡ None → o ≡ None
  none_from p None is under = refl
  none_from p (Some h) is under =
      let s = shows rows p h a.ordered is in
      absurd (true≢false (ap is_some (sym (a.owned s.lsn s.entry s.row).1 ∙ ap (λ q. lsn_in (slots q)) s.place ∙ under)))

  under_lsn : (p : Place) (l : Option ℕ) → lsn_in (slots p) ≡ l → at (table_by rows) p ≡ stored_under rows l
  under_lsn p None is = none_from p (at (table_by rows) p) refl is
  under_lsn p (Some n) is =
      let f = a.found p n is in
      some_from p (at (table_by rows) p) refl (ap (λ q. is_some (at (table_by rows) q)) (sym f.2) ∙ shown rows n f.0 f.1) n f.0 is f.1 ∙ sym (ap stored_in f.1)

  -- what the rows show at a place is what stands under its LSN
  pub at-shown : (p : Place) → at (table_by rows) p ≡ stored_under rows (lsn_in (slots p))
  at-shown p = under_lsn p (lsn_in (slots p)) refl
