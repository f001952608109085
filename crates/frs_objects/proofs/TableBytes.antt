-- The bytes of all entries are those of the rows, in whatever order.
use Rattle.std.proofs.Common.{◌≡◌, ℕ, ◌+◌, cond, List, [], ◌∷◌, Option, Some, None, is_some, refl, sym, ap, ◌∙◌, arith, nat_cmp, is_eq, true≢false, Ordering, Less, Equal, Greater}
use Rattle.std.specs.List.{sum_by}
use Rattle.std.specs.List.Sorted.{IsStrictlySortedBy}
use Rattle.std.specs.Map.{keys_of}
use Rattle.std.specs.FinMap.Entries.{put, by_order}
use Rattle.std.proofs.lemmas.List.Sums.{sum_by-cons}
use Rattle.std.proofs.lemmas.Map.Keys.{sorted_tail}
use Rattle.frs_types.specs.declared.record.Entry.{Entry}
use Rattle.frs_types.specs.Maps.{Place, Table, at, place_cmp}
use Rattle.frs_types.specs.Lawful.{StoredValue}
use Rattle.frs_objects.specs.declared.places.Slot.{Slot}
use Rattle.frs_objects.specs.Objects.{stored_by, bytes_at_place, table_bytes}
use Rattle.frs_objects.specs.Index.{Rows, row_bytes, with_row, table_by, Agrees}
use Rattle.frs_objects.proofs.Oldest.{HaveOwnPlaces, new_place, own_behind, own_places}

-- a sum over a table gains the term of a place that is new
sum_by-new_place : (f : Place × StoredValue → ℕ) (p : Place) (h : StoredValue) (t : Table StoredValue) → at t p ≡ None → sum_by f (put place_cmp p h t) ≡ f (p, h) + sum_by f t
sum_by-new_place f p h [] none = sum_by-cons f (p, h) []
sum_by-new_place f p h (x ∷ t) none = by_case (place_cmp p x.0) none (λ e. sum_by-new_place f p h t e)
  where
    swap : (a b c : ℕ) → a + (b + c) ≡ b + (a + c)
    swap a b c = omega arith

    by_case : (o : Ordering) → cond (is_eq o) (Some x.1) (at t p) ≡ None
        → (at t p ≡ None → sum_by f (put place_cmp p h t) ≡ f (p, h) + sum_by f t)
        → sum_by f (by_order o ((p, h) ∷ x ∷ t) ((x.0, h) ∷ t) (x ∷ put place_cmp p h t)) ≡ f (p, h) + sum_by f (x ∷ t)
    by_case Less e rest = sum_by-cons f (p, h) (x ∷ t)
    by_case Equal e rest = absurd (true≢false (ap is_some e))
    by_case Greater e rest =
        sum_by-cons f x (put place_cmp p h t) ∙ ap (λ n. f x + n) (rest e) ∙ swap (f x) (f (p, h)) (sum_by f t)
        ∙ ap (λ n. f (p, h) + n) (sym (sum_by-cons f x t))

abbrev pub rows_bytes : Rows → ℕ
rows_bytes rows = sum_by (λ (row : ℕ × Option Entry). row_bytes row.1) rows

bytes_row : (row : ℕ × Option Entry) (rows : Rows) (o : Option Entry) → row.1 ≡ o → IsStrictlySortedBy nat_cmp (keys_of (row ∷ rows)) → HaveOwnPlaces (row ∷ rows) → table_bytes (table_by rows) ≡ rows_bytes rows → table_bytes (with_row o (table_by rows)) ≡ row_bytes o + rows_bytes rows
bytes_row row rows None is sorted own rest = rest ∙ omega arith
bytes_row row rows (Some e) is sorted own rest =
    sum_by-new_place (λ (x : Place × StoredValue). bytes_at_place x.0 x.1) (e.id, e.key) (stored_by e) (table_by rows) (new_place row rows e is sorted own)
    ∙ ap (λ n. row_bytes (Some e) + n) rest

pub bytes_shown : (rows : Rows) → IsStrictlySortedBy nat_cmp (keys_of rows) → HaveOwnPlaces rows → table_bytes (table_by rows) ≡ rows_bytes rows
bytes_shown [] sorted own = refl
bytes_shown (row ∷ rows) sorted own =
    bytes_row row rows row.1 refl sorted own (bytes_shown rows (sorted_tail nat_cmp row.0 (keys_of rows) sorted) (own_behind row rows sorted own))
    ∙ sym (sum_by-cons (λ (r : ℕ × Option Entry). row_bytes r.1) row rows)

pub bytes_agree : (slots : Place → Option Slot) (rows : Rows) → Agrees slots rows [] → table_bytes (table_by rows) ≡ rows_bytes rows
bytes_agree slots rows a = bytes_shown rows a.ordered (own_places slots rows a)
