-- What a transaction sees at a place is what its newest change there leaves.
use Rattle.std.proofs.Common.{◌≡◌, ℕ, ◌+◌, ◌<◌, Bool, true, false, cond, zero, suc, List, [], ◌∷◌, ◌++◌, length, reverse, map, Option, Some, None, refl, sym, ap, ◌∙◌, subst, arith}
use Rattle.std.specs.Prelude.{slice_get, option_map, unwrap_or}
use Rattle.std.specs.Option.{option_or}
use Rattle.std.specs.List.{find}
use Rattle.std.proofs.lemmas.List.{reverse-append, length-append}
use Rattle.std.proofs.lemmas.List.Folds.{find-append}
use Rattle.frs_types.specs.Maps.{Place, Table, at, table_after_all}
use Rattle.frs_types.specs.Lawful.{StoredValue}
use Rattle.frs_types.proofs.Changes as changes
use Rattle.frs_types.proofs.Changes.{given, latest, at-table_after_all}
use Rattle.frs_types.specs.declared.record.Entry.{Entry}
use Rattle.frs_objects.specs.Objects.{change_by, entry_of, entry_at}
use Rattle.frs_objects.specs.declared.op.Op.TheVariants.{Put, Remove, Delete}
use Rattle.frs_objects.specs.declared.op.Op.{Op}
use Rattle.frs_book.specs.declared.change_index.MapChanges.{MapChanges}
use Rattle.frs_book.specs.Changes.{touches, newest_touching, left_by, seen_over, position_at, IsFoundAt, IsIndexed}
use Rattle.std.specs.BTreeMap.{BTreeMap}

-- one change more
pub newest_pushed : (ops : List Op) (op : Op) (p : Place) → newest_touching (ops ++ op ∷ []) p ≡ cond (touches p op) (Some op) (newest_touching ops p)
newest_pushed ops op p = ap (λ l. find (touches p) l) (reverse-append ops (op ∷ []))

get_front : {X : Type 0} (xs : List X) (x : X) (n : ℕ) → n < length xs → slice_get (xs ++ x ∷ []) n ≡ slice_get xs n
get_front [] x n less = absurd (omega arith)
get_front (y ∷ xs) x zero less = refl
get_front (y ∷ xs) x (suc n) less = get_front xs x n (omega arith)

get_end : {X : Type 0} (xs : List X) (x : X) → slice_get (xs ++ x ∷ []) (length xs) ≡ Some x
get_end [] x = refl
get_end (y ∷ xs) x = get_end xs x

longer : {X : Type 0} (xs : List X) (x : X) → length (xs ++ x ∷ []) ≡ length xs + 1
longer xs x = length-append xs (x ∷ [])

still_found : (ops : List Op) (op : Op) (at : Option ℕ) (found : Option Op) → IsFoundAt ops at found → IsFoundAt (ops ++ op ∷ []) at found
still_found ops op None found is = is
still_found ops op (Some n) found is = (omega (arith, is.0, longer ops op), get_front ops op n is.0 ∙ is.1)

pub indexed_pushed : (ops : List Op) (op : Op) (old new : BTreeMap (List ℕ) MapChanges) → IsIndexed ops old
    → ((p : Place) → position_at new p ≡ cond (touches p op) (Some (length ops)) (position_at old p))
    → IsIndexed (ops ++ op ∷ []) new
indexed_pushed ops op old new was at p =
    subst (λ (n : Option ℕ). IsFoundAt (ops ++ op ∷ []) n (newest_touching (ops ++ op ∷ []) p)) (sym (at p))
    (subst (λ (f : Option Op). IsFoundAt (ops ++ op ∷ []) (cond (touches p op) (Some (length ops)) (position_at old p)) f) (sym (newest_pushed ops op p))
    (elim (touches p op) as (λ b. IsFoundAt (ops ++ op ∷ []) (cond b (Some (length ops)) (position_at old p)) (cond b (Some op) (newest_touching ops p))) [
      | true ↦ (omega (arith, longer ops op), get_end ops op)
      | false ↦ still_found ops op (position_at old p) (newest_touching ops p) (was p)
    ]))

-- ---- what is seen

touches_by : (p : Place) (op : Op) → touches p op ≡ changes.touches p (change_by op)
touches_by p (Put id key value lsn) = refl
touches_by p (Remove id key) = refl
touches_by p (Delete id) = refl

given_by : (op : Op) → left_by op ≡ given (change_by op)
given_by (Put id key value lsn) = refl
given_by (Remove id key) = refl
given_by (Delete id) = refl

left_in_turn : (a b : Option Op) → option_map left_by (option_or a b) ≡ option_or (option_map left_by a) (option_map left_by b)
left_in_turn None b = refl
left_in_turn (Some op) b = refl

left_if : (b : Bool) (op : Op) → option_map left_by (cond b (Some op) None) ≡ cond b (Some (left_by op)) None
left_if true op = refl
left_if false op = refl

newest_is_latest : (p : Place) (ops : List Op) → option_map left_by (newest_touching ops p) ≡ latest p (map change_by ops)
newest_is_latest p [] = refl
newest_is_latest p (op ∷ ops) =
    ap (λ l. option_map left_by (find (touches p) l)) (reverse-append (op ∷ []) ops)
    ∙ ap (option_map left_by) (find-append (touches p) (reverse ops) (op ∷ []))
    ∙ left_in_turn (newest_touching ops p) (cond (touches p op) (Some op) None)
    ∙ ap (λ o. option_or o (option_map left_by (cond (touches p op) (Some op) None))) (newest_is_latest p ops)
    ∙ ap (option_or (latest p (map change_by ops)))
    (left_if (touches p op) op
    ∙ ap (λ b. cond b (Some (left_by op)) None) (touches_by p op)
    ∙ ap (λ v. cond (changes.touches p (change_by op)) (Some v) None) (given_by op))

-- What the table has at a place after the changes is what they let a transaction see there.
pub at_after_changes : (t : Table StoredValue) (ops : List Op) (p : Place) → at (table_after_all t (map change_by ops)) p ≡ seen_over ops p (at t p)
at_after_changes t ops p = at-table_after_all p (map change_by ops) t ∙ ap (λ o. unwrap_or o (at t p)) (sym (newest_is_latest p ops))

-- The same, where the newest change of the place is known.
pub at_found : (t : Table StoredValue) (ops : List Op) (p : Place) (o : Option Op) → o ≡ newest_touching ops p
    → at (table_after_all t (map change_by ops)) p ≡ unwrap_or (option_map left_by o) (at t p)
at_found t ops p o is = at_after_changes t ops p ∙ ap (λ f. unwrap_or (option_map left_by f) (at t p)) (sym is)

-- what an entry has of a place is what stands there
pub part_of_entry : {X : Type 0} (f : Entry → X) (g : StoredValue → X) (t : Table StoredValue) (p : Place) (o : Option Entry)
    → ((h : StoredValue) → f (entry_of p h) ≡ g h) → o ≡ entry_at t p → option_map f o ≡ option_map g (at t p)
part_of_entry f g t p o same is = ap (option_map f) is ∙ by_place (at t p)
  where
    by_place : (v : Option StoredValue) → option_map f (option_map (entry_of p) v) ≡ option_map g v
    by_place None = refl
    by_place (Some h) = ap (λ x. Some x) (same h)
