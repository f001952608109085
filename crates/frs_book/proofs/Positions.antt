-- What a change of the changes of one map changes of the positions.
use Rattle.std.proofs.Common.{◌≡◌, ℕ, true, false, cond, List, Option, Some, None, is_some, refl, sym, ap, ◌∙◌, BTreeMap, true≢false}
use Rattle.std.specs.Option.{option_or}
use Rattle.std.specs.Str.{bytes_eq}
use Rattle.std.proofs.lemmas.Slice.Eq.{bytes_eq-Decides}
use Rattle.frs_objects.proofs.NestedMaps.{by_bytes, by_equal}
use Rattle.frs_book.specs.declared.change_index.MapChanges.{MapChanges}
use Rattle.frs_book.specs.Changes.{position_by, position_of}

-- what a key has once it was written
pub at_own : {X : Type 0} (m n : BTreeMap (List ℕ) X) (key : List ℕ) (o : Option X)
    → ((k : List ℕ) → by_bytes n k ≡ cond (bytes_eq key k) o (by_bytes m k)) → by_bytes n key ≡ o
at_own m n key o written = written key ∙ ap (λ b. cond b o (by_bytes m key)) (itself key)
  where
    itself : (x : List ℕ) → bytes_eq x x ≡ true
    itself x = (bytes_eq-Decides x x).1 refl

-- where there is no place, there is no position
no_position : (o : Option (Option ℕ)) → is_some o ≡ false → position_by o ≡ None
no_position None is = refl
no_position (Some position) is = absurd (true≢false is)

pub no_changes : (o : Option MapChanges) (key : List ℕ) → is_some o ≡ false → position_of o key ≡ None
no_changes None key is = refl
no_changes (Some m) key is = absurd (true≢false is)

-- a place for a key that had none changes no position
pub place_made : (m n : BTreeMap (List ℕ) (Option ℕ)) (key : List ℕ) (deleted : Option ℕ)
    → ((k : List ℕ) → by_bytes n k ≡ cond (bytes_eq key k) (Some None) (by_bytes m k)) → is_some (by_bytes m key) ≡ false
    → (k : List ℕ) → option_or (position_by (by_bytes n k)) deleted ≡ option_or (position_by (by_bytes m k)) deleted
place_made m n key deleted written none k = ap (λ o. option_or (position_by o) deleted) (written k)
    ∙ by_equal key k (λ b. option_or (position_by (cond b (Some None) (by_bytes m k))) deleted ≡ option_or (position_by (by_bytes m k)) deleted)
    (λ same. sym (ap (λ o. option_or o deleted) (ap (λ w. position_by (by_bytes m w)) (sym same) ∙ no_position (by_bytes m key) none)))
    (λ _. refl)

-- a position that is written is that of its key alone
pub position_written : (m n : BTreeMap (List ℕ) (Option ℕ)) (key : List ℕ) (position : ℕ) (deleted : Option ℕ)
    → ((k : List ℕ) → by_bytes n k ≡ cond (bytes_eq key k) (Some (Some position)) (by_bytes m k))
    → (k : List ℕ) → option_or (position_by (by_bytes n k)) deleted
    ≡ cond (bytes_eq key k) (Some position) (option_or (position_by (by_bytes m k)) deleted)
position_written m n key position deleted written k = ap (λ o. option_or (position_by o) deleted) (written k)
    ∙ elim (bytes_eq key k) as (λ b. option_or (position_by (cond b (Some (Some position)) (by_bytes m k))) deleted
    ≡ cond b (Some position) (option_or (position_by (by_bytes m k)) deleted)) [
      | true ↦ refl
      | false ↦ refl
    ]
