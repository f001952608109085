-- The bytes of the entries are those of the maps.
use Rattle.std.proofs.Common.{◌≡◌, ℕ, ◌+◌, List, [], ◌∷◌, length, refl, ap, ◌∙◌, sym}
use Rattle.std.proofs.lemmas.List.Sums.{sum_by-cons}
use Rattle.frs_types.specs.Maps.{Place, Table}
use Rattle.frs_types.specs.Lawful.{StoredValue, plain_maps}
use Rattle.frs_objects.specs.Objects.{table_bytes, bytes_at_place}
use Rattle.frs_book.specs.Books.{bytes_of_maps}

pub bytes_are : (t : Table StoredValue) → table_bytes t ≡ bytes_of_maps (plain_maps t)
bytes_are [] = refl
bytes_are (e ∷ t) =
    sum_by-cons (λ (x : Place × StoredValue). bytes_at_place x.0 x.1) e t
    ∙ ap (λ n. length e.0.0 + (length e.0.1 + length e.1.value) + n) (bytes_are t)
    ∙ sym (sum_by-cons (λ (x : Place × List ℕ). length x.0.0 + (length x.0.1 + length x.1)) (e.0, e.1.value) (plain_maps t))
