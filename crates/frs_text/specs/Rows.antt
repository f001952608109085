-- Entries of the maps, referred to in some order.
use Rattle.std.specs.Prelude.{ℕ, List, map}
use Rattle.std.specs.Borrow.{Bor}
use Rattle.frs_types.specs.declared.record.Entry.{Entry}
use Rattle.frs_types.specs.Maps.{Place, Maps}
use Rattle.frs_recovery.specs.Answers.{place_of_entry}
use Rattle.frs_text.specs.Text.{Text, entry_line}

-- an entry as one of the maps
abbrev pub pair_of : Entry → Place × List ℕ
pair_of e = (place_of_entry e, e.value)

abbrev pub pairs_of : List (Bor Entry) → Maps
pairs_of rows = map (λ (r : Bor Entry). pair_of r.now) rows

abbrev pub row_line : Bor Entry → Text
row_line r = entry_line (pair_of r.now)
