-- The entries are those of the maps.
use Rattle.std.proofs.Common.{◌∙◌, length, sym, ap}
use Rattle.std.proofs.lemmas.List.{length-map}
use Rattle.frs_types.specs.Maps.{Place}
use Rattle.frs_types.specs.Lawful.{StoredValue}
use Rattle.frs_book.specs.Books.{BookView, bytes_of_maps}
use Rattle.frs_book.proofs.EntriesTotal.{bytes_are}
use Rattle.frs_book.proofs.book.Book.totals.Goals as goal

pub returns-clause-live : goal.returns-clause-live
returns-clause-live c = c.totals.ensures.live
    ∙ sym (length-map c.self.inside.ledger.objects (λ (e : Place × StoredValue). (e.0, e.1.value)))
    ∙ ap (λ (b : BookView). length b.state.maps) c.self.view_is

pub returns-clause-bytes : goal.returns-clause-bytes
returns-clause-bytes c = c.totals.ensures.bytes ∙ bytes_are c.self.inside.ledger.objects ∙ ap (λ (b : BookView). bytes_of_maps b.state.maps) c.self.view_is
