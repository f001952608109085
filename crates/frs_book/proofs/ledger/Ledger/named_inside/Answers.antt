-- The transaction sees its own changes over the maps.
use Rattle.std.proofs.Common.{◌∙◌, sym, ap, map}
use Rattle.frs_types.specs.Maps.{table_after_all}
use Rattle.frs_objects.specs.Objects.{change_by, lsn_of_place}
use Rattle.frs_book.specs.declared.client_state.ClientState.{ClientState}
use Rattle.frs_book.specs.declared.client_state.TxState.{TxState}
use Rattle.frs_book.specs.Inside.{changes_in}
use Rattle.frs_book.proofs.PreparedDraws.{client_read}
use Rattle.frs_book.proofs.ledger.Ledger.named_inside.Goals as goal

pub returns : goal.returns
returns c =
    let old = c.args.self.now in
    let it = client_read old.clients.items c.args.client c.index.result.now c.requires.client c.index.ensures in
    c.lsn_over.ensures
    ∙ ap (λ (t : TxState). lsn_of_place (table_after_all old.objects (map change_by (changes_in t))) (c.args.id.now, c.args.key.now))
    (sym c.in-Active.is ∙ ap (λ (k : ClientState). k.tx) it)
