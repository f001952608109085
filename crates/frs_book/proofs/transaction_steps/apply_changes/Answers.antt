-- The changes are those of the client's active transaction.
use Rattle.std.proofs.Common.{◌∙◌, sym, ap, subst, map}
use Rattle.std.proofs.lemmas.Result.{on_ok_weaker}
use Rattle.frs_types.specs.Maps.{table_after_all}
use Rattle.frs_objects.specs.Objects.{AreNew, change_by, put_lsns, puts_among}
use Rattle.frs_book.specs.declared.client_state.ClientState.{ClientState}
use Rattle.frs_book.specs.declared.client_state.TxState.{TxState}
use Rattle.frs_book.specs.Inside.{changes_in}
use Rattle.frs_book.proofs.PreparedDraws.{client_read}
use Rattle.frs_book.proofs.transaction_steps.apply_changes.Goals as goal

pub apply_to-requires : goal.apply_to-requires
apply_to-requires c =
    subst (λ (t : TxState). AreNew c.args.objects.now (put_lsns (puts_among (changes_in t))))
    (ap (λ (k : ClientState). k.tx) (sym (client_read c.args.clients.now.items c.args.client c.index_mut.result.now c.requires.client c.index_mut.ensures.value))
    ∙ c.in-Active.is)
    c.requires.new

pub returns-clause-applied : goal.returns-clause-applied
returns-clause-applied c =
    on_ok_weaker c.apply_to.result
    (λ applied. applied ∙ ap (λ (t : TxState). table_after_all c.args.objects.now (map change_by (changes_in t)))
    (sym (ap (λ (k : ClientState). k.tx) (sym (client_read c.args.clients.now.items c.args.client c.index_mut.result.now c.requires.client c.index_mut.ensures.value))
    ∙ c.in-Active.is)))
    c.apply_to.ensures.applied
