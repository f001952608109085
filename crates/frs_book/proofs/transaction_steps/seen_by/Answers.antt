-- The value is that of the transaction's own changes over the maps.
use Rattle.std.proofs.Common.{◌∙◌, option_copied, option_map, sym, ap, map}
use Rattle.frs_types.specs.Maps.{at, table_after_all}
use Rattle.frs_types.specs.Lawful.{StoredValue}
use Rattle.frs_objects.specs.Objects.{change_by}
use Rattle.frs_history.specs.Machine.{value_or_none}
use Rattle.frs_history.specs.declared.event.Reply.TheVariants as reply
use Rattle.frs_book.specs.declared.client_state.TxState.{TxState}
use Rattle.frs_book.specs.Inside.{changes_in}
use Rattle.frs_book.proofs.transaction_steps.seen_by.Goals as goal

pub returns-in_ok-copy-in-Some : goal.returns-in_ok-copy-in-Some
returns-in_ok-copy-in-Some c =
    ap (λ v. reply.Found v) c.in_ok-copy-in-Some.ensures
    ∙ ap value_or_none
    (sym (ap option_copied c.in-Some.is) ∙ c.value_over.ensures
    ∙ ap (λ (t : TxState). option_map (λ (h : StoredValue). h.value)
    (at (table_after_all c.args.objects.now (map change_by (changes_in t))) (c.args.id.now, c.args.key.now))) (sym c.in-Active.is))

pub returns-in-None : goal.returns-in-None
returns-in-None c =
    ap value_or_none
    (sym (ap option_copied c.in-None.is) ∙ c.value_over.ensures
    ∙ ap (λ (t : TxState). option_map (λ (h : StoredValue). h.value)
    (at (table_after_all c.args.objects.now (map change_by (changes_in t))) (c.args.id.now, c.args.key.now))) (sym c.in-Active.is))
