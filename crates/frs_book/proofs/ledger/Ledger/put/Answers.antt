-- A put that nobody hinders is a change.
use Rattle.std.proofs.Common.{◌≡◌, [], ◌∙◌, Some, inl, refl, sym, ap, subst, is_some}
use Rattle.std.proofs.lemmas.Bool.{and_from}
use Rattle.frs_types.specs.declared.lock.Lock.TheVariants.{OnKey}
use Rattle.frs_types.specs.Locks.{hinderers}
use Rattle.frs_slots.specs.Views.{next_drawn}
use Rattle.frs_objects.specs.declared.op.Op.{Op}
use Rattle.frs_objects.specs.declared.op.Op.TheVariants as op
use Rattle.frs_history.specs.declared.command.Command.TheVariants as command
use Rattle.frs_history.specs.Machine.{lock_needed}
use Rattle.frs_book.specs.Ledgers.{transaction_of, IsFreeChange}
use Rattle.frs_book.proofs.OutsideCommands.{put_is_free}
use Rattle.frs_book.proofs.PreparedDraws.{no_memory, some_hinder, none_hinders}
use Rattle.frs_book.proofs.ledger.Ledger.put.Goals as goal

pub returns-in_default : goal.returns-in_default
returns-in_default c =
    let old = c.args.self.now in
    no_memory old c.args.client c.args.line.now c.requires.turn old.history old.drawer refl (inl refl) c.args.framed.now

pub wait-requires-clause-lock : goal.wait-requires-clause-lock
wait-requires-clause-lock c =
    (λ i. lock_needed (transaction_of (c.requires.outside i)) (c.requires.command i)) ∙ ap (λ l. Some l) (sym c.in-Ok.ensures.lock)

pub wait-requires-clause-hindered : goal.wait-requires-clause-hindered
wait-requires-clause-hindered c =
    some_hinder (hinderers c.args.self.now.locks c.args.client c.in-Ok.lock)
    (sym (c.is_some.ensures ∙ ap is_some c.holder.ensures) ∙ c.if-is_some.true)

pub returns-then-is_some : goal.returns-then-is_some
returns-then-is_some c = c.wait.ensures

pub put_op-requires : goal.put_op-requires
put_op-requires c = (c.args.id.now, c.args.key.now, c.in-Ok.ensures.lock)

pub returns-in_default-put_op : goal.returns-in_default-put_op
returns-in_default-put_op c =
    let old = c.args.self.now in
    no_memory old c.args.client c.args.line.now c.requires.turn old.history old.drawer refl (inl refl) c.args.framed.now

pub change-requires-clause-change : goal.change-requires-clause-change
change-requires-clause-change c =
    let old = c.args.self.now in
    let its = c.args.client in
    let id = c.args.id.now in
    let key = c.args.key.now in
    let value = c.args.value.now in
    let named = c.lsn_at-named.result in
    let free : hinderers old.locks its (OnKey id key) ≡ [] =
    subst (λ l. hinderers old.locks its l ≡ []) c.in-Ok.ensures.lock
    (none_hinders (hinderers old.locks its c.in-Ok.lock) (sym (c.is_some.ensures ∙ ap is_some c.holder.ensures) ∙ c.if-is_some.false)) in
    let op_is : c.in-Ok-put_op.op ≡ op.Put id key value (next_drawn old.drawer) =
    c.in-Ok-put_op.ensures.op id key c.in-Ok.ensures.lock ∙ ap (λ n. op.Put id key value n) c.next.ensures.next in
    subst (λ x. IsFreeChange old its x c.in-Ok-put_op.op named) (sym c.requires.command)
    (subst (λ (o : Op). IsFreeChange old its (command.Put id key value) o named) (sym op_is)
    (put_is_free old c.requires.turn.turn.kept its c.requires.outside id key value named free c.lsn_at-named.ensures
    (and_from _ _ c.key_lock.ensures.words c.put_op.ensures.word)))

pub returns : goal.returns
returns c = c.change.ensures
