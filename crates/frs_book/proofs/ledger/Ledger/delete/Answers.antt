-- A delete that nobody hinders is a change.
use Rattle.std.proofs.Common.{◌≡◌, [], ◌∙◌, Some, inl, refl, sym, ap, subst, is_some}
use Rattle.frs_types.specs.declared.lock.Lock.TheVariants.{OnMap}
use Rattle.frs_types.specs.Locks.{hinderers}
use Rattle.frs_objects.specs.declared.op.Op.{Op}
use Rattle.frs_objects.specs.declared.op.Op.TheVariants as op
use Rattle.frs_history.specs.declared.command.Command.TheVariants as command
use Rattle.frs_history.specs.Machine.{lock_needed}
use Rattle.frs_book.specs.Ledgers.{transaction_of, removal_of, IsFreeChange}
use Rattle.frs_book.proofs.OutsideCommands.{delete_is_free}
use Rattle.frs_book.proofs.PreparedDraws.{no_memory, some_hinder, none_hinders}
use Rattle.frs_book.proofs.ledger.Ledger.delete.Goals as goal

pub returns-in_default : goal.returns-in_default
returns-in_default c =
    let old = c.args.self.now in
    no_memory old c.args.client c.args.line.now c.requires.turn old.history old.drawer refl (inl refl) c.args.framed.now

pub wait-requires-clause-lock : goal.wait-requires-clause-lock
wait-requires-clause-lock c =
    (λ i. lock_needed (transaction_of (c.requires.outside i)) (c.requires.command i)) ∙ ap (λ l. Some l) (sym c.in-Ok.ensures.lock)

pub wait-requires-clause-hindered : goal.wait-requires-clause-hindered
wait-requires-clause-hindered c =
    some_hinder (hinderers c.args.self.now.locks c.args.client c.in-Ok.lock)
    (sym (c.is_some.ensures ∙ ap is_some c.holder.ensures) ∙ c.if-is_some.true)

pub returns-then-is_some : goal.returns-then-is_some
returns-then-is_some c = c.wait.ensures

pub change-requires-clause-change : goal.change-requires-clause-change
change-requires-clause-change c =
    let old = c.args.self.now in
    let its = c.args.client in
    let id = c.args.id.now in
    let free : hinderers old.locks its (OnMap id) ≡ [] =
    subst (λ l. hinderers old.locks its l ≡ []) c.in-Ok.ensures.lock
    (none_hinders (hinderers old.locks its c.in-Ok.lock) (sym (c.is_some.ensures ∙ ap is_some c.holder.ensures) ∙ c.if-is_some.false)) in
    let op_is : c.removal.result ≡ op.Delete id = c.removal.ensures ∙ ap removal_of c.in-Ok.ensures.lock in
    subst (λ x. IsFreeChange old its x c.removal.result 0) (sym c.requires.command)
    (subst (λ (o : Op). IsFreeChange old its (command.Delete id) o 0) (sym op_is)
    (delete_is_free old c.requires.turn.turn.kept its c.requires.outside id free c.map_lock.ensures.words))

pub returns : goal.returns
returns c = c.change.ensures
