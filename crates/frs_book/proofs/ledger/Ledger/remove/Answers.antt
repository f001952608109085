-- A remove that nobody hinders is a change, or is told that the key isn't there.
use Rattle.std.proofs.Common.{◌≡◌, ◌≢◌, [], ◌∙◌, Some, inl, refl, sym, ap, subst, is_some, arith}
use Rattle.frs_types.specs.declared.lock.Lock.TheVariants.{OnKey}
use Rattle.frs_types.specs.Locks.{hinderers}
use Rattle.frs_objects.specs.declared.op.Op.{Op}
use Rattle.frs_objects.specs.declared.op.Op.TheVariants as op
use Rattle.frs_history.specs.declared.command.Command.TheVariants as command
use Rattle.frs_history.specs.declared.event.Reply.TheVariants as reply
use Rattle.frs_history.specs.Machine.{lock_needed}
use Rattle.frs_book.specs.Ledgers.{transaction_of, removal_of, IsTold, IsFreeChange}
use Rattle.frs_book.proofs.OutsideCommands.{remove_is_free, absent_is_told}
use Rattle.frs_book.proofs.PreparedDraws.{no_memory, some_hinder, none_hinders}
use Rattle.frs_book.proofs.ledger.Ledger.remove.Goals as goal

pub returns-in_default : goal.returns-in_default
returns-in_default c =
    let old = c.args.self.now in
    no_memory old c.args.client c.args.line.now c.requires.turn old.history old.drawer refl (inl refl) c.args.framed.now

pub wait-requires-clause-lock : goal.wait-requires-clause-lock
wait-requires-clause-lock c =
    (λ i. lock_needed (transaction_of (c.requires.outside i)) (c.requires.command i)) ∙ ap (λ l. Some l) (sym c.in-Ok.ensures.lock)

pub wait-requires-clause-hindered : goal.wait-requires-clause-hindered
wait-requires-clause-hindered c =
    some_hinder (hinderers c.args.self.now.locks c.args.client c.in-Ok.lock)
    (sym (c.is_some.ensures ∙ ap is_some c.holder.ensures) ∙ c.if-is_some.true)

pub returns-then-is_some : goal.returns-then-is_some
returns-then-is_some c = c.wait.ensures

pub tell-requires-clause-told : goal.tell-requires-clause-told
tell-requires-clause-told c =
    let old = c.args.self.now in
    let its = c.args.client in
    let id = c.args.id.now in
    let key = c.args.key.now in
    let free : hinderers old.locks its (OnKey id key) ≡ [] =
    subst (λ l. hinderers old.locks its l ≡ []) c.in-Ok.ensures.lock
    (none_hinders (hinderers old.locks its c.in-Ok.lock) (sym (c.is_some.ensures ∙ ap is_some c.holder.ensures) ∙ c.if-is_some.false)) in
    subst (λ x. IsTold old its x reply.Absent) (sym c.requires.command)
    (absent_is_told old c.requires.turn.turn.kept its c.requires.outside id key free (sym c.lsn_at-named.ensures ∙ c.if-named-eq0.true))

pub returns-then-named-eq0 : goal.returns-then-named-eq0
returns-then-named-eq0 c = c.tell.ensures c.args.framed.now

pub change-requires-clause-change : goal.change-requires-clause-change
change-requires-clause-change c =
    let old = c.args.self.now in
    let its = c.args.client in
    let id = c.args.id.now in
    let key = c.args.key.now in
    let named = c.lsn_at-named.result in
    let free : hinderers old.locks its (OnKey id key) ≡ [] =
    subst (λ l. hinderers old.locks its l ≡ []) c.in-Ok.ensures.lock
    (none_hinders (hinderers old.locks its c.in-Ok.lock) (sym (c.is_some.ensures ∙ ap is_some c.holder.ensures) ∙ c.if-is_some.false)) in
    let op_is : c.removal.result ≡ op.Remove id key = c.removal.ensures ∙ ap removal_of c.in-Ok.ensures.lock in
    let some : named ≢ 0 = λ none. omega (arith, none, c.if-named-eq0.false) in
    subst (λ x. IsFreeChange old its x c.removal.result named) (sym c.requires.command)
    (subst (λ (o : Op). IsFreeChange old its (command.Remove id key) o named) (sym op_is)
    (remove_is_free old c.requires.turn.turn.kept its c.requires.outside id key named free c.lsn_at-named.ensures some c.key_lock.ensures.words))

pub returns : goal.returns
returns c = c.change.ensures
