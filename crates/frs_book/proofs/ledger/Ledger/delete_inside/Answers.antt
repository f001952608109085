-- A delete that nobody hinders is a change of the transaction.
use Rattle.std.proofs.Common.{◌≡◌, [], ◌∙◌, Some, inl, refl, sym, ap, subst, is_some}
use Rattle.frs_types.specs.declared.lock.Lock.{Lock}
use Rattle.frs_types.specs.declared.lock.Lock.TheVariants.{OnMap}
use Rattle.frs_types.specs.Locks.{hinderers}
use Rattle.frs_objects.specs.declared.op.Op.{Op}
use Rattle.frs_objects.specs.declared.op.Op.TheVariants as op
use Rattle.frs_history.specs.declared.command.Command.TheVariants as command
use Rattle.frs_history.specs.Machine.{lock_needed}
use Rattle.frs_book.specs.Ledgers.{client_at, transaction_of, removal_of}
use Rattle.frs_book.specs.Inside.{IsChangeInside}
use Rattle.frs_book.proofs.PreparedDraws.{no_memory, some_hinder, none_hinders}
use Rattle.frs_book.proofs.InsideOutcomes.{delete_inside_is}
use Rattle.frs_book.proofs.InsideAnswers.{delete_needs}
use Rattle.frs_book.proofs.ledger.Ledger.delete_inside.Goals as goal

pub returns-in_default : goal.returns-in_default
returns-in_default c =
    let old = c.args.self.now in
    no_memory old c.args.client c.args.line.now c.requires.turn old.history old.drawer refl (inl refl) c.args.framed.now

pub wait-requires-clause-lock : goal.wait-requires-clause-lock
wait-requires-clause-lock c =
    let t = (client_at c.args.self.now c.args.client).tx in
    ap (λ x. lock_needed (transaction_of t) x) c.requires.command
    ∙ delete_needs t c.args.id.now c.requires.inside ∙ ap (λ l. Some l) (sym c.in-Ok.ensures.lock)

pub wait-requires-clause-hindered : goal.wait-requires-clause-hindered
wait-requires-clause-hindered c =
    some_hinder (hinderers c.args.self.now.locks c.args.client c.in-Ok.lock)
    (sym (c.is_some.ensures ∙ ap is_some c.holder.ensures) ∙ c.if-is_some.true)

pub returns-then-is_some : goal.returns-then-is_some
returns-then-is_some c = c.wait.ensures

pub returns-in_default-map_lock : goal.returns-in_default-map_lock
returns-in_default-map_lock c =
    let old = c.args.self.now in
    no_memory old c.args.client c.args.line.now c.requires.turn old.history old.drawer refl (inl refl) c.args.framed.now

pub change_inside-requires-clause-change : goal.change_inside-requires-clause-change
change_inside-requires-clause-change c =
    let old = c.args.self.now in
    let its = c.args.client in
    let id = c.args.id.now in
    let free : hinderers old.locks its (OnMap id) ≡ [] =
    subst (λ l. hinderers old.locks its l ≡ []) c.in-Ok.ensures.lock
    (none_hinders (hinderers old.locks its c.in-Ok.lock) (sym (c.is_some.ensures ∙ ap is_some c.holder.ensures) ∙ c.if-is_some.false)) in
    let op_is : c.removal.result ≡ op.Delete id = c.removal.ensures ∙ ap removal_of c.in-Ok-map_lock.ensures.lock in
    subst (λ x. IsChangeInside old its x c.in-Ok.lock c.removal.result 0) (sym c.requires.command)
    (subst (λ (l : Lock). IsChangeInside old its (command.Delete id) l c.removal.result 0) (sym c.in-Ok.ensures.lock)
    (subst (λ (o : Op). IsChangeInside old its (command.Delete id) (OnMap id) o 0) (sym op_is)
    (delete_inside_is old c.requires.turn.turn.kept its c.requires.inside id free c.map_lock.ensures.words)))

pub returns : goal.returns
returns c = c.change_inside.ensures
