-- A remove that nobody hinders is a change of the transaction, or tells that the key isn't there for it.
use Rattle.std.proofs.Common.{◌≡◌, ◌≢◌, [], ◌∙◌, Some, inl, refl, sym, ap, subst, is_some, arith}
use Rattle.frs_types.specs.declared.lock.Lock.{Lock}
use Rattle.frs_types.specs.declared.lock.Lock.TheVariants.{OnKey}
use Rattle.frs_types.specs.Locks.{hinderers}
use Rattle.frs_objects.specs.declared.op.Op.{Op}
use Rattle.frs_objects.specs.declared.op.Op.TheVariants as op
use Rattle.frs_history.specs.declared.command.Command.TheVariants as command
use Rattle.frs_history.specs.declared.event.Reply.TheVariants as reply
use Rattle.frs_history.specs.Machine.{lock_needed}
use Rattle.frs_book.specs.Ledgers.{client_at, transaction_of, removal_of}
use Rattle.frs_book.specs.Inside.{IsChangeInside, IsReadInside}
use Rattle.frs_book.proofs.OutsideSteps.{client_is_there}
use Rattle.frs_book.proofs.PreparedDraws.{no_memory, some_hinder, none_hinders}
use Rattle.frs_book.proofs.InsideOutcomes.{remove_inside_is, absent_inside_is}
use Rattle.frs_book.proofs.InsideAnswers.{remove_needs}
use Rattle.frs_book.proofs.ledger.Ledger.remove_inside.Goals as goal

pub returns-in_default : goal.returns-in_default
returns-in_default c =
    let old = c.args.self.now in
    no_memory old c.args.client c.args.line.now c.requires.turn old.history old.drawer refl (inl refl) c.args.framed.now

pub wait-requires-clause-lock : goal.wait-requires-clause-lock
wait-requires-clause-lock c =
    let t = (client_at c.args.self.now c.args.client).tx in
    ap (λ x. lock_needed (transaction_of t) x) c.requires.command
    ∙ remove_needs t c.args.id.now c.args.key.now c.requires.inside ∙ ap (λ l. Some l) (sym c.in-Ok.ensures.lock)

pub wait-requires-clause-hindered : goal.wait-requires-clause-hindered
wait-requires-clause-hindered c =
    some_hinder (hinderers c.args.self.now.locks c.args.client c.in-Ok.lock)
    (sym (c.is_some.ensures ∙ ap is_some c.holder.ensures) ∙ c.if-is_some.true)

pub returns-then-is_some : goal.returns-then-is_some
returns-then-is_some c = c.wait.ensures

pub named_inside-named-requires-clause-client : goal.named_inside-named-requires-clause-client
named_inside-named-requires-clause-client c = client_is_there c.args.self.now c.args.client c.requires.turn.turn

pub read_inside-requires-clause-read : goal.read_inside-requires-clause-read
read_inside-requires-clause-read c =
    let old = c.args.self.now in
    let its = c.args.client in
    let id = c.args.id.now in
    let key = c.args.key.now in
    let free : hinderers old.locks its (OnKey id key) ≡ [] =
    subst (λ l. hinderers old.locks its l ≡ []) c.in-Ok.ensures.lock
    (none_hinders (hinderers old.locks its c.in-Ok.lock) (sym (c.is_some.ensures ∙ ap is_some c.holder.ensures) ∙ c.if-is_some.false)) in
    subst (λ x. IsReadInside old its x c.in-Ok.lock reply.Absent) (sym c.requires.command)
    (subst (λ (l : Lock). IsReadInside old its (command.Remove id key) l reply.Absent) (sym c.in-Ok.ensures.lock)
    (absent_inside_is old c.requires.turn.turn.kept its c.requires.inside id key c.named_inside-named.result free
    c.named_inside-named.ensures c.if-named-eq0.true))

pub returns-then-named-eq0 : goal.returns-then-named-eq0
returns-then-named-eq0 c = c.read_inside.ensures c.args.framed.now

pub returns-in_default-key_lock : goal.returns-in_default-key_lock
returns-in_default-key_lock c =
    let old = c.args.self.now in
    no_memory old c.args.client c.args.line.now c.requires.turn old.history old.drawer refl (inl refl) c.args.framed.now

pub change_inside-requires-clause-change : goal.change_inside-requires-clause-change
change_inside-requires-clause-change c =
    let old = c.args.self.now in
    let its = c.args.client in
    let id = c.args.id.now in
    let key = c.args.key.now in
    let named = c.named_inside-named.result in
    let free : hinderers old.locks its (OnKey id key) ≡ [] =
    subst (λ l. hinderers old.locks its l ≡ []) c.in-Ok.ensures.lock
    (none_hinders (hinderers old.locks its c.in-Ok.lock) (sym (c.is_some.ensures ∙ ap is_some c.holder.ensures) ∙ c.if-is_some.false)) in
    let op_is : c.removal.result ≡ op.Remove id key = c.removal.ensures ∙ ap removal_of c.in-Ok-key_lock.ensures.lock in
    let some : named ≢ 0 = λ none. omega (arith, none, c.if-named-eq0.false) in
    subst (λ x. IsChangeInside old its x c.in-Ok.lock c.removal.result named) (sym c.requires.command)
    (subst (λ (l : Lock). IsChangeInside old its (command.Remove id key) l c.removal.result named) (sym c.in-Ok.ensures.lock)
    (subst (λ (o : Op). IsChangeInside old its (command.Remove id key) (OnKey id key) o named) (sym op_is)
    (remove_inside_is old c.requires.turn.turn.kept its c.requires.inside id key named free c.key_lock.ensures.words
    c.named_inside-named.ensures some)))

pub returns : goal.returns
returns c = c.change_inside.ensures
