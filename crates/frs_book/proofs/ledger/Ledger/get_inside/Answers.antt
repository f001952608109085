-- A get that nobody hinders tells what the transaction sees.
use Rattle.std.proofs.Common.{◌≡◌, [], ◌∙◌, Some, inl, refl, sym, ap, subst, is_some, arith, map, option_map}
use Rattle.frs_types.specs.declared.lock.Lock.{Lock}
use Rattle.frs_types.specs.declared.lock.Lock.TheVariants.{OnKey}
use Rattle.frs_types.specs.Locks.{hinderers}
use Rattle.frs_types.specs.Maps.{at, table_after_all}
use Rattle.frs_types.specs.Lawful.{StoredValue}
use Rattle.frs_objects.specs.Objects.{change_by}
use Rattle.frs_history.specs.declared.command.Command.TheVariants as command
use Rattle.frs_history.specs.Machine.{lock_needed, value_or_none}
use Rattle.frs_book.specs.declared.client_state.ClientState.{ClientState}
use Rattle.frs_book.specs.Ledgers.{client_at, has_begun, transaction_of}
use Rattle.frs_book.specs.Inside.{IsReadInside, changes_in}
use Rattle.frs_book.proofs.OutsideSteps.{client_is_there}
use Rattle.frs_book.proofs.PreparedDraws.{no_memory, some_hinder, none_hinders, client_read}
use Rattle.frs_book.proofs.InsideOutcomes.{get_inside_is}
use Rattle.frs_book.proofs.InsideAnswers.{get_needs}
use Rattle.frs_book.proofs.ledger.Ledger.get_inside.Goals as goal

pub returns-in_default : goal.returns-in_default
returns-in_default c =
    let old = c.args.self.now in
    no_memory old c.args.client c.args.line.now c.requires.turn old.history old.drawer refl (inl refl) c.args.framed.now

pub wait-requires-clause-lock : goal.wait-requires-clause-lock
wait-requires-clause-lock c =
    let t = (client_at c.args.self.now c.args.client).tx in
    ap (λ x. lock_needed (transaction_of t) x) c.requires.command
    ∙ get_needs t c.args.id.now c.args.key.now c.requires.inside ∙ ap (λ l. Some l) (sym c.in-Ok.ensures.lock)

pub wait-requires-clause-hindered : goal.wait-requires-clause-hindered
wait-requires-clause-hindered c =
    some_hinder (hinderers c.args.self.now.locks c.args.client c.in-Ok.lock)
    (sym (c.is_some.ensures ∙ ap is_some c.holder.ensures) ∙ c.if-is_some.true)

pub returns-then-is_some : goal.returns-then-is_some
returns-then-is_some c = c.wait.ensures

pub index-requires : goal.index-requires
index-requires c =
    let within = client_is_there c.args.self.now c.args.client c.requires.turn.turn in
    omega (arith, within, c.args.self.now.clients.ok.0)

pub seen_by-requires : goal.seen_by-requires
seen_by-requires c =
    let old = c.args.self.now in
    let it = client_read old.clients.items c.args.client c.index.result.now (client_is_there old c.args.client c.requires.turn.turn) c.index.ensures in
    ap (λ (k : ClientState). has_begun k.tx) it ∙ c.requires.inside

pub read_inside-requires-clause-read : goal.read_inside-requires-clause-read
read_inside-requires-clause-read c =
    let old = c.args.self.now in
    let its = c.args.client in
    let id = c.args.id.now in
    let key = c.args.key.now in
    let free : hinderers old.locks its (OnKey id key) ≡ [] =
    subst (λ l. hinderers old.locks its l ≡ []) c.in-Ok.ensures.lock
    (none_hinders (hinderers old.locks its c.in-Ok.lock) (sym (c.is_some.ensures ∙ ap is_some c.holder.ensures) ∙ c.if-is_some.false)) in
    let it = client_read old.clients.items its c.index.result.now (client_is_there old its c.requires.turn.turn) c.index.ensures in
    subst (λ x. IsReadInside old its x c.in-Ok.lock c.in-Ok-seen_by.reply) (sym c.requires.command)
    (subst (λ (l : Lock). IsReadInside old its (command.Get id key) l c.in-Ok-seen_by.reply) (sym c.in-Ok.ensures.lock)
    (get_inside_is old c.requires.turn.turn.kept its c.requires.inside id key c.in-Ok-seen_by.reply free
    (c.in-Ok-seen_by.ensures
    ∙ ap (λ (k : ClientState). value_or_none (option_map (λ (h : StoredValue). h.value)
    (at (table_after_all old.objects (map change_by (changes_in k.tx))) (id, key)))) it)))

pub returns-in-Ok-seen_by : goal.returns-in-Ok-seen_by
returns-in-Ok-seen_by c = c.read_inside.ensures c.args.framed.now

pub returns : goal.returns
returns c =
    let old = c.args.self.now in
    no_memory old c.args.client c.args.line.now c.requires.turn old.history old.drawer refl (inl refl) c.args.framed.now
