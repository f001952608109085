-- A get is told what the maps have.
use Rattle.std.proofs.Common.{inl, refl, sym, subst}
use Rattle.frs_history.specs.declared.command.Command.TheVariants as command
use Rattle.frs_book.specs.Ledgers.{IsTold}
use Rattle.frs_book.proofs.OutsideCommands.{get_is_told}
use Rattle.frs_book.proofs.PreparedDraws.{no_memory}
use Rattle.frs_book.proofs.ledger.Ledger.get.Goals as goal

pub tell-requires-clause-told : goal.tell-requires-clause-told
tell-requires-clause-told c =
    let old = c.args.self.now in
    let its = c.args.client in
    let id = c.args.id.now in
    let key = c.args.key.now in
    subst (λ x. IsTold old its x c.in-Ok.reply) (sym c.requires.command)
    (subst (λ r. IsTold old its (command.Get id key) r) (sym c.in-Ok.ensures) (get_is_told old c.requires.turn.turn.kept its c.requires.outside id key))

pub returns-in-Ok : goal.returns-in-Ok
returns-in-Ok c = c.tell.ensures

pub returns-in-Err : goal.returns-in-Err
returns-in-Err c = λ f.
    let old = c.args.self.now in
    no_memory old c.args.client c.args.line.now c.requires.turn old.history old.drawer refl (inl refl) f
