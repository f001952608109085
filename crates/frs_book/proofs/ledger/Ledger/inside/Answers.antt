-- No begin stands inside a transaction.
use Rattle.std.proofs.Common.{◌≡◌, ◌∙◌, true, sym, ap, true≢false}
use Rattle.frs_types.specs.Locks.{holder_at}
use Rattle.frs_history.specs.Machine.{Client, client}
use Rattle.frs_history.specs.Scripts.{may_stand}
use Rattle.frs_book.specs.Ledgers.{has_begun, client_at, machine_state, scripts_of, script_at}
use Rattle.frs_book.proofs.LedgerGoesOn.{client_is}
use Rattle.frs_book.proofs.OutsideCommands.{placed}
use Rattle.frs_book.proofs.ScriptPlaces.{is_inside, next_may_stand}
use Rattle.frs_book.proofs.InsideAnswers.{begun_is_inside}
use Rattle.frs_book.proofs.ledger.Ledger.inside.Goals as goal

pub returns-in-Put : goal.returns-in-Put
returns-in-Put c = c.put_inside.ensures

pub returns-in-Remove : goal.returns-in-Remove
returns-in-Remove c = c.remove_inside.ensures

pub returns-in-Delete : goal.returns-in-Delete
returns-in-Delete c = c.delete_inside.ensures

pub returns-in-Get : goal.returns-in-Get
returns-in-Get c = c.get_inside.ensures

pub snapshot-requires-clause-there : goal.snapshot-requires-clause-there
snapshot-requires-clause-there c = λ is. true≢false (sym c.requires.inside ∙ ap has_begun is)

pub returns-in-Snapshot : goal.returns-in-Snapshot
returns-in-Snapshot c = c.snapshot.ensures c.args.framed.now

pub returns-in-Commit : goal.returns-in-Commit
returns-in-Commit c = c.commit.ensures

pub unreachable-requires : goal.unreachable-requires
unreachable-requires c =
    let old = c.args.self.now in
    let its = c.args.client in
    let turn = c.requires.turn in
    let may : may_stand (is_inside (client (machine_state old) its).tx) c.args.line.now.command ≡ true =
    next_may_stand (script_at (scripts_of old) its) (client (machine_state old) its) (holder_at old.locks its) (placed old turn.turn.kept its) c.args.line.now turn.at_line in
    let there : is_inside (client (machine_state old) its).tx ≡ true =
    ap (λ (k : Client). is_inside k.tx) (client_is old turn.turn.kept its)
    ∙ begun_is_inside (client_at old its).tx c.requires.inside in
    true≢false (sym may ∙ (λ i. may_stand (there i) (c.in-Begin.is i)))
