-- No commit stands outside a transaction.
use Rattle.std.proofs.Common.{◌≡◌, ◌∙◌, true, sym, true≢false}
use Rattle.frs_types.specs.Locks.{holder_at}
use Rattle.frs_history.specs.Machine.{client}
use Rattle.frs_history.specs.Scripts.{may_stand}
use Rattle.frs_book.specs.declared.client_state.TxState.TheVariants as tx
use Rattle.frs_book.specs.Ledgers.{machine_state, scripts_of, script_at}
use Rattle.frs_book.proofs.OutsideCommands.{tx_is, placed}
use Rattle.frs_book.proofs.ScriptPlaces.{is_inside, next_may_stand}
use Rattle.frs_book.proofs.ledger.Ledger.outside.Goals as goal

pub returns-in-Begin : goal.returns-in-Begin
returns-in-Begin c = c.begin.ensures

pub returns-in-Put : goal.returns-in-Put
returns-in-Put c = c.put.ensures

pub returns-in-Remove : goal.returns-in-Remove
returns-in-Remove c = c.remove.ensures

pub returns-in-Delete : goal.returns-in-Delete
returns-in-Delete c = c.delete.ensures

pub returns-in-Get : goal.returns-in-Get
returns-in-Get c = c.get.ensures c.args.framed.now

pub snapshot-requires-clause-there : goal.snapshot-requires-clause-there
snapshot-requires-clause-there c = λ is.
    let none : tx.Outside ≡ tx.Abandoned = sym c.requires.outside ∙ is in
    cc

pub returns-in-Snapshot : goal.returns-in-Snapshot
returns-in-Snapshot c = c.snapshot.ensures c.args.framed.now

pub unreachable-requires : goal.unreachable-requires
unreachable-requires c =
    let old = c.args.self.now in
    let its = c.args.client in
    let turn = c.requires.turn in
    let may : may_stand (is_inside (client (machine_state old) its).tx) c.args.line.now.command ≡ true =
    next_may_stand (script_at (scripts_of old) its) (client (machine_state old) its) (holder_at old.locks its) (placed old turn.turn.kept its) c.args.line.now turn.at_line in
    true≢false (sym may ∙ (λ i. may_stand (is_inside (tx_is old turn.turn.kept its c.requires.outside i)) (c.in-Commit.is i)))
