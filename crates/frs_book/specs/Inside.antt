-- What a step inside a transaction needs: the changes that a client has made so far, and what its next command is
-- answered.
use Rattle.std.specs.Prelude.{◌≡◌, ℕ, ◌+◌, Bool, true, false, List, [], ◌∷◌, ◌++◌, Some, None}
use Rattle.frs_types.specs.declared.lock.Lock.{Lock}
use Rattle.frs_types.specs.declared.record.Action.{Action}
use Rattle.frs_types.specs.Locks.{holder_at, with_lock, hinderers}
use Rattle.frs_types.specs.Records.{has_words}
use Rattle.frs_types.specs.Lawful.{LogState, after_by, after_change}
use Rattle.frs_objects.specs.declared.op.Op.{Op}
use Rattle.frs_objects.specs.Objects.{change_by}
use Rattle.frs_history.specs.declared.command.Command.{Command}
use Rattle.frs_history.specs.declared.event.Reply.{Reply}
use Rattle.frs_history.specs.declared.event.Reply.TheVariants as reply
use Rattle.frs_history.specs.declared.event.What.TheVariants.{Answered}
use Rattle.frs_history.specs.Machine.{client, outcome, answer_outcome, with_client}
use Rattle.frs_history.specs.Machine.Transaction.{Abandoned}
use Rattle.frs_history.specs.Machine.Outcome.{Answers}
use Rattle.frs_history.specs.Histories.{is_owed_by}
use Rattle.frs_slots.specs.Views.{next_drawn}
use Rattle.frs_book.specs.declared.client_state.ClientState.{ClientState}
use Rattle.frs_book.specs.declared.client_state.TxState.{TxState}
use Rattle.frs_book.specs.declared.client_state.TxState.TheVariants as tx
use Rattle.frs_book.specs.declared.ledger.Ledger.{Ledger}
use Rattle.frs_book.specs.Drawn.{Drawing, begin_of, begin_after, tx_for, named_for, action_of, action_by}
use Rattle.frs_book.specs.Books.{snapshot_by}
use Rattle.frs_book.specs.Ledgers.{transaction_of, machine_state, client_at, drawing_in, has_begun}

-- ---- the changes of a transaction

abbrev pub changes_in : TxState → List Op
changes_in (tx.Active begin sync changes) = changes
changes_in other = []

-- its commit is to be acknowledged
abbrev pub is_sync_tx : TxState → Bool
is_sync_tx (tx.Active begin sync changes) = sync
is_sync_tx other = false

abbrev pub tx_with_change : TxState → Op → TxState
tx_with_change (tx.Active begin sync changes) op = tx.Active begin sync (changes ++ op ∷ [])
tx_with_change other op = other

abbrev pub with_change_of : ClientState → Op → ClientState
with_change_of k op = record k { tx = tx_with_change k.tx op }

-- the client, whose transaction has no changes any more
abbrev pub tx_without_changes : TxState → TxState
tx_without_changes (tx.Active begin sync changes) = tx.Active begin sync []
tx_without_changes other = other

abbrev pub with_no_changes : ClientState → ClientState
with_no_changes k = record k { tx = tx_without_changes k.tx }

-- ---- what the next command is answered

-- Nobody hinders the command at the lock. It makes this change, and its record names this LSN.
pub record IsChangeInside (a : Ledger) (c : ℕ) (x : Command) (lock : Lock) (op : Op) (named : ℕ) : Type 0 where
  pub inside : has_begun (client_at a c).tx ≡ true
  pub free : hinderers a.locks c lock ≡ []
  pub answers : outcome (machine_state a) c x ≡ Answers reply.Done
      (with_client (machine_state a) c
      (record { done = (client (machine_state a) c).done + 1; tx = transaction_of (tx_with_change (client_at a c).tx op) })
      (record { locks = with_lock lock (holder_at a.locks c).locks; waits = None }))
  pub action : Action
  pub draws : action_of x ≡ Some action
  pub changes : (s : LogState) (tx : ℕ) → s.next ≡ next_drawn a.drawer → after_by s tx action ≡ after_change s tx (change_by op)
  pub keeps_begin : (next begin : ℕ) → begin_after next begin action ≡ begin
  pub stands : (d : Drawing) → tx_for d c action ≡ begin_of d c
  pub named_is : named ≡ named_for (drawing_in a).log (begin_of (drawing_in a) c) action
  pub words : has_words action ≡ true
  pub unowed : is_owed_by (transaction_of (client_at a c).tx) (Some x) (Answered reply.Done) ≡ false

-- Nobody hinders the command at the lock. It is answered this without a record.
pub record IsReadInside (a : Ledger) (c : ℕ) (x : Command) (lock : Lock) (r : Reply) : Type 0 where
  pub inside : has_begun (client_at a c).tx ≡ true
  pub free : hinderers a.locks c lock ≡ []
  pub answers : outcome (machine_state a) c x ≡ Answers r
      (with_client (machine_state a) c
      (record { done = (client (machine_state a) c).done + 1; tx = transaction_of (client_at a c).tx })
      (record { locks = with_lock lock (holder_at a.locks c).locks; waits = None }))
  pub draws : action_by (machine_state a).maps (Some x) (Answered r) ≡ None
  pub unowed : is_owed_by (transaction_of (client_at a c).tx) (Some x) (Answered r) ≡ false
  pub plain : (lsn : ℕ) → snapshot_by lsn (Answered r) ≡ None

-- The wait of the command would close a ring.
pub record IsDeadlock (a : Ledger) (c : ℕ) (x : Command) : Type 0 where
  pub inside : has_begun (client_at a c).tx ≡ true
  pub answers : outcome (machine_state a) c x ≡ answer_outcome (machine_state a) c reply.Deadlock Abandoned []
