use Rattle.std.proofs.Common.{◌≡◌, ℕ, ◌<◌, ◌≤◌, true}
use Rattle.frs_book.specs.Ledgers.{client_in, script_at, has_finished}
use Rattle.frs_book.proofs.ledger.are_finished.Given as goal

abbrev pub invariant-loop-client : goal.invariant-loop-client
invariant-loop-client l =
    (k : ℕ) → 1 ≤ k → k < l.client → has_finished (script_at l.scripts k) (client_in l.clients k) ≡ true
