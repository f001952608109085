use Rattle.std.proofs.Common.{◌≡◌, ◌⊎◌, ℕ, ◌<◌, ◌≤◌}
use Rattle.frs_book.specs.Ledgers.{begin_lsn, client_in}
use Rattle.frs_book.proofs.ledger.least_begin.Given as goal

abbrev pub invariant-loop-client : goal.invariant-loop-client
invariant-loop-client l = record {
  most : l.least ≤ l.next;
  each : (k : ℕ) → k < l.client-index → 0 < begin_lsn (client_in l.clients k).tx
      → l.least ≤ begin_lsn (client_in l.clients k).tx;
  one : (l.least ≡ l.next) ⊎ ((k : ℕ) × (0 < begin_lsn (client_in l.clients k).tx)
      × (begin_lsn (client_in l.clients k).tx ≡ l.least));
}
