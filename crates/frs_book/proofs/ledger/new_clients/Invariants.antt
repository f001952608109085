use Rattle.std.proofs.Common.{◌≡◌, replicate}
use Rattle.frs_book.specs.Ledgers.{new_client}
use Rattle.frs_book.proofs.ledger.new_clients.Given as goal

abbrev pub invariant-loop : goal.invariant-loop
invariant-loop l = l.clients.items ≡ replicate l.counter new_client
