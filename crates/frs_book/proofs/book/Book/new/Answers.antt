-- The ledger of the session was opened.
use Rattle.std.proofs.Common.{◌≤◌, ◌∙◌, List, length, sym, ap, subst}
use Rattle.frs_types.specs.declared.limits.TheConstants.{CLIENT_LIMIT}
use Rattle.frs_types.specs.Lawful.{table_of}
use Rattle.frs_history.specs.declared.command.Line.{Line}
use Rattle.frs_book.specs.Books.{new_book}
use Rattle.frs_book.proofs.book.Book.new.Goals as goal

pub open-requires-clause-clients : goal.open-requires-clause-clients
open-requires-clause-clients c =
    subst (λ (ss : List (List Line)). (1 ≤ length ss) × (length ss ≤ CLIENT_LIMIT)) (sym c.of-scripts.ensures) c.requires.clients

pub invariant_of-result : goal.invariant_of-result
invariant_of-result c = (sym c.in_ok-ledger.ensures.scripts, c.in_ok-ledger.ensures.kept)

pub returns : goal.returns
returns c = c.in_ok-ledger.ensures.book
    ∙ ap (λ (ss : List (List Line)). new_book ss (table_of c.args.entries.items) c.args.last_snapshot c.args.drawer) c.of-scripts.ensures
