-- All is new.
use Rattle.std.proofs.Common.{◌≡◌, ◌≤◌, ◌+◌, ◌∙◌, List, length, replicate, IsTrue, ap, subst, arith}
use Rattle.std.specs.Prelude.{sum_by}
use Rattle.std.specs.List.{AllByRecursion}
use Rattle.frs_types.specs.Locks.{nobody}
use Rattle.frs_history.specs.declared.command.Line.{Line}
use Rattle.frs_history.specs.Scripts.{is_script}
use Rattle.frs_book.specs.declared.ledger.Ledger.{Ledger}
use Rattle.frs_book.specs.Ledgers.{new_client}
use Rattle.frs_book.proofs.LedgerOpens.{bracketed_from, opened_ledger, opened_book}
use Rattle.frs_book.proofs.ledger.Ledger.open.Goals as goal

pub returns-clause-kept : goal.returns-clause-kept
returns-clause-kept c =
    let scripts = c.args.scripts.now in
    let a : Ledger = record {
      opening = record { scripts = c.of-2.result; entries = c.of-3.result; drawer = c.of-4.result; last = c.of-5.result };
      closing = c.of-6.result;
      clients = c.in_ok-clients.clients;
      objects = c.in_ok-objects.objects;
      locks = c.in_ok-locks.locks;
      history = c.new-2.result;
      acks = c.reserve.new.self;
      drawer = c.args.drawer;
      last = c.args.last;
      abandon = c.in_ok-abandon.abandon;
    } in
    let counted : c.in-Some.commands ≡ sum_by length scripts = c.in-Some.ensures.count ∙ ap (sum_by length) c.items.ensures in
    let enough = c.in_ok-reserve.ensures.ok in
    let none = c.new-acks.ensures.len in
    let same = c.reserve.ensures.len in
    opened_ledger scripts c.args.entries.items a c.of-2.ensures c.new-2.ensures c.of-6.ensures c.in_ok-objects.ensures c.of-3.ensures c.of-4.ensures c.of-5.ensures
    (c.in_ok-clients.ensures ∙ ap (λ (ss : List (List Line)). replicate (length ss + 1) new_client) c.items-2.ensures)
    (c.in_ok-locks.ensures.nobody ∙ ap (λ (ss : List (List Line)). replicate (length ss + 1) nobody) c.items-2.ensures)
    (c.reserve.ensures.items ∙ c.new-acks.ensures.items) c.requires.last
    (subst (λ n. 1 ≤ n) c.next.ensures.next c.next.ensures.in_range.0)
    c.requires.before
    (bracketed_from scripts (subst (AllByRecursion (λ ls. IsTrue (is_script ls))) c.items.ensures c.in-Some.ensures.scripts))
    (omega (arith, counted, enough, none, same)) (omega (arith, counted, c.in-Some.ensures.fits)) c.in_ok-abandon.ensures

pub returns-clause-scripts : goal.returns-clause-scripts
returns-clause-scripts c = c.of-2.ensures

pub returns-clause-book : goal.returns-clause-book
returns-clause-book c =
    let scripts = c.args.scripts.now in
    let a : Ledger = record {
      opening = record { scripts = c.of-2.result; entries = c.of-3.result; drawer = c.of-4.result; last = c.of-5.result };
      closing = c.of-6.result;
      clients = c.in_ok-clients.clients;
      objects = c.in_ok-objects.objects;
      locks = c.in_ok-locks.locks;
      history = c.new-2.result;
      acks = c.reserve.new.self;
      drawer = c.args.drawer;
      last = c.args.last;
      abandon = c.in_ok-abandon.abandon;
    } in
    opened_book scripts c.args.entries.items a c.of-2.ensures c.new-2.ensures c.of-6.ensures c.in_ok-objects.ensures c.of-3.ensures c.of-4.ensures c.of-5.ensures
    (c.in_ok-clients.ensures ∙ ap (λ (ss : List (List Line)). replicate (length ss + 1) new_client) c.items-2.ensures)
    (c.in_ok-locks.ensures.nobody ∙ ap (λ (ss : List (List Line)). replicate (length ss + 1) nobody) c.items-2.ensures)
    (c.reserve.ensures.items ∙ c.new-acks.ensures.items) c.requires.last
    (subst (λ n. 1 ≤ n) c.next.ensures.next c.next.ensures.in_range.0)
