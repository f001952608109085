-- The acknowledgement that is due is the one that the client keeps.
use Rattle.std.proofs.Common.{◌∙◌, ◌++◌, ◌∷◌, [], refl, ap, arith}
use Rattle.frs_history.specs.declared.event.Ack.{Ack}
use Rattle.frs_book.proofs.LedgerCloses.{client_is_due, due_is_read, room_for_it, still_acknowledged}
use Rattle.frs_book.proofs.PreparedDraws.{client_read}
use Rattle.frs_book.proofs.ledger.Ledger.acknowledge.Goals as goal

pub index-requires : goal.index-requires
index-requires c =
    let old = c.args.self.now in
    let due = c.requires.due in
    let there = client_is_due old c.requires.kept c.args.client due.0 due.1 in
    omega (arith, there, old.clients.ok.0)

pub push_reserved-requires : goal.push_reserved-requires
push_reserved-requires c =
    let old = c.args.self.now in
    let due = c.requires.due in
    let room = room_for_it old c.requires.kept c.args.client due.0 due.1 in
    omega (arith, room, old.acks.ok.0)

pub returns-clause-kept : goal.returns-clause-kept
returns-clause-kept c =
    let old = c.args.self.now in
    let its = c.args.client in
    let due = c.requires.due in
    let read = client_read old.clients.items its c.index.result.now (client_is_due old c.requires.kept its due.0 due.1) c.index.ensures in
    let same = due_is_read old c.requires.kept its due.0 due.1 c.index.result.now c.in-Some.ack read c.in-Some.is in
    (still_acknowledged old c.requires.kept its due.0 due.1 (record old { acks = c.push_reserved.new.self }) refl
    (c.push_reserved.ensures.items ∙ ap (λ (x : Ack). old.acks.items ++ x ∷ []) same) c.push_reserved.ensures.capacity).0

pub returns-clause-made : goal.returns-clause-made
returns-clause-made c = λ x due.
    let old = c.args.self.now in
    let its = c.args.client in
    let read = client_read old.clients.items its c.index.result.now (client_is_due old c.requires.kept its x due) c.index.ensures in
    let same = due_is_read old c.requires.kept its x due c.index.result.now c.in-Some.ack read c.in-Some.is in
    (still_acknowledged old c.requires.kept its x due (record old { acks = c.push_reserved.new.self }) refl
    (c.push_reserved.ensures.items ∙ ap (λ (y : Ack). old.acks.items ++ y ∷ []) same) c.push_reserved.ensures.capacity).1
