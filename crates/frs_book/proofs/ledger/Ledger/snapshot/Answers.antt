-- The snapshot has the next number, and the last LSN that was drawn.
use Rattle.std.proofs.Common.{◌-◌, [], ◌∷◌, ◌++◌, ◌∙◌, sym, ap, length, arith, inl, refl}
use Rattle.frs_history.specs.declared.event.Reply.TheVariants as reply
use Rattle.frs_book.specs.declared.ledger.Ledger.{Ledger}
use Rattle.frs_book.proofs.NextEvents.{answered_event}
use Rattle.frs_book.proofs.OutsideSteps.{client_is_there, snapshot_step}
use Rattle.frs_book.proofs.PreparedDraws.{no_memory, done_fits}
use Rattle.frs_book.proofs.ledger.Ledger.snapshot.Goals as goal

pub number_after-number-requires : goal.number_after-number-requires
number_after-number-requires c =
    let kept = c.requires.turn.turn.kept in
    let events = ap length (c.events.ensures ∙ c.reserve.ensures.events) in
    omega (arith, kept.last, kept.last_limit, events)

pub note-place-requires-clause-client : goal.note-place-requires-clause-client
note-place-requires-clause-client c = client_is_there c.args.self.now c.args.client c.requires.turn.turn

pub note-place-requires-clause-line : goal.note-place-requires-clause-line
note-place-requires-clause-line c = done_fits c.args.self.now c.args.client c.args.line.now c.requires.turn

pub returns-then-is_err : goal.returns-then-is_err
returns-then-is_err c = λ f. let old = c.args.self.now in
    no_memory old c.args.client c.args.line.now c.requires.turn c.reserve.new.self old.drawer c.reserve.ensures.events (inl refl) f

pub returns : goal.returns
returns c = λ f.
    let old = c.args.self.now in
    let client = c.args.client in
    let line = c.args.line.now in
    let new = c.note-place.new.self in
    let note = c.note-place.ensures in
    let number = c.number_after-number in
    snapshot_step old client line c.requires.turn c.requires.there c.requires.command new (c.next-lsn.result - 1)
    (ap (λ n. n - 1) c.next-lsn.ensures.next)
    (note.same ∙ λ i. record old { history = new.history; clients = new.clients; last = (sym (ap (λ (a : Ledger). a.last) note.same)) i })
    (note.event ∙ (λ i. c.reserve.ensures.events i ++ answered_event client line (reply.Snapshot (number.ensures i)) ∷ []))
    note.client (ap (λ (a : Ledger). a.last) note.same ∙ number.ensures)
    c.note-place.result number.result f (note.place ∙ ap length c.reserve.ensures.events) number.ensures
