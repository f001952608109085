-- The answer is told, and its event noted.
use Rattle.std.proofs.Common.{[], ◌∷◌, ◌++◌, ◌∙◌, sym, ap, length, inl, refl}
use Rattle.frs_book.specs.declared.ledger.Ledger.{Ledger}
use Rattle.frs_book.proofs.NextEvents.{answered_event}
use Rattle.frs_book.proofs.OutsideSteps.{client_is_there, told_step}
use Rattle.frs_book.proofs.PreparedDraws.{no_memory, holder_is_there, done_fits}
use Rattle.frs_book.proofs.ledger.Ledger.tell.Goals as goal

pub release_all-requires-clause-client : goal.release_all-requires-clause-client
release_all-requires-clause-client c = holder_is_there c.args.self.now c.args.client c.requires.turn.turn

pub note-place-requires-clause-client : goal.note-place-requires-clause-client
note-place-requires-clause-client c = client_is_there c.args.self.now c.args.client c.requires.turn.turn

pub note-place-requires-clause-line : goal.note-place-requires-clause-line
note-place-requires-clause-line c = done_fits c.args.self.now c.args.client c.args.line.now c.requires.turn

pub returns-then-is_err : goal.returns-then-is_err
returns-then-is_err c = λ f. let old = c.args.self.now in
    no_memory old c.args.client c.args.line.now c.requires.turn c.reserve.new.self old.drawer c.reserve.ensures.events (inl refl) f

pub returns : goal.returns
returns c = λ f.
    let old = c.args.self.now in
    let new = c.note-place.new.self in
    let note = c.note-place.ensures in
    told_step old c.args.client c.args.line.now c.requires.turn c.args.reply c.requires.told new
    (note.same ∙ λ i. record old { history = new.history; clients = new.clients; locks = (sym (ap (λ (a : Ledger). a.locks) note.same)) i })
    (note.event ∙ ap (λ es. es ++ answered_event c.args.client c.args.line.now c.args.reply ∷ []) c.reserve.ensures.events)
    note.client (ap (λ (a : Ledger). a.locks) note.same ∙ c.release_all.ensures.released)
    c.note-place.result f (note.place ∙ ap length c.reserve.ensures.events)
