-- What comes behind an abandonment is answered by it, and the commit ends the transaction.
use Rattle.std.proofs.Common.{[], ◌∷◌, ◌++◌, ◌∙◌, None, ap, length, arith, inl, refl}
use Rattle.std.specs.Prelude.{slice_set}
use Rattle.std.proofs.lemmas.List.{length-set}
use Rattle.frs_history.specs.declared.event.Reply.TheVariants as reply
use Rattle.frs_book.specs.declared.client_state.ClientState.{ClientState}
use Rattle.frs_book.specs.declared.client_state.TxState.{TxState}
use Rattle.frs_book.specs.Ledgers.{client_at, answered_state}
use Rattle.frs_book.proofs.NextEvents.{answered_event}
use Rattle.frs_book.proofs.OutsideSteps.{client_is_there, abandoned_step}
use Rattle.frs_book.proofs.PreparedDraws.{no_memory, done_fits, client_read, noted_fits, noted_client}
use Rattle.frs_book.proofs.ledger.Ledger.abandoned.Goals as goal

pub index_mut-requires : goal.index_mut-requires
index_mut-requires c =
    let within = client_is_there c.args.self.now c.args.client c.requires.turn.turn in
    omega (arith, within, c.args.self.now.clients.ok.0)

pub note-place-requires-clause-client : goal.note-place-requires-clause-client
note-place-requires-clause-client c =
    let within = client_is_there c.args.self.now c.args.client c.requires.turn.turn in
    let same = length-set c.args.self.now.clients.items c.args.client (record c.index_mut.result.now { tx = c.after_abandoned.result }) in
    omega (arith, within, same)

pub note-place-requires-clause-line : goal.note-place-requires-clause-line
note-place-requires-clause-line c =
    let ks = c.args.self.now.clients.items in
    let within = client_is_there c.args.self.now c.args.client c.requires.turn.turn in
    let it = c.index_mut.result.now in
    noted_fits ks c.args.client (record it { tx = c.after_abandoned.result }) within
    (ap (λ (k : ClientState). k.done) (client_read ks c.args.client it within c.index_mut.ensures.value))
    (done_fits c.args.self.now c.args.client c.args.line.now c.requires.turn)

pub returns-then-is_err : goal.returns-then-is_err
returns-then-is_err c = λ f. let old = c.args.self.now in
    no_memory old c.args.client c.args.line.now c.requires.turn c.reserve.new.self old.drawer c.reserve.ensures.events (inl refl) f

pub returns : goal.returns
returns c = λ f.
    let old = c.args.self.now in
    let client = c.args.client in
    let line = c.args.line.now in
    let new = c.note-place.new.self in
    let note = c.note-place.ensures in
    let within = client_is_there old client c.requires.turn.turn in
    let it = c.index_mut.result.now in
    abandoned_step old client line c.requires.turn c.requires.abandoned new
    note.same
    (note.event ∙ ap (λ es. es ++ answered_event client line reply.Abandoned ∷ []) c.reserve.ensures.events)
    (note.client ∙ noted_client old.clients.items client (record it { tx = c.after_abandoned.result }) line.number None within
    ∙ ap (λ (k : ClientState). slice_set old.clients.items client (answered_state (record k { tx = c.after_abandoned.result }) client line.number None))
    (client_read old.clients.items client it within c.index_mut.ensures.value)
    ∙ ap (λ (t : TxState). slice_set old.clients.items client (answered_state (record (client_at old client) { tx = t }) client line.number None)) c.after_abandoned.ensures)
    c.note-place.result f (note.place ∙ ap length c.reserve.ensures.events)
