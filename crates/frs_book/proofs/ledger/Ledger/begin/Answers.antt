-- The transaction's name is the LSN of its begin.
use Rattle.std.proofs.Common.{◌<◌, [], ◌∷◌, ◌++◌, ◌∙◌, None, refl, sym, ap, subst, length, arith, IsSome}
use Rattle.std.specs.Prelude.{slice_set}
use Rattle.std.proofs.lemmas.List.{length-set}
use Rattle.frs_types.specs.declared.record.Action.TheVariants as action
use Rattle.frs_types.specs.declared.limits.TheConstants.{NUMBER_LIMIT}
use Rattle.frs_types.specs.Lawful.{lowest}
use Rattle.frs_history.specs.declared.event.Reply.TheVariants as reply
use Rattle.frs_book.specs.declared.client_state.ClientState.{ClientState}
use Rattle.frs_book.specs.declared.client_state.TxState.TheVariants as tx
use Rattle.frs_book.specs.declared.ledger.Ledger.{Ledger}
use Rattle.frs_book.specs.Drawn.{action_of}
use Rattle.frs_book.specs.Ledgers.{TakesStep, book_of, drawing_in, answered_state}
use Rattle.frs_book.proofs.LedgerGoesOn.{rested_ledger}
use Rattle.frs_book.proofs.StepAnswered.{full_step}
use Rattle.frs_book.proofs.NextEvents.{answered_event}
use Rattle.frs_book.proofs.OutsideSteps.{client_is_there, begin_step}
use Rattle.frs_book.proofs.PreparedDraws.{done_fits, reserved_rests, lowest_rests, next_still, no_memory, slip_is, prepared_for, client_read, noted_fits, noted_client, drew_with, begin_is_to_draw}
use Rattle.frs_book.proofs.ledger.Ledger.begin.Goals as goal

pub returns-in-Err : goal.returns-in-Err
returns-in-Err c =
    let old = c.args.self.now in
    let full : Ledger = record old { drawer = c.find_room.new.drawer } in
    subst (λ r. TakesStep old c.args.client c.args.framed.now r full c.args.framed.now) (sym c.step.ensures)
    (full_step old full c.requires.turn.turn.kept c.args.client (reserved_rests old old.history c.find_room.new.drawer refl c.find_room.ensures.looked)
    c.args.framed.now c.in-Err.full c.in-Err.ensures.full
    (begin_is_to_draw old c.args.client c.args.line.now c.requires.turn c.args.sync c.requires.outside c.requires.command))

pub returns-then-is_err : goal.returns-then-is_err
returns-then-is_err c =
    no_memory c.args.self.now c.args.client c.args.line.now c.requires.turn c.reserve.new.self c.find_room.new.drawer c.reserve.ensures.events
    c.find_room.ensures.looked c.args.framed.now

pub lowest-lowest-requires : goal.lowest-lowest-requires
lowest-lowest-requires c =
    let old = c.args.self.now in
    rested_ledger old (record old { history = c.reserve.new.self; drawer = c.find_room.new.drawer }) c.requires.turn.turn.kept
    (reserved_rests old c.reserve.new.self c.find_room.new.drawer c.reserve.ensures.events c.find_room.ensures.looked)

pub index_mut-requires : goal.index_mut-requires
index_mut-requires c =
    let within = client_is_there c.args.self.now c.args.client c.requires.turn.turn in
    omega (arith, within, c.args.self.now.clients.ok.0)

pub note-place-requires-clause-client : goal.note-place-requires-clause-client
note-place-requires-clause-client c =
    let within = client_is_there c.args.self.now c.args.client c.requires.turn.turn in
    let same = length-set c.args.self.now.clients.items c.args.client (record c.index_mut.result.now { tx = tx.Active c.next-begin.result c.args.sync c.new.result }) in
    omega (arith, within, same)

pub note-place-requires-clause-line : goal.note-place-requires-clause-line
note-place-requires-clause-line c =
    let ks = c.args.self.now.clients.items in
    let within = client_is_there c.args.self.now c.args.client c.requires.turn.turn in
    let it = c.index_mut.result.now in
    noted_fits ks c.args.client (record it { tx = tx.Active c.next-begin.result c.args.sync c.new.result }) within
    (ap (λ (k : ClientState). k.done) (client_read ks c.args.client it within c.index_mut.ensures.value))
    (done_fits c.args.self.now c.args.client c.args.line.now c.requires.turn)

pub draw_prepared-slip-requires-clause-prepared : goal.draw_prepared-slip-requires-clause-prepared
draw_prepared-slip-requires-clause-prepared c = subst (λ o. IsSome o) (sym c.requires.framed) refl

pub draw_prepared-slip-requires-clause-room : goal.draw_prepared-slip-requires-clause-room
draw_prepared-slip-requires-clause-room c = c.in_default.ensures.room

pub draw_prepared-slip-requires-clause-lsn : goal.draw_prepared-slip-requires-clause-lsn
draw_prepared-slip-requires-clause-lsn c = c.in_default.ensures.lsn

pub returns : goal.returns
returns c =
    let old = c.args.self.now in
    let client = c.args.client in
    let line = c.args.line.now in
    let new = c.note-place.new.self in
    let note = c.note-place.ensures in
    let lsn = c.next-begin.result in
    let looks = c.find_room.ensures.looked in
    let within = client_is_there old client c.requires.turn.turn in
    let it = c.index_mut.result.now in
    begin_step old client line c.requires.turn c.args.sync c.requires.outside c.requires.command new lsn c.new.result
    (c.next-begin.ensures.next ∙ next_still old.drawer c.find_room.new.drawer looks) c.new.ensures
    (note.same ∙ λ i. record old { history = new.history; clients = new.clients; drawer = (sym (ap (λ (a : Ledger). a.drawer) note.same)) i })
    (note.event ∙ ap (λ es. es ++ answered_event client line reply.Done ∷ []) c.reserve.ensures.events)
    (note.client ∙ noted_client old.clients.items client (record it { tx = tx.Active lsn c.args.sync c.new.result }) line.number None within
    ∙ ap (λ (k : ClientState). slice_set old.clients.items client (answered_state (record k { tx = tx.Active lsn c.args.sync c.new.result }) client line.number None))
    (client_read old.clients.items client it within c.index_mut.ensures.value))
    (drew_with action.Begin c.args.framed.now old.drawer c.find_room.new.drawer c.draw_prepared-slip.new.drawer new.drawer lsn c.lowest-lowest.result (lowest (drawing_in old).log) 0
    (prepared_for (book_of old) client line c.requires.turn.at_line action.Begin (ap action_of c.requires.command) c.args.framed.now c.requires.framed)
    looks c.draw_prepared-slip.ensures.drawn
    (c.lowest-lowest.ensures ∙ lowest_rests old c.reserve.new.self c.find_room.new.drawer c.reserve.ensures.events) (ap (λ (a : Ledger). a.drawer) note.same))
    c.note-place.result c.draw_prepared-slip.result c.args.framed.now c.draw_prepared-slip.new.framed
    (note.place ∙ ap length c.reserve.ensures.events)
    (slip_is old.drawer c.find_room.new.drawer c.draw_prepared-slip.result looks c.draw_prepared-slip.ensures.slip.0 c.draw_prepared-slip.ensures.slip.1)
    (subst (λ n. n < NUMBER_LIMIT) (next_still old.drawer c.find_room.new.drawer looks) c.in_default.ensures.lsn)
    c.draw_prepared-slip.ensures.taken
