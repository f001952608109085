-- The abandon record that was kept is drawn, and the client has neither a lock nor a transaction.
use Rattle.std.proofs.Common.{◌∙◌, refl, sym, ap, subst, arith, IsSome}
use Rattle.std.specs.Prelude.{slice_set}
use Rattle.std.proofs.lemmas.List.{length-set}
use Rattle.frs_book.specs.declared.client_state.ClientState.{ClientState}
use Rattle.frs_book.specs.declared.client_state.TxState.TheVariants as tx
use Rattle.frs_book.specs.Ledgers.{begin_lsn}
use Rattle.frs_book.proofs.LedgerGoesOn.{rested_ledger}
use Rattle.frs_book.proofs.OutsideSteps.{client_is_there}
use Rattle.frs_book.proofs.PreparedDraws.{holder_is_there, done_fits, reserved_rests, client_read, noted_fits}
use Rattle.frs_book.proofs.InsideAnswers.{deadlock_is_full, deadlock_step}
use Rattle.frs_book.proofs.ledger.Ledger.deadlock.Goals as goal

pub returns-in-Err : goal.returns-in-Err
returns-in-Err c =
    let old = c.args.self.now in
    deadlock_is_full old c.args.client c.args.line.now c.requires.turn c.requires.closes
    (record old { drawer = c.find_room.new.drawer }) c.args.framed.now c.in-Err.full c.step.result
    (reserved_rests old old.history c.find_room.new.drawer refl c.find_room.ensures.looked) c.in-Err.ensures.full c.step.ensures

pub index-requires : goal.index-requires
index-requires c =
    let within = client_is_there c.args.self.now c.args.client c.requires.turn.turn in
    omega (arith, within, c.args.self.now.clients.ok.0)

pub lowest-lowest-requires : goal.lowest-lowest-requires
lowest-lowest-requires c =
    let old = c.args.self.now in
    rested_ledger old (record old { drawer = c.find_room.new.drawer }) c.requires.turn.turn.kept
    (reserved_rests old old.history c.find_room.new.drawer refl c.find_room.ensures.looked)

pub exchange-abandon-requires : goal.exchange-abandon-requires
exchange-abandon-requires c = subst (λ o. IsSome o) (sym c.requires.framed) refl

pub draw-slip-requires-clause-room : goal.draw-slip-requires-clause-room
draw-slip-requires-clause-room c = c.in_default.ensures.room

pub draw-slip-requires-clause-lsn : goal.draw-slip-requires-clause-lsn
draw-slip-requires-clause-lsn c = c.in_default.ensures.lsn

pub release_all-requires-clause-client : goal.release_all-requires-clause-client
release_all-requires-clause-client c = holder_is_there c.args.self.now c.args.client c.requires.turn.turn

pub index_mut-requires : goal.index_mut-requires
index_mut-requires c =
    let within = client_is_there c.args.self.now c.args.client c.requires.turn.turn in
    omega (arith, within, c.args.self.now.clients.ok.0)

pub note-place-requires-clause-client : goal.note-place-requires-clause-client
note-place-requires-clause-client c =
    let within = client_is_there c.args.self.now c.args.client c.requires.turn.turn in
    let same = length-set c.args.self.now.clients.items c.args.client (record c.index_mut.result.now { tx = tx.Abandoned }) in
    omega (arith, within, same)

pub note-place-requires-clause-line : goal.note-place-requires-clause-line
note-place-requires-clause-line c =
    let ks = c.args.self.now.clients.items in
    let within = client_is_there c.args.self.now c.args.client c.requires.turn.turn in
    let it = c.index_mut.result.now in
    noted_fits ks c.args.client (record it { tx = tx.Abandoned }) within
    (ap (λ (k : ClientState). k.done) (client_read ks c.args.client it within c.index_mut.ensures.value))
    (done_fits c.args.self.now c.args.client c.args.line.now c.requires.turn)

pub returns : goal.returns
returns c =
    let old = c.args.self.now in
    let ks = old.clients.items in
    let its = c.args.client in
    let note = c.note-place.ensures in
    let within = client_is_there old its c.requires.turn.turn in
    let looked = c.find_room.new.drawer in
    let looks = c.find_room.ensures.looked in
    let it = client_read ks its c.index_mut.result.now within c.index_mut.ensures.value in
    deadlock_step old its c.args.line.now c.requires.turn c.requires.closes
    (record old { drawer = looked }) c.note-place.new.self
    (reserved_rests old old.history looked refl looks) c.in_default.ensures.lsn c.begin-begin.result c.lowest-lowest.result
    (c.begin-begin.ensures ∙ ap (λ (k : ClientState). begin_lsn k.tx) (client_read ks its c.index.result.now within c.index.ensures))
    c.lowest-lowest.ensures
    c.draw-slip.result c.draw-slip.ensures.slip.0 c.draw-slip.ensures.slip.1
    c.args.framed.now c.exchange-abandon.new.framed c.exchange-abandon.ensures.taken
    c.draw-slip.new.drawer (λ r is. c.draw-slip.ensures.drawn r (c.exchange-abandon.ensures.given ∙ is))
    c.release_all.new.self c.release_all.ensures.released c.exchange-abandon.new.kept c.exchange-abandon.ensures.kept
    (slice_set ks its (record c.index_mut.result.now { tx = tx.Abandoned }))
    (ap (λ (k : ClientState). slice_set ks its (record k { tx = tx.Abandoned })) it)
    note.same note.event note.client c.note-place.result note.place
