-- The changes stand in the maps, the client has no lock any more, and its record is drawn.
use Rattle.std.proofs.Common.{◌+◌, ◌^◌, ◌<◌, ◌∙◌, length, refl, sym, ap, subst, arith, cond, Some, None}
use Rattle.std.specs.Prelude.{slice_set}
use Rattle.std.proofs.lemmas.List.{length-set}
use Rattle.frs_book.specs.declared.client_state.ClientState.{ClientState}
use Rattle.frs_book.specs.declared.client_state.TxState.TheVariants as tx
use Rattle.frs_book.specs.Ledgers.{client_in, begin_lsn}
use Rattle.frs_book.specs.Inside.{is_sync_tx, with_no_changes}
use Rattle.frs_book.proofs.LedgerGoesOn.{rested_ledger}
use Rattle.frs_book.proofs.OutsideSteps.{client_is_there}
use Rattle.frs_book.proofs.PreparedDraws.{holder_is_there, done_fits, reserved_rests, lowest_rests, no_memory, client_read, noted_fits}
use Rattle.frs_book.proofs.InsideSteps.{commit_is_new}
use Rattle.frs_book.proofs.InsideAnswers.{both_when_refused, both_when_done, no_memory_once_looked, commit_is_full, commit_step, ended_behind}
use Rattle.frs_book.proofs.ledger.Ledger.commit.Goals as goal

pub returns-in-Err : goal.returns-in-Err
returns-in-Err c =
    let old = c.args.self.now in
    commit_is_full old c.args.client c.args.line.now c.requires.turn c.requires.inside c.requires.command
    (record old { drawer = c.find_room.new.drawer }) c.args.framed.now c.in-Err.full c.step.result
    (reserved_rests old old.history c.find_room.new.drawer refl c.find_room.ensures.looked) c.in-Err.ensures.full c.step.ensures

pub returns-then-is_err : goal.returns-then-is_err
returns-then-is_err c =
    no_memory c.args.self.now c.args.client c.args.line.now c.requires.turn c.reserve.new.self c.find_room.new.drawer c.reserve.ensures.events
    c.find_room.ensures.looked c.args.framed.now

pub index-requires : goal.index-requires
index-requires c =
    let within = client_is_there c.args.self.now c.args.client c.requires.turn.turn in
    omega (arith, within, c.args.self.now.clients.ok.0)

pub lowest-lowest-requires : goal.lowest-lowest-requires
lowest-lowest-requires c =
    let old = c.args.self.now in
    rested_ledger old (record old { history = c.reserve.new.self; drawer = c.find_room.new.drawer }) c.requires.turn.turn.kept
    (reserved_rests old c.reserve.new.self c.find_room.new.drawer c.reserve.ensures.events c.find_room.ensures.looked)

pub apply_changes-requires-clause-new : goal.apply_changes-requires-clause-new
apply_changes-requires-clause-new c = commit_is_new c.args.self.now c.requires.turn.turn.kept c.args.client c.requires.inside

pub returns-then-is_err-2 : goal.returns-then-is_err-2
returns-then-is_err-2 c =
    let old = c.args.self.now in
    let both = both_when_refused c.apply_changes.result (sym c.if-is_err-2.ensures.value) c.apply_changes.ensures.refused c.apply_changes.ensures.kept in
    no_memory_once_looked old c.args.client c.args.line.now c.requires.turn
    (record old {
      clients = c.apply_changes.new.clients;
      objects = c.apply_changes.new.objects;
      history = c.reserve.new.self;
      drawer = c.find_room.new.drawer;
    })
    c.args.framed.now refl both.1 refl both.0 c.reserve.ensures.events c.find_room.ensures.looked

pub release_all-requires-clause-client : goal.release_all-requires-clause-client
release_all-requires-clause-client c = holder_is_there c.args.self.now c.args.client c.requires.turn.turn

pub index_mut-requires : goal.index_mut-requires
index_mut-requires c =
    let old = c.args.self.now in
    let ks = old.clients.items in
    let its = c.args.client in
    let both = both_when_done c.apply_changes.result (sym c.if-is_err-2.ensures.value) c.apply_changes.ensures.applied c.apply_changes.ensures.emptied in
    let within = client_is_there old its c.requires.turn.turn in
    let count = ap length both.1 ∙ length-set ks its (with_no_changes (client_in ks its)) in
    omega (arith, within, count, c.apply_changes.new.clients.ok.0)

pub note-place-requires-clause-client : goal.note-place-requires-clause-client
note-place-requires-clause-client c =
    let old = c.args.self.now in
    let ks = old.clients.items in
    let its = c.args.client in
    let both = both_when_done c.apply_changes.result (sym c.if-is_err-2.ensures.value) c.apply_changes.ensures.applied c.apply_changes.ensures.emptied in
    let within = client_is_there old its c.requires.turn.turn in
    let count = ap length both.1 ∙ length-set ks its (with_no_changes (client_in ks its)) in
    let same = length-set c.apply_changes.new.clients.items its (record c.index_mut.result.now { tx = tx.Outside }) in
    omega (arith, within, count, same)

pub note-place-requires-clause-line : goal.note-place-requires-clause-line
note-place-requires-clause-line c =
    let old = c.args.self.now in
    let ks = old.clients.items in
    let its = c.args.client in
    let within = client_is_there old its c.requires.turn.turn in
    let both = both_when_done c.apply_changes.result (sym c.if-is_err-2.ensures.value) c.apply_changes.ensures.applied c.apply_changes.ensures.emptied in
    subst (λ js. (client_in js its).done + 1 < 2 ^ 64)
    (sym (ended_behind ks c.apply_changes.new.clients.items its tx.Outside c.index_mut.result.now within both.1 c.index_mut.ensures.value))
    (noted_fits ks its (record (client_in ks its) { tx = tx.Outside }) within refl (done_fits old its c.args.line.now c.requires.turn))

pub returns : goal.returns
returns c =
    let old = c.args.self.now in
    let ks = old.clients.items in
    let its = c.args.client in
    let note = c.note-place.ensures in
    let within = client_is_there old its c.requires.turn.turn in
    let looked = c.find_room.new.drawer in
    let looks = c.find_room.ensures.looked in
    let kept = c.reserve.ensures.events in
    let both = both_when_done c.apply_changes.result (sym c.if-is_err-2.ensures.value) c.apply_changes.ensures.applied c.apply_changes.ensures.emptied in
    let it = client_read ks its c.index.result.now within c.index.ensures in
    commit_step old its c.args.line.now c.requires.turn c.requires.inside c.requires.command
    (record old { history = c.reserve.new.self; drawer = looked }) c.note-place.new.self
    (reserved_rests old c.reserve.new.self looked kept looks) c.in_default.ensures.lsn c.begin-begin.result c.lowest-lowest.result
    (c.begin-begin.ensures ∙ ap (λ (k : ClientState). begin_lsn k.tx) it)
    (c.lowest-lowest.ensures ∙ lowest_rests old c.reserve.new.self looked kept)
    c.draw_prepared-slip.result c.draw_prepared-slip.ensures.slip.0 c.draw_prepared-slip.ensures.slip.1
    c.args.framed.now c.draw_prepared-slip.new.framed c.requires.framed c.draw_prepared-slip.ensures.taken
    c.draw_prepared-slip.new.drawer c.draw_prepared-slip.ensures.drawn c.owed_lsn-ack.result
    (c.owed_lsn-ack.ensures
    ∙ (λ i. cond ((c.is_sync-sync.ensures ∙ ap (λ (k : ClientState). is_sync_tx k.tx) (client_read ks its c.index-2.result.now within c.index-2.ensures)) i) (Some (c.next.ensures.next i)) None))
    c.release_all.new.self c.release_all.ensures.released c.apply_changes.new.objects both.0
    (slice_set c.apply_changes.new.clients.items its (record c.index_mut.result.now { tx = tx.Outside }))
    (ended_behind ks c.apply_changes.new.clients.items its tx.Outside c.index_mut.result.now within both.1 c.index_mut.ensures.value)
    note.same note.event note.client c.note-place.result note.place
