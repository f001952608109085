-- The client has the change and its lock, and its record is drawn.
use Rattle.std.proofs.Common.{◌+◌, ◌^◌, ◌<◌, ◌∙◌, refl, sym, ap, subst}
use Rattle.frs_book.specs.declared.client_state.ClientState.{ClientState}
use Rattle.frs_book.specs.Ledgers.{client_in, begin_lsn}
use Rattle.frs_book.specs.Inside.{with_change_of}
use Rattle.frs_book.proofs.LedgerGoesOn.{rested_ledger}
use Rattle.frs_book.proofs.OutsideSteps.{client_is_there}
use Rattle.frs_book.proofs.PreparedDraws.{holder_is_there, done_fits, reserved_rests, lowest_rests, no_memory, client_read, noted_fits}
use Rattle.frs_book.proofs.InsideAnswers.{both_when_refused, both_when_done, no_memory_once_looked, change_is_full, change_inside_step}
use Rattle.frs_book.proofs.ledger.Ledger.change_inside.Goals as goal

pub returns-in-Err : goal.returns-in-Err
returns-in-Err c =
    let old = c.args.self.now in
    change_is_full old c.args.client c.args.line.now c.requires.turn c.args.lock.now c.args.op c.args.named c.requires.change
    (record old { drawer = c.find_room.new.drawer }) c.args.framed.now c.in-Err.full c.step.result
    (reserved_rests old old.history c.find_room.new.drawer refl c.find_room.ensures.looked) c.in-Err.ensures.full c.step.ensures

pub returns-then-is_err : goal.returns-then-is_err
returns-then-is_err c =
    no_memory c.args.self.now c.args.client c.args.line.now c.requires.turn c.reserve.new.self c.find_room.new.drawer c.reserve.ensures.events
    c.find_room.ensures.looked c.args.framed.now

pub lowest-lowest-requires : goal.lowest-lowest-requires
lowest-lowest-requires c =
    let old = c.args.self.now in
    rested_ledger old (record old { history = c.reserve.new.self; drawer = c.find_room.new.drawer }) c.requires.turn.turn.kept
    (reserved_rests old c.reserve.new.self c.find_room.new.drawer c.reserve.ensures.events c.find_room.ensures.looked)

pub push_change-requires-clause-holder : goal.push_change-requires-clause-holder
push_change-requires-clause-holder c = holder_is_there c.args.self.now c.args.client c.requires.turn.turn

pub returns-then-is_err-2 : goal.returns-then-is_err-2
returns-then-is_err-2 c =
    let old = c.args.self.now in
    let both = both_when_refused c.push_change.result (sym c.if-is_err-2.ensures.value) c.push_change.ensures.refused c.push_change.ensures.kept in
    no_memory_once_looked old c.args.client c.args.line.now c.requires.turn
    (record old {
      clients = c.push_change.new.clients;
      locks = c.push_change.new.locks;
      history = c.reserve.new.self;
      drawer = c.find_room.new.drawer;
    })
    c.args.framed.now refl both.0 both.1 refl c.reserve.ensures.events c.find_room.ensures.looked

pub note-place-requires-clause-line : goal.note-place-requires-clause-line
note-place-requires-clause-line c =
    let old = c.args.self.now in
    let ks = old.clients.items in
    let its = c.args.client in
    let within = client_is_there old its c.requires.turn.turn in
    let both = both_when_done c.push_change.result (sym c.if-is_err-2.ensures.value) c.push_change.ensures.pushed c.push_change.ensures.held in
    subst (λ js. (client_in js its).done + 1 < 2 ^ 64) (sym both.0)
    (noted_fits ks its (with_change_of (client_in ks its) c.args.op) within refl (done_fits old its c.args.line.now c.requires.turn))

pub returns : goal.returns
returns c =
    let old = c.args.self.now in
    let its = c.args.client in
    let note = c.note-place.ensures in
    let within = client_is_there old its c.requires.turn.turn in
    let looked = c.find_room.new.drawer in
    let looks = c.find_room.ensures.looked in
    let kept = c.reserve.ensures.events in
    let both = both_when_done c.push_change.result (sym c.if-is_err-2.ensures.value) c.push_change.ensures.pushed c.push_change.ensures.held in
    change_inside_step old its c.args.line.now c.requires.turn c.args.lock.now c.args.op c.args.named c.requires.change
    (record old { history = c.reserve.new.self; drawer = looked }) c.note-place.new.self
    (reserved_rests old c.reserve.new.self looked kept looks) c.in_default.ensures.lsn c.begin-begin.result c.lowest-lowest.result
    (c.begin-begin.ensures ∙ ap (λ (k : ClientState). begin_lsn k.tx) (client_read old.clients.items its c.index.result.now within c.index.ensures))
    (c.lowest-lowest.ensures ∙ lowest_rests old c.reserve.new.self looked kept)
    c.draw_prepared-slip.result c.draw_prepared-slip.ensures.slip.0 c.draw_prepared-slip.ensures.slip.1
    c.args.framed.now c.draw_prepared-slip.new.framed c.requires.framed c.draw_prepared-slip.ensures.taken
    c.draw_prepared-slip.new.drawer c.draw_prepared-slip.ensures.drawn c.push_change.new.locks both.1
    c.push_change.new.clients.items both.0 note.same note.event note.client c.note-place.result note.place
