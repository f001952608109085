-- An active transaction is abandoned by the record that was prepared.
use Rattle.std.proofs.Common.{◌≡◌, [], ◌∷◌, ◌++◌, ◌∙◌, Option, Some, option_map, refl, sym, ap, subst, length, arith, IsSome}
use Rattle.frs_types.specs.declared.record.Action.TheVariants.{Abandon}
use Rattle.frs_frame.specs.Spelling.{spelling, without_numbers}
use Rattle.frs_slots.specs.Views.{DrawerView}
use Rattle.frs_history.specs.declared.command.Line.{Line}
use Rattle.frs_book.specs.declared.client_state.ClientState.{ClientState}
use Rattle.frs_book.specs.declared.ledger.Ledger.{Ledger}
use Rattle.frs_book.specs.Books.{HasDrawn, prepared_bytes}
use Rattle.frs_book.specs.Room.{HasDrawnOne}
use Rattle.frs_book.specs.Ledgers.{TakesStep, begin_lsn, client_at, book_of}
use Rattle.frs_book.proofs.LedgerGoesOn.{begin_is, rested_ledger}
use Rattle.frs_book.proofs.StepAnswered.{full_step}
use Rattle.frs_book.proofs.NextEvents.{end_event}
use Rattle.frs_book.proofs.StepEnds.{end_step}
use Rattle.frs_book.proofs.RecordDraws.{has_drawn}
use Rattle.frs_book.proofs.OutsideSteps.{client_is_there}
use Rattle.frs_book.proofs.PreparedDraws.{holder_is_there, reserved_rests, lowest_rests, drew_spelled, client_read, end_is_to_draw, its_idle, its_active, finished_step, no_memory_at_end}
use Rattle.frs_book.proofs.ledger.Ledger.end.Goals as goal

pub index-requires : goal.index-requires
index-requires c =
    let within = client_is_there c.args.self.now c.args.client c.requires.turn in
    omega (arith, within, c.args.self.now.clients.ok.0)

pub returns-then-begin-eq0 : goal.returns-then-begin-eq0
returns-then-begin-eq0 c =
    let old = c.args.self.now in
    let kept = c.requires.turn.kept in
    let it = client_read old.clients.items c.args.client c.index.result.now (client_is_there old c.args.client c.requires.turn) c.index.ensures in
    let is : c.begin-begin.result ≡ begin_lsn (client_at old c.args.client).tx =
    c.begin-begin.ensures ∙ ap (λ (k : ClientState). begin_lsn k.tx) it in
    finished_step old kept c.args.client c.requires.line (its_idle old kept c.args.client (sym is ∙ c.if-begin-eq0.true)) c.args.framed.now

pub returns-in-Err : goal.returns-in-Err
returns-in-Err c =
    let old = c.args.self.now in
    let kept = c.requires.turn.kept in
    let full : Ledger = record old { drawer = c.find_room.new.drawer } in
    let it = client_read old.clients.items c.args.client c.index.result.now (client_is_there old c.args.client c.requires.turn) c.index.ensures in
    let is : c.begin-begin.result ≡ begin_lsn (client_at old c.args.client).tx =
    c.begin-begin.ensures ∙ ap (λ (k : ClientState). begin_lsn k.tx) it in
    subst (λ r. TakesStep old c.args.client c.args.framed.now r full c.args.framed.now) (sym c.step.ensures)
    (full_step old full kept c.args.client (reserved_rests old old.history c.find_room.new.drawer refl c.find_room.ensures.looked)
    c.args.framed.now c.in-Err.full c.in-Err.ensures.full
    (end_is_to_draw old c.args.client c.requires.line (its_active old kept c.args.client (omega (arith, is, c.if-begin-eq0.false)))))

pub returns-then-is_err : goal.returns-then-is_err
returns-then-is_err c =
    let old = c.args.self.now in
    let kept = c.requires.turn.kept in
    let it = client_read old.clients.items c.args.client c.index.result.now (client_is_there old c.args.client c.requires.turn) c.index.ensures in
    let is : c.begin-begin.result ≡ begin_lsn (client_at old c.args.client).tx =
    c.begin-begin.ensures ∙ ap (λ (k : ClientState). begin_lsn k.tx) it in
    no_memory_at_end old kept c.args.client (its_active old kept c.args.client (omega (arith, is, c.if-begin-eq0.false))) c.reserve.new.self
    c.find_room.new.drawer c.reserve.ensures.events c.find_room.ensures.looked c.args.framed.now

pub lowest-lowest-requires : goal.lowest-lowest-requires
lowest-lowest-requires c =
    let old = c.args.self.now in
    rested_ledger old (record old { history = c.reserve.new.self; drawer = c.find_room.new.drawer }) c.requires.turn.kept
    (reserved_rests old c.reserve.new.self c.find_room.new.drawer c.reserve.ensures.events c.find_room.ensures.looked)

pub release_all-requires-clause-client : goal.release_all-requires-clause-client
release_all-requires-clause-client c = holder_is_there c.args.self.now c.args.client c.requires.turn

pub note_end-place-requires-clause-client : goal.note_end-place-requires-clause-client
note_end-place-requires-clause-client c = client_is_there c.args.self.now c.args.client c.requires.turn

pub draw_prepared-slip-requires-clause-prepared : goal.draw_prepared-slip-requires-clause-prepared
draw_prepared-slip-requires-clause-prepared c = subst (λ o. IsSome o) (sym c.requires.framed) refl

pub draw_prepared-slip-requires-clause-room : goal.draw_prepared-slip-requires-clause-room
draw_prepared-slip-requires-clause-room c = c.in_default.ensures.room

pub draw_prepared-slip-requires-clause-lsn : goal.draw_prepared-slip-requires-clause-lsn
draw_prepared-slip-requires-clause-lsn c = c.in_default.ensures.lsn

pub returns : goal.returns
returns c =
    let old = c.args.self.now in
    let kept = c.requires.turn.kept in
    let its = c.args.client in
    let new = c.note_end-place.new.self in
    let note = c.note_end-place.ensures in
    let looked = c.find_room.new.drawer in
    let looks = c.find_room.ensures.looked in
    let slip = c.draw_prepared-slip.result in
    let taken = c.draw_prepared-slip.new.framed in
    let begin = c.begin-begin.result in
    let low = c.lowest-lowest.result in
    let within = client_is_there old its c.requires.turn in
    let is : begin ≡ begin_lsn (client_at old its).tx =
    c.begin-begin.ensures ∙ ap (λ (k : ClientState). begin_lsn k.tx) (client_read old.clients.items its c.index.result.now within c.index.ensures) in
    let drawer : new.drawer ≡ c.draw_prepared-slip.new.drawer = ap (λ (a : Ledger). a.drawer) note.same in
    let prepared : c.args.framed.now ≡ Some (spelling (without_numbers Abandon)) =
    c.requires.framed ∙ ap (λ (o : Option Line). Some (prepared_bytes (option_map (λ (l : Line). l.command) o))) c.requires.line in
    let drew : HasDrawn (book_of old) its (Some Abandon) (book_of new) (Some slip) c.args.framed.now taken =
    has_drawn (book_of old) (book_of new) its Abandon looked slip begin low 0 c.args.framed.now taken looks c.in_default.ensures.lsn
    (subst (λ (d : DrawerView). HasDrawnOne looked (spelling (record { tx = begin; lowest = low; named = 0; action = Abandon })) d) (sym drawer)
    (drew_spelled Abandon c.args.framed.now old.drawer looked c.draw_prepared-slip.new.drawer begin low 0 prepared looks c.draw_prepared-slip.ensures.drawn))
    (is ∙ sym (begin_is old kept its))
    (c.lowest-lowest.ensures ∙ lowest_rests old c.reserve.new.self looked c.reserve.ensures.events)
    refl c.draw_prepared-slip.ensures.slip.0 c.draw_prepared-slip.ensures.slip.1 c.draw_prepared-slip.ensures.taken in
    end_step old kept its c.requires.turn.some within c.requires.line (its_active old kept its (omega (arith, is, c.if-begin-eq0.false))) new
    (note.same ∙ λ i. record old {
      history = new.history;
      clients = new.clients;
      locks = (sym (ap (λ (a : Ledger). a.locks) note.same)) i;
      drawer = (sym drawer) i;
    })
    (note.event ∙ ap (λ es. es ++ end_event its ∷ []) c.reserve.ensures.events)
    note.client (ap (λ (a : Ledger). a.locks) note.same ∙ c.release_all.ensures.released) drew.0.first drew.0.drawn
    c.note_end-place.result slip c.args.framed.now taken (note.place ∙ ap length c.reserve.ensures.events) drew
