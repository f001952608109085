-- The change stands in the maps at the LSN of its record.
use Rattle.std.proofs.Common.{◌<◌, [], ◌∷◌, ◌++◌, ◌∙◌, refl, sym, ap, subst, length, IsSome}
use Rattle.frs_types.specs.declared.limits.TheConstants.{NUMBER_LIMIT}
use Rattle.frs_types.specs.Maps.{Table}
use Rattle.frs_types.specs.Lawful.{StoredValue, lowest}
use Rattle.frs_history.specs.declared.event.Reply.TheVariants as reply
use Rattle.frs_book.specs.declared.ledger.Ledger.{Ledger}
use Rattle.frs_book.specs.declared.step.Step.TheVariants as step
use Rattle.frs_book.specs.Ledgers.{TakesStep, book_of, drawing_in}
use Rattle.frs_book.proofs.LedgerGoesOn.{rested_ledger}
use Rattle.frs_book.proofs.StepAnswered.{full_step}
use Rattle.frs_book.proofs.NextEvents.{answered_event}
use Rattle.frs_book.proofs.OutsideSteps.{client_is_there, change_step}
use Rattle.frs_book.proofs.PreparedDraws.{holder_is_there, done_fits, reserved_rests, lowest_rests, next_still, no_memory, slip_is, prepared_for, drew_with, change_is_to_draw}
use Rattle.frs_book.proofs.ledger.Ledger.change.Goals as goal

pub returns-in-Err : goal.returns-in-Err
returns-in-Err c =
    let old = c.args.self.now in
    let full : Ledger = record old { drawer = c.find_room.new.drawer } in
    subst (λ r. TakesStep old c.args.client c.args.framed.now r full c.args.framed.now) (sym c.step.ensures)
    (full_step old full c.requires.turn.turn.kept c.args.client (reserved_rests old old.history c.find_room.new.drawer refl c.find_room.ensures.looked)
    c.args.framed.now c.in-Err.full c.in-Err.ensures.full
    (change_is_to_draw old c.args.client c.args.line.now c.requires.turn c.args.op c.args.named c.requires.change))

pub returns-then-is_err : goal.returns-then-is_err
returns-then-is_err c =
    no_memory c.args.self.now c.args.client c.args.line.now c.requires.turn c.reserve.new.self c.find_room.new.drawer c.reserve.ensures.events
    c.find_room.ensures.looked c.args.framed.now

pub lowest-lowest-requires : goal.lowest-lowest-requires
lowest-lowest-requires c =
    let old = c.args.self.now in
    rested_ledger old (record old { history = c.reserve.new.self; drawer = c.find_room.new.drawer }) c.requires.turn.turn.kept
    (reserved_rests old c.reserve.new.self c.find_room.new.drawer c.reserve.ensures.events c.find_room.ensures.looked)

pub apply_one-requires : goal.apply_one-requires
apply_one-requires c = c.requires.change.new

pub returns-in-Err-apply_one : goal.returns-in-Err-apply_one
returns-in-Err-apply_one c =
    let old = c.args.self.now in
    subst (λ (t : Table StoredValue). TakesStep old c.args.client c.args.framed.now step.Memory
    (record old { history = c.reserve.new.self; drawer = c.find_room.new.drawer; objects = t }) c.args.framed.now)
    (sym c.in-Err-apply_one.ensures.refused)
    (no_memory old c.args.client c.args.line.now c.requires.turn c.reserve.new.self c.find_room.new.drawer c.reserve.ensures.events
    c.find_room.ensures.looked c.args.framed.now)

pub release_all-requires-clause-client : goal.release_all-requires-clause-client
release_all-requires-clause-client c = holder_is_there c.args.self.now c.args.client c.requires.turn.turn

pub note-place-requires-clause-client : goal.note-place-requires-clause-client
note-place-requires-clause-client c = client_is_there c.args.self.now c.args.client c.requires.turn.turn

pub note-place-requires-clause-line : goal.note-place-requires-clause-line
note-place-requires-clause-line c = done_fits c.args.self.now c.args.client c.args.line.now c.requires.turn

pub draw_prepared-slip-requires-clause-prepared : goal.draw_prepared-slip-requires-clause-prepared
draw_prepared-slip-requires-clause-prepared c = subst (λ o. IsSome o) (sym c.requires.framed) refl

pub draw_prepared-slip-requires-clause-room : goal.draw_prepared-slip-requires-clause-room
draw_prepared-slip-requires-clause-room c = c.in_default.ensures.room

pub draw_prepared-slip-requires-clause-lsn : goal.draw_prepared-slip-requires-clause-lsn
draw_prepared-slip-requires-clause-lsn c = c.in_default.ensures.lsn

pub returns : goal.returns
returns c =
    let old = c.args.self.now in
    let client = c.args.client in
    let line = c.args.line.now in
    let change = c.requires.change in
    let new = c.note-place.new.self in
    let note = c.note-place.ensures in
    let lsn = c.next-lsn.result in
    let looks = c.find_room.ensures.looked in
    change_step old client line c.requires.turn c.args.op c.args.named c.requires.outside change new lsn
    (c.next-lsn.ensures.next ∙ next_still old.drawer c.find_room.new.drawer looks)
    (note.same ∙ λ i. record old {
      history = new.history;
      clients = new.clients;
      locks = (sym (ap (λ (a : Ledger). a.locks) note.same)) i;
      objects = (sym (ap (λ (a : Ledger). a.objects) note.same)) i;
      drawer = (sym (ap (λ (a : Ledger). a.drawer) note.same)) i;
    })
    (note.event ∙ ap (λ es. es ++ answered_event client line reply.Done ∷ []) c.reserve.ensures.events)
    note.client (ap (λ (a : Ledger). a.locks) note.same ∙ c.release_all.ensures.released)
    (ap (λ (a : Ledger). a.objects) note.same ∙ c.in_default-apply_one.ensures.applied)
    (drew_with change.action c.args.framed.now old.drawer c.find_room.new.drawer c.draw_prepared-slip.new.drawer new.drawer 0 c.lowest-lowest.result (lowest (drawing_in old).log) c.args.named
    (prepared_for (book_of old) client line c.requires.turn.at_line change.action change.draws c.args.framed.now c.requires.framed)
    looks c.draw_prepared-slip.ensures.drawn
    (c.lowest-lowest.ensures ∙ lowest_rests old c.reserve.new.self c.find_room.new.drawer c.reserve.ensures.events) (ap (λ (a : Ledger). a.drawer) note.same))
    c.note-place.result c.draw_prepared-slip.result c.args.framed.now c.draw_prepared-slip.new.framed
    (note.place ∙ ap length c.reserve.ensures.events)
    (slip_is old.drawer c.find_room.new.drawer c.draw_prepared-slip.result looks c.draw_prepared-slip.ensures.slip.0 c.draw_prepared-slip.ensures.slip.1)
    (subst (λ n. n < NUMBER_LIMIT) (next_still old.drawer c.find_room.new.drawer looks) c.in_default.ensures.lsn)
    c.draw_prepared-slip.ensures.taken
