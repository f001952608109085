-- The client has the lock, and what it reads is told.
use Rattle.std.proofs.Common.{refl, sym, inl}
use Rattle.frs_book.proofs.OutsideSteps.{client_is_there}
use Rattle.frs_book.proofs.PreparedDraws.{holder_is_there, done_fits, reserved_rests, no_memory}
use Rattle.frs_book.proofs.InsideAnswers.{both_when_refused, no_memory_once_looked, lock_is_held, read_inside_step}
use Rattle.frs_book.proofs.ledger.Ledger.read_inside.Goals as goal

pub returns-then-is_err : goal.returns-then-is_err
returns-then-is_err c = λ f. let old = c.args.self.now in
    no_memory old c.args.client c.args.line.now c.requires.turn c.reserve.new.self old.drawer c.reserve.ensures.events (inl refl) f

pub want-requires-clause-client : goal.want-requires-clause-client
want-requires-clause-client c = holder_is_there c.args.self.now c.args.client c.requires.turn.turn

pub returns-then-is_err-2 : goal.returns-then-is_err-2
returns-then-is_err-2 c = λ f.
    let old = c.args.self.now in
    let both = both_when_refused c.want.result (sym c.if-is_err-2.ensures.value) c.want.ensures.refused c.want.ensures.refused in
    no_memory_once_looked old c.args.client c.args.line.now c.requires.turn
    (record old { locks = c.want.new.self; history = c.reserve.new.self }) f
    refl refl both.0 refl c.reserve.ensures.events (inl refl)

pub note-place-requires-clause-client : goal.note-place-requires-clause-client
note-place-requires-clause-client c = client_is_there c.args.self.now c.args.client c.requires.turn.turn

pub note-place-requires-clause-line : goal.note-place-requires-clause-line
note-place-requires-clause-line c = done_fits c.args.self.now c.args.client c.args.line.now c.requires.turn

pub returns : goal.returns
returns c = λ f.
    let old = c.args.self.now in
    let its = c.args.client in
    let lock = c.args.lock.now in
    let note = c.note-place.ensures in
    read_inside_step old its c.args.line.now c.requires.turn lock c.args.reply c.requires.read
    (record old { history = c.reserve.new.self }) c.note-place.new.self
    (reserved_rests old c.reserve.new.self old.drawer c.reserve.ensures.events (inl refl))
    c.want.new.self (lock_is_held old.locks c.want.new.self its lock c.want.result c.requires.read.free (sym c.if-is_err-2.ensures.value) c.want.ensures.answer)
    refl note.same note.event note.client c.note-place.result f note.place
