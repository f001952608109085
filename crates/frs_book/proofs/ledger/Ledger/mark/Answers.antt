-- The mark is the last record, and stands behind all events.
use Rattle.std.proofs.Common.{◌∙◌, Some, refl, sym, ap, subst, length, IsSome}
use Rattle.frs_types.specs.declared.record.Action.TheVariants.{Mark}
use Rattle.frs_book.specs.declared.ledger.Ledger.{Ledger}
use Rattle.frs_book.specs.Books.{MarkAnswers}
use Rattle.frs_book.specs.Ledgers.{book_of}
use Rattle.frs_book.proofs.LedgerGoesOn.{rested_ledger}
use Rattle.frs_book.proofs.MarkSteps.{full_mark, marked_ledger_is, marked_step}
use Rattle.frs_book.proofs.PreparedDraws.{reserved_rests, lowest_rests, drew_spelled}
use Rattle.frs_book.proofs.ledger.Ledger.mark.Goals as goal

pub returns-in-Err-clause-kept : goal.returns-in-Err-clause-kept
returns-in-Err-clause-kept c =
    let old = c.args.self.now in
    rested_ledger old (record old { drawer = c.find_room.new.drawer }) c.requires.kept
    (reserved_rests old old.history c.find_room.new.drawer refl c.find_room.ensures.looked)

pub returns-in-Err-clause-answers : goal.returns-in-Err-clause-answers
returns-in-Err-clause-answers c =
    let old = c.args.self.now in
    let full : Ledger = record old { drawer = c.find_room.new.drawer } in
    subst (λ r. MarkAnswers (book_of old) c.args.framed.now r (book_of full) c.args.framed.now) (sym c.marked.ensures)
    (full_mark old full c.requires.kept (reserved_rests old old.history c.find_room.new.drawer refl c.find_room.ensures.looked)
    c.args.framed.now c.in-Err.full c.in-Err.ensures.full)

pub lowest-lowest-requires : goal.lowest-lowest-requires
lowest-lowest-requires c =
    let old = c.args.self.now in
    rested_ledger old (record old { drawer = c.find_room.new.drawer }) c.requires.kept
    (reserved_rests old old.history c.find_room.new.drawer refl c.find_room.ensures.looked)

pub draw_prepared-slip-requires-clause-prepared : goal.draw_prepared-slip-requires-clause-prepared
draw_prepared-slip-requires-clause-prepared c = subst (λ o. IsSome o) (sym c.requires.framed) refl

pub draw_prepared-slip-requires-clause-room : goal.draw_prepared-slip-requires-clause-room
draw_prepared-slip-requires-clause-room c = c.in_default.ensures.room

pub draw_prepared-slip-requires-clause-lsn : goal.draw_prepared-slip-requires-clause-lsn
draw_prepared-slip-requires-clause-lsn c = c.in_default.ensures.lsn

pub returns-clause-kept : goal.returns-clause-kept
returns-clause-kept c =
    let old = c.args.self.now in
    let looked = c.find_room.new.drawer in
    let looks = c.find_room.ensures.looked in
    let drawn = c.draw_prepared-slip in
    let new : Ledger = record old { closing = c.of-self.result; drawer = drawn.new.drawer } in
    marked_ledger_is old c.requires.kept c.requires.whole c.requires.unmarked new refl
    (c.of-self.ensures ∙ ap (λ es. Some (length es)) c.events.ensures) looked drawn.result c.lowest-lowest.result c.args.framed.now drawn.new.framed
    looks c.in_default.ensures.lsn
    (drew_spelled Mark c.args.framed.now old.drawer looked drawn.new.drawer 0 c.lowest-lowest.result 0 c.requires.framed looks drawn.ensures.drawn)
    (c.lowest-lowest.ensures ∙ lowest_rests old old.history looked refl) drawn.ensures.slip.0 drawn.ensures.slip.1 drawn.ensures.taken

pub returns-clause-answers : goal.returns-clause-answers
returns-clause-answers c =
    let old = c.args.self.now in
    let looked = c.find_room.new.drawer in
    let looks = c.find_room.ensures.looked in
    let drawn = c.draw_prepared-slip in
    let new : Ledger = record old { closing = c.of-self.result; drawer = drawn.new.drawer } in
    marked_step old c.requires.kept c.requires.whole c.requires.unmarked new refl
    (c.of-self.ensures ∙ ap (λ es. Some (length es)) c.events.ensures) looked drawn.result c.lowest-lowest.result c.args.framed.now drawn.new.framed
    looks c.in_default.ensures.lsn
    (drew_spelled Mark c.args.framed.now old.drawer looked drawn.new.drawer 0 c.lowest-lowest.result 0 c.requires.framed looks drawn.ensures.drawn)
    (c.lowest-lowest.ensures ∙ lowest_rests old old.history looked refl) drawn.ensures.slip.0 drawn.ensures.slip.1 drawn.ensures.taken
