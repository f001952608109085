-- What the closing mark of a ledger is answered.
use Rattle.std.proofs.Common.{◌≡◌, ◌⊎◌, ℕ, ◌<◌, List, Option, Some, None, length, refl, ap}
use Rattle.frs_types.specs.declared.limits.TheConstants.{NUMBER_LIMIT}
use Rattle.frs_types.specs.declared.record.Action.TheVariants.{Mark}
use Rattle.frs_types.specs.Lawful.{lowest}
use Rattle.frs_frame.specs.Spelling.{spelling}
use Rattle.frs_slots.specs.Views.{DrawerView, SlotView, HasLooked, next_drawn}
use Rattle.frs_book.specs.declared.ledger.Ledger.{Ledger}
use Rattle.frs_book.specs.declared.room.Full.{Full}
use Rattle.frs_book.specs.declared.room.Full.TheVariants.{OfLsns, OfRecords}
use Rattle.frs_book.specs.Books.{IsWhole, HasDrawn, IsMarked, MarkAnswers}
use Rattle.frs_book.specs.Room.{IsFull, HasDrawnOne, mark_if_full}
use Rattle.frs_book.specs.Ledgers.{machine_state, book_of, drawing_in, IsLedger}
use Rattle.frs_book.proofs.LedgerCloses.{still_marked, session_marked}
use Rattle.frs_book.proofs.LedgerGoesOn.{HasRested, rested_book, same_book}
use Rattle.frs_book.proofs.RecordDraws.{has_drawn}

-- no record can be drawn
pub full_mark : (old new : Ledger) → IsLedger old → HasRested old new → (before : Option (List ℕ)) → (full : Full)
    → IsFull old.drawer full new.drawer → MarkAnswers (book_of old) before (mark_if_full full) (book_of new) before
full_mark old new kept rests before (OfLsns next) is = (is.0, is.1, same_book old new kept rests is.2, refl)
full_mark old new kept rests before (OfRecords drawn known_taken) is =
    (is.0, is.1, is.2, is.3, rested_book old new kept rests, is.4, refl)

-- the mark was drawn behind what the drawing end looked
module _ (old : Ledger) (kept : IsLedger old) (whole : IsWhole (book_of old)) (unclosed : old.closing.value ≡ None) (new : Ledger)
    (same : new ≡ record old { closing = new.closing; drawer = new.drawer })
    (closing : new.closing.value ≡ Some (length old.history.events)) (looked : DrawerView) (slip : SlotView) (low : ℕ)
    (before after : Option (List ℕ)) (looks : (looked ≡ old.drawer) ⊎ HasLooked old.drawer looked)
    (below : next_drawn looked < NUMBER_LIMIT)
    (drew : HasDrawnOne looked (spelling (record { tx = 0; lowest = low; named = 0; action = Mark })) new.drawer)
    (low_is : low ≡ lowest (drawing_in old).log) (ring : slip.ring ≡ looked.ring) (lsn : slip.lsn ≡ next_drawn looked)
    (taken : after ≡ None) where
  its : HasDrawn (book_of old) 0 (Some Mark) (book_of new) (Some slip) before after
  its = has_drawn (book_of old) (book_of new) 0 Mark looked slip 0 low 0 before after looks below drew refl low_is refl ring lsn taken

  pub marked_ledger_is : IsLedger new
  marked_ledger_is = still_marked old kept whole unclosed new same closing its.0.first its.0.drawn

  pub marked_step : IsMarked (book_of old) slip (book_of new) before after
  marked_step = record {
    session = session_marked old kept whole unclosed new same closing its.0.first its.0.drawn;
    state = ap machine_state same;
    acks = ap (λ (a : Ledger). a.acks.items) same;
    before = ap (λ (a : Ledger). a.opening.drawer.value.drawn) same;
    drawn = its;
  }
