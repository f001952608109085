-- When no record can be drawn, and what a draw where there is room does.
use Rattle.std.specs.Prelude.{◌≡◌, ◌≢◌, List, [], ◌∷◌, ◌++◌, ℕ, length}
use Rattle.frs_types.specs.declared.limits.TheConstants.{NUMBER_LIMIT}
use Rattle.frs_slots.specs.Views.{DrawerView, HasLooked, next_drawn, outstanding}
use Rattle.frs_book.specs.declared.room.Full.{Full}
use Rattle.frs_book.specs.declared.room.Full.TheVariants.{OfLsns, OfRecords}
use Rattle.frs_book.specs.declared.step.Marked.{Marked}
use Rattle.frs_book.specs.declared.step.Marked.TheVariants as marked
use Rattle.frs_book.specs.declared.step.Step.{Step}
use Rattle.frs_book.specs.declared.step.Step.TheVariants as step

abbrev pub step_if_full : Full → Step
step_if_full (OfLsns next) = step.LogFull next
step_if_full (OfRecords drawn known_taken) = step.NoRoom drawn known_taken

abbrev pub mark_if_full : Full → Marked
mark_if_full (OfLsns next) = marked.LogFull next
mark_if_full (OfRecords drawn known_taken) = marked.NoRoom drawn known_taken

-- no LSN is left, or the drawing end has looked in this call and the ring is full
abbrev pub IsFull : DrawerView → Full → DrawerView → Type 0
IsFull old (OfLsns next) new = (next ≡ NUMBER_LIMIT) × (next_drawn old ≡ NUMBER_LIMIT) × (new ≡ old)
IsFull old (OfRecords drawn known_taken) new =
    (next_drawn old ≢ NUMBER_LIMIT) × (drawn ≡ length old.drawn) × (known_taken ≡ new.known_taken)
    × (outstanding new ≡ new.capacity) × HasLooked old new

-- one more record was drawn, and nothing else has changed
abbrev pub HasDrawnOne : DrawerView → List ℕ → DrawerView → Type 0
HasDrawnOne old bytes new = new ≡ record old { drawn = old.drawn ++ bytes ∷ [] }
