-- What contracts see of a history.
use Rattle.std.specs.Prelude.{ℕ, List}
use Rattle.frs_history.specs.declared.event.Event.{Event}

-- the events, oldest first, and for how many more there is room
pub record HistoryView : Type 0 where
  pub events : List Event
  pub room : ℕ
