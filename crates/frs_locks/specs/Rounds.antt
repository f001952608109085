-- One round of the walk over the clients that wait.
use Rattle.std.specs.Prelude.{ℕ, Bool, false, ◌||◌, ◌==◌, List, slice_index_or}
use Rattle.std.specs.List.{list_any}

-- one of the clients is the goal, or was found to lead there
abbrev pub does_lead : ℕ → List Bool → List ℕ → Bool
does_lead goal leading clients = list_any (λ e. (e == goal) || slice_index_or leading e false) clients
