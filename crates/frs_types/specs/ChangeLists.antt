-- The changes that a log commits, without LSNs: one list for each commit, in the order of the commits.
use Rattle.std.specs.Prelude.{ℕ, ◌==◌, List, [], ◌∷◌, map, Option, Some, None, if◌then◌else◌}
use Rattle.std.specs.List.{cons_option}
use Rattle.frs_types.specs.declared.record.Action.{Action}
use Rattle.frs_types.specs.declared.record.Action.TheVariants.{Put, Remove, Delete, Commit}
use Rattle.frs_types.specs.declared.record.Record.{Record}
use Rattle.frs_types.specs.Maps.{Change}
use Rattle.frs_types.specs.Maps.Change.{Set, Take, Clear}
use Rattle.frs_types.specs.Lawful.{StoredValue, LogState, changes_of, after_record}

-- a change without the LSN of its value
abbrev pub plain_change : Change StoredValue → Change (List ℕ)
plain_change (Set id key h) = Set id key h.value
plain_change (Take id key) = Take id key
plain_change (Clear id) = Clear id

-- a change outside of a transaction commits by itself
abbrev pub change_list_alone : ℕ → Change (List ℕ) → Option (List (Change (List ℕ)))
change_list_alone tx x = if tx == 0 then Some (x ∷ []) else None

-- what a record with that transaction and action commits, if it commits; a compaction changes no maps
abbrev pub change_list_by : LogState → ℕ → Action → Option (List (Change (List ℕ)))
change_list_by s tx (Put id key value) = change_list_alone tx (Set id key value)
change_list_by s tx (Remove id key) = change_list_alone tx (Take id key)
change_list_by s tx (Delete id) = change_list_alone tx (Clear id)
change_list_by s tx Commit = Some (map plain_change (changes_of s.active tx))
change_list_by s tx other = None

-- what these records commit behind the state
abbrev pub change_lists_of : LogState → List Record → List (List (Change (List ℕ)))
change_lists_of s [] = []
change_lists_of s (r ∷ rs) = cons_option (change_list_by s r.tx r.action) (change_lists_of (after_record s r) rs)
