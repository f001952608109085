-- What is noted of begins, and of what ends them, among the newest records of a log.
use Rattle.std.specs.Prelude.{◌≡◌, ℕ, min, Bool, true, ◌||◌, List, Option, Some, None, if◌then◌else◌}
use Rattle.std.specs.List.{list_any}
use Rattle.std.specs.Ordering.{nat_cmp}
use Rattle.std.specs.BTreeSet.{insert_key}
use Rattle.frs_types.specs.declared.record.Action.{Action}
use Rattle.frs_types.specs.declared.record.Action.TheVariants.{Begin, Commit, Mark, Abandon}
use Rattle.frs_types.specs.Records.{Numbered}
use Rattle.frs_types.specs.Survivors.{is_ended_by, open_begins, least}
use Rattle.frs_filters.specs.Filters.{is_noted}

-- the transactions that were ended, whether a mark ended all older ones, and the least begin that stays open
pub record Begins : Type 0 where
  pub ended : List ℕ
  pub marked : Bool
  pub lowest : Option ℕ

-- a record that was offered ends the transaction
abbrev pub is_ended : Begins → ℕ → Bool
is_ended b tx = b.marked || is_noted nat_cmp b.ended tx

abbrev pub lower_of : ℕ → Option ℕ → ℕ
lower_of n None = n
lower_of n (Some m) = min n m

-- ---- one record

abbrev pub with_noted : Begins → ℕ → ℕ → Action → Begins
with_noted b lsn tx Begin = if is_ended b lsn then b else record b { lowest = Some (lower_of lsn b.lowest) }
with_noted b lsn tx Commit = record b { ended = insert_key nat_cmp b.ended tx }
with_noted b lsn tx Abandon = record b { ended = insert_key nat_cmp b.ended tx }
with_noted b lsn tx Mark = record b { marked = true }
with_noted b lsn tx other = b

-- ---- the newest records of a log

-- These records, listed oldest first, were offered from the last to the first.
pub record HasNoted (b : Begins) (later : List Numbered) : Type 0 where
  pub ended : (tx : ℕ) → is_ended b tx ≡ list_any (λ (l : Numbered). is_ended_by tx l.what.tx l.what.action) later
  pub lowest : (n : ℕ) → least n (open_begins later) ≡ lower_of n b.lowest
