-- By induction over the list.
use Rattle.std.specs.Prelude.{◌+◌, length}
use Rattle.frs_types.specs.Records.{numbered_records_from}
use Rattle.frs_types.specs.Survivors.{committed_records}
use Rattle.frs_filters.proofs.RiseIn.{all_rise, open_rise, survivors_apart, rising_of, within_of}
use Rattle.frs_filters.proofs.survivors.survivors_in_order.Goals as goal

pub returns-clause-places : goal.returns-clause-places
returns-clause-places c first rs = survivors_apart (committed_records (numbered_records_from first rs))

pub returns-clause-rising : goal.returns-clause-rising
returns-clause-rising c first rs = rising_of first (first + length rs) _ (all_rise first rs)

pub returns-clause-within : goal.returns-clause-within
returns-clause-within c first rs = within_of first (first + length rs) _ (all_rise first rs)

pub returns-clause-begins : goal.returns-clause-begins
returns-clause-begins c first rs = rising_of first (first + length rs) _ (open_rise first rs)

pub returns-clause-begins_within : goal.returns-clause-begins_within
returns-clause-begins_within c first rs = within_of first (first + length rs) _ (open_rise first rs)
