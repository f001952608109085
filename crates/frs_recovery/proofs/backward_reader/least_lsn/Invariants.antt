-- The least so far and that of the entries that are left make that of all.
use Rattle.std.proofs.Common.{◌≡◌, drop}
use Rattle.frs_types.specs.Survivors.{least}
use Rattle.frs_recovery.specs.Answers.{lsns_of}
use Rattle.frs_recovery.proofs.backward_reader.least_lsn.Given as goal

abbrev pub invariant-loop-entry : goal.invariant-loop-entry
invariant-loop-entry l = least l.lowest (lsns_of (drop l.entry-index l.entries)) ≡ least l.fn.next (lsns_of l.entries)
