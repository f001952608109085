use Rattle.std.proofs.Common.{ℕ, List, ap, ◌∙◌}
use Rattle.frs_types.specs.declared.record.Entry.{Entry}
use Rattle.frs_types.specs.Survivors.{open_begins, least}
use Rattle.frs_recovery.specs.Answers.{lsns_of}
use Rattle.frs_recovery.specs.OfferedRecords.{offered_records}
use Rattle.frs_recovery.proofs.BackwardReader.{least_of_both}
use Rattle.frs_recovery.proofs.backward_reader.BackwardReader.into_survivors.Goals as goal

pub returns-clause-lowest : goal.returns-clause-lowest
returns-clause-lowest c first rs read =
    let e = c.lowest-lowest.ensures (offered_records first rs) read.noted ∙ ap (λ (m : ℕ). least m (open_begins (offered_records first rs))) (c.least_lsn.ensures ∙ ap (λ (es : List Entry). least c.args.next (lsns_of es)) c.as_slice.ensures.value) in
    least_of_both c.args.next c.lowest-lowest.result c.args.self c.entries-entries.result.items first rs read (c.entries-entries.ensures (offered_records first rs) read.seen) e
