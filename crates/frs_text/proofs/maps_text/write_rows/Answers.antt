use Rattle.std.proofs.Common.{◌∙◌}
use Rattle.frs_text.proofs.GathersText.{stopped_at_end}
use Rattle.frs_text.proofs.maps_text.write_rows.Goals as goal

pub returns-in_err-write_entries-clause-part : goal.returns-in_err-write_entries-clause-part
returns-in_err-write_entries-clause-part g c = λ told. rw c.new-text.ensures.bytes at (c.in_err-write_entries.ensures.part told)

pub returns-clause-part : goal.returns-clause-part
returns-clause-part g c = λ told.
    stopped_at_end _ _ _ _ _ (rw c.new-text.ensures.bytes at (c.in_ok-write_entries.ensures.all told)) (c.write_gathered.ensures.part (c.in_ok-write_entries.ensures.told ∙ told))
