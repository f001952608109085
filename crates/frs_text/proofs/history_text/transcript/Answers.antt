use Rattle.std.proofs.Common.{◌∙◌}
use Rattle.frs_text.proofs.GathersText.{adds_of_longer, stopped_in_second, stopped_at_end, gathers_more}
use Rattle.frs_text.proofs.history_text.transcript.Goals as goal

pub returns-in_err-write_events-clause-part : goal.returns-in_err-write_events-clause-part
returns-in_err-write_events-clause-part g c = λ told. adds_of_longer _ _ _ _ (rw c.new-text.ensures.bytes at (c.in_err-write_events.ensures.part told))

pub returns-in_err-write_acks-clause-part : goal.returns-in_err-write_acks-clause-part
returns-in_err-write_acks-clause-part g c = λ told.
    stopped_in_second _ _ _ _ _ _ (rw c.new-text.ensures.bytes at (c.in_ok-write_events.ensures.all told)) (c.in_err-write_acks.ensures.part (c.in_ok-write_events.ensures.told ∙ told))

pub returns-clause-part : goal.returns-clause-part
returns-clause-part g c = λ told.
    stopped_at_end _ _ _ _ _
    (gathers_more _ _ _ _ _ _ _ _ (rw c.new-text.ensures.bytes at (c.in_ok-write_events.ensures.all told)) (c.in_ok-write_acks.ensures.all (c.in_ok-write_events.ensures.told ∙ told)))
    (c.write_gathered.ensures.part (c.in_ok-write_acks.ensures.told ∙ c.in_ok-write_events.ensures.told ∙ told))
