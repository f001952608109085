use Rattle.frs_text.proofs.GathersText.{nothing_taken}
use Rattle.frs_text.proofs.history_text.write_ack.Goals as goal

pub returns-in_err-push_ack-clause-part : goal.returns-in_err-push_ack-clause-part
returns-in_err-push_ack-clause-part g c = λ told. nothing_taken _ _
