use Rattle.frs_text.proofs.GathersText.{nothing_taken}
use Rattle.frs_text.proofs.maps_text.write_entry.Goals as goal

pub returns-in_err-push_entry-clause-part : goal.returns-in_err-push_entry-clause-part
returns-in_err-push_entry-clause-part g c = λ told. nothing_taken _ _
