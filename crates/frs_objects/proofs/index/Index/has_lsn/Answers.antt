-- An LSN is an entry's where it has a row.
use Rattle.std.proofs.Common.{◌∙◌}
use Rattle.frs_objects.specs.Slots.{slot_at}
use Rattle.frs_objects.proofs.IsNew.{is_listed}
use Rattle.frs_objects.proofs.index.Index.has_lsn.Goals as goal

pub returns : goal.returns
returns c a = c.contains_key.ensures ∙ is_listed (slot_at c.args.self.now.places.maps) c.args.self.now.entries.entries a c.args.lsn
