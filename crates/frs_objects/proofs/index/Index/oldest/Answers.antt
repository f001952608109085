-- The first row is the oldest entry.
use Rattle.std.proofs.Common.{◌∙◌}
use Rattle.frs_objects.specs.Slots.{slot_at}
use Rattle.frs_objects.proofs.Oldest.{oldest_of_rows}
use Rattle.frs_objects.proofs.index.Index.oldest.Goals as goal

pub returns : goal.returns
returns c a = c.as_ref.ensures.value ∙ oldest_of_rows (slot_at c.args.self.now.places.maps) c.args.self.now.entries.entries a _ _ c.in-Some.ensures.first
