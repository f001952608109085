-- By what the closure does with each slot.
use Rattle.std.proofs.Common.{rules}
use Rattle.std.proofs.lemmas.Map.Keys.{IsDistinct-from_sorted}
use Rattle.frs_objects.proofs.SlotAt.{emptied_keys}
use Rattle.frs_objects.proofs.places.empty_keys.Goals as goal

pub returns : goal.returns
returns c = emptied_keys _ (λ f k v b w f' t. search rules) _ _ _ (IsDistinct-from_sorted _ _ c.retain.ensures.was_ordered) c.retain.ensures.filtered
