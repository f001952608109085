-- The two ends are those of a pair.
use Rattle.std.proofs.Common.{ap, ◌∙◌, sym}
use Rattle.frs_slots.specs.Views.{DrawerView, TakerView}
use Rattle.frs_slots.proofs.NameOfEnd.{pair_named}
use Rattle.frs_slots.proofs.ring.Goals as goal

pub returns-clause-one_ring : goal.returns-clause-one_ring
returns-clause-one_ring c = (
  ap (λ (d : DrawerView). d.ring) c.new-2.ensures ∙ pair_named c.in_ok-producer.producer c.in_ok-producer.consumer c.in_ok-producer.ensures.pair ∙ sym (ap (λ (t : TakerView). t.ring) c.new-3.ensures),
  ap (λ (d : DrawerView). d.first) c.new-2.ensures ∙ sym (ap (λ (t : TakerView). t.first) c.new-3.ensures),
)
