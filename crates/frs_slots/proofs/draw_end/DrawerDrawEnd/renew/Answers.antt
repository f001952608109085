-- Both ends stay on their ring.
use Rattle.std.proofs.Common.{sym, ◌∙◌, ap}
use Rattle.frs_slots.specs.Views.{DrawerView, TakerView}
use Rattle.frs_slots.proofs.NameOfEnd.{is_pair, still_paired, seen_paired}
use Rattle.frs_slots.proofs.draw_end.DrawerDrawEnd.renew.Goals as goal

pub slots_beside-requires : goal.slots_beside-requires
slots_beside-requires c =
    is_pair c.self.inside.producer c.taker.inside.consumer
    (seen_paired c.self.inside.producer c.taker.inside.consumer c.args.self.now c.args.taker.now (ap (λ (d : DrawerView). d.ring) c.self.view_is) (ap (λ (t : TakerView). t.ring) c.taker.view_is) c.requires.one_ring.0)

pub returns-clause-one_ring : goal.returns-clause-one_ring
returns-clause-one_ring c = (
  still_paired c.self.inside.producer c.slots_beside.new.self c.taker.inside.consumer c.slots_beside.new.consumer c.slots_beside.ensures.looked.0 c.slots_beside.ensures.consumer.0
      (seen_paired c.self.inside.producer c.taker.inside.consumer c.args.self.now c.args.taker.now (ap (λ (d : DrawerView). d.ring) c.self.view_is) (ap (λ (t : TakerView). t.ring) c.taker.view_is) c.requires.one_ring.0),
  ap (λ (d : DrawerView). d.first) c.self.view_is ∙ c.requires.one_ring.1 ∙ sym (ap (λ (t : TakerView). t.first) c.taker.view_is),
)
