-- Both ends stay on their ring, and what was popped and what is in the ring is what was pushed.
use Rattle.std.proofs.Common.{length, sym, ◌∙◌, ap, arith, length-append}
use Rattle.rtrb.specs.Ring.{received, known_items}
use Rattle.frs_slots.specs.Views.{DrawerView, TakerView}
use Rattle.frs_slots.proofs.NameOfEnd.{is_pair, still_paired, seen_paired, drawer_kept, taker_kept}
use Rattle.frs_slots.proofs.Counts.{longer}
use Rattle.frs_slots.proofs.draw_end.DrawerDrawEnd.beside.Goals as goal

pub slots_beside-requires : goal.slots_beside-requires
slots_beside-requires c =
    is_pair c.self.inside.producer c.taker.inside.consumer
    (seen_paired c.self.inside.producer c.taker.inside.consumer c.args.self.now c.args.taker.now (ap (λ (d : DrawerView). d.ring) c.self.view_is) (ap (λ (t : TakerView). t.ring) c.taker.view_is) c.requires.0)

pub slots_beside-requires-2 : goal.slots_beside-requires-2
slots_beside-requires-2 c =
    is_pair c.slots_beside.new.self c.slots_beside.new.consumer
    (still_paired c.self.inside.producer c.slots_beside.new.self c.taker.inside.consumer c.slots_beside.new.consumer c.slots_beside.ensures.looked.0 c.slots_beside.ensures.consumer.0
    (seen_paired c.self.inside.producer c.taker.inside.consumer c.args.self.now c.args.taker.now (ap (λ (d : DrawerView). d.ring) c.self.view_is) (ap (λ (t : TakerView). t.ring) c.taker.view_is) c.requires.0))

pub returns-clause-one_ring : goal.returns-clause-one_ring
returns-clause-one_ring c = (
  still_paired c.slots_beside.new.self c.slots_beside-2.new.producer c.slots_beside.new.consumer c.slots_beside-2.new.self c.slots_beside-2.ensures.producer.0 c.slots_beside-2.ensures.looked.0
      (still_paired c.self.inside.producer c.slots_beside.new.self c.taker.inside.consumer c.slots_beside.new.consumer c.slots_beside.ensures.looked.0 c.slots_beside.ensures.consumer.0
      (seen_paired c.self.inside.producer c.taker.inside.consumer c.args.self.now c.args.taker.now (ap (λ (d : DrawerView). d.ring) c.self.view_is) (ap (λ (t : TakerView). t.ring) c.taker.view_is) c.requires.0)),
  ap (λ (d : DrawerView). d.first) c.self.view_is ∙ c.requires.1 ∙ sym (ap (λ (t : TakerView). t.first) c.taker.view_is),
)

-- what is free was taken
pub returns-clause-taken : goal.returns-clause-taken
returns-clause-taken c =
    let old = c.self.invariant in
    let pushed = ap length c.slots_beside.ensures.looked.1 in
    let popped = ap length c.slots_beside-2.ensures.looked.1 in
    omega (arith, old, pushed, popped, c.slots_beside.ensures.looked.0.1, c.slots_beside.ensures.looked.2, c.slots_beside.ensures.value, c.slots_beside.ensures.all_free)

pub returns-clause-taker : goal.returns-clause-taker
returns-clause-taker c =
    let before = longer (known_items c.taker.inside.consumer) (known_items c.slots_beside.new.consumer) c.slots_beside.ensures.consumer.2 in
    let more = longer (known_items c.slots_beside.new.consumer) (known_items c.slots_beside-2.new.self) c.slots_beside-2.ensures.looked.2 in
    let popped = ap length c.slots_beside-2.ensures.looked.1 in
    let popped_before = ap length c.slots_beside.ensures.consumer.1 in
    let pushed = ap length c.slots_beside-2.ensures.producer.1 in
    let pushed_before = ap length c.slots_beside.ensures.looked.1 in
    let all = ap length c.slots_beside-2.ensures.fifo in
    rw (← c.taker.view_is) (
      taker_kept c.slots_beside.new.consumer c.slots_beside-2.new.self c.taker.inside.first c.taker.inside.sure _ c.taker.inside.misses c.slots_beside-2.ensures.looked.0 c.slots_beside-2.ensures.looked.1
          ∙ taker_kept c.taker.inside.consumer c.slots_beside.new.consumer c.taker.inside.first c.taker.inside.sure _ c.taker.inside.misses c.slots_beside.ensures.consumer.0 c.slots_beside.ensures.consumer.1,
      omega (arith, c.taker.invariant, c.self.invariant, before, more, popped, popped_before, pushed, pushed_before, all, length-append (received c.slots_beside-2.new.self) (known_items c.slots_beside-2.new.self)),
    )

pub returns-clause-drawer : goal.returns-clause-drawer
returns-clause-drawer c =
    drawer_kept c.slots_beside.new.self c.slots_beside-2.new.producer c.self.inside.first c.self.inside.capacity c.self.inside.known_taken c.self.inside.loads c.slots_beside-2.ensures.producer.0 c.slots_beside-2.ensures.producer.1
    ∙ drawer_kept c.self.inside.producer c.slots_beside.new.self c.self.inside.first c.self.inside.capacity c.self.inside.known_taken c.self.inside.loads c.slots_beside.ensures.looked.0 c.slots_beside.ensures.looked.1
    ∙ c.self.view_is
