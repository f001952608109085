-- The record was pushed behind the others, on the same ring.
use Rattle.std.proofs.Common.{[], ◌∷◌, ◌++◌, ap, ◌∙◌, arith}
use Rattle.frs_slots.specs.Views.{DrawerView, next_drawn}
use Rattle.frs_slots.specs.Names.{Pushes, pushes_on}
use Rattle.frs_slots.proofs.HasLooked.{looked_same, looked_known, looked_loads}
use Rattle.frs_slots.proofs.NameOfEnd.{pushes_kept}
use Rattle.frs_slots.proofs.drawer.Drawer.draw.Goals as goal

pub returns-clause-drawn : goal.returns-clause-drawn
returns-clause-drawn c =
    let old = c.args.self.now in let new = c.room.new.self in let looked = c.room.ensures.looked in
    let seen = c.self.view_is in let same = looked_same old new looked in
    let ring = pushes_kept c.self.inside.producer c.push_reserved.new.self c.push_reserved.ensures.ring ∙ ap (λ (d : DrawerView). d.ring) (seen ∙ same) in (
      record {
        ring = ring;
        first = ap (λ (d : DrawerView). d.first) (seen ∙ same);
        capacity = ap (λ (d : DrawerView). d.capacity) (seen ∙ same);
        drawn = c.push_reserved.ensures.sent.0 ∙ ap (λ (d : DrawerView). d.drawn ++ c.args.framed ∷ []) (seen ∙ same);
        known_taken = omega (arith, looked_known old new looked, ap (λ (d : DrawerView). d.known_taken) seen);
        loads = rw (ap (λ (d : DrawerView). d.loads) seen) (looked_loads old new looked);
      },
      c.new.ensures.1 ∙ c.self.invariant.next ∙ ap next_drawn (seen ∙ same),
      c.new.ensures.0 ∙ ap (λ (p : Pushes). pushes_on p) c.of.ensures ∙ ring,
    )

pub returns-clause-unlooked : goal.returns-clause-unlooked
returns-clause-unlooked c room =
    let same = c.self.view_is ∙ c.room.ensures.unlooked room in
    (ap (λ (d : DrawerView). d.known_taken) same, ap (λ (d : DrawerView). d.loads) same)
