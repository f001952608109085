-- A look leaves the records, and what is free was taken.
use Rattle.std.proofs.Common.{arith}
use Rattle.frs_slots.proofs.NameOfEnd.{drawer_kept}
use Rattle.frs_slots.proofs.drawer.Drawer.look.Goals as goal

pub returns : goal.returns
returns c =
    rw (← c.self.view_is) (record {
      same = drawer_kept c.self.inside.producer c.slots-free.new.self c.self.inside.first c.self.inside.capacity _ _ c.slots-free.ensures.looked.0 c.slots-free.ensures.looked.1;
      known_taken = omega (arith, c.self.invariant, c.slots-free.ensures.looked.2, c.slots-free.ensures.value, c.from.ensures);
      loads = c.saturating_add-self-inside.ensures;
    })
