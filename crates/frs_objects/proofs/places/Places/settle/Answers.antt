-- The map of the id is changed, and goes where it has nothing left.
use Rattle.frs_objects.proofs.SlotAt.{settled_map, settled_gone, no_entries}
use Rattle.frs_objects.proofs.places.Places.settle.Goals as goal

pub returns-then-is_empty : goal.returns-then-is_empty
returns-then-is_empty c =
    let w = c.settle_key.new.map in
    settled_gone c.args.self.now.maps (c.get_mut.follows.lender w) c.args.id.now c.in-Some.map.now w c.in-Some.ensures.value (c.get_mut.follows.holds w) c.remove.new.self (no_entries w.entries (c.is_empty.ensures.0 c.if-is_empty.true)) c.remove.ensures.updates c.args.key.now c.args.slot c.settle_key.ensures

pub returns-else-is_empty : goal.returns-else-is_empty
returns-else-is_empty c =
    let w = c.settle_key.new.map in
    settled_map c.args.self.now.maps (c.get_mut.follows.lender w) c.args.id.now c.in-Some.map.now w c.in-Some.ensures.value (c.get_mut.follows.holds w) c.args.key.now c.args.slot c.settle_key.ensures
