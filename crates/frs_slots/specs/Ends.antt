-- How the ends of a ring are seen, and what always holds of what they keep.
use Rattle.std.specs.Prelude.{◌≡◌, ◌+◌, ◌<◌, ◌≤◌, length}
use Rattle.frs_types.specs.declared.limits.TheConstants.{NUMBER_LIMIT}
use Rattle.frs_slots.specs.declared.TheConstants.{CAPACITY_LIMIT}
use Rattle.rtrb.specs.Ring.{sent, known_free, producer_capacity, received, known_items}
use Rattle.frs_slots.specs.declared.drawer.Drawer.TheInside as drawer
use Rattle.frs_slots.specs.declared.taker.Taker.TheInside as taker
use Rattle.frs_slots.specs.Names.{pushes_on, pops_from}
use Rattle.frs_slots.specs.Views.{DrawerView, TakerView}

abbrev pub drawer_seen : drawer.Inside → DrawerView
drawer_seen a = record {
  ring = pushes_on a.producer;
  first = a.first;
  capacity = a.capacity;
  drawn = sent a.producer;
  known_taken = a.known_taken;
  loads = a.loads;
}

abbrev pub taker_seen : taker.Inside → TakerView
taker_seen a = record {
  ring = pops_from a.consumer;
  first = a.first;
  taken = received a.consumer;
  sure = a.sure;
  known = a.known;
  misses = a.misses;
}

-- the counts of a drawer fit what was pushed, and what it doesn't count as outstanding is free
pub record DrawerCounts (a : drawer.Inside) : Type 0 where
  pub next : a.next ≡ a.first + length (sent a.producer)
  pub least : 1 ≤ a.first
  pub most : a.next ≤ NUMBER_LIMIT
  pub capacity : (producer_capacity a.producer ≡ a.capacity) × (1 ≤ a.capacity) × (a.capacity ≤ CAPACITY_LIMIT)
  pub known_taken : a.known_taken ≤ length (sent a.producer)
  pub outstanding : length (sent a.producer) ≤ a.known_taken + a.capacity
  pub free : a.known_taken + a.capacity ≤ length (sent a.producer) + known_free a.producer

-- the counts of a taker fit what was popped, and what it counts as known is there
pub record TakerCounts (a : taker.Inside) : Type 0 where
  pub next : a.next ≡ a.first + length (received a.consumer)
  pub least : 1 ≤ a.first
  pub below : a.first < NUMBER_LIMIT
  pub most : (a.first + a.sure ≤ NUMBER_LIMIT) × (a.first + a.known ≤ NUMBER_LIMIT)
  pub sure : length (received a.consumer) ≤ a.sure
  pub known : length (received a.consumer) ≤ a.known
  pub there : a.known ≤ length (received a.consumer) + length (known_items a.consumer)
