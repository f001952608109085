-- Until the record is drawn it waits, and the drawn ones are as before.
use Rattle.std.proofs.Common.{◌≡◌}
use Rattle.frs_slots.proofs.thread_tests.draw_one.Given as goal

abbrev pub invariant-loop : goal.invariant-loop
invariant-loop g l =
    (l.drawer.ring ≡ l.initial.drawer.ring) × (l.drawer.first ≡ l.initial.drawer.first) × (l.drawer.drawn ≡ l.initial.drawer.drawn)
    × (l.waiting ≡ l.initial.waiting)
