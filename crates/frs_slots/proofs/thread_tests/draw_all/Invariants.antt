-- As many records are drawn as there were rounds.
use Rattle.std.proofs.Common.{◌≡◌, length}
use Rattle.frs_slots.proofs.thread_tests.draw_all.Given as goal

abbrev pub invariant-loop : goal.invariant-loop
invariant-loop g l =
    (l.drawer.ring ≡ l.initial.drawer.ring) × (l.drawer.first ≡ 1) × (length l.drawer.drawn ≡ l.counter)
