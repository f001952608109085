-- A pop takes the next item, and the counts follow.
use Rattle.std.proofs.Common.{◌≡◌, ◌+◌, ◌-◌, max, ◌∷◌, length, ap, ◌∙◌, refl, arith}
use Rattle.rtrb.specs.Ring.{received, known_items}
use Rattle.frs_slots.proofs.Counts.{longer, one_longer, left_within, right_within, greater_within}
use Rattle.frs_slots.proofs.NameOfEnd.{taker_kept, pops_kept}
use Rattle.frs_slots.proofs.taker.Taker.take.Goals as goal

pub invariant_of-self-in-Ok : goal.invariant_of-self-in-Ok
invariant_of-self-in-Ok c =
    let n = one_longer (received c.self.inside.consumer) (received c.pop.new.self) c.in-Ok.framed c.in-Ok.ensures.ok.0 in
    let m = longer (known_items c.self.inside.consumer) (c.in-Ok.framed ∷ known_items c.pop.new.self) c.in-Ok.ensures.ok.1 in
    let old = c.self.invariant in let below = c.if-self-eq-NUMBER_LIMIT.false in
    let taken = c.self.inside.next + 1 - c.self.inside.first in
    let top = 4611686018427387904 - c.self.inside.first in
    let sure = greater_within c.self.inside.sure taken c.max-self-inside.result top c.max-self-inside.ensures (omega (arith, old)) (omega (arith, old, below)) in
    let known = greater_within c.self.inside.known taken c.max-self-inside-in-Ok.result top c.max-self-inside-in-Ok.ensures (omega (arith, old)) (omega (arith, old, below)) in
    let there = length (received c.pop.new.self) + length (known_items c.pop.new.self) in
    record {
      next = omega (arith, old, n);
      least = old.least;
      below = old.below;
      most = (omega (arith, old, sure), omega (arith, old, known));
      sure = omega (arith, old, n, right_within c.self.inside.sure taken c.max-self-inside.result c.max-self-inside.ensures);
      known = omega (arith, old, n, right_within c.self.inside.known taken c.max-self-inside-in-Ok.result c.max-self-inside-in-Ok.ensures);
      there = greater_within c.self.inside.known taken c.max-self-inside-in-Ok.result there c.max-self-inside-in-Ok.ensures (omega (arith, old, n, m)) (omega (arith, old, n));
    }

pub returns-in-Ok-clause-taken : goal.returns-in-Ok-clause-taken
returns-in-Ok-clause-taken c =
    let n = one_longer (received c.self.inside.consumer) (received c.pop.new.self) c.in-Ok.framed c.in-Ok.ensures.ok.0 in
    let old = c.self.invariant in let below = c.if-self-eq-NUMBER_LIMIT.false in
    let taken = c.self.inside.next + 1 - c.self.inside.first in
    let count : taken ≡ length (received c.pop.new.self) = omega (arith, old, n) in
    rw (← c.self.view_is) (
      record {
        ring = pops_kept c.self.inside.consumer c.pop.new.self c.pop.ensures.ring;
        first = refl;
        taken = c.in-Ok.ensures.ok.0;
        sure = c.max-self-inside.ensures ∙ ap (λ k. max c.self.inside.sure k) count;
        known = (
          left_within c.self.inside.known taken c.max-self-inside-in-Ok.result c.max-self-inside-in-Ok.ensures,
          omega (arith, count, right_within c.self.inside.known taken c.max-self-inside-in-Ok.result c.max-self-inside-in-Ok.ensures),
        );
        misses = refl;
      },
      omega (arith, old, below),
    )

pub returns-in-Err-clause-not_yet : goal.returns-in-Err-clause-not_yet
returns-in-Err-clause-not_yet c =
    rw (← c.self.view_is) (
      record {
        same = taker_kept c.self.inside.consumer c.pop.new.self c.self.inside.first c.self.inside.sure c.self.inside.known _ c.pop.ensures.ring c.in-Err.ensures.empty.0;
        misses = c.saturating_add-self-inside-in-Err.ensures;
      },
      refl,
      grind (arith, c.self.invariant, c.in-Err.ensures.succeeds),
    )
