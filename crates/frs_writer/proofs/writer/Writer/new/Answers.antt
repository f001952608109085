use Rattle.std.proofs.Common.{◌≡◌, inl, ◌∙◌, ◌<◌, ◌+◌, ℕ, List, [], length, IsSome, refl, sym, ap, subst, arith}
use Rattle.std.specs.Prelude.{All}
use Rattle.std.specs.List.Sorted.{IsStrictlyIncreasing}
use Rattle.std.specs.FinMap.{get}
use Rattle.frs_writer.specs.Setup.{MissesSomeBeside, OpensNext}
use Rattle.frs_writer.proofs.WriterNew.{none_pends, found_read, alike_still, unchanged_found, opening_found, kept_begun, durable_none, none_failed}
use Rattle.frs_writer.proofs.IsFound.{found_half, found_rising, found_above, found_none_removed}
use Rattle.frs_writer.proofs.writer.Writer.new.Goals as goal

pub returns-then-number-eq-NUMBER_LIMIT-clause-crash : goal.returns-then-number-eq-NUMBER_LIMIT-clause-crash
returns-then-number-eq-NUMBER_LIMIT-clause-crash g c = (tt, unchanged_found g.D.Disk g.met.D.Disk.only_now c.args.disk)

pub returns-in_default-clause-crash : goal.returns-in_default-clause-crash
returns-in_default-clause-crash g c = (tt, unchanged_found g.D.Disk g.met.D.Disk.only_now c.args.disk)

pub open_next-requires-clause-half : goal.open_next-requires-clause-half
open_next-requires-clause-half g c = λ told.
    let d = g.D.Disk in
    let (segments, log, is) = c.requires.found told in (
      subst IsStrictlyIncreasing (sym c.items.ensures) (found_rising (d.reads c.args.disk) segments log c.args.found.now is),
      subst (All (λ (n : ℕ). IsSome (get (d.reads c.args.disk) n) × (n < c.args.found.now.greatest + 1))) (sym c.items.ensures)
          (found_half (d.reads c.args.disk) segments log c.args.found.now is (c.args.found.now.greatest + 1) refl),
    )

pub open_next-requires-clause-new : goal.open_next-requires-clause-new
open_next-requires-clause-new g c = (
  λ told.
      let (segments, log, is) = c.requires.found told in
      found_above (g.D.Disk.reads c.args.disk) segments log c.args.found.now is (c.args.found.now.greatest + 1) (omega arith),
  λ told.
      let d = g.D.Disk in
      let (segments, log, is) = c.requires.found told in
      found_none_removed (d.reads c.args.disk) segments log c.args.found.now is (d.removing c.args.disk) (c.requires.pending told) (c.args.found.now.greatest + 1) (omega arith),
)

pub returns-in-Err-clause-crash : goal.returns-in-Err-clause-crash
returns-in-Err-clause-crash g c = (
  tt,
  opening_found g.D.Disk g.met.D.Disk.as_read g.met.D.Disk.counts_now g.met.D.Disk.stays_absent c.one_log.ensures.log
      c.args.disk c.open_next.new.disk c.args.found.now c.requires.found c.requires.pending c.requires.greatest c.if-number-eq-NUMBER_LIMIT.false c.items.result.now c.items.ensures
      c.args.taker c.requires.taker c.next-first.result c.next-first.ensures.next c.next-first.ensures.first c.open_next.ensures.images,
)

pub invariant_of-result : goal.invariant_of-result
invariant_of-result g c =
    let d = g.D.Disk in
    let opened : c.of-opened.result.value ≡ c.args.disk = c.of-opened.ensures in
    let buffers = c.in-Ok.buffers in
    record {
      kept_is = kept_begun d g.met.D.Disk.as_read g.met.D.Disk.counts_now g.met.D.Disk.stays_absent c.one_log.ensures.log
          c.args.disk c.open_next.new.disk c.args.found.now c.requires.found c.requires.pending c.requires.greatest c.if-number-eq-NUMBER_LIMIT.false c.items.result.now c.items.ensures
          c.args.taker c.requires.taker c.next-first.result c.next-first.ensures.next c.next-first.ensures.first c.open_next.ensures.images
          c.args.clients c.requires.clients c.in-Ok.buffers.pins.items c.in-Ok.buffers.older.items c.args.found.now.named c.open_next.ensures.frame.time.later c.open_next.ensures.frame.told c.in_default-open_next.ensures.durable (λ told. (c.in_default-open_next.ensures.made told).made)
          c.open_next.ensures.others c.open_next.ensures.pending c.in_default-open_next.ensures.read c.of-opened.result.value buffers.segments.items buffers.noted.items opened (c.in-Ok.ensures.0, c.in-Ok.ensures.1);
      count = c.count-count_at_opening.ensures ∙ ap d.faults (sym opened);
      later = omega (arith, ap d.faults opened, c.in_default-open_next.ensures.cause);
      broken = λ failed. absurd (none_failed failed);
    }

pub returns-clause-crash : goal.returns-clause-crash
returns-clause-crash g c = (
  opening_found g.D.Disk g.met.D.Disk.as_read g.met.D.Disk.counts_now g.met.D.Disk.stays_absent c.one_log.ensures.log
      c.args.disk c.open_next.new.disk c.args.found.now c.requires.found c.requires.pending c.requires.greatest c.if-number-eq-NUMBER_LIMIT.false c.items.result.now c.items.ensures
      c.args.taker c.requires.taker c.next-first.result c.next-first.ensures.next c.next-first.ensures.first c.open_next.ensures.images,
  tt,
)

pub returns-clause-durable : goal.returns-clause-durable
returns-clause-durable g c = record {
  reads = λ told.
      let next : c.next-first.result ≡ c.args.found.now.next = omega (arith, c.next-first.ensures.next, c.requires.taker.1, ap length c.requires.taker.0) in
      subst (λ (n : ℕ). OpensNext c.args.found.now.half (c.args.found.now.greatest + 1) n (g.D.Disk.reads c.args.disk) (g.D.Disk.reads c.open_next.new.disk)) next
      (subst (λ (half : List ℕ). OpensNext half (c.args.found.now.greatest + 1) c.next-first.result (g.D.Disk.reads c.args.disk) (g.D.Disk.reads c.open_next.new.disk)) c.items.ensures (c.in_default-open_next.ensures.made told));
  found = found_read g.D.Disk g.met.D.Disk.as_read g.met.D.Disk.counts_now g.met.D.Disk.stays_absent c.one_log.ensures.log
      c.args.disk c.open_next.new.disk c.args.found.now c.requires.found c.requires.pending c.requires.greatest c.if-number-eq-NUMBER_LIMIT.false c.items.result.now c.items.ensures
      c.args.taker c.requires.taker c.next-first.result c.next-first.ensures.next c.next-first.ensures.first c.open_next.ensures.images
      c.args.clients c.requires.clients [] [] 0 c.open_next.ensures.frame.time.later c.open_next.ensures.frame.told c.in_default-open_next.ensures.durable (λ told. (c.in_default-open_next.ensures.made told).made)
      c.open_next.ensures.others c.open_next.ensures.pending c.in_default-open_next.ensures.read
      c.in-Ok.buffers.segments.items c.in-Ok.ensures.0;
  newest = λ told. c.in_default-open_next.ensures.durable;
  alike = alike_still g.D.Disk g.met.D.Disk.as_read g.met.D.Disk.counts_now g.met.D.Disk.stays_absent c.one_log.ensures.log
      c.args.disk c.open_next.new.disk c.args.found.now c.requires.found c.requires.pending c.requires.greatest c.if-number-eq-NUMBER_LIMIT.false c.items.result.now c.items.ensures
      c.args.taker c.requires.taker c.next-first.result c.next-first.ensures.next c.next-first.ensures.first c.open_next.ensures.images
      c.args.clients c.requires.clients [] [] 0 c.open_next.ensures.frame.time.later c.open_next.ensures.frame.told c.in_default-open_next.ensures.durable (λ told. (c.in_default-open_next.ensures.made told).made)
      c.open_next.ensures.others c.open_next.ensures.pending c.in_default-open_next.ensures.read;
  pending = none_pends g.D.Disk g.met.D.Disk.as_read g.met.D.Disk.counts_now g.met.D.Disk.stays_absent c.one_log.ensures.log
      c.args.disk c.open_next.new.disk c.args.found.now c.requires.found c.requires.pending c.requires.greatest c.if-number-eq-NUMBER_LIMIT.false c.items.result.now c.items.ensures
      c.args.taker c.requires.taker c.next-first.result c.next-first.ensures.next c.next-first.ensures.first c.open_next.ensures.images
      c.args.clients c.requires.clients [] [] 0 c.open_next.ensures.frame.time.later c.open_next.ensures.frame.told c.in_default-open_next.ensures.durable (λ told. (c.in_default-open_next.ensures.made told).made)
      c.open_next.ensures.others c.open_next.ensures.pending c.in_default-open_next.ensures.read;
  whole = durable_none g.D.Disk g.met.D.Disk.as_read g.met.D.Disk.counts_now g.met.D.Disk.stays_absent c.one_log.ensures.log
      c.args.disk c.open_next.new.disk c.args.found.now c.requires.found c.requires.pending c.requires.greatest c.if-number-eq-NUMBER_LIMIT.false c.items.result.now c.items.ensures
      c.args.taker c.requires.taker c.next-first.result c.next-first.ensures.next c.next-first.ensures.first c.open_next.ensures.images
      c.args.clients c.requires.clients [] [] 0 c.open_next.ensures.frame.time.later c.open_next.ensures.frame.told c.in_default-open_next.ensures.durable (λ told. (c.in_default-open_next.ensures.made told).made)
      c.open_next.ensures.others c.open_next.ensures.pending c.in_default-open_next.ensures.read;
}

pub returns-in-Err-clause-others : goal.returns-in-Err-clause-others
returns-in-Err-clause-others g c told = (
  tt,
  subst (λ (half : List ℕ). MissesSomeBeside (c.args.found.now.greatest + 1) half (g.D.Disk.reads c.args.disk) (g.D.Disk.reads c.open_next.new.disk)) c.items.ensures
      (c.open_next.ensures.beside told),
)

pub returns-clause-others : goal.returns-clause-others
returns-clause-others g c told = (
  subst (λ (half : List ℕ). MissesSomeBeside (c.args.found.now.greatest + 1) half (g.D.Disk.reads c.args.disk) (g.D.Disk.reads c.open_next.new.disk)) c.items.ensures
      (c.open_next.ensures.beside told),
  tt,
)

pub returns-then-number-eq-NUMBER_LIMIT-clause-others : goal.returns-then-number-eq-NUMBER_LIMIT-clause-others
returns-then-number-eq-NUMBER_LIMIT-clause-others g c told = (tt, λ q other. inl refl)

pub returns-in_default-clause-others : goal.returns-in_default-clause-others
returns-in_default-clause-others g c told = (tt, λ q other. inl refl)
