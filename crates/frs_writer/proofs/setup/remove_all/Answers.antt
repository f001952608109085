use Rattle.std.proofs.Common.{◌∙◌, inl, inr, ⊎_elim, ℕ, IsTrue, Contains, refl, sym, subst, arith}
use Rattle.std.specs.Prelude.{slice_index}
use Rattle.std.proofs.lemmas.List.Elements.{Contains-get_or}
use Rattle.frs_disk.proofs.Frames.{goes_on_none, goes_on_join}
use Rattle.frs_writer.proofs.MissesSome.{thin_none, thin_more, still_there, gone_more, all_gone, thin_start, thin_step}
use Rattle.frs_writer.proofs.setup.remove_all.Goals as goal

pub loop-number-init : goal.loop-number-init
loop-number-init g c =
    let d = g.D.Disk in
    record {
      left = λ told k le lt. c.requires.there told k 0 lt;
      gone = λ told k lt. absurd (omega (arith, lt));
      removed = λ told. thin_none c.args.numbers.now (d.reads c.args.disk.now);
      images = thin_start d c.args.numbers.now c.args.disk.now (g.met.D.Disk.only_now c.args.disk.now);
      pending = λ n is. inl is;
      frame = goes_on_none d c.args.disk.now;
      faults = refl;
    }

pub returns-in_err-remove-clause-images : goal.returns-in_err-remove-clause-images
returns-in_err-remove-clause-images g c =
    let d = g.D.Disk in
    let numbers = c.args.numbers.now in
    let so_far = c.loop-number.invariant in
    thin_step d numbers (slice_index numbers c.loop-number.number-index) (Contains-get_or numbers c.loop-number.number-index 0 c.loop-number-test.true)
    c.args.disk.now c.loop-number.disk c.remove.new.self so_far.frame.time (λ x left. g.met.D.Disk.counts_now c.loop-number.disk _ x so_far.frame.time.later left)
    so_far.images c.remove.ensures.time c.remove.ensures.crash

pub loop-number-preserved : goal.loop-number-preserved
loop-number-preserved g c =
    let d = g.D.Disk in
    let numbers = c.args.numbers.now in
    let i : ℕ = c.loop-number.number-index in
    let so_far = c.loop-number.invariant in
    let has : Contains numbers (slice_index numbers i) = Contains-get_or numbers i 0 c.loop-number-test.true in
    record {
      left = λ told. still_there numbers (c.requires.rising told) i (d.reads c.loop-number.disk) (d.reads c.remove.new.self) (so_far.left told) (c.remove.ensures.seen (subst IsTrue (sym so_far.frame.told) told));
      gone = λ told. gone_more numbers (c.requires.rising told) i c.loop-number-test.true (d.reads c.loop-number.disk) (d.reads c.remove.new.self) (so_far.gone told) (c.remove.ensures.seen (subst IsTrue (sym so_far.frame.told) told)) (c.in_ok-remove.ensures.removed (subst IsTrue (sym so_far.frame.told) told));
      removed = λ told. thin_more numbers (slice_index numbers i) has (d.reads c.args.disk.now) (d.reads c.loop-number.disk) (d.reads c.remove.new.self) (so_far.removed told) (c.remove.ensures.seen (subst IsTrue (sym so_far.frame.told) told));
      images = thin_step d numbers (slice_index numbers i) has
          c.args.disk.now c.loop-number.disk c.remove.new.self so_far.frame.time (λ x left. g.met.D.Disk.counts_now c.loop-number.disk _ x so_far.frame.time.later left)
          so_far.images c.remove.ensures.time c.remove.ensures.crash;
      pending = λ n is. ⊎_elim (λ was. so_far.pending n was) (λ same. inr (subst (Contains numbers) (sym same) has)) (c.remove.ensures.pending n is);
      frame = goes_on_join d g.met.D.Disk.since_earlier c.args.disk.now c.loop-number.disk c.remove.new.self so_far.frame (record { told = c.remove.ensures.told; time = c.remove.ensures.time.passes });
      faults = c.in_ok-remove.ensures.cause ∙ so_far.faults;
    }

pub returns-clause-gone : goal.returns-clause-gone
returns-clause-gone g c told = all_gone c.args.numbers.now c.loop-number.number-index c.loop-number-test.false (g.D.Disk.reads c.loop-number.disk) (c.loop-number.invariant.gone told)
