use Rattle.std.proofs.Common.{◌≡◌, ℕ, ◌+◌, ◌<◌, ◌∷◌, ◌++◌, true, nat_le, nat_lt, ◌&&◌, List, [], length, Some, None, refl, sym, ◌∙◌, ap, subst, arith, IsTrue}
use Rattle.std.specs.FinMap.{get}
use Rattle.frs_types.specs.declared.limits.TheConstants.{NUMBER_LIMIT}
use Rattle.frs_disk.specs.Frames.{ChangesOneFile, IsSynced, Within}
use Rattle.frs_segment.specs.declared.format.TheConstants.{FILE_LIMIT}
use Rattle.frs_segment.specs.declared.layout.ChunkPlace.{ChunkPlace}
use Rattle.frs_segment.specs.declared.layout.Segment.{Segment}
use Rattle.frs_segment.specs.Front.{IsInTheMaking, empty_segment}
use Rattle.frs_segment.specs.Scanning.{places_of_segment}
use Rattle.frs_writer.specs.Inside.{view_of}
use Rattle.frs_writer.specs.Invariant.{IsKept}
use Rattle.frs_writer.specs.LogImages.{new_segment}
use Rattle.frs_writer.specs.Places.{number_of_newest, length_of_newest, chunks_of_newest}
use Rattle.frs_writer.specs.Writer.{WriterView}
use Rattle.frs_writer.specs.Writing.{is_due, segments_after_roll, number_to_write, IsRolled, LeavesLog, LeavesShown}
use Rattle.frs_writer.proofs.LeavesLog.{leaves_shown, unchanged_leaves, unchanged_shown}
use Rattle.frs_writer.proofs.IsRolled.{at_newest, number_at_newest, kept_cut, kept_rolled, rolled_images}
use Rattle.frs_writer.proofs.Places.{newest_length, newest_chunks, fresh}
use Rattle.frs_writer.proofs.WritesGroup.{after_roll, changes_none, number_due, broke, not_broken}
use Rattle.frs_writer.proofs.writer.Writer.roll.Goals as goal

-- ---- where nothing was changed

pub returns-then-not-is_due-clause-crash : goal.returns-then-not-is_due-clause-crash
returns-then-not-is_due-clause-crash g c =
    subst (λ (v : WriterView g.row.D.Denot). LeavesLog g.D.Disk v v) c.self.view_is (unchanged_leaves g.D.Disk g.met.D.Disk.only_now (view_of c.self.inside) c.self.invariant.kept_is)

pub returns-then-not-is_due-clause-shown : goal.returns-then-not-is_due-clause-shown
returns-then-not-is_due-clause-shown g c =
    subst (λ (v : WriterView g.row.D.Denot). LeavesShown g.D.Disk v v) c.self.view_is (unchanged_shown g.D.Disk g.met.D.Disk.only_now (view_of c.self.inside) c.self.invariant.kept_is)

pub returns-then-number-eq-NUMBER_LIMIT-clause-cause : goal.returns-then-number-eq-NUMBER_LIMIT-clause-cause
returns-then-number-eq-NUMBER_LIMIT-clause-cause g c =
    let d = g.D.Disk in
    let w : WriterView g.row.D.Denot = view_of c.self.inside in
    let fine : w.ended ≡ None = ap (λ (v : WriterView g.row.D.Denot). v.ended) c.self.view_is ∙ c.requires in
    let newest = at_newest d g.met.D.Disk.counts_now g.met.D.Disk.stays_absent w c.self.invariant.kept_is fine w.disk c.index.result.now c.len.result (c.len.ensures ∙ c.self.inside.segments.ok.0) c.index.ensures in (
      c.if-number-eq-NUMBER_LIMIT.true,
      ap (λ (v : WriterView g.row.D.Denot). number_of_newest v.segments + 1) (sym c.self.view_is)
          ∙ number_at_newest d g.met.D.Disk.counts_now g.met.D.Disk.stays_absent w c.self.invariant.kept_is fine w.disk c.index.result.now newest,
      sym c.is_due.ensures ∙ c.if-not-is_due.false,
      c.requires,
      refl,
    )

pub returns-then-number-eq-NUMBER_LIMIT-clause-crash : goal.returns-then-number-eq-NUMBER_LIMIT-clause-crash
returns-then-number-eq-NUMBER_LIMIT-clause-crash g c =
    subst (λ (v : WriterView g.row.D.Denot). LeavesLog g.D.Disk v v) c.self.view_is (unchanged_leaves g.D.Disk g.met.D.Disk.only_now (view_of c.self.inside) c.self.invariant.kept_is)

pub returns-then-number-eq-NUMBER_LIMIT-clause-shown : goal.returns-then-number-eq-NUMBER_LIMIT-clause-shown
returns-then-number-eq-NUMBER_LIMIT-clause-shown g c =
    subst (λ (v : WriterView g.row.D.Denot). LeavesShown g.D.Disk v v) c.self.view_is (unchanged_shown g.D.Disk g.met.D.Disk.only_now (view_of c.self.inside) c.self.invariant.kept_is)

pub returns-in_default-clause-crash : goal.returns-in_default-clause-crash
returns-in_default-clause-crash g c =
    subst (λ (v : WriterView g.row.D.Denot). LeavesLog g.D.Disk v v) c.self.view_is (unchanged_leaves g.D.Disk g.met.D.Disk.only_now (view_of c.self.inside) c.self.invariant.kept_is)

pub returns-in_default-clause-shown : goal.returns-in_default-clause-shown
returns-in_default-clause-shown g c =
    subst (λ (v : WriterView g.row.D.Denot). LeavesShown g.D.Disk v v) c.self.view_is (unchanged_shown g.D.Disk g.met.D.Disk.only_now (view_of c.self.inside) c.self.invariant.kept_is)

pub returns-then-is_err-clause-crash : goal.returns-then-is_err-clause-crash
returns-then-is_err-clause-crash g c =
    let w : WriterView g.row.D.Denot = view_of c.self.inside in
    subst (λ (v : WriterView g.row.D.Denot). LeavesLog g.D.Disk v (record w { segments = c.reserve.new.self.items })) c.self.view_is
    (subst (λ (l : List Segment). LeavesLog g.D.Disk w (record w { segments = l })) (sym c.reserve.ensures.items) (unchanged_leaves g.D.Disk g.met.D.Disk.only_now w c.self.invariant.kept_is))

pub returns-then-is_err-clause-shown : goal.returns-then-is_err-clause-shown
returns-then-is_err-clause-shown g c =
    let w : WriterView g.row.D.Denot = view_of c.self.inside in
    subst (λ (v : WriterView g.row.D.Denot). LeavesShown g.D.Disk v (record w { segments = c.reserve.new.self.items })) c.self.view_is
    (subst (λ (l : List Segment). LeavesShown g.D.Disk w (record w { segments = l })) (sym c.reserve.ensures.items) (unchanged_shown g.D.Disk g.met.D.Disk.only_now w c.self.invariant.kept_is))

-- ---- a number that is left

pub returns-in_default-clause-limit : goal.returns-in_default-clause-limit
returns-in_default-clause-limit g c due at =
    let d = g.D.Disk in
    let w : WriterView g.row.D.Denot = view_of c.self.inside in
    let kept = c.self.invariant.kept_is in
    let fine : w.ended ≡ None = ap (λ (v : WriterView g.row.D.Denot). v.ended) c.self.view_is ∙ c.requires in
    let newest = at_newest d g.met.D.Disk.counts_now g.met.D.Disk.stays_absent w kept fine w.disk c.index.result.now c.len.result (c.len.ensures ∙ c.self.inside.segments.ok.0) c.index.ensures in
    absurd (omega (
      arith,
      at,
      ap (λ (v : WriterView g.row.D.Denot). number_of_newest v.segments + 1) c.self.view_is,
      number_at_newest d g.met.D.Disk.counts_now g.met.D.Disk.stays_absent w kept fine w.disk c.index.result.now newest,
      c.if-number-eq-NUMBER_LIMIT.false,
    ))

pub returns-then-is_err-clause-limit : goal.returns-then-is_err-clause-limit
returns-then-is_err-clause-limit g c due at =
    let d = g.D.Disk in
    let w : WriterView g.row.D.Denot = view_of c.self.inside in
    let kept = c.self.invariant.kept_is in
    let fine : w.ended ≡ None = ap (λ (v : WriterView g.row.D.Denot). v.ended) c.self.view_is ∙ c.requires in
    let newest = at_newest d g.met.D.Disk.counts_now g.met.D.Disk.stays_absent w kept fine w.disk c.index.result.now c.len.result (c.len.ensures ∙ c.self.inside.segments.ok.0) c.index.ensures in
    absurd (omega (
      arith,
      at,
      ap (λ (v : WriterView g.row.D.Denot). number_of_newest v.segments + 1) c.self.view_is,
      number_at_newest d g.met.D.Disk.counts_now g.met.D.Disk.stays_absent w kept fine w.disk c.index.result.now newest,
      c.if-number-eq-NUMBER_LIMIT.false,
    ))

pub returns-in-Err-clause-limit : goal.returns-in-Err-clause-limit
returns-in-Err-clause-limit g c due at =
    let d = g.D.Disk in
    let w : WriterView g.row.D.Denot = view_of c.self.inside in
    let kept = c.self.invariant.kept_is in
    let fine : w.ended ≡ None = ap (λ (v : WriterView g.row.D.Denot). v.ended) c.self.view_is ∙ c.requires in
    let newest = at_newest d g.met.D.Disk.counts_now g.met.D.Disk.stays_absent w kept fine w.disk c.index.result.now c.len.result (c.len.ensures ∙ c.self.inside.segments.ok.0) c.index.ensures in
    absurd (omega (
      arith,
      at,
      ap (λ (v : WriterView g.row.D.Denot). number_of_newest v.segments + 1) c.self.view_is,
      number_at_newest d g.met.D.Disk.counts_now g.met.D.Disk.stays_absent w kept fine w.disk c.index.result.now newest,
      c.if-number-eq-NUMBER_LIMIT.false,
    ))

pub returns-clause-limit : goal.returns-clause-limit
returns-clause-limit g c due at =
    let d = g.D.Disk in
    let w : WriterView g.row.D.Denot = view_of c.self.inside in
    let kept = c.self.invariant.kept_is in
    let fine : w.ended ≡ None = ap (λ (v : WriterView g.row.D.Denot). v.ended) c.self.view_is ∙ c.requires in
    let newest = at_newest d g.met.D.Disk.counts_now g.met.D.Disk.stays_absent w kept fine w.disk c.index.result.now c.len.result (c.len.ensures ∙ c.self.inside.segments.ok.0) c.index.ensures in
    absurd (omega (
      arith,
      at,
      ap (λ (v : WriterView g.row.D.Denot). number_of_newest v.segments + 1) c.self.view_is,
      number_at_newest d g.met.D.Disk.counts_now g.met.D.Disk.stays_absent w kept fine w.disk c.index.result.now newest,
      c.if-number-eq-NUMBER_LIMIT.false,
    ))

-- ---- where the segment's making was cut short

pub invariant_of-self-in-Err : goal.invariant_of-self-in-Err
invariant_of-self-in-Err g c =
    let d = g.D.Disk in
    let w : WriterView g.row.D.Denot = view_of c.self.inside in
    let kept = c.self.invariant.kept_is in
    let fine : w.ended ≡ None = ap (λ (v : WriterView g.row.D.Denot). v.ended) c.self.view_is ∙ c.requires in
    let newest = at_newest d g.met.D.Disk.counts_now g.met.D.Disk.stays_absent w kept fine w.disk c.index.result.now c.len.result (c.len.ensures ∙ c.self.inside.segments.ok.0) c.index.ensures in
    let due : is_due w ≡ true = ap is_due c.self.view_is ∙ sym c.is_due.ensures ∙ c.if-not-is_due.false in
    let mid = c.open_segment.new.disk in
    let number : c.index.result.now.number + 1 ≡ kept.counted.newest.number + 1 = ap (λ (s : Segment). s.number + 1) newest in
    let frame : ChangesOneFile d (kept.counted.newest.number + 1) w.disk mid = subst (λ (n : ℕ). ChangesOneFile d n w.disk mid) number c.open_segment.ensures.frame in
    let high : kept.counted.newest.number + 1 < NUMBER_LIMIT = omega (arith, kept.counted.number.1, number, c.if-number-eq-NUMBER_LIMIT.false) in
    let making : IsTrue (d.tells w.disk) → Within d w.disk mid (λ x. IsInTheMaking (kept.counted.newest.number + 1) (w.synced + 1) (get x (kept.counted.newest.number + 1))) =
    λ told. subst (λ (n : ℕ). Within d w.disk mid (λ x. IsInTheMaking n (w.synced + 1) (get x n))) number (c.open_segment.ensures.images told) in
    let broken = broke (Unit {0}) (d.faults c.self.inside.opened.value) (d.faults w.disk) (d.faults mid) c.in-Err.fault c.self.invariant.later c.in-Err.ensures.cause in
    record {
      kept_is = subst (λ (l : List Segment). IsKept d (record w { disk = mid; segments = l; ended = Some c.in-Err.fault })) (sym c.reserve.ensures.items) (kept_cut d g.met.D.Disk.counts_now g.met.D.Disk.stays_absent w kept fine mid frame high due making c.in-Err.fault);
      count = c.self.invariant.count;
      later = broken.0;
      broken = broken.1;
    }

pub returns-in-Err-clause-shown : goal.returns-in-Err-clause-shown
returns-in-Err-clause-shown g c =
    let d = g.D.Disk in
    let w : WriterView g.row.D.Denot = view_of c.self.inside in
    let kept = c.self.invariant.kept_is in
    let fine : w.ended ≡ None = ap (λ (v : WriterView g.row.D.Denot). v.ended) c.self.view_is ∙ c.requires in
    let newest = at_newest d g.met.D.Disk.counts_now g.met.D.Disk.stays_absent w kept fine w.disk c.index.result.now c.len.result (c.len.ensures ∙ c.self.inside.segments.ok.0) c.index.ensures in
    let due : is_due w ≡ true = ap is_due c.self.view_is ∙ sym c.is_due.ensures ∙ c.if-not-is_due.false in
    let mid = c.open_segment.new.disk in
    let number : c.index.result.now.number + 1 ≡ kept.counted.newest.number + 1 = ap (λ (s : Segment). s.number + 1) newest in
    let frame : ChangesOneFile d (kept.counted.newest.number + 1) w.disk mid = subst (λ (n : ℕ). ChangesOneFile d n w.disk mid) number c.open_segment.ensures.frame in
    let high : kept.counted.newest.number + 1 < NUMBER_LIMIT = omega (arith, kept.counted.number.1, number, c.if-number-eq-NUMBER_LIMIT.false) in
    let making : IsTrue (d.tells w.disk) → Within d w.disk mid (λ x. IsInTheMaking (kept.counted.newest.number + 1) (w.synced + 1) (get x (kept.counted.newest.number + 1))) =
    λ told. subst (λ (n : ℕ). Within d w.disk mid (λ x. IsInTheMaking n (w.synced + 1) (get x n))) number (c.open_segment.ensures.images told) in
    let after : WriterView g.row.D.Denot = record w { disk = mid; segments = c.reserve.new.self.items; ended = Some c.in-Err.fault } in
    let shown : LeavesShown d w after = λ told well log l placed.
    rolled_images d g.met.D.Disk.counts_now g.met.D.Disk.stays_absent w kept fine mid frame high due making told well log (record { base = l.base; spelled = l.spelled; taken = l.taken; bytes = l.bytes; is = l.is }) placed in
    subst (λ (v : WriterView g.row.D.Denot). LeavesShown d v after) c.self.view_is shown

pub returns-in-Err-clause-crash : goal.returns-in-Err-clause-crash
returns-in-Err-clause-crash g c =
    let d = g.D.Disk in
    let w : WriterView g.row.D.Denot = view_of c.self.inside in
    let kept = c.self.invariant.kept_is in
    let fine : w.ended ≡ None = ap (λ (v : WriterView g.row.D.Denot). v.ended) c.self.view_is ∙ c.requires in
    let newest = at_newest d g.met.D.Disk.counts_now g.met.D.Disk.stays_absent w kept fine w.disk c.index.result.now c.len.result (c.len.ensures ∙ c.self.inside.segments.ok.0) c.index.ensures in
    let due : is_due w ≡ true = ap is_due c.self.view_is ∙ sym c.is_due.ensures ∙ c.if-not-is_due.false in
    let mid = c.open_segment.new.disk in
    let number : c.index.result.now.number + 1 ≡ kept.counted.newest.number + 1 = ap (λ (s : Segment). s.number + 1) newest in
    let frame : ChangesOneFile d (kept.counted.newest.number + 1) w.disk mid = subst (λ (n : ℕ). ChangesOneFile d n w.disk mid) number c.open_segment.ensures.frame in
    let high : kept.counted.newest.number + 1 < NUMBER_LIMIT = omega (arith, kept.counted.number.1, number, c.if-number-eq-NUMBER_LIMIT.false) in
    let making : IsTrue (d.tells w.disk) → Within d w.disk mid (λ x. IsInTheMaking (kept.counted.newest.number + 1) (w.synced + 1) (get x (kept.counted.newest.number + 1))) =
    λ told. subst (λ (n : ℕ). Within d w.disk mid (λ x. IsInTheMaking n (w.synced + 1) (get x n))) number (c.open_segment.ensures.images told) in
    let after : WriterView g.row.D.Denot = record w { disk = mid; segments = c.reserve.new.self.items; ended = Some c.in-Err.fault } in
    let shown : LeavesShown d w after = λ told well log l placed.
    rolled_images d g.met.D.Disk.counts_now g.met.D.Disk.stays_absent w kept fine mid frame high due making told well log (record { base = l.base; spelled = l.spelled; taken = l.taken; bytes = l.bytes; is = l.is }) placed in
    subst (λ (v : WriterView g.row.D.Denot). LeavesLog d v after) c.self.view_is
    (leaves_shown d w after (invariant_of-self-in-Err g c).kept_is (λ told. subst IsTrue (sym frame.told) told) kept.counted.first shown)

-- ---- where the segment was made

pub invariant_of-self-2 : goal.invariant_of-self-2
invariant_of-self-2 g c =
    let d = g.D.Disk in
    let w : WriterView g.row.D.Denot = view_of c.self.inside in
    let kept = c.self.invariant.kept_is in
    let fine : w.ended ≡ None = ap (λ (v : WriterView g.row.D.Denot). v.ended) c.self.view_is ∙ c.requires in
    let newest = at_newest d g.met.D.Disk.counts_now g.met.D.Disk.stays_absent w kept fine w.disk c.index.result.now c.len.result (c.len.ensures ∙ c.self.inside.segments.ok.0) c.index.ensures in
    let due : is_due w ≡ true = ap is_due c.self.view_is ∙ sym c.is_due.ensures ∙ c.if-not-is_due.false in
    let mid = c.open_segment.new.disk in
    let number : c.index.result.now.number + 1 ≡ kept.counted.newest.number + 1 = ap (λ (s : Segment). s.number + 1) newest in
    let frame : ChangesOneFile d (kept.counted.newest.number + 1) w.disk mid = subst (λ (n : ℕ). ChangesOneFile d n w.disk mid) number c.open_segment.ensures.frame in
    let high : kept.counted.newest.number + 1 < NUMBER_LIMIT = omega (arith, kept.counted.number.1, number, c.if-number-eq-NUMBER_LIMIT.false) in
    let making : IsTrue (d.tells w.disk) → Within d w.disk mid (λ x. IsInTheMaking (kept.counted.newest.number + 1) (w.synced + 1) (get x (kept.counted.newest.number + 1))) =
    λ told. subst (λ (n : ℕ). Within d w.disk mid (λ x. IsInTheMaking n (w.synced + 1) (get x n))) number (c.open_segment.ensures.images told) in
    let next : Segment = places_of_segment (new_segment (kept.counted.newest.number + 1) (w.synced + 1)) in
    let items : c.push_reserved.new.self.items ≡ w.segments ++ next ∷ [] =
    c.push_reserved.ensures.items
    ∙ ap (λ (l : List Segment). l ++ record { number = c.index.result.now.number + 1; first = w.synced + 1; «end» = w.synced + 1; length = 23; chunks = c.of.result } ∷ []) c.reserve.ensures.items
    ∙ ap (λ (l : List ChunkPlace). w.segments ++ record { number = c.index.result.now.number + 1; first = w.synced + 1; «end» = w.synced + 1; length = 23; chunks = l } ∷ []) (c.of.ensures ∙ c.new.ensures.items)
    ∙ ap (λ (x : Segment). w.segments ++ x ∷ []) (fresh (c.index.result.now.number + 1) (w.synced + 1))
    ∙ ap (λ (n : ℕ). w.segments ++ places_of_segment (new_segment n (w.synced + 1)) ∷ []) number in
    let made = c.in_default-open_segment.ensures in
    record {
      kept_is = subst (λ (e : _). IsKept d (record w { disk = mid; segments = c.push_reserved.new.self.items; ended = e })) (sym fine)
          (subst (λ (l : List Segment). IsKept d (record w { disk = mid; segments = l; ended = None })) (sym items)
          (kept_rolled d g.met.D.Disk.counts_now g.met.D.Disk.stays_absent w kept fine mid frame high due making (subst (λ (n : ℕ). IsSynced d mid n) number made.durable)
          (λ told. subst (λ (n : ℕ). get (d.reads mid) n ≡ Some (empty_segment n (w.synced + 1))) number (made.made told))));
      count = c.self.invariant.count;
      later = omega (arith, c.self.invariant.later, c.in_default-open_segment.ensures.cause);
      broken = λ failed. absurd (not_broken fine failed);
    }

pub returns-clause-shown : goal.returns-clause-shown
returns-clause-shown g c =
    let d = g.D.Disk in
    let w : WriterView g.row.D.Denot = view_of c.self.inside in
    let kept = c.self.invariant.kept_is in
    let fine : w.ended ≡ None = ap (λ (v : WriterView g.row.D.Denot). v.ended) c.self.view_is ∙ c.requires in
    let newest = at_newest d g.met.D.Disk.counts_now g.met.D.Disk.stays_absent w kept fine w.disk c.index.result.now c.len.result (c.len.ensures ∙ c.self.inside.segments.ok.0) c.index.ensures in
    let due : is_due w ≡ true = ap is_due c.self.view_is ∙ sym c.is_due.ensures ∙ c.if-not-is_due.false in
    let mid = c.open_segment.new.disk in
    let number : c.index.result.now.number + 1 ≡ kept.counted.newest.number + 1 = ap (λ (s : Segment). s.number + 1) newest in
    let frame : ChangesOneFile d (kept.counted.newest.number + 1) w.disk mid = subst (λ (n : ℕ). ChangesOneFile d n w.disk mid) number c.open_segment.ensures.frame in
    let high : kept.counted.newest.number + 1 < NUMBER_LIMIT = omega (arith, kept.counted.number.1, number, c.if-number-eq-NUMBER_LIMIT.false) in
    let making : IsTrue (d.tells w.disk) → Within d w.disk mid (λ x. IsInTheMaking (kept.counted.newest.number + 1) (w.synced + 1) (get x (kept.counted.newest.number + 1))) =
    λ told. subst (λ (n : ℕ). Within d w.disk mid (λ x. IsInTheMaking n (w.synced + 1) (get x n))) number (c.open_segment.ensures.images told) in
    let after : WriterView g.row.D.Denot = record w { disk = mid; segments = c.push_reserved.new.self.items } in
    let shown : LeavesShown d w after = λ told well log l placed.
    rolled_images d g.met.D.Disk.counts_now g.met.D.Disk.stays_absent w kept fine mid frame high due making told well log (record { base = l.base; spelled = l.spelled; taken = l.taken; bytes = l.bytes; is = l.is }) placed in
    subst (λ (v : WriterView g.row.D.Denot). LeavesShown d v after) c.self.view_is shown

pub returns-clause-crash : goal.returns-clause-crash
returns-clause-crash g c =
    let d = g.D.Disk in
    let w : WriterView g.row.D.Denot = view_of c.self.inside in
    let kept = c.self.invariant.kept_is in
    let fine : w.ended ≡ None = ap (λ (v : WriterView g.row.D.Denot). v.ended) c.self.view_is ∙ c.requires in
    let newest = at_newest d g.met.D.Disk.counts_now g.met.D.Disk.stays_absent w kept fine w.disk c.index.result.now c.len.result (c.len.ensures ∙ c.self.inside.segments.ok.0) c.index.ensures in
    let due : is_due w ≡ true = ap is_due c.self.view_is ∙ sym c.is_due.ensures ∙ c.if-not-is_due.false in
    let mid = c.open_segment.new.disk in
    let number : c.index.result.now.number + 1 ≡ kept.counted.newest.number + 1 = ap (λ (s : Segment). s.number + 1) newest in
    let frame : ChangesOneFile d (kept.counted.newest.number + 1) w.disk mid = subst (λ (n : ℕ). ChangesOneFile d n w.disk mid) number c.open_segment.ensures.frame in
    let high : kept.counted.newest.number + 1 < NUMBER_LIMIT = omega (arith, kept.counted.number.1, number, c.if-number-eq-NUMBER_LIMIT.false) in
    let making : IsTrue (d.tells w.disk) → Within d w.disk mid (λ x. IsInTheMaking (kept.counted.newest.number + 1) (w.synced + 1) (get x (kept.counted.newest.number + 1))) =
    λ told. subst (λ (n : ℕ). Within d w.disk mid (λ x. IsInTheMaking n (w.synced + 1) (get x n))) number (c.open_segment.ensures.images told) in
    let after : WriterView g.row.D.Denot = record w { disk = mid; segments = c.push_reserved.new.self.items } in
    let shown : LeavesShown d w after = λ told well log l placed.
    rolled_images d g.met.D.Disk.counts_now g.met.D.Disk.stays_absent w kept fine mid frame high due making told well log (record { base = l.base; spelled = l.spelled; taken = l.taken; bytes = l.bytes; is = l.is }) placed in
    subst (λ (v : WriterView g.row.D.Denot). LeavesLog d v after) c.self.view_is
    (leaves_shown d w after (invariant_of-self-2 g c).kept_is (λ told. subst IsTrue (sym frame.told) told) kept.counted.first shown)

pub returns-clause-rolled : goal.returns-clause-rolled
returns-clause-rolled g c =
    let d = g.D.Disk in
    let w : WriterView g.row.D.Denot = view_of c.self.inside in
    let kept = c.self.invariant.kept_is in
    let fine : w.ended ≡ None = ap (λ (v : WriterView g.row.D.Denot). v.ended) c.self.view_is ∙ c.requires in
    let newest = at_newest d g.met.D.Disk.counts_now g.met.D.Disk.stays_absent w kept fine w.disk c.index.result.now c.len.result (c.len.ensures ∙ c.self.inside.segments.ok.0) c.index.ensures in
    let due : is_due w ≡ true = ap is_due c.self.view_is ∙ sym c.is_due.ensures ∙ c.if-not-is_due.false in
    let mid = c.open_segment.new.disk in
    let number : c.index.result.now.number + 1 ≡ kept.counted.newest.number + 1 = ap (λ (s : Segment). s.number + 1) newest in
    let frame : ChangesOneFile d (kept.counted.newest.number + 1) w.disk mid = subst (λ (n : ℕ). ChangesOneFile d n w.disk mid) number c.open_segment.ensures.frame in
    let high : kept.counted.newest.number + 1 < NUMBER_LIMIT = omega (arith, kept.counted.number.1, number, c.if-number-eq-NUMBER_LIMIT.false) in
    let making : IsTrue (d.tells w.disk) → Within d w.disk mid (λ x. IsInTheMaking (kept.counted.newest.number + 1) (w.synced + 1) (get x (kept.counted.newest.number + 1))) =
    λ told. subst (λ (n : ℕ). Within d w.disk mid (λ x. IsInTheMaking n (w.synced + 1) (get x n))) number (c.open_segment.ensures.images told) in
    let next : Segment = places_of_segment (new_segment (kept.counted.newest.number + 1) (w.synced + 1)) in
    let items : c.push_reserved.new.self.items ≡ w.segments ++ next ∷ [] =
    c.push_reserved.ensures.items
    ∙ ap (λ (l : List Segment). l ++ record { number = c.index.result.now.number + 1; first = w.synced + 1; «end» = w.synced + 1; length = 23; chunks = c.of.result } ∷ []) c.reserve.ensures.items
    ∙ ap (λ (l : List ChunkPlace). w.segments ++ record { number = c.index.result.now.number + 1; first = w.synced + 1; «end» = w.synced + 1; length = 23; chunks = l } ∷ []) (c.of.ensures ∙ c.new.ensures.items)
    ∙ ap (λ (x : Segment). w.segments ++ x ∷ []) (fresh (c.index.result.now.number + 1) (w.synced + 1))
    ∙ ap (λ (n : ℕ). w.segments ++ places_of_segment (new_segment n (w.synced + 1)) ∷ []) number in
    let numbers = number_at_newest d g.met.D.Disk.counts_now g.met.D.Disk.stays_absent w kept fine w.disk c.index.result.now newest in
    let rolls : c.push_reserved.new.self.items ≡ segments_after_roll w = items ∙ after_roll w (kept.counted.newest.number + 1) due (numbers ∙ number) in
    let after : WriterView g.row.D.Denot = record w { disk = mid; segments = c.push_reserved.new.self.items } in
    subst (λ (v : WriterView g.row.D.Denot). IsRolled v after) c.self.view_is (record {
      view = ap (λ (l : List Segment). record w { disk = mid; segments = l }) rolls;
      here = ap (λ (l : List Segment). nat_le FILE_LIMIT (length_of_newest l) && nat_lt (w.synced + 1) NUMBER_LIMIT) items
          ∙ ap (λ (n : ℕ). nat_le FILE_LIMIT n && nat_lt (w.synced + 1) NUMBER_LIMIT) (newest_length w.segments next);
    })

pub returns-clause-room : goal.returns-clause-room
returns-clause-room g c =
    let d = g.D.Disk in
    let w : WriterView g.row.D.Denot = view_of c.self.inside in
    let kept = c.self.invariant.kept_is in
    let fine : w.ended ≡ None = ap (λ (v : WriterView g.row.D.Denot). v.ended) c.self.view_is ∙ c.requires in
    let newest = at_newest d g.met.D.Disk.counts_now g.met.D.Disk.stays_absent w kept fine w.disk c.index.result.now c.len.result (c.len.ensures ∙ c.self.inside.segments.ok.0) c.index.ensures in
    let due : is_due w ≡ true = ap is_due c.self.view_is ∙ sym c.is_due.ensures ∙ c.if-not-is_due.false in
    let mid = c.open_segment.new.disk in
    let number : c.index.result.now.number + 1 ≡ kept.counted.newest.number + 1 = ap (λ (s : Segment). s.number + 1) newest in
    let frame : ChangesOneFile d (kept.counted.newest.number + 1) w.disk mid = subst (λ (n : ℕ). ChangesOneFile d n w.disk mid) number c.open_segment.ensures.frame in
    let high : kept.counted.newest.number + 1 < NUMBER_LIMIT = omega (arith, kept.counted.number.1, number, c.if-number-eq-NUMBER_LIMIT.false) in
    let making : IsTrue (d.tells w.disk) → Within d w.disk mid (λ x. IsInTheMaking (kept.counted.newest.number + 1) (w.synced + 1) (get x (kept.counted.newest.number + 1))) =
    λ told. subst (λ (n : ℕ). Within d w.disk mid (λ x. IsInTheMaking n (w.synced + 1) (get x n))) number (c.open_segment.ensures.images told) in
    let next : Segment = places_of_segment (new_segment (kept.counted.newest.number + 1) (w.synced + 1)) in
    let items : c.push_reserved.new.self.items ≡ w.segments ++ next ∷ [] =
    c.push_reserved.ensures.items
    ∙ ap (λ (l : List Segment). l ++ record { number = c.index.result.now.number + 1; first = w.synced + 1; «end» = w.synced + 1; length = 23; chunks = c.of.result } ∷ []) c.reserve.ensures.items
    ∙ ap (λ (l : List ChunkPlace). w.segments ++ record { number = c.index.result.now.number + 1; first = w.synced + 1; «end» = w.synced + 1; length = 23; chunks = l } ∷ []) (c.of.ensures ∙ c.new.ensures.items)
    ∙ ap (λ (x : Segment). w.segments ++ x ∷ []) (fresh (c.index.result.now.number + 1) (w.synced + 1))
    ∙ ap (λ (n : ℕ). w.segments ++ places_of_segment (new_segment n (w.synced + 1)) ∷ []) number in
    (c.in-Ok.ensures.items, omega (arith, c.in-Ok.ensures.capacity, c.in-Ok.room.ok, ap length c.in-Ok.ensures.items), ap chunks_of_newest items ∙ newest_chunks w.segments next)

-- ---- the file that is written

pub returns-clause-one_file : goal.returns-clause-one_file
returns-clause-one_file g c =
    let d = g.D.Disk in
    let w : WriterView g.row.D.Denot = view_of c.self.inside in
    let kept = c.self.invariant.kept_is in
    let fine : w.ended ≡ None = ap (λ (v : WriterView g.row.D.Denot). v.ended) c.self.view_is ∙ c.requires in
    let newest = at_newest d g.met.D.Disk.counts_now g.met.D.Disk.stays_absent w kept fine w.disk c.index.result.now c.len.result (c.len.ensures ∙ c.self.inside.segments.ok.0) c.index.ensures in
    let due : is_due w ≡ true = ap is_due c.self.view_is ∙ sym c.is_due.ensures ∙ c.if-not-is_due.false in
    let mid = c.open_segment.new.disk in
    let number : c.index.result.now.number + 1 ≡ kept.counted.newest.number + 1 = ap (λ (s : Segment). s.number + 1) newest in
    let numbers = number_at_newest d g.met.D.Disk.counts_now g.met.D.Disk.stays_absent w kept fine w.disk c.index.result.now newest in
    let written : number_to_write w ≡ c.index.result.now.number + 1 = number_due w (c.index.result.now.number + 1) due numbers in
    subst (λ (v : WriterView g.row.D.Denot). ChangesOneFile d (number_to_write v) v.disk mid) c.self.view_is
    (subst (λ (n : ℕ). ChangesOneFile d n w.disk mid) (sym written) c.open_segment.ensures.frame)

pub returns-in-Err-clause-one_file : goal.returns-in-Err-clause-one_file
returns-in-Err-clause-one_file g c =
    let d = g.D.Disk in
    let w : WriterView g.row.D.Denot = view_of c.self.inside in
    let kept = c.self.invariant.kept_is in
    let fine : w.ended ≡ None = ap (λ (v : WriterView g.row.D.Denot). v.ended) c.self.view_is ∙ c.requires in
    let newest = at_newest d g.met.D.Disk.counts_now g.met.D.Disk.stays_absent w kept fine w.disk c.index.result.now c.len.result (c.len.ensures ∙ c.self.inside.segments.ok.0) c.index.ensures in
    let due : is_due w ≡ true = ap is_due c.self.view_is ∙ sym c.is_due.ensures ∙ c.if-not-is_due.false in
    let mid = c.open_segment.new.disk in
    let number : c.index.result.now.number + 1 ≡ kept.counted.newest.number + 1 = ap (λ (s : Segment). s.number + 1) newest in
    let numbers = number_at_newest d g.met.D.Disk.counts_now g.met.D.Disk.stays_absent w kept fine w.disk c.index.result.now newest in
    let written : number_to_write w ≡ c.index.result.now.number + 1 = number_due w (c.index.result.now.number + 1) due numbers in
    subst (λ (v : WriterView g.row.D.Denot). ChangesOneFile d (number_to_write v) v.disk mid) c.self.view_is
    (subst (λ (n : ℕ). ChangesOneFile d n w.disk mid) (sym written) c.open_segment.ensures.frame)

pub returns-then-not-is_due-clause-one_file : goal.returns-then-not-is_due-clause-one_file
returns-then-not-is_due-clause-one_file g c = changes_none g.D.Disk g.met.D.Disk.only_now (number_to_write c.args.self.now) c.args.self.now.disk

pub returns-then-number-eq-NUMBER_LIMIT-clause-one_file : goal.returns-then-number-eq-NUMBER_LIMIT-clause-one_file
returns-then-number-eq-NUMBER_LIMIT-clause-one_file g c = changes_none g.D.Disk g.met.D.Disk.only_now (number_to_write c.args.self.now) c.args.self.now.disk

pub returns-in_default-clause-one_file : goal.returns-in_default-clause-one_file
returns-in_default-clause-one_file g c = changes_none g.D.Disk g.met.D.Disk.only_now (number_to_write c.args.self.now) c.args.self.now.disk

pub returns-then-is_err-clause-one_file : goal.returns-then-is_err-clause-one_file
returns-then-is_err-clause-one_file g c =
    let w : WriterView g.row.D.Denot = view_of c.self.inside in
    subst (λ (v : WriterView g.row.D.Denot). ChangesOneFile g.D.Disk (number_to_write c.args.self.now) v.disk w.disk) c.self.view_is
    (changes_none g.D.Disk g.met.D.Disk.only_now (number_to_write c.args.self.now) w.disk)
