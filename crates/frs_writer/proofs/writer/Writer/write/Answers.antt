use Rattle.std.proofs.Common.{◌≡◌, ℕ, ◌+◌, ◌-◌, false, List, [], ◌∷◌, ◌++◌, set, Option, Some, None, refl, sym, ◌∙◌, ap, subst, arith, IsTrue}
use Rattle.std.specs.Prelude.{IfSome}
use Rattle.std.proofs.lemmas.List.{set-get_or}
use Rattle.frs_disk.specs.Frames.{ChangesOneFile}
use Rattle.frs_segment.specs.declared.layout.Segment.{Segment}
use Rattle.frs_writer.specs.Groups.{lowest_of_last, PutsGroup}
use Rattle.frs_writer.specs.Inside.{view_of}
use Rattle.frs_writer.specs.Invariant.{IsKept}
use Rattle.frs_writer.specs.Places.{chunks_of_newest, number_of_newest}
use Rattle.frs_writer.specs.Writer.{WriterView}
use Rattle.frs_writer.specs.Writing.{is_due, TakesMore, LeavesLog, LeavesShown, IsDurable, StopsWrite}
use Rattle.frs_writer.proofs.LeavesLog.{leaves_shown, durable_written, unchanged_leaves}
use Rattle.frs_writer.proofs.GathersGroup.{lowest_named}
use Rattle.frs_writer.proofs.IsRolled.{at_newest}
use Rattle.frs_writer.proofs.Places.{taken_out, put_back, newest_chunks, newest_number}
use Rattle.frs_writer.proofs.WriteGroup.{gathered_takes}
use Rattle.frs_writer.proofs.WritesGroup.{IsPut, changes_none, put_changes, at_refusal, ok_kept, err_kept, err_stops, unchanged_stops, put_images, put_wrote, short_here, broke, not_broken, not_due}
use Rattle.frs_writer.proofs.writer.Writer.write.Goals as goal

if_some : {X : Type 0} (P Q : X → Type 0) (o : Option X) → ((x : X) → P x → Q x) → IfSome o P → IfSome o Q
if_some P Q None f p = p
if_some P Q (Some x) f p = f x p

pub take_places-requires : goal.take_places-requires
take_places-requires g c =
    let d = g.D.Disk in
    let w : WriterView g.row.D.Denot = view_of c.self.inside in
    let kept = c.self.invariant.kept_is in
    let fine : w.ended ≡ None = ap (λ (v : WriterView g.row.D.Denot). v.ended) c.self.view_is ∙ c.requires.fine.0 in
    let newest = at_newest d g.met.D.Disk.counts_now g.met.D.Disk.stays_absent w kept fine w.disk c.index_mut.result.now c.len-newest.result (c.len-newest.ensures ∙ c.self.inside.segments.ok.0) c.index_mut.ensures.value in
    let chunks : c.index_mut.result.now.chunks ≡ chunks_of_newest c.args.self.now.segments =
    ap (λ (s : Segment). s.chunks) newest ∙ sym (newest_chunks kept.counted.older kept.counted.newest) ∙ ap chunks_of_newest (sym kept.counted.segments)
    ∙ ap (λ (v : WriterView g.row.D.Denot). chunks_of_newest v.segments) c.self.view_is in
    if_some _ _ c.args.room (λ places has. (has.0, has.1, chunks ∙ has.2)) c.requires.room

-- ---- where there was no memory

pub invariant_of-self : goal.invariant_of-self
invariant_of-self g c =
    let d = g.D.Disk in
    let old = c.self.invariant in
    let segments : List Segment = c.self.inside.segments.items in
    let at : ℕ = c.len-newest.result - 1 in
    let same : segments ≡ set segments at c.take_places.new.segment =
    sym (set-get_or segments at c.index_mut.result.now) ∙ ap (set segments at) (sym c.index_mut.ensures.value ∙ sym c.in_err-places.ensures.refused) in
    record {
      kept_is = subst (λ (s : List Segment). IsKept d (record (view_of c.self.inside) { segments = s })) same old.kept_is;
      count = old.count;
      later = old.later;
      broken = old.broken;
    }

pub returns-in_err-places-clause-crash : goal.returns-in_err-places-clause-crash
returns-in_err-places-clause-crash g c =
    let w : WriterView g.row.D.Denot = view_of c.self.inside in
    let at : ℕ = c.len-newest.result - 1 in
    let same : w.segments ≡ set w.segments at c.take_places.new.segment =
    sym (set-get_or w.segments at c.index_mut.result.now) ∙ ap (set w.segments at) (sym c.index_mut.ensures.value ∙ sym c.in_err-places.ensures.refused) in
    subst (λ (v : WriterView g.row.D.Denot). LeavesLog g.D.Disk v (record w { segments = set w.segments at c.take_places.new.segment })) c.self.view_is
    (subst (λ (l : List Segment). LeavesLog g.D.Disk w (record w { segments = l })) same (unchanged_leaves g.D.Disk g.met.D.Disk.only_now w c.self.invariant.kept_is))

pub returns-in_err-places-clause-refused : goal.returns-in_err-places-clause-refused
returns-in_err-places-clause-refused g c =
    let w : WriterView g.row.D.Denot = view_of c.self.inside in
    let fine : w.ended ≡ None = ap (λ (v : WriterView g.row.D.Denot). v.ended) c.self.view_is ∙ c.requires.fine.0 in
    let at : ℕ = c.len-newest.result - 1 in
    let same : w.segments ≡ set w.segments at c.take_places.new.segment =
    sym (set-get_or w.segments at c.index_mut.result.now) ∙ ap (set w.segments at) (sym c.index_mut.ensures.value ∙ sym c.in_err-places.ensures.refused) in
    at_refusal c.from_residual.result (subst (λ (v : WriterView g.row.D.Denot). StopsWrite g.D.Disk c.args.limit v (record w { segments = set w.segments at c.take_places.new.segment })) c.self.view_is
    (subst (λ (l : List Segment). StopsWrite g.D.Disk c.args.limit w (record w { segments = l })) same (unchanged_stops g.D.Disk w c.self.invariant.kept_is fine c.args.limit)))

-- ---- where it was written

pub invariant_of-self-in-Ok : goal.invariant_of-self-in-Ok
invariant_of-self-in-Ok g c =
    let d = g.D.Disk in
    let w : WriterView g.row.D.Denot = view_of c.self.inside in
    let kept = c.self.invariant.kept_is in
    let fine : w.ended ≡ None = ap (λ (v : WriterView g.row.D.Denot). v.ended) c.self.view_is ∙ c.requires.fine.0 in
    let here : is_due w ≡ false = ap is_due c.self.view_is ∙ c.requires.fine.1 in
    let counted = kept.counted in
    let mid = c.put_group-written.new.disk in
    let t = c.put_group-written.new.taker in
    let still = c.put_group-written.new.kept in
    let after = c.put_group-written.new.segment in
    let at : ℕ = c.len-newest.result - 1 in
    let at_is = ap (λ (n : ℕ). n - 1) (c.len-newest.ensures ∙ c.self.inside.segments.ok.0) in
    let segments : List Segment = set (set w.segments at c.take_places.new.segment) at after in
    let (group, gathered, none, some, chunk_count, chunk_lowest) = c.put_group-written.ensures.put in
    let before = taken_out w.segments counted.older counted.newest c.index_mut.result.now c.take_places.new.segment c.index_mut-2.result.now c.in_ok-places.places.items at
    counted.segments at_is c.index_mut.ensures.value c.in_ok-places.ensures.taken.0 c.in_ok-places.ensures.rest c.index_mut-2.ensures.value in
    let put : IsPut d w.disk mid counted.newest after group c.put_group-written.result = record {
      none = λ zero. let (ok, same, segment) = none zero in (ok, same, segment ∙ before);
      some = λ one. subst (λ (s : Segment). PutsGroup d w.disk mid s after group c.put_group-written.result) before (some one);
    } in
    let back : segments ≡ counted.older ++ after ∷ [] = put_back w.segments counted.older counted.newest c.take_places.new.segment after at counted.segments at_is in
    let short = short_here d w kept fine c.args.limit t still group gathered here in
    record {
      kept_is = subst (λ (n : ℕ). IsKept d (record { opened = w.opened; disk = mid; taker = t; kept = still; segments = segments; noted = w.noted; pins = w.pins; older = w.older; synced = w.synced + n; lowest = c.lowest_or-self-inside.result; ended = w.ended })) (sym c.from.ensures)
          (ok_kept d g.met.D.Disk.as_read g.met.D.Disk.counts_now g.met.D.Disk.only_now w kept fine
          c.args.limit c.requires.limit.1 t still group gathered mid after c.put_group-written.result put short c.lowest_or-self-inside.result (c.lowest_or-self-inside.ensures ∙ lowest_named w.lowest group c.put_group-written.new.chunk.count c.put_group-written.new.chunk.lowest chunk_count chunk_lowest)
          c.in-Ok.count c.in-Ok.is segments back);
      count = c.self.invariant.count;
      later = omega (arith, c.self.invariant.later, c.in-Ok.ensures.cause);
      broken = λ failed. absurd (not_broken fine failed);
    }

pub returns-in-Ok-clause-wrote : goal.returns-in-Ok-clause-wrote
returns-in-Ok-clause-wrote g c =
    let d = g.D.Disk in
    let w : WriterView g.row.D.Denot = view_of c.self.inside in
    let kept = c.self.invariant.kept_is in
    let fine : w.ended ≡ None = ap (λ (v : WriterView g.row.D.Denot). v.ended) c.self.view_is ∙ c.requires.fine.0 in
    let here : is_due w ≡ false = ap is_due c.self.view_is ∙ c.requires.fine.1 in
    let counted = kept.counted in
    let mid = c.put_group-written.new.disk in
    let t = c.put_group-written.new.taker in
    let still = c.put_group-written.new.kept in
    let after = c.put_group-written.new.segment in
    let at : ℕ = c.len-newest.result - 1 in
    let at_is = ap (λ (n : ℕ). n - 1) (c.len-newest.ensures ∙ c.self.inside.segments.ok.0) in
    let segments : List Segment = set (set w.segments at c.take_places.new.segment) at after in
    let (group, gathered, none, some, chunk_count, chunk_lowest) = c.put_group-written.ensures.put in
    let before = taken_out w.segments counted.older counted.newest c.index_mut.result.now c.take_places.new.segment c.index_mut-2.result.now c.in_ok-places.places.items at
    counted.segments at_is c.index_mut.ensures.value c.in_ok-places.ensures.taken.0 c.in_ok-places.ensures.rest c.index_mut-2.ensures.value in
    let put : IsPut d w.disk mid counted.newest after group c.put_group-written.result = record {
      none = λ zero. let (ok, same, segment) = none zero in (ok, same, segment ∙ before);
      some = λ one. subst (λ (s : Segment). PutsGroup d w.disk mid s after group c.put_group-written.result) before (some one);
    } in
    let back : segments ≡ counted.older ++ after ∷ [] = put_back w.segments counted.older counted.newest c.take_places.new.segment after at counted.segments at_is in
    let short = short_here d w kept fine c.args.limit t still group gathered here in
    put_wrote d g.met.D.Disk.as_read g.met.D.Disk.counts_now g.met.D.Disk.only_now w kept fine
    c.args.limit c.requires.limit.1 t still group gathered mid after c.put_group-written.result put short c.lowest_or-self-inside.result (c.lowest_or-self-inside.ensures ∙ lowest_named w.lowest group c.put_group-written.new.chunk.count c.put_group-written.new.chunk.lowest chunk_count chunk_lowest)
    c.in-Ok.count c.in-Ok.is c.requires.limit.0 c.args.self.now (sym (ap (λ (v : WriterView g.row.D.Denot). v.taker) c.self.view_is)) (sym (ap (λ (v : WriterView g.row.D.Denot). v.kept) c.self.view_is)) (sym (ap (λ (v : WriterView g.row.D.Denot). v.synced) c.self.view_is)) (sym (ap (λ (v : WriterView g.row.D.Denot). v.lowest) c.self.view_is))
    (not_due c.args.self.now c.requires.fine.1 ∙ sym (ap (λ (v : WriterView g.row.D.Denot). v.segments) c.self.view_is)) segments back w.ended (w.synced + c.from.result) (ap (λ (n : ℕ). w.synced + n) c.from.ensures)

pub returns-in-Ok-clause-crash : goal.returns-in-Ok-clause-crash
returns-in-Ok-clause-crash g c =
    let d = g.D.Disk in
    let w : WriterView g.row.D.Denot = view_of c.self.inside in
    let kept = c.self.invariant.kept_is in
    let fine : w.ended ≡ None = ap (λ (v : WriterView g.row.D.Denot). v.ended) c.self.view_is ∙ c.requires.fine.0 in
    let here : is_due w ≡ false = ap is_due c.self.view_is ∙ c.requires.fine.1 in
    let counted = kept.counted in
    let mid = c.put_group-written.new.disk in
    let t = c.put_group-written.new.taker in
    let still = c.put_group-written.new.kept in
    let after = c.put_group-written.new.segment in
    let at : ℕ = c.len-newest.result - 1 in
    let at_is = ap (λ (n : ℕ). n - 1) (c.len-newest.ensures ∙ c.self.inside.segments.ok.0) in
    let segments : List Segment = set (set w.segments at c.take_places.new.segment) at after in
    let (group, gathered, none, some, chunk_count, chunk_lowest) = c.put_group-written.ensures.put in
    let before = taken_out w.segments counted.older counted.newest c.index_mut.result.now c.take_places.new.segment c.index_mut-2.result.now c.in_ok-places.places.items at
    counted.segments at_is c.index_mut.ensures.value c.in_ok-places.ensures.taken.0 c.in_ok-places.ensures.rest c.index_mut-2.ensures.value in
    let put : IsPut d w.disk mid counted.newest after group c.put_group-written.result = record {
      none = λ zero. let (ok, same, segment) = none zero in (ok, same, segment ∙ before);
      some = λ one. subst (λ (s : Segment). PutsGroup d w.disk mid s after group c.put_group-written.result) before (some one);
    } in
    let back : segments ≡ counted.older ++ after ∷ [] = put_back w.segments counted.older counted.newest c.take_places.new.segment after at counted.segments at_is in
    let short = short_here d w kept fine c.args.limit t still group gathered here in
    let last : WriterView g.row.D.Denot = record { opened = w.opened; disk = mid; taker = t; kept = still; segments = segments; noted = w.noted; pins = w.pins; older = w.older; synced = w.synced + c.from.result; lowest = c.lowest_or-self-inside.result; ended = w.ended } in
    let shown : LeavesShown d w last = λ told well log is_log placed.
    put_images d g.met.D.Disk.as_read g.met.D.Disk.counts_now g.met.D.Disk.only_now w kept fine
    c.args.limit c.requires.limit.1 t still group gathered mid after c.put_group-written.result put short (lowest_of_last w.lowest group) refl last refl refl told well log is_log placed in
    let now = (invariant_of-self-in-Ok g c).kept_is in
    subst (λ (v : WriterView g.row.D.Denot). LeavesLog d v last) c.self.view_is
    (leaves_shown d w last now (λ told. subst IsTrue (kept.told ∙ sym now.told) told) (omega (arith, kept.counted.first, gathered.ring.1)) shown)

pub returns-in-Ok-clause-durable : goal.returns-in-Ok-clause-durable
returns-in-Ok-clause-durable g c =
    let d = g.D.Disk in
    let w : WriterView g.row.D.Denot = view_of c.self.inside in
    let kept = c.self.invariant.kept_is in
    let fine : w.ended ≡ None = ap (λ (v : WriterView g.row.D.Denot). v.ended) c.self.view_is ∙ c.requires.fine.0 in
    let here : is_due w ≡ false = ap is_due c.self.view_is ∙ c.requires.fine.1 in
    let counted = kept.counted in
    let mid = c.put_group-written.new.disk in
    let t = c.put_group-written.new.taker in
    let still = c.put_group-written.new.kept in
    let after = c.put_group-written.new.segment in
    let at : ℕ = c.len-newest.result - 1 in
    let at_is = ap (λ (n : ℕ). n - 1) (c.len-newest.ensures ∙ c.self.inside.segments.ok.0) in
    let segments : List Segment = set (set w.segments at c.take_places.new.segment) at after in
    let (group, gathered, none, some, chunk_count, chunk_lowest) = c.put_group-written.ensures.put in
    let before = taken_out w.segments counted.older counted.newest c.index_mut.result.now c.take_places.new.segment c.index_mut-2.result.now c.in_ok-places.places.items at
    counted.segments at_is c.index_mut.ensures.value c.in_ok-places.ensures.taken.0 c.in_ok-places.ensures.rest c.index_mut-2.ensures.value in
    let put : IsPut d w.disk mid counted.newest after group c.put_group-written.result = record {
      none = λ zero. let (ok, same, segment) = none zero in (ok, same, segment ∙ before);
      some = λ one. subst (λ (s : Segment). PutsGroup d w.disk mid s after group c.put_group-written.result) before (some one);
    } in
    let back : segments ≡ counted.older ++ after ∷ [] = put_back w.segments counted.older counted.newest c.take_places.new.segment after at counted.segments at_is in
    let short = short_here d w kept fine c.args.limit t still group gathered here in
    let last : WriterView g.row.D.Denot = record { opened = w.opened; disk = mid; taker = t; kept = still; segments = segments; noted = w.noted; pins = w.pins; older = w.older; synced = w.synced + c.from.result; lowest = c.lowest_or-self-inside.result; ended = w.ended } in
    let now = (invariant_of-self-in-Ok g c).kept_is in
    subst (λ (v : WriterView g.row.D.Denot). IsDurable d v last) c.self.view_is (durable_written d w last now (λ told. subst IsTrue (kept.told ∙ sym now.told) told) g.met.D.Disk.as_read fine)

-- ---- where it was cut short

pub invariant_of-self-in-Err : goal.invariant_of-self-in-Err
invariant_of-self-in-Err g c =
    let d = g.D.Disk in
    let w : WriterView g.row.D.Denot = view_of c.self.inside in
    let kept = c.self.invariant.kept_is in
    let fine : w.ended ≡ None = ap (λ (v : WriterView g.row.D.Denot). v.ended) c.self.view_is ∙ c.requires.fine.0 in
    let here : is_due w ≡ false = ap is_due c.self.view_is ∙ c.requires.fine.1 in
    let counted = kept.counted in
    let mid = c.put_group-written.new.disk in
    let t = c.put_group-written.new.taker in
    let still = c.put_group-written.new.kept in
    let after = c.put_group-written.new.segment in
    let at : ℕ = c.len-newest.result - 1 in
    let at_is = ap (λ (n : ℕ). n - 1) (c.len-newest.ensures ∙ c.self.inside.segments.ok.0) in
    let segments : List Segment = set (set w.segments at c.take_places.new.segment) at after in
    let (group, gathered, none, some, chunk_count, chunk_lowest) = c.put_group-written.ensures.put in
    let before = taken_out w.segments counted.older counted.newest c.index_mut.result.now c.take_places.new.segment c.index_mut-2.result.now c.in_ok-places.places.items at
    counted.segments at_is c.index_mut.ensures.value c.in_ok-places.ensures.taken.0 c.in_ok-places.ensures.rest c.index_mut-2.ensures.value in
    let put : IsPut d w.disk mid counted.newest after group c.put_group-written.result = record {
      none = λ zero. let (ok, same, segment) = none zero in (ok, same, segment ∙ before);
      some = λ one. subst (λ (s : Segment). PutsGroup d w.disk mid s after group c.put_group-written.result) before (some one);
    } in
    let back : segments ≡ counted.older ++ after ∷ [] = put_back w.segments counted.older counted.newest c.take_places.new.segment after at counted.segments at_is in
    let short = short_here d w kept fine c.args.limit t still group gathered here in
    let broken = broke ℕ (d.faults c.self.inside.opened.value) (d.faults w.disk) (d.faults mid) c.in-Err.fault c.self.invariant.later c.in-Err.ensures.cause in
    record {
      kept_is = err_kept d g.met.D.Disk.as_read g.met.D.Disk.counts_now g.met.D.Disk.only_now w kept fine
          c.args.limit c.requires.limit.1 t still group gathered mid after c.put_group-written.result put short (lowest_of_last w.lowest group) refl
          c.in-Err.fault c.in-Err.is segments back;
      count = c.self.invariant.count;
      later = broken.0;
      broken = broken.1;
    }

pub returns-in-Err-clause-crash : goal.returns-in-Err-clause-crash
returns-in-Err-clause-crash g c =
    let d = g.D.Disk in
    let w : WriterView g.row.D.Denot = view_of c.self.inside in
    let kept = c.self.invariant.kept_is in
    let fine : w.ended ≡ None = ap (λ (v : WriterView g.row.D.Denot). v.ended) c.self.view_is ∙ c.requires.fine.0 in
    let here : is_due w ≡ false = ap is_due c.self.view_is ∙ c.requires.fine.1 in
    let counted = kept.counted in
    let mid = c.put_group-written.new.disk in
    let t = c.put_group-written.new.taker in
    let still = c.put_group-written.new.kept in
    let after = c.put_group-written.new.segment in
    let at : ℕ = c.len-newest.result - 1 in
    let at_is = ap (λ (n : ℕ). n - 1) (c.len-newest.ensures ∙ c.self.inside.segments.ok.0) in
    let segments : List Segment = set (set w.segments at c.take_places.new.segment) at after in
    let (group, gathered, none, some, chunk_count, chunk_lowest) = c.put_group-written.ensures.put in
    let before = taken_out w.segments counted.older counted.newest c.index_mut.result.now c.take_places.new.segment c.index_mut-2.result.now c.in_ok-places.places.items at
    counted.segments at_is c.index_mut.ensures.value c.in_ok-places.ensures.taken.0 c.in_ok-places.ensures.rest c.index_mut-2.ensures.value in
    let put : IsPut d w.disk mid counted.newest after group c.put_group-written.result = record {
      none = λ zero. let (ok, same, segment) = none zero in (ok, same, segment ∙ before);
      some = λ one. subst (λ (s : Segment). PutsGroup d w.disk mid s after group c.put_group-written.result) before (some one);
    } in
    let back : segments ≡ counted.older ++ after ∷ [] = put_back w.segments counted.older counted.newest c.take_places.new.segment after at counted.segments at_is in
    let short = short_here d w kept fine c.args.limit t still group gathered here in
    let last : WriterView g.row.D.Denot = record { opened = w.opened; disk = mid; taker = t; kept = still; segments = segments; noted = w.noted; pins = w.pins; older = w.older; synced = w.synced; lowest = w.lowest; ended = Some c.in-Err.fault } in
    let shown : LeavesShown d w last = λ told well log is_log placed.
    put_images d g.met.D.Disk.as_read g.met.D.Disk.counts_now g.met.D.Disk.only_now w kept fine
    c.args.limit c.requires.limit.1 t still group gathered mid after c.put_group-written.result put short (lowest_of_last w.lowest group) refl last refl refl told well log is_log placed in
    let now = (invariant_of-self-in-Err g c).kept_is in
    subst (λ (v : WriterView g.row.D.Denot). LeavesLog d v last) c.self.view_is
    (leaves_shown d w last now (λ told. subst IsTrue (kept.told ∙ sym now.told) told) (omega (arith, kept.counted.first, gathered.ring.1)) shown)

pub returns-in-Err-clause-refused : goal.returns-in-Err-clause-refused
returns-in-Err-clause-refused g c =
    let d = g.D.Disk in
    let w : WriterView g.row.D.Denot = view_of c.self.inside in
    let kept = c.self.invariant.kept_is in
    let fine : w.ended ≡ None = ap (λ (v : WriterView g.row.D.Denot). v.ended) c.self.view_is ∙ c.requires.fine.0 in
    let here : is_due w ≡ false = ap is_due c.self.view_is ∙ c.requires.fine.1 in
    let counted = kept.counted in
    let mid = c.put_group-written.new.disk in
    let t = c.put_group-written.new.taker in
    let still = c.put_group-written.new.kept in
    let after = c.put_group-written.new.segment in
    let at : ℕ = c.len-newest.result - 1 in
    let at_is = ap (λ (n : ℕ). n - 1) (c.len-newest.ensures ∙ c.self.inside.segments.ok.0) in
    let segments : List Segment = set (set w.segments at c.take_places.new.segment) at after in
    let (group, gathered, none, some, chunk_count, chunk_lowest) = c.put_group-written.ensures.put in
    let before = taken_out w.segments counted.older counted.newest c.index_mut.result.now c.take_places.new.segment c.index_mut-2.result.now c.in_ok-places.places.items at
    counted.segments at_is c.index_mut.ensures.value c.in_ok-places.ensures.taken.0 c.in_ok-places.ensures.rest c.index_mut-2.ensures.value in
    let put : IsPut d w.disk mid counted.newest after group c.put_group-written.result = record {
      none = λ zero. let (ok, same, segment) = none zero in (ok, same, segment ∙ before);
      some = λ one. subst (λ (s : Segment). PutsGroup d w.disk mid s after group c.put_group-written.result) before (some one);
    } in
    let back : segments ≡ counted.older ++ after ∷ [] = put_back w.segments counted.older counted.newest c.take_places.new.segment after at counted.segments at_is in
    let short = short_here d w kept fine c.args.limit t still group gathered here in
    let last : WriterView g.row.D.Denot = record { opened = w.opened; disk = mid; taker = t; kept = still; segments = segments; noted = w.noted; pins = w.pins; older = w.older; synced = w.synced; lowest = w.lowest; ended = Some c.in-Err.fault } in
    subst (λ (v : WriterView g.row.D.Denot). StopsWrite d c.args.limit v last) c.self.view_is
    (err_stops d g.met.D.Disk.as_read g.met.D.Disk.counts_now g.met.D.Disk.only_now w kept fine
    c.args.limit c.requires.limit.1 t still group gathered mid after c.put_group-written.result put short (lowest_of_last w.lowest group) refl
    c.in-Err.fault c.in-Err.is segments back)

pub returns-in-Ok-clause-same : goal.returns-in-Ok-clause-same
returns-in-Ok-clause-same g c =
    let w : WriterView g.row.D.Denot = view_of c.self.inside in
    let t = c.put_group-written.new.taker in
    let still = c.put_group-written.new.kept in
    let segments : List Segment = set (set w.segments (c.len-newest.result - 1) c.take_places.new.segment) (c.len-newest.result - 1) c.put_group-written.new.segment in
    let (group, gathered, none, some, chunk_count, chunk_lowest) = c.put_group-written.ensures.put in
    let last : WriterView g.row.D.Denot = record { opened = w.opened; disk = c.put_group-written.new.disk; taker = t; kept = still; segments = segments; noted = w.noted; pins = w.pins; older = w.older; synced = w.synced + c.from.result; lowest = c.lowest_or-self-inside.result; ended = w.ended } in
    subst (λ (v : WriterView g.row.D.Denot). TakesMore v last) c.self.view_is (gathered_takes c.args.limit w last w.kept still group gathered refl refl refl refl)

pub returns-in-Err-clause-same : goal.returns-in-Err-clause-same
returns-in-Err-clause-same g c =
    let w : WriterView g.row.D.Denot = view_of c.self.inside in
    let t = c.put_group-written.new.taker in
    let still = c.put_group-written.new.kept in
    let segments : List Segment = set (set w.segments (c.len-newest.result - 1) c.take_places.new.segment) (c.len-newest.result - 1) c.put_group-written.new.segment in
    let (group, gathered, none, some, chunk_count, chunk_lowest) = c.put_group-written.ensures.put in
    let last : WriterView g.row.D.Denot = record { opened = w.opened; disk = c.put_group-written.new.disk; taker = t; kept = still; segments = segments; noted = w.noted; pins = w.pins; older = w.older; synced = w.synced; lowest = w.lowest; ended = Some c.in-Err.fault } in
    subst (λ (v : WriterView g.row.D.Denot). TakesMore v last) c.self.view_is (gathered_takes c.args.limit w last w.kept still group gathered refl refl refl refl)

-- ---- the file that was written

pub returns-in_err-places-clause-one_file : goal.returns-in_err-places-clause-one_file
returns-in_err-places-clause-one_file g c =
    let w : WriterView g.row.D.Denot = view_of c.self.inside in
    subst (λ (v : WriterView g.row.D.Denot). ChangesOneFile g.D.Disk (number_of_newest c.args.self.now.segments) v.disk w.disk) c.self.view_is
    (changes_none g.D.Disk g.met.D.Disk.only_now (number_of_newest c.args.self.now.segments) w.disk)

pub returns-in-Ok-clause-one_file : goal.returns-in-Ok-clause-one_file
returns-in-Ok-clause-one_file g c =
    let d = g.D.Disk in
    let w : WriterView g.row.D.Denot = view_of c.self.inside in
    let counted = c.self.invariant.kept_is.counted in
    let mid = c.put_group-written.new.disk in
    let after = c.put_group-written.new.segment in
    let at : ℕ = c.len-newest.result - 1 in
    let at_is = ap (λ (n : ℕ). n - 1) (c.len-newest.ensures ∙ c.self.inside.segments.ok.0) in
    let (group, gathered, none, some, chunk_count, chunk_lowest) = c.put_group-written.ensures.put in
    let before = taken_out w.segments counted.older counted.newest c.index_mut.result.now c.take_places.new.segment c.index_mut-2.result.now c.in_ok-places.places.items at
    counted.segments at_is c.index_mut.ensures.value c.in_ok-places.ensures.taken.0 c.in_ok-places.ensures.rest c.index_mut-2.ensures.value in
    let put : IsPut d w.disk mid counted.newest after group c.put_group-written.result = record {
      none = λ zero. let (ok, same, segment) = none zero in (ok, same, segment ∙ before);
      some = λ one. subst (λ (s : Segment). PutsGroup d w.disk mid s after group c.put_group-written.result) before (some one);
    } in
    let number : counted.newest.number ≡ number_of_newest c.args.self.now.segments =
    sym (newest_number counted.older counted.newest) ∙ ap number_of_newest (sym counted.segments) ∙ ap (λ (v : WriterView g.row.D.Denot). number_of_newest v.segments) c.self.view_is in
    subst (λ (v : WriterView g.row.D.Denot). ChangesOneFile d (number_of_newest c.args.self.now.segments) v.disk mid) c.self.view_is
    (subst (λ (n : ℕ). ChangesOneFile d n w.disk mid) number (put_changes d g.met.D.Disk.only_now w.disk mid counted.newest after group c.put_group-written.result put))

pub returns-in-Err-clause-one_file : goal.returns-in-Err-clause-one_file
returns-in-Err-clause-one_file g c =
    let d = g.D.Disk in
    let w : WriterView g.row.D.Denot = view_of c.self.inside in
    let counted = c.self.invariant.kept_is.counted in
    let mid = c.put_group-written.new.disk in
    let after = c.put_group-written.new.segment in
    let at : ℕ = c.len-newest.result - 1 in
    let at_is = ap (λ (n : ℕ). n - 1) (c.len-newest.ensures ∙ c.self.inside.segments.ok.0) in
    let (group, gathered, none, some, chunk_count, chunk_lowest) = c.put_group-written.ensures.put in
    let before = taken_out w.segments counted.older counted.newest c.index_mut.result.now c.take_places.new.segment c.index_mut-2.result.now c.in_ok-places.places.items at
    counted.segments at_is c.index_mut.ensures.value c.in_ok-places.ensures.taken.0 c.in_ok-places.ensures.rest c.index_mut-2.ensures.value in
    let put : IsPut d w.disk mid counted.newest after group c.put_group-written.result = record {
      none = λ zero. let (ok, same, segment) = none zero in (ok, same, segment ∙ before);
      some = λ one. subst (λ (s : Segment). PutsGroup d w.disk mid s after group c.put_group-written.result) before (some one);
    } in
    let number : counted.newest.number ≡ number_of_newest c.args.self.now.segments =
    sym (newest_number counted.older counted.newest) ∙ ap number_of_newest (sym counted.segments) ∙ ap (λ (v : WriterView g.row.D.Denot). number_of_newest v.segments) c.self.view_is in
    subst (λ (v : WriterView g.row.D.Denot). ChangesOneFile d (number_of_newest c.args.self.now.segments) v.disk mid) c.self.view_is
    (subst (λ (n : ℕ). ChangesOneFile d n w.disk mid) number (put_changes d g.met.D.Disk.only_now w.disk mid counted.newest after group c.put_group-written.result put))
