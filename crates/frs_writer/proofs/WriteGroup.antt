-- How a roll and a write behind it join into a call of `write_group`.
use Rattle.std.proofs.Common.{◌≡◌, ◌⊎◌, inl, inr, ⊎_elim, ℕ, ◌+◌, ◌≤◌, Bool, true, false, List, [], ◌++◌, length, Option, None, refl, sym, ◌∙◌, ap, subst, arith, append_assoc, IsTrue}
use Rattle.std.specs.Prelude.{Result, Ok, Err, nat_lt, if◌then◌else◌}
use Rattle.std.proofs.lemmas.List.{append-nil}
use Rattle.std.specs.FinMap.{entries}
use Rattle.frs_types.specs.declared.record.Record.{Record}
use Rattle.frs_types.specs.Records.{Log, IsPlaced}
use Rattle.frs_disk.specs.declared.disk.Disk.{Ghosts}
use Rattle.frs_disk.specs.Disk.{Image, Rose}
use Rattle.frs_disk.specs.Frames.{Within, ChangesOneFile, GoesOn, LeftNoFile}
use Rattle.frs_disk.proofs.Frames.{changes_one_join}
use Rattle.frs_disk.proofs.Moments.{within_join}
use Rattle.frs_segment.specs.declared.layout.Segment.{Segment}
use Rattle.frs_segment.specs.Segments.{Spells}
use Rattle.frs_segment.specs.Stores.{LeavesAlike}
use Rattle.frs_slots.specs.Views.{TakerView, IsOneMore, MissedRecord}
use Rattle.frs_writer.specs.declared.fault.WriteFault.{WriteFault}
use Rattle.frs_writer.specs.declared.fault.WriteFault.TheVariants.{Disk, Broken, NumberLimit, Memory}
use Rattle.frs_writer.specs.Groups.{joined_records, lowest_of_last, GathersGroup}
use Rattle.frs_writer.specs.Invariant.{ShowsFrom}
use Rattle.frs_writer.specs.Places.{with_newest_grown, number_of_newest}
use Rattle.frs_writer.specs.Writer.{WriterView, IsLog, WasEmpty}
use Rattle.frs_writer.specs.Writing.{is_due, number_to_write, WritesGroup, StopsWrite, IsLeftRefused, HasMadeNext, IsRolled, TakesMore, SpellsFrom, HoldsFrom, LeavesLog, LeavesShown, IsDurable, HasWriteCause, HasPutCause}
use Rattle.frs_writer.proofs.Parted.{part, placed_less}
use Rattle.frs_writer.proofs.LongerLog.{with_more, spells_more, shows_more}
use Rattle.frs_writer.proofs.HoldsLog.{from_whole}
use Rattle.frs_writer.proofs.WritesGroup.{not_due, not_broken}

-- The log of a writer before it has taken more.
record LogBefore {D : Type 0} (g : Ghosts D) (w : WriterView D) (log' : Log) : Type 0 where
  log : Log
  is_log : IsLog g w log
  more : List Record
  log_is : log' ≡ with_more log more

log_before : {D : Type 0} (g : Ghosts D) (w w' : WriterView D) → TakesMore w w' → (log' : Log) → IsLog g w' log' → LogBefore g w log'
log_before g w w' takes log' l =
    let p = part w.taker.taken takes.more l.taken (sym takes.taken ∙ l.bytes) in
    let base = l.base.records in
    record {
      log = record l.base { records = base ++ p.front };
      is_log = record { base = l.base; spelled = subst (λ o. Spells (entries (g.reads o)) l.base) takes.opened l.spelled; taken = p.front; bytes = p.front_is; is = refl };
      more = p.back;
      log_is = l.is ∙ ap (λ (x : List Record). record l.base { records = base ++ x }) p.is ∙ ap (λ (x : List Record). record l.base { records = x }) (sym (append_assoc base p.front p.back));
    }

-- ---- where nothing was written

pub takes_none : {D : Type 0} (old new : WriterView D) → new.opened ≡ old.opened → new.noted ≡ old.noted → new.pins ≡ old.pins → new.older ≡ old.older → new.taker ≡ old.taker → TakesMore old new
takes_none old new opened noted pins older same = record {
  opened = opened;
  noted = noted;
  pins = pins;
  older = older;
  ring = (ap (λ (t : TakerView). t.ring) same, ap (λ (t : TakerView). t.first) same);
  known = omega (arith, ap (λ (t : TakerView). t.known) same);
  sure = omega (arith, ap (λ (t : TakerView). t.sure) same);
  misses = inl (ap (λ (t : TakerView). t.misses) same);
  more = [];
  taken = ap (λ (t : TakerView). t.taken) same ∙ sym (append-nil old.taker.taken);
}

-- where a group was gathered
pub gathered_takes : {D : Type 0} (limit : ℕ) (old new : WriterView D) (kept still : Option (List ℕ)) (group : List (List ℕ)) → GathersGroup limit old.taker new.taker kept still group
    → new.opened ≡ old.opened → new.noted ≡ old.noted → new.pins ≡ old.pins → new.older ≡ old.older → TakesMore old new
gathered_takes limit old new kept still group gathered opened noted pins older = record {
  opened = opened;
  noted = noted;
  pins = pins;
  older = older;
  ring = gathered.ring;
  known = gathered.known;
  sure = gathered.sure;
  misses = gathered.misses;
  more = gathered.taken;
  taken = gathered.taken_are;
}

pub stopped_refused : {D : Type 0} (g : Ghosts D) (limit : ℕ) (w : WriterView D) → (w.ended ≡ None → ⊥) → IsLeftRefused g limit w w
stopped_refused g limit w stopped = record { synced = refl; lowest = refl; segments = inl refl; cut = λ here fine. absurd (stopped fine) }

pub roll_refused : {D : Type 0} (g : Ghosts D) (limit : ℕ) (old new : WriterView D) → new ≡ record old { disk = new.disk; ended = new.ended } → is_due old ≡ true → IsLeftRefused g limit old new
roll_refused {D = D} g limit old new is due = record {
  synced = ap (λ (w : WriterView D). w.synced) is;
  lowest = ap (λ (w : WriterView D). w.lowest) is;
  segments = inl (ap (λ (w : WriterView D). w.segments) is);
  cut = λ here fine. absurd (both (sym due ∙ here));
}
  where
    both : true ≡ false → ⊥
    both is = cc

-- ---- a roll, and a write behind it

module _ {D : Type 0} (g : Ghosts D) (old mid new : WriterView D) (rolled : IsRolled old mid) (takes : TakesMore mid new) where
  opened_mid : mid.opened ≡ old.opened
  opened_mid = ap (λ (w : WriterView D). w.opened) rolled.view

  taker_mid : mid.taker ≡ old.taker
  taker_mid = ap (λ (w : WriterView D). w.taker) rolled.view

  lowest_mid : mid.lowest ≡ old.lowest
  lowest_mid = ap (λ (w : WriterView D). w.lowest) rolled.view

  synced_mid : mid.synced ≡ old.synced
  synced_mid = ap (λ (w : WriterView D). w.synced) rolled.view

  pub joined_takes : TakesMore old new
  joined_takes = record {
    opened = takes.opened ∙ opened_mid;
    noted = takes.noted ∙ ap (λ (w : WriterView D). w.noted) rolled.view;
    pins = takes.pins ∙ ap (λ (w : WriterView D). w.pins) rolled.view;
    older = takes.older ∙ ap (λ (w : WriterView D). w.older) rolled.view;
    ring = (takes.ring.0 ∙ ap (λ (t : TakerView). t.ring) taker_mid, takes.ring.1 ∙ ap (λ (t : TakerView). t.first) taker_mid);
    known = subst (λ (t : TakerView). t.known ≤ new.taker.known) taker_mid takes.known;
    sure = subst (λ (t : TakerView). t.sure ≤ new.taker.sure) taker_mid takes.sure;
    misses = subst (λ (t : TakerView). (new.taker.misses ≡ t.misses) ⊎ IsOneMore t.misses new.taker.misses) taker_mid takes.misses;
    more = takes.more;
    taken = takes.taken ∙ ap (λ (t : TakerView). t.taken ++ takes.more) taker_mid;
  }

  gathers_mid : (limit : ℕ) (group : List (List ℕ)) → GathersGroup limit mid.taker new.taker mid.kept new.kept group → GathersGroup limit old.taker new.taker old.kept new.kept group
  gathers_mid limit group gathers = subst (λ (o : _). GathersGroup limit old.taker new.taker o new.kept group) (ap (λ (w : WriterView D). w.kept) rolled.view)
      (subst (λ (t : TakerView). GathersGroup limit t new.taker mid.kept new.kept group) taker_mid gathers)

  pub joined_refused : (limit : ℕ) → StopsWrite g limit mid new → IsLeftRefused g limit old new
  joined_refused limit stops = record {
    synced = stops.synced ∙ synced_mid;
    lowest = stops.lowest ∙ lowest_mid;
    segments = by (is_due old) refl;
    cut = λ here fine. ⊎_elim inl (λ some. inr (some.0, some.1, gathers_mid limit some.0 some.2)) stops.gathered;
  }
    where
      by : (b : Bool) → is_due old ≡ b → (new.segments ≡ old.segments) ⊎ HasMadeNext g old new
      by true due = inr (due, stops.segments ∙ ap (λ (w : WriterView D). w.segments) rolled.view, stops.there)
      by false here = inl (stops.segments ∙ ap (λ (w : WriterView D). w.segments) rolled.view ∙ not_due old here)

  pub joined_wrote : (limit count : ℕ) → WritesGroup limit count mid new → WritesGroup limit count old new
  joined_wrote limit count wrote = record {
    group = wrote.group;
    gathers = gathers_mid limit wrote.group wrote.gathers;
    counted = wrote.counted;
    none = λ zero. let (was, now, missed) = wrote.none zero in (sym (ap (λ (w : WriterView D). w.kept) rolled.view) ∙ was, now, subst (λ (t : TakerView). MissedRecord t new.taker) taker_mid missed);
    synced = wrote.synced ∙ ap (λ (n : ℕ). n + count) synced_mid;
    lowest = wrote.lowest ∙ ap (λ (n : ℕ). lowest_of_last n wrote.group) lowest_mid;
    segments = wrote.segments ∙ ap (λ (l : List Segment). if nat_lt 0 count then with_newest_grown count (length (joined_records wrote.group)) l else l)
        (not_due mid rolled.here ∙ ap (λ (w : WriterView D). w.segments) rolled.view);
  }

  pub joined_leaves : ((disk : D) (s t : ℕ) (c : Image) → s ≤ t → g.left_since disk t c → g.left_since disk s c) → GoesOn g old.disk mid.disk → GoesOn g mid.disk new.disk
      → LeavesLog g old mid → LeavesShown g old mid → LeavesLog g mid new → LeavesLog g old new
  joined_leaves earlier first second before shown after = record {
    images = λ told well log is_log placed.
        let l = log_before g mid new takes log is_log in
        let was = before.images told (subst (λ (o : D). LeavesAlike g o) takes.opened well) l.log l.is_log (placed_less l.log l.more (subst IsPlaced l.log_is placed)) in
        within_join g old.disk mid.disk new.disk (SpellsFrom old.synced log) first.time second.time (λ c left. spells_more old.synced l.log log l.more c l.log_is (was c left))
        (subst (λ (n : ℕ). Within g mid.disk new.disk (SpellsFrom n log)) synced_mid (after.images (subst IsTrue (sym first.told) told) well log is_log placed));
    whole = λ told well log is_log placed empty.
        let l = log_before g mid new takes log is_log in
        let was = shown told (subst (λ (o : D). LeavesAlike g o) takes.opened well) l.log l.is_log (placed_less l.log l.more (subst IsPlaced l.log_is placed)) in
        within_join g old.disk mid.disk new.disk (HoldsFrom (LeftNoFile g new.opened) old.synced log) first.time second.time
        (λ c left. from_whole old.synced log c
        (subst (λ (o : D). ShowsFrom (WasEmpty g o) (LeftNoFile g o) old.synced log (entries c)) (sym takes.opened) (shows_more old.synced l.log log l.more (entries c) l.log_is (was c left))) empty)
        (subst (λ (n : ℕ). Within g mid.disk new.disk (HoldsFrom (LeftNoFile g new.opened) n log)) synced_mid (after.whole (subst IsTrue (sym first.told) told) well log is_log placed empty));
  }

  pub joined_durable : GoesOn g old.disk mid.disk → IsDurable g mid new → IsDurable g old new
  joined_durable first durable = record {
    spelled = λ told. durable.spelled (subst IsTrue (sym first.told) told);
    alike = λ told. durable.alike (subst IsTrue (sym first.told) told);
    segments = λ told. durable.segments (subst IsTrue (sym first.told) told);
    newest = λ told. durable.newest (subst IsTrue (sym first.told) told);
    pending = λ told. durable.pending (subst IsTrue (sym first.told) told);
    whole = λ told. durable.whole (subst IsTrue (sym first.told) told);
  }

  pub joined_file : ((disk : D) (t : ℕ) (c : Image) → t ≤ g.moment disk → g.may_leave disk c → g.left_since disk t c)
      → ((disk : D) (s t : ℕ) (c : Image) → s ≤ t → g.left_since disk t c → g.left_since disk s c)
      → ChangesOneFile g (number_to_write old) old.disk mid.disk → ChangesOneFile g (number_of_newest mid.segments) mid.disk new.disk → ChangesOneFile g (number_to_write old) old.disk new.disk
  joined_file counts earlier first second =
      changes_one_join g counts earlier (number_to_write old) old.disk mid.disk new.disk first
      (subst (λ (l : List Segment). ChangesOneFile g (number_of_newest l) mid.disk new.disk) (ap (λ (w : WriterView D). w.segments) rolled.view) second)

  pub joined_cause : (not_given : Type 0) (result : Result ℕ WriteFault) → old.ended ≡ None → g.faults mid.disk ≡ g.faults old.disk → (not_given → mid ≡ old)
      → HasPutCause g not_given mid new result → HasWriteCause g old new result
  joined_cause not_given (Ok count) fine same kept cause = (cause.0 ∙ same, fine, cause.1)
  joined_cause not_given (Err Disk) fine same kept cause = (subst (λ (n : ℕ). Rose n (g.faults new.disk)) same cause.0, fine, cause.1)
  joined_cause not_given (Err (Broken at_opening now)) fine same kept cause = absurd cause
  joined_cause not_given (Err (NumberLimit number)) fine same kept cause = absurd cause
  joined_cause not_given (Err Memory) fine same kept cause = (cause.0 ∙ same, not_broken fine, ⊎_elim (λ is. inl (is.0 ∙ kept is.1)) (λ ended. inr (fine, ended)) cause.1)
