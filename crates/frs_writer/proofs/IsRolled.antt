-- What holds of a writer that goes on to a new segment, and of one that found nothing to write.
use Rattle.std.proofs.Common.{◌≡◌, inl, inr, ℕ, ◌+◌, ◌-◌, ◌^◌, ◌<◌, ◌≤◌, true, nat_le, nat_lt, List, [], ◌∷◌, ◌++◌, length, get_or, set, map, Option, Some, None, refl, sym, ◌∙◌, ap, subst, arith, IsTrue}
use Rattle.std.specs.List.{All}
use Rattle.std.proofs.lemmas.Bool.{and_parts, cases_eq, leb-true, ltb-true}
use Rattle.std.proofs.lemmas.List.{map-append, get_or-set_same, get_or-set_other, length-set}
use Rattle.std.specs.Prelude.{Result, Ok, Err, OnOk, OnErr}
use Rattle.std.specs.FinMap.{entries, get}
use Rattle.frs_types.specs.Records.{Log, IsPlaced}
use Rattle.frs_disk.specs.declared.disk.Disk.{Ghosts}
use Rattle.frs_disk.specs.declared.disk.Fault.{Fault}
use Rattle.frs_disk.specs.Disk.{Image}
use Rattle.frs_disk.specs.Frames.{ChangesOneFile, IsSynced, Within, LeftNoFile}
use Rattle.frs_segment.specs.Front.{IsInTheMaking, empty_segment}
use Rattle.frs_segment.specs.declared.layout.Segment.{Segment}
use Rattle.frs_segment.specs.Segments.{WholeSegment, IsSegment}
use Rattle.frs_segment.specs.Stores.{LeavesAlike}
use Rattle.frs_segment.specs.Scanning.{places_of_segment}
use Rattle.frs_slots.specs.Views.{TakerView}
use Rattle.frs_writer.specs.Gates.{IsAtGate}
use Rattle.frs_writer.specs.Invariant.{IsCounted, ShowsFrom, durable_of, ShowsDurable, IsKept}
use Rattle.frs_writer.specs.LogImages.{EndsWithSegment, TakesNext, new_segment}
use Rattle.frs_writer.specs.Writer.{WriterView, IsLog, WasEmpty}
use Rattle.frs_writer.specs.Places.{length_of_newest, number_of_newest}
use Rattle.frs_writer.specs.Writing.{is_due}
use Rattle.frs_writer.proofs.Grouping.{newest_is}
use Rattle.frs_writer.proofs.HasNewest.{at_next, read_next}
use Rattle.frs_writer.proofs.ShowsLog.{rests_shows, rests_end, rests_takes, some_records, empty_made}
use Rattle.frs_writer.proofs.Places.{newest_length, newest_number, newest_get}
use Rattle.frs_writer.proofs.EndsWithSegment.{one_next, one_making}

some_none : (f : Fault) → Some f ≡ None → ⊥
some_none f is = cc

-- an empty segment ends in its closed gate
pub empty_gate : (number first : ℕ) (file : Option (List ℕ)) → file ≡ Some (empty_segment number first) → IsAtGate 22 file
empty_gate number first file is = subst (IsAtGate 22) (sym is) (refl, refl)

module _ {D : Type 0} (g : Ghosts D)
    (counts_now : (disk : D) (t : ℕ) (c : Image) → t ≤ g.moment disk → g.may_leave disk c → g.left_since disk t c)
    (stays_absent : (disk : D) (number : ℕ) (c : Image) → IsTrue (g.tells disk) → get (g.reads disk) number ≡ None → (g.removing disk number → ⊥) → g.may_leave disk c → get c number ≡ None)
    (w : WriterView D) (kept : IsKept g w) (fine : w.ended ≡ None) (d : D) where
  abbrev pub next_number : ℕ
  next_number = kept.counted.newest.number + 1

  -- the writer with the new segment
  abbrev pub rolled_view : WriterView D
  rolled_view = record { opened = w.opened; disk = d; taker = w.taker; kept = w.kept; segments = w.segments ++ places_of_segment (new_segment next_number (w.synced + 1)) ∷ []; noted = w.noted; pins = w.pins; older = w.older; synced = w.synced; lowest = w.lowest; ended = None }

  -- and where its making was cut short
  abbrev pub cut_view : Fault → WriterView D
  cut_view fault = record { opened = w.opened; disk = d; taker = w.taker; kept = w.kept; segments = w.segments; noted = w.noted; pins = w.pins; older = w.older; synced = w.synced; lowest = w.lowest; ended = Some fault }

  -- the newest segment as it was found
  pub at_newest : (s : Segment) (n : ℕ) → n ≡ length w.segments → s ≡ get_or w.segments (n - 1) s → s ≡ kept.counted.newest
  at_newest s n long is = is ∙ ap (λ (k : ℕ). get_or w.segments (k - 1) s) long ∙ newest_get w.segments kept.counted.older kept.counted.newest s kept.counted.segments

  pub number_at_newest : (s : Segment) → s ≡ kept.counted.newest → number_of_newest w.segments + 1 ≡ s.number + 1
  number_at_newest s is =
      ap (λ (l : List Segment). number_of_newest l + 1) kept.counted.segments ∙ ap (λ (n : ℕ). n + 1) (newest_number kept.counted.older kept.counted.newest)
      ∙ ap (λ (x : Segment). x.number + 1) (sym is)

  counted_cut : (fault : Fault) → IsCounted (cut_view fault)
  counted_cut fault = record {
    older = kept.counted.older;
    newest = kept.counted.newest;
    segments = kept.counted.segments;
    number = kept.counted.number;
    ends = kept.counted.ends;
    long = kept.counted.long;
    least = kept.counted.least;
    first = kept.counted.first;
    most = kept.counted.most;
    written = kept.counted.written;
    counted = λ none. absurd (some_none fault none);
    clients = kept.counted.clients;
    noted = kept.counted.noted;
  }

  module _ (frame : ChangesOneFile g next_number w.disk d) (high : next_number < 2 ^ 62) (due : is_due w ≡ true)
      (making : IsTrue (g.tells w.disk) → Within g w.disk d (λ c. IsInTheMaking next_number (w.synced + 1) (get c next_number))) where
    reached : IsTrue (nat_le (2 ^ 20) (length_of_newest w.segments)) × IsTrue (nat_lt (w.synced + 1) (2 ^ 62))
    reached = and_parts (nat_le (2 ^ 20) (length_of_newest w.segments)) (nat_lt (w.synced + 1) (2 ^ 62)) due

    below : w.synced + 1 < 2 ^ 62
    below = ltb-true (w.synced + 1) (2 ^ 62) reached.1

    long : 2 ^ 20 ≤ kept.counted.newest.length
    long = omega (arith, leb-true (2 ^ 20) (length_of_newest w.segments) reached.0, ap length_of_newest kept.counted.segments, newest_length kept.counted.older kept.counted.newest)

    told_before : IsTrue (g.tells d) → IsTrue (g.tells w.disk)
    told_before told = subst IsTrue frame.told told

    none_there : IsTrue (g.tells w.disk) → (e : Image) → g.may_leave w.disk e → (q : ℕ) → next_number ≤ q → get e q ≡ None
    none_there told e was q at =
        let work = kept.at_work fine told in
        stays_absent w.disk q e told (work.none_above q (omega (arith, at))) (work.none_removed q (omega (arith, at))) was

    module _ (told : IsTrue (g.tells w.disk)) (well : LeavesAlike g w.opened) (log : Log) (is_log : IsLog g w log) (placed : IsPlaced log) where
      held : ShowsDurable g w log
      held = kept.holds told well log is_log placed

      ends_at : (last : WholeSegment) (c : Image) → EndsWithSegment (WasEmpty g w.opened) (LeftNoFile g w.opened) (entries c) log.first (durable_of w log).records last → (before : List WholeSegment) → w.segments ≡ map places_of_segment (before ++ last ∷ []) → w.synced + 1 ≡ log.first + length (durable_of w log).records
      ends_at last c rests before segments = sym kept.counted.ends ∙ ap (λ (s : Segment). s.«end») (newest_is w kept.counted before last segments) ∙ rests_end rests

      -- the newest segment has a record, so the next one can be made
      takes : (last : WholeSegment) (e : Image) (rests : EndsWithSegment (WasEmpty g w.opened) (LeftNoFile g w.opened) (entries e) log.first (durable_of w log).records last) (before : List WholeSegment) → w.segments ≡ map places_of_segment (before ++ last ∷ [])
          → LeftNoFile g w.opened → TakesNext next_number (log.first + length (durable_of w log).records) (entries e) (rests_shows rests).segments
      takes last e rests before segments fresh =
          let newest : kept.counted.newest ≡ places_of_segment last = newest_is w kept.counted before last segments in
          subst (λ (n : ℕ). TakesNext n (log.first + length (durable_of w log).records) (entries e) (rests_shows rests).segments) (ap (λ (s : Segment). s.number + 1) (sym newest))
          (rests_takes rests (some_records last rests.made.chunks (omega (arith, long, ap (λ (s : Segment). s.length) newest))) fresh)

      pub rolled_images : Within g w.disk d (λ c. ShowsFrom (WasEmpty g w.opened) (LeftNoFile g w.opened) w.synced log (entries c))
      rolled_images c left =
          let (e, was, same) = frame.elsewhere c left in
          let (last, rest, (before, segments)) = held.newest fine in (
            w.synced,
            omega arith,
            omega (arith, held.next_is, kept.counted.written),
            one_making log.first (durable_of w log).records next_number (w.synced + 1) e c (rests_shows (rest e was)) (takes last e (rest e was) before segments) same (none_there told e was)
                (ends_at last e (rest e was) before segments) (omega (arith, kept.counted.number)) high (omega arith) below (making told c left),
          )

      rolled_rests : IsSynced g d next_number → get (g.reads d) next_number ≡ Some (empty_segment next_number (w.synced + 1))
          → (c : Image) → g.may_leave d c → EndsWithSegment (WasEmpty g w.opened) (LeftNoFile g w.opened) (entries c) log.first (durable_of w log).records (new_segment next_number (w.synced + 1))
      rolled_rests durable made c left =
          let (e, was, same) = frame.elsewhere c (counts_now d (g.moment w.disk) c frame.time.later left) in
          let (last, rest, (before, segments)) = held.newest fine in
          one_next log.first (durable_of w log).records next_number (w.synced + 1) e c (rests_shows (rest e was)) (takes last e (rest e was) before segments) same (none_there told e was)
          (ends_at last e (rest e was) before segments) (omega (arith, kept.counted.number)) high (omega arith) below (durable c left ∙ made)

      made_next : IsSegment (next_number, empty_segment next_number (w.synced + 1)) (new_segment next_number (w.synced + 1))
      made_next = empty_made next_number (w.synced + 1) (omega (arith, kept.counted.number)) high (omega arith) below

      rolled_holds : IsSynced g d next_number → get (g.reads d) next_number ≡ Some (empty_segment next_number (w.synced + 1)) → ShowsDurable g rolled_view log
      rolled_holds durable made =
          let (last, rest, (before, segments)) = held.newest fine in
          record {
            next_is = held.next_is;
            each = λ c left. (w.synced, omega arith, omega (arith, held.next_is, kept.counted.written), rests_shows (rolled_rests durable made c left));
            newest = λ none. (
              new_segment next_number (w.synced + 1),
              rolled_rests durable made,
              (
                before ++ last ∷ [],
                ap (λ (l : List Segment). l ++ places_of_segment (new_segment next_number (w.synced + 1)) ∷ []) segments
                    ∙ sym (map-append places_of_segment (before ++ last ∷ []) (new_segment next_number (w.synced + 1) ∷ [])),
              ),
            );
            read = λ none.
                read_next next_number (w.synced + 1) (g.reads w.disk) (g.reads d) (frame.others told) (λ q at. (kept.at_work fine told).none_above q (omega (arith, at))) made_next made w.segments (held.read fine);
            alike = λ none.
                let (places, at) = held.alike fine in (
                  places ++ (next_number, w.synced + 1) ∷ [],
                  λ c left.
                      let (e, was, same) = frame.elsewhere c (counts_now d (g.moment w.disk) c frame.time.later left) in
                      at_next next_number (w.synced + 1) e c same (none_there told e was) made_next (durable c left ∙ made) places log.first (at e was),
                );
          }

    pub kept_cut : (fault : Fault) → IsKept g (cut_view fault)
    kept_cut fault = record {
      counted = counted_cut fault;
      told = frame.told ∙ kept.told;
      at_work = λ none. absurd (some_none fault none);
      holds = λ told well log is_log placed.
          let l : IsLog g w log = record { base = is_log.base; spelled = is_log.spelled; taken = is_log.taken; bytes = is_log.bytes; is = is_log.is } in
          record {
            next_is = (kept.holds (told_before told) well log l placed).next_is;
            each = λ c left. rolled_images (told_before told) well log l placed c (counts_now d (g.moment w.disk) c frame.time.later left);
            newest = λ none. absurd (some_none fault none);
            read = λ none. absurd (some_none fault none);
            alike = λ none. absurd (some_none fault none);
          };
    }

    module _ (durable : IsSynced g d next_number)
        (made : IsTrue (g.tells w.disk) → get (g.reads d) next_number ≡ Some (empty_segment next_number (w.synced + 1))) where
      counted_rolled : IsCounted rolled_view
      counted_rolled = record {
        older = w.segments;
        newest = places_of_segment (new_segment next_number (w.synced + 1));
        segments = refl;
        number = (omega (arith, kept.counted.number), high);
        ends = omega arith;
        long = (omega arith, omega arith);
        least = kept.counted.least;
        first = kept.counted.first;
        most = kept.counted.most;
        written = kept.counted.written;
        counted = λ none. kept.counted.counted fine;
        clients = kept.counted.clients;
        noted = kept.counted.noted;
      }

      pub kept_rolled : IsKept g rolled_view
      unfolding counted_rolled
      kept_rolled = record {
        counted = counted_rolled;
        told = frame.told ∙ kept.told;
        at_work = λ none told.
            let work = kept.at_work fine (told_before told) in
            record {
              gate = empty_gate next_number (w.synced + 1) (get (g.reads d) next_number) (made (told_before told));
              durable = durable;
              none_above = λ q above. frame.others (told_before told) q (omega (arith, above)) ∙ work.none_above q (omega (arith, above));
              none_removed = λ q above pends. work.none_removed q (omega (arith, above)) (frame.pending q pends);
            };
        holds = λ told well log is_log placed.
            rolled_holds (told_before told) well log (record { base = is_log.base; spelled = is_log.spelled; taken = is_log.taken; bytes = is_log.bytes; is = is_log.is }) placed durable (made (told_before told));
      }

-- ---- other records of the ring are known

-- the taker has taken no more, and the same is kept
pub kept_same : {D : Type 0} (g : Ghosts D) (w : WriterView D) (t : TakerView)
    → t.first ≡ w.taker.first → t.taken ≡ w.taker.taken → IsKept g w → IsKept g (record w { taker = t })
kept_same g w t first taken kept = record {
  counted = record {
    older = kept.counted.older;
    newest = kept.counted.newest;
    segments = kept.counted.segments;
    number = kept.counted.number;
    ends = kept.counted.ends;
    long = kept.counted.long;
    least = omega (arith, kept.counted.least, first);
    first = omega (arith, kept.counted.first, first);
    most = omega (arith, kept.counted.most, first, ap length taken);
    written = omega (arith, kept.counted.written, first, ap length taken);
    counted = λ fine. let (written, is, counts) = kept.counted.counted fine in (written, taken ∙ is, omega (arith, counts, first));
    clients = kept.counted.clients;
    noted = kept.counted.noted;
  };
  told = kept.told;
  at_work = kept.at_work;
  holds = λ told well log is_log placed.
      let held = kept.holds told well log (record { base = is_log.base; spelled = is_log.spelled; taken = is_log.taken; bytes = sym taken ∙ is_log.bytes; is = is_log.is }) placed in
      record {
        next_is = omega (arith, held.next_is, first, ap length taken);
        each = held.each;
        newest = held.newest;
        read = held.read;
        alike = held.alike;
      };
}

-- ---- another LSN is noted

all_set : (n : ℕ) (ns : List ℕ) (i m : ℕ) → m ≤ n → All (λ k. k ≤ n) ns → All (λ k. k ≤ n) (set ns i m)
all_set n ns i m le all k d lt = elim (cases_eq k i) [
  | inl same ↦ subst (λ (j : ℕ). get_or (set ns i m) j d ≤ n) (sym same) (subst (λ (x : ℕ). x ≤ n) (sym (get_or-set_same ns i m d (omega (arith, lt, same, length-set ns i m)))) le)
  | inr other ↦ subst (λ (x : ℕ). x ≤ n) (sym (get_or-set_other ns i k m d other)) (all k d (omega (arith, lt, length-set ns i m)))
]

pub kept_noted : {D : Type 0} (g : Ghosts D) (w : WriterView D) (at lsn : ℕ)
    → lsn ≤ w.synced → IsKept g w → IsKept g (record w { noted = set w.noted at lsn })
kept_noted g w at lsn le kept = record {
  counted = record {
    older = kept.counted.older;
    newest = kept.counted.newest;
    segments = kept.counted.segments;
    number = kept.counted.number;
    ends = kept.counted.ends;
    long = kept.counted.long;
    least = kept.counted.least;
    first = kept.counted.first;
    most = kept.counted.most;
    written = kept.counted.written;
    counted = λ fine. kept.counted.counted fine;
    clients = (omega (arith, kept.counted.clients.0, length-set w.noted at lsn), omega (arith, kept.counted.clients.1, length-set w.noted at lsn));
    noted = all_set w.synced w.noted at lsn le kept.counted.noted;
  };
  told = kept.told;
  at_work = kept.at_work;
  holds = λ told well log is_log placed.
      let held = kept.holds told well log (record { base = is_log.base; spelled = is_log.spelled; taken = is_log.taken; bytes = is_log.bytes; is = is_log.is }) placed in
      record {
        next_is = held.next_is;
        each = held.each;
        newest = held.newest;
        read = held.read;
        alike = held.alike;
      };
}

-- ---- what holds of both answers

pub by_answer : {X E P A B : Type 0} (r : Result X E) → OnOk r A → OnErr r B → (A → P) → (B → P) → P
by_answer (Ok x) a b f h = f a
by_answer (Err e) a b f h = h b
