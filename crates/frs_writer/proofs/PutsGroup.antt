-- What holds of a writer after a group: it was written, or its write was cut short, or there was none.
use Rattle.std.proofs.Common.{◌≡◌, ◌⊎◌, ℕ, ◌+◌, ◌-◌, ◌^◌, ◌<◌, ◌≤◌, List, [], ◌∷◌, ◌++◌, length, take, Option, Some, None, refl, sym, ◌∙◌, ap, subst, arith, append_assoc, length-append, IsTrue}
use Rattle.std.specs.List.{All}
use Rattle.std.specs.Option.{option_to_list}
use Rattle.std.proofs.lemmas.List.{take_at}
use Rattle.std.specs.FinMap.{entries, get}
use Rattle.frs_types.specs.Records.{Log, IsPlaced, next_lsn}
use Rattle.frs_disk.specs.declared.disk.Disk.{Ghosts}
use Rattle.frs_disk.specs.declared.disk.Fault.{Fault}
use Rattle.frs_disk.specs.Disk.{Image, SameElsewhere, bytes_at}
use Rattle.frs_disk.specs.Frames.{ChangesOneFile, IsSynced, Within, LeftNoFile}
use Rattle.frs_segment.specs.Stores.{LeavesAlike, HasSegments, HasNewestAt}
use Rattle.frs_segment.specs.declared.layout.Segment.{Segment}
use Rattle.frs_slots.specs.Views.{TakerView, next_taken}
use Rattle.frs_segment.specs.Front.{chunk_head}
use Rattle.frs_writer.specs.Gates.{IsShut, IsAtGate, sealed_chunk}
use Rattle.frs_writer.specs.Groups.{joined_records, GathersGroup}
use Rattle.frs_writer.specs.Invariant.{IsCounted, IsAtWork, ShowsFrom, durable_of, IsKept}
use Rattle.frs_writer.specs.LogImages.{ShowsLog, EndsWithSegment, with_chunk}
use Rattle.frs_writer.specs.Writer.{WriterView, IsLog, WasEmpty}
use Rattle.frs_writer.specs.Places.{with_chunk_place, with_newest_grown}
use Rattle.frs_writer.proofs.IsShut.{at_gate}
use Rattle.frs_writer.proofs.Behind.{Behind, behind, shows_grown, number_is, group_at, group_read, group_images, group_rests, segments_grown}
use Rattle.frs_writer.proofs.Grouping.{grown_is, next_is}
use Rattle.frs_writer.proofs.Places.{newest_grown}
use Rattle.frs_writer.proofs.ShowsLog.{rests_shows}

-- ---- numbers

all_more : (n m : ℕ) (ns : List ℕ) → n ≤ m → All (λ k. k ≤ n) ns → All (λ k. k ≤ m) ns
all_more n m ns le all k d lt = omega (arith, le, all k d lt)

module _ {D : Type 0} (w : WriterView D) (counted : IsCounted w) (limit : ℕ) (t : TakerView) (still : Option (List ℕ)) (group : List (List ℕ)) (gathered : GathersGroup limit w.taker t w.kept still group) where
  long : next_taken t ≡ next_taken w.taker + length gathered.taken
  long = omega (arith, gathered.ring.1, ap length gathered.taken_are, length-append w.taker.taken gathered.taken)

  -- the records that were written, and the group behind them
  group_written : w.ended ≡ None → (written : List (List ℕ)) × (t.taken ≡ written ++ option_to_list still) × (t.first + length written ≡ w.synced + length group + 1)
  group_written fine =
      let (written, taken_are, first) = counted.counted fine in (
        written ++ group,
        gathered.taken_are ∙ ap (λ (l : List (List ℕ)). l ++ gathered.taken) taken_are ∙ append_assoc written (option_to_list w.kept) gathered.taken
            ∙ ap (λ (l : List (List ℕ)). written ++ l) (sym gathered.group_is) ∙ sym (append_assoc written group (option_to_list still)),
        omega (arith, first, length-append written group, gathered.ring.1),
      )

  pub group_within_lsns : w.ended ≡ None → w.synced + length group + 1 ≤ next_taken t
  group_within_lsns fine =
      let (written, taken_are, first) = group_written fine in
      omega (arith, first, ap length taken_are, length-append written (option_to_list still))

  -- a group was written
  pub counted_grown : (d : D) (low : ℕ) (segments : List Segment) → w.ended ≡ None → 1 ≤ length group → counted.newest.length < 2 ^ 20
      → segments ≡ counted.older ++ with_chunk_place (length group) (length (joined_records group)) counted.newest ∷ []
      → IsCounted (record { opened = w.opened; disk = d; taker = t; kept = still; segments = segments; noted = w.noted; pins = w.pins; older = w.older; synced = w.synced + length group; lowest = low; ended = None })
  counted_grown d low segments fine some short is =
      let (written, taken_are, first) = group_written fine in
      record {
        older = counted.older;
        newest = with_chunk_place (length group) (length (joined_records group)) counted.newest;
        segments = is;
        number = counted.number;
        ends = omega (arith, counted.ends);
        long = (omega (arith, counted.long.0), omega (arith, short, gathered.fits));
        least = omega (arith, counted.least, gathered.ring.1);
        first = omega (arith, counted.first, gathered.ring.1);
        most = gathered.within counted.most;
        written = omega (arith, first, ap length taken_are, length-append written (option_to_list still));
        counted = λ none. (written, taken_are, first);
        clients = counted.clients;
        noted = all_more w.synced (w.synced + length group) w.noted (omega arith) counted.noted;
      }

  -- nothing was there to be written
  pub counted_none : w.ended ≡ None → length group ≡ 0
      → IsCounted (record { opened = w.opened; disk = w.disk; taker = t; kept = still; segments = w.segments; noted = w.noted; pins = w.pins; older = w.older; synced = w.synced; lowest = w.lowest; ended = None })
  counted_none fine none =
      let (written, taken_are, first) = group_written fine in
      record {
        older = counted.older;
        newest = counted.newest;
        segments = counted.segments;
        number = counted.number;
        ends = counted.ends;
        long = counted.long;
        least = omega (arith, counted.least, gathered.ring.1);
        first = omega (arith, counted.first, gathered.ring.1);
        most = gathered.within counted.most;
        written = omega (arith, first, none, ap length taken_are, length-append written (option_to_list still));
        counted = λ is. (written, taken_are, omega (arith, first, none));
        clients = counted.clients;
        noted = counted.noted;
      }

  -- a group was taken, and its write was cut short
  pub counted_failed : (d : D) (fault : Fault) → IsCounted (record { opened = w.opened; disk = d; taker = t; kept = still; segments = w.segments; noted = w.noted; pins = w.pins; older = w.older; synced = w.synced; lowest = w.lowest; ended = Some fault })
  counted_failed d fault = record {
    older = counted.older;
    newest = counted.newest;
    segments = counted.segments;
    number = counted.number;
    ends = counted.ends;
    long = counted.long;
    least = omega (arith, counted.least, gathered.ring.1);
    first = omega (arith, counted.first, gathered.ring.1);
    most = gathered.within counted.most;
    written = omega (arith, counted.written, long);
    counted = λ none. absurd (some_none fault none);
    clients = counted.clients;
    noted = counted.noted;
  }
    where
      some_none : (f : Fault) → Some f ≡ None → ⊥
      some_none f is = cc

-- ---- the disk

module _ {D : Type 0} (g : Ghosts D) (old new : D) (s : Segment) (work : IsAtWork g old s) (least : 23 ≤ s.length) where
  pub work_grown : (first count : ℕ) (group : List (List ℕ)) → IsSynced g new s.number → SameElsewhere s.number (g.reads old) (g.reads new) → ((n : ℕ) → g.removing new n → g.removing old n)
      → get (g.reads new) s.number ≡ Some (take (s.length - 1) (bytes_at (g.reads old) s.number) ++ 1 ∷ sealed_chunk first count (joined_records group))
      → IsAtWork g new (with_chunk_place count (length (joined_records group)) s)
  work_grown first count group durable others pending written =
      let here = at_gate (get (g.reads old) s.number) (s.length - 1) work.gate in
      let front : List ℕ = take (s.length - 1) (bytes_at (g.reads old) s.number) in
      let chunk : List ℕ = front ++ (1 ∷ (chunk_head (length (joined_records group)) count first ++ joined_records group)) in
      let whole : front ++ 1 ∷ sealed_chunk first count (joined_records group) ≡ chunk ++ 0 ∷ [] =
      sym (append_assoc front (1 ∷ (chunk_head (length (joined_records group)) count first ++ joined_records group)) (0 ∷ [])) in
      let size : length chunk ≡ s.length + (17 + length (joined_records group)) - 1 =
      length-append front (1 ∷ (chunk_head (length (joined_records group)) count first ++ joined_records group))
      ∙ omega (arith, here.1, least, length-append (chunk_head (length (joined_records group)) count first) (joined_records group)) in
      let file : get (g.reads new) s.number ≡ Some (chunk ++ 0 ∷ []) = written ∙ ap Some whole in
      record {
        gate = subst (IsAtGate (s.length + (17 + length (joined_records group)) - 1)) (sym file) (
          ap (λ (l : List ℕ). l ++ 0 ∷ []) (sym (take_at chunk (0 ∷ []) (s.length + (17 + length (joined_records group)) - 1) size)),
          length-append chunk (0 ∷ []) ∙ ap (λ (n : ℕ). n + 1) size,
        );
        durable = durable;
        none_above = λ q above. others q (omega (arith, above)) ∙ work.none_above q above;
        none_removed = λ q above pends. work.none_removed q above (pending q pends);
      }

-- ---- all of it

module _ {D : Type 0} (g : Ghosts D) (as_read : (disk : D) → IsTrue (g.tells disk) → g.may_leave disk (g.reads disk))
    (counts_now : (disk : D) (t : ℕ) (c : Image) → t ≤ g.moment disk → g.may_leave disk c → g.left_since disk t c)
    (w : WriterView D) (kept : IsKept g w) (fine : w.ended ≡ None)
    (limit : ℕ) (t : TakerView) (still : Option (List ℕ)) (group : List (List ℕ)) (gathered : GathersGroup limit w.taker t w.kept still group) (d : D) (low : ℕ) where
  abbrev pub newest : Segment
  newest = kept.counted.newest

  -- the writer where the group is durable
  abbrev pub grown_view : WriterView D
  grown_view = record { opened = w.opened; disk = d; taker = t; kept = still; segments = with_newest_grown (length group) (length (joined_records group)) w.segments; noted = w.noted; pins = w.pins; older = w.older; synced = w.synced + length group; lowest = low; ended = None }

  -- and where its write was cut short
  abbrev pub failed_view : Fault → WriterView D
  failed_view fault = record { opened = w.opened; disk = d; taker = t; kept = still; segments = w.segments; noted = w.noted; pins = w.pins; older = w.older; synced = w.synced; lowest = w.lowest; ended = Some fault }

  bound : next_taken t ≤ 2 ^ 62
  bound = gathered.within kept.counted.most

  log_within : (w' : WriterView D) (log' : Log) (placed : IsPlaced log') → w'.taker ≡ t → (b : Behind g as_read w w' kept.counted group log') → next_lsn log' ≡ next_taken t
  log_within w' log' placed same b = omega (arith, next_is g w w' group log' b.grouped placed, b.next, b.grouped.more_long, ap (λ (v : TakerView). length v.taken) same, gathered.ring.1)

  module _ (frame : ChangesOneFile g newest.number w.disk d) (few : length group ≤ 256) (some : 1 ≤ length group)
      (images : IsTrue (g.tells w.disk) → Within g w.disk d (λ c. IsShut (take (newest.length - 1) (bytes_at (g.reads w.disk) newest.number)) (get c newest.number)
      ⊎ (get c newest.number ≡ Some (take (newest.length - 1) (bytes_at (g.reads w.disk) newest.number) ++ 1 ∷ sealed_chunk (w.synced + 1) (length group) (joined_records group))))) where
    told_before : IsTrue (g.tells d) → IsTrue (g.tells w.disk)
    told_before told = subst IsTrue frame.told told

    pub images_shown : (w' : WriterView D) → w'.opened ≡ w.opened → w'.taker ≡ t → IsTrue (g.tells w.disk) → LeavesAlike g w.opened → (log' : Log) → IsLog g w' log' → IsPlaced log'
        → Within g w.disk d (λ c. ShowsFrom (WasEmpty g w.opened) (LeftNoFile g w.opened) w.synced log' (entries c))
    images_shown w' same taker told well log' is_log placed =
        let b = behind g as_read w w' kept group gathered.taken still log' fine told well same (ap (λ (v : TakerView). v.taken) taker ∙ gathered.taken_are) gathered.group_is is_log placed in
        group_images g as_read w w' kept.counted group log' placed b some few gathered.fits (omega (arith, log_within w' log' placed taker b, bound)) told d frame.elsewhere (images told)

    pub kept_failed : (fault : Fault) → IsKept g (failed_view fault)
    kept_failed fault = record {
      counted = counted_failed w kept.counted limit t still group gathered d fault;
      told = frame.told ∙ kept.told;
      at_work = λ none. absurd (some_none fault none);
      holds = λ told well log' is_log placed.
          let b = behind g as_read w (failed_view fault) kept group gathered.taken still log' fine (told_before told) well refl gathered.taken_are gathered.group_is is_log placed in
          record {
            next_is = log_within (failed_view fault) log' placed refl b;
            each = λ c left. images_shown (failed_view fault) refl refl (told_before told) well log' is_log placed c (counts_now d (g.moment w.disk) c frame.time.later left);
            newest = λ none. absurd (some_none fault none);
            read = λ none. absurd (some_none fault none);
            alike = λ none. absurd (some_none fault none);
          };
    }
      where
        some_none : (f : Fault) → Some f ≡ None → ⊥
        some_none f is = cc

    module _ (short : newest.length < 2 ^ 20) (durable : IsSynced g d newest.number)
        (written : IsTrue (g.tells w.disk) → get (g.reads d) newest.number ≡ Some (take (newest.length - 1) (bytes_at (g.reads w.disk) newest.number) ++ 1 ∷ sealed_chunk (w.synced + 1) (length group) (joined_records group))) where
      segments_are : with_newest_grown (length group) (length (joined_records group)) w.segments ≡ kept.counted.older ++ with_chunk_place (length group) (length (joined_records group)) newest ∷ []
      segments_are = ap (with_newest_grown (length group) (length (joined_records group))) kept.counted.segments ∙ newest_grown (length group) (length (joined_records group)) kept.counted.older newest

      pub grown_rests : IsTrue (g.tells w.disk) → LeavesAlike g w.opened → (log' : Log) → IsLog g grown_view log' → (placed : IsPlaced log')
          → (b : Behind g as_read w grown_view kept.counted group log')
          × ((c : Image) → g.may_leave d c → EndsWithSegment (WasEmpty g w.opened) (LeftNoFile g w.opened) (entries c) log'.first (durable_of grown_view log').records (with_chunk b.last b.grouped.rs))
      grown_rests told well log' is_log placed =
          let b = behind g as_read w grown_view kept group gathered.taken still log' fine told well refl gathered.taken_are gathered.group_is is_log placed in (
            b,
            λ c left. subst (λ (l : _). EndsWithSegment (WasEmpty g w.opened) (LeftNoFile g w.opened) (entries c) log'.first l (with_chunk b.last b.grouped.rs)) (sym (grown_is g w grown_view group log' b.grouped placed b.next))
                (group_rests g as_read w grown_view kept.counted group log' placed b some few gathered.fits (omega (arith, log_within grown_view log' placed refl b, bound))
                told d (λ x now. counts_now d (g.moment w.disk) x frame.time.later now) frame.elsewhere durable (written told) c left),
          )

      -- what is read has the segments with the group, and in each image the newest files stand at the same places
      grown_read : IsTrue (g.tells w.disk) → LeavesAlike g w.opened → (log' : Log) → IsLog g grown_view log' → IsPlaced log'
          → HasSegments (entries (g.reads d)) (with_newest_grown (length group) (length (joined_records group)) w.segments)
      grown_read told well log' is_log placed =
          let (b, rests) = grown_rests told well log' is_log placed in
          let same : SameElsewhere b.last.number (g.reads w.disk) (g.reads d) = subst (λ (n : ℕ). SameElsewhere n (g.reads w.disk) (g.reads d)) (number_is g as_read w grown_view kept.counted group log' placed b) (frame.others told) in
          group_read g as_read w grown_view kept.counted group log' placed b (g.reads w.disk) (g.reads d) (as_read w.disk told) same (durable_of grown_view log').records (rests (g.reads d) (as_read d (subst IsTrue (sym frame.told) told)))
          b.read (with_newest_grown (length group) (length (joined_records group)) w.segments)
          (segments_grown g as_read w grown_view kept.counted group log' placed b some few gathered.fits (omega (arith, log_within grown_view log' placed refl b, bound)))

      grown_at : IsTrue (g.tells w.disk) → LeavesAlike g w.opened → (log' : Log) → IsLog g grown_view log' → IsPlaced log'
          → (places : List (ℕ × ℕ)) × ((c : Image) → g.may_leave d c → HasNewestAt places log'.first (entries c))
      grown_at told well log' is_log placed =
          let (b, rests) = grown_rests told well log' is_log placed in (
            b.places,
            λ c left.
                let (e, was, same) = frame.elsewhere c (counts_now d (g.moment w.disk) c frame.time.later left) in
                group_at g as_read w grown_view kept.counted group log' placed b e c was (subst (λ (n : ℕ). SameElsewhere n e c) (number_is g as_read w grown_view kept.counted group log' placed b) same)
                (durable_of grown_view log').records (rests c left),
          )

      pub kept_grown : IsKept g grown_view
      unfolding counted_grown
      kept_grown = record {
        counted = counted_grown w kept.counted limit t still group gathered d low (with_newest_grown (length group) (length (joined_records group)) w.segments) fine some short segments_are;
        told = frame.told ∙ kept.told;
        at_work = λ none told. work_grown g w.disk d newest (kept.at_work fine (told_before told)) kept.counted.long.0 (w.synced + 1) (length group) group durable (frame.others (told_before told)) frame.pending (written (told_before told));
        holds = λ told well log' is_log placed.
            let (b, rests) = grown_rests (told_before told) well log' is_log placed in
            record {
              next_is = log_within grown_view log' placed refl b;
              each = λ c left. shows_grown g as_read w grown_view kept.counted group log' placed b c
                  (subst (λ (l : _). ShowsLog (WasEmpty g w.opened) (LeftNoFile g w.opened) (entries c) log'.first l) (grown_is g w grown_view group log' b.grouped placed b.next) (rests_shows (rests c left)));
              newest = λ none. (with_chunk b.last b.grouped.rs, rests, (b.before, segments_grown g as_read w grown_view kept.counted group log' placed b some few gathered.fits (omega (arith, log_within grown_view log' placed refl b, bound))));
              read = λ none. grown_read (told_before told) well log' is_log placed;
              alike = λ none. grown_at (told_before told) well log' is_log placed;
            };
      }
