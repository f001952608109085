-- What always holds of a journal holds once it is opened, once a group was written or refused, and where only its ring or
-- its notes have changed.
use Rattle.std.proofs.Common.{◌≡◌, ◌≢◌, ⊎_elim, ℕ, zero, suc, ◌+◌, ◌-◌, ◌<◌, ◌≤◌, nat_lt, Bool, true, false, cond, List, [], ◌∷◌, ◌++◌, length, map, take, drop, Some, None, IsTrue, Result, Ok, Err}
use Rattle.std.proofs.Common.{refl, sym, ap, ◌∙◌, subst, arith, append-nil, take-append-drop, length-append, option_to_list}
use Rattle.std.proofs.Math.Seq.{take-append_seam, take-length}
use Rattle.std.proofs.lemmas.List.{take-map, length-map}
use Rattle.std.specs.Prelude.{IfOk, OnOk, OnErr}
use Rattle.std.specs.FinMap.{entries}
use Rattle.frs_types.specs.declared.record.Record.{Record}
use Rattle.frs_types.specs.Records.{Log, IsPlaced, next_lsn, from_lowest, named_lowest}
use Rattle.frs_disk.specs.declared.disk.Disk.{Ghosts}
use Rattle.frs_disk.specs.Disk.{Image}
use Rattle.frs_disk.specs.Frames.{Within, OnlyReads, GoesOn}
use Rattle.frs_disk.proofs.Frames.{goes_on_join, reads_go_on}
use Rattle.frs_disk.proofs.Moments.{within_join}
use Rattle.frs_frame.specs.Spelling.{spelling}
use Rattle.frs_segment.specs.Segments.{FileList, WholeSegment, Spells}
use Rattle.frs_segment.specs.Stores.{IsFound, SpellsAlike, LeavesAlike, log_up_to}
use Rattle.frs_segment.specs.declared.layout.Found.{Found}
use Rattle.frs_slots.specs.Views.{TakerView, next_taken}
use Rattle.frs_writer.specs.Places.{number_of_newest, with_newest_grown}
use Rattle.frs_writer.specs.Writer.{WriterView, IsLog}
use Rattle.frs_segment.specs.declared.format.TheConstants.{MOST_RECORDS}
use Rattle.frs_segment.specs.declared.layout.Segment.{Segment}
use Rattle.frs_segment.specs.Scanning.{places_of_segment}
use Rattle.frs_writer.specs.Groups.{joined_records}
use Rattle.frs_writer.specs.LogImages.{new_segment}
use Rattle.frs_writer.specs.Writing.{SpellsFrom, TakesMore, WritesGroup, IsDurable, IsLeftRefused, HasWriteCause, LeavesFound, LeavesLog, is_due, segments_after_roll}
use Rattle.frs_writer.proofs.Places.{newest_number}
use Rattle.frs_writer.proofs.IsPlaced.{placed_front}
use Rattle.frs_writer.proofs.LongerLog.{with_more, spells_more}
use Rattle.frs_writer.proofs.ShowsLog.{base_lowest}
use Rattle.frs_disk.specs.declared.disk.Fault.{Fault}
use Rattle.frs_writer.specs.declared.fault.WriteFault.{WriteFault}
use Rattle.frs_writer.specs.declared.fault.WriteFault.TheVariants.{Disk, Broken, NumberLimit, Memory}
use Rattle.frs_store.specs.Journal.{JournalView, OfKnownLog, IsJournal, HasMore}

-- ---- logs

-- a log that files spell is whole up to its newest record
whole_up_to : (image : FileList) (base : Log) (n : ℕ) → Spells image base → next_lsn base ≡ n + 1 → log_up_to n base ≡ base
whole_up_to image base n (segments, spells) next =
    let first : base.first ≡ named_lowest base.records = base_lowest image segments base spells in
    let count : n + 1 - base.first ≡ length base.records = omega (arith, next) in
    let all : take (n + 1 - base.first) base.records ≡ base.records = ap (λ k. take k base.records) count ∙ take-length base.records in
    let zero : base.first - base.first ≡ 0 = omega arith in
    ap (from_lowest base.first) all
    ∙ ap (λ k. record { first = k; records = drop (k - base.first) base.records }) (sym first)
    ∙ ap (λ k. record { first = base.first; records = drop k base.records }) zero

nothing_spelled : (rs : List Record) → map spelling rs ≡ [] → rs ≡ []
nothing_spelled [] none = refl
nothing_spelled (r ∷ rs) none = absurd cc

-- the log of a writer that has taken nothing
log_untaken : {D : Type 0} (g : Ghosts D) (w : WriterView D) (log : Log) → w.taker.taken ≡ [] → (its : IsLog g w log) → log ≡ its.base
log_untaken g w log none its =
    let nothing : its.taken ≡ [] = nothing_spelled its.taken (sym its.bytes ∙ none) in
    its.is ∙ ap (λ (rs : List Record). record its.base { records = its.base.records ++ rs }) nothing
    ∙ ap (λ (rs : List Record). record its.base { records = rs }) (append-nil its.base.records)

-- the log before more records were taken
pub older_log : {D : Type 0} (g : Ghosts D) (old new : WriterView D) → TakesMore old new → (log : Log) → IsLog g new log
    → (before : Log) × IsLog g old before × ((more : List Record) × (log ≡ with_more before more))
older_log g old new same log its =
    let k : ℕ = length old.taker.taken in
    let front : List Record = take k its.taken in
    let behind : List Record = drop k its.taken in
    let parts : front ++ behind ≡ its.taken = take-append-drop k its.taken in
    let bytes : old.taker.taken ≡ map spelling front =
    sym (take-append_seam old.taker.taken same.more) ∙ ap (take k) (sym same.taken) ∙ ap (take k) its.bytes ∙ take-map spelling k its.taken in (
      record its.base { records = its.base.records ++ front },
      record {
        base = its.base;
        spelled = subst (λ d. Spells (entries (g.reads d)) its.base) same.opened its.spelled;
        taken = front;
        bytes = bytes;
        is = refl;
      },
      (
        behind,
        its.is ∙ ap (λ (rs : List Record). record its.base { records = its.base.records ++ rs }) (sym parts)
            ∙ ap (λ (rs : List Record). record its.base { records = rs }) (sym (append_joined its.base.records front behind)),
      ),
    )
  where
    append_joined : (xs ys zs : List Record) → (xs ++ ys) ++ zs ≡ xs ++ (ys ++ zs)
    append_joined [] ys zs = refl
    append_joined (x ∷ xs) ys zs = ap (λ l. x ∷ l) (append_joined xs ys zs)

-- its records stand in their places
older_placed : (before log : Log) (more : List Record) → log ≡ with_more before more → IsPlaced log → IsPlaced before
older_placed before log more is placed =
    placed_front 0 before.first before.records more (subst IsPlaced is placed)

-- ---- only the ring or the notes have changed

module _ {D : Type 0} (g : Ghosts D) where
  same_log : (old new : WriterView D) → new.opened ≡ old.opened → new.taker.taken ≡ old.taker.taken → (log : Log) → IsLog g new log → IsLog g old log
  same_log old new opened taken log its = record {
    base = its.base;
    spelled = subst (λ d. Spells (entries (g.reads d)) its.base) opened its.spelled;
    taken = its.taken;
    bytes = sym taken ∙ its.bytes;
    is = its.is;
  }

  pub with_taker : (j : JournalView D) (t : TakerView) → t.first ≡ j.writer.taker.first → t.taken ≡ j.writer.taker.taken → IsJournal g j
      → IsJournal g (record j { writer = record j.writer { taker = t } })
  with_taker j t first taken is = record {
    looked = is.looked;
    frame = is.frame;
    least = is.least;
    first = first ∙ is.first;
    begins = is.begins;
    counted = λ none. (λ i. first i + length (taken i)) ∙ is.counted none;
    numbers = is.numbers;
    since = λ told alike log its placed.
        is.since told alike log (same_log j.writer (record j.writer { taker = t }) refl taken log its) placed;
    now = λ told alike log its placed.
        is.now told alike log (same_log j.writer (record j.writer { taker = t }) refl taken log its) placed;
  }

  pub with_noted : (j : JournalView D) (noted : List ℕ) → IsJournal g j → IsJournal g (record j { writer = record j.writer { noted = noted } })
  with_noted j noted is = record {
    looked = is.looked;
    frame = is.frame;
    least = is.least;
    first = is.first;
    begins = is.begins;
    counted = is.counted;
    numbers = is.numbers;
    since = λ told alike log its placed.
        is.since told alike log (same_log j.writer (record j.writer { noted = noted }) refl refl log its) placed;
    now = λ told alike log its placed.
        is.now told alike log (same_log j.writer (record j.writer { noted = noted }) refl refl log its) placed;
  }

-- ---- the opening

module _ {D : Type 0} (g : Ghosts D)
    (counts : (disk : D) (t : ℕ) (c : Image) → t ≤ g.moment disk → g.may_leave disk c → g.left_since disk t c)
    (earlier : (disk : D) (s t : ℕ) (c : Image) → s ≤ t → g.left_since disk t c → g.left_since disk s c)
    (one_log : (image : FileList) (log other : Log) → Spells image log → Spells image other → log ≡ other)
    (start disk : D) (durable number : ℕ) (w : WriterView D) (found : Found)
    (looked : OnlyReads g start disk) (opened : w.opened ≡ disk) (none : w.taker.taken ≡ [])
    (frame : GoesOn g disk w.disk) (crash : LeavesFound g disk w.disk)
    (at_start : durable + 1 ≡ found.next) (synced : w.synced + 1 ≡ found.next)
    (spelled : IsTrue (g.tells disk) → (segments : List WholeSegment) × (log : Log) × IsFound (entries (g.reads disk)) segments log found) where
  told_now : IsTrue (g.tells start) → IsTrue (g.tells disk)
  told_now told = subst IsTrue (sym looked.told) told

  base_next : IsTrue (g.tells start) → (base : Log) → Spells (entries (g.reads disk)) base → next_lsn base ≡ durable + 1
  base_next told base spells =
      let (segments, log, is) = spelled (told_now told) in
      ap next_lsn (one_log (entries (g.reads disk)) base log spells (segments, is.spelled)) ∙ sym is.next_is ∙ sym at_start

  alike_now : LeavesAlike g start → LeavesAlike g disk
  alike_now alike c left = subst (λ (files : Image). SpellsAlike (entries files) (entries c)) (sym looked.seen) (alike c (looked.crash c left))

  spelled_now : (base : Log) → Spells (entries (g.reads w.opened)) base → Spells (entries (g.reads disk)) base
  spelled_now base = subst (λ d. Spells (entries (g.reads d)) base) opened

  -- an image that spells the log at the opening spells it up to its end
  from_base : IsTrue (g.tells start) → (log : Log) (its : IsLog g w log) (c : Image) → Spells (entries c) its.base → SpellsFrom durable log c
  from_base told log its c spells =
      let next : next_lsn its.base ≡ durable + 1 = base_next told its.base (spelled_now its.base its.spelled) in
      let whole : log_up_to durable its.base ≡ its.base = whole_up_to (entries c) its.base durable spells next in
      subst (λ (l : Log). SpellsFrom durable l c) (sym (log_untaken g w log none its)) (
        durable,
        (let le : durable ≤ durable = omega arith in le),
        (let lt : durable < next_lsn its.base = omega (arith, next) in lt),
        subst (Spells (entries c)) (sym whole) spells,
      )

  -- an image of the opening
  since_opening : IsTrue (g.tells start) → LeavesAlike g start → (log : Log) → IsLog g w log → Within g disk w.disk (SpellsFrom durable log)
  since_opening told alike log its c left =
      from_base told log its c (crash.images (told_now told) (alike_now alike) its.base (spelled_now its.base its.spelled) c left)

  -- an image from before it
  since_start : IsTrue (g.tells start) → LeavesAlike g start → (log : Log) → IsLog g w log → Within g start disk (SpellsFrom durable log)
  since_start told alike log its c left =
      let read : Spells (entries (g.reads start)) its.base =
      subst (λ (files : Image). Spells (entries files) its.base) looked.seen (spelled_now its.base its.spelled) in
      let (others, by, same) = alike c (looked.within c left) its.base read.0 read.1 in
      from_base told log its c (others, by)

  pub opened_journal : w.taker.first ≡ found.next → w.kept ≡ None → number_of_newest w.segments ≡ number
      → IsJournal g (record { start = start; durable = durable; number = number; writer = w })
  opened_journal first kept newest = record {
    looked = subst (OnlyReads g start) (sym opened) looked;
    frame = goes_on_join g earlier start disk w.disk (reads_go_on g start disk looked) frame;
    least = omega (arith, at_start, synced);
    first = first ∙ sym at_start;
    begins = λ told base spells. base_next told base (spelled_now base spells);
    counted = λ fine.
        let taken : length w.taker.taken ≡ 0 = ap length none in
        let waits : length (option_to_list w.kept) ≡ 0 = ap (λ o. length (option_to_list o)) kept in
        omega (arith, taken, waits, first, synced);
    numbers = λ fine. omega (arith, newest, at_start, synced);
    since = λ told alike log its placed.
        within_join g start disk w.disk (SpellsFrom durable log) looked.time frame.time (since_start told alike log its) (since_opening told alike log its);
    now = λ told alike log its placed c left.
        let same : durable ≡ w.synced = omega (arith, at_start, synced) in
        subst (λ n. SpellsFrom n log c) same (since_opening told alike log its c (counts w.disk (g.moment disk) c frame.time.later left));
  }

-- the opening is refused
pub refused_leaves : {D : Type 0} (g : Ghosts D) (start disk last : D) → OnlyReads g start disk → GoesOn g disk last → LeavesFound g disk last
    → IsTrue (g.tells disk) → LeavesAlike g start → (log : Log) → Spells (entries (g.reads disk)) log
    → Within g start last (λ c. Spells (entries c) log)
refused_leaves g start disk last looked on found told alike log spells =
    let read : Spells (entries (g.reads start)) log = subst (λ (files : Image). Spells (entries files) log) looked.seen spells in
    within_join g start disk last (λ c. Spells (entries c) log) looked.time on.time
    (λ c left. let (others, by, same) = alike c (looked.within c left) log read.0 read.1 in (others, by))
    (found.images told
    (λ c left. subst (λ (files : Image). SpellsAlike (entries files) (entries c)) (sym looked.seen) (alike c (looked.crash c left))) log spells)

-- ---- the numbers of segments

pub grown_number : (count body : ℕ) (segments : List Segment) → number_of_newest (with_newest_grown count body segments) ≡ number_of_newest segments
grown_number count body [] = refl
grown_number count body (s ∷ []) = refl
grown_number count body (s ∷ t ∷ []) = refl
grown_number count body (s ∷ t ∷ u ∷ segments) = grown_number count body (t ∷ u ∷ segments)

pub rolled_number : {D : Type 0} (w : WriterView D) → number_of_newest (segments_after_roll w) ≤ number_of_newest w.segments + 1
rolled_number w = by (is_due w)
  where
    by : (b : Bool) → number_of_newest (cond b (w.segments ++ places_of_segment (new_segment (number_of_newest w.segments + 1) (w.synced + 1)) ∷ []) w.segments)
        ≤ number_of_newest w.segments + 1
    by true = let is = newest_number w.segments (places_of_segment (new_segment (number_of_newest w.segments + 1) (w.synced + 1))) in omega (arith, is)
    by false = omega arith

written_number : {D : Type 0} (old new : WriterView D) (count : ℕ) → WritesGroup MOST_RECORDS count old new
    → number_of_newest new.segments ≤ number_of_newest old.segments + 1
written_number old new count wrote =
    let rolled : number_of_newest (segments_after_roll old) ≤ number_of_newest old.segments + 1 = rolled_number old in
    let same : number_of_newest new.segments ≡ number_of_newest (segments_after_roll old) = ap number_of_newest wrote.segments ∙ by (nat_lt 0 count) in
    omega (arith, rolled, same)
  where
    by : (b : Bool) → number_of_newest (cond b (with_newest_grown count (length (joined_records wrote.group)) (segments_after_roll old)) (segments_after_roll old))
        ≡ number_of_newest (segments_after_roll old)
    by true = grown_number count (length (joined_records wrote.group)) (segments_after_roll old)
    by false = refl

-- ---- a group

module _ {D : Type 0} (g : Ghosts D)
    (counts : (disk : D) (t : ℕ) (c : Image) → t ≤ g.moment disk → g.may_leave disk c → g.left_since disk t c)
    (earlier : (disk : D) (s t : ℕ) (c : Image) → s ≤ t → g.left_since disk t c → g.left_since disk s c)
    (j : JournalView D) (w : WriterView D) (is : IsJournal g j) (same : TakesMore j.writer w)
    (frame : GoesOn g j.writer.disk w.disk) (crash : LeavesLog g j.writer w) where
  abbrev after : JournalView D
  after = record j { writer = w }

  told_at : IsTrue (g.tells j.start) → IsTrue (g.tells j.writer.disk)
  told_at told = subst IsTrue (sym is.frame.told) told

  well : LeavesAlike g j.start → LeavesAlike g w.opened
  well alike = subst (λ d. LeavesAlike g d) (sym same.opened) (λ c left.
      subst (λ (files : Image). SpellsAlike (entries files) (entries c)) (sym is.looked.seen) (alike c (is.looked.crash c left)))

  -- up to the last LSN that was durable at the begin of the call
  in_call : IsTrue (g.tells j.start) → LeavesAlike g j.start → (log : Log) → IsLog g w log → IsPlaced log
      → Within g j.writer.disk w.disk (SpellsFrom j.writer.synced log)
  in_call told alike log its placed = crash.images (told_at told) (well alike) log its placed

  from_lower : (low high : ℕ) (log : Log) (c : Image) → low ≤ high → SpellsFrom high log c → SpellsFrom low log c
  from_lower low high log c le (n, least, most, spells) = (n, (let up : low ≤ n = omega (arith, le, least) in up), most, spells)

  since_then : OfKnownLog g after (λ log. Within g j.start w.disk (SpellsFrom j.durable log))
  since_then told alike log its placed =
      let (before, its_before, (more, is_more)) = older_log g j.writer w same log its in
      within_join g j.start j.writer.disk w.disk (SpellsFrom j.durable log) is.frame.time frame.time
      (λ c left. spells_more j.durable before log more c is_more
      (is.since told alike before its_before (older_placed before log more is_more placed) c left))
      (λ c left. from_lower j.durable j.writer.synced log c is.least (in_call told alike log its placed c left))

  now_at_least : OfKnownLog g after (λ log. (c : Image) → g.may_leave w.disk c → SpellsFrom j.writer.synced log c)
  now_at_least told alike log its placed c left =
      in_call told alike log its placed c (counts w.disk (g.moment j.writer.disk) c frame.time.later left)

  -- Behind a group the next LSN is above what is durable, and so is it of the log.
  log_next : IsTrue (g.tells j.start) → (log : Log) → IsLog g w log → next_lsn log ≡ next_taken w.taker
  log_next told log its =
      let begins : next_lsn its.base ≡ j.durable + 1 =
      is.begins told its.base (subst (λ d. Spells (entries (g.reads d)) its.base) same.opened its.spelled) in
      let records : length log.records ≡ length its.base.records + length its.taken =
      ap (λ (l : Log). length l.records) its.is ∙ length-append its.base.records its.taken in
      let firsts : log.first ≡ its.base.first = ap (λ (l : Log). l.first) its.is in
      let taken : length w.taker.taken ≡ length its.taken = ap length its.bytes ∙ length-map its.taken spelling in
      let first : w.taker.first ≡ j.durable + 1 = same.ring.1 ∙ is.first in
      omega (arith, begins, records, firsts, taken, first)

  -- all but what depends on the answer
  pub group_journal : j.durable ≤ w.synced
      → (w.ended ≡ None → next_taken w.taker ≡ w.synced + 1 + length (option_to_list w.kept))
      → (w.ended ≡ None → number_of_newest w.segments + j.durable ≤ j.number + w.synced)
      → OfKnownLog g after (λ log. (c : Image) → g.may_leave w.disk c → SpellsFrom w.synced log c) → IsJournal g after
  group_journal least counted numbers now = record {
    looked = subst (OnlyReads g j.start) (sym same.opened) is.looked;
    frame = goes_on_join g earlier j.start j.writer.disk w.disk is.frame frame;
    least = least;
    first = same.ring.1 ∙ is.first;
    begins = λ told base spells. is.begins told base (subst (λ d. Spells (entries (g.reads d)) base) same.opened spells);
    counted = counted;
    numbers = numbers;
    since = since_then;
    now = now;
  }

  -- a group that was written
  pub written_journal : (count : ℕ) → WritesGroup MOST_RECORDS count j.writer w → IsDurable g j.writer w → j.writer.ended ≡ None
      → w.ended ≡ None → 1 ≤ count → IsJournal g after
  written_journal count wrote durable before fine some =
      let next : next_taken w.taker ≡ w.synced + 1 + length (option_to_list w.kept) = counted_now count wrote before in
      group_journal (omega (arith, is.least, wrote.synced)) (λ _. next) (λ _. more_segments count wrote before some)
      (λ told alike log its placed c left. (
        w.synced,
        (let le : w.synced ≤ w.synced = omega arith in le),
        (let lt : w.synced < next_lsn log = omega (arith, log_next told log its, next) in lt),
        durable.spelled (told_at told) (well alike) log its placed c left,
      ))
    where
      counted_now : (count : ℕ) → WritesGroup MOST_RECORDS count j.writer w → j.writer.ended ≡ None
          → next_taken w.taker ≡ w.synced + 1 + length (option_to_list w.kept)
      counted_now count wrote before =
          let gathers = wrote.gathers in
          let old = is.counted before in
          let taken : length w.taker.taken ≡ length j.writer.taker.taken + length gathers.taken =
          ap length gathers.taken_are ∙ length-append j.writer.taker.taken gathers.taken in
          let group : length wrote.group + length (option_to_list w.kept) ≡ length (option_to_list j.writer.kept) + length gathers.taken =
          sym (length-append wrote.group (option_to_list w.kept)) ∙ ap length gathers.group_is ∙ length-append (option_to_list j.writer.kept) gathers.taken in
          omega (arith, old, taken, group, wrote.synced, wrote.counted, gathers.ring.1)

      more_segments : (count : ℕ) → WritesGroup MOST_RECORDS count j.writer w → j.writer.ended ≡ None → 1 ≤ count
          → number_of_newest w.segments + j.durable ≤ j.number + w.synced
      more_segments count wrote before some =
          let most : number_of_newest w.segments ≤ number_of_newest j.writer.segments + 1 = written_number j.writer w count wrote in
          omega (arith, most, is.numbers before, wrote.synced, some)

  -- a group that was refused
  pub refused_journal : w.synced ≡ j.writer.synced → (w.ended ≡ None → w ≡ j.writer) → IsJournal g after
  refused_journal synced kept =
      group_journal (omega (arith, is.least, synced))
      (λ fine. subst (λ v. next_taken v.taker ≡ v.synced + 1 + length (option_to_list v.kept)) (sym (kept fine)) (is.counted (ap (λ v. v.ended) (sym (kept fine)) ∙ fine)))
      (λ fine. subst (λ v. number_of_newest v.segments + j.durable ≤ j.number + v.synced) (sym (kept fine)) (is.numbers (ap (λ v. v.ended) (sym (kept fine)) ∙ fine)))
      (λ told alike log its placed c left. subst (λ n. SpellsFrom n log c) (sym synced) (now_at_least told alike log its placed c left))

-- ---- what a group was answered

-- where there is something to write, some of it is written
pub writes_some : {D : Type 0} (old new : WriterView D) (count : ℕ) → WritesGroup MOST_RECORDS count old new → HasMore old → 1 ≤ count
writes_some old new zero wrote more =
    let (none_kept, still_none, missed) = wrote.none refl in
    absurd (⊎_elim
    (λ (kept : old.kept ≢ None). kept none_kept)
    (λ (lt : length old.taker.taken < old.taker.known).
    ⊎_elim
    (λ (full : length wrote.group ≡ MOST_RECORDS). omega (arith, full, wrote.counted))
    (λ stops.
    let known : new.taker.known ≡ length new.taker.taken = (stops still_none).0 in
    let same_known : new.taker.known ≡ old.taker.known = ap (λ (t : TakerView). t.known) missed.same in
    let same_taken : length new.taker.taken ≡ length old.taker.taken = ap (λ (t : TakerView). length t.taken) missed.same in
    omega (arith, lt, known, same_known, same_taken))
    wrote.gathers.stops)
    more)
writes_some old new (suc n) wrote more = omega arith

-- a refusal that doesn't end the writer leaves it as it was
left_or_ended : {D : Type 0} (g : Ghosts D) (old new : WriterView D) (fault : WriteFault) → HasWriteCause {D = D} {X = ℕ} g old new (Err fault) → new.ended ≡ None → new ≡ old
left_or_ended g old new Disk cause fine = absurd (some_none (sym cause.2 ∙ fine))
  where
    some_none : {f : Fault} → Some f ≡ None → ⊥
    some_none is = absurd cc
left_or_ended g old new (Broken at_opening now) cause fine = cause.4
left_or_ended g old new (NumberLimit number) cause fine = cause.4
left_or_ended g old new Memory cause fine = ⊎_elim
    (λ (same : new ≡ old). same)
    (λ cut. absurd (some_none (sym cut.1 ∙ fine)))
    cause.2
  where
    some_none : {f : Fault} → Some f ≡ None → ⊥
    some_none is = absurd cc

module _ {D : Type 0} (g : Ghosts D)
    (counts : (disk : D) (t : ℕ) (c : Image) → t ≤ g.moment disk → g.may_leave disk c → g.left_since disk t c)
    (earlier : (disk : D) (s t : ℕ) (c : Image) → s ≤ t → g.left_since disk t c → g.left_since disk s c)
    (j : JournalView D) (w : WriterView D) (is : IsJournal g j) (same : TakesMore j.writer w)
    (frame : GoesOn g j.writer.disk w.disk) (crash : LeavesLog g j.writer w) (more : HasMore j.writer) where
  pub grouped : (r : Result ℕ WriteFault) → IfOk r (λ count. WritesGroup MOST_RECORDS count j.writer w) → OnOk r (IsDurable g j.writer w)
      → OnErr r (IsLeftRefused g MOST_RECORDS j.writer w) → HasWriteCause g j.writer w r → IsJournal g (record j { writer = w })
  grouped (Ok count) wrote durable refused cause =
      written_journal g counts earlier j w is same frame crash count wrote durable cause.1 cause.2 (writes_some j.writer w count wrote more)
  grouped (Err fault) wrote durable refused cause =
      refused_journal g counts earlier j w is same frame crash refused.synced (left_or_ended g j.writer w fault cause)

pub some_written : {D : Type 0} (old new : WriterView D) (r : Result ℕ WriteFault) → HasMore old
    → IfOk r (λ count. WritesGroup MOST_RECORDS count old new) → IfOk r (λ count. 1 ≤ count)
some_written old new (Ok count) more wrote = writes_some old new count wrote more
some_written old new (Err fault) more wrote = tt

-- ---- a renewal of the ring

-- it was done, and only the taker is another, or it was refused, and the writer is as it was
pub renewed : {D T E : Type 0} (A B : Type 0) (g : Ghosts D) (j : JournalView D) (new : WriterView D) (t : TakerView) → t.first ≡ j.writer.taker.first → t.taken ≡ j.writer.taker.taken → IsJournal g j
    → (r : Result T E) → OnOk r ((new ≡ record j.writer { taker = t }) × A) → OnErr r (B × (new ≡ j.writer)) → IsJournal g (record j { writer = new })
renewed A B g j new t first taken is (Ok value) done refused = subst (λ (w : WriterView _). IsJournal g (record j { writer = w })) (sym done.0) (with_taker g j t first taken is)
renewed A B g j new t first taken is (Err fault) done refused = subst (λ (w : WriterView _). IsJournal g (record j { writer = w })) (sym refused.1) is
