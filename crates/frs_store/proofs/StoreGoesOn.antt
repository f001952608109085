-- What holds of a store on which a session works holds once a slot was filled, a group written, or room was made.
use Rattle.std.proofs.Common.{◌≡◌, ◌≢◌, inl, inr, ⊎_elim, ℕ, ◌+◌, ◌<◌, ◌≤◌, List, [], ◌∷◌, length, Option, Some, None}
use Rattle.std.proofs.Common.{refl, sym, ap, ◌∙◌, subst, arith, option_to_list, Result, Ok, Err, length-append}
use Rattle.std.specs.List.{AllByRecursion}
use mathlib.Core.List.{IsPrefix}
use Rattle.frs_disk.specs.declared.disk.Disk.{Ghosts}
use Rattle.frs_disk.specs.declared.disk.Fault.{Fault}
use Rattle.frs_disk.specs.Frames.{GoesOn}
use Rattle.frs_slots.specs.Views.{TakerView, DrawerView, AreOfOneRing, next_drawn, next_taken}
use Rattle.frs_history.specs.declared.event.Ack.{Ack}
use Rattle.frs_book.specs.Books.{BookView}
use Rattle.frs_writer.specs.Places.{number_of_newest}
use Rattle.frs_writer.specs.Writer.{WriterView}
use Rattle.frs_writer.specs.Writing.{TakesMore, HasWriteCause}
use Rattle.frs_writer.specs.declared.fault.WriteFault.{WriteFault}
use Rattle.frs_writer.specs.declared.fault.WriteFault.TheVariants.{Disk, Broken, NumberLimit, Memory}
use Rattle.frs_store.specs.declared.store.Store.{Store}
use Rattle.frs_store.specs.Journal.{JournalView, HasMore}
use Rattle.frs_store.specs.Session.{IsOfSession, IsFilled, IsGoing, SameStart}
use Rattle.std.proofs.Common.{is_some, is_none, true, false, append-nil, OnOk, IsErrAnd}
use Rattle.std.proofs.lemmas.Bool.{cases_eq, cases_lt}
use Rattle.frs_types.specs.declared.lock.Lock.{Lock}
use Rattle.frs_types.specs.declared.record.Action.{Action}
use Rattle.frs_types.specs.Locks.{holder_at}
use Rattle.frs_disk.specs.Disk.{Image}
use Rattle.frs_disk.proofs.Frames.{goes_on_none, goes_on_join}
use Rattle.frs_frame.specs.Spelling.{spelling}
use Rattle.frs_slots.specs.Views.{SlotView, HasLooked, HasRoom, IsTakenUp}
use Rattle.frs_history.specs.declared.event.Event.{Event}
use Rattle.frs_book.specs.Drawn.{SessionHistory, action_at, drawing_of, record_for}
use Rattle.frs_book.specs.Books.{SameSession, SameBook, GoesOnWith, HasDrawn, StepAnswers, moment_of, with_ack}
use Rattle.frs_book.specs.declared.step.Step.{Step}
use Rattle.frs_book.specs.declared.step.Step.TheVariants as step
use Rattle.frs_book.proofs.EachStored.{each_to, each_to_more}
use Rattle.frs_store.specs.declared.stop.Stop.{Stop}
use Rattle.frs_store.specs.declared.stop.Stop.TheVariants as stop
use Rattle.frs_store.specs.Session.{is_no_room, faults_of, HasStopCause}
use Rattle.std.specs.FinMap.{entries}
use Rattle.frs_types.specs.Records.{from_lowest}
use Rattle.frs_segment.specs.Segments.{Spells}
use Rattle.frs_store.specs.Stops.{StopHasCause, stop_of_write}

-- what was acknowledged as durable stays so
pub acked_later : (low high : ℕ) → low ≤ high → (acks : List Ack) → AllByRecursion (λ (a : Ack). a.lsn ≤ low) acks → AllByRecursion (λ (a : Ack). a.lsn ≤ high) acks
acked_later low high le = each_to (λ (a : Ack). a.lsn ≤ low) (λ (a : Ack). a.lsn ≤ high) (λ a was. omega (arith, le, was))

-- a front isn't longer than the whole
pub front_length : (taken drawn : List (List ℕ)) → IsPrefix taken drawn → length taken ≤ length drawn
front_length taken drawn (rest, is) = omega (arith, ap length is, length-append taken rest)

module _ {D : Type 0} (g : Ghosts D) (s : Store D) (is : IsOfSession g s) where
  -- only what is known of the ring has changed
  pub with_sure : (sure : ℕ) → IsOfSession g (record s { journal = record s.journal { writer = record s.journal.writer { taker = record s.journal.writer.taker { sure = sure } } } })
  with_sure sure = record {
    one_ring = is.one_ring;
    taken = is.taken;
    clients = is.clients;
    one = is.one;
    opening = is.opening;
    acked = is.acked;
    store = λ told ready. let on = is.store told ready in record {
      before = on.before;
      begins = on.begins;
      spelled = on.spelled;
      durable = on.durable;
      mark = on.mark;
    };
  }

  -- a group was written or refused, and the ends were brought together
  pub with_writer : (w : WriterView D) (taker : TakerView) → TakesMore s.journal.writer w → taker.ring ≡ w.taker.ring → taker.first ≡ w.taker.first
      → taker.taken ≡ w.taker.taken → IsPrefix taker.taken s.book.drawer.drawn → s.journal.writer.synced ≤ w.synced
      → IsOfSession g (record s { journal = record s.journal { writer = record w { taker = taker } } })
  with_writer w taker same ring first taken prefix rises = record {
    one_ring = (is.one_ring.0 ∙ sym same.ring.0 ∙ sym ring, is.one_ring.1 ∙ sym same.ring.1 ∙ sym first);
    taken =
        let firsts : taker.first ≡ s.book.drawer.first = first ∙ same.ring.1 ∙ sym is.one_ring.1 in
        omega (arith, firsts, front_length taker.taken s.book.drawer.drawn prefix);
    clients = ap length same.noted ∙ is.clients;
    one = is.one;
    opening = is.opening;
    acked = acked_later s.journal.writer.synced w.synced rises s.book.acks is.acked;
    store = λ told ready. let on = is.store told ready in record {
      before = on.before;
      begins = on.begins;
      spelled = subst (λ d. Spells (entries (g.reads d)) (from_lowest 1 on.before)) (sym same.opened) on.spelled;
      durable = on.durable;
      mark = on.mark;
    };
  }

-- ---- what there is to write

pub more_to_write : {D : Type 0} (j : JournalView D) (drawer : DrawerView) (lsn : ℕ)
    → next_taken j.writer.taker ≡ j.writer.synced + 1 + length (option_to_list j.writer.kept) → j.writer.synced < lsn → lsn < next_drawn drawer
    → drawer.first ≡ j.writer.taker.first → length drawer.drawn ≤ j.writer.taker.known → HasMore j.writer
more_to_write j drawer lsn counted below drawn first known = by j.writer.kept refl
  where
    by : (o : Option (List ℕ)) → j.writer.kept ≡ o → HasMore j.writer
    by None none =
        let nothing : length (option_to_list j.writer.kept) ≡ 0 = ap (λ o. length (option_to_list o)) none in
        inr (omega (arith, counted, below, drawn, first, known, nothing))
    by (Some bytes) some = inl (λ none. some_none (sym some ∙ none))
      where
        some_none : Some bytes ≡ None → ⊥
        some_none is = absurd cc

-- ---- why it stopped

pub write_stops : {D : Type 0} (g : Ghosts D) (old new : WriterView D) (next : ℕ) (fault : WriteFault) → HasWriteCause {D = D} {X = ℕ} g old new (Err fault)
    → old.ended ≡ None → StopHasCause (g.faults old.disk) (g.faults new.disk) next new (stop_of_write fault)
write_stops g old new next Disk cause fine = cause.0
write_stops g old new next (Broken at_opening now) cause fine = absurd (none_some (sym fine ∙ cause.3))
  where
    none_some : {f : Fault} → None ≡ Some f → ⊥
    none_some is = absurd cc
write_stops g old new next (NumberLimit number) cause fine = (
  ap (λ (w : WriterView _). g.faults w.disk) cause.4,
  inr (
    ap (λ (w : WriterView _). number_of_newest w.segments + 1) cause.4 ∙ cause.1 ∙ cause.0,
    ap (λ (w : WriterView _). w.ended) cause.4 ∙ fine,
  ),
)
write_stops g old new next Memory cause fine = cause.0

-- what is known of the ring doesn't matter
stops_by_taker : {D : Type 0} (before now next : ℕ) (w : WriterView D) (taker : TakerView) (why : Stop) → StopHasCause before now next w why
    → StopHasCause before now next (record w { taker = taker }) why
stops_by_taker before now next w taker stop.Disk cause = cause
stops_by_taker before now next w taker stop.Limit cause = cause
stops_by_taker before now next w taker stop.Memory cause = cause

-- ---- the same start

module _ {D : Type 0} (g : Ghosts D) where
  pub same_start_none : (s new : Store D) → new.journal ≡ s.journal → SameStart g s new
  same_start_none s new is = record {
    start = ap (λ (j : JournalView D). j.start) is;
    number = ap (λ (j : JournalView D). j.number) is;
    durable = ap (λ (j : JournalView D). j.durable) is;
    opened = ap (λ (j : JournalView D). j.writer.opened) is;
    frame = subst (λ (j : JournalView D). GoesOn g s.journal.writer.disk j.writer.disk) (sym is) (goes_on_none g s.journal.writer.disk);
  }

  pub same_start_join : ((disk : D) (s t : ℕ) (c : Image) → s ≤ t → g.left_since disk t c → g.left_since disk s c) → (old mid new : Store D)
      → SameStart g old mid → SameStart g mid new → SameStart g old new
  same_start_join earlier old mid new first second = record {
    start = second.start ∙ first.start;
    number = second.number ∙ first.number;
    durable = second.durable ∙ first.durable;
    opened = second.opened ∙ first.opened;
    frame = goes_on_join g earlier old.journal.writer.disk mid.journal.writer.disk new.journal.writer.disk first.frame second.frame;
  }

-- ---- a slot was filled

module _ {D : Type 0} (g : Ghosts D) (s : Store D) (is : IsOfSession g s) where
  abbrev FilledAll : JournalView D → Type 0
  FilledAll v = IsGoing g (record s { journal = v }) × (v ≡ record s.journal { writer = record s.journal.writer { taker = v.writer.taker } })

  -- that of the record that was drawn last: the receipt was in order, or more were in order before
  pub filled_last : (lsn count : ℕ) (j : JournalView D) → lsn + 1 ≡ next_drawn s.book.drawer → IsFilled s count → count + 1 ≡ length s.book.drawer.drawn
      → (lsn ≡ s.journal.writer.taker.first + s.journal.writer.taker.sure → j
      ≡ record s.journal { writer = record s.journal.writer { taker = record s.journal.writer.taker { sure = s.journal.writer.taker.sure + 1 } } })
      → (lsn ≢ s.journal.writer.taker.first + s.journal.writer.taker.sure → j ≡ s.journal)
      → FilledAll j
  filled_last lsn count j last filled all in_order other =
      ⊎_elim
      (λ (same : lsn ≡ s.journal.writer.taker.first + s.journal.writer.taker.sure). subst FilledAll (sym (in_order same)) (
        record {
          session = with_sure g s is (s.journal.writer.taker.sure + 1);
          filled = record { filled = omega (arith, last, filled.filled, all, same, is.one_ring.1); going = filled.going };
        },
        refl,
      ))
      (λ (apart : lsn ≢ s.journal.writer.taker.first + s.journal.writer.taker.sure). subst FilledAll (sym (other apart)) (
        record {
          session = is;
          filled = record {
            filled = ⊎_elim
                (λ (lt : count < s.journal.writer.taker.sure). omega (arith, lt, all))
                (λ (le : s.journal.writer.taker.sure ≤ count). absurd (apart (omega (arith, le, filled.filled, last, all, is.one_ring.1))))
                (cases_lt count s.journal.writer.taker.sure);
            going = filled.going;
          };
        },
        refl,
      ))
      (cases_eq lsn (s.journal.writer.taker.first + s.journal.writer.taker.sure))

-- ---- the ends were brought together

abbrev pub with_known : {D : Type 0} → JournalView D → ℕ → JournalView D
with_known j known = record j { writer = record j.writer { taker = record j.writer.taker { known = known } } }

-- but for the drawing end
pub other_drawer : (old new : BookView) → SameSession old new → new ≡ record old { drawer = new.drawer }
other_drawer old new same i = record {
  session = same.session i;
  state = same.state i;
  acks = same.acks i;
  drawer = new.drawer;
  before = same.before i;
}

pub looked_book : (old new : BookView) → SameBook old new → new ≡ record old { drawer = new.drawer }
looked_book old new same i = record {
  session = same.session i;
  state = same.state i;
  acks = same.acks i;
  drawer = new.drawer;
  before = same.before i;
}

pub same_book : (old new : BookView) → new.drawer ≡ old.drawer → SameSession old new → new ≡ old
same_book old new drawer same i = record {
  session = same.session i;
  state = same.state i;
  acks = same.acks i;
  drawer = drawer i;
  before = same.before i;
}

-- How far the writing of groups has come: nothing of the book and none of the notes has changed.
pub record WritesOn {D : Type 0} (g : Ghosts D) (old now : Store D) : Type 0 where
  pub book : now.book ≡ old.book
  pub same : SameStart g old now
  pub noted : now.journal.writer.noted ≡ old.journal.writer.noted
  pub rises : old.journal.writer.synced ≤ now.journal.writer.synced

module _ {D : Type 0} (g : Ghosts D) where
  pub writes_join : ((disk : D) (s t : ℕ) (c : Image) → s ≤ t → g.left_since disk t c → g.left_since disk s c) → (old mid new : Store D)
      → WritesOn g old mid → WritesOn g mid new → WritesOn g old new
  writes_join earlier old mid new first second = record {
    book = second.book ∙ first.book;
    same = same_start_join g earlier old mid new first.same second.same;
    noted = second.noted ∙ first.noted;
    rises = omega (arith, first.rises, second.rises);
  }

-- one group, or none
pub takes_none : {D : Type 0} (w : WriterView D) → TakesMore w w
takes_none w = record {
  opened = refl;
  noted = refl;
  pins = refl;
  older = refl;
  ring = (refl, refl);
  known = omega arith;
  sure = omega arith;
  misses = inl refl;
  more = [];
  taken = sym (append-nil w.taker.taken);
}

-- A group was written or refused, and then the ends were brought together.
module _ {D : Type 0} (g : Ghosts D) (s : Store D) (is : IsOfSession g s) (written met : JournalView D) (book : BookView)
    (start : written ≡ record s.journal { writer = written.writer }) (same : TakesMore s.journal.writer written.writer)
    (met_is : met ≡ with_known written met.writer.taker.known) (book_is : book ≡ s.book) where
  abbrev store_met : Store D
  store_met = record { journal = met; book = book }

  pub journal_met : met ≡ record s.journal { writer = record written.writer { taker = record written.writer.taker { known = met.writer.taker.known } } }
  journal_met =
      met_is
      ∙ ap (λ (j : JournalView D). record j { writer = record written.writer { taker = record written.writer.taker { known = met.writer.taker.known } } }) start

  pub session_met : s.journal.writer.synced ≤ written.writer.synced → IsPrefix met.writer.taker.taken book.drawer.drawn → IsOfSession g store_met
  session_met rises prefix =
      subst (λ (st : Store D). IsOfSession g st) (λ i. record { journal = (sym journal_met) i; book = (sym book_is) i })
      (with_writer g s is written.writer (record written.writer.taker { known = met.writer.taker.known }) same refl refl refl
      (subst (λ (d : List (List ℕ)). IsPrefix written.writer.taker.taken d) (ap (λ (b : BookView). b.drawer.drawn) book_is)
      (subst (λ (t : List (List ℕ)). IsPrefix t book.drawer.drawn) (ap (λ (j : JournalView D). j.writer.taker.taken) journal_met) prefix)) rises)

  pub filled_met : IsFilled s (length s.book.drawer.drawn) → written.writer.ended ≡ None → IsFilled store_met (length book.drawer.drawn)
  filled_met filled fine = record {
    filled = omega (arith, filled.filled, same.sure, ap (λ (j : JournalView D). j.writer.taker.sure) journal_met, ap (λ (b : BookView). length b.drawer.drawn) book_is);
    going = ap (λ (j : JournalView D). j.writer.ended) journal_met ∙ fine;
  }

  pub start_met : GoesOn g s.journal.writer.disk written.writer.disk → SameStart g s store_met
  start_met frame = record {
    start = ap (λ (j : JournalView D). j.start) journal_met;
    number = ap (λ (j : JournalView D). j.number) journal_met;
    durable = ap (λ (j : JournalView D). j.durable) journal_met;
    opened = ap (λ (j : JournalView D). j.writer.opened) journal_met ∙ same.opened;
    frame = subst (λ d. GoesOn g s.journal.writer.disk d) (sym (ap (λ (j : JournalView D). j.writer.disk) journal_met)) frame;
  }

  pub writes_met : GoesOn g s.journal.writer.disk written.writer.disk → s.journal.writer.synced ≤ written.writer.synced → WritesOn g s store_met
  writes_met frame rises = record {
    book = book_is;
    same = start_met frame;
    noted = ap (λ (j : JournalView D). j.writer.noted) journal_met ∙ same.noted;
    rises = omega (arith, rises, ap (λ (j : JournalView D). j.writer.synced) journal_met);
  }

  pub faults_met : g.faults written.writer.disk ≡ g.faults s.journal.writer.disk → faults_of g store_met ≡ faults_of g s
  faults_met same_faults = ap (λ (j : JournalView D). g.faults j.writer.disk) journal_met ∙ same_faults

  pub stopped : (before : ℕ) (fault : WriteFault) → HasWriteCause {D = D} {X = ℕ} g s.journal.writer written.writer (Err fault)
      → s.journal.writer.ended ≡ None → g.faults s.journal.writer.disk ≡ before
      → StopHasCause before (g.faults met.writer.disk) (next_drawn book.drawer) met.writer (stop_of_write fault)
  stopped before fault cause fine was =
      subst (λ (j : JournalView D). StopHasCause before (g.faults j.writer.disk) (next_drawn book.drawer) j.writer (stop_of_write fault)) (sym journal_met)
      (stops_by_taker before (g.faults written.writer.disk) (next_drawn book.drawer) written.writer
      (record written.writer.taker { known = met.writer.taker.known }) (stop_of_write fault)
      (subst (λ n. StopHasCause n (g.faults written.writer.disk) (next_drawn book.drawer) written.writer (stop_of_write fault)) was
      (write_stops g s.journal.writer written.writer (next_drawn book.drawer) fault cause fine)))

-- what the caller is told of it
pub stop_told : {D T : Type 0} (g : Ghosts D) (old new : Store D) (fault : WriteFault) (r : Result T Stop) → IsErrAnd r (λ stop. stop ≡ stop_of_write fault)
    → StopHasCause (faults_of g old) (faults_of g new) (next_drawn new.book.drawer) new.journal.writer (stop_of_write fault)
    → HasStopCause g old new r
stop_told g old new fault (Ok value) none cause = absurd none
stop_told g old new fault (Err stop) is cause =
    subst (λ (x : Stop). StopHasCause (faults_of g old) (faults_of g new) (next_drawn new.book.drawer) new.journal.writer x) (sym is) cause

-- ---- all is durable

module _ {D : Type 0} (g : Ghosts D) (old new : Store D) {T E : Type 0} where
  -- once the last record that was drawn is durable
  pub durable_all : (lsn : ℕ) (r : Result T E) → lsn + 1 ≡ next_drawn old.book.drawer → new.book ≡ old.book → IsOfSession g new
      → OnOk r (lsn ≤ new.journal.writer.synced) → OnOk r (new.journal.writer.synced < next_taken new.journal.writer.taker)
      → OnOk r (new.journal.writer.synced + 1 ≡ next_drawn new.book.drawer)
  durable_all lsn (Ok value) last book session durable taken =
      omega (arith, last, ap (λ (b : BookView). next_drawn b.drawer) book, session.taken, durable, taken)
  durable_all lsn (Err e) last book session durable taken = tt

  pub taken_all : (lsn : ℕ) (r : Result T E) → lsn + 1 ≡ next_drawn old.book.drawer → new.book ≡ old.book → IsOfSession g new
      → OnOk r (lsn ≤ new.journal.writer.synced) → OnOk r (new.journal.writer.synced < next_taken new.journal.writer.taker)
      → OnOk r (IsTakenUp new.book.drawer new.journal.writer.taker)
  taken_all lsn (Ok value) last book session durable taken =
      omega (arith, last, ap (λ (b : BookView). next_drawn b.drawer) book, session.taken, durable, taken)
  taken_all lsn (Err e) last book session durable taken = tt

-- ---- the book went on

-- The book is one of the same session, opened alike, with the same acknowledgements, and has drawn no less on its ring.
pub record IsLater (old new : BookView) : Type 0 where
  pub scripts : new.session.scripts ≡ old.session.scripts
  pub entries : new.session.entries ≡ old.session.entries
  pub opening : new.session.opening ≡ old.session.opening
  pub acks : new.acks ≡ old.acks
  pub before : new.before ≡ old.before
  pub ring : (new.drawer.ring ≡ old.drawer.ring) × (new.drawer.first ≡ old.drawer.first)
  pub drawn : length old.drawer.drawn ≤ length new.drawer.drawn

abbrev DrawsMore : DrawerView → DrawerView → Type 0
DrawsMore old new = (new.ring ≡ old.ring) × (new.first ≡ old.first) × (length old.drawn ≤ length new.drawn)

draws_none : (old new : DrawerView) → new ≡ old → DrawsMore old new
draws_none old new is = (ap (λ d. d.ring) is, ap (λ d. d.first) is, (let le : length old.drawn ≤ length new.drawn = omega (arith, ap (λ (d : DrawerView). length d.drawn) is) in le))

later_as : (old new : BookView) → new ≡ old → IsLater old new
later_as old new is = record {
  scripts = ap (λ (b : BookView). b.session.scripts) is;
  entries = ap (λ (b : BookView). b.session.entries) is;
  opening = ap (λ (b : BookView). b.session.opening) is;
  acks = ap (λ (b : BookView). b.acks) is;
  before = ap (λ (b : BookView). b.before) is;
  ring = (ap (λ (b : BookView). b.drawer.ring) is, ap (λ (b : BookView). b.drawer.first) is);
  drawn = omega (arith, ap (λ (b : BookView). length b.drawer.drawn) is);
}

later_with : (old : BookView) (e : Event) (new : BookView) → GoesOnWith old e new → DrawsMore old.drawer new.drawer → IsLater old new
later_with old e new on more = record {
  scripts = ap (λ (h : SessionHistory). h.scripts) on.session;
  entries = ap (λ (h : SessionHistory). h.entries) on.session;
  opening = ap (λ (h : SessionHistory). h.opening) on.session;
  acks = on.acks;
  before = on.before;
  ring = (more.0, more.1);
  drawn = more.2;
}

later_looked : (old new : BookView) → SameBook old new → IsLater old new
later_looked old new same =
    let more : DrawsMore old.drawer new.drawer = ⊎_elim (draws_none old.drawer new.drawer) by_look same.drawer in
    record {
      scripts = ap (λ (h : SessionHistory). h.scripts) same.session;
      entries = ap (λ (h : SessionHistory). h.entries) same.session;
      opening = ap (λ (h : SessionHistory). h.opening) same.session;
      acks = same.acks;
      before = same.before;
      ring = (more.0, more.1);
      drawn = more.2;
    }
  where
    by_look : HasLooked old.drawer new.drawer → DrawsMore old.drawer new.drawer
    by_look looked = (
      ap (λ (d : DrawerView). d.ring) looked.same,
      ap (λ (d : DrawerView). d.first) looked.same,
      (let le : length old.drawer.drawn ≤ length new.drawer.drawn = omega (arith, ap (λ (d : DrawerView). length d.drawn) looked.same) in le),
    )

drawn_more : (old : BookView) (c : ℕ) (a : Option Action) (new : BookView) (slip : Option SlotView) (before after : Option (List ℕ))
    → HasDrawn old c a new slip before after → DrawsMore old.drawer new.drawer
drawn_more old c None new slip before after drawn = draws_none old.drawer new.drawer drawn.1
drawn_more old c (Some a) new slip before after drawn =
    let one = drawn.0 in
    let count = length-append old.drawer.drawn (spelling (record_for (drawing_of old.session) c a) ∷ []) in
    (one.ring, one.first, (let le : length old.drawer.drawn ≤ length new.drawer.drawn = omega (arith, ap length one.drawn, count) in le))

-- a step of the book
pub later_by_step : (old : BookView) (c : ℕ) (before : Option (List ℕ)) (answer : Step) (new : BookView) (after : Option (List ℕ))
    → StepAnswers old c before answer new after → IsLater old new
later_by_step old c before (step.Done place line slip ack snapshot) new after (e, done, drawn) =
    later_with old e new done.history (drawn_more old c (action_at (moment_of old e)) new slip before after drawn)
later_by_step old c before step.Finished new after (over, same, left) = later_as old new same
later_by_step old c before (step.Waits holder) new after (e, next, waits, least, notes, left) =
    by (holder_at old.state.holders c).waits notes
  where
    by : (o : Option Lock) → ((is_none o ≡ true → GoesOnWith old e new × (new.drawer ≡ old.drawer)) × (is_some o ≡ true → new ≡ old)) → IsLater old new
    by None noted = let (on, drawer) = noted.0 refl in later_with old e new on (draws_none old.drawer new.drawer drawer)
    by (Some lock) noted = later_as old new (noted.1 refl)
later_by_step old c before (step.LogFull full) new after (draws, limit, none, same, left) = later_as old new same
later_by_step old c before (step.NoRoom drawn known_taken) new after (draws, some, count, known, full, same, looked, left) = later_looked old new same
later_by_step old c before step.Memory new after (going, same, left) = later_looked old new same

-- an answer other than that the ring is full
pub not_no_room : (answer : Step) → ((drawn known_taken : ℕ) → answer ≡ step.NoRoom drawn known_taken → ⊥) → is_no_room answer ≡ false
not_no_room (step.Done place line slip ack snapshot) other = refl
not_no_room step.Finished other = refl
not_no_room (step.Waits holder) other = refl
not_no_room (step.LogFull full) other = refl
not_no_room (step.NoRoom drawn known_taken) other = absurd (other drawn known_taken refl)
not_no_room step.Memory other = refl

-- where there is room, no step is refused for want of it
pub room_found : (old : BookView) (c : ℕ) (before : Option (List ℕ)) (answer : Step) (new : BookView) (after : Option (List ℕ))
    → HasRoom old.drawer → StepAnswers old c before answer new after → is_no_room answer ≡ false
room_found old c before (step.Done place line slip ack snapshot) new after room answers = refl
room_found old c before step.Finished new after room answers = refl
room_found old c before (step.Waits holder) new after room answers = refl
room_found old c before (step.LogFull full) new after room answers = refl
room_found old c before (step.NoRoom drawn known_taken) new after room (draws, some, count, known, full, same, looked, left) =
    absurd (omega (
      arith,
      room,
      full,
      looked.known_taken,
      ap (λ (d : DrawerView). length d.drawn) looked.same,
      ap (λ (d : DrawerView). d.capacity) looked.same,
    ))
room_found old c before step.Memory new after room answers = refl

module _ {D : Type 0} (g : Ghosts D) (s : Store D) (is : IsOfSession g s) where
  pub with_book : (b : BookView) → IsLater s.book b → IsOfSession g (record s { book = b })
  with_book b later = record {
    one_ring = (later.ring.0 ∙ is.one_ring.0, later.ring.1 ∙ is.one_ring.1);
    taken = omega (arith, is.taken, later.ring.1, later.drawn);
    clients = is.clients ∙ sym (ap length later.scripts);
    one = ap length later.scripts ∙ is.one;
    opening = later.opening ∙ is.opening;
    acked = subst (AllByRecursion (λ (a : Ack). a.lsn ≤ s.journal.writer.synced)) (sym later.acks) is.acked;
    store = λ told ready. let on = is.store told ready in record {
      before = on.before;
      begins = record {
        lawful = on.begins.lawful;
        entries = later.entries ∙ on.begins.entries;
        opening = later.opening ∙ on.begins.opening;
      };
      spelled = on.spelled;
      durable = on.durable;
      mark = later.before ∙ on.mark;
    };
  }

  -- an acknowledgement was noted and made
  pub with_acknowledged : (a : Ack) (noted : List ℕ) → length noted ≡ length s.journal.writer.noted → a.lsn ≤ s.journal.writer.synced
      → IsOfSession g (record s { journal = record s.journal { writer = record s.journal.writer { noted = noted } }; book = with_ack s.book a })
  with_acknowledged a noted count durable = record {
    one_ring = is.one_ring;
    taken = is.taken;
    clients = count ∙ is.clients;
    one = is.one;
    opening = is.opening;
    acked = each_to_more (λ (b : Ack). b.lsn ≤ s.journal.writer.synced) (λ (b : Ack). b.lsn ≤ s.journal.writer.synced) (λ b was. was) s.book.acks a is.acked durable;
    store = λ told ready. let on = is.store told ready in record {
      before = on.before;
      begins = on.begins;
      spelled = on.spelled;
      durable = on.durable;
      mark = on.mark;
    };
  }

  -- room was made
  pub with_room : (drawer : DrawerView) (taker : TakerView) → AreOfOneRing drawer taker → taker.taken ≡ s.journal.writer.taker.taken
      → taker.first ≡ s.journal.writer.taker.first → drawer.drawn ≡ s.book.drawer.drawn → drawer.first ≡ s.book.drawer.first
      → IsOfSession g (record { journal = record s.journal { writer = record s.journal.writer { taker = taker } }; book = record s.book { drawer = drawer } })
  with_room drawer taker one_ring taken first drawn drawn_first = record {
    one_ring = one_ring;
    taken = omega (arith, is.taken, ap length taken, first, ap length drawn, drawn_first);
    clients = is.clients;
    one = is.one;
    opening = is.opening;
    acked = is.acked;
    store = λ told ready. let on = is.store told ready in record {
      before = on.before;
      begins = on.begins;
      spelled = on.spelled;
      durable = on.durable;
      mark = on.mark;
    };
  }

-- the ring was renewed
module _ {D : Type 0} (g : Ghosts D) (s : Store D) (j : JournalView D) (b : BookView)
    (drawer : b.drawer ≡ record s.book.drawer { ring = b.drawer.ring; known_taken = length s.book.drawer.drawn })
    (taker : j ≡ record s.journal { writer = record s.journal.writer { taker = record s.journal.writer.taker { ring = j.writer.taker.ring; known = j.writer.taker.known } } })
    (others : SameSession s.book b) where
  abbrev renewed : Store D
  renewed = record { journal = j; book = b }

  abbrev with_taker : JournalView D → JournalView D
  with_taker k = record s.journal { writer = record s.journal.writer { taker = k.writer.taker } }

  renewed_journal : j ≡ with_taker j
  renewed_journal = subst (λ (k : JournalView D). k ≡ with_taker k) (sym taker) refl

  renewed_book : b ≡ record s.book { drawer = b.drawer }
  renewed_book = other_drawer s.book b others

  pub renewed_session : IsOfSession g s → AreOfOneRing b.drawer j.writer.taker → IsOfSession g renewed
  renewed_session is one_ring =
      subst (λ (st : Store D). IsOfSession g st) (λ i. record { journal = (sym renewed_journal) i; book = (sym renewed_book) i })
      (with_room g s is b.drawer j.writer.taker one_ring (ap (λ (k : JournalView D). k.writer.taker.taken) taker) (ap (λ (k : JournalView D). k.writer.taker.first) taker)
      (ap (λ (d : DrawerView). d.drawn) drawer) (ap (λ (d : DrawerView). d.first) drawer))

-- an acknowledgement was noted in the journal and made in the book
pub acknowledged : {D : Type 0} (g : Ghosts D) (s : Store D) → IsGoing g s → (a : Ack) (noted : List ℕ) → length noted ≡ length s.journal.writer.noted
    → a.lsn ≤ s.journal.writer.synced → (j : JournalView D) (b : BookView)
    → j ≡ record s.journal { writer = record s.journal.writer { noted = noted } } → b ≡ with_ack s.book a → IsGoing g (record { journal = j; book = b })
acknowledged {D} g s is a noted count durable j b journal book =
    subst (λ (st : Store D). IsGoing g st) (λ i. record { journal = (sym journal) i; book = (sym book) i }) record {
      session = with_acknowledged g s is.session a noted count durable;
      filled = record { filled = is.filled.filled; going = is.filled.going };
    }
