-- What is left once the opening mark was written, or its write refused.
use Rattle.std.proofs.Common.{◌≡◌, inr, ℕ, ◌+◌, ◌≤◌, IsTrue, [], ◌∷◌, ◌++◌, length, Some, None, Ok, Err}
use Rattle.std.proofs.Common.{refl, sym, ap, ◌∙◌, subst, arith, option_to_list, length-append}
use Rattle.std.proofs.lemmas.Bool.{false≢true}
use Rattle.std.specs.FinMap.{entries}
use mathlib.Core.List.{IsPrefix}
use Rattle.frs_types.specs.Records.{from_lowest}
use Rattle.frs_disk.specs.declared.disk.Disk.{Ghosts}
use Rattle.frs_disk.specs.declared.disk.Fault.{Fault}
use Rattle.frs_disk.specs.Disk.{Image}
use Rattle.frs_disk.specs.Frames.{Within, GoesOn}
use Rattle.frs_frame.specs.Spelling.{spelling}
use Rattle.frs_segment.specs.declared.format.TheConstants.{MOST_RECORDS}
use Rattle.frs_segment.specs.Segments.{Spells}
use Rattle.frs_segment.specs.Stores.{LeavesAlike}
use Rattle.frs_slots.specs.Views.{TakerView, DrawerView}
use Rattle.frs_writer.specs.Writing.{WritesGroup, TakesMore, HasWriteCause}
use Rattle.frs_writer.specs.declared.fault.WriteFault.{WriteFault}
use Rattle.frs_writer.specs.declared.fault.WriteFault.TheVariants.{Disk, Broken, NumberLimit, Memory}
use Rattle.frs_book.specs.Books.{BookView, SameSession}
use Rattle.frs_store.specs.declared.store.Store.{Store}
use Rattle.frs_store.specs.Journal.{JournalView, IsJournal, HasMore}
use Rattle.frs_store.specs.Session.{IsOfSession, IsGoing, SameStart}
use Rattle.frs_store.specs.SessionEnd.{SpellsFront, opening_mark}
use Rattle.frs_store.specs.Start.{LeavesOpening, HasOnlyMark, WritesMark, MarkHasCause, FailsAtMark}
use Rattle.frs_store.specs.Stops.{start_fault_of_write}
use Rattle.frs_store.proofs.OpeningMark.{mark_follows}
use Rattle.frs_store.proofs.SinceStart.{since_start}
use Rattle.frs_store.proofs.StoreGoesOn.{with_writer, front_length}

-- there is something to write
pub has_more : {D : Type 0} (s : Store D) → HasOnlyMark s → HasMore s.journal.writer
has_more s mark = let none : length s.journal.writer.taker.taken ≡ 0 = ap length mark.taken.0 in inr (omega (arith, none, mark.known))

module _ {D : Type 0} (g : Ghosts D) (s : Store D) (going : IsGoing g s) (mark : HasOnlyMark s) (mid last : JournalView D) (book : BookView)
    (kept : mid ≡ record s.journal { writer = mid.writer }) (takes : TakesMore s.journal.writer mid.writer)
    (prefix : IsPrefix last.writer.taker.taken book.drawer.drawn)
    (met : last ≡ record mid { writer = record mid.writer { taker = record mid.writer.taker { known = last.writer.taker.known } } })
    (drawer : book.drawer ≡ s.book.drawer) (others : SameSession s.book book)
    (frame : GoesOn g s.journal.writer.disk mid.writer.disk) where
  abbrev taker : TakerView
  taker = record mid.writer.taker { known = last.writer.taker.known }

  same_book : book ≡ s.book
  same_book i = record {
    session = others.session i;
    state = others.state i;
    acks = others.acks i;
    drawer = drawer i;
    before = others.before i;
  }

  last_is : last ≡ record s.journal { writer = record mid.writer { taker = taker } }
  last_is = met ∙ ap (λ (j : JournalView D). record j { writer = record mid.writer { taker = taker } }) kept

  last_disk : last.writer.disk ≡ mid.writer.disk
  last_disk = ap (λ (j : JournalView D). j.writer.disk) met

  last_opened : last.writer.opened ≡ s.journal.writer.opened
  last_opened = ap (λ (j : JournalView D). j.writer.opened) met ∙ takes.opened

  drawn_prefix : IsPrefix mid.writer.taker.taken s.book.drawer.drawn
  drawn_prefix =
      let same : last.writer.taker.taken ≡ mid.writer.taker.taken = ap (λ (j : JournalView D). j.writer.taker.taken) met in
      (prefix.0, ap (λ l. l ++ prefix.0) (sym same) ∙ prefix.1 ∙ ap (λ (d : DrawerView). d.drawn) drawer)

  session_by : s.journal.writer.synced ≤ mid.writer.synced → IsOfSession g (record { journal = last; book = book })
  session_by rises =
      subst (λ (b : BookView). IsOfSession g (record { journal = last; book = b })) (sym same_book)
      (subst (λ (j : JournalView D). IsOfSession g (record { journal = j; book = s.book })) (sym last_is)
      (with_writer g s going.session mid.writer taker takes refl refl refl drawn_prefix rises))

  same_start : SameStart g s (record { journal = last; book = book })
  same_start = record {
    start = ap (λ (j : JournalView D). j.start) last_is;
    number = ap (λ (j : JournalView D). j.number) last_is;
    durable = ap (λ (j : JournalView D). j.durable) last_is;
    opened = last_opened;
    frame = subst (GoesOn g s.journal.writer.disk) (sym last_disk) frame;
  }

  -- ---- it was written

  module _ (count : ℕ) (wrote : WritesGroup MOST_RECORDS count s.journal.writer mid.writer) (some : 1 ≤ count)
      (cause : HasWriteCause {D = D} {X = ℕ} g s.journal.writer mid.writer (Ok count)) where
    one : count ≡ 1
    one =
        let gathers = wrote.gathers in
        let before : length s.journal.writer.taker.taken ≡ 0 = ap length mark.taken.0 in
        let waited : length (option_to_list s.journal.writer.kept) ≡ 0 = ap (λ o. length (option_to_list o)) mark.taken.1 in
        let taken : length mid.writer.taker.taken ≡ length s.journal.writer.taker.taken + length gathers.taken =
        ap length gathers.taken_are ∙ length-append s.journal.writer.taker.taken gathers.taken in
        let group : length wrote.group + length (option_to_list mid.writer.kept) ≡ length (option_to_list s.journal.writer.kept) + length gathers.taken =
        sym (length-append wrote.group (option_to_list mid.writer.kept)) ∙ ap length gathers.group_is
        ∙ length-append (option_to_list s.journal.writer.kept) gathers.taken in
        let most : length mid.writer.taker.taken ≤ length s.book.drawer.drawn =
        front_length mid.writer.taker.taken s.book.drawer.drawn drawn_prefix in
        let drawn : length s.book.drawer.drawn ≡ 1 = ap length mark.drawn.0 ∙ mark.drawn.1 in
        omega (arith, before, waited, taken, group, most, drawn, wrote.counted, some)

    pub written_going : IsGoing g (record { journal = last; book = book })
    written_going = record {
      session = session_by (omega (arith, wrote.synced));
      filled = record {
        filled =
            let drawn : length book.drawer.drawn ≡ length s.book.drawer.drawn = ap (λ (d : DrawerView). length d.drawn) drawer in
            let sure : last.writer.taker.sure ≡ mid.writer.taker.sure = ap (λ (j : JournalView D). j.writer.taker.sure) met in
            omega (arith, drawn, sure, takes.sure, going.filled.filled);
        going = ap (λ (j : JournalView D). j.writer.ended) met ∙ cause.2;
      };
    }

    pub writes_mark : WritesMark g s (record { journal = last; book = book })
    writes_mark = record {
      same = same_start;
      book = others;
      synced = ap (λ (j : JournalView D). j.writer.synced) met ∙ wrote.synced ∙ ap (λ n. s.journal.writer.synced + n) one;
      faults = ap g.faults last_disk ∙ cause.0;
    }

  -- ---- it was refused

  leaves_opening : IsJournal g last → LeavesOpening g s.journal.start last.writer.disk
  leaves_opening journal told ready =
      let on = going.session.store told ready in
      let start : last.start ≡ s.journal.start = same_start.start in
      let opened : Spells (entries (g.reads last.writer.opened)) (from_lowest 1 on.before) =
      subst (λ d. Spells (entries (g.reads d)) (from_lowest 1 on.before)) (sym last_opened) on.spelled in
      let durable : last.durable ≡ length on.before = same_start.durable ∙ on.durable in
      let drawn : book.drawer.drawn ≡ spelling (opening_mark on.before) ∷ [] = ap (λ (d : DrawerView). d.drawn) drawer ∙ mark.drawn.0 ∙ on.mark in
      let looked : g.reads last.writer.opened ≡ g.reads s.journal.start = journal.looked.seen ∙ ap g.reads start in (
        on.before,
        on.begins.lawful,
        subst (λ (files : Image). Spells (entries files) (from_lowest 1 on.before)) looked opened,
        subst (λ d. Within g d last.writer.disk (SpellsFront (length on.before) (on.before ++ opening_mark on.before ∷ []))) start
            (since_start g last journal on.before (opening_mark on.before ∷ []) (mark_follows on.before on.begins.lawful) opened durable
            (prefix.0, prefix.1 ∙ drawn)
            (subst (λ d. IsTrue (g.tells d)) (sym start) told)
            (subst (λ d. LeavesAlike g d) (sym start) ready.alike)),
      )

  some_none : {f : Fault} → None ≡ Some f → ⊥
  some_none is = absurd cc

  mark_cause : (fault : WriteFault) → HasWriteCause {D = D} {X = ℕ} g s.journal.writer mid.writer (Err fault)
      → MarkHasCause (g.faults s.journal.writer.disk) (g.faults mid.writer.disk) (start_fault_of_write fault)
  mark_cause Disk cause = cause.0
  mark_cause (Broken at_opening now) cause = absurd (some_none (sym going.filled.going ∙ cause.3))
  mark_cause (NumberLimit number) cause = absurd (false≢true (sym mark.newest ∙ cause.2))
  mark_cause Memory cause = cause.0

  pub fails_at_mark : (fault : WriteFault) → HasWriteCause {D = D} {X = ℕ} g s.journal.writer mid.writer (Err fault) → IsJournal g last
      → (disk : D) → disk ≡ last.writer.disk → FailsAtMark g s (record { disk = disk; fault = start_fault_of_write fault })
  fails_at_mark fault cause journal disk is = record {
    images = subst (LeavesOpening g s.journal.start) (sym is) (leaves_opening journal);
    frame = subst (GoesOn g s.journal.writer.disk) (sym is) same_start.frame;
    cause = subst (λ d. MarkHasCause (g.faults s.journal.writer.disk) (g.faults d) (start_fault_of_write fault)) (sym (is ∙ last_disk)) (mark_cause fault cause);
  }
