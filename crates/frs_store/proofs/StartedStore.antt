-- A store on which the opening mark alone was drawn, behind what was recovered: it goes on behind what the files spelled.
use Rattle.std.proofs.Common.{◌≡◌, ◌+◌, ◌-◌, ◌≤◌, IsTrue, List, [], ◌∷◌, ◌++◌, length, replicate, None, sym, ap, ◌∙◌, subst, arith}
use Rattle.std.specs.Prelude.{◌&&◌, nat_le, nat_lt}
use Rattle.std.specs.List.{AllByRecursion}
use Rattle.std.specs.FinMap.{entries}
use Rattle.frs_types.specs.declared.limits.TheConstants.{NUMBER_LIMIT}
use Rattle.frs_types.specs.declared.record.Action.TheVariants.{Mark}
use Rattle.frs_types.specs.declared.record.Record.{Record}
use Rattle.frs_types.specs.Records.{Log, from_lowest, next_lsn}
use Rattle.frs_types.specs.Lawful.{table_of}
use Rattle.frs_disk.specs.declared.disk.Disk.{Ghosts}
use Rattle.frs_disk.specs.Disk.{Image}
use Rattle.frs_frame.specs.Spelling.{spelling}
use Rattle.frs_segment.specs.declared.format.TheConstants.{FILE_LIMIT}
use Rattle.frs_segment.specs.Segments.{FileList, Spells}
use Rattle.frs_segment.specs.Scanning.{places_of_segment}
use Rattle.frs_recovery.specs.declared.recovered.Recovered.{Recovered}
use Rattle.frs_recovery.specs.Sound.{IsReady}
use Rattle.frs_slots.specs.Views.{DrawerView, TakerView, next_drawn}
use Rattle.frs_writer.specs.LogImages.{new_segment}
use Rattle.frs_writer.specs.Places.{length_of_newest}
use Rattle.frs_writer.proofs.Places.{newest_length}
use Rattle.frs_history.specs.declared.command.Line.{Line}
use Rattle.frs_history.specs.declared.event.Ack.{Ack}
use Rattle.frs_book.specs.Books.{BookView, new_book}
use Rattle.frs_store.specs.declared.store.Store.{Store}
use Rattle.frs_store.specs.Session.{IsOnStore, IsOfSession, IsGoing}
use Rattle.frs_store.specs.Start.{IsFoundOn, HasMark, HasOnlyMark}
use Rattle.frs_store.proofs.OpeningMark.{next_from_lowest}

-- the journal and the book that were made for what was found
pub record IsMadeFor {D : Type 0} (g : Ghosts D) (old disk : D) (r : Recovered) (script : List Line) (drawer : DrawerView)
    (t : TakerView) (s : Store D) : Type 0 where
  pub mark : HasMark r.found.next r.lowest drawer t
  pub book : s.book ≡ new_book (script ∷ []) (table_of r.entries) 0 drawer
  pub start : s.journal.start ≡ old
  pub durable : s.journal.durable + 1 ≡ r.found.next
  pub number : s.journal.number ≡ r.found.greatest + 1
  pub opened : s.journal.writer.opened ≡ disk
  pub taker : s.journal.writer.taker ≡ t
  pub kept : s.journal.writer.kept ≡ None
  pub noted : s.journal.writer.noted ≡ replicate 1 0
  pub synced : s.journal.writer.synced + 1 ≡ r.found.next
  pub ended : s.journal.writer.ended ≡ None
  pub segments : s.journal.writer.segments
      ≡ r.found.segments ++ places_of_segment (new_segment (r.found.greatest + 1) r.found.next) ∷ []
  pub faults : g.faults s.journal.writer.disk ≡ g.faults disk

module _ {D : Type 0} (g : Ghosts D) (one_log : (image : FileList) (log other : Log) → Spells image log → Spells image other → log ≡ other)
    (start disk : D) (r : Recovered) (is : IsFoundOn g start disk r) (script : List Line) (drawer : DrawerView) (taker : TakerView) (s : Store D)
    (made : IsMadeFor g start disk r script drawer taker s) where
  drawer_is : s.book.drawer ≡ drawer
  drawer_is = ap (λ (b : BookView). b.drawer) made.book

  first_is : drawer.first ≡ r.found.next
  first_is = made.mark.ring.1 ∙ made.mark.first

  -- the session's opening is the LSN of the mark
  opening_is : s.book.session.opening ≡ r.found.next
  opening_is =
      let one : length drawer.drawn ≡ 1 = ap length made.mark.drawn in
      let told : s.book.session.opening ≡ next_drawn drawer - 1 = ap (λ (b : BookView). b.session.opening) made.book in
      omega (arith, one, told, first_is)

  on_store : IsTrue (g.tells s.journal.start) → IsReady g s.journal.start → IsOnStore g s
  on_store told ready =
      let told_start : IsTrue (g.tells start) = subst (λ d. IsTrue (g.tells d)) made.start told in
      let sound = (subst (IsReady g) made.start ready).sound in
      let before : List Record = sound.0 in
      let state = is.state told_start before sound.1 sound.2 in
      let found = is.found told_start in
      let same : from_lowest 1 before ≡ found.1 =
      one_log (entries (g.reads start)) (from_lowest 1 before) found.1 sound.2 (found.0, found.2.found.spelled) in
      let next : r.found.next ≡ length before + 1 = found.2.found.next_is ∙ ap next_lsn (sym same) ∙ next_from_lowest before sound.1 in
      record {
        before = before;
        begins = record {
          lawful = sound.1;
          entries = ap (λ (b : BookView). b.session.entries) made.book ∙ state.entries;
          opening = opening_is ∙ next;
        };
        spelled = subst (λ d. Spells (entries (g.reads d)) (from_lowest 1 before)) (sym made.opened)
            (subst (λ (files : Image). Spells (entries files) (from_lowest 1 before)) (sym is.looked.seen) sound.2);
        durable = omega (arith, made.durable, next);
        mark = ap (λ (b : BookView). b.before) made.book ∙ made.mark.drawn
            ∙ ap (λ n. spelling (record { tx = 0; lowest = n; named = 0; action = Mark }) ∷ []) state.lowest;
      }

  of_session : IsOfSession g s
  of_session = record {
    one_ring = (
      ap (λ (d : DrawerView). d.ring) drawer_is ∙ made.mark.ring.0 ∙ sym (ap (λ (t : TakerView). t.ring) made.taker),
      ap (λ (d : DrawerView). d.first) drawer_is ∙ made.mark.ring.1 ∙ sym (ap (λ (t : TakerView). t.first) made.taker),
    );
    taken =
        let none : length s.journal.writer.taker.taken ≡ 0 = ap (λ (t : TakerView). length t.taken) made.taker ∙ ap length made.mark.taken in
        let taken_first : s.journal.writer.taker.first ≡ s.book.drawer.first =
        ap (λ (t : TakerView). t.first) made.taker ∙ sym made.mark.ring.1 ∙ sym (ap (λ (d : DrawerView). d.first) drawer_is) in
        omega (arith, none, taken_first);
    clients = ap length made.noted ∙ sym (ap (λ (b : BookView). length b.session.scripts) made.book);
    one = ap (λ (b : BookView). length b.session.scripts) made.book;
    opening = opening_is ∙ sym made.durable;
    acked = subst (λ (b : BookView). AllByRecursion (λ (a : Ack). a.lsn ≤ s.journal.writer.synced) b.acks) (sym made.book) tt;
    store = on_store;
  }

  pub going : IsGoing g s
  going = record {
    session = of_session;
    filled = record {
      filled =
          let one : length s.book.drawer.drawn ≡ 1 = ap (λ (d : DrawerView). length d.drawn) drawer_is ∙ ap length made.mark.drawn in
          let sure : s.journal.writer.taker.sure ≡ 1 = ap (λ (t : TakerView). t.sure) made.taker ∙ made.mark.filled.0 in
          omega (arith, one, sure);
      going = made.ended;
    };
  }

  pub only_mark : HasOnlyMark s
  only_mark = record {
    drawn = (
      drawer_drawn ∙ sym (ap (λ (b : BookView). b.before) made.book),
      ap (λ (b : BookView). length b.before) made.book ∙ ap length made.mark.drawn,
    );
    taken = (ap (λ (t : TakerView). t.taken) made.taker ∙ made.mark.taken, made.kept);
    known =
        let known : s.journal.writer.taker.known ≡ taker.known = ap (λ (t : TakerView). t.known) made.taker in
        omega (arith, known, made.mark.filled.1);
    newest = ap (λ n. nat_le FILE_LIMIT n && nat_lt (s.journal.writer.synced + 1) NUMBER_LIMIT) short;
  }
    where
      drawer_drawn : s.book.drawer.drawn ≡ drawer.drawn
      drawer_drawn = ap (λ (d : DrawerView). d.drawn) drawer_is

      short : length_of_newest s.journal.writer.segments ≡ 23
      short = ap length_of_newest made.segments ∙ newest_length r.found.segments (places_of_segment (new_segment (r.found.greatest + 1) r.found.next))
