use Rattle.std.proofs.Common.{◌≡◌, ◌≤◌, ◌∙◌, ap, sym, refl, arith}
use Rattle.frs_disk.proofs.Frames.{goes_on_none}
use Rattle.frs_book.specs.Books.{BookView}
use Rattle.frs_slots.specs.Views.{next_drawn}
use Rattle.frs_store.specs.Journal.{JournalView}
use Rattle.frs_store.proofs.StoreGoesOn.{more_to_write, same_book, takes_none, session_met, filled_met, writes_met, WritesOn, writes_join, faults_met, stopped, stop_told}
use Rattle.frs_store.proofs.store.Store.sync.Goals.{After-from_residual}
use Rattle.frs_store.proofs.store.Store.sync.Goals as goal

pub loop-alloc-init : goal.loop-alloc-init
loop-alloc-init g c =
    let d = g.D.Disk in
    let s = c.args.self.now in
    let book : c.meet.new.end ≡ s.book = same_book s.book c.meet.new.end c.meet.ensures.drawer c.meet.ensures.others in
    let none = takes_none s.journal.writer in
    let going = c.requires.going in
    let filled = filled_met d s going.session s.journal c.meet.new.self c.meet.new.end refl none c.meet.ensures.same book going.filled going.filled.going in
    record {
      going = record {
        session = session_met d s going.session s.journal c.meet.new.self c.meet.new.end refl none c.meet.ensures.same book (omega arith) c.meet.ensures.prefix;
        filled = filled;
      };
      known = omega (arith, c.meet.ensures.known, filled.filled);
      on = writes_met d s going.session s.journal c.meet.new.self c.meet.new.end refl none c.meet.ensures.same book (goes_on_none d s.journal.writer.disk) (omega arith);
      faults = faults_met d s going.session s.journal c.meet.new.self c.meet.new.end refl none c.meet.ensures.same book refl;
    }

pub meet-requires-in-loop-alloc : goal.meet-requires-in-loop-alloc
meet-requires-in-loop-alloc g c =
    let one_ring = c.loop-alloc.invariant.going.session.one_ring in
    let ring = c.write_group-written.ensures.same.ring in
    (one_ring.0 ∙ sym ring.0, one_ring.1 ∙ sym ring.1)

pub write_group-written-requires : goal.write_group-written-requires
write_group-written-requires g c =
    let s = c.loop-alloc.self in
    let so_far = c.loop-alloc.invariant in
    more_to_write s.journal s.book.drawer c.args.lsn (c.synced.ensures.journal.counted so_far.going.filled.going) (omega (arith, c.loop-alloc-test.true, c.synced.ensures.synced))
    (omega (arith, c.requires.drawn, ap (λ (b : BookView). next_drawn b.drawer) so_far.on.book)) so_far.going.session.one_ring.1 so_far.known

pub loop-alloc-preserved : goal.loop-alloc-preserved
loop-alloc-preserved g c =
    let d = g.D.Disk in
    let s = c.loop-alloc.self in
    let so_far = c.loop-alloc.invariant in
    let session = so_far.going.session in
    let w = c.write_group-written.new.self in
    let wrote = c.write_group-written.ensures in
    let m = c.meet-in-loop-alloc in
    let ok = c.in_ok-written.ensures in
    let book : m.new.end ≡ s.book = same_book s.book m.new.end m.ensures.drawer m.ensures.others in
    let rises : s.journal.writer.synced ≤ w.writer.synced = omega (arith, ok.wrote.synced) in
    let filled = filled_met d s session w m.new.self m.new.end wrote.start wrote.same m.ensures.same book so_far.going.filled ok.cause.2 in
    record {
      going = record { session = session_met d s session w m.new.self m.new.end wrote.start wrote.same m.ensures.same book rises m.ensures.prefix; filled = filled };
      known = omega (arith, m.ensures.known, filled.filled);
      on = writes_join d g.met.D.Disk.since_earlier c.args.self.now s (record { journal = m.new.self; book = m.new.end }) so_far.on
          (writes_met d s session w m.new.self m.new.end wrote.start wrote.same m.ensures.same book wrote.frame rises);
      faults = faults_met d s session w m.new.self m.new.end wrote.start wrote.same m.ensures.same book ok.cause.0 ∙ so_far.faults;
    }

pub loop-alloc-smaller : goal.loop-alloc-smaller
loop-alloc-smaller g c =
    let s = c.loop-alloc.self in
    let ok = c.in_ok-written.ensures in
    omega (
      arith,
      ok.some,
      ok.wrote.synced,
      c.loop-alloc-test.true,
      c.synced.ensures.synced,
      ap (λ (j : JournalView _). j.writer.synced) c.meet-in-loop-alloc.ensures.same,
    )

pub returns-clause-taken : goal.returns-clause-taken
returns-clause-taken g c = omega (arith, c.synced.ensures.journal.counted c.loop-alloc.invariant.going.filled.going)

on_refused : (g : _) (c : After-from_residual g) → WritesOn g.D.Disk c.args.self.now (record { journal = c.meet-in-loop-alloc.new.self; book = c.meet-in-loop-alloc.new.end })
on_refused g c =
    let d = g.D.Disk in
    let s = c.loop-alloc.self in
    let so_far = c.loop-alloc.invariant in
    let w = c.write_group-written.new.self in
    let wrote = c.write_group-written.ensures in
    let m = c.meet-in-loop-alloc in
    let book : m.new.end ≡ s.book = same_book s.book m.new.end m.ensures.drawer m.ensures.others in
    writes_join d g.met.D.Disk.since_earlier c.args.self.now s (record { journal = m.new.self; book = m.new.end }) so_far.on
    (writes_met d s so_far.going.session w m.new.self m.new.end wrote.start wrote.same m.ensures.same book wrote.frame (omega (arith, c.in_err-written.ensures.refused.synced)))

pub returns-in_err-written-clause-session : goal.returns-in_err-written-clause-session
returns-in_err-written-clause-session g c =
    let d = g.D.Disk in
    let s = c.loop-alloc.self in
    let session = c.loop-alloc.invariant.going.session in
    let w = c.write_group-written.new.self in
    let wrote = c.write_group-written.ensures in
    let m = c.meet-in-loop-alloc in
    let book : m.new.end ≡ s.book = same_book s.book m.new.end m.ensures.drawer m.ensures.others in
    session_met d s session w m.new.self m.new.end wrote.start wrote.same m.ensures.same book (omega (arith, c.in_err-written.ensures.refused.synced)) m.ensures.prefix

pub returns-in_err-written-clause-book : goal.returns-in_err-written-clause-book
returns-in_err-written-clause-book g c =
    let m = c.meet-in-loop-alloc in
    same_book c.loop-alloc.self.book m.new.end m.ensures.drawer m.ensures.others ∙ c.loop-alloc.invariant.on.book

pub returns-in_err-written-clause-same : goal.returns-in_err-written-clause-same
returns-in_err-written-clause-same g c = (on_refused g c).same

pub returns-in_err-written-clause-noted : goal.returns-in_err-written-clause-noted
returns-in_err-written-clause-noted g c = (on_refused g c).noted

pub returns-in_err-written-clause-rises : goal.returns-in_err-written-clause-rises
returns-in_err-written-clause-rises g c = (on_refused g c).rises

pub returns-in_err-written-clause-cause : goal.returns-in_err-written-clause-cause
returns-in_err-written-clause-cause g c =
    let d = g.D.Disk in
    let s = c.loop-alloc.self in
    let so_far = c.loop-alloc.invariant in
    let w = c.write_group-written.new.self in
    let wrote = c.write_group-written.ensures in
    let m = c.meet-in-loop-alloc in
    let book : m.new.end ≡ s.book = same_book s.book m.new.end m.ensures.drawer m.ensures.others in
    let fault = c.in_err-written.field-0.0 in
    stop_told d c.args.self.now (record { journal = m.new.self; book = m.new.end }) fault c.from_residual.result c.from_residual.ensures.1
    (stopped d s so_far.going.session w m.new.self m.new.end wrote.start wrote.same m.ensures.same book (d.faults c.args.self.now.journal.writer.disk) fault
    c.in_err-written.ensures.cause so_far.going.filled.going so_far.faults)
