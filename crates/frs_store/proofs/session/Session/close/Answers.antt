use Rattle.std.proofs.Common.{◌≡◌, ◌∙◌, None, sym, subst, ap, IsTrue}
use mathlib.Core.List.{IsPrefix}
use Rattle.frs_disk.specs.Frames.{RemovesBelow}
use Rattle.frs_segment.specs.Stores.{LeavesAlike}
use Rattle.frs_writer.specs.Writer.{WriterView}
use Rattle.frs_writer.specs.Writing.{OfPlacedLog}
use Rattle.frs_book.specs.Books.{BookView, IsBook, IsWhole}
use Rattle.frs_store.specs.Closed.{IsClosed}
use Rattle.frs_store.specs.Journal.{JournalView, IsJournal}
use Rattle.frs_store.specs.Session.{SessionView}
use Rattle.frs_store.proofs.SessionCloses.{closes, same_book}
use Rattle.frs_store.proofs.session.Session.close.Goals as goal

pub close_store-stop-requires-clause-whole : goal.close_store-stop-requires-clause-whole
close_store-stop-requires-clause-whole g c =
    subst (λ (s : SessionView _). s.stop ≡ None → IsWhole s.store.book) (sym c.self.view_is) c.requires.whole

pub returns : goal.returns
returns g c =
    let d = g.D.Disk in
    let s : SessionView _ = record { store = c.self.inside.store; stop = c.self.inside.stop } in
    let last = c.close_store-stop.new.store in
    let stop = c.close_store-stop.result in
    let file = last.journal.writer.disk in
    let book : c.meet.new.end ≡ last.book = same_book last.book c.meet.new.end c.meet.ensures.others c.meet.ensures.drawer in
    let writer = c.into_writer.ensures ∙ ap (λ (j : JournalView _). j.writer) c.meet.ensures.same in
    let disk : c.into_disk.result ≡ file = c.into_disk.ensures.disk ∙ ap (λ (w : WriterView _). w.disk) writer in
    let prefix : IsPrefix last.journal.writer.taker.taken last.book.drawer.drawn =
    subst (λ (b : BookView). IsPrefix last.journal.writer.taker.taken b.drawer.drawn) book
    (subst (λ (j : JournalView _). IsPrefix j.writer.taker.taken c.meet.new.end.drawer.drawn) c.meet.ensures.same c.meet.ensures.prefix) in
    let closed = closes d s last stop c.close_store-stop.ensures c.meet.new.self.writer.taker.known
    (subst (IsJournal d) c.meet.ensures.same c.synced.ensures.journal) (subst IsBook book c.history.ensures.book) prefix g.met.D.Disk.as_read
    (subst (λ (w : WriterView _). w.ended ≡ None → IsTrue (d.tells file) → OfPlacedLog d w (λ log. LeavesAlike d file)) writer
    (subst (λ left. c.into_writer.result.ended ≡ None → IsTrue (d.tells left) → OfPlacedLog d c.into_writer.result (λ log. LeavesAlike d left)) disk
    c.into_disk.ensures.alike))
    (subst (λ (w : WriterView _). w.ended ≡ None → IsTrue (d.tells file) → RemovesBelow d file) writer
    (subst (λ left. c.into_writer.result.ended ≡ None → IsTrue (d.tells left) → RemovesBelow d left) disk c.into_disk.ensures.pending)) in
    subst (λ (v : SessionView _). IsClosed d v (record { book = c.meet.new.end; disk = c.into_disk.result; stop = stop })) c.self.view_is
    (subst (λ (b : BookView). IsClosed d s (record { book = b; disk = c.into_disk.result; stop = stop })) (sym book)
    (subst (λ left. IsClosed d s (record { book = last.book; disk = left; stop = stop })) (sym disk) closed))
