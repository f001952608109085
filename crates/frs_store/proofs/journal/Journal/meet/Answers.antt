use Rattle.std.proofs.Common.{sym, subst, refl}
use Rattle.frs_writer.specs.Writer.{WriterView}
use Rattle.frs_store.specs.Journal.{IsJournal}
use Rattle.frs_store.specs.InsideJournal.{view_of}
use Rattle.frs_store.proofs.JournalGoesOn.{with_taker}
use Rattle.frs_store.proofs.journal.Journal.meet.Goals as goal

pub invariant_of-self : goal.invariant_of-self
invariant_of-self g c =
    let d = g.D.Disk in
    let j = view_of c.self.inside in
    subst (λ (w : WriterView _). IsJournal d (record j { writer = w })) (sym c.meet.ensures.taker.0)
    (with_taker d j (record c.self.inside.writer.taker { known = c.meet.new.self.taker.known }) refl refl c.self.invariant)
