use Rattle.std.proofs.Common.{◌-◌}
use Rattle.std.specs.Prelude.{slice_set}
use Rattle.std.proofs.Common.{sym, subst}
use Rattle.frs_writer.specs.Writer.{WriterView}
use Rattle.frs_store.specs.Journal.{IsJournal}
use Rattle.frs_store.specs.InsideJournal.{view_of}
use Rattle.frs_store.proofs.JournalGoesOn.{with_noted}
use Rattle.frs_store.proofs.journal.Journal.acknowledge.Goals as goal

pub invariant_of-self : goal.invariant_of-self
invariant_of-self g c =
    let d = g.D.Disk in
    let j = view_of c.self.inside in
    subst (λ (w : WriterView _). IsJournal d (record j { writer = w })) (sym c.in-Ok.ensures.noted)
    (with_noted d j (slice_set c.self.inside.writer.noted (c.args.client - 1) c.args.lsn) c.self.invariant)
