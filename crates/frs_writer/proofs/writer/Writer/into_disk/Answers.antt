-- Where nothing was cut short each image spells the log alike, and no removal is pending above the newest file.
use Rattle.std.proofs.Common.{◌≡◌, ◌∙◌, None, ap, sym, subst, IsTrue}
use Rattle.frs_segment.specs.Stores.{LeavesAlike}
use Rattle.frs_writer.specs.Inside.{view_of}
use Rattle.frs_writer.specs.Writer.{WriterView}
use Rattle.frs_writer.specs.Writing.{OfPlacedLog}
use Rattle.frs_writer.proofs.SpellsFrom.{none_pending, durable_alike}
use Rattle.frs_writer.proofs.writer.Writer.into_disk.Goals as goal

pub returns-clause-pending : goal.returns-clause-pending
returns-clause-pending g c = λ fine told.
    let w : WriterView g.row.D.Denot = view_of c.self.inside in
    let kept = c.self.invariant.kept_is in
    none_pending g.D.Disk w.disk kept.counted.newest (kept.at_work (ap (λ (v : WriterView g.row.D.Denot). v.ended) c.self.view_is ∙ fine) told)

pub returns-clause-alike : goal.returns-clause-alike
returns-clause-alike g c = λ fine told.
    let d = g.D.Disk in
    let w : WriterView g.row.D.Denot = view_of c.self.inside in
    let kept = c.self.invariant.kept_is in
    let none : w.ended ≡ None = ap (λ (v : WriterView g.row.D.Denot). v.ended) c.self.view_is ∙ fine in
    let alike : OfPlacedLog d w (λ log. LeavesAlike d w.disk) = λ well log is_log placed.
    durable_alike d w kept told well log is_log placed (g.met.D.Disk.as_read w.disk told) none in
    subst (λ (v : WriterView g.row.D.Denot). OfPlacedLog d v (λ log. LeavesAlike d w.disk)) c.self.view_is alike
