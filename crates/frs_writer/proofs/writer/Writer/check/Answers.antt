use Rattle.std.proofs.Common.{subst}
use Rattle.frs_writer.specs.Inside.{view_of}
use Rattle.frs_writer.specs.Writer.{WriterView}
use Rattle.frs_writer.specs.Writing.{LeavesLog}
use Rattle.frs_writer.proofs.LeavesLog.{unchanged_leaves}
use Rattle.frs_writer.proofs.writer.Writer.check.Goals as goal

pub returns-in-None-clause-crash : goal.returns-in-None-clause-crash
returns-in-None-clause-crash g c =
    subst (λ (v : WriterView g.row.D.Denot). LeavesLog g.D.Disk v v) c.self.view_is (unchanged_leaves g.D.Disk g.met.D.Disk.only_now (view_of c.self.inside) c.self.invariant.kept_is)

pub returns-in-Some-Failed-clause-crash : goal.returns-in-Some-Failed-clause-crash
returns-in-Some-Failed-clause-crash g c =
    subst (λ (v : WriterView g.row.D.Denot). LeavesLog g.D.Disk v v) c.self.view_is (unchanged_leaves g.D.Disk g.met.D.Disk.only_now (view_of c.self.inside) c.self.invariant.kept_is)

pub returns-in-Some-Memory-clause-crash : goal.returns-in-Some-Memory-clause-crash
returns-in-Some-Memory-clause-crash g c =
    subst (λ (v : WriterView g.row.D.Denot). LeavesLog g.D.Disk v v) c.self.view_is (unchanged_leaves g.D.Disk g.met.D.Disk.only_now (view_of c.self.inside) c.self.invariant.kept_is)
