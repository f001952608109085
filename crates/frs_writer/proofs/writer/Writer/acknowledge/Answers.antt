use Rattle.std.proofs.Common.{◌-◌}
use Rattle.frs_writer.specs.Inside.{view_of}
use Rattle.frs_writer.proofs.IsRolled.{kept_noted}
use Rattle.frs_writer.proofs.writer.Writer.acknowledge.Goals as goal

pub invariant_of-self : goal.invariant_of-self
invariant_of-self g c =
    let d = g.D.Disk in
    let old = c.self.invariant in
    record {
      kept_is = kept_noted d (view_of c.self.inside) (c.args.client - 1) c.args.lsn c.if-lsn-self.false old.kept_is;
      count = old.count;
      later = old.later;
      broken = old.broken;
    }
