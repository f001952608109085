use Rattle.std.proofs.Common.{ap}
use Rattle.frs_slots.specs.Views.{TakerView}
use Rattle.frs_writer.specs.Inside.{view_of}
use Rattle.frs_writer.proofs.IsRolled.{kept_same}
use Rattle.frs_writer.proofs.writer.Writer.meet.Goals as goal

pub invariant_of-self : goal.invariant_of-self
invariant_of-self g c =
    let d = g.D.Disk in
    let old = c.self.invariant in
    record {
      kept_is = kept_same d (view_of c.self.inside) c.beside.new.taker
          (ap (λ (t : TakerView). t.first) c.beside.ensures.taker.0) (ap (λ (t : TakerView). t.taken) c.beside.ensures.taker.0) old.kept_is;
      count = old.count;
      later = old.later;
      broken = old.broken;
    }
