use Rattle.std.proofs.Common.{ap}
use Rattle.frs_slots.specs.Views.{TakerView}
use Rattle.frs_writer.specs.Inside.{view_of}
use Rattle.frs_writer.proofs.IsRolled.{kept_same, by_answer}
use Rattle.frs_writer.proofs.writer.Writer.renew.Goals as goal

pub invariant_of-self : goal.invariant_of-self
invariant_of-self g c =
    let d = g.D.Disk in
    let old = c.self.invariant in
    record {
      kept_is = kept_same d (view_of c.self.inside) c.renew.new.taker
          (by_answer c.renew.result c.renew.ensures.taker c.renew.ensures.refused (λ ok. ap (λ (t : TakerView). t.first) ok.0) (λ err. ap (λ (t : TakerView). t.first) err.1))
          (by_answer c.renew.result c.renew.ensures.taker c.renew.ensures.refused (λ ok. ap (λ (t : TakerView). t.taken) ok.0) (λ err. ap (λ (t : TakerView). t.taken) err.1))
          old.kept_is;
      count = old.count;
      later = old.later;
      broken = old.broken;
    }
