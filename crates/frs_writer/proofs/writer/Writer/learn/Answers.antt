use Rattle.std.proofs.Common.{◌+◌, inl, inr, ap}
use Rattle.std.proofs.lemmas.Bool.{cases_eq}
use Rattle.frs_slots.specs.Views.{TakerView}
use Rattle.frs_writer.specs.Inside.{view_of}
use Rattle.frs_writer.proofs.IsRolled.{kept_same}
use Rattle.frs_writer.proofs.writer.Writer.learn.Goals as goal

pub invariant_of-self : goal.invariant_of-self
invariant_of-self g c =
    let d = g.D.Disk in
    let old = c.self.invariant in
    record {
      kept_is = kept_same d (view_of c.self.inside) c.learn.new.self
          (elim (cases_eq c.args.filled.lsn (c.self.inside.taker.first + c.self.inside.taker.sure)) [
            | inl same ↦ ap (λ (t : TakerView). t.first) (c.learn.ensures.in_order same)
            | inr other ↦ ap (λ (t : TakerView). t.first) (c.learn.ensures.other other)
          ])
          (elim (cases_eq c.args.filled.lsn (c.self.inside.taker.first + c.self.inside.taker.sure)) [
            | inl same ↦ ap (λ (t : TakerView). t.taken) (c.learn.ensures.in_order same)
            | inr other ↦ ap (λ (t : TakerView). t.taken) (c.learn.ensures.other other)
          ])
          old.kept_is;
      count = old.count;
      later = old.later;
      broken = old.broken;
    }
