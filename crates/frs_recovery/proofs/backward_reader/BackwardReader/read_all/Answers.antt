-- Each record taken off the end stands in front of those that were read.
use Rattle.std.proofs.Common.{◌∙◌}
use Rattle.frs_recovery.proofs.BackwardReader.{next_allowed, part_on}
use Rattle.frs_recovery.proofs.backward_reader.BackwardReader.read_all.Goals as goal

pub read-requires : goal.read-requires
read-requires c = next_allowed c.args.self.now c.loop-r.self c.args.first c.len.result c.args.records.items _ c.pop.new.self.items c.in-Some.r (c.len.ensures ∙ c.pop.new.self.ok.0) c.loop-r.invariant c.in-Some.ensures.items c.requires.allowed

pub loop-r-preserved : goal.loop-r-preserved
loop-r-preserved c = part_on c.args.self.now c.loop-r.self c.read.new.self c.args.first c.len.result c.args.records.items _ c.pop.new.self.items c.in-Some.r (c.len.ensures ∙ c.pop.new.self.ok.0) c.loop-r.invariant c.in-Some.ensures.items c.in_ok-read.ensures
