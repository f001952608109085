use Rattle.std.proofs.Common.{arith, sym}
use Rattle.frs_text.proofs.FindLine.{absent, read_found, read_lower, read_higher}
use Rattle.frs_text.proofs.line_lookup.find_line.Goals as goal

pub returns-then-line-number : goal.returns-then-line-number
returns-then-line-number c = read_found c.args.number c.args.lines.now _ c.index-lines-middle.result c.requires (omega arith) c.index-lines-middle.is c.if-line-number.true

pub loop-low-preserved-then-line-number-2 : goal.loop-low-preserved-then-line-number-2
loop-low-preserved-then-line-number-2 c = record {
  in_range = c.loop-low.invariant.in_range;
  below = read_lower c.args.number c.args.lines.now _ c.index-lines-middle.result c.requires (omega arith) c.index-lines-middle.is c.if-line-number-2.true;
  above = c.loop-low.invariant.above;
}

pub loop-low-preserved : goal.loop-low-preserved
loop-low-preserved c = record {
  in_range = omega arith;
  below = c.loop-low.invariant.below;
  above = read_higher c.args.number c.args.lines.now _ c.index-lines-middle.result c.requires (omega arith) c.index-lines-middle.is (omega arith);
}

pub returns : goal.returns
returns c = sym (absent c.args.number 0 c.args.lines.now c.loop-low.low c.requires c.loop-low.invariant.below (λ j d le lt. c.loop-low.invariant.above j d (omega arith) lt))
