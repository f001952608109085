use Rattle.std.proofs.Common.{◌<◌, length, arith, rules, ◌∙◌}
use Rattle.std.proofs.lemmas.List.{get_or_default}
use Rattle.frs_text.specs.Text.{ack_line}
use Rattle.frs_text.proofs.GathersText.{piece_gathered, stopped_in_piece, adds_of_gathered, all_gathered}
use Rattle.frs_text.proofs.history_text.write_acks.Goals as goal

pub returns-in_err-write_ack-clause-part : goal.returns-in_err-write_ack-clause-part
returns-in_err-write_ack-clause-part g c = λ told.
    let inside : c.loop-ack.ack-index < length c.args.acks.now = omega arith in
    stopped_in_piece ack_line c.args.acks.now c.loop-ack.ack-index _ _ _ _ _ _ (omega arith) (get_or_default c.args.acks.now c.loop-ack.ack-index _ _ inside) (c.loop-ack.invariant.gathered told) (c.in_err-write_ack.ensures.part (c.loop-ack.invariant.told ∙ told))

pub loop-ack-preserved : goal.loop-ack-preserved
loop-ack-preserved g c = record {
  told = search rules;
  cause = search rules;
  gathered = λ told.
      let inside : c.loop-ack.ack-index < length c.args.acks.now = omega arith in
      piece_gathered ack_line c.args.acks.now c.loop-ack.ack-index _ _ _ _ _ _ _ (omega arith) (get_or_default c.args.acks.now c.loop-ack.ack-index _ _ inside) (c.loop-ack.invariant.gathered told) (c.in_ok-write_ack.ensures.all (c.loop-ack.invariant.told ∙ told));
}

pub returns-clause-part : goal.returns-clause-part
returns-clause-part g c = λ told. adds_of_gathered _ _ _ _ _ (all_gathered ack_line c.args.acks.now c.loop-ack.ack-index _ _ _ _ (omega arith) (c.loop-ack.invariant.gathered told))
