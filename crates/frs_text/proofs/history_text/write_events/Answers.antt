use Rattle.std.proofs.Common.{arith, rules, ◌∙◌}
use Rattle.frs_text.specs.Text.{event_line}
use Rattle.frs_text.proofs.GathersText.{piece_gathered, stopped_in_piece, adds_of_gathered, all_gathered}
use Rattle.frs_text.proofs.history_text.write_events.Goals as goal

pub returns-in_err-write_event-clause-part : goal.returns-in_err-write_event-clause-part
returns-in_err-write_event-clause-part g c = λ told.
    stopped_in_piece (event_line c.args.scripts.now) c.args.events.now c.loop-event.event-index c.event-item.result _ _ _ _ _ (omega arith) c.event-item.is (c.loop-event.invariant.gathered told) (c.in_err-write_event.ensures.part (c.loop-event.invariant.told ∙ told))

pub loop-event-preserved : goal.loop-event-preserved
loop-event-preserved g c = record {
  told = search rules;
  cause = search rules;
  gathered = λ told.
      piece_gathered (event_line c.args.scripts.now) c.args.events.now c.loop-event.event-index c.event-item.result _ _ _ _ _ _ (omega arith) c.event-item.is (c.loop-event.invariant.gathered told) (c.in_ok-write_event.ensures.all (c.loop-event.invariant.told ∙ told));
}

pub returns-clause-part : goal.returns-clause-part
returns-clause-part g c = λ told. adds_of_gathered _ _ _ _ _ (all_gathered (event_line c.args.scripts.now) c.args.events.now c.loop-event.event-index _ _ _ _ (omega arith) (c.loop-event.invariant.gathered told))
