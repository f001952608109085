-- One client more.
use Rattle.std.proofs.Common.{◌∙◌, ap}
use Rattle.frs_locks.specs.Rounds.{does_lead}
use Rattle.frs_locks.proofs.Rounds.{one_answer_more}
use Rattle.frs_locks.proofs.round.round.Goals as goal

pub loop-clients-preserved : goal.loop-clients-preserved
loop-clients-preserved c = one_answer_more (does_lead c.args.goal c.args.leading.now) c.args.steps.now c.loop-clients.clients-index c.clients-item.result c.loop-clients.more.items _ c.leads.result
    c.loop-clients-test.true c.clients-item.is c.loop-clients.invariant (c.leads.ensures ∙ ap (does_lead c.args.goal c.args.leading.now) c.items.ensures) c.in_ok-push.ensures.items
