-- One key of one map has no owner.
use Rattle.std.proofs.Common.{false}
use Rattle.frs_locks.proofs.IndexAnswers.{map_same, keys_after, some_key_less, some_there}
use Rattle.frs_locks.proofs.index.drop_key.Goals as goal

pub returns-in-Some-clause-map : goal.returns-in-Some-clause-map
returns-in-Some-clause-map c = map_same c.args.maps.now (c.get_mut.follows.lender c.drop_key.new.self) c.args.id.now c.in-Some.m.now c.drop_key.new.self c.in-Some.ensures.value
    ((c.get_mut.follows.holds c.drop_key.new.self).3 (some_there c.in-Some.ensures.value)).0 c.drop_key.ensures.whole

pub returns-in-Some-clause-key : goal.returns-in-Some-clause-key
returns-in-Some-clause-key c = keys_after c.args.maps.now (c.get_mut.follows.lender c.drop_key.new.self) c.args.id.now c.in-Some.m.now c.drop_key.new.self c.in-Some.ensures.value
    ((c.get_mut.follows.holds c.drop_key.new.self).3 (some_there c.in-Some.ensures.value)).0 c.args.key.now (λ d. false) c.drop_key.ensures.keys

pub returns-in-Some-clause-some_key : goal.returns-in-Some-clause-some_key
returns-in-Some-clause-some_key c = some_key_less c.args.maps.now (c.get_mut.follows.lender c.drop_key.new.self) c.args.id.now c.in-Some.m.now c.drop_key.new.self c.in-Some.ensures.value
    ((c.get_mut.follows.holds c.drop_key.new.self).3 (some_there c.in-Some.ensures.value)).0 c.args.client c.drop_key.ensures.clients
