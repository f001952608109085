-- One key of one map has another owner.
use Rattle.std.proofs.Common.{◌==◌}
use Rattle.frs_locks.proofs.IndexAnswers.{map_same, keys_after, some_key_more, each_same, if_err_all}
use Rattle.frs_locks.proofs.index.take_key.Goals as goal

pub returns-in_ok-take_key-clause-map : goal.returns-in_ok-take_key-clause-map
returns-in_ok-take_key-clause-map c = map_same c.args.maps.now (c.get_mut.follows.lender c.take_key.new.self) c.args.id.now c.in-Some.m.now c.take_key.new.self c.in-Some.ensures.value
    ((c.get_mut.follows.holds c.take_key.new.self).3 c.requires.there).0 c.in_ok-take_key.ensures.whole

pub returns-in_ok-take_key-clause-key : goal.returns-in_ok-take_key-clause-key
returns-in_ok-take_key-clause-key c = keys_after c.args.maps.now (c.get_mut.follows.lender c.take_key.new.self) c.args.id.now c.in-Some.m.now c.take_key.new.self c.in-Some.ensures.value
    ((c.get_mut.follows.holds c.take_key.new.self).3 c.requires.there).0 c.args.key (λ d. c.args.client == d) c.in_ok-take_key.ensures.keys

pub returns-in_ok-take_key-clause-some_key : goal.returns-in_ok-take_key-clause-some_key
returns-in_ok-take_key-clause-some_key c = some_key_more c.args.maps.now (c.get_mut.follows.lender c.take_key.new.self) c.args.id.now c.in-Some.m.now c.take_key.new.self c.in-Some.ensures.value
    ((c.get_mut.follows.holds c.take_key.new.self).3 c.requires.there).0 c.args.client c.in_ok-take_key.ensures.clients

pub returns-in_err-take_key-clause-refused : goal.returns-in_err-take_key-clause-refused
returns-in_err-take_key-clause-refused c = if_err_all _ (λ e. each_same c.args.maps.now (c.get_mut.follows.lender c.take_key.new.self) c.args.id.now c.in-Some.m.now c.take_key.new.self c.in-Some.ensures.value
    ((c.get_mut.follows.holds c.take_key.new.self).3 c.requires.there).0 c.in_err-take_key.ensures.refused)
