-- One map has another owner.
use Rattle.std.proofs.Common.{refl, Some, ◌==◌}
use Rattle.frs_locks.proofs.IndexAnswers.{map_after, key_same, some_key_same}
use Rattle.frs_locks.proofs.index.take_map.Goals as goal

pub returns-in-Some-clause-map : goal.returns-in-Some-clause-map
returns-in-Some-clause-map c = map_after c.args.maps.now (c.get_mut.follows.lender (record c.in-Some.m.now { whole = Some c.args.client })) c.args.id.now c.in-Some.m.now (record c.in-Some.m.now { whole = Some c.args.client }) c.in-Some.ensures.value
    ((c.get_mut.follows.holds (record c.in-Some.m.now { whole = Some c.args.client })).3 c.requires.there).0 (λ d. c.args.client == d) (λ d. refl)

pub returns-in-Some-clause-key : goal.returns-in-Some-clause-key
returns-in-Some-clause-key c = key_same c.args.maps.now (c.get_mut.follows.lender (record c.in-Some.m.now { whole = Some c.args.client })) c.args.id.now c.in-Some.m.now (record c.in-Some.m.now { whole = Some c.args.client }) c.in-Some.ensures.value
    ((c.get_mut.follows.holds (record c.in-Some.m.now { whole = Some c.args.client })).3 c.requires.there).0 refl

pub returns-in-Some-clause-some_key : goal.returns-in-Some-clause-some_key
returns-in-Some-clause-some_key c = some_key_same c.args.maps.now (c.get_mut.follows.lender (record c.in-Some.m.now { whole = Some c.args.client })) c.args.id.now c.in-Some.m.now (record c.in-Some.m.now { whole = Some c.args.client }) c.in-Some.ensures.value
    ((c.get_mut.follows.holds (record c.in-Some.m.now { whole = Some c.args.client })).3 c.requires.there).0 refl
