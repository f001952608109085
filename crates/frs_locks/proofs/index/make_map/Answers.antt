-- Something that says nothing is put where there was nothing.
use Rattle.std.proofs.Common.{sym, ◌∙◌}
use Rattle.frs_locks.proofs.IndexAnswers.{same_made}
use Rattle.frs_locks.proofs.index.make_map.Goals as goal

pub returns-in_ok-insert-clause-same : goal.returns-in_ok-insert-clause-same
returns-in_ok-insert-clause-same c = same_made c.args.maps.now c.insert.new.self c.args.id.now _ c.new.result c.in_ok-copy.ensures (sym c.contains_key.ensures ∙ c.if-not-contains_key.true) c.new.ensures c.in_ok-insert.ensures.updates.0
