-- The owner of one key is another.
use Rattle.std.proofs.Common.{Some}
use Rattle.frs_locks.proofs.IndexAnswers.{key_after}
use Rattle.frs_locks.proofs.map_locks.MapLocks.take_key.Goals as goal

pub returns-clause-keys : goal.returns-clause-keys
returns-clause-keys c = key_after c.args.self.now.keys c.insert.new.self c.args.key (Some c.args.client) c.in_ok-insert.ensures.updates.0
