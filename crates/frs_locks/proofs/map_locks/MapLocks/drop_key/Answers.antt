-- The owner of one key is nobody.
use Rattle.std.proofs.Common.{None}
use Rattle.frs_locks.proofs.IndexAnswers.{key_after}
use Rattle.frs_locks.proofs.map_locks.MapLocks.drop_key.Goals as goal

pub returns-clause-keys : goal.returns-clause-keys
returns-clause-keys c = key_after c.args.self.now.keys c.remove.new.self c.args.key.now None c.remove.ensures.updates.0
