-- The index says whether the client holds the key.
use Rattle.std.proofs.Common.{◌∙◌}
use Rattle.frs_locks.proofs.SoundLocks.{holds_on_key}
use Rattle.frs_locks.proofs.locks.Locks.holds.Goals as goal

pub returns-in-Some : goal.returns-in-Some
returns-in-Some c = c.has_key.ensures ∙ holds_on_key c.self.inside.maps c.self.inside.clients.items c.args.self.now c.in-OnKey.id c.in-OnKey.key _ _ c.args.client c.self.invariant.indexed c.self.view_is c.in-OnKey.is c.in-Some.ensures.value

pub returns-in-None : goal.returns-in-None
returns-in-None c = holds_on_key c.self.inside.maps c.self.inside.clients.items c.args.self.now c.in-OnKey.id c.in-OnKey.key _ _ c.args.client c.self.invariant.indexed c.self.view_is c.in-OnKey.is c.in-None.ensures.value
