-- What the rounds found is the ring.
use Rattle.std.proofs.Common.{◌∙◌, false, None, get_or}
use Rattle.std.specs.Prelude.{find, if◌then◌else◌}
use Rattle.frs_locks.proofs.SoundLocks.{ring_found, own_steps_at}
use Rattle.frs_locks.proofs.locks.Locks.ring.Goals as goal

pub bounds-steps-client : goal.bounds-steps-client
bounds-steps-client c = own_steps_at c.args.self.now c.args.client c.args.lock.now c.as_slice-steps.result.now c.requires (c.as_slice-steps.ensures.value ∙ c.in_ok-all.ensures)

pub returns-clause-via : goal.returns-clause-via
returns-clause-via c = ring_found c.args.self.now c.args.client c.args.lock.now c.as_slice-steps.result.now c.index-steps-client.result c.in_ok-leading.leading.items c.via_of.result
    c.requires (c.as_slice-steps.ensures.value ∙ c.in_ok-all.ensures) c.index-steps-client.is c.in_ok-leading.ensures
    (c.via_of.ensures ∙ (λ i. if get_or (c.as_slice.ensures.value i) c.args.client false then find (λ d. get_or (c.as_slice.ensures.value i) d false) (c.items.ensures i) else None))
