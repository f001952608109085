-- The client has the lock, once.
use Rattle.std.proofs.Common.{◌≡◌, ◌<◌, length, [], sym, subst}
use Rattle.frs_types.specs.Locks.{hinderers}
use Rattle.frs_locks.proofs.SoundLocks.{sound_kept, sound_same, sound_taken}
use Rattle.frs_locks.proofs.locks.Locks.take.Goals as goal

pub invariant_of-self : goal.invariant_of-self
invariant_of-self c = sound_kept c.self.inside.maps c.self.inside.clients.items c.args.client c.set_wait.new.self c.index_mut-held.result.now c.self.invariant c.requires.some (subst (λ hs. c.args.client < length hs) (sym c.self.view_is) c.requires.client) c.index_mut-held.ensures.value c.set_wait.ensures

pub returns-then-holds-clause-ringless : goal.returns-then-holds-clause-ringless
returns-then-holds-clause-ringless c = (let sound = sound_kept c.self.inside.maps c.self.inside.clients.items c.args.client c.set_wait.new.self c.index_mut-held.result.now c.self.invariant c.requires.some (subst (λ hs. c.args.client < length hs) (sym c.self.view_is) c.requires.client) c.index_mut-held.ensures.value c.set_wait.ensures in sound.ringless)

pub invariant_of-self-in_err-take : goal.invariant_of-self-in_err-take
invariant_of-self-in_err-take c = sound_same c.self.inside.maps c.take.new.maps c.self.inside.clients.items c.args.client c.take.new.self c.index_mut-held-2.result.now c.self.invariant c.requires.some (subst (λ hs. c.args.client < length hs) (sym c.self.view_is) c.requires.client) c.index_mut-held-2.ensures.value c.in_err-take.ensures.refused (c.in_err-take.ensures.same_index _ c.self.invariant.indexed)

pub invariant_of-self-2 : goal.invariant_of-self-2
invariant_of-self-2 c = sound_taken c.self.inside.maps c.take.new.maps c.self.inside.clients.items c.args.client c.args.lock.now c.take.new.self c.index_mut-held-2.result.now c.self.invariant c.requires.some (subst (λ hs. c.args.client < length hs) (sym c.self.view_is) c.requires.client) c.index_mut-held-2.ensures.value c.in_ok-take.ensures.taken (subst (λ hs. hinderers hs c.args.client c.args.lock.now ≡ []) (sym c.self.view_is) c.requires.free) c.in_ok-take.ensures.index

pub returns-clause-ringless : goal.returns-clause-ringless
returns-clause-ringless c = (let sound = sound_taken c.self.inside.maps c.take.new.maps c.self.inside.clients.items c.args.client c.args.lock.now c.take.new.self c.index_mut-held-2.result.now c.self.invariant c.requires.some (subst (λ hs. c.args.client < length hs) (sym c.self.view_is) c.requires.client) c.index_mut-held-2.ensures.value c.in_ok-take.ensures.taken (subst (λ hs. hinderers hs c.args.client c.args.lock.now ≡ []) (sym c.self.view_is) c.requires.free) c.in_ok-take.ensures.index in sound.ringless)
