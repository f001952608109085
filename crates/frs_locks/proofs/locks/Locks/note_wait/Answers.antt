-- The wait is noted, and closes no ring.
use Rattle.std.proofs.Common.{◌≡◌, ◌<◌, length, false, sym, subst}
use Rattle.std.specs.Prelude.{slice_set}
use Rattle.frs_types.specs.Locks.{Holder, ring}
use Rattle.frs_locks.specs.Index.{AreSoundLocks}
use Rattle.frs_locks.proofs.SoundLocks.{sound_wait, wait_holder}
use Rattle.frs_locks.proofs.locks.Locks.note_wait.Goals as goal

pub invariant_of-self : goal.invariant_of-self
invariant_of-self c = subst (λ (h : Holder). AreSoundLocks c.self.inside.maps (slice_set c.self.inside.clients.items c.args.client h))
    (sym (wait_holder c.self.inside.clients.items c.args.client c.set_wait.new.self c.index_mut-held.result.now c.in_ok-copy.copy c.args.lock.now (subst (λ hs. c.args.client < length hs) (sym c.self.view_is) c.requires.client) c.index_mut-held.ensures.value c.in_ok-copy.ensures c.set_wait.ensures))
    (sound_wait c.self.inside.maps c.self.inside.clients.items c.args.client c.args.lock.now c.self.invariant c.requires.some (subst (λ hs. c.args.client < length hs) (sym c.self.view_is) c.requires.client) (subst (λ hs. ring hs c.args.client c.args.lock.now ≡ false) (sym c.self.view_is) c.requires.no_ring))

pub returns-clause-ringless : goal.returns-clause-ringless
returns-clause-ringless c = (let sound = subst (λ (h : Holder). AreSoundLocks c.self.inside.maps (slice_set c.self.inside.clients.items c.args.client h))
    (sym (wait_holder c.self.inside.clients.items c.args.client c.set_wait.new.self c.index_mut-held.result.now c.in_ok-copy.copy c.args.lock.now (subst (λ hs. c.args.client < length hs) (sym c.self.view_is) c.requires.client) c.index_mut-held.ensures.value c.in_ok-copy.ensures c.set_wait.ensures))
    (sound_wait c.self.inside.maps c.self.inside.clients.items c.args.client c.args.lock.now c.self.invariant c.requires.some (subst (λ hs. c.args.client < length hs) (sym c.self.view_is) c.requires.client) (subst (λ hs. ring hs c.args.client c.args.lock.now ≡ false) (sym c.self.view_is) c.requires.no_ring)) in sound.ringless)
