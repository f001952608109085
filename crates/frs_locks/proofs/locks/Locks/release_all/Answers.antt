-- The client's locks are gone from the index too.
use Rattle.std.proofs.Common.{◌<◌, length, refl, sym, ◌∙◌, ap, subst}
use Rattle.std.specs.Prelude.{slice_set}
use Rattle.frs_types.specs.Locks.{Holder, nobody}
use Rattle.frs_locks.specs.Index.{AreSoundLocks}
use Rattle.frs_locks.proofs.SoundLocks.{sound_quiet, same_item}
use Rattle.frs_locks.proofs.locks.Locks.release_all.Goals as goal

pub invariant_of-self : goal.invariant_of-self
invariant_of-self c = subst (λ (h : Holder). AreSoundLocks c.drop_all.new.maps (slice_set c.self.inside.clients.items c.args.client h))
    (sym (c.replace-held.ensures.after ∙ c.new.ensures))
    (sound_quiet c.self.inside.maps c.drop_all.new.maps c.self.inside.clients.items c.args.client nobody c.self.invariant c.requires.some (subst (λ hs. c.args.client < length hs) (sym c.self.view_is) c.requires.client) refl
    (c.drop_all.ensures c.self.inside.clients.items c.self.invariant.indexed (subst (λ hs. c.args.client < length hs) (sym c.self.view_is) c.requires.client) (c.locks.ensures ∙ ap (λ (h : Holder). h.locks) (c.replace-held.ensures.value ∙ same_item c.self.inside.clients.items c.args.client c.index_mut.result.now (subst (λ hs. c.args.client < length hs) (sym c.self.view_is) c.requires.client) c.index_mut.ensures.value))))

pub returns-clause-ringless : goal.returns-clause-ringless
returns-clause-ringless c = (let sound = subst (λ (h : Holder). AreSoundLocks c.drop_all.new.maps (slice_set c.self.inside.clients.items c.args.client h))
    (sym (c.replace-held.ensures.after ∙ c.new.ensures))
    (sound_quiet c.self.inside.maps c.drop_all.new.maps c.self.inside.clients.items c.args.client nobody c.self.invariant c.requires.some (subst (λ hs. c.args.client < length hs) (sym c.self.view_is) c.requires.client) refl
    (c.drop_all.ensures c.self.inside.clients.items c.self.invariant.indexed (subst (λ hs. c.args.client < length hs) (sym c.self.view_is) c.requires.client) (c.locks.ensures ∙ ap (λ (h : Holder). h.locks) (c.replace-held.ensures.value ∙ same_item c.self.inside.clients.items c.args.client c.index_mut.result.now (subst (λ hs. c.args.client < length hs) (sym c.self.view_is) c.requires.client) c.index_mut.ensures.value)))) in sound.ringless)
