-- Which disks are ready: restarted ones whose image is sound or has no file, and ready ones that were only looked at.
use Rattle.std.proofs.Common.{◌≡◌, ℕ, ◌<◌, IsSome, [], refl, sym, subst, inr}
use Rattle.std.specs.FinMap.{entries, empty, get}
use Rattle.frs_types.specs.Records.{Log, from_lowest}
use Rattle.frs_disk.specs.declared.disk.Disk.{Ghosts}
use Rattle.frs_disk.specs.Disk.{Image}
use Rattle.frs_disk.specs.Frames.{IsRestarted, OnlyReads}
use Rattle.frs_disk.proofs.NoFiles.{no_entries}
use Rattle.frs_segment.specs.Segments.{FileList, Spells}
use Rattle.frs_segment.specs.Stores.{SpellsAlike}
use Rattle.frs_recovery.specs.Sound.{IsSound, IsReady}

spells_itself : (image : FileList) → SpellsAlike image image
spells_itself image log segments by = (segments, by, inr refl)

-- no file spells the empty log
no_file_is_sound : IsSound []
no_file_is_sound = ([], refl, ([], record { rising = refl; older = []; looked = []; files = refl; each = tt; follow = refl; enough = refl; shown = refl }))

module _ {D : Type 0} (g : Ghosts D) where
  pub restarted_is_ready : (disk : D) → IsRestarted g disk → IsSound (entries (g.reads disk)) → IsReady g disk
  restarted_is_ready disk restarted sound = record {
    sound = sound;
    alike = λ c left. subst (λ (d : Image). SpellsAlike (entries (g.reads disk)) (entries d)) (sym (restarted.only c left)) (spells_itself (entries (g.reads disk)));
    removed = λ n pending. absurd (restarted.none n pending);
  }

  pub no_file_is_ready : (disk : D) → IsRestarted g disk → g.reads disk ≡ empty → IsReady g disk
  no_file_is_ready disk restarted none = restarted_is_ready disk restarted (subst IsSound (sym (no_entries (g.reads disk) none)) no_file_is_sound)

  pub image_is_sound : (disk : D) → IsReady g disk → (c : Image) → g.may_leave disk c → IsSound (entries c)
  image_is_sound disk ready c left =
      let read = ready.sound in
      let there = ready.alike c left (from_lowest 1 read.0) read.2.0 read.2.1 in
      (read.0, read.1, (there.0, there.1))

  pub image_spells : (disk : D) → IsReady g disk → (c : Image) → g.may_leave disk c → (log : Log) → Spells (entries (g.reads disk)) log → Spells (entries c) log
  image_spells disk ready c left log (segments, by) = (let there = ready.alike c left log segments by in (there.0, there.1))

  pub looked_at_is_ready : (old new : D) → IsReady g old → OnlyReads g old new → IsReady g new
  looked_at_is_ready old new ready looked = record {
    sound = subst (λ (d : Image). IsSound (entries d)) (sym looked.seen) ready.sound;
    alike = λ c left. subst (λ (d : Image). SpellsAlike (entries d) (entries c)) (sym looked.seen) (ready.alike c (looked.crash c left));
    removed = λ n pending. subst (λ (d : Image). (m : ℕ) × IsSome (get d m) × (n < m)) (sym looked.seen) (ready.removed n (looked.pending n pending));
  }
