-- What an image holds that shows a log from LSN 1 on, before which there is nothing.
use Rattle.std.proofs.Common.{◌≡◌, ℕ, ◌+◌, ◌-◌, List, [], ◌++◌, length, take, None, refl, sym, ◌∙◌, ap, subst, arith, IsTrue}
use Rattle.std.specs.List.{AllZip}
use Rattle.std.specs.FinMap.{entries}
use Rattle.frs_types.specs.declared.record.Record.{Record}
use Rattle.frs_types.specs.Records.{Log, IsPlaced}
use Rattle.frs_disk.specs.declared.disk.Disk.{Ghosts}
use Rattle.frs_disk.specs.Disk.{Image}
use Rattle.frs_disk.specs.Frames.{LeftNoFile}
use Rattle.frs_segment.specs.Order.{IsInOrder}
use Rattle.frs_segment.proofs.IsInOrder.{none_half}
use Rattle.frs_segment.specs.Segments.{FileList, WholeSegment, IsSegment, open_files, Spells, follow_from}
use Rattle.frs_segment.specs.Stores.{LeavesAlike}
use Rattle.frs_writer.specs.Invariant.{ShowsFrom, IsKept}
use Rattle.frs_writer.specs.LogImages.{ShowsLog, EndsWithSegment}
use Rattle.frs_writer.specs.Writer.{WriterView, IsLog, WasEmpty}
use Rattle.frs_writer.specs.Writing.{HoldsAll, HoldsLog, HoldsFrom}
use Rattle.frs_writer.proofs.ShowsLog.{base_shows, rests_shows, rests_open}

module _ {alone fresh : Type 0} (image : FileList) (first : ℕ) (records : List Record) (s : ShowsLog alone fresh image first records) (is : alone) where
  shows_all : HoldsAll image records
  shows_all =
      let (none, start, one) = s.alone_is is in
      record {
        rising = s.rising;
        segments = s.segments;
        each = subst (λ (files : FileList). AllZip IsSegment files s.segments) (sym (ap (λ (x : FileList). x ++ s.looked) none) ∙ s.files) s.each;
        follow = subst (λ (n : ℕ). IsTrue (follow_from n s.segments)) (omega (arith, s.begins, one, ap length start)) s.follow;
        shown = s.shown ∙ ap (λ (x : List Record). x ++ records) start;
      }

  shows_order : fresh → IsInOrder 1 (length records + 1) image s.segments
  shows_order f = subst (λ (n : ℕ). IsInOrder 1 n image s.segments) (omega (arith, (s.alone_is is).2)) (s.fresh_is f)

  pub shows_whole : HoldsLog fresh 1 image records
  unfolding shows_all
  shows_whole = (shows_all, λ f. record { all = shows_all; order = shows_order f })

  -- and nothing else where all files are open
  pub shows_open : (fresh → open_files image ≡ image) → HoldsLog fresh 0 image records
  unfolding shows_all
  shows_open all_open = (shows_all, λ f. record { all = shows_all; order = none_half 0 (length records + 1) image s.segments (all_open f) (shows_order f) })

-- the records up to the LSN n are n
shows_first : {alone fresh : Type 0} (n : ℕ) (log : Log) (image : FileList) → ShowsLog alone fresh image log.first (take (n + 1 - log.first) log.records) → alone → HoldsLog fresh 1 image (take n log.records)
shows_first {fresh = fresh} n log image s is =
    let one : log.first ≡ 1 = (s.alone_is is).2 in
    subst (λ (k : ℕ). HoldsLog fresh 1 image (take k log.records)) (omega (arith, one)) (shows_whole image log.first (take (n + 1 - log.first) log.records) s is)

rests_first : {alone fresh : Type 0} (n : ℕ) (log : Log) (image : FileList) (last : WholeSegment) → EndsWithSegment alone fresh image log.first (take (n + 1 - log.first) log.records) last → alone → HoldsLog fresh 0 image (take n log.records)
rests_first {fresh = fresh} n log image last r is =
    let one : log.first ≡ 1 = (r.alone_is is).2 in
    subst (λ (k : ℕ). HoldsLog fresh 0 image (take k log.records)) (omega (arith, one)) (shows_open image log.first (take (n + 1 - log.first) log.records) (rests_shows r) is (rests_open r))

pub from_whole : {alone fresh : Type 0} (synced : ℕ) (log : Log) (c : Image) → ShowsFrom alone fresh synced log (entries c) → alone → HoldsFrom fresh synced log c
from_whole synced log c (n, least, most, shows) is = (n, least, most, shows_first n log (entries c) shows is)

-- an image that spells the empty log
pub spelled_none : {fresh : Type 0} (image : FileList) → (fresh → image ≡ []) → Spells image (record { first = 1; records = [] }) → HoldsLog fresh 1 image []
spelled_none image none (segments, by) = shows_whole image 1 [] (base_shows image segments (record { first = 1; records = [] }) none by) refl

module _ {D : Type 0} (g : Ghosts D) (w : WriterView D) (kept : IsKept g w)
    (told : IsTrue (g.tells w.disk)) (well : LeavesAlike g w.opened) (log : Log) (is_log : IsLog g w log) (placed : IsPlaced log) (empty : WasEmpty g w.opened) where
  -- what is durable, where nothing was cut short
  pub durable_whole : w.ended ≡ None → (c : Image) → g.may_leave w.disk c → HoldsLog (LeftNoFile g w.opened) 0 (entries c) (take w.synced log.records)
  durable_whole fine c left =
      let (last, rests, segments) = (kept.holds told well log is_log placed).newest fine in
      rests_first w.synced log (entries c) last (rests c left) empty
