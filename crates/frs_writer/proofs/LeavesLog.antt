-- What a crash leaves of the log of a writer whose images show it.
use Rattle.std.proofs.Common.{◌+◌, ◌≤◌, None, ◌≡◌, IsTrue}
use Rattle.frs_disk.specs.declared.disk.Disk.{Ghosts}
use Rattle.frs_disk.specs.Disk.{Image}
use Rattle.frs_writer.specs.Invariant.{IsKept}
use Rattle.frs_writer.specs.Writer.{WriterView}
use Rattle.frs_writer.specs.Writing.{LeavesLog, LeavesShown, IsDurable}
use Rattle.frs_writer.proofs.SpellsFrom.{spells_from, durable_spells, durable_alike, durable_read, newest_synced, none_pending}
use Rattle.frs_writer.proofs.HoldsLog.{from_whole, durable_whole}

module _ {D : Type 0} (g : Ghosts D) (old w : WriterView D) (kept : IsKept g w) (told : IsTrue (g.tells old.disk) → IsTrue (g.tells w.disk)) where
  -- what is shown is spelled
  pub leaves_shown : w.taker.first ≤ old.synced + 1 → LeavesShown g old w → LeavesLog g old w
  leaves_shown first shown = record {
    images = λ tells well log is_log placed c left. spells_from g w kept (told tells) well log is_log placed old.synced first c (shown tells well log is_log placed c left);
    whole = λ tells well log is_log placed empty c left. from_whole old.synced log c (shown tells well log is_log placed c left) empty;
  }

  pub durable_written : ((disk : D) → IsTrue (g.tells disk) → g.may_leave disk (g.reads disk)) → w.ended ≡ None → IsDurable g old w
  durable_written as_read fine = record {
    spelled = λ tells well log is_log placed. durable_spells g w kept (told tells) well log is_log placed fine;
    alike = λ tells well log is_log placed. durable_alike g w kept (told tells) well log is_log placed (as_read w.disk (told tells)) fine;
    segments = λ tells well log is_log placed. durable_read g w kept (told tells) well log is_log placed fine;
    newest = λ tells. newest_synced g w kept fine (told tells);
    pending = λ tells. none_pending g w.disk kept.counted.newest (kept.at_work fine (told tells));
    whole = λ tells well log is_log placed empty. durable_whole g w kept (told tells) well log is_log placed empty fine;
  }

-- a writer that was left as it was
pub unchanged_shown : {D : Type 0} (g : Ghosts D) → ((disk : D) (c : Image) → g.left_since disk (g.moment disk) c → g.may_leave disk c) → (w : WriterView D) → IsKept g w → LeavesShown g w w
unchanged_shown g only_now w kept told well log is_log placed c left = (kept.holds told well log is_log placed).each c (only_now w.disk c left)

pub unchanged_leaves : {D : Type 0} (g : Ghosts D) → ((disk : D) (c : Image) → g.left_since disk (g.moment disk) c → g.may_leave disk c) → (w : WriterView D) → IsKept g w → LeavesLog g w w
unchanged_leaves g only_now w kept = leaves_shown g w w kept (λ told. told) kept.counted.first (unchanged_shown g only_now w kept)
