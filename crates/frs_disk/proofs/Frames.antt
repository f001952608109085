-- How the frames of single calls join into the frame of a run.
use Rattle.std.proofs.Common.{◌≡◌, ⊎_elim, ℕ, ◌≤◌, ◌∙◌, IsTrue, refl, sym, subst, arith}
use Rattle.std.specs.FinMap.{get}
use Rattle.frs_disk.specs.declared.disk.Disk.{Ghosts}
use Rattle.frs_disk.specs.Disk.{Image, Elapses, ChangesFile, Follows, Keeps}
use Rattle.frs_disk.specs.Frames.{NoneRemovedAbove, RemovesBelow, OnlyReads, ChangesOneFile, GoesOn}
use Rattle.frs_disk.proofs.Moments.{passes_none, passes_join, within_join, agrees_start, call_agrees, agrees_join}

-- ---- what is pending

-- a number below that of a file that is there isn't above it
pub removed_below : {D : Type 0} (g : Ghosts D) (disk : D) → RemovesBelow g disk → NoneRemovedAbove g disk
removed_below g disk below n pends = let (m, there, lt) = below n pends in (m, there, omega (arith, lt))

-- ---- runs that only read

module _ {D : Type 0} (g : Ghosts D) where
  pub only_reads_none : ((disk : D) (c : Image) → g.left_since disk (g.moment disk) c → g.may_leave disk c) → (disk : D) → OnlyReads g disk disk
  only_reads_none only disk = record {
    told = refl;
    seen = refl;
    pending = λ n is. is;
    crash = λ c left. left;
    time = passes_none g disk;
    within = only disk;
  }

  -- one call of the trait
  pub only_reads_call : (old new : D) → g.tells new ≡ g.tells old → g.reads new ≡ g.reads old → ((n : ℕ) → g.removing new n → g.removing old n)
      → Keeps (g.may_leave old) (g.may_leave new) → Elapses g.moment g.left_since g.may_leave old new → OnlyReads g old new
  only_reads_call old new told seen pending keeps time = record {
    told = told;
    seen = seen;
    pending = pending;
    crash = keeps;
    time = time.passes;
    within = λ c left. ⊎_elim (λ was. was) (keeps c) (time.within c left);
  }

  pub only_reads_join : ((disk : D) (s t : ℕ) (c : Image) → s ≤ t → g.left_since disk t c → g.left_since disk s c) → (old mid new : D)
      → OnlyReads g old mid → OnlyReads g mid new → OnlyReads g old new
  only_reads_join earlier old mid new first second = record {
    told = second.told ∙ first.told;
    seen = second.seen ∙ first.seen;
    pending = λ n is. first.pending n (second.pending n is);
    crash = λ c left. first.crash c (second.crash c left);
    time = passes_join g earlier old mid new first.time second.time;
    within = within_join g old mid new (g.may_leave old) first.time second.time first.within (λ c left. first.crash c (second.within c left));
  }

-- ---- runs that change one file

module _ {D : Type 0} (g : Ghosts D) where
  -- one call of the trait
  pub changes_one_call : (number : ℕ) (step : _) (old new : D) → g.tells new ≡ g.tells old
      → (IsTrue (g.tells old) → ChangesFile number step (g.reads old) (g.reads new)) → ((n : ℕ) → g.removing new n → g.removing old n)
      → Follows (ChangesFile number step) (g.may_leave old) (g.may_leave new) → Elapses g.moment g.left_since g.may_leave old new
      → ChangesOneFile g number old new
  changes_one_call number step old new told changes pending follows time = record {
    told = told;
    others = λ tells. (changes tells).others;
    pending = pending;
    time = time.passes;
    elsewhere = call_agrees g number step old new time follows;
  }

  -- a run that only reads changes no file, so one at most
  pub changes_one_read : (number : ℕ) (old new : D) → OnlyReads g old new → ChangesOneFile g number old new
  changes_one_read number old new reads = record {
    told = reads.told;
    others = λ tells q other. subst (λ files. get files q ≡ get (g.reads old) q) (sym reads.seen) refl;
    pending = reads.pending;
    time = reads.time;
    elsewhere = λ c left. agrees_start number (g.may_leave old) c (reads.within c left);
  }

  pub changes_one_join : ((disk : D) (t : ℕ) (c : Image) → t ≤ g.moment disk → g.may_leave disk c → g.left_since disk t c)
      → ((disk : D) (s t : ℕ) (c : Image) → s ≤ t → g.left_since disk t c → g.left_since disk s c) → (number : ℕ) (old mid new : D)
      → ChangesOneFile g number old mid → ChangesOneFile g number mid new → ChangesOneFile g number old new
  changes_one_join counts earlier number old mid new first second = record {
    told = second.told ∙ first.told;
    others = λ tells q other. second.others (subst IsTrue (sym first.told) tells) q other ∙ first.others tells q other;
    pending = λ n is. first.pending n (second.pending n is);
    time = passes_join g earlier old mid new first.time second.time;
    elsewhere = agrees_join g counts number old mid new first.time second.time first.elsewhere second.elsewhere;
  }

-- ---- runs that go on

module _ {D : Type 0} (g : Ghosts D) where
  pub goes_on_none : (disk : D) → GoesOn g disk disk
  goes_on_none disk = record { told = refl; time = passes_none g disk }

  pub goes_on_join : ((disk : D) (s t : ℕ) (c : Image) → s ≤ t → g.left_since disk t c → g.left_since disk s c) → (old mid new : D)
      → GoesOn g old mid → GoesOn g mid new → GoesOn g old new
  goes_on_join earlier old mid new first second = record { told = second.told ∙ first.told; time = passes_join g earlier old mid new first.time second.time }

  pub reads_go_on : (old new : D) → OnlyReads g old new → GoesOn g old new
  reads_go_on old new reads = record { told = reads.told; time = reads.time }

  pub changes_go_on : (number : ℕ) (old new : D) → ChangesOneFile g number old new → GoesOn g old new
  changes_go_on number old new changes = record { told = changes.told; time = changes.time }
