-- What is found of a store is what was read back, or why it couldn't be.
use Rattle.std.proofs.Common.{◌≡◌, ◌≢◌, ◌∙◌, ◌⊎◌, ⊎_elim, ap, sym, refl, inl, inr, arith, ℕ, ◌≤◌, true, List, IsTrue, Result, Ok, Err}
use Rattle.std.specs.Prelude.{IfOk, IfErr}
use Rattle.frs_types.specs.Records.{Log}
use Rattle.frs_segment.specs.Segments.{FileList, WholeSegment}
use Rattle.frs_recovery.specs.declared.fault.RecoverFault.{RecoverFault}
use Rattle.frs_recovery.specs.declared.fault.RecoverFault.TheVariants.{BadHeader, BadChunk, Gap, NumberLimit, Disk, Memory}
use Rattle.frs_recovery.specs.declared.recovered.Recovered.{Recovered}
use Rattle.frs_recovery.specs.Answers.{IsRecovered}
use Rattle.frs_recovery.specs.Faults.{HasRecoverCause, IsCauseOnDisk, GivesRecovered, Refuses}
use Rattle.frs_recovery.specs.FirstFault.{IsWrongFirst}
use Rattle.frs_text.specs.Text.{Text, stat_text, stat_of, stat_found}
use Rattle.std.specs.FinMap.{entries}
use Rattle.frs_disk.specs.declared.disk.Disk.{Ghosts}
use Rattle.frs_disk.specs.Disk.{Rose}
use Rattle.frs_text.specs.declared.plan.PlainPlan.TheVariants.{Compact, Stat}
use Rattle.frs_engine.specs.Reports.{Answers, IsSteady}
use Rattle.frs_engine.specs.PlainJobs.{refusal_status, refusal_text, finding_status, finding_text, maps_finding, numbers_finding, is_decided, IsSaid}
use Rattle.frs_engine.specs.Statuses.{is_plain_status}
use Rattle.frs_engine.specs.declared.finding.Finding.{Finding}
use Rattle.frs_engine.specs.declared.finding.Finding.TheVariants as finding

-- the status of a refusal, unless the disk or memory has failed
abbrev pub IsToldAs : ℕ → ℕ → Type 0
IsToldAs wanted status = (status ≡ wanted) ⊎ (status ≡ 3) ⊎ (status ≡ 9)

-- the status by which what was read back is told
abbrev pub status_read : Result Recovered RecoverFault → ℕ
status_read (Ok r) = 0
status_read (Err fault) = refusal_status fault

pub maps_status : (read : Result Recovered RecoverFault) → finding_status (maps_finding read) ≡ status_read read
maps_status (Ok r) = refl
maps_status (Err fault) = refl

pub numbers_status : (read : Result Recovered RecoverFault) → finding_status (numbers_finding read) ≡ status_read read
numbers_status (Ok r) = refl
numbers_status (Err fault) = refl

pub refused_as : (fault : RecoverFault) (read : Result Recovered RecoverFault) → Refuses fault read → IsToldAs (refusal_status fault) (status_read read)
refused_as fault (Ok r) refuses = absurd refuses
refused_as fault (Err Disk) refuses = inr (inl refl)
refused_as fault (Err Memory) refuses = inr (inr refl)
refused_as fault (Err (BadHeader segment offset)) refuses = inl (ap refusal_status refuses)
refused_as fault (Err (BadChunk segment offset)) refuses = inl (ap refusal_status refuses)
refused_as fault (Err (Gap expected found)) refuses = inl (ap refusal_status refuses)
refused_as fault (Err (NumberLimit lsn)) refuses = inl (ap refusal_status refuses)

pub given_as : (P : Recovered → Type 0) (read : Result Recovered RecoverFault) → GivesRecovered P read → IsToldAs 0 (status_read read)
given_as P (Ok r) gives = inl refl
given_as P (Err Disk) gives = inr (inl refl)
given_as P (Err Memory) gives = inr (inr refl)
given_as P (Err (BadHeader segment offset)) gives = absurd gives
given_as P (Err (BadChunk segment offset)) gives = absurd gives
given_as P (Err (Gap expected found)) gives = absurd gives
given_as P (Err (NumberLimit lsn)) gives = absurd gives

-- ---- the numbers of a store

module _ (law : (image : FileList) (segments : List WholeSegment) (log : Log) (r : Recovered) → IsRecovered image segments log r → stat_found r ≡ stat_of segments log)
    {D : Type 0} (g : Ghosts D) (old new : D) where
  not_compact : {P : Type 0} → Stat ≡ Compact → P
  not_compact is = absurd (cc)

  numbers_told : (r : Recovered) → (IsTrue (g.tells old) → (segments : List WholeSegment) × (log : Log) × IsRecovered (entries (g.reads old)) segments log r) → g.faults new ≡ g.faults old
      → IsSaid g Stat old new 0 (stat_text (stat_found r))
  numbers_told r found same = record {
    known = refl;
    later = λ is. absurd (omega arith);
    not_yet = not_compact;
    done = λ is tells. let f = found tells in (f.0, f.1, f.2.found.spelled, ap stat_text (law (entries (g.reads old)) f.0 f.1 r f.2));
    wrong = λ is. absurd (⊎_elim (λ w. omega (arith, w)) (λ w. omega (arith, w)) is);
    failed = λ is. absurd (omega arith);
    memory = λ is. absurd (omega arith);
    steady = λ is. same;
  }

  -- this is wrong first with the files
  wrong_told : (fault : RecoverFault) → (refusal_status fault ≡ 4) ⊎ (refusal_status fault ≡ 8) → IsTrue (is_decided (refusal_status fault)) → (IsTrue (g.tells old) → IsWrongFirst (entries (g.reads old)) fault) → g.faults new ≡ g.faults old
      → IsSaid g Stat old new (refusal_status fault) (refusal_text fault)
  wrong_told fault one known why same = record {
    known = known;
    later = λ is. absurd (⊎_elim (λ w. omega (arith, w, is)) (λ w. omega (arith, w, is)) one);
    not_yet = not_compact;
    done = λ is. absurd (⊎_elim (λ w. omega (arith, w, is)) (λ w. omega (arith, w, is)) one);
    wrong = λ is. (fault, refl, refl, why);
    failed = λ is. absurd (⊎_elim (λ w. omega (arith, w, is)) (λ w. omega (arith, w, is)) one);
    memory = λ is. absurd (⊎_elim (λ w. omega (arith, w, is)) (λ w. omega (arith, w, is)) one);
    steady = λ is. same;
  }

  -- the disk or memory has failed
  outside_told : (decided : ℕ) (text : Text) → IsTrue (is_decided decided) → (decided ≡ 3) ⊎ (decided ≡ 9) → (decided ≡ 3 → (g.faults old ≤ g.faults new) × Rose (g.faults old) (g.faults new) × (text ≡ refusal_text Disk))
      → (decided ≡ 9 → text ≡ refusal_text Memory) → (decided ≢ 3 → g.faults new ≡ g.faults old) → IsSaid g Stat old new decided text
  outside_told decided text known one failed memory steady = record {
    known = known;
    later = λ is. absurd (⊎_elim (λ w. omega (arith, w, is)) (λ w. omega (arith, w, is)) one);
    not_yet = not_compact;
    done = λ is. absurd (⊎_elim (λ w. omega (arith, w, is)) (λ w. omega (arith, w, is)) one);
    wrong = λ either. absurd (⊎_elim (λ is. ⊎_elim (λ w. omega (arith, w, is)) (λ w. omega (arith, w, is)) one) (λ is. ⊎_elim (λ w. omega (arith, w, is)) (λ w. omega (arith, w, is)) one) either);
    failed = failed;
    memory = memory;
    steady = steady;
  }

  refusal_told : (fault : RecoverFault) → (IsTrue (g.tells old) → IsCauseOnDisk (entries (g.reads old)) fault) → HasRecoverCause {X = Recovered} (g.faults old) (g.faults new) (Err fault)
      → IsSaid g Stat old new (refusal_status fault) (refusal_text fault)
  refusal_told Disk why cause = outside_told 3 (refusal_text Disk) refl (inl refl) (λ is. (cause.0, cause.1, refl)) (λ is. absurd (omega arith)) (λ other. absurd (other refl))
  refusal_told Memory why cause = outside_told 9 (refusal_text Memory) refl (inr refl) (λ is. absurd (omega arith)) (λ is. refl) (λ other. cause)
  refusal_told (BadHeader segment offset) why cause = wrong_told (BadHeader segment offset) (inl refl) refl why cause
  refusal_told (BadChunk segment offset) why cause = wrong_told (BadChunk segment offset) (inl refl) refl why cause
  refusal_told (Gap expected found) why cause = wrong_told (Gap expected found) (inl refl) refl why cause
  refusal_told (NumberLimit lsn) why cause = wrong_told (NumberLimit lsn) (inr refl) refl why cause

  pub numbers_said : (read : Result Recovered RecoverFault) → IfOk read (λ r. IsTrue (g.tells old) → (segments : List WholeSegment) × (log : Log) × IsRecovered (entries (g.reads old)) segments log r)
      → (IsTrue (g.tells old) → IfErr read (IsCauseOnDisk (entries (g.reads old)))) → HasRecoverCause (g.faults old) (g.faults new) read
      → IsSaid g Stat old new (finding_status (numbers_finding read)) (finding_text (numbers_finding read))
  numbers_said (Ok r) found why cause = numbers_told r found cause
  numbers_said (Err fault) found why cause = refusal_told fault why cause

-- ---- the status at the end

pub done_or_memory : (decided status before now sink_before sink_now : ℕ) → IsToldAs 0 decided → (decided ≡ 3 → Rose before now) → Answers decided status sink_before sink_now
    → IsSteady before now → IsSteady sink_before sink_now → (status ≡ 0) ⊎ (status ≡ 9)
done_or_memory decided status before now sink_before sink_now told failed answers steady sink_steady =
    ⊎_elim (λ same. ⊎_elim (λ zero. inl (same ∙ zero)) (λ rest. ⊎_elim (λ three. absurd (omega (arith, failed three, steady.0, steady.1))) (λ nine. inr (same ∙ nine)) rest) told)
    (λ rest. ⊎_elim (λ sink. absurd (omega (arith, sink.2, sink_steady.0, sink_steady.1))) inr rest) answers

-- ---- which statuses there are

known_refusal : (fault : RecoverFault) → is_plain_status (refusal_status fault) ≡ true
known_refusal (BadHeader segment offset) = refl
known_refusal (BadChunk segment offset) = refl
known_refusal (Gap expected found) = refl
known_refusal (NumberLimit lsn) = refl
known_refusal Disk = refl
known_refusal Memory = refl

known_found : (f : Finding) → is_plain_status (finding_status f) ≡ true
known_found finding.Later = refl
known_found (finding.Maps entries) = refl
known_found (finding.Numbers recovered) = refl
known_found (finding.Refused fault) = known_refusal fault

not_six : (fault : RecoverFault) → refusal_status fault ≡ 6 → ⊥
not_six (BadHeader segment offset) is = omega (arith, is)
not_six (BadChunk segment offset) is = omega (arith, is)
not_six (Gap expected found) is = omega (arith, is)
not_six (NumberLimit lsn) is = omega (arith, is)
not_six Disk is = omega (arith, is)
not_six Memory is = omega (arith, is)

found_not_six : (f : Finding) → finding_status f ≡ 6 → ⊥
found_not_six finding.Later is = omega (arith, is)
found_not_six (finding.Maps entries) is = omega (arith, is)
found_not_six (finding.Numbers recovered) is = omega (arith, is)
found_not_six (finding.Refused fault) is = not_six fault is

pub refusal_not_zero : (fault : RecoverFault) → refusal_status fault ≡ 0 → ⊥
refusal_not_zero (BadHeader segment offset) is = omega (arith, is)
refusal_not_zero (BadChunk segment offset) is = omega (arith, is)
refusal_not_zero (Gap expected found) is = omega (arith, is)
refusal_not_zero (NumberLimit lsn) is = omega (arith, is)
refusal_not_zero Disk is = omega (arith, is)
refusal_not_zero Memory is = omega (arith, is)

module _ (f : Finding) (status before now : ℕ) (answers : Answers (finding_status f) status before now) where
  pub known_plain : IsTrue (is_plain_status status)
  known_plain = ⊎_elim (λ same. ap is_plain_status same ∙ known_found f) (λ rest. ⊎_elim (λ sink. ap is_plain_status sink.0) (λ memory. ap is_plain_status memory) rest) answers

  pub sink_stopped : status ≡ 6 → Rose before now
  sink_stopped is = ⊎_elim (λ same. absurd (found_not_six f (sym same ∙ is))) (λ rest. ⊎_elim (λ sink. sink.2) (λ memory. absurd (omega (arith, is, memory))) rest) answers

  pub refusal_answered : (fault : RecoverFault) → IsToldAs (refusal_status fault) (finding_status f) → IsToldAs (refusal_status fault) status
  refusal_answered fault told = ⊎_elim
      (λ same. ⊎_elim
      (λ is. inl (same ∙ is))
      (λ rest. ⊎_elim (λ three. inr (inl (same ∙ three))) (λ nine. inr (inr (same ∙ nine))) rest) told)
      (λ rest. ⊎_elim
      (λ sink. absurd (⊎_elim
      (λ is. refusal_not_zero fault (sym is ∙ sink.1))
      (λ other. ⊎_elim (λ three. omega (arith, three, sink.1)) (λ nine. omega (arith, nine, sink.1)) other) told))
      (λ memory. inr (inr memory)) rest)
      answers
