-- What the two laws make of an answer: what the files spell is read back, and what is wrong first is told.
use Rattle.std.proofs.Common.{◌≡◌, ℕ, List, sym, subst, Result, Err}
use Rattle.frs_types.specs.Records.{Log}
use Rattle.frs_disk.specs.declared.disk.Fault.{Fault}
use Rattle.frs_disk.specs.declared.disk.Fault.TheVariants as disk
use Rattle.frs_disk.specs.Disk.{HasCause}
use Rattle.frs_segment.specs.Segments.{FileList, WholeSegment, SpellsBy, Spells}
use Rattle.frs_recovery.specs.declared.recovered.Recovered.{Recovered}
use Rattle.frs_recovery.specs.declared.fault.RecoverFault.{RecoverFault}
use Rattle.frs_recovery.specs.declared.fault.RecoverFault.TheVariants.{BadHeader, BadChunk, Gap, NumberLimit, Disk, Memory}
use Rattle.frs_recovery.specs.Answers.{IsRecovered}
use Rattle.frs_recovery.specs.Faults.{recover_fault_of, IsCauseOnDisk, GivesRecovered, Refuses, CountsFault}
use Rattle.frs_recovery.specs.FirstFault.{IsWrongFirst}

-- ---- the files are read back

module _ (segments_law : (image : FileList) (a b : List WholeSegment) (log other : Log) → SpellsBy image a log → SpellsBy image b other → a ≡ b)
    (log_law : (image : FileList) (log other : Log) → Spells image log → Spells image other → log ≡ other) where
  pub only_one : (image : FileList) (r : Recovered) → (segments : List WholeSegment) × (log : Log) × IsRecovered image segments log r → (segments : List WholeSegment) (log : Log) → SpellsBy image segments log → IsRecovered image segments log r
  only_one image r (had, has, is) segments log by =
      let same = segments_law image had segments has log is.found.spelled by in
      let one = log_law image has log (had, is.found.spelled) (segments, by) in
      subst (λ (s : List WholeSegment). IsRecovered image s log r) same (subst (λ (l : Log). IsRecovered image had l r) one is)

module _ (apart : (image : FileList) (log : Log) (fault : RecoverFault) → Spells image log → IsWrongFirst image fault → ⊥) where
  pub never_wrong : (image : FileList) (r : Recovered) (fault : RecoverFault) → (segments : List WholeSegment) × (log : Log) × IsRecovered image segments log r → IsWrongFirst image fault → ⊥
  never_wrong image r fault (segments, log, is) wrong = apart image log fault (segments, is.found.spelled) wrong

  gives_none : {X : Type 0} (P : X → Type 0) (image : FileList) (fault : RecoverFault) → (IsWrongFirst image fault → ⊥) → IsCauseOnDisk image fault → GivesRecovered P (Err fault)
  gives_none P image (BadHeader segment offset) never is = never is
  gives_none P image (BadChunk segment offset) never is = never is
  gives_none P image (Gap expected found) never is = never is
  gives_none P image (NumberLimit lsn) never is = never is
  gives_none P image Disk never is = tt
  gives_none P image Memory never is = tt

  -- a store that is spelled is refused by the disk or memory alone
  pub only_outside : {X : Type 0} (P : X → Type 0) (image : FileList) (result : Result X RecoverFault) (fault : RecoverFault) → result ≡ Err fault → IsCauseOnDisk image fault → (segments : List WholeSegment) (log : Log) → SpellsBy image segments log → GivesRecovered P result
  only_outside P image result fault is cause segments log by =
      subst (λ (r : Result _ RecoverFault). GivesRecovered P r) (sym is) (gives_none P image fault (λ wrong. apart image log fault (segments, by) wrong) cause)

module _ (one : (image : FileList) (fault other : RecoverFault) → IsWrongFirst image fault → IsWrongFirst image other → fault ≡ other) where
  refuses_by : (X : Type 0) (image : FileList) (fault other : RecoverFault) → (IsWrongFirst image other → other ≡ fault) → IsCauseOnDisk image other → Refuses {X = X} fault (Err other)
  refuses_by X image fault (BadHeader segment offset) same is = same is
  refuses_by X image fault (BadChunk segment offset) same is = same is
  refuses_by X image fault (Gap expected found) same is = same is
  refuses_by X image fault (NumberLimit lsn) same is = same is
  refuses_by X image fault Disk same is = tt
  refuses_by X image fault Memory same is = tt

  -- what is wrong first is told
  pub told_wrong : {X : Type 0} (image : FileList) (result : Result X RecoverFault) (fault other : RecoverFault) → result ≡ Err other → IsCauseOnDisk image other → IsWrongFirst image fault → Refuses fault result
  told_wrong {X} image result fault other is cause wrong = subst (λ (r : Result X RecoverFault). Refuses fault r) (sym is) (refuses_by X image fault other (λ also. one image other fault also wrong) cause)

-- ---- the numbers of the files weren't told

pub outside_gives : {X : Type 0} (P : X → Type 0) (result : Result X RecoverFault) (fault : Fault) → result ≡ Err (recover_fault_of fault) → GivesRecovered P result
outside_gives P result fault is = subst (λ (r : Result _ RecoverFault). GivesRecovered P r) (sym is) (at fault)
  where
    at : (f : Fault) → GivesRecovered P (Err (recover_fault_of f))
    at disk.Failed = tt
    at disk.Memory = tt

pub outside_refuses : {X : Type 0} (other : RecoverFault) (result : Result X RecoverFault) (fault : Fault) → result ≡ Err (recover_fault_of fault) → Refuses other result
outside_refuses {X} other result fault is = subst (λ (r : Result X RecoverFault). Refuses other r) (sym is) (at fault)
  where
    at : (f : Fault) → Refuses {X = X} other (Err (recover_fault_of f))
    at disk.Failed = tt
    at disk.Memory = tt

pub outside_cause : (image : FileList) (fault : Fault) → IsCauseOnDisk image (recover_fault_of fault)
outside_cause image disk.Failed = tt
outside_cause image disk.Memory = tt

pub outside_counts : (T : Type 0) (before now : ℕ) (fault : Fault) → HasCause {T = T} before now (Err fault) → CountsFault before now (recover_fault_of fault)
outside_counts T before now disk.Failed cause = cause
outside_counts T before now disk.Memory cause = cause
