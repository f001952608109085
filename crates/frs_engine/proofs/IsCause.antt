-- Which status a cause leads to, and which ending what is asked for leads to.
use Rattle.std.proofs.Common.{◌≡◌, ◌≢◌, ◌⊎◌, inl, inr, ⊎_elim, ℕ, ◌+◌, ◌<◌, Bool, true, false, cond, List, [], ◌∷◌, length, Option, Some, None, Result, Ok, Err, refl, sym, ap, subst, ◌∙◌, arith, IsTrue}
use Rattle.std.specs.Prelude.{nat_lt, ◌||◌, ◌==◌}
use Rattle.std.specs.FinMap.{entries}
use Rattle.std.proofs.lemmas.Option.{same_Some}
use Rattle.frs_types.specs.declared.limits.TheConstants.{NUMBER_LIMIT}
use Rattle.frs_types.specs.Records.{Log, next_lsn}
use Rattle.frs_history.specs.declared.command.Line.{Line}
use Rattle.frs_disk.specs.declared.disk.Disk as disks
use Rattle.frs_disk.specs.declared.outside.Files as files
use Rattle.frs_disk.specs.Disk.{Rose}
use Rattle.frs_disk.specs.Frames.{OnlyReads}
use Rattle.frs_segment.specs.Segments.{FileList, Spells}
use Rattle.frs_recovery.specs.declared.fault.RecoverFault.{RecoverFault}
use Rattle.frs_recovery.specs.declared.fault.RecoverFault.TheVariants as recover
use Rattle.frs_recovery.specs.FirstFault.{IsWrongFirst}
use Rattle.frs_book.specs.Books.{BookView}
use Rattle.frs_store.specs.Start.{greatest_of}
use Rattle.frs_text.specs.declared.plan.RunPlan.{RunPlan}
use Rattle.frs_text.specs.declared.plan.RunPlan.TheVariants.{Scripts, Demo}
use Rattle.frs_text.specs.declared.script_fault.ScriptFault.{ScriptFault}
use Rattle.frs_text.specs.declared.script_fault.ScriptFault.TheVariants as script
use Rattle.frs_engine.specs.declared.ending.Ending.{Ending}
use Rattle.frs_engine.specs.declared.ending.Ending.TheVariants.{Closed, Bad, Long, Disk, Unread, Past, Crowded, Refused, Limit, Memory, Later}
use Rattle.frs_engine.specs.Causes.{Handed, one_file, bytes_of_plan, bytes_handed, ending_of_plan, IsScript, AsksSnapshot, SpellsScript, HasFault, IsForLater, IsFull, HasRoomBehind, IsUnread, IsUnopened, IsStopped, IsEndOfRun, IsCause, asks_snapshot}
use Rattle.frs_engine.specs.Endings.{script_in, ending_by, status_of}
use Rattle.frs_engine.specs.PlainJobs.{refusal_status}
use Rattle.frs_engine.specs.Promise.{TellsIf}
use Rattle.frs_engine.specs.Reports.{Answers, IsSteady}
use Rattle.frs_engine.specs.Runs.{IsTooMuch, IsFullAtStart, IsFullBehind}
use Rattle.frs_engine.specs.Statuses.{is_status}

-- ---- the plan

no_bytes : (plan : RunPlan) (file : List ℕ → Option (List ℕ)) → one_file plan ≡ None → bytes_of_plan plan file ≡ None
no_bytes (Scripts []) file none = refl
no_bytes (Scripts (name ∷ [])) file none = absurd (cc)
no_bytes (Scripts (name ∷ other ∷ names)) file none = refl
no_bytes (Demo clients count) file none = refl

some_bytes : (plan : RunPlan) (file : List ℕ → Option (List ℕ)) (bytes : List ℕ) → one_file plan ≡ None → bytes_of_plan plan file ≡ Some bytes → ⊥
some_bytes plan file bytes none some = let e : None ≡ Some bytes = sym (no_bytes plan file none) ∙ some in cc

not_zero : (plan : RunPlan) → status_of (ending_of_plan plan) ≡ 0 → ⊥
not_zero (Scripts names) is = by (nat_lt 64 (length names)) is
  where
    by : (b : Bool) → status_of (cond b (Crowded (length names)) Later) ≡ 0 → ⊥
    by true is = omega (arith, is)
    by false is = omega (arith, is)
not_zero (Demo clients count) is = omega (arith, is)

-- ---- two readings of one file

same_reading : (bytes : Option (List ℕ)) (f g : List ℕ) (x y : Result (List Line) ScriptFault) → bytes ≡ Some f → script_in f ≡ x → bytes ≡ Some g → script_in g ≡ y → x ≡ y
same_reading bytes f g x y is_f x_is is_g y_is = sym x_is ∙ ap script_in (same_Some f g (sym is_f ∙ is_g)) ∙ y_is

not_both : (bytes : Option (List ℕ)) (fault : ScriptFault) → IsScript bytes → HasFault bytes fault → ⊥
not_both bytes fault (f, s, is_f, ok) (g, is_g, err) = let e = same_reading bytes f g (Ok s) (Err fault) is_f ok is_g err in cc

same_fault : (bytes : Option (List ℕ)) (a b : ScriptFault) → HasFault bytes a → HasFault bytes b → a ≡ b
same_fault bytes a b (f, is_f, a_is) (g, is_g, b_is) = let e = same_reading bytes f g (Err a) (Err b) is_f a_is is_g b_is in cc

script_spelled : (bytes : Option (List ℕ)) (s : List Line) → SpellsScript bytes s → IsScript bytes
script_spelled bytes s (f, is, ok, none) = (f, s, is, ok)

script_asking : (bytes : Option (List ℕ)) → AsksSnapshot bytes → IsScript bytes
script_asking bytes (f, s, is, ok, asks) = (f, s, is, ok)

-- a script that asks for no snapshot asks for none
no_snapshot : (bytes : Option (List ℕ)) (s : List Line) → SpellsScript bytes s → AsksSnapshot bytes → ⊥
no_snapshot bytes s (f, is, ok, none) (g, t, is_g, t_is, asks) =
    let e = same_reading bytes f g (Ok s) (Ok t) is ok is_g t_is in
    let same : s ≡ t = cc in
    let no : false ≡ true = sym none ∙ ap asks_snapshot same ∙ asks in cc

-- ---- endings and their statuses

abbrev may_refuse : ℕ → Bool
may_refuse n = (n == 3) || (n == 4) || (n == 8) || (n == 9)

refuses : (fault : RecoverFault) → may_refuse (refusal_status fault) ≡ true
refuses (recover.BadHeader segment offset) = refl
refuses (recover.BadChunk segment offset) = refl
refuses (recover.Gap expected found) = refl
refuses (recover.NumberLimit lsn) = refl
refuses recover.Disk = refl
refuses recover.Memory = refl

refused_not : (fault : RecoverFault) (k : ℕ) → may_refuse k ≡ false → refusal_status fault ≡ k → ⊥
refused_not fault k never is = let x : true ≡ false = sym (refuses fault) ∙ ap may_refuse is ∙ never in cc

pub zero_closed : (e : Ending) → status_of e ≡ 0 → e ≡ Closed
zero_closed Closed is = refl
zero_closed (Bad n) is = absurd (omega (arith, is))
zero_closed (Long n) is = absurd (omega (arith, is))
zero_closed Disk is = absurd (omega (arith, is))
zero_closed Unread is = absurd (omega (arith, is))
zero_closed (Past n) is = absurd (omega (arith, is))
zero_closed (Crowded n) is = absurd (omega (arith, is))
zero_closed (Refused fault) is = absurd (refused_not fault 0 refl is)
zero_closed Limit is = absurd (omega (arith, is))
zero_closed Memory is = absurd (omega (arith, is))
zero_closed Later is = absurd (omega (arith, is))

not_six : (e : Ending) → status_of e ≡ 6 → ⊥
not_six Closed is = omega (arith, is)
not_six (Bad n) is = omega (arith, is)
not_six (Long n) is = omega (arith, is)
not_six Disk is = omega (arith, is)
not_six Unread is = omega (arith, is)
not_six (Past n) is = omega (arith, is)
not_six (Crowded n) is = omega (arith, is)
not_six (Refused fault) is = refused_not fault 6 refl is
not_six Limit is = omega (arith, is)
not_six Memory is = omega (arith, is)
not_six Later is = omega (arith, is)

fault_not_zero : (fault : ScriptFault) → status_of (ending_by fault) ≡ 0 → ⊥
fault_not_zero (script.BadLine n) is = omega (arith, is)
fault_not_zero (script.TooLong n) is = omega (arith, is)
fault_not_zero (script.TooMany n) is = omega (arith, is)
fault_not_zero script.Memory is = omega (arith, is)

known_refusal : (fault : RecoverFault) → is_status (refusal_status fault) ≡ true
known_refusal (recover.BadHeader segment offset) = refl
known_refusal (recover.BadChunk segment offset) = refl
known_refusal (recover.Gap expected found) = refl
known_refusal (recover.NumberLimit lsn) = refl
known_refusal recover.Disk = refl
known_refusal recover.Memory = refl

known_ending : (e : Ending) → is_status (status_of e) ≡ true
known_ending Closed = refl
known_ending (Bad n) = refl
known_ending (Long n) = refl
known_ending Disk = refl
known_ending Unread = refl
known_ending (Past n) = refl
known_ending (Crowded n) = refl
known_ending (Refused fault) = known_refusal fault
known_ending Limit = refl
known_ending Memory = refl
known_ending Later = refl

-- ---- why there was nothing to be run

module _ {F : Type 0} (f : files.Ghosts F) (plan : RunPlan) (old new : F) where
  -- a script
  unread_script : (e : Ending) → IsTrue (f.tells old) → IsScript (bytes_of_plan plan (f.file old)) → IsUnread f plan old new e → (e ≡ Later) ⊎ (e ≡ Unread) ⊎ (e ≡ Memory)
  unread_script Closed t is u = absurd u
  unread_script (Bad n) t is u = absurd (not_both (bytes_of_plan plan (f.file old)) (script.BadLine n) is (u t))
  unread_script (Long n) t is u = absurd (not_both (bytes_of_plan plan (f.file old)) (script.TooLong n) is (u t))
  unread_script Disk t is u = absurd u
  unread_script Unread t is u = inr (inl refl)
  unread_script (Past n) t is u = absurd (not_both (bytes_of_plan plan (f.file old)) (script.TooMany n) is (u t))
  unread_script (Crowded n) t is u = absurd (some_bytes plan (f.file old) is.0 u.0 is.2)
  unread_script (Refused fault) t is u = absurd u
  unread_script Limit t is u = absurd u
  unread_script Memory t is u = inr (inr refl)
  unread_script Later t is u = inl refl

  -- one that asks for no snapshot
  unread_plain : (e : Ending) (s : List Line) → IsTrue (f.tells old) → SpellsScript (bytes_of_plan plan (f.file old)) s → IsUnread f plan old new e → (e ≡ Unread) ⊎ (e ≡ Memory)
  unread_plain e s t spells u = by (unread_script e t (script_spelled (bytes_of_plan plan (f.file old)) s spells) u)
    where
      not_later : IsUnread f plan old new Later → ⊥
      not_later u = ⊎_elim (λ several. some_bytes plan (f.file old) spells.0 several.0 spells.1) (λ asks. no_snapshot (bytes_of_plan plan (f.file old)) s spells (asks t)) u

      by : (e ≡ Later) ⊎ (e ≡ Unread) ⊎ (e ≡ Memory) → (e ≡ Unread) ⊎ (e ≡ Memory)
      by (inl later) = absurd (not_later (subst (IsUnread f plan old new) later u))
      by (inr rest) = rest

  -- a file that is refused
  unread_refused : (e : Ending) (fault : ScriptFault) → IsTrue (f.tells old) → HasFault (bytes_of_plan plan (f.file old)) fault → IsUnread f plan old new e
      → (e ≡ ending_by fault) ⊎ (status_of e ≡ 9) ⊎ (status_of e ≡ 5)
  unread_refused Closed fault t has u = absurd u
  unread_refused (Bad n) fault t has u = inl (ap ending_by (same_fault (bytes_of_plan plan (f.file old)) (script.BadLine n) fault (u t) has))
  unread_refused (Long n) fault t has u = inl (ap ending_by (same_fault (bytes_of_plan plan (f.file old)) (script.TooLong n) fault (u t) has))
  unread_refused Disk fault t has u = absurd u
  unread_refused Unread fault t has u = inr (inr refl)
  unread_refused (Past n) fault t has u = inl (ap ending_by (same_fault (bytes_of_plan plan (f.file old)) (script.TooMany n) fault (u t) has))
  unread_refused (Crowded n) fault t has u = absurd (some_bytes plan (f.file old) has.0 u.0 has.1)
  unread_refused (Refused wrong) fault t has u = absurd u
  unread_refused Limit fault t has u = absurd u
  unread_refused Memory fault t has u = inr (inl refl)
  unread_refused Later fault t has u = absurd (⊎_elim
      (λ several. some_bytes plan (f.file old) has.0 several.0 has.1)
      (λ asks. not_both (bytes_of_plan plan (f.file old)) fault (script_asking (bytes_of_plan plan (f.file old)) (asks t)) has)
      u)

-- ---- which cause a status has

module _ {D F : Type 0} (d : disks.Ghosts D) (f : files.Ghosts F) (h : Handed D F) (lines : List Line) where
  pub bad_cause : (book : Option BookView) (e : Ending) → IsCause d f h lines book e → status_of e ≡ 2 → IsTrue (f.tells h.files)
      → (line : ℕ) × (HasFault (bytes_handed f h) (script.BadLine line) ⊎ HasFault (bytes_handed f h) (script.TooLong line))
  bad_cause book (Bad n) (inl u) is t = (n, inl (u.0 t))
  bad_cause book (Long n) (inl u) is t = (n, inr (u.0 t))
  bad_cause None (Bad n) (inr r) is t = absurd r.1
  bad_cause None (Long n) (inr r) is t = absurd r.1
  bad_cause (Some b) (Bad n) (inr r) is t = absurd r.1.0
  bad_cause (Some b) (Long n) (inr r) is t = absurd r.1.0
  bad_cause book Closed c is t = absurd (omega (arith, is))
  bad_cause book Disk c is t = absurd (omega (arith, is))
  bad_cause book Unread c is t = absurd (omega (arith, is))
  bad_cause book (Past n) c is t = absurd (omega (arith, is))
  bad_cause book (Crowded n) c is t = absurd (omega (arith, is))
  bad_cause book (Refused fault) c is t = absurd (refused_not fault 2 refl is)
  bad_cause book Limit c is t = absurd (omega (arith, is))
  bad_cause book Memory c is t = absurd (omega (arith, is))
  bad_cause book Later c is t = absurd (omega (arith, is))

  pub disk_cause : (book : Option BookView) (e : Ending) → IsCause d f h lines book e → status_of e ≡ 3 → Rose (d.faults h.disk) (d.faults h.disk_after)
  disk_cause book Disk (inl u) is = absurd u.0
  disk_cause None Disk (inr r) is = r.1
  disk_cause (Some b) Disk (inr r) is = r.1.0
  disk_cause book (Refused (recover.BadHeader segment offset)) c is = absurd (omega (arith, is))
  disk_cause book (Refused (recover.BadChunk segment offset)) c is = absurd (omega (arith, is))
  disk_cause book (Refused (recover.Gap expected found)) c is = absurd (omega (arith, is))
  disk_cause book (Refused (recover.NumberLimit lsn)) c is = absurd (omega (arith, is))
  disk_cause book (Refused recover.Disk) (inl u) is = absurd u.0
  disk_cause None (Refused recover.Disk) (inr r) is = absurd r.1.2
  disk_cause (Some b) (Refused recover.Disk) (inr r) is = absurd r.1.0
  disk_cause book (Refused recover.Memory) c is = absurd (omega (arith, is))
  disk_cause book (Bad n) c is = absurd (omega (arith, is))
  disk_cause book (Long n) c is = absurd (omega (arith, is))
  disk_cause book Closed c is = absurd (omega (arith, is))
  disk_cause book Unread c is = absurd (omega (arith, is))
  disk_cause book (Past n) c is = absurd (omega (arith, is))
  disk_cause book (Crowded n) c is = absurd (omega (arith, is))
  disk_cause book Limit c is = absurd (omega (arith, is))
  disk_cause book Memory c is = absurd (omega (arith, is))
  disk_cause book Later c is = absurd (omega (arith, is))

  -- what is wrong first with the files
  pub wrong_cause : (book : Option BookView) (e : Ending) → IsCause d f h lines book e → status_of e ≡ 4
      → ((IsTrue (d.tells h.disk) → (fault : RecoverFault) × IsWrongFirst (entries (d.reads h.disk)) fault × (refusal_status fault ≡ 4))
      × OnlyReads d h.disk h.disk_after)
  wrong_cause book (Refused fault) (inl u) is = absurd u.0
  wrong_cause None (Refused fault) (inr r) is = (λ told. (fault, r.1.3 told, is), r.1.1)
  wrong_cause (Some b) (Refused fault) (inr r) is = absurd r.1.0
  wrong_cause book Disk c is = absurd (omega (arith, is))
  wrong_cause book (Bad n) c is = absurd (omega (arith, is))
  wrong_cause book (Long n) c is = absurd (omega (arith, is))
  wrong_cause book Closed c is = absurd (omega (arith, is))
  wrong_cause book Unread c is = absurd (omega (arith, is))
  wrong_cause book (Past n) c is = absurd (omega (arith, is))
  wrong_cause book (Crowded n) c is = absurd (omega (arith, is))
  wrong_cause book Limit c is = absurd (omega (arith, is))
  wrong_cause book Memory c is = absurd (omega (arith, is))
  wrong_cause book Later c is = absurd (omega (arith, is))

  pub files_cause : (book : Option BookView) (e : Ending) → IsCause d f h lines book e → status_of e ≡ 5 → Rose (f.faults h.files) (f.faults h.files_after)
  files_cause book Unread (inl u) is = u.0
  files_cause None Unread (inr r) is = absurd r.1
  files_cause (Some b) Unread (inr r) is = absurd r.1.0
  files_cause book (Bad n) c is = absurd (omega (arith, is))
  files_cause book (Long n) c is = absurd (omega (arith, is))
  files_cause book Closed c is = absurd (omega (arith, is))
  files_cause book Disk c is = absurd (omega (arith, is))
  files_cause book (Past n) c is = absurd (omega (arith, is))
  files_cause book (Crowded n) c is = absurd (omega (arith, is))
  files_cause book (Refused fault) c is = absurd (refused_not fault 5 refl is)
  files_cause book Limit c is = absurd (omega (arith, is))
  files_cause book Memory c is = absurd (omega (arith, is))
  files_cause book Later c is = absurd (omega (arith, is))

  -- the plan or the script is too large, the store has no room, or the session has used it up
  pub limit_cause : (book : Option BookView) (e : Ending) → TellsIf d h.disk h.disk_after lines book → IsCause d f h lines book e → status_of e ≡ 8
      → IsTooMuch f h ⊎ IsFullAtStart d h ⊎ IsFullBehind d f h
  limit_cause book (Crowded n) tells (inl u) is = inl (inl (n, u.0.0, u.0.1), u.2)
  limit_cause None (Crowded n) tells (inr r) is = absurd r.1
  limit_cause (Some b) (Crowded n) tells (inr r) is = absurd r.1.0
  limit_cause book (Past n) tells (inl u) is = inl (inr (λ t. (n, u.0 t)), u.2)
  limit_cause None (Past n) tells (inr r) is = absurd r.1
  limit_cause (Some b) (Past n) tells (inr r) is = absurd r.1.0
  limit_cause book Limit tells (inl u) is = absurd u.0
  limit_cause None Limit tells (inr r) is = inr (inl (λ told. inl (r.1.2 told), r.1.1))
  limit_cause (Some b) Limit tells (inr r) is = inr (inr (record { script = lines; session = b.session; tells = (b.acks, tells); spelled = r.0; filled = r.1.0.1 }))
  limit_cause book (Refused (recover.BadHeader segment offset)) tells c is = absurd (omega (arith, is))
  limit_cause book (Refused (recover.BadChunk segment offset)) tells c is = absurd (omega (arith, is))
  limit_cause book (Refused (recover.Gap expected found)) tells c is = absurd (omega (arith, is))
  limit_cause book (Refused (recover.NumberLimit lsn)) tells (inl u) is = absurd u.0
  limit_cause None (Refused (recover.NumberLimit lsn)) tells (inr r) is = inr (inl (λ told. inr (lsn, r.1.3 told), r.1.1))
  limit_cause (Some b) (Refused (recover.NumberLimit lsn)) tells (inr r) is = absurd r.1.0
  limit_cause book (Refused recover.Disk) tells c is = absurd (omega (arith, is))
  limit_cause book (Refused recover.Memory) tells c is = absurd (omega (arith, is))
  limit_cause book (Bad n) tells c is = absurd (omega (arith, is))
  limit_cause book (Long n) tells c is = absurd (omega (arith, is))
  limit_cause book Closed tells c is = absurd (omega (arith, is))
  limit_cause book Disk tells c is = absurd (omega (arith, is))
  limit_cause book Unread tells c is = absurd (omega (arith, is))
  limit_cause book Memory tells c is = absurd (omega (arith, is))
  limit_cause book Later tells c is = absurd (omega (arith, is))

  pub later_cause : (book : Option BookView) (e : Ending) → IsCause d f h lines book e → status_of e ≡ 10 → IsTrue (f.tells h.files) → IsForLater f h
  later_cause book Later (inl u) is t = ⊎_elim (λ several. inl several) (λ asks. inr (asks t)) u.0
  later_cause None Later (inr r) is t = absurd r.1
  later_cause (Some b) Later (inr r) is t = absurd r.1.0
  later_cause book (Bad n) c is t = absurd (omega (arith, is))
  later_cause book (Long n) c is t = absurd (omega (arith, is))
  later_cause book Closed c is t = absurd (omega (arith, is))
  later_cause book Disk c is t = absurd (omega (arith, is))
  later_cause book Unread c is t = absurd (omega (arith, is))
  later_cause book (Past n) c is t = absurd (omega (arith, is))
  later_cause book (Crowded n) c is t = absurd (omega (arith, is))
  later_cause book (Refused fault) c is t = absurd (refused_not fault 10 refl is)
  later_cause book Limit c is t = absurd (omega (arith, is))
  later_cause book Memory c is t = absurd (omega (arith, is))

  -- ---- which disk is left alone

  not_run : (book : Option BookView) (e : Ending) → IsCause d f h lines book e → ((b : Option BookView) → IsEndOfRun d h.disk h.disk_after b e → ⊥) → h.disk_after ≡ h.disk
  not_run book e (inl u) none = u.2
  not_run book e (inr r) none = absurd (none book r.1)

  abbrev NeverRun : Ending → Type 0
  NeverRun e = (b : Option BookView) → IsEndOfRun d h.disk h.disk_after b e → ⊥

  never_bad : (n : ℕ) → NeverRun (Bad n)
  never_bad n None ends = ends
  never_bad n (Some b) ends = ends.0

  never_long : (n : ℕ) → NeverRun (Long n)
  never_long n None ends = ends
  never_long n (Some b) ends = ends.0

  never_unread : NeverRun Unread
  never_unread None ends = ends
  never_unread (Some b) ends = ends.0

  never_later : NeverRun Later
  never_later None ends = ends
  never_later (Some b) ends = ends.0

  pub untouched : (book : Option BookView) (e : Ending) → IsCause d f h lines book e → (status_of e ≡ 2) ⊎ (status_of e ≡ 5) ⊎ (status_of e ≡ 10) → h.disk_after ≡ h.disk
  untouched book (Bad n) c is = not_run book (Bad n) c (never_bad n)
  untouched book (Long n) c is = not_run book (Long n) c (never_long n)
  untouched book Unread c is = not_run book Unread c never_unread
  untouched book Later c is = not_run book Later c never_later
  untouched book Closed c is = absurd (⊎_elim (λ a. omega (arith, a)) (λ r. ⊎_elim (λ a. omega (arith, a)) (λ a. omega (arith, a)) r) is)
  untouched book Disk c is = absurd (⊎_elim (λ a. omega (arith, a)) (λ r. ⊎_elim (λ a. omega (arith, a)) (λ a. omega (arith, a)) r) is)
  untouched book (Past n) c is = absurd (⊎_elim (λ a. omega (arith, a)) (λ r. ⊎_elim (λ a. omega (arith, a)) (λ a. omega (arith, a)) r) is)
  untouched book (Crowded n) c is = absurd (⊎_elim (λ a. omega (arith, a)) (λ r. ⊎_elim (λ a. omega (arith, a)) (λ a. omega (arith, a)) r) is)
  untouched book (Refused fault) c is = absurd (⊎_elim (λ a. refused_not fault 2 refl a) (λ r. ⊎_elim (λ a. refused_not fault 5 refl a) (λ a. refused_not fault 10 refl a) r) is)
  untouched book Limit c is = absurd (⊎_elim (λ a. omega (arith, a)) (λ r. ⊎_elim (λ a. omega (arith, a)) (λ a. omega (arith, a)) r) is)
  untouched book Memory c is = absurd (⊎_elim (λ a. omega (arith, a)) (λ r. ⊎_elim (λ a. omega (arith, a)) (λ a. omega (arith, a)) r) is)

  -- ---- which ending what is asked for leads to

  module _ (book : Option BookView) (e : Ending) (c : IsCause d f h lines book e) (t : IsTrue (f.tells h.files)) where
    -- a file that is refused
    pub refused_ending : (fault : ScriptFault) → HasFault (bytes_handed f h) fault → (e ≡ ending_by fault) ⊎ (status_of e ≡ 9) ⊎ (status_of e ≡ 5)
    refused_ending fault has = ⊎_elim
        (λ u. unread_refused f h.plan h.files h.files_after e fault t has u.0)
        (λ r. absurd (not_both (bytes_handed f h) fault (script_spelled (bytes_handed f h) lines (r.0 t)) has))
        c

    -- a script that asks for a snapshot
    asking_ending : AsksSnapshot (bytes_handed f h) → (e ≡ Later) ⊎ (e ≡ Unread) ⊎ (e ≡ Memory)
    asking_ending has = ⊎_elim
        (λ u. unread_script f h.plan h.files h.files_after e t (script_asking (bytes_handed f h) has) u.0)
        (λ r. absurd (no_snapshot (bytes_handed f h) lines (r.0 t) has))
        c

    pub later_ending : (one_file h.plan ≡ None → e ≡ ending_of_plan h.plan) → IsForLater f h → (e ≡ Later) ⊎ (e ≡ Unread) ⊎ (e ≡ Memory)
    later_ending several later = ⊎_elim (λ plan. inl (several plan.0 ∙ plan.1)) asking_ending later

    -- a script that asks for none: it wasn't read, or it was run
    pub script_ending : (s : List Line) → SpellsScript (bytes_handed f h) s → (e ≡ Unread) ⊎ (e ≡ Memory) ⊎ IsEndOfRun d h.disk h.disk_after book e
    script_ending s spells = ⊎_elim
        (λ u. ⊎_elim (λ a. inl a) (λ a. inr (inl a)) (unread_plain f h.plan h.files h.files_after e s t spells u.0))
        (λ r. inr (inr r.1))
        c

-- ---- how the run of a script ends on such files

-- no room, and room
full_and_room : (image : FileList) (log : Log) → HasRoomBehind image log → ((image : FileList) (log other : Log) → Spells image log → Spells image other → log ≡ other) → IsFull image → ⊥
full_and_room image log room one_log (other, spelled, full) = by full
  where
    same : other ≡ log
    same = one_log image other log spelled room.0

    by : (next_lsn other ≡ NUMBER_LIMIT) ⊎ ((next_lsn other < NUMBER_LIMIT) × (greatest_of image + 1 ≡ NUMBER_LIMIT)) → ⊥
    by (inl lsn) = let is : next_lsn log ≡ NUMBER_LIMIT = sym (ap next_lsn same) ∙ lsn in omega (arith, is, room.1)
    by (inr number) = omega (arith, number.1, room.2)

module _ {D : Type 0} (d : disks.Ghosts D) (old new : D) (told : IsTrue (d.tells old))
    (one_log : (image : FileList) (log other : Log) → Spells image log → Spells image other → log ≡ other)
    (apart : (image : FileList) (log : Log) (fault : RecoverFault) → Spells image log → IsWrongFirst image fault → ⊥)
    (one : (image : FileList) (fault other : RecoverFault) → IsWrongFirst image fault → IsWrongFirst image other → fault ≡ other) where
  abbrev image : FileList
  image = entries (d.reads old)

  -- of files that are refused
  pub wrong_end : (book : Option BookView) (e : Ending) (fault : RecoverFault) → IsWrongFirst image fault → IsEndOfRun d old new book e
      → (status_of e ≡ refusal_status fault) ⊎ (status_of e ≡ 9) ⊎ (status_of e ≡ 3)
  wrong_end None (Refused other) fault wrong ends = inl (ap refusal_status (one image other fault (ends.3 told) wrong))
  wrong_end None Limit fault wrong ends = let full = ends.2 told in absurd (apart image full.0 fault full.1 wrong)
  wrong_end None Disk fault wrong ends = inr (inr refl)
  wrong_end None Memory fault wrong ends = inr (inl refl)
  wrong_end None Closed fault wrong ends = absurd ends
  wrong_end None (Bad n) fault wrong ends = absurd ends
  wrong_end None (Long n) fault wrong ends = absurd ends
  wrong_end None Unread fault wrong ends = absurd ends
  wrong_end None (Past n) fault wrong ends = absurd ends
  wrong_end None (Crowded n) fault wrong ends = absurd ends
  wrong_end None Later fault wrong ends = absurd ends
  wrong_end (Some b) e fault wrong ends = let room = ends.1 told in absurd (apart image room.0 fault room.1.0 wrong)

  -- of files that leave no room
  pub full_end : (book : Option BookView) (e : Ending) → IsFull image → IsEndOfRun d old new book e → (status_of e ≡ 8) ⊎ (status_of e ≡ 9) ⊎ (status_of e ≡ 3)
  full_end None (Refused other) full ends = absurd (apart image full.0 other full.1 (ends.3 told))
  full_end None Limit full ends = inl refl
  full_end None Disk full ends = inr (inr refl)
  full_end None Memory full ends = inr (inl refl)
  full_end None Closed full ends = absurd ends
  full_end None (Bad n) full ends = absurd ends
  full_end None (Long n) full ends = absurd ends
  full_end None Unread full ends = absurd ends
  full_end None (Past n) full ends = absurd ends
  full_end None (Crowded n) full ends = absurd ends
  full_end None Later full ends = absurd ends
  full_end (Some b) e full ends = let room = ends.1 told in absurd (full_and_room image room.0 room.1 one_log full)

  -- of files that leave room, on a disk whose count hasn't risen
  pub whole_end : (book : Option BookView) (e : Ending) (log : Log) → HasRoomBehind image log → (Rose (d.faults old) (d.faults new) → ⊥) → IsEndOfRun d old new book e
      → (e ≡ Closed) ⊎ (status_of e ≡ 9) ⊎ (e ≡ Limit)
  whole_end None (Refused other) log room steady ends = absurd (apart image log other room.0 (ends.3 told))
  whole_end None Limit log room steady ends = absurd (full_and_room image log room one_log (ends.2 told))
  whole_end None Disk log room steady ends = absurd (steady ends)
  whole_end None Memory log room steady ends = inr (inl refl)
  whole_end None Closed log room steady ends = absurd ends
  whole_end None (Bad n) log room steady ends = absurd ends
  whole_end None (Long n) log room steady ends = absurd ends
  whole_end None Unread log room steady ends = absurd ends
  whole_end None (Past n) log room steady ends = absurd ends
  whole_end None (Crowded n) log room steady ends = absurd ends
  whole_end None Later log room steady ends = absurd ends
  whole_end (Some b) Closed log room steady ends = inl refl
  whole_end (Some b) Limit log room steady ends = inr (inr refl)
  whole_end (Some b) Disk log room steady ends = absurd (steady ends.0)
  whole_end (Some b) Memory log room steady ends = inr (inl refl)
  whole_end (Some b) (Refused other) log room steady ends = absurd ends.0
  whole_end (Some b) (Bad n) log room steady ends = absurd ends.0
  whole_end (Some b) (Long n) log room steady ends = absurd ends.0
  whole_end (Some b) Unread log room steady ends = absurd ends.0
  whole_end (Some b) (Past n) log room steady ends = absurd ends.0
  whole_end (Some b) (Crowded n) log room steady ends = absurd ends.0
  whole_end (Some b) Later log room steady ends = absurd ends.0

-- a limit that was met though there was room at the start
module _ {D F : Type 0} (d : disks.Ghosts D) (f : files.Ghosts F) (h : Handed D F) (lines : List Line) where
  pub filled_end : (book : Option BookView) (e : Ending) → TellsIf d h.disk h.disk_after lines book → IsCause d f h lines book e → e ≡ Limit → IsTrue (d.tells h.disk) → (log : Log)
      → HasRoomBehind (entries (d.reads h.disk)) log → ((image : FileList) (log other : Log) → Spells image log → Spells image other → log ≡ other)
      → IsEndOfRun d h.disk h.disk_after book e → IsFullBehind d f h
  filled_end book e tells (inl u) limit told log room one_log ends = absurd (subst (IsUnread f h.plan h.files h.files_after) limit u.0)
  filled_end None e tells (inr r) limit told log room one_log ends =
      let unopened : IsUnopened d h.disk h.disk_after Limit = subst (IsUnopened d h.disk h.disk_after) limit ends in
      absurd (full_and_room (entries (d.reads h.disk)) log room one_log (unopened.2 told))
  filled_end (Some b) e tells (inr r) limit told log room one_log ends =
      let stopped : IsStopped d h.disk h.disk_after b.session Limit = subst (IsStopped d h.disk h.disk_after b.session) limit ends.0 in
      record { script = lines; session = b.session; tells = (b.acks, tells); spelled = r.0; filled = stopped.1 }

pub risen : (before now : ℕ) → IsSteady before now → Rose before now → ⊥
risen before now steady rose = omega (arith, steady.0, steady.1, rose)

-- ---- the status that is answered

-- but for 6 and 9 the status is the one that was decided
pub decided_is : (decided status before now : ℕ) → Answers decided status before now → status ≢ 6 → status ≢ 9 → decided ≡ status
decided_is decided status before now answers not_sink not_memory = ⊎_elim (λ same. sym same) (λ rest. ⊎_elim (λ sink. absurd (not_sink sink.0)) (λ memory. absurd (not_memory memory)) rest) answers

-- a status that was decided and isn't 0 is answered, or memory ran out
pub answered : (decided status before now : ℕ) → Answers decided status before now → (decided ≡ 0 → ⊥) → (status ≡ decided) ⊎ (status ≡ 9)
answered decided status before now answers other = ⊎_elim (λ same. inl same) (λ rest. ⊎_elim (λ sink. absurd (other sink.1)) (λ memory. inr memory) rest) answers

module _ (e : Ending) (status before now : ℕ) (answers : Answers (status_of e) status before now) where
  pub known_status : IsTrue (is_status status)
  known_status = ⊎_elim (λ same. ap is_status same ∙ known_ending e) (λ rest. ⊎_elim (λ sink. ap is_status sink.0) (λ memory. ap is_status memory) rest) answers

  pub sink_cause : status ≡ 6 → Rose before now
  sink_cause is = ⊎_elim (λ same. absurd (not_six e (sym same ∙ is))) (λ rest. ⊎_elim (λ sink. sink.2) (λ memory. absurd (omega (arith, is, memory))) rest) answers

  -- all was done, though the sink may have failed
  pub done_closed : (status ≡ 0) ⊎ (status ≡ 6) → e ≡ Closed
  done_closed (inl zero) = zero_closed e (decided_is (status_of e) status before now answers (λ six. omega (arith, zero, six)) (λ nine. omega (arith, zero, nine)) ∙ zero)
  done_closed (inr six) = ⊎_elim (λ same. absurd (not_six e (sym same ∙ six))) (λ rest. ⊎_elim (λ sink. zero_closed e sink.1) (λ memory. absurd (omega (arith, six, memory))) rest) answers

  -- this status was decided, and isn't 0
  settled_at : (k : ℕ) → status_of e ≡ k → (k ≡ 0 → ⊥) → (status ≡ k) ⊎ (status ≡ 9)
  settled_at k is other = ⊎_elim (λ same. inl (same ∙ is)) (λ nine. inr nine) (answered (status_of e) status before now answers (λ zero. other (sym is ∙ zero)))

  pub plan_answered : (plan : RunPlan) → e ≡ ending_of_plan plan → (status ≡ status_of (ending_of_plan plan)) ⊎ (status ≡ 9)
  plan_answered plan is = settled_at (status_of (ending_of_plan plan)) (ap status_of is) (not_zero plan)

  pub fault_answered : (fault : ScriptFault) → (e ≡ ending_by fault) ⊎ (status_of e ≡ 9) ⊎ (status_of e ≡ 5) → (status ≡ status_of (ending_by fault)) ⊎ (status ≡ 9) ⊎ (status ≡ 5)
  fault_answered fault ends = ⊎_elim
      (λ is. ⊎_elim (λ same. inl same) (λ nine. inr (inl nine)) (settled_at (status_of (ending_by fault)) (ap status_of is) (fault_not_zero fault)))
      (λ rest. ⊎_elim
      (λ nine. ⊎_elim (λ same. inr (inl same)) (λ memory. inr (inl memory)) (settled_at 9 nine (λ zero. omega (arith, zero))))
      (λ five. ⊎_elim (λ same. inr (inr same)) (λ memory. inr (inl memory)) (settled_at 5 five (λ zero. omega (arith, zero)))) rest)
      ends

  -- what can't be run yet
  pub put_off : (e ≡ Later) ⊎ (e ≡ Unread) ⊎ (e ≡ Memory) → (status ≡ 10) ⊎ (status ≡ 9) ⊎ (status ≡ 5)
  put_off (inl is) = ⊎_elim (λ same. inl same) (λ memory. inr (inl memory)) (settled_at 10 (ap status_of is) (λ zero. omega (arith, zero)))
  put_off (inr (inl is)) = ⊎_elim (λ same. inr (inr same)) (λ memory. inr (inl memory)) (settled_at 5 (ap status_of is) (λ zero. omega (arith, zero)))
  put_off (inr (inr is)) = ⊎_elim (λ same. inr (inl same)) (λ memory. inr (inl memory)) (settled_at 9 (ap status_of is) (λ zero. omega (arith, zero)))

  -- a script that was read is refused with the store by this status, unless a count rose or memory ran out
  pub store_answered : {Ends : Type 0} (k : ℕ) → (k ≡ 0 → ⊥) → (Ends → (status_of e ≡ k) ⊎ (status_of e ≡ 9) ⊎ (status_of e ≡ 3)) → (e ≡ Unread) ⊎ (e ≡ Memory) ⊎ Ends
      → (status ≡ k) ⊎ (status ≡ 9) ⊎ (status ≡ 5) ⊎ (status ≡ 3)
  store_answered k some ends (inl is) = ⊎_elim (λ same. inr (inr (inl same))) (λ memory. inr (inl memory)) (settled_at 5 (ap status_of is) (λ zero. omega (arith, zero)))
  store_answered k some ends (inr (inl is)) = ⊎_elim (λ same. inr (inl same)) (λ memory. inr (inl memory)) (settled_at 9 (ap status_of is) (λ zero. omega (arith, zero)))
  store_answered k some ends (inr (inr run)) = by (ends run)
    where
      by : (status_of e ≡ k) ⊎ (status_of e ≡ 9) ⊎ (status_of e ≡ 3) → (status ≡ k) ⊎ (status ≡ 9) ⊎ (status ≡ 5) ⊎ (status ≡ 3)
      by (inl is) = ⊎_elim (λ same. inl same) (λ memory. inr (inl memory)) (settled_at k is some)
      by (inr (inl is)) = ⊎_elim (λ same. inr (inl same)) (λ memory. inr (inl memory)) (settled_at 9 is (λ zero. omega (arith, zero)))
      by (inr (inr is)) = ⊎_elim (λ same. inr (inr (inr same))) (λ memory. inr (inl memory)) (settled_at 3 is (λ zero. omega (arith, zero)))

  -- a status that isn't this one, nor that of want of memory, wasn't decided so
  pub not_decided : (k : ℕ) → (k ≡ 0 → ⊥) → status ≢ k → status ≢ 9 → status_of e ≡ k → ⊥
  not_decided k some other memory is = ⊎_elim other memory (settled_at k is some)

  -- a script that can be run is run to its end, unless memory ran out or a limit was met
  pub whole_answered : {Filled Ends : Type 0} → IsSteady before now → (e ≡ Unread → ⊥) → (Ends → (e ≡ Closed) ⊎ (status_of e ≡ 9) ⊎ (e ≡ Limit)) → (Ends → e ≡ Limit → Filled)
      → (e ≡ Unread) ⊎ (e ≡ Memory) ⊎ Ends → (status ≡ 0) ⊎ (status ≡ 9) ⊎ ((status ≡ 8) × Filled)
  whole_answered steady read ends filled (inl is) = absurd (read is)
  whole_answered steady read ends filled (inr (inl is)) = ⊎_elim (λ same. inr (inl same)) (λ memory. inr (inl memory)) (settled_at 9 (ap status_of is) (λ zero. omega (arith, zero)))
  whole_answered {Filled} steady read ends filled (inr (inr run)) = by (ends run)
    where
      by : (e ≡ Closed) ⊎ (status_of e ≡ 9) ⊎ (e ≡ Limit) → (status ≡ 0) ⊎ (status ≡ 9) ⊎ ((status ≡ 8) × Filled)
      by (inl closed) = ⊎_elim (λ same. inl (same ∙ ap status_of closed)) (λ rest. ⊎_elim (λ sink. absurd (risen before now steady sink.2)) (λ memory. inr (inl memory)) rest) answers
      by (inr (inl is)) = ⊎_elim (λ same. inr (inl same)) (λ memory. inr (inl memory)) (settled_at 9 is (λ zero. omega (arith, zero)))
      by (inr (inr limit)) = ⊎_elim (λ same. inr (inr (same, filled run limit))) (λ memory. inr (inl memory)) (settled_at 8 (ap status_of limit) (λ zero. omega (arith, zero)))
