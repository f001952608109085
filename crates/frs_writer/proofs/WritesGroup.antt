-- A writer after a group was put behind its newest segment, whatever was answered.
use Rattle.std.proofs.Common.{◌≡◌, ◌⊎◌, inl, inr, ⊎_elim, ℕ, ◌+◌, ◌-◌, ◌^◌, ◌<◌, ◌≤◌, Bool, true, false, List, [], ◌∷◌, ◌++◌, length, Option, Some, None, IsSome, refl, sym, ◌∙◌, ap, subst, arith, IsTrue}
use Rattle.std.specs.Prelude.{Result, Ok, Err, OnErr, IsSomeAnd, is_some, nat_le, nat_lt, ◌&&◌, take, if◌then◌else◌}
use Rattle.std.proofs.lemmas.Bool.{cases_lt, lt-ltb, le-ltb, leb-false}
use Rattle.std.specs.FinMap.{entries, get}
use Rattle.frs_types.specs.Records.{Log, IsPlaced}
use Rattle.frs_disk.specs.declared.disk.Disk.{Ghosts}
use Rattle.frs_disk.specs.declared.disk.Fault.{Fault}
use Rattle.frs_disk.specs.declared.disk.Fault.TheVariants.{Failed, Memory}
use Rattle.frs_disk.specs.Disk.{Image, Rose, HasCause, bytes_at}
use Rattle.frs_disk.specs.Frames.{Within, LeftNoFile, ChangesOneFile}
use Rattle.frs_disk.proofs.Frames.{changes_one_read, only_reads_none}
use Rattle.frs_segment.specs.declared.layout.Segment.{Segment}
use Rattle.frs_segment.specs.Segments.{Spells}
use Rattle.frs_segment.specs.Stores.{LeavesAlike}
use Rattle.frs_slots.specs.Views.{TakerView, MissedRecord}
use Rattle.frs_writer.specs.Gates.{IsShut, sealed_chunk}
use Rattle.frs_writer.specs.Groups.{joined_records, lowest_of_last, GathersGroup, PutsGroup}
use Rattle.frs_writer.specs.Invariant.{ShowsFrom, IsKept}
use Rattle.frs_segment.specs.Scanning.{places_of_segment}
use Rattle.frs_writer.specs.Places.{with_chunk_place, with_newest_grown, length_of_newest, number_of_newest}
use Rattle.frs_writer.specs.LogImages.{new_segment}
use Rattle.frs_writer.specs.Writer.{WriterView, IsLog, WasEmpty}
use Rattle.frs_writer.specs.Writing.{is_due, segments_after_roll, number_to_write, WritesGroup, StopsWrite}
use Rattle.frs_writer.proofs.GathersGroup.{nothing_gathered, nothing_missed}
use Rattle.frs_writer.proofs.PutsGroup.{kept_grown, kept_failed, images_shown, group_within_lsns}
use Rattle.frs_writer.proofs.IsRolled.{kept_same}
use Rattle.frs_writer.proofs.Places.{newest_grown, newest_length, newest_number}

-- the answer and what was put agree
pub record IsPut {D : Type 0} (g : Ghosts D)
    (old new : D) (before after : Segment) (group : List (List ℕ)) (result : Result ℕ Fault) : Type 0 where
  pub none : length group ≡ 0 → (result ≡ Ok 0) × (new ≡ old) × (after ≡ before)
  pub some : 1 ≤ length group → PutsGroup g old new before after group result

not_err : (count : ℕ) (fault : Fault) (result : Result ℕ Fault) → result ≡ Ok count → result ≡ Err fault → ⊥
not_err count fault result ok err = let both : Ok count ≡ Err fault = sym ok ∙ err in cc

same_count : (a b : ℕ) (result : Result ℕ Fault) → result ≡ Ok a → result ≡ Ok b → a ≡ b
same_count a b result one other = let both : Ok a ≡ Ok b = sym one ∙ other in cc

-- whatever was answered
pub at_refusal : {T E Q : Type 0} (r : Result T E) → Q → OnErr r Q
at_refusal (Ok x) q = tt
at_refusal (Err e) q = q

-- there is something where it has a property
of_none : (n : ℕ) (group : List (List ℕ)) → length group ≡ 0 → lowest_of_last n group ≡ n
of_none n [] none = refl
of_none n (b ∷ group) none = absurd (omega (arith, none))

some_has : {X : Type 0} (P : X → Type 0) (o : Option X) → IsSomeAnd o P → IsSome o
some_has P None is = absurd is
some_has P (Some x) is = refl

module _ {D : Type 0} (g : Ghosts D) (as_read : (disk : D) → IsTrue (g.tells disk) → g.may_leave disk (g.reads disk))
    (counts_now : (disk : D) (t : ℕ) (c : Image) → t ≤ g.moment disk → g.may_leave disk c → g.left_since disk t c)
    (only_now : (disk : D) (c : Image) → g.left_since disk (g.moment disk) c → g.may_leave disk c)
    (w : WriterView D) (kept : IsKept g w) (fine : w.ended ≡ None)
    (limit : ℕ) (few : limit ≤ 256) (t : TakerView) (still : Option (List ℕ)) (group : List (List ℕ)) (gathered : GathersGroup limit w.taker t w.kept still group) (d : D)
    (after : Segment) (result : Result ℕ Fault) (put : IsPut g w.disk d kept.counted.newest after group result)
    (short : 1 ≤ length group → kept.counted.newest.length < 2 ^ 20) (low : ℕ) (low_is : low ≡ lowest_of_last w.lowest group) where
  abbrev pub newest : Segment
  newest = kept.counted.newest

  abbrev pub view : ℕ → List Segment → ℕ → Option Fault → WriterView D
  view lowest segments synced ended = record { opened = w.opened; disk = d; taker = t; kept = still; segments = segments; noted = w.noted; pins = w.pins; older = w.older; synced = synced; lowest = lowest; ended = ended }

  images_of : (some : 1 ≤ length group) → IsTrue (g.tells w.disk) → Within g w.disk d (λ c. IsShut (take (newest.length - 1) (bytes_at (g.reads w.disk) newest.number)) (get c newest.number)
      ⊎ (get c newest.number ≡ Some (take (newest.length - 1) (bytes_at (g.reads w.disk) newest.number) ++ 1 ∷ sealed_chunk (w.synced + 1) (length group) (joined_records group))))
  images_of some told = subst (λ (n : ℕ). Within g w.disk d (λ c. IsShut (take (newest.length - 1) (bytes_at (g.reads w.disk) newest.number)) (get c newest.number)
      ⊎ (get c newest.number ≡ Some (take (newest.length - 1) (bytes_at (g.reads w.disk) newest.number) ++ 1 ∷ sealed_chunk n (length group) (joined_records group))))) kept.counted.ends ((put.some some).images told)

  pub err_kept : (fault : Fault) → result ≡ Err fault → (segments : List Segment) → segments ≡ kept.counted.older ++ after ∷ [] → IsKept g (view w.lowest segments w.synced (Some fault))
  err_kept fault is segments are = elim (cases_lt 0 (length group)) [
    | inl lt ↦
        let some : 1 ≤ length group = omega (arith, lt) in
        let p : PutsGroup g w.disk d newest after group (Err fault) = subst (λ (r : Result ℕ Fault). PutsGroup g w.disk d newest after group r) is (put.some some) in
        subst (λ (s : List Segment). IsKept g (view w.lowest s w.synced (Some fault))) (kept.counted.segments ∙ ap (λ (s : Segment). kept.counted.older ++ s ∷ []) (sym p.refused) ∙ sym are)
        (kept_failed g as_read counts_now w kept fine limit t still group gathered d low p.frame (omega (arith, gathered.most, few)) some (images_of some) fault)
    | inr ge ↦ absurd (not_err 0 fault result (put.none (omega (arith, ge))).0 is)
  ]

  pub ok_kept : (count : ℕ) → result ≡ Ok count → (segments : List Segment) → segments ≡ kept.counted.older ++ after ∷ [] → IsKept g (view low segments (w.synced + count) w.ended)
  ok_kept count is segments are = subst (λ (e : Option Fault). IsKept g (view low segments (w.synced + count) e)) (sym fine) (elim (cases_lt 0 (length group)) [
    | inl lt ↦
        let some : 1 ≤ length group = omega (arith, lt) in
        let p : PutsGroup g w.disk d newest after group (Ok count) = subst (λ (r : Result ℕ Fault). PutsGroup g w.disk d newest after group r) is (put.some some) in
        let same : with_newest_grown (length group) (length (joined_records group)) w.segments ≡ segments =
        ap (with_newest_grown (length group) (length (joined_records group))) kept.counted.segments ∙ newest_grown (length group) (length (joined_records group)) kept.counted.older newest
        ∙ ap (λ (s : Segment). kept.counted.older ++ s ∷ []) (sym p.grown_is) ∙ sym are in
        subst (λ (n : ℕ). IsKept g (view low segments (w.synced + n) None)) (sym p.counted)
        (subst (λ (s : List Segment). IsKept g (view low s (w.synced + length group) None)) same
        (kept_grown g as_read counts_now w kept fine limit t still group gathered d low p.frame (omega (arith, gathered.most, few)) some (images_of some)
        (short some) p.durable
        (λ told. subst (λ (n : ℕ). get (g.reads d) newest.number ≡ Some (take (newest.length - 1) (bytes_at (g.reads w.disk) newest.number) ++ 1 ∷ sealed_chunk n (length group) (joined_records group))) kept.counted.ends (p.written told))))
    | inr ge ↦
        let none : length group ≡ 0 = omega (arith, ge) in
        let (ok, same_disk, same_segment) = put.none none in
        let (was, now, taken) = nothing_gathered limit w.taker t w.kept still group gathered none in
        let zero : count ≡ 0 = same_count count 0 result is ok in
        let same : w.segments ≡ segments = kept.counted.segments ∙ ap (λ (s : Segment). kept.counted.older ++ s ∷ []) (sym same_segment) ∙ sym are in
        let taken_up : IsKept g (record w { taker = t }) = kept_same g w t gathered.ring.1 taken kept in
        let plain : IsKept g (record { opened = w.opened; disk = w.disk; taker = t; kept = w.kept; segments = w.segments; noted = w.noted; pins = w.pins; older = w.older; synced = w.synced; lowest = w.lowest; ended = w.ended }) = taken_up in
        let a : IsKept g (record { opened = w.opened; disk = d; taker = t; kept = w.kept; segments = w.segments; noted = w.noted; pins = w.pins; older = w.older; synced = w.synced; lowest = w.lowest; ended = w.ended }) =
        subst (λ (x : D). IsKept g (record { opened = w.opened; disk = x; taker = t; kept = w.kept; segments = w.segments; noted = w.noted; pins = w.pins; older = w.older; synced = w.synced; lowest = w.lowest; ended = w.ended })) (sym same_disk) plain in
        let b : IsKept g (view w.lowest w.segments w.synced w.ended) =
        subst (λ (x : Option (List ℕ)). IsKept g (record { opened = w.opened; disk = d; taker = t; kept = x; segments = w.segments; noted = w.noted; pins = w.pins; older = w.older; synced = w.synced; lowest = w.lowest; ended = w.ended })) (was ∙ sym now) a in
        let e : IsKept g (view w.lowest segments w.synced w.ended) = subst (λ (s : List Segment). IsKept g (view w.lowest s w.synced w.ended)) same b in
        let f : IsKept g (view w.lowest segments (w.synced + count) w.ended) = subst (λ (n : ℕ). IsKept g (view w.lowest segments n w.ended)) (omega (arith, zero)) e in
        let h : IsKept g (view low segments (w.synced + count) w.ended) = subst (λ (n : ℕ). IsKept g (view n segments (w.synced + count) w.ended)) (sym (low_is ∙ of_none w.lowest group none)) f in
        subst (λ (x : Option Fault). IsKept g (view low segments (w.synced + count) x)) fine h
  ])

  pub put_images : (w' : WriterView D) → w'.opened ≡ w.opened → w'.taker ≡ t → IsTrue (g.tells w.disk) → LeavesAlike g w.opened → (log' : Log) → IsLog g w' log' → IsPlaced log'
      → Within g w.disk d (λ c. ShowsFrom (WasEmpty g w.opened) (LeftNoFile g w.opened) w.synced log' (entries c))
  put_images w' same taker told well log' is_log placed = elim (cases_lt 0 (length group)) [
    | inl lt ↦
        let some : 1 ≤ length group = omega (arith, lt) in
        let p = put.some some in
        images_shown g as_read counts_now w kept fine limit t still group gathered d low p.frame (omega (arith, gathered.most, few)) some (images_of some)
        w' same taker told well log' is_log placed
    | inr ge ↦
        let none : length group ≡ 0 = omega (arith, ge) in
        let (ok, same_disk, same_segment) = put.none none in
        let (was, now, taken) = nothing_gathered limit w.taker t w.kept still group gathered none in
        let l : IsLog g w log' = record {
          base = is_log.base;
          spelled = subst (λ (o : D). Spells (entries (g.reads o)) is_log.base) same is_log.spelled;
          taken = is_log.taken;
          bytes = sym (ap (λ (v : TakerView). v.taken) taker ∙ taken) ∙ is_log.bytes;
          is = is_log.is;
        } in
        λ c left. (kept.holds told well log' l placed).each c (only_now w.disk c (subst (λ (x : D). g.left_since x (g.moment w.disk) c) same_disk left))
  ]

  pub err_stops : (fault : Fault) → result ≡ Err fault → (segments : List Segment) → segments ≡ kept.counted.older ++ after ∷ [] → StopsWrite g limit w (view w.lowest segments w.synced (Some fault))
  err_stops fault is segments are = elim (cases_lt 0 (length group)) [
    | inl lt ↦
        let some : 1 ≤ length group = omega (arith, lt) in
        let p : PutsGroup g w.disk d newest after group (Err fault) = subst (λ (r : Result ℕ Fault). PutsGroup g w.disk d newest after group r) is (put.some some) in
        let same : segments ≡ w.segments = are ∙ ap (λ (s : Segment). kept.counted.older ++ s ∷ []) p.refused ∙ sym kept.counted.segments in
        record {
          synced = refl;
          lowest = refl;
          segments = same;
          there = λ told.
              let image = images_of some (subst IsTrue p.frame.told told) (g.reads d) (counts_now d (g.moment w.disk) (g.reads d) p.frame.time.later (as_read d told)) in
              subst (λ (n : ℕ). IsSome (get (g.reads d) n)) (sym (ap number_of_newest (same ∙ kept.counted.segments) ∙ newest_number kept.counted.older newest))
              (⊎_elim (λ shut. some_has _ (get (g.reads d) newest.number) shut) (λ whole. ap is_some whole) image);
          gathered = inr (group, some, gathered);
        }
    | inr ge ↦ absurd (not_err 0 fault result (put.none (omega (arith, ge))).0 is)
  ]

  pub put_counted : (count : ℕ) → result ≡ Ok count → count ≡ length group
  put_counted count is = elim (cases_lt 0 (length group)) [
    | inl lt ↦
        let some : 1 ≤ length group = omega (arith, lt) in
        (subst (λ (r : Result ℕ Fault). PutsGroup g w.disk d newest after group r) is (put.some some)).counted
    | inr ge ↦ same_count count 0 result is (put.none (omega (arith, ge))).0 ∙ omega (arith, ge)
  ]

  -- what was written, as one sees it who saw the writer before it went on to this segment
  pub put_wrote : (count : ℕ) → result ≡ Ok count → 1 ≤ limit → (w0 : WriterView D) → w0.taker ≡ w.taker → w0.kept ≡ w.kept → w0.synced ≡ w.synced → w0.lowest ≡ w.lowest → segments_after_roll w0 ≡ w.segments
      → (segments : List Segment) → segments ≡ kept.counted.older ++ after ∷ [] → (ended : Option Fault) (synced : ℕ) → synced ≡ w.synced + count → WritesGroup limit count w0 (view low segments synced ended)
  put_wrote count is least w0 taker kept_same_one synced_same lowest_same rolls segments are ended synced synced_is = record {
    group = group;
    gathers = subst (λ (v : TakerView). GathersGroup limit v t w0.kept still group) (sym taker) (subst (λ (o : Option (List ℕ)). GathersGroup limit w.taker t o still group) (sym kept_same_one) gathered);
    counted = put_counted count is;
    none = λ zero. let (was, now, missed) = nothing_missed limit w.taker t w.kept still group least gathered (sym (put_counted count is) ∙ zero) in (kept_same_one ∙ was, now, subst (λ (v : TakerView). MissedRecord v t) (sym taker) missed);
    synced = synced_is ∙ ap (λ (n : ℕ). n + count) (sym synced_same);
    lowest = low_is ∙ ap (λ (n : ℕ). lowest_of_last n group) (sym lowest_same);
    segments = elim (cases_lt 0 (length group)) [
      | inl lt ↦
          let some : 1 ≤ length group = omega (arith, lt) in
          let p : PutsGroup g w.disk d newest after group (Ok count) = subst (λ (r : Result ℕ Fault). PutsGroup g w.disk d newest after group r) is (put.some some) in
          are ∙ ap (λ (s : Segment). kept.counted.older ++ s ∷ []) p.grown_is
          ∙ ap (λ (n : ℕ). kept.counted.older ++ with_chunk_place n (length (joined_records group)) newest ∷ []) (sym p.counted)
          ∙ sym (newest_grown count (length (joined_records group)) kept.counted.older newest)
          ∙ ap (with_newest_grown count (length (joined_records group))) (sym kept.counted.segments ∙ sym rolls)
          ∙ ap (λ (b : Bool). if b then with_newest_grown count (length (joined_records group)) (segments_after_roll w0) else segments_after_roll w0) (sym (lt-ltb 0 count (omega (arith, p.counted, lt))))
      | inr ge ↦
          let none : length group ≡ 0 = omega (arith, ge) in
          let (ok, same_disk, same_segment) = put.none none in
          let zero : count ≡ 0 = put_counted count is ∙ none in
          are ∙ ap (λ (s : Segment). kept.counted.older ++ s ∷ []) same_segment ∙ sym kept.counted.segments ∙ sym rolls
          ∙ ap (λ (b : Bool). if b then with_newest_grown count (length (joined_records group)) (segments_after_roll w0) else segments_after_roll w0) (sym (le-ltb 0 count (omega (arith, zero))))
    ];
  }

-- ---- the file that is written

-- where the disk is as it was
pub changes_none : {D : Type 0} (g : Ghosts D) → ((disk : D) (c : Image) → g.left_since disk (g.moment disk) c → g.may_leave disk c) → (number : ℕ) (disk : D) → ChangesOneFile g number disk disk
changes_none g only_now number disk = changes_one_read g number disk disk (only_reads_none g only_now disk)

-- where a group was put, or there was none
pub put_changes : {D : Type 0} (g : Ghosts D) → ((disk : D) (c : Image) → g.left_since disk (g.moment disk) c → g.may_leave disk c)
    → (old new : D) (before after : Segment) (group : List (List ℕ)) (result : Result ℕ Fault) → IsPut g old new before after group result → ChangesOneFile g before.number old new
put_changes g only_now old new before after group result put = elim (cases_lt 0 (length group)) [
  | inl lt ↦ (put.some (omega (arith, lt))).frame
  | inr ge ↦ subst (λ d. ChangesOneFile g before.number old d) (sym (put.none (omega (arith, ge))).1) (changes_none g only_now before.number old)
]

-- where nothing was changed
pub unchanged_stops : {D : Type 0} (g : Ghosts D) (w : WriterView D) (kept : IsKept g w) → w.ended ≡ None → (limit : ℕ) → StopsWrite g limit w w
unchanged_stops g w kept fine limit = record {
  synced = refl;
  lowest = refl;
  segments = refl;
  there = λ told. subst (λ (n : ℕ). IsSome (get (g.reads w.disk) n)) (sym (ap number_of_newest kept.counted.segments ∙ newest_number kept.counted.older kept.counted.newest))
      (some_has _ (get (g.reads w.disk) kept.counted.newest.number) (kept.at_work fine told).gate);
  gathered = inl fine;
}

-- where no new segment is due there is room for a group that there is
pub short_here : {D : Type 0} (g : Ghosts D) (w : WriterView D) (kept : IsKept g w) (fine : w.ended ≡ None)
    (limit : ℕ) (t : TakerView) (still : Option (List ℕ)) (group : List (List ℕ)) (gathered : GathersGroup limit w.taker t w.kept still group) → is_due w ≡ false → 1 ≤ length group → kept.counted.newest.length < 2 ^ 20
short_here g w kept fine limit t still group gathered here some =
    let room : w.synced + 1 < 2 ^ 62 = omega (arith, some, group_within_lsns w kept.counted limit t still group gathered fine, gathered.within kept.counted.most) in
    leb-false (2 ^ 20) kept.counted.newest.length (left_false _ _ (lt-ltb (w.synced + 1) (2 ^ 62) room)
    (sym (ap (λ (n : ℕ). nat_le (2 ^ 20) n && nat_lt (w.synced + 1) (2 ^ 62)) (ap length_of_newest kept.counted.segments ∙ newest_length kept.counted.older kept.counted.newest)) ∙ here))
  where
    left_false : (a b : Bool) → b ≡ true → (a && b) ≡ false → a ≡ false
    left_false false b whole none = refl
    left_false true true whole none = none
    left_false true false whole none = sym whole ∙ none

pub not_due : {D : Type 0} (w : WriterView D) → is_due w ≡ false → segments_after_roll w ≡ w.segments
not_due w here = ap (λ (b : Bool). if b then w.segments ++ places_of_segment (new_segment (number_of_newest w.segments + 1) (w.synced + 1)) ∷ [] else w.segments) here

due : {D : Type 0} (w : WriterView D) → is_due w ≡ true → segments_after_roll w ≡ w.segments ++ places_of_segment (new_segment (number_of_newest w.segments + 1) (w.synced + 1)) ∷ []
due w there = ap (λ (b : Bool). if b then w.segments ++ places_of_segment (new_segment (number_of_newest w.segments + 1) (w.synced + 1)) ∷ [] else w.segments) there

pub after_roll : {D : Type 0} (w : WriterView D) (n : ℕ) → is_due w ≡ true → number_of_newest w.segments + 1 ≡ n → w.segments ++ places_of_segment (new_segment n (w.synced + 1)) ∷ [] ≡ segments_after_roll w
after_roll w n there number = ap (λ (k : ℕ). w.segments ++ places_of_segment (new_segment k (w.synced + 1)) ∷ []) (sym number) ∙ sym (due w there)

-- the number of the file that is written, where a new segment is due
pub number_due : {D : Type 0} (w : WriterView D) (n : ℕ) → is_due w ≡ true → number_of_newest w.segments + 1 ≡ n → number_to_write w ≡ n
number_due w n there number = ap number_of_newest (sym (after_roll w n there number)) ∙ newest_number w.segments (places_of_segment (new_segment n (w.synced + 1)))

-- ---- faults

pub broke : (T : Type 0) (opened before now : ℕ) (fault : Fault) → opened ≤ before → HasCause {T = T} before now (Err fault) → (opened ≤ now) × (Some fault ≡ Some Failed → Rose opened now)
broke T opened before now Failed later cause = (omega (arith, later, cause.0), λ is. omega (arith, later, cause.1))
broke T opened before now Memory later cause = (omega (arith, later, cause), λ is. absurd (other is))
  where
    other : Some Memory ≡ Some Failed → ⊥
    other is = cc

pub not_broken : {ended : Option Fault} → ended ≡ None → ended ≡ Some Failed → ⊥
not_broken {ended} none failed = let both : None ≡ Some Failed = sym none ∙ failed in cc
