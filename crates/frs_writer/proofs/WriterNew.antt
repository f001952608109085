-- What holds of a writer that was just opened on the files that were found.
use Rattle.std.proofs.Common.{◌≡◌, ◌≢◌, ◌⊎◌, ⊎_elim, ℕ, ◌+◌, ◌-◌, ◌^◌, ◌<◌, ◌≤◌, List, [], ◌∷◌, ◌++◌, length, take, map, replicate, Option, Some, None, IsSome, refl, sym, ◌∙◌, ap, subst, arith, IsTrue}
use Rattle.std.specs.Prelude.{Contains, unwrap_or}
use Rattle.std.specs.List.{last_or}
use Rattle.std.proofs.lemmas.List.{append-nil, map-append, take_all, length-replicate}
use Rattle.std.proofs.lemmas.List.Elements.{All-contains, All-replicate}
use Rattle.std.specs.FinMap.{entries, get}
use Rattle.frs_types.specs.declared.record.Record.{Record}
use Rattle.frs_types.specs.declared.limits.TheConstants.{CLIENT_LIMIT}
use Rattle.frs_types.specs.Records.{Log, next_lsn, named_lowest}
use Rattle.frs_disk.specs.declared.disk.Disk.{Ghosts}
use Rattle.frs_disk.specs.declared.disk.Fault.TheVariants.{Failed}
use Rattle.frs_disk.specs.Disk.{Image}
use Rattle.frs_disk.specs.Frames.{IsSynced, Within, NoneRemovedAbove, RemovesBelow, LeftNoFile}
use Rattle.frs_disk.proofs.NoFiles.{no_entries}
use Rattle.frs_frame.specs.Spelling.{spelling}
use Rattle.frs_segment.specs.Front.{empty_segment}
use Rattle.frs_segment.specs.declared.layout.Found.{Found}
use Rattle.frs_segment.specs.declared.layout.Segment.{Segment}
use Rattle.frs_segment.specs.Segments.{FileList, WholeSegment, Spells}
use Rattle.frs_segment.specs.Scanning.{places_of_segment}
use Rattle.frs_segment.specs.Stores.{IsFound, numbers_of, LeavesAlike, HasSegments, HasNewestAt}
use Rattle.frs_segment.proofs.SpellsAlike.{spells_alike}
use Rattle.frs_slots.specs.Views.{TakerView, next_taken}
use Rattle.frs_writer.specs.Invariant.{IsCounted, IsAtWork, ShowsDurable, IsKept}
use Rattle.frs_writer.specs.Setup.{IsOpening}
use Rattle.frs_writer.specs.LogImages.{ShowsLog, EndsWithSegment, new_segment}
use Rattle.frs_writer.specs.Writer.{WriterView, IsLog, WasEmpty}
use Rattle.frs_writer.specs.Writing.{HoldsLog, LeavesFound}
use Rattle.frs_writer.proofs.IsFound.{found_above, found_none_removed, found_half, found_next}
use Rattle.frs_writer.proofs.HasNewest.{read_next}
use Rattle.frs_writer.proofs.IsOpening.{opening_shows, opening_rests, opening_spells, opening_at, begun_places, still_read}
use Rattle.frs_writer.proofs.IsRolled.{empty_gate}
use Rattle.frs_writer.proofs.MissesSome.{thin_absent}
use Rattle.frs_writer.proofs.ShowsLog.{base_lowest, shows_as, rests_as, rests_shows, rests_open, empty_made}
use Rattle.frs_writer.proofs.SpellsFrom.{none_pending}
use Rattle.frs_writer.proofs.HoldsLog.{shows_whole, shows_open, spelled_none}

pub none_failed : None ≡ Some Failed → ⊥
none_failed is = cc

-- what a crash may leave of a disk spells what is read of it
left_spells : {D : Type 0} (g : Ghosts D) (disk : D) → LeavesAlike g disk
    → (log : Log) → Spells (entries (g.reads disk)) log → (c : Image) → g.may_leave disk c → Spells (entries c) log
left_spells g disk well log spelled c left =
    let (segments, by) = spelled in
    let (others, same, rest) = well c left log segments by in
    (others, same)

-- a disk on which nothing was done yet
pub unchanged_found : {D : Type 0} (g : Ghosts D) → ((disk : D) (c : Image) → g.left_since disk (g.moment disk) c → g.may_leave disk c) → (disk : D) → LeavesFound g disk disk
unchanged_found g only_now disk = record {
  images = λ told well log spelled c left. left_spells g disk well log spelled c (only_now disk c left);
  whole = λ told well empty c left.
      spelled_none (entries c) (λ none. no_entries c (none c (only_now disk c left))) (left_spells g disk well (record { first = 1; records = [] }) empty c (only_now disk c left));
}

-- a log without a record begins at 1
empty_log : (log : Log) → log.first ≡ named_lowest log.records → log.records ≡ [] → log ≡ record { first = 1; records = [] }
empty_log log lowest none = same (lowest ∙ ap named_lowest none) none
  where
    same : log.first ≡ 1 → log.records ≡ [] → ◌≡◌ {A = Log} log (record { first = 1; records = [] })
    same p q i = record { first = p i; records = q i }

-- no record has no bytes
none_taken : (bytes : List (List ℕ)) (rs : List Record) → bytes ≡ [] → bytes ≡ map spelling rs → rs ≡ []
none_taken bytes [] none is = refl
none_taken bytes (r ∷ rs) none is = absurd (no (sym none ∙ is))
  where
    no : [] ≡ map spelling (r ∷ rs) → ⊥
    no e = cc

-- a log behind which nothing was taken
base_is : (base log : Log) (rs : List Record) → rs ≡ [] → log ≡ record base { records = base.records ++ rs } → log ≡ base
base_is base log rs none is =
    is ∙ ap (λ (x : List Record). record base { records = base.records ++ x }) none ∙ ap (λ (x : List Record). record base { records = x }) (append-nil base.records)

module _ {D : Type 0} (g : Ghosts D)
    (as_read : (disk : D) → IsTrue (g.tells disk) → g.may_leave disk (g.reads disk)) (counts_now : (disk : D) (t : ℕ) (c : Image) → t ≤ g.moment disk → g.may_leave disk c → g.left_since disk t c)
    (stays_absent : (disk : D) (number : ℕ) (c : Image) → IsTrue (g.tells disk) → get (g.reads disk) number ≡ None → (g.removing disk number → ⊥) → g.may_leave disk c → get c number ≡ None)
    (one_log : (files : FileList) (log other : Log) → Spells files log → Spells files other → log ≡ other)
    (old new : D) (found : Found) (found_is : IsTrue (g.tells old) → (segments : List WholeSegment) × (log : Log) × IsFound (entries (g.reads old)) segments log found)
    (no_removal : IsTrue (g.tells old) → NoneRemovedAbove g old) (greatest : found.greatest < 2 ^ 62) (other : found.greatest + 1 ≢ 2 ^ 62) (half : List ℕ) (half_is : half ≡ found.half)
    (taker : TakerView) (begins : (taker.taken ≡ []) × (taker.first ≡ found.next)) (first : ℕ) (first_is : first ≡ next_taken taker) (lsn : (1 ≤ taker.first) × (taker.first < 2 ^ 62))
    (images : IsTrue (g.tells old) → Within g old new (IsOpening half (found.greatest + 1) first (g.may_leave old))) where
  abbrev number : ℕ
  number = found.greatest + 1

  within : number < 2 ^ 62
  within = omega (arith, greatest, other)

  next : first ≡ found.next
  next = omega (arith, first_is, ap length begins.0, begins.1)

  low : 1 ≤ first
  low = omega (arith, next, begins.1, lsn.0)

  high : first < 2 ^ 62
  high = omega (arith, next, begins.1, lsn.1)

  -- ---- images

  module _ (told : IsTrue (g.tells old)) (segments : List WholeSegment) (base : Log) (is : IsFound (entries (g.reads old)) segments base found) where
    none_there : (e : Image) → g.may_leave old e → (q : ℕ) → number ≤ q → get e q ≡ None
    none_there e was q at =
        stays_absent old q e told (found_above (g.reads old) segments base found is q (omega (arith, at)))
        (found_none_removed (g.reads old) segments base found is (g.removing old) (no_removal told) q (omega (arith, at))) was

    found_log : (log : Log) → Spells (entries (g.reads old)) log → log ≡ base
    found_log log spelled = one_log (entries (g.reads old)) log base spelled (segments, is.spelled)

    -- the log that was found has no record where it was empty at the opening
    empty_then : base.records ≡ [] → WasEmpty g old
    empty_then none = subst (Spells (entries (g.reads old))) (empty_log base (base_lowest (entries (g.reads old)) segments base is.spelled) none) (segments, is.spelled)

    none_when : WasEmpty g old → base.records ≡ []
    none_when was = ap (λ (l : Log). l.records) (sym (found_log (record { first = 1; records = [] }) was))

    opening : (c : Image) → g.left_since new (g.moment old) c → IsOpening found.half number first (g.may_leave old) c
    opening c left = subst (λ (l : List ℕ). IsOpening l number first (g.may_leave old) c) half_is (images told c left)

    module _ (well : LeavesAlike g old) (c : Image) (left : g.left_since new (g.moment old) c) where
      -- the first file has the number 1
      at_one : LeftNoFile g old → number ≡ 1
      at_one none =
          let greatest_none : found.greatest ≡ 0 = is.greatest_is ∙ ap (λ (l : FileList). unwrap_or (last_or None (numbers_of l)) 0) (no_entries (g.reads old) (none (g.reads old) (as_read old told))) in
          omega (arith, greatest_none)

      none_before : LeftNoFile g old → (d : Image) → g.may_leave old d → entries d ≡ []
      none_before none d was = no_entries d (none d was)

      begun_spells : Spells (entries c) base
      begun_spells = opening_spells (g.reads old) segments base found is (g.may_leave old) well number first next (omega arith) within low high none_there c (opening c left) (LeftNoFile g old) none_before at_one

      begun_shows : ShowsLog (WasEmpty g old) (LeftNoFile g old) (entries c) base.first base.records
      begun_shows = shows_as empty_then none_when (opening_shows (g.reads old) segments base found is (g.may_leave old) well number first next (omega arith) within low high none_there c (opening c left) (LeftNoFile g old) none_before at_one)

      begun_rests : get c number ≡ Some (empty_segment number first) → EndsWithSegment (WasEmpty g old) (LeftNoFile g old) (entries c) base.first base.records (new_segment number first)
      begun_rests made = rests_as empty_then none_when (opening_rests (g.reads old) segments base found is (g.may_leave old) well number first next (omega arith) within low high none_there c (opening c left) (LeftNoFile g old) none_before at_one made)

  -- each image spells what was read at the start
  images_spell : IsTrue (g.tells old) → LeavesAlike g old → (log : Log) → Spells (entries (g.reads old)) log → Within g old new (λ c. Spells (entries c) log)
  images_spell told well log spelled c left =
      let (segments, base, is) = found_is told in
      subst (Spells (entries c)) (sym (found_log told segments base is log spelled)) (begun_spells told segments base is well c left)

  -- where that was nothing, it has no record
  images_whole : IsTrue (g.tells old) → LeavesAlike g old → WasEmpty g old → Within g old new (λ c. HoldsLog (LeftNoFile g old) 1 (entries c) [])
  images_whole told well was c left =
      let (segments, base, is) = found_is told in
      let none : Log = record { first = 1; records = [] } in
      shows_whole (entries c) 1 []
      (subst (λ (l : Log). ShowsLog (WasEmpty g old) (LeftNoFile g old) (entries c) l.first l.records) (sym (found_log told segments base is none was)) (begun_shows told segments base is well c left)) was

  pub opening_found : LeavesFound g old new
  opening_found = record { images = images_spell; whole = images_whole }

  -- ---- the writer

  module _ (clients : ℕ) (some : (1 ≤ clients) × (clients ≤ CLIENT_LIMIT)) (pins : List (Option ℕ)) (older : List ℕ) (lowest : ℕ)
      (later : g.moment old ≤ g.moment new) (told_same : g.tells new ≡ g.tells old) (durable : IsSynced g new number)
      (made : IsTrue (g.tells old) → get (g.reads new) number ≡ Some (empty_segment number first))
      (others : IsTrue (g.tells old) → (q : ℕ) → number < q → get (g.reads old) q ≡ None → get (g.reads new) q ≡ None)
      (pending : (q : ℕ) → g.removing new q → g.removing old q ⊎ Contains half q)
      (read : IsTrue (g.tells old) → IsOpening half number first (λ c. c ≡ g.reads old) (g.reads new)) where
    abbrev next_segment : Segment
    next_segment = places_of_segment (new_segment number first)

    abbrev view : D → List Segment → List ℕ → WriterView D
    view opened segments noted = record { opened = opened; disk = new; taker = taker; kept = None; segments = segments; noted = noted; pins = pins; older = older; synced = first - 1; lowest = lowest; ended = None }

    abbrev begun : WriterView D
    begun = view old (found.segments ++ next_segment ∷ []) (replicate clients 0)

    begun_counted : IsCounted begun
    begun_counted = record {
      older = found.segments;
      newest = next_segment;
      segments = refl;
      number = (omega arith, within);
      ends = omega (arith, low);
      long = (omega arith, omega arith);
      least = lsn.0;
      first = omega (arith, low, next, begins.1);
      most = omega (arith, first_is, high);
      written = omega (arith, first_is, low);
      counted = λ fine. ([], begins.0, omega (arith, low, next, begins.1));
      clients = (omega (arith, some.0, length-replicate {A = ℕ} clients 0), omega (arith, some.1, length-replicate {A = ℕ} clients 0));
      noted = All-replicate (λ (n : ℕ). n ≤ first - 1) clients 0 (omega arith);
    }

    told_before : IsTrue (g.tells new) → IsTrue (g.tells old)
    told_before told = subst IsTrue told_same told

    begun_at_work : IsTrue (g.tells old) → IsAtWork g new next_segment
    begun_at_work told =
        let (segments, base, is) = found_is told in
        record {
          gate = empty_gate number first (get (g.reads new) number) (made told);
          durable = durable;
          none_above = λ q above. others told q above (found_above (g.reads old) segments base found is q (omega (arith, above)));
          none_removed = λ q above pends. ⊎_elim
              (λ was. found_none_removed (g.reads old) segments base found is (g.removing old) (no_removal told) q (omega (arith, above)) was)
              (λ has. absurd (omega (
                arith,
                above,
                (All-contains (λ (n : ℕ). IsSome (get (g.reads old) n) × (n < number)) found.half q (found_half (g.reads old) segments base found is number refl) (subst (λ (l : List ℕ). Contains l q) half_is has)).1,
              )))
              (pending q pends);
        }

    -- what is read has the segments that were found, and the next one
    begun_read : IsTrue (g.tells old) → HasSegments (entries (g.reads new)) (found.segments ++ next_segment ∷ [])
    begun_read told =
        let (segments, base, is) = found_is told in
        let opening : IsOpening found.half number first (λ (c : Image). c ≡ g.reads old) (g.reads new) = subst (λ (l : List ℕ). IsOpening l number first (λ (c : Image). c ≡ g.reads old) (g.reads new)) half_is (read told) in
        read_next number first opening.thinned (g.reads new) opening.elsewhere
        (λ q at. thin_absent found.half opening.base opening.thinned opening.by q
        (subst (λ (x : Image). get x q ≡ None) (sym opening.was) (found_above (g.reads old) segments base found is q (omega (arith, at)))))
        (empty_made number first (omega arith) within low high) (made told) found.segments
        (still_read (g.reads old) opening.base opening.thinned segments base found is opening.by ⊥ (λ none. absurd none) opening.was)

    module _ (told : IsTrue (g.tells old)) (well : LeavesAlike g old) (segments : List WholeSegment) (base : Log) (is : IsFound (entries (g.reads old)) segments base found) where
      all_durable : take (first - 1 + 1 - base.first) base.records ≡ base.records
      all_durable = take_all (first - 1 + 1 - base.first) base.records (omega (arith, low, next, is.next_is))

      ends_at : next_lsn base ≡ first
      ends_at = found_next (g.reads old) segments base found is ∙ sym next

      since : (c : Image) → g.may_leave new c → g.left_since new (g.moment old) c
      since c left = counts_now new (g.moment old) c later left

      -- in each image the newest files stand at the same places
      begun_at : (c : Image) → g.may_leave new c → HasNewestAt (begun_places base.records segments number first) base.first (entries c)
      begun_at c left =
          opening_at (g.reads old) segments base found is (g.may_leave old) well number first next (omega arith) within low high (none_there told segments base is) c (opening told segments base is c (since c left))
          (LeftNoFile g old) (none_before told segments base is well c (since c left)) (at_one told segments base is well c (since c left)) (durable c left ∙ made told)

      begun_alike : IsTrue (g.tells new) → LeavesAlike g new
      begun_alike told_now c left =
          let here = as_read new told_now in
          spells_alike (entries (g.reads new)) (entries c) base (begun_places base.records segments number first) base.first
          (begun_spells told segments base is well (g.reads new) (since (g.reads new) here)) (begun_spells told segments base is well c (since c left))
          (begun_at (g.reads new) here) (begun_at c left) (λ some. omega arith)

      begun_holds : ShowsDurable g begun base
      begun_holds = record {
        next_is = ends_at ∙ first_is;
        each = λ c left. (
          first - 1,
          omega arith,
          omega (arith, low, ends_at),
          subst (ShowsLog (WasEmpty g old) (LeftNoFile g old) (entries c) base.first) (sym all_durable) (begun_shows told segments base is well c (since c left)),
        );
        newest = λ fine. (
          new_segment number first,
          (λ c left. subst (λ (rs : List Record). EndsWithSegment (WasEmpty g old) (LeftNoFile g old) (entries c) base.first rs (new_segment number first)) (sym all_durable)
              (begun_rests told segments base is well c (since c left) (durable c left ∙ made told))),
          (segments, ap (λ (l : List Segment). l ++ next_segment ∷ []) is.segments_are ∙ sym (map-append places_of_segment segments (new_segment number first ∷ []))),
        );
        read = λ fine. begun_read told;
        alike = λ fine. (begun_places base.records segments number first, begun_at);
      }

      log_is : (log : Log) → IsLog g begun log → log ≡ base
      log_is log l =
          base_is l.base log l.taken (none_taken taker.taken l.taken begins.0 l.bytes) l.is ∙ found_log told segments base is l.base l.spelled

    pub none_pends : IsTrue (g.tells old) → RemovesBelow g new
    none_pends told = none_pending g new next_segment (begun_at_work told)

    -- what is read has these segments, where they are those that were found and the next one
    pub found_read : (now : List Segment) → now ≡ found.segments ++ places_of_segment (new_segment number found.next) ∷ [] → IsTrue (g.tells old) → HasSegments (entries (g.reads new)) now
    found_read now is told =
        subst (HasSegments (entries (g.reads new))) (sym (is ∙ ap (λ (n : ℕ). found.segments ++ places_of_segment (new_segment number n) ∷ []) (sym next))) (begun_read told)

    -- and the disk spells alike, where it did before
    pub alike_still : IsTrue (g.tells old) → LeavesAlike g old → LeavesAlike g new
    alike_still told well =
        let (segments, base, is) = found_is told in
        begun_alike told well segments base is (subst IsTrue (sym told_same) told)

    -- and afterwards, where that was nothing
    pub durable_none : IsTrue (g.tells old) → LeavesAlike g old → WasEmpty g old → (c : Image) → g.may_leave new c → HoldsLog (LeftNoFile g old) 0 (entries c) []
    durable_none told well was c left =
        let (segments, base, is) = found_is told in
        let none : Log = record { first = 1; records = [] } in
        let rests : EndsWithSegment (WasEmpty g old) (LeftNoFile g old) (entries c) 1 [] (new_segment number first) =
        subst (λ (l : Log). EndsWithSegment (WasEmpty g old) (LeftNoFile g old) (entries c) l.first l.records (new_segment number first)) (sym (found_log told segments base is none was))
        (begun_rests told segments base is well c (since told well segments base is c left) (durable c left ∙ made told)) in
        shows_open (entries c) 1 [] (rests_shows rests) was (rests_open rests)

    begun_kept : IsKept g begun
    unfolding begun_counted
    begun_kept = record {
      counted = begun_counted;
      told = told_same;
      at_work = λ fine told. begun_at_work (told_before told);
      holds = λ told well log l placed.
          let (segments, base, is) = found_is (told_before told) in
          subst (ShowsDurable g begun) (sym (log_is (told_before told) well segments base is log l)) (begun_holds (told_before told) well segments base is);
    }

    -- all of it, as it stands in memory
    pub kept_begun : (opened : D) (segments : List Segment) (noted : List ℕ) → opened ≡ old → (segments ≡ found.segments ++ places_of_segment (new_segment number found.next) ∷ []) × (noted ≡ replicate clients 0)
        → IsKept g (view opened segments noted)
    kept_begun opened segments noted same_disk (same_segments, same_noted) =
        let with_next : segments ≡ found.segments ++ next_segment ∷ [] = same_segments ∙ ap (λ (n : ℕ). found.segments ++ places_of_segment (new_segment number n) ∷ []) (sym next) in
        subst (λ (o : D). IsKept g (view o segments noted)) (sym same_disk)
        (subst (λ (l : List Segment). IsKept g (view old l noted)) (sym with_next)
        (subst (λ (ns : List ℕ). IsKept g (view old (found.segments ++ next_segment ∷ []) ns)) (sym same_noted) begun_kept))
