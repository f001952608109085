-- What an image shows of the log that was found, once some half-made files are gone and the next segment is being made.
use Rattle.std.proofs.Common.{◌≡◌, ◌⊎◌, inl, inr, ⊎_elim, ℕ, ◌+◌, ◌-◌, ◌^◌, ◌<◌, ◌≤◌, ◌&&◌, Bool, true, false, not, cond, T, List, [], ◌∷◌, ◌++◌, length, drop, map, Option, Some, None, IsSome, IsTrue, refl, sym, ap, subst, ◌∙◌, arith, nat_eq}
use Rattle.std.specs.Prelude.{All, Contains, is_some}
use Rattle.std.specs.List.{AllByRecursion, AllZip, filter, slice_index_or}
use Rattle.std.proofs.lemmas.Bool.{and_parts, and_from, eqb-true, eq-eqb, lt-ltb}
use Rattle.std.proofs.lemmas.List.{drop_all}
use Rattle.std.proofs.lemmas.List.Elements.{All-append, All-contains, All-filter, All-weaker}
use Rattle.std.specs.Ordering.{nat_cmp}
use Rattle.std.specs.Cmp.{nat_cmp_total}
use Rattle.std.specs.FinMap.{get, entries, entries_sorted, get-entries, nat_cmp-IsAntisymmetric}
use Rattle.std.specs.FinMap.Entries.{find, is_sorted, same_entries, where_key, find-where_key, is_sorted-where_key}
use Rattle.frs_types.specs.declared.record.Record.{Record}
use Rattle.frs_types.specs.Records.{Log, from_lowest, named_lowest}
use Rattle.frs_disk.specs.Disk.{Image}
use Rattle.frs_segment.specs.Front.{empty_segment}
use Rattle.frs_segment.specs.declared.layout.Found.{Found}
use Rattle.frs_segment.specs.Segments.{File, WholeSegment, IsSegment, SpellsBy, Spells, is_open_file, open_files, all_records, records_of, end_of, first_of, follow_from, places_of}
use Rattle.frs_segment.specs.Segments.{FileList}
use Rattle.frs_segment.specs.Stores.{IsFound, SpellsAlike, HasSegments, HasNewestAt, is_below, numbers_of}
use Rattle.frs_writer.specs.Setup.{MissesSome, IsOpening}
use Rattle.frs_writer.specs.LogImages.{ShowsLog, EndsWithSegment, TakesNext, new_segment}
use Rattle.frs_segment.proofs.SpellsAlike.{none_left}
use Rattle.frs_segment.proofs.SpellsBy.{rising, enough_reaches}
use Rattle.frs_writer.proofs.TakesNext.{none_order, none_looked}
use Rattle.frs_writer.proofs.HasNewest.{at_next, at_only}
use Rattle.frs_writer.proofs.ShowsLog.{base_shows, spells, shows_takes, reaches_from, empty_made}
use Rattle.frs_writer.proofs.EndsWithSegment.{one_next, one_making}
use Rattle.frs_writer.proofs.MissesSome.{thin_absent}
use Rattle.frs_writer.proofs.NumbersOf.{sorted_kept, filter_whole, filter_swap, lower_before, there_behind, all_there, all_numbers_there, by_numbers, Kept, kept_there}
use Rattle.frs_writer.proofs.IsFound.{is_half, found_lowest}

-- ---- segments without a record

abbrev IsBare : WholeSegment → Type 0
IsBare s = (s.first ≡ 1) × (records_of s ≡ [])

front_none : (rs qs : List Record) → rs ++ qs ≡ [] → (rs ≡ []) × (qs ≡ [])
front_none [] qs none = (refl, none)
front_none (r ∷ rs) qs none = absurd cc

all_bare : (n : ℕ) (segments : List WholeSegment) → n ≡ 1 → IsTrue (follow_from n segments) → all_records segments ≡ [] → AllByRecursion IsBare segments
all_bare n [] one follow none = tt
all_bare n (s ∷ segments) one follow none =
    let parts = and_parts (nat_eq s.first n) (follow_from (end_of s) segments) follow in
    let nothing = front_none (records_of s) (all_records segments) none in
    let first : s.first ≡ 1 = eqb-true s.first n parts.0 ∙ one in
    ((first, nothing.0), all_bare (end_of s) segments (omega (arith, first, ap length nothing.0)) parts.1 nothing.1)

bare_follow : (n : ℕ) (segments : List WholeSegment) → n ≡ 1 → AllByRecursion IsBare segments → IsTrue (follow_from n segments)
bare_follow n [] one bare = refl
bare_follow n (s ∷ segments) one bare =
    and_from (nat_eq s.first n) (follow_from (end_of s) segments) (eq-eqb s.first n (bare.0.0 ∙ sym one)) (bare_follow (end_of s) segments (omega (arith, bare.0.0, ap length bare.0.1)) bare.1)

bare_first : (segments : List WholeSegment) → AllByRecursion IsBare segments → first_of segments ≡ 1
bare_first [] bare = refl
bare_first (s ∷ segments) bare = bare.0.0

bare_records : (segments : List WholeSegment) → AllByRecursion IsBare segments → all_records segments ≡ []
bare_records [] bare = refl
bare_records (s ∷ segments) bare = ap (λ (rs : List Record). rs ++ all_records segments) bare.0.1 ∙ bare_records segments bare.1

-- some of the files
record Fewer (files : List File) : Type 0 where
  segments : List WholeSegment
  each : AllZip IsSegment files segments
  bare : AllByRecursion IsBare segments

fewer : (p : File → Bool) (files : List File) (segments : List WholeSegment) → AllZip IsSegment files segments → AllByRecursion IsBare segments → Fewer (filter p files)
fewer p [] segments each bare = record { segments = []; each = tt; bare = tt }
fewer p (f ∷ files) [] each bare = absurd each
fewer p (f ∷ files) (s ∷ segments) each bare = by (fewer p files segments each.1 bare.1) (p f)
  where
    by : Fewer (filter p files) → (t : Bool) → Fewer (cond t (f ∷ filter p files) (filter p files))
    by rest true = record { segments = s ∷ rest.segments; each = (each.0, rest.each); bare = (bare.0, rest.bare) }
    by rest false = rest

-- without a record, some of the open files show as much
bare_shows : {alone fresh : Type 0} (old new : FileList) (p : File → Bool) (first : ℕ) (records : List Record) → ShowsLog alone fresh old first records → (fresh → new ≡ []) → records ≡ [] → open_files new ≡ filter p (open_files old) → IsTrue (is_sorted nat_cmp new) → ShowsLog alone fresh new first records
bare_shows old new p first records s empty none is sorted =
    let whole = s.alone_is (s.whole none) in
    let one : first_of s.segments ≡ 1 = omega (arith, s.begins, whole.2, ap length whole.1) in
    let nothing : all_records s.segments ≡ [] = s.shown ∙ ap (λ (x : List Record). x ++ records) whole.1 ∙ none in
    let looked : s.looked ≡ open_files old = sym (ap (λ (x : FileList). x ++ s.looked) whole.0) ∙ s.files in
    let few = fewer p s.looked s.segments s.each (all_bare (first_of s.segments) s.segments one s.follow nothing) in
    let start : first_of few.segments ≡ 1 = bare_first few.segments few.bare in
    record {
      rising = sorted;
      older = [];
      looked = open_files new;
      files = refl;
      segments = few.segments;
      each = subst (λ (files : List File). AllZip IsSegment files few.segments) (sym (is ∙ sym (ap (filter p) looked))) few.each;
      follow = bare_follow (first_of few.segments) few.segments start few.bare;
      earlier = [];
      begins = omega (arith, start, whole.2);
      shown = bare_records few.segments few.bare ∙ sym none;
      alone_is = λ is. (refl, refl, whole.2);
      whole = λ same. s.whole none;
      fresh_is = λ fresh. none_order (first + length records) new few.segments (empty fresh)
          (none_looked new [] (open_files new) few.segments (empty fresh) refl (subst (λ (files : List File). AllZip IsSegment files few.segments) (sym (is ∙ sym (ap (filter p) looked))) few.each));
    }

-- the same open files spell the same
spelled_alike : (old new : FileList) (segments : List WholeSegment) (log : Log) → SpellsBy old segments log → open_files new ≡ open_files old → IsTrue (is_sorted nat_cmp new) → SpellsBy new segments log
spelled_alike old new segments log s is sorted = record { rising = sorted; older = s.older; looked = s.looked; files = s.files ∙ sym is; each = s.each; follow = s.follow; enough = s.enough; shown = s.shown }

-- ---- places

zip_numbers : (files : List File) (segments : List WholeSegment) → AllZip IsSegment files segments → numbers_of files ≡ map (λ (s : WholeSegment). s.number) segments
zip_numbers [] [] each = refl
zip_numbers [] (s ∷ segments) each = absurd each
zip_numbers (f ∷ files) [] each = absurd each
zip_numbers (f ∷ files) (s ∷ segments) each =
    ap (λ (n : ℕ). n ∷ numbers_of files) (sym each.0.number) ∙ ap (λ (l : List ℕ). s.number ∷ l) (zip_numbers files segments each.1)

place_numbers : (segments : List WholeSegment) → map (λ (s : WholeSegment). s.number) segments ≡ map (λ (p : ℕ × ℕ). p.0) (places_of segments)
place_numbers [] = refl
place_numbers (s ∷ segments) = ap (λ (l : List ℕ). s.number ∷ l) (place_numbers segments)

same_numbers : (segments others : List WholeSegment) → places_of others ≡ places_of segments → map (λ (s : WholeSegment). s.number) others ≡ map (λ (s : WholeSegment). s.number) segments
same_numbers segments others same = place_numbers others ∙ ap (map (λ (p : ℕ × ℕ). p.0)) same ∙ sym (place_numbers segments)

abbrev least : List ℕ → ℕ
least [] = 0
least (n ∷ numbers) = n

-- the files before those of the segments are below segments at the same places
below_segments : (older looked : List File) (others segments : List WholeSegment) → AllZip IsSegment looked others → map (λ (s : WholeSegment). s.number) others ≡ map (λ (s : WholeSegment). s.number) segments
    → (others ≡ [] → ⊥) → T (is_sorted nat_cmp (older ++ looked)) → All (λ (f : File). (b : List ℕ) → is_below segments (f.0, b) ≡ true) older
below_segments older looked [] segments each same some sorted = absurd (some refl)
below_segments older [] (o ∷ others) segments each same some sorted = absurd each
below_segments older (h ∷ looked) (o ∷ others) [] each same some sorted = absurd cc
below_segments older (h ∷ looked) (o ∷ others) (s ∷ segments) each same some sorted =
    All-weaker (λ (f : File). f.0 < h.0) (λ (f : File). (b : List ℕ) → is_below (s ∷ segments) (f.0, b) ≡ true)
    (λ f lt b. lt-ltb f.0 s.number (omega (arith, lt, each.0.number, ap least same))) older (lower_before older h looked sorted)

some_others : (old : FileList) (others : List WholeSegment) (log : Log) → SpellsBy old others log → (log.records ≡ [] → ⊥) → others ≡ [] → ⊥
some_others old [] log by some none = some (ap (λ (l : Log). l.records) by.shown ∙ drop_all (named_lowest [] - 1) [] (omega arith))
some_others old (o ∷ others) log by some none = cc

-- the places of the newest files behind which a segment was made: those of the log, if it has a record, and its own
abbrev pub begun_places : List Record → List WholeSegment → ℕ → ℕ → List (ℕ × ℕ)
begun_places [] segments number first = (number, first) ∷ []
begun_places (r ∷ rs) segments number first = places_of segments ++ (number, first) ∷ []

-- ---- what stays

stays : (x y : Option (List ℕ)) (Gone : Type 0) → (x ≡ y) ⊎ (Gone × (x ≡ None)) → x ≡ cond (is_some x) y None
stays None y Gone by = refl
stays (Some b) y Gone (inl same) = same
stays (Some b) y Gone (inr gone) = absurd (some_none gone.1)
  where
    some_none : Some b ≡ None → ⊥
    some_none e = cc

module _ (a d e : Image) (segments : List WholeSegment) (log : Log) (found : Found) (is : IsFound (entries a) segments log found) (thin : MissesSome found.half d e)
    (fresh : Type 0) (blank : fresh → entries d ≡ []) where
  abbrev still : File → Bool
  still f = is_some (get e f.0)

  stay : entries e ≡ filter still (entries d)
  stay =
      same_entries nat_cmp nat_cmp_total nat_cmp-IsAntisymmetric (entries e) (where_key nat_cmp (λ (q : ℕ). is_some (get e q)) (entries d)) (entries_sorted e)
      (is_sorted-where_key nat_cmp (λ (q : ℕ). is_some (get e q)) (entries d) (entries_sorted d))
      (λ q. sym (get-entries e q) ∙ stays (get e q) (get d q) (Contains found.half q) (thin q) ∙ ap (λ (o : Option (List ℕ)). cond (is_some (get e q)) o None) (get-entries d q)
      ∙ sym (find-where_key nat_cmp (λ (n : ℕ). is_some (get e n)) q (λ x tied. ap (λ (n : ℕ). is_some (get e n)) (sym (nat_cmp-IsAntisymmetric q x tied))) (entries d)))

  stay_open : open_files (entries e) ≡ filter still (open_files (entries d))
  stay_open = ap open_files stay ∙ filter_swap still is_open_file (entries d)

  none_then : fresh → entries e ≡ []
  none_then is = stay ∙ ap (filter still) (blank is)

  -- a half-made file among those found
  half_there : (q : ℕ) → Contains found.half q → Kept (is_half segments) (entries a) q
  half_there q has =
      kept_there (is_half segments) (entries a) (entries_sorted a) q
      (All-contains (λ (n : ℕ). IsSome (find nat_cmp n (filter (is_half segments) (entries a)))) (numbers_of (filter (is_half segments) (entries a))) q
      (all_numbers_there (filter (is_half segments) (entries a))) (subst (λ (l : List ℕ). Contains l q) is.half_are has))

  -- it isn't below the segments
  half_above : (q : ℕ) → ((b : List ℕ) → is_below segments (q, b) ≡ true) → Contains found.half q → ⊥
  half_above q below has =
      let kept = half_there q has in
      clash (is_open_file (q, kept.bytes)) (is_below segments (q, kept.bytes)) kept.passes (below kept.bytes)
    where
      clash : (x y : Bool) → (not x && not y) ≡ true → y ≡ true → ⊥
      clash true true p q = cc
      clash false true p q = cc
      clash true false p q = cc
      clash false false p q = cc

  -- and no open file has its number
  half_closed : (q : ℕ) → IsSome (find nat_cmp q (open_files (entries a))) → Contains found.half q → ⊥
  half_closed q some has =
      let half = half_there q has in
      let open_one = kept_there is_open_file (entries a) (entries_sorted a) q some in
      clash half.bytes open_one.bytes half.is open_one.is half.passes open_one.passes
    where
      clash : (b o : List ℕ) → find nat_cmp q (entries a) ≡ Some b → find nat_cmp q (entries a) ≡ Some o → is_half segments (q, b) ≡ true → is_open_file (q, o) ≡ true → ⊥
      clash b o is_b is_o half open_one =
          let same : b ≡ o = some_same (sym is_b ∙ is_o) in
          bools (is_open_file (q, b)) (is_below segments (q, b)) half (ap (λ (l : List ℕ). is_open_file (q, l)) same ∙ open_one)
        where
          some_same : Some b ≡ Some o → b ≡ o
          some_same e = cc

          bools : (x y : Bool) → (not x && not y) ≡ true → x ≡ true → ⊥
          bools true y p q = cc
          bools false y p q = cc

  -- so no file of a segment has it
  half_shut : (q : ℕ) → IsSome (find nat_cmp q is.spelled.looked) → Contains found.half q → ⊥
  half_shut q some = half_closed q (subst (λ (l : List File). IsSome (find nat_cmp q l)) is.spelled.files (there_behind is.spelled.older is.spelled.looked q some))

  -- where none of the open files is one of those they stay
  open_stays : All (λ (f : File). Contains found.half f.0 → ⊥) (open_files (entries d)) → open_files (entries e) ≡ open_files (entries d)
  open_stays none_half = stay_open ∙ filter_whole still (open_files (entries d)) (λ k f lt. one (slice_index_or (open_files (entries d)) k f) (none_half k f lt) (open_there k f lt))
    where
      open_there : All (λ (f : File). IsSome (find nat_cmp f.0 (entries d))) (open_files (entries d))
      open_there = All-filter is_open_file (λ (f : File). IsSome (find nat_cmp f.0 (entries d))) (entries d) (all_there (entries d))

      one : (f : File) → (Contains found.half f.0 → ⊥) → IsSome (find nat_cmp f.0 (entries d)) → still f ≡ true
      one f other there = ⊎_elim (λ was. ap is_some (was ∙ get-entries d f.0) ∙ there) (λ gone. absurd (other gone.0)) (thin f.0)

  -- so what was read has its segments still
  pub still_read : d ≡ a → HasSegments (entries e) found.segments
  still_read same = (
    segments,
    record {
      older = is.spelled.older;
      looked = is.spelled.looked;
      files = is.spelled.files ∙ sym (open_stays (subst (λ (x : Image). All (λ (f : File). Contains found.half f.0 → ⊥) (open_files (entries x))) (sym same) none_half) ∙ ap (λ (x : Image). open_files (entries x)) same);
      each = is.spelled.each;
    },
    is.segments_are,
  )
    where
      none_half : All (λ (f : File). Contains found.half f.0 → ⊥) (open_files (entries a))
      none_half =
          All-weaker (λ (f : File). IsSome (find nat_cmp f.0 (open_files (entries a)))) (λ (f : File). Contains found.half f.0 → ⊥) (λ f there. half_closed f.0 there) (open_files (entries a))
          (all_there (open_files (entries a)))

  module _ (others : List WholeSegment) (by : SpellsBy (entries d) others log) (same : places_of others ≡ places_of segments) (some : log.records ≡ [] → ⊥) where
    numbers_alike : numbers_of is.spelled.looked ≡ numbers_of by.looked
    numbers_alike = zip_numbers is.spelled.looked segments is.spelled.each ∙ sym (same_numbers segments others same) ∙ sym (zip_numbers by.looked others by.each)

    -- no open file is one of those
    none_half : All (λ (f : File). Contains found.half f.0 → ⊥) (open_files (entries d))
    none_half = subst (All (λ (f : File). Contains found.half f.0 → ⊥)) by.files (All-append (λ (f : File). Contains found.half f.0 → ⊥) by.older by.looked before at_places)
      where
        before : All (λ (f : File). Contains found.half f.0 → ⊥) by.older
        before =
            All-weaker (λ (f : File). (b : List ℕ) → is_below segments (f.0, b) ≡ true) (λ (f : File). Contains found.half f.0 → ⊥) (λ f below. half_above f.0 below) by.older
            (below_segments by.older by.looked others segments by.each (same_numbers segments others same) (some_others (entries d) others log by some)
            (subst (λ (l : List File). T (is_sorted nat_cmp l)) (sym by.files) (sorted_kept is_open_file (entries d) (entries_sorted d))))

        at_places : All (λ (f : File). Contains found.half f.0 → ⊥) by.looked
        at_places =
            All-weaker (λ (f : File). IsSome (find nat_cmp f.0 is.spelled.looked)) (λ (f : File). Contains found.half f.0 → ⊥) (λ f there. half_shut f.0 there) by.looked
            (by_numbers (λ (n : ℕ). IsSome (find nat_cmp n is.spelled.looked)) by.looked
            (subst (All (λ (n : ℕ). IsSome (find nat_cmp n is.spelled.looked))) numbers_alike (all_numbers_there is.spelled.looked)))

    open_stay : open_files (entries e) ≡ open_files (entries d)
    open_stay = open_stays none_half

    some_at : HasNewestAt (places_of segments) log.first (entries e)
    some_at =
        let reach : first_of others ≤ named_lowest (all_records others) =
        reaches_from (named_lowest (all_records others)) others (enough_reaches by.older others (all_records others) (λ none. some (ap (λ (l : Log). l.records) by.shown ∙ none_left (named_lowest (all_records others) - first_of others) (all_records others) none)) by.enough) in
        record {
          segments = others;
          newest = record { older = by.older; looked = by.looked; files = by.files ∙ sym open_stay; each = by.each };
          some = some_others (entries d) others log by some;
          places_are = same;
          reaches = omega (arith, reach, ap (λ (l : Log). l.first) by.shown);
        }

    some_shows : ShowsLog (log.records ≡ []) fresh (entries e) log.first log.records
    some_shows = base_shows (entries e) others log none_then (spelled_alike (entries d) (entries e) others log by open_stay (rising e))

  -- where the log has a record its files stand at their places still
  pub thin_at : SpellsAlike (entries a) (entries d) → (log.records ≡ [] → ⊥) → HasNewestAt (places_of segments) log.first (entries e)
  thin_at alike some =
      let (others, by, same) = alike log segments is.spelled in
      ⊎_elim (λ none. absurd (some none)) (λ places. some_at others by places some) same

  -- once some of the half-made files are gone
  pub thin_shows : SpellsAlike (entries a) (entries d) → ShowsLog (log.records ≡ []) fresh (entries e) log.first log.records
  thin_shows alike = at log.records refl (alike log segments is.spelled)
    where
      some_not : (r : Record) (rs : List Record) → r ∷ rs ≡ [] → ⊥
      some_not r rs none = cc

      at : (records : List Record) → log.records ≡ records → ((others : List WholeSegment) × SpellsBy (entries d) others log × ((log.records ≡ []) ⊎ (places_of others ≡ places_of segments))) → ShowsLog (log.records ≡ []) fresh (entries e) log.first log.records
      at [] none told = bare_shows (entries d) (entries e) still log.first log.records (base_shows (entries d) told.0 log blank told.1) none_then none stay_open (rising e)
      at (r ∷ rs) some told = ⊎_elim (λ none. absurd (some_not r rs (sym some ∙ none))) (λ same. some_shows told.0 told.1 same (λ none. some_not r rs (sym some ∙ none))) told.2

-- ---- the opening

whole_log : (log : Log) → log.first ≡ named_lowest log.records → from_lowest log.first log.records ≡ log
whole_log log lowest =
    let zero : named_lowest log.records - log.first ≡ 0 = omega (arith, lowest) in
    same_log (named_lowest log.records) (drop (named_lowest log.records - log.first) log.records) (sym lowest) (ap (λ (n : ℕ). drop n log.records) zero)
  where
    same_log : (first : ℕ) (records : List Record) → first ≡ log.first → records ≡ log.records → ◌≡◌ {A = Log} (record { first = first; records = records }) log
    same_log first records p q i = record { first = p i; records = q i }

module _ (a : Image) (segments : List WholeSegment) (log : Log) (found : Found) (is : IsFound (entries a) segments log found) (outcomes : Image → Type 0) (alike : (d : Image) → outcomes d → SpellsAlike (entries a) (entries d))
    (number first : ℕ) (next : first ≡ found.next) (low : 1 ≤ number) (high : number < 2 ^ 62) (least_first : 1 ≤ first) (most : first < 2 ^ 62)
    (none : (d : Image) → outcomes d → (q : ℕ) → number ≤ q → get d q ≡ None) (c : Image) (opening : IsOpening found.half number first outcomes c) (fresh : Type 0) (blank : fresh → (d : Image) → outcomes d → entries d ≡ []) (at_one : fresh → number ≡ 1) where
  next_first : first ≡ log.first + length log.records
  next_first = next ∙ is.next_is

  base : ShowsLog (log.records ≡ []) fresh (entries opening.thinned) log.first log.records
  base = thin_shows a opening.base opening.thinned segments log found is opening.by fresh (λ f. blank f opening.base opening.was) (alike opening.base opening.was)

  none_thinned : (q : ℕ) → number ≤ q → get opening.thinned q ≡ None
  none_thinned q le = thin_absent found.half opening.base opening.thinned opening.by q (none opening.base opening.was q le)

  takes : fresh → TakesNext number (log.first + length log.records) (entries opening.thinned) base.segments
  takes f = shows_takes base number (none_then a opening.base opening.thinned segments log found is opening.by fresh (λ g. blank g opening.base opening.was) f) (at_one f)

  pub opening_shows : ShowsLog (log.records ≡ []) fresh (entries c) log.first log.records
  opening_shows = one_making log.first log.records number first opening.thinned c base takes opening.elsewhere none_thinned next_first low high least_first most opening.making

  pub opening_rests : get c number ≡ Some (empty_segment number first) → EndsWithSegment (log.records ≡ []) fresh (entries c) log.first log.records (new_segment number first)
  opening_rests made = one_next log.first log.records number first opening.thinned c base takes opening.elsewhere none_thinned next_first low high least_first most made

  -- the places of the newest files once the segment is made
  pub opening_at : get c number ≡ Some (empty_segment number first) → HasNewestAt (begun_places log.records segments number first) log.first (entries c)
  opening_at made = at log.records refl
    where
      segment : IsSegment (number, empty_segment number first) (new_segment number first)
      segment = empty_made number first low high least_first most

      some_not : (r : Record) (rs : List Record) → r ∷ rs ≡ [] → ⊥
      some_not r rs none = cc

      at : (records : List Record) → log.records ≡ records → HasNewestAt (begun_places records segments number first) log.first (entries c)
      at [] none = at_only number first opening.thinned c opening.elsewhere none_thinned segment made log.first (omega (arith, next_first, ap length none))
      at (r ∷ rs) some =
          at_next number first opening.thinned c opening.elsewhere none_thinned segment made (places_of segments) log.first
          (thin_at a opening.base opening.thinned segments log found is opening.by fresh (λ f. blank f opening.base opening.was) (alike opening.base opening.was) (λ none. some_not r rs (sym some ∙ none)))

  pub opening_spells : Spells (entries c) log
  opening_spells =
      let lowest = found_lowest a segments log found is in
      subst (Spells (entries c)) (whole_log log lowest) (spells (entries c) log.first log.records opening_shows (λ some. omega (arith, lowest)))
