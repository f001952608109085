-- A group on its way to the disk: what each image shows, and what holds of the writer afterwards.
use Rattle.std.proofs.Common.{◌≡◌, ◌⊎◌, ⊎_elim, ℕ, ◌+◌, ◌-◌, ◌^◌, ◌≤◌, List, [], ◌∷◌, ◌++◌, length, take, map, Option, Some, None, sym, ◌∙◌, ap, subst, arith, IsTrue}
use Rattle.std.specs.Option.{option_to_list}
use Rattle.std.proofs.lemmas.List.{map-append}
use Rattle.std.specs.FinMap.{entries, get}
use Rattle.frs_types.specs.declared.record.Record.{Record}
use Rattle.frs_types.specs.Records.{Log, IsPlaced, next_lsn}
use Rattle.frs_disk.specs.declared.disk.Disk.{Ghosts}
use Rattle.frs_disk.specs.Disk.{Image, SameElsewhere, AgreesElsewhere, bytes_at}
use Rattle.frs_disk.specs.Frames.{IsSynced, Within, LeftNoFile}
use Rattle.frs_segment.specs.declared.layout.Segment.{Segment}
use Rattle.frs_segment.specs.Segments.{WholeSegment, segment_spelling, body, is_chunk, end_of}
use Rattle.frs_segment.specs.Stores.{LeavesAlike, HasSegments, HasNewestAt}
use Rattle.frs_segment.specs.Scanning.{places_of_segment}
use Rattle.frs_slots.specs.Views.{next_taken}
use Rattle.frs_writer.specs.Gates.{IsShut, sealed_chunk}
use Rattle.frs_writer.specs.Groups.{joined_records}
use Rattle.frs_writer.specs.Invariant.{IsCounted, ShowsFrom, durable_of, IsKept}
use Rattle.frs_writer.specs.LogImages.{ShowsLog, EndsWithSegment, with_chunk}
use Rattle.frs_writer.specs.Writer.{WriterView, IsLog, WasEmpty}
use Rattle.frs_writer.specs.Places.{with_chunk_place, with_newest_grown}
use Rattle.frs_writer.proofs.Grouping.{Grouping, grouping, placed_before, durable_is, behind_is, grown_is, group_within, group_chunk, group_long, sealed_is, newest_is, front_read, first_is}
use Rattle.frs_writer.proofs.HasNewest.{at_chunk, read_chunk}
use Rattle.frs_writer.proofs.Parted.{joined_body}
use Rattle.frs_writer.proofs.Places.{described_grown, newest_grown}
use Rattle.frs_writer.proofs.ShowsLog.{rests_shows}
use Rattle.frs_writer.proofs.EndsWithSegment.{one_shut, one_whole}

module _ {D : Type 0} (g : Ghosts D) (as_read : (disk : D) → IsTrue (g.tells disk) → g.may_leave disk (g.reads disk)) where
  -- A group behind the records that are durable, and the last segment, which each image rests on.
  pub record Behind (w w' : WriterView D) (counted : IsCounted w) (group : List (List ℕ)) (log' : Log) : Type 0 where
    pub grouped : Grouping g w w' group log'
    pub next : next_lsn grouped.log ≡ next_taken w.taker
    pub last : WholeSegment
    pub rest : (c : Image) → g.may_leave w.disk c → EndsWithSegment (WasEmpty g w.opened) (LeftNoFile g w.opened) (entries c) log'.first grouped.front last
    pub newest : counted.newest ≡ places_of_segment last
    pub before : List WholeSegment
    pub segments : w.segments ≡ map places_of_segment (before ++ last ∷ [])
    pub read : HasSegments (entries (g.reads w.disk)) w.segments
    pub places : List (ℕ × ℕ)
    pub at : (c : Image) → g.may_leave w.disk c → HasNewestAt places log'.first (entries c)

  pub behind : (w w' : WriterView D) (kept : IsKept g w) (group more : List (List ℕ)) (still : Option (List ℕ)) (log' : Log)
      → w.ended ≡ None → IsTrue (g.tells w.disk) → LeavesAlike g w.opened
      → w'.opened ≡ w.opened → w'.taker.taken ≡ w.taker.taken ++ more → group ++ option_to_list still ≡ option_to_list w.kept ++ more
      → IsLog g w' log' → IsPlaced log' → Behind w w' kept.counted group log'
  behind w w' kept group more still log' fine told well same grows parts is_log placed =
      let grouped = grouping g w w' group more still log' (kept.counted.counted fine) same grows parts is_log in
      let held = kept.holds told well grouped.log grouped.is_log (placed_before g w w' group log' grouped placed) in
      let (last, rest, (before, segments)) = held.newest fine in
      record {
        grouped = grouped;
        next = held.next_is;
        last = last;
        rest = λ c left.
            let r : EndsWithSegment (WasEmpty g w.opened) (LeftNoFile g w.opened) (entries c) grouped.log.first (durable_of w grouped.log).records last = rest c left in
            subst (λ (n : ℕ). EndsWithSegment (WasEmpty g w.opened) (LeftNoFile g w.opened) (entries c) n grouped.front last) (sym (first_is g w w' group log' grouped placed))
            (subst (λ (l : List Record). EndsWithSegment (WasEmpty g w.opened) (LeftNoFile g w.opened) (entries c) grouped.log.first l last) (durable_is g w w' group log' grouped placed held.next_is) r);
        newest = newest_is w kept.counted before last segments;
        before = before;
        segments = segments;
        read = held.read fine;
        places = (held.alike fine).0;
        at = λ c left. subst (λ (n : ℕ). HasNewestAt (held.alike fine).0 n (entries c)) (sym (first_is g w w' group log' grouped placed)) ((held.alike fine).1 c left);
      }

  module _ (w w' : WriterView D) (counted : IsCounted w) (group : List (List ℕ)) (log' : Log) (placed : IsPlaced log') (b : Behind w w' counted group log') where
    -- an image that shows what was durable
    pub shows_durable : (c : Image) → ShowsLog (WasEmpty g w.opened) (LeftNoFile g w.opened) (entries c) log'.first b.grouped.front → ShowsFrom (WasEmpty g w.opened) (LeftNoFile g w.opened) w.synced log' (entries c)
    shows_durable c shows = (
      w.synced,
      omega arith,
      omega (arith, group_within g w w' group log' b.grouped placed b.next),
      subst (λ (l : List Record). ShowsLog (WasEmpty g w.opened) (LeftNoFile g w.opened) (entries c) log'.first l) (sym (behind_is g w w' group log' b.grouped placed b.next)) shows,
    )

    -- and one that shows the group too
    pub shows_grown : (c : Image) → ShowsLog (WasEmpty g w.opened) (LeftNoFile g w.opened) (entries c) log'.first (b.grouped.front ++ b.grouped.rs) → ShowsFrom (WasEmpty g w.opened) (LeftNoFile g w.opened) (w.synced + length group) log' (entries c)
    shows_grown c shows = (
      w.synced + length group,
      omega arith,
      group_within g w w' group log' b.grouped placed b.next,
      subst (λ (l : List Record). ShowsLog (WasEmpty g w.opened) (LeftNoFile g w.opened) (entries c) log'.first l) (sym (grown_is g w w' group log' b.grouped placed b.next)) shows,
    )

    -- the newest files of an image, once the last one has the group
    module _ (e c : Image) (was : g.may_leave w.disk e) (same : SameElsewhere b.last.number e c) (records : List Record)
        (now : EndsWithSegment (WasEmpty g w.opened) (LeftNoFile g w.opened) (entries c) log'.first records (with_chunk b.last b.grouped.rs)) where
      pub group_at : HasNewestAt b.places log'.first (entries c)
      group_at = at_chunk log'.first b.grouped.front records b.last b.grouped.rs e c (b.rest e was) same now b.places log'.first (b.at e was)

      pub group_read : HasSegments (entries e) w.segments → (after : List Segment) → after ≡ map places_of_segment (b.before ++ with_chunk b.last b.grouped.rs ∷ []) → HasSegments (entries c) after
      group_read read after is = read_chunk log'.first b.grouped.front records b.last b.grouped.rs e c (b.rest e was) same now b.before w.segments after read b.segments is

    pub number_is : counted.newest.number ≡ b.last.number
    number_is = ap (λ (s : Segment). s.number) b.newest

    pub ends_is : end_of b.last ≡ w.synced + 1
    ends_is = sym (ap (λ (s : Segment). s.«end») b.newest) ∙ counted.ends

    gate_is : counted.newest.length - 1 ≡ length (segment_spelling b.last)
    gate_is = omega (arith, ap (λ (s : Segment). s.length) b.newest)

    pub front_is : IsTrue (g.tells w.disk) → take (counted.newest.length - 1) (bytes_at (g.reads w.disk) counted.newest.number) ≡ segment_spelling b.last
    front_is told =
        ap (λ (n : ℕ). take n (bytes_at (g.reads w.disk) counted.newest.number)) gate_is
        ∙ ap (λ (n : ℕ). take (length (segment_spelling b.last)) (bytes_at (g.reads w.disk) n)) number_is
        ∙ front_read g as_read w.disk told log'.first b.grouped.front b.last b.rest

    module _ (some : 1 ≤ length group) (few : length group ≤ 256) (fits : length (joined_records group) ≤ 2 ^ 20) (within : next_lsn log' ≤ 2 ^ 62) where
      -- the file with the whole chunk
      pub whole_rests : (c : Image) → AgreesElsewhere b.last.number (g.may_leave w.disk) c
          → get c b.last.number ≡ Some (segment_spelling b.last ++ 1 ∷ sealed_chunk (w.synced + 1) (length group) (joined_records group))
          → EndsWithSegment (WasEmpty g w.opened) (LeftNoFile g w.opened) (entries c) log'.first (b.grouped.front ++ b.grouped.rs) (with_chunk b.last b.grouped.rs)
      whole_rests c agrees file =
          let (e, was, same) = agrees in
          let chunk = group_chunk g w w' group log' b.grouped placed b.next some few fits in
          one_whole log'.first b.grouped.front b.last e c (b.rest e was) same b.grouped.rs
          (subst (λ (n : ℕ). IsTrue (is_chunk n b.grouped.rs)) (sym ends_is) chunk)
          (omega (arith, ends_is, group_within g w w' group log' b.grouped placed b.next, group_long g w w' group log' b.grouped placed, within))
          (file ∙ ap (λ (l : List ℕ). Some (segment_spelling b.last ++ 1 ∷ l)) (sealed_is g w w' group log' b.grouped placed ∙ ap (λ (n : ℕ). sealed_chunk n (length b.grouped.rs) (body b.grouped.rs)) (sym ends_is)))

      -- at any moment of the write
      pub group_images : IsTrue (g.tells w.disk) → (d : D) → Within g w.disk d (AgreesElsewhere counted.newest.number (g.may_leave w.disk))
          → Within g w.disk d (λ c. IsShut (take (counted.newest.length - 1) (bytes_at (g.reads w.disk) counted.newest.number)) (get c counted.newest.number)
          ⊎ (get c counted.newest.number ≡ Some (take (counted.newest.length - 1) (bytes_at (g.reads w.disk) counted.newest.number) ++ 1 ∷ sealed_chunk (w.synced + 1) (length group) (joined_records group))))
          → Within g w.disk d (λ c. ShowsFrom (WasEmpty g w.opened) (LeftNoFile g w.opened) w.synced log' (entries c))
      group_images told d elsewhere images c left =
          let agrees : AgreesElsewhere b.last.number (g.may_leave w.disk) c = subst (λ (n : ℕ). AgreesElsewhere n (g.may_leave w.disk) c) number_is (elsewhere c left) in
          ⊎_elim
          (λ shut.
          let (e, was, same) = agrees in
          let here : IsShut (segment_spelling b.last) (get c b.last.number) = subst (λ (n : ℕ). IsShut (segment_spelling b.last) (get c n)) number_is (subst (λ (l : List ℕ). IsShut l (get c counted.newest.number)) (front_is told) shut) in
          shows_durable c (one_shut log'.first b.grouped.front b.last e c (b.rest e was) same here))
          (λ whole.
          let here : get c b.last.number ≡ Some (segment_spelling b.last ++ 1 ∷ sealed_chunk (w.synced + 1) (length group) (joined_records group)) =
          subst (λ (n : ℕ). get c n ≡ Some (segment_spelling b.last ++ 1 ∷ sealed_chunk (w.synced + 1) (length group) (joined_records group))) number_is
          (whole ∙ ap (λ (l : List ℕ). Some (l ++ 1 ∷ sealed_chunk (w.synced + 1) (length group) (joined_records group))) (front_is told)) in
          let (n, least, most, shows) = shows_grown c (rests_shows (whole_rests c agrees here)) in
          (n, omega (arith, least), most, shows))
          (images c left)

      -- and afterwards
      pub group_rests : IsTrue (g.tells w.disk) → (d : D) → ((c : Image) → g.may_leave d c → g.left_since d (g.moment w.disk) c)
          → Within g w.disk d (AgreesElsewhere counted.newest.number (g.may_leave w.disk)) → IsSynced g d counted.newest.number
          → get (g.reads d) counted.newest.number ≡ Some (take (counted.newest.length - 1) (bytes_at (g.reads w.disk) counted.newest.number) ++ 1 ∷ sealed_chunk (w.synced + 1) (length group) (joined_records group))
          → (c : Image) → g.may_leave d c → EndsWithSegment (WasEmpty g w.opened) (LeftNoFile g w.opened) (entries c) log'.first (b.grouped.front ++ b.grouped.rs) (with_chunk b.last b.grouped.rs)
      group_rests told d counts elsewhere durable written c left =
          let agrees : AgreesElsewhere b.last.number (g.may_leave w.disk) c = subst (λ (n : ℕ). AgreesElsewhere n (g.may_leave w.disk) c) number_is (elsewhere c (counts c left)) in
          let whole : get c counted.newest.number ≡ Some (take (counted.newest.length - 1) (bytes_at (g.reads w.disk) counted.newest.number) ++ 1 ∷ sealed_chunk (w.synced + 1) (length group) (joined_records group)) = durable c left ∙ written in
          whole_rests c agrees
          (subst (λ (n : ℕ). get c n ≡ Some (segment_spelling b.last ++ 1 ∷ sealed_chunk (w.synced + 1) (length group) (joined_records group))) number_is
          (whole ∙ ap (λ (l : List ℕ). Some (l ++ 1 ∷ sealed_chunk (w.synced + 1) (length group) (joined_records group))) (front_is told)))

      pub segments_grown : with_newest_grown (length group) (length (joined_records group)) w.segments ≡ map places_of_segment (b.before ++ with_chunk b.last b.grouped.rs ∷ [])
      segments_grown =
          let size : length (joined_records group) ≡ length (body b.grouped.rs) = ap length (ap joined_records b.grouped.group_is ∙ joined_body b.grouped.rs) in
          ap (with_newest_grown (length group) (length (joined_records group))) (b.segments ∙ map-append places_of_segment b.before (b.last ∷ []))
          ∙ newest_grown (length group) (length (joined_records group)) (map places_of_segment b.before) (places_of_segment b.last)
          ∙ ap (λ (n : ℕ). map places_of_segment b.before ++ with_chunk_place n (length (joined_records group)) (places_of_segment b.last) ∷ []) (sym (group_long g w w' group log' b.grouped placed))
          ∙ ap (λ (n : ℕ). map places_of_segment b.before ++ with_chunk_place (length b.grouped.rs) n (places_of_segment b.last) ∷ []) size
          ∙ ap (λ (s : Segment). map places_of_segment b.before ++ s ∷ []) (sym (described_grown b.last b.grouped.rs))
          ∙ sym (map-append places_of_segment b.before (with_chunk b.last b.grouped.rs ∷ []))
