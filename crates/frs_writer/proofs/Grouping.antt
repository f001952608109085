-- The log of a writer behind a group that was taken, and what the files of the disk then show.
use Rattle.std.proofs.Common.{◌≡◌, ℕ, ◌+◌, ◌-◌, ◌^◌, ◌<◌, ◌≤◌, true, List, [], ◌∷◌, ◌++◌, length, take, map, Option, Some, refl, sym, ◌∙◌, ap, subst, arith, append_assoc, length-append, IsTrue}
use Rattle.std.specs.Prelude.{unwrap_or}
use Rattle.std.specs.Option.{option_to_list}
use Rattle.std.proofs.lemmas.Bool.{and_from, le-leb}
use Rattle.std.proofs.lemmas.List.{length-map, map-append, take_at, take-append-le}
use Rattle.std.specs.FinMap.{entries, get}
use Rattle.frs_types.specs.declared.record.Record.{Record}
use Rattle.frs_types.specs.Records.{Log, IsPlaced, next_lsn, are_allowed_from}
use Rattle.frs_disk.specs.declared.disk.Disk.{Ghosts}
use Rattle.frs_disk.specs.Disk.{Image, bytes_at}
use Rattle.frs_frame.specs.Spelling.{spelling}
use Rattle.frs_segment.specs.Segments.{WholeSegment, Spells, segment_spelling, body, is_chunk}
use Rattle.frs_segment.specs.Scanning.{places_of_segment}
use Rattle.frs_slots.specs.Views.{next_taken}
use Rattle.frs_writer.specs.Gates.{sealed_chunk}
use Rattle.frs_writer.specs.Groups.{joined_records}
use Rattle.frs_writer.specs.Invariant.{IsCounted, AreWritten, durable_of}
use Rattle.frs_writer.specs.LogImages.{EndsWithSegment}
use Rattle.frs_writer.specs.Writer.{WriterView, IsLog}
use Rattle.frs_writer.proofs.NewestFile.{last_get}
use Rattle.frs_writer.proofs.LongerLog.{with_more}
use Rattle.frs_writer.proofs.Parted.{part, joined_body, placed_less}
use Rattle.frs_writer.proofs.IsPlaced.{placed_allowed, allowed_back, allowed_front}
use Rattle.frs_writer.proofs.Places.{same_newest}

-- ---- the log behind a group

module _ {D : Type 0} (g : Ghosts D) where
  -- The log of a writer after it has taken more is its log before with more records. Of these the first ones were written,
  -- then comes the group, and then what is kept.
  pub record Grouping (w w' : WriterView D) (group : List (List ℕ)) (log' : Log) : Type 0 where
    pub log : Log
    pub is_log : IsLog g w log
    pub more : List Record
    pub log_is : log' ≡ with_more log more
    pub front : List Record
    pub rs : List Record
    pub back : List Record
    pub whole : log'.records ≡ front ++ (rs ++ back)
    pub group_is : group ≡ map spelling rs
    pub front_long : next_lsn log ≡ next_taken w.taker → log.first + length front ≡ w.synced + 1
    pub shorter : length front ≤ length log.records
    pub more_long : length w'.taker.taken ≡ length w.taker.taken + length more

  pub grouping : (w w' : WriterView D) (group more : List (List ℕ)) (still : Option (List ℕ)) (log' : Log) → AreWritten w
      → w'.opened ≡ w.opened → w'.taker.taken ≡ w.taker.taken ++ more → group ++ option_to_list still ≡ option_to_list w.kept ++ more → IsLog g w' log'
      → Grouping w w' group log'
  grouping w w' group more still log' (written, taken_are, counted) same grows parts l =
      let p = part w.taker.taken more l.taken (sym grows ∙ l.bytes) in
      let all : w'.taker.taken ≡ written ++ (group ++ option_to_list still) =
      grows ∙ ap (λ (x : List (List ℕ)). x ++ more) taken_are ∙ append_assoc written (option_to_list w.kept) more ∙ ap (λ (x : List (List ℕ)). written ++ x) (sym parts) in
      let q = part written (group ++ option_to_list still) l.taken (sym all ∙ l.bytes) in
      let r = part group (option_to_list still) q.back q.back_is in
      let base = l.base.records in
      record {
        log = record l.base { records = base ++ p.front };
        is_log = record { base = l.base; spelled = subst (λ (o : D). Spells (entries (g.reads o)) l.base) same l.spelled; taken = p.front; bytes = p.front_is; is = refl };
        more = p.back;
        log_is = l.is ∙ ap (λ (x : List Record). record l.base { records = base ++ x }) p.is ∙ ap (λ (x : List Record). record l.base { records = x }) (sym (append_assoc base p.front p.back));
        front = base ++ q.front;
        rs = r.front;
        back = r.back;
        whole = ap (λ (x : Log). x.records) l.is ∙ ap (λ (x : List Record). base ++ x) (q.is ∙ ap (λ (x : List Record). q.front ++ x) r.is) ∙ sym (append_assoc base q.front (r.front ++ r.back));
        group_is = r.front_is;
        front_long = λ next. omega (arith, next, length-append base p.front, length-append base q.front, ap length p.front_is, length-map p.front spelling, ap length q.front_is, length-map q.front spelling, counted);
        shorter = omega (arith, length-append base p.front, length-append base q.front, ap length p.front_is, length-map p.front spelling, ap length q.front_is, length-map q.front spelling, ap length taken_are, length-append written (option_to_list w.kept));
        more_long = omega (arith, ap length grows, length-append w.taker.taken more, ap length p.back_is, length-map p.back spelling);
      }

  module _ (w w' : WriterView D) (group : List (List ℕ)) (log' : Log) (grouped : Grouping w w' group log') (placed : IsPlaced log') where
    pub first_is : log'.first ≡ grouped.log.first
    first_is = ap (λ (x : Log). x.first) grouped.log_is

    pub placed_before : IsPlaced grouped.log
    placed_before = placed_less grouped.log grouped.more (subst IsPlaced grouped.log_is placed)

    records_are : log'.records ≡ grouped.log.records ++ grouped.more
    records_are = ap (λ (x : Log). x.records) grouped.log_is

    -- what was durable
    pub durable_is : next_lsn grouped.log ≡ next_taken w.taker → (durable_of w grouped.log).records ≡ grouped.front
    durable_is next =
        let long = grouped.front_long next in
        ap (λ (n : ℕ). take n grouped.log.records) (omega (arith, long))
        ∙ sym (take-append-le (length grouped.front) grouped.log.records grouped.more grouped.shorter)
        ∙ ap (take (length grouped.front)) (sym records_are ∙ grouped.whole) ∙ take_at grouped.front (grouped.rs ++ grouped.back) (length grouped.front) refl

    pub behind_is : next_lsn grouped.log ≡ next_taken w.taker → take (w.synced + 1 - log'.first) log'.records ≡ grouped.front
    behind_is next =
        let long = grouped.front_long next in
        ap (λ (n : ℕ). take n log'.records) (omega (arith, long, first_is))
        ∙ ap (take (length grouped.front)) grouped.whole ∙ take_at grouped.front (grouped.rs ++ grouped.back) (length grouped.front) refl

    pub group_long : length grouped.rs ≡ length group
    group_long = sym (ap length grouped.group_is ∙ length-map grouped.rs spelling)

    -- what is durable with the group
    pub grown_is : next_lsn grouped.log ≡ next_taken w.taker → take (w.synced + length group + 1 - log'.first) log'.records ≡ grouped.front ++ grouped.rs
    grown_is next =
        let long = grouped.front_long next in
        ap (λ (n : ℕ). take n log'.records) (omega (arith, long, first_is, group_long, length-append grouped.front grouped.rs))
        ∙ ap (take (length (grouped.front ++ grouped.rs))) (grouped.whole ∙ sym (append_assoc grouped.front grouped.rs grouped.back)) ∙ take_at (grouped.front ++ grouped.rs) grouped.back (length (grouped.front ++ grouped.rs)) refl

    pub next_is : next_lsn log' ≡ next_lsn grouped.log + length grouped.more
    next_is = omega (arith, ap length records_are, length-append grouped.log.records grouped.more, first_is)

    pub group_within : next_lsn grouped.log ≡ next_taken w.taker → w.synced + length group < next_lsn log'
    group_within next = omega (arith, grouped.front_long next, first_is, group_long, ap length grouped.whole, length-append grouped.front (grouped.rs ++ grouped.back), length-append grouped.rs grouped.back)

    -- the group may stand behind what was durable
    pub group_chunk : next_lsn grouped.log ≡ next_taken w.taker → 1 ≤ length group → length group ≤ 256 → length (joined_records group) ≤ 2 ^ 20 → IsTrue (is_chunk (w.synced + 1) grouped.rs)
    group_chunk next some few fits =
        let long = grouped.front_long next in
        let all : are_allowed_from log'.first (grouped.front ++ (grouped.rs ++ grouped.back)) ≡ true = subst (λ (x : List Record). are_allowed_from log'.first x ≡ true) grouped.whole (placed_allowed 0 log'.first log'.records placed) in
        let behind : are_allowed_from (log'.first + length grouped.front) (grouped.rs ++ grouped.back) ≡ true = allowed_back log'.first grouped.front (grouped.rs ++ grouped.back) all in
        let here : are_allowed_from (w.synced + 1) grouped.rs ≡ true = subst (λ (n : ℕ). are_allowed_from n grouped.rs ≡ true) (omega (arith, long, first_is)) (allowed_front (log'.first + length grouped.front) grouped.rs grouped.back behind) in
        let size : length (body grouped.rs) ≡ length (joined_records group) = ap length (sym (ap joined_records grouped.group_is ∙ joined_body grouped.rs)) in
        and_from _ _ (and_from _ _ (and_from _ _ (le-leb 1 (length grouped.rs) (omega (arith, group_long, some))) (le-leb (length grouped.rs) 256 (omega (arith, group_long, few)))) (le-leb (length (body grouped.rs)) (2 ^ 20) (omega (arith, size, fits)))) here

    pub sealed_is : sealed_chunk (w.synced + 1) (length group) (joined_records group) ≡ sealed_chunk (w.synced + 1) (length grouped.rs) (body grouped.rs)
    sealed_is = ap (λ (n : ℕ). sealed_chunk (w.synced + 1) n (joined_records group)) (sym group_long) ∙ ap (sealed_chunk (w.synced + 1) (length grouped.rs)) (ap joined_records grouped.group_is ∙ joined_body grouped.rs)

-- ---- the newest file

pub newest_is : {D : Type 0} (w : WriterView D) (counted : IsCounted w) (before : List WholeSegment) (last : WholeSegment) → w.segments ≡ map places_of_segment (before ++ last ∷ []) → counted.newest ≡ places_of_segment last
newest_is w counted before last is = (same_newest counted.older (map places_of_segment before) counted.newest (places_of_segment last) (sym counted.segments ∙ is ∙ map-append places_of_segment before (last ∷ []))).1

module _ {D : Type 0} (g : Ghosts D)
    (as_read : (disk : D) → IsTrue (g.tells disk) → g.may_leave disk (g.reads disk)) where
  -- the newest file as it is read
  pub file_read : {alone fresh : Type 0} (disk : D) (told : IsTrue (g.tells disk)) (first : ℕ) (records : List Record) (last : WholeSegment) → ((c : Image) → g.may_leave disk c → EndsWithSegment alone fresh (entries c) first records last)
      → get (g.reads disk) last.number ≡ Some (segment_spelling last ++ 0 ∷ [])
  file_read disk told first records last rest =
      let r = rest (g.reads disk) (as_read disk told) in
      last_get (g.reads disk) r.front last.number (segment_spelling last ++ 0 ∷ []) r.files

  pub front_read : {alone fresh : Type 0} (disk : D) (told : IsTrue (g.tells disk)) (first : ℕ) (records : List Record) (last : WholeSegment) → ((c : Image) → g.may_leave disk c → EndsWithSegment alone fresh (entries c) first records last)
      → take (length (segment_spelling last)) (bytes_at (g.reads disk) last.number) ≡ segment_spelling last
  front_read disk told first records last rest =
      ap (λ (o : Option (List ℕ)). take (length (segment_spelling last)) (unwrap_or o [])) (file_read disk told first records last rest)
      ∙ take_at (segment_spelling last) (0 ∷ []) (length (segment_spelling last)) refl
