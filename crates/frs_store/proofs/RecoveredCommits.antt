-- What an image recovers to that spells a front of a store's records: the maps after the commits up to its newest LSN.
use Rattle.std.proofs.Common.{◌≡◌, ℕ, suc, ◌+◌, ◌-◌, ◌<◌, ◌≤◌, List, [], ◌∷◌, ◌++◌, length, fold, take, drop, refl, sym, ap, ◌∙◌, subst, arith}
use Rattle.std.proofs.Common.{⊎_elim, take-append-drop, length-append, length-take-le}
use Rattle.std.specs.FinMap.{entries}
use Rattle.std.specs.FinMap.Entries.{put}
use Rattle.std.proofs.lemmas.Bool.{and_from, cases_lt}
use Rattle.std.proofs.Math.Seq.{take-append-add, take-append_seam}
use Rattle.frs_types.specs.declared.record.Entry.{Entry}
use Rattle.frs_types.specs.declared.record.Record.{Record}
use Rattle.frs_types.specs.Maps.{Maps, Table, place_cmp, After}
use Rattle.frs_types.specs.Maps.Change.{Set}
use Rattle.frs_types.specs.Records.{from_lowest, next_lsn}
use Rattle.frs_types.specs.Survivors.{survivors, maps_of}
use Rattle.frs_types.specs.Lawful.{StoredValue, LogState, plain_maps, table_of, settled_state, after_record, state_after}
use Rattle.frs_types.specs.Lawful.{are_lawful, Lawful}
use Rattle.frs_types.proofs.BackwardIsForward.{cut_gives_entries}
use Rattle.frs_types.proofs.LogStates.{lawful_split, lawful_front, plain_after}
use Rattle.frs_disk.specs.declared.disk.Disk.{Ghosts}
use Rattle.frs_disk.specs.Disk.{Image}
use Rattle.frs_disk.specs.Frames.{Within}
use Rattle.frs_segment.specs.Segments.{FileList, Spells}
use Rattle.frs_history.specs.Machine.{Changes}
use Rattle.frs_book.specs.Drawn.{SessionHistory, opened, drawn_records, commits_in, commits_up_to, drawing_of}
use Rattle.frs_book.specs.Agreement.{IsSession, IsShown}
use Rattle.frs_book.proofs.BookGoesOn.{next_behind}
use Rattle.frs_book.proofs.HistoryRuns.{session_is_shown}
use Rattle.frs_store.specs.SessionEnd.{RecoversTo, RecoversFront, RecoversAll, BeginsOn, SessionEnd, IsSessionEnd, SpellsFront}
use Rattle.frs_store.specs.SessionEnd.{state_of, opening_mark, records_with}
use Rattle.frs_store.proofs.OpeningMark.{next_from_lowest, mark_is_lawful}

-- ---- records and entries

pub state_joined : (s : LogState) (rs qs : List Record) → state_after s (rs ++ qs) ≡ state_after (state_after s rs) qs
state_joined s [] qs = refl
state_joined s (r ∷ rs) qs = state_joined (after_record s r) rs qs

maps_from : (es : List Entry) (t : Table StoredValue) → fold (λ m (e : Entry). put place_cmp (e.id, e.key) e.value m) (plain_maps t) es
    ≡ plain_maps (fold (λ u (e : Entry). put place_cmp (e.id, e.key) (record { value = e.value; lsn = e.lsn }) u) t es)
maps_from [] t = refl
maps_from (e ∷ es) t =
    ap (λ (m : Maps). fold (λ u (d : Entry). put place_cmp (d.id, d.key) d.value u) m es)
    (sym (plain_after (Set e.id e.key (record { value = e.value; lsn = e.lsn })) t))
    ∙ maps_from es (put place_cmp (e.id, e.key) (record { value = e.value; lsn = e.lsn }) t)

-- the maps of entries are those of their table
pub maps_are_plain : (es : List Entry) → maps_of es ≡ plain_maps (table_of es)
maps_are_plain es = maps_from es []

after_none : (m : Maps) (cs : List Changes) → After m cs 0 ≡ m
after_none m [] = refl
after_none m (c ∷ cs) = refl

-- ---- a session behind a store's records

module _ (before : List Record) (h : SessionHistory) (begins : BeginsOn before h) (legal : IsSession h) where
  shown : IsShown h
  shown = session_is_shown h legal

  abbrev all : List Record
  all = records_with before h

  next_is : (state_of before).next ≡ h.opening
  next_is =
      let behind : (state_of before).next ≡ 1 + length before = next_behind before (settled_state [] 1) in
      omega (arith, behind, begins.opening)

  behind_mark : after_record (state_of before) (opening_mark before) ≡ (opened h).log
  behind_mark i = record { entries = (sym begins.entries) i; active = []; next = next_is i + 1 }

  pub all_lawful : Lawful [] 1 all
  all_lawful =
      lawful_split (settled_state [] 1) before (opening_mark before ∷ drawn_records h)
      ∙ and_from _ _ begins.lawful (and_from _ _ (mark_is_lawful before begins.lawful)
      (ap (λ s. are_lawful s (drawn_records h)) behind_mark ∙ shown.lawful))

  pub front_lawful : (n : ℕ) → Lawful [] 1 (take n all)
  front_lawful n = lawful_front [] 1 (take n all) (drop n all) (subst (Lawful [] 1) (sym (take-append-drop n all)) all_lawful)

  -- before the opening mark no commit counts
  no_commit_yet : (n : ℕ) → n ≡ length before → plain_maps (state_of (take n all)).entries
      ≡ After (plain_maps h.entries) (commits_in h) (commits_up_to h n)
  no_commit_yet n is =
      let early : n ≤ h.opening = omega (arith, is, begins.opening) in
      ap (λ k. plain_maps (state_of (take k all)).entries) is
      ∙ ap (λ rs. plain_maps (state_of rs).entries) (take-append_seam before (opening_mark before ∷ drawn_records h))
      ∙ ap plain_maps (sym begins.entries)
      ∙ sym (after_none (plain_maps h.entries) (commits_in h))
      ∙ ap (After (plain_maps h.entries) (commits_in h)) (sym (shown.early n early))

  behind_opening : (n : ℕ) → h.opening ≤ n → plain_maps (state_of (take n all)).entries
      ≡ After (plain_maps h.entries) (commits_in h) (commits_up_to h n)
  behind_opening n le =
      let sum : n ≡ length before + suc (n - h.opening) = omega (arith, le, begins.opening) in
      ap (λ k. plain_maps (state_of (take k all)).entries) sum
      ∙ ap (λ rs. plain_maps (state_of rs).entries) (take-append-add before (opening_mark before ∷ drawn_records h) (suc (n - h.opening)))
      ∙ ap (λ (s : LogState). plain_maps s.entries)
      (state_joined (settled_state [] 1) before (opening_mark before ∷ take (n - h.opening) (drawn_records h)))
      ∙ shown.behind_mark (state_of before) (opening_mark before) n (sym begins.entries) next_is refl le

  maps_at : (n : ℕ) → length before ≤ n → plain_maps (state_of (take n all)).entries
      ≡ After (plain_maps h.entries) (commits_in h) (commits_up_to h n)
  maps_at n least = ⊎_elim
      (λ (lt : n < h.opening). no_commit_yet n (omega (arith, lt, least, begins.opening)))
      (λ (le : h.opening ≤ n). behind_opening n le)
      (cases_lt n h.opening)

  newest_at : (n : ℕ) → n ≤ length all → next_lsn (from_lowest 1 (take n all)) ≡ n + 1
  newest_at n most = next_from_lowest (take n all) (front_lawful n) ∙ ap (λ k. k + 1) (length-take-le n all most)

  -- An image that spells the records up to an LSN recovers to the maps after the commits up to it.
  pub recovers : (n : ℕ) (image : FileList) → length before ≤ n → n ≤ length all → Spells image (from_lowest 1 (take n all))
      → RecoversTo image n (After (plain_maps h.entries) (commits_in h) (commits_up_to h n))
  recovers n image least most spells = record {
    sound = (take n all, front_lawful n, spells);
    log = from_lowest 1 (take n all);
    spells = spells;
    newest = newest_at n most;
    maps =
        maps_are_plain (survivors (from_lowest 1 (take n all)))
        ∙ ap plain_maps (cut_gives_entries (take n all) (front_lawful n)) ∙ maps_at n least;
  }

  pub front_recovers : (low : ℕ) (c : Image) → length before ≤ low → SpellsFront low all c → RecoversFront low h c
  front_recovers low c least (n, from, most, spells) = (n, from, recovers n (entries c) (omega (arith, least, from)) most spells)

  -- at the newest of all records all commits count
  pub whole_recovers : (n : ℕ) (c : Image) → n ≡ length all → Spells (entries c) (from_lowest 1 (take n all)) → RecoversAll h c
  whole_recovers n c is spells =
      let both : length all ≡ length before + suc (length (drawn_records h)) = length-append before (opening_mark before ∷ drawn_records h) in
      let end : (drawing_of h).log.next ≡ h.opening + 1 + length (drawn_records h) =
      ap (λ (s : LogState). s.next) shown.log ∙ next_behind (drawn_records h) (opened h).log in
      let counted : commits_up_to h n ≡ length (commits_in h) = shown.all n (omega (arith, end, both, is, begins.opening)) in (
        n,
        subst (λ j. RecoversTo (entries c) n (After (plain_maps h.entries) (commits_in h) j)) counted
            (recovers n (entries c) (omega (arith, is, both)) (omega (arith, is)) spells),
      )

module _ {D : Type 0} (g : Ghosts D) (old new : D) (e : SessionEnd) (end : IsSessionEnd g old new e) where
  pub crash_recovers : Within g old new (RecoversFront (length e.before) e.session)
  crash_recovers c left = front_recovers e.before e.session end.begins end.legal (length e.before) c (omega arith) (end.crash c left)

  pub now_recovers : (c : Image) → g.may_leave new c → RecoversFront e.synced e.session c
  now_recovers c left = front_recovers e.before e.session end.begins end.legal e.synced c end.least (end.now c left)

  pub all_recovers : e.synced ≡ length (records_with e.before e.session) → (c : Image) → g.may_leave new c → RecoversAll e.session c
  all_recovers written c left =
      let front = end.now c left in
      whole_recovers e.before e.session end.begins end.legal front.0 c (omega (arith, front.1, front.2, written)) front.3
