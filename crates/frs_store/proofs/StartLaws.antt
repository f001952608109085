-- To which maps an image recovers that a refused start leaves, and with which maps a session begins.
use Rattle.std.proofs.Common.{◌≡◌, ℕ, ◌+◌, ◌≤◌, IsTrue, List, [], ◌∷◌, ◌++◌, length, take, drop, sym, ap, ◌∙◌, subst, arith}
use Rattle.std.proofs.Common.{⊎_elim, ◌<◌, take-append-drop, length-append, length-take-le}
use Rattle.std.specs.FinMap.{entries}
use Rattle.std.proofs.lemmas.Bool.{cases_lt}
use Rattle.std.proofs.Math.Seq.{take-append_seam, take-length}
use Rattle.frs_types.specs.declared.record.Record.{Record}
use Rattle.frs_types.specs.Records.{Log, from_lowest, next_lsn}
use Rattle.frs_types.specs.Survivors.{survivors, maps_of}
use Rattle.frs_types.specs.Lawful.{LogState, settled_state, plain_maps, Lawful}
use Rattle.frs_types.proofs.BackwardIsForward.{cut_gives_entries}
use Rattle.frs_types.proofs.LogStates.{lawful_front}
use Rattle.frs_disk.specs.declared.disk.Disk.{Ghosts}
use Rattle.frs_disk.specs.Disk.{Image}
use Rattle.frs_disk.specs.Frames.{Within}
use Rattle.frs_segment.specs.Segments.{FileList, Spells}
use Rattle.frs_recovery.specs.Sound.{IsReady}
use Rattle.frs_book.specs.Drawn.{SessionHistory}
use Rattle.frs_store.specs.SessionEnd.{BeginsOn, SpellsFront, state_of, opening_mark}
use Rattle.frs_store.specs.Start.{LeavesOpening, RecoversSame}
use Rattle.frs_store.proofs.OpeningMark.{next_from_lowest, mark_follows}
use Rattle.frs_store.proofs.RecoveredCommits.{maps_are_plain, state_joined}

-- the maps of what survives are those of the state
maps_of_state : (rs : List Record) → Lawful [] 1 rs → maps_of (survivors (from_lowest 1 rs)) ≡ plain_maps (state_of rs).entries
maps_of_state rs lawful = maps_are_plain (survivors (from_lowest 1 rs)) ∙ ap plain_maps (cut_gives_entries rs lawful)

module _ (one_log : (image : FileList) (log other : Log) → Spells image log → Spells image other → log ≡ other) where
  pub begins_with : (before : List Record) (h : SessionHistory) (image : FileList) (log : Log) → BeginsOn before h → Spells image (from_lowest 1 before)
      → Spells image log → maps_of (survivors log) ≡ plain_maps h.entries
  begins_with before h image log begins spells is =
      ap (λ (l : Log). maps_of (survivors l)) (one_log image log (from_lowest 1 before) is spells)
      ∙ maps_of_state before begins.lawful ∙ ap plain_maps (sym begins.entries)

  module _ (before : List Record) (lawful : Lawful [] 1 before) where
    abbrev all : List Record
    all = before ++ opening_mark before ∷ []

    front_lawful : (n : ℕ) → Lawful [] 1 (take n all)
    front_lawful n = lawful_front [] 1 (take n all) (drop n all) (subst (Lawful [] 1) (sym (take-append-drop n all)) (mark_follows before lawful))

    -- the mark leaves the entries
    front_entries : (n : ℕ) → length before ≤ n → n ≤ length all → (state_of (take n all)).entries ≡ (state_of before).entries
    front_entries n least most =
        let count : length all ≡ length before + 1 = length-append before (opening_mark before ∷ []) in
        ⊎_elim
        (λ (lt : n < length all).
        let same : n ≡ length before = omega (arith, lt, least, count) in
        ap (λ k. (state_of (take k all)).entries) same
        ∙ ap (λ rs. (state_of rs).entries) (take-append_seam before (opening_mark before ∷ [])))
        (λ (le : length all ≤ n).
        let same : n ≡ length all = omega (arith, le, most) in
        ap (λ k. (state_of (take k all)).entries) same
        ∙ ap (λ rs. (state_of rs).entries) (take-length all)
        ∙ ap (λ (s : LogState). s.entries) (state_joined (settled_state [] 1) before (opening_mark before ∷ [])))
        (cases_lt n (length all))

    recovers_same : (log : Log) (c : Image) → log ≡ from_lowest 1 before → SpellsFront (length before) all c → RecoversSame log c
    recovers_same log c is (n, least, most, spells) =
        let next : next_lsn log ≡ length before + 1 = ap next_lsn is ∙ next_from_lowest before lawful in (
          n,
          (let fits : next_lsn log ≤ n + 1 = omega (arith, next, least) in fits),
          (let fits : n ≤ next_lsn log = omega (arith, next, most, length-append before (opening_mark before ∷ [])) in fits),
          record {
            sound = (take n all, front_lawful n, spells);
            log = from_lowest 1 (take n all);
            spells = spells;
            newest = next_from_lowest (take n all) (front_lawful n) ∙ ap (λ k. k + 1) (length-take-le n all most);
            maps = maps_of_state (take n all) (front_lawful n) ∙ ap plain_maps (front_entries n least most)
                ∙ sym (maps_of_state before lawful) ∙ ap (λ (l : Log). maps_of (survivors l)) (sym is);
          },
        )

  pub unopened_recovers : {D : Type 0} (g : Ghosts D) (old new : D) → LeavesOpening g old new → IsTrue (g.tells old) → IsReady g old
      → (log : Log) → Spells (entries (g.reads old)) log → Within g old new (RecoversSame log)
  unopened_recovers g old new leaves told ready log spells c left =
      let (before, lawful, spelled, within) = leaves told ready in
      recovers_same before lawful log c (one_log (entries (g.reads old)) log (from_lowest 1 before) spells spelled) (within c left)
