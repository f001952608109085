-- What each crash since the start of a session leaves of the records behind those that the store spelled.
use Rattle.std.proofs.Common.{◌≡◌, ℕ, ◌+◌, ◌-◌, ◌≤◌, true, IsTrue, List, [], ◌∷◌, ◌++◌, length, map, take, drop, refl, sym, ap, ◌∙◌, subst, arith}
use Rattle.std.proofs.Common.{take-append-drop, length-append, append_assoc, length-take-le}
use Rattle.std.specs.Prelude.{◌&&◌, nat_le}
use Rattle.std.specs.FinMap.{entries}
use Rattle.std.proofs.lemmas.Bool.{and_parts, and_from, le-leb}
use Rattle.std.proofs.lemmas.List.{take-map, take-append-le}
use Rattle.std.proofs.Math.Seq.{take-append_seam}
use mathlib.Core.List.{IsPrefix}
use Rattle.frs_types.specs.declared.record.Record.{Record}
use Rattle.frs_types.specs.Records.{IsPlaced, is_allowed, are_placed_from, named_lowest, from_lowest}
use Rattle.frs_types.specs.Lawful.{settled_state, Lawful}
use Rattle.frs_types.proofs.LogStates.{lawful_front}
use Rattle.frs_types.proofs.LowestRises.{none_begun, lawful_is_placed}
use Rattle.frs_disk.specs.declared.disk.Disk.{Ghosts}
use Rattle.frs_disk.specs.Disk.{Image}
use Rattle.frs_disk.specs.Frames.{Within}
use Rattle.frs_frame.specs.Spelling.{spelling}
use Rattle.frs_segment.specs.Segments.{Spells}
use Rattle.frs_segment.specs.Stores.{LeavesAlike}
use Rattle.frs_writer.specs.Writer.{IsLog}
use Rattle.frs_writer.specs.Writing.{SpellsFrom}
use Rattle.frs_writer.proofs.LongerLog.{with_more}
use Rattle.frs_store.specs.Journal.{JournalView, IsJournal}
use Rattle.frs_store.specs.SessionEnd.{SpellsFront}
use Rattle.frs_store.proofs.ContinuedLog.{goes_on}
use Rattle.frs_store.proofs.OpeningMark.{named_within, next_from_lowest}

-- placed records are placed from a later one on
placed_behind : (low n : ℕ) (rs qs : List Record) → are_placed_from low n (rs ++ qs) ≡ true → are_placed_from 0 (n + length rs) qs ≡ true
placed_behind low n [] [] all = refl
placed_behind low n [] (q ∷ qs) all =
    let both = and_parts (is_allowed n q && nat_le low q.lowest) (are_placed_from q.lowest (n + 1) qs) all in
    let may = (and_parts (is_allowed n q) (nat_le low q.lowest) both.0).0 in
    let same : n ≡ n + 0 = omega arith in
    subst (λ k. are_placed_from 0 k (q ∷ qs) ≡ true) same (and_from _ _ (and_from _ _ may (le-leb 0 q.lowest (omega arith))) both.1)
placed_behind low n (r ∷ rs) qs all =
    let both = and_parts (is_allowed n r && nat_le low r.lowest) (are_placed_from r.lowest (n + 1) (rs ++ qs)) all in
    subst (λ k. are_placed_from 0 k qs ≡ true) (omega arith) (placed_behind r.lowest (n + 1) rs qs both.1)

module _ {D : Type 0} (g : Ghosts D) (j : JournalView D) (is : IsJournal g j) (before rs : List Record)
    (lawful : Lawful [] 1 (before ++ rs)) (opened : Spells (entries (g.reads j.writer.opened)) (from_lowest 1 before))
    (durable : j.durable ≡ length before) (prefix : IsPrefix j.writer.taker.taken (map spelling rs)) where
  -- the records that were taken
  abbrev count : ℕ
  count = length j.writer.taker.taken

  abbrev took : List Record
  took = take count rs

  bytes : j.writer.taker.taken ≡ map spelling took
  bytes = sym (take-append_seam j.writer.taker.taken prefix.0) ∙ ap (take count) prefix.1 ∙ take-map spelling count rs

  its : IsLog g j.writer (with_more (from_lowest 1 before) took)
  its = record { base = from_lowest 1 before; spelled = opened; taken = took; bytes = bytes; is = refl }

  parts : before ++ rs ≡ (before ++ took) ++ drop count rs
  parts = ap (λ l. before ++ l) (sym (take-append-drop count rs)) ∙ sym (append_assoc before took (drop count rs))

  taken_lawful : Lawful [] 1 (before ++ took)
  taken_lawful = lawful_front [] 1 (before ++ took) (drop count rs) (subst (Lawful [] 1) parts lawful)

  before_lawful : Lawful [] 1 before
  before_lawful = lawful_front [] 1 before rs lawful

  is_placed : IsPlaced (with_more (from_lowest 1 before) took)
  is_placed =
      let cut : ℕ = named_lowest before - 1 in
      let within = named_within before before_lawful in
      let inside : cut ≤ length before = omega (arith, within.0, within.1) in
      let passed : length (take cut before) ≡ cut = length-take-le cut before inside in
      let first : 1 + length (take cut before) ≡ named_lowest before = omega (arith, passed, within.0) in
      let split : before ++ took ≡ take cut before ++ (drop cut before ++ took) =
      ap (λ l. l ++ took) (sym (take-append-drop cut before)) ∙ append_assoc (take cut before) (drop cut before) took in
      let all : are_placed_from 0 1 (before ++ took) ≡ true =
      lawful_is_placed (settled_state [] 1) 0 (before ++ took) (none_begun [] 1) (omega arith) taken_lawful in
      subst (λ n. are_placed_from 0 n (drop cut before ++ took) ≡ true) first
      (placed_behind 0 1 (take cut before) (drop cut before ++ took) (subst (λ l. are_placed_from 0 1 l ≡ true) split all))

  -- an image that spells the log from an LSN on spells a front of the records
  pub shows_front : (low : ℕ) (c : Image) → length before ≤ low → SpellsFrom low (with_more (from_lowest 1 before) took) c
      → SpellsFront low (before ++ rs) c
  shows_front low c least (n, from, most, spells) =
      let next : named_lowest before + length (drop (named_lowest before - 1) before) ≡ length before + 1 = next_from_lowest before before_lawful in
      let logged : length (drop (named_lowest before - 1) before ++ took) ≡ length (drop (named_lowest before - 1) before) + length took =
      length-append (drop (named_lowest before - 1) before) took in
      let joined : length (before ++ took) ≡ length before + length took = length-append before took in
      let whole : length (before ++ rs) ≡ length (before ++ took) + length (drop count rs) =
      ap length parts ∙ length-append (before ++ took) (drop count rs) in
      let inside : n ≤ length (before ++ took) = omega (arith, most, next, logged, joined) in
      let same : take n (before ++ took) ≡ take n (before ++ rs) =
      sym (take-append-le n (before ++ took) (drop count rs) inside) ∙ ap (take n) (sym parts) in (
        n,
        from,
        (let fits : n ≤ length (before ++ rs) = omega (arith, inside, whole) in fits),
        subst (Spells (entries c))
            (goes_on before took (with_more (from_lowest 1 before) took) n taken_lawful refl (omega (arith, least, from)) ∙ ap (from_lowest 1) same) spells,
      )

  pub since_start : IsTrue (g.tells j.start) → LeavesAlike g j.start → Within g j.start j.writer.disk (SpellsFront (length before) (before ++ rs))
  since_start told alike c left =
      shows_front (length before) c (omega arith)
      (subst (λ n. SpellsFrom n (with_more (from_lowest 1 before) took) c) durable
      (is.since told alike (with_more (from_lowest 1 before) took) its is_placed c left))
