-- What one file's change makes of an image that shows a log.
use Rattle.std.proofs.Common.{◌≡◌, ⊎_elim, ℕ, ◌+◌, ◌^◌, ◌<◌, ◌≤◌, List, [], ◌∷◌, ◌++◌, length, take, drop, Option, Some, None, refl, sym, ◌∙◌, ap, subst, arith, append_assoc, take-append-drop, IsTrue}
use Rattle.std.specs.Int.{w32, w64, to_be_bytes}
use Rattle.std.specs.FinMap.{get, entries}
use Rattle.frs_types.specs.declared.record.Record.{Record}
use Rattle.frs_disk.specs.Disk.{Image, SameElsewhere}
use Rattle.frs_segment.specs.Front.{IsInTheMaking, empty_segment}
use Rattle.frs_segment.specs.Segments.{WholeSegment, segment_spelling, chunk_bytes, body, is_chunk, end_of}
use Rattle.frs_writer.specs.Gates.{IsShut, sealed_chunk}
use Rattle.frs_writer.specs.LogImages.{ShowsLog, EndsWithSegment, TakesNext, with_chunk, new_segment}
use Rattle.frs_writer.proofs.ShowsLog.{rests_shows, rests_shut, rests_chunk, chunk_spelling, shows_half, shows_next}
use Rattle.frs_segment.proofs.SpellsBy.{rising}
use Rattle.frs_writer.proofs.NewestFile.{changed_last, added_last, nothing_added}

pub split_shut : (front b : List ℕ) (gate : ℕ) → take (length front + 1) b ≡ front ++ gate ∷ [] → b ≡ front ++ gate ∷ drop (length front + 1) b
split_shut front b gate is =
    sym (take-append-drop (length front + 1) b) ∙ ap (λ (l : List ℕ). l ++ drop (length front + 1) b) is ∙ append_assoc front (gate ∷ []) (drop (length front + 1) b)

-- the bytes of a chunk and of the gate behind it
sealed_spelling : (first : ℕ) (rs : List Record) → 1 ∷ sealed_chunk first (length rs) (body rs) ≡ chunk_bytes first rs ++ 0 ∷ []
sealed_spelling first rs =
    ap (λ (l : List ℕ). 1 ∷ to_be_bytes w32 (length (body rs)) ++ l)
    (ap (λ (l : List ℕ). to_be_bytes w32 (length rs) ++ l) (sym (append_assoc (to_be_bytes w64 first) (body rs) (0 ∷ [])))
    ∙ sym (append_assoc (to_be_bytes w32 (length rs)) (to_be_bytes w64 first ++ body rs) (0 ∷ [])))
    ∙ ap (λ (l : List ℕ). 1 ∷ l) (sym (append_assoc (to_be_bytes w32 (length (body rs))) (to_be_bytes w32 (length rs) ++ to_be_bytes w64 first ++ body rs) (0 ∷ [])))

module _ {alone fresh : Type 0} (first : ℕ) (records : List Record) (last : WholeSegment) (d c : Image) (rests : EndsWithSegment alone fresh (entries d) first records last) (same : SameElsewhere last.number d c) where
  -- the last file with a closed gate in its place
  pub one_shut : IsShut (segment_spelling last) (get c last.number) → ShowsLog alone fresh (entries c) first records
  one_shut shut = at (get c last.number) refl shut
    where
      at : (file : Option (List ℕ)) → get c last.number ≡ file → IsShut (segment_spelling last) file → ShowsLog alone fresh (entries c) first records
      at None is shut = absurd shut
      at (Some b) is (gate, other, begins) =
          let bytes : b ≡ segment_spelling last ++ gate ∷ drop (length (segment_spelling last) + 1) b = split_shut (segment_spelling last) b gate begins in
          rests_shut rests (entries c) gate (drop (length (segment_spelling last) + 1) b) other (rising c)
          (changed_last c d last.number (segment_spelling last ++ 0 ∷ []) rests.front same rests.files (segment_spelling last ++ gate ∷ drop (length (segment_spelling last) + 1) b) (is ∙ ap Some bytes))

  -- and with one more chunk
  pub one_whole : (rs : List Record) → IsTrue (is_chunk (end_of last) rs) → end_of last + length rs ≤ 2 ^ 62
      → get c last.number ≡ Some (segment_spelling last ++ 1 ∷ sealed_chunk (end_of last) (length rs) (body rs)) → EndsWithSegment alone fresh (entries c) first (records ++ rs) (with_chunk last rs)
  one_whole rs chunk within is =
      let bytes : segment_spelling last ++ 1 ∷ sealed_chunk (end_of last) (length rs) (body rs) ≡ segment_spelling (with_chunk last rs) ++ 0 ∷ [] =
      ap (λ (l : List ℕ). segment_spelling last ++ l) (sealed_spelling (end_of last) rs)
      ∙ sym (append_assoc (segment_spelling last) (chunk_bytes (end_of last) rs) (0 ∷ []))
      ∙ ap (λ (l : List ℕ). l ++ 0 ∷ []) (sym (chunk_spelling last rs)) in
      rests_chunk rests rs chunk within (entries c) (rising c)
      (changed_last c d last.number (segment_spelling last ++ 0 ∷ []) rests.front same rests.files (segment_spelling (with_chunk last rs) ++ 0 ∷ []) (is ∙ ap Some bytes))

module _ {alone fresh : Type 0} (first : ℕ) (records : List Record) (n f : ℕ) (d c : Image) (shows : ShowsLog alone fresh (entries d) first records)
    (takes : fresh → TakesNext n (first + length records) (entries d) shows.segments) (same : SameElsewhere n d c) (none : (q : ℕ) → n ≤ q → get d q ≡ None) where
  -- the next segment, whole
  pub one_next : f ≡ first + length records → 1 ≤ n → n < 2 ^ 62 → 1 ≤ f → f < 2 ^ 62 → get c n ≡ Some (empty_segment n f) → EndsWithSegment alone fresh (entries c) first records (new_segment n f)
  one_next is low high least most file = shows_next shows n f takes is low high least most (entries c) (rising c) (added_last c d n same none (empty_segment n f) file)

  -- or in the making
  pub one_making : f ≡ first + length records → 1 ≤ n → n < 2 ^ 62 → 1 ≤ f → f < 2 ^ 62 → IsInTheMaking n f (get c n) → ShowsLog alone fresh (entries c) first records
  one_making is low high least most making = at (get c n) refl making
    where
      at : (file : Option (List ℕ)) → get c n ≡ file → IsInTheMaking n f file → ShowsLog alone fresh (entries c) first records
      at None file making = subst (λ (l : _). ShowsLog alone fresh l first records) (sym (nothing_added c d n same (none n (omega arith)) file)) shows
      at (Some b) file making = ⊎_elim
          (λ half. shows_half shows n takes b half (entries c) (rising c) (added_last c d n same none b file))
          (λ whole. rests_shows (one_next is low high least most (file ∙ ap Some whole)))
          making
