-- What an image that spells a log is known to have: its files rise, its records may stand, and enough of them are looked at.
use Rattle.std.proofs.Common.{◌≡◌, ℕ, ◌+◌, List, [], ◌∷◌, ◌++◌, length, refl, ap, subst, IsTrue}
use Rattle.std.specs.Prelude.{nat_eq}
use Rattle.std.specs.List.{flat_map, AllZip}
use Rattle.std.specs.Ordering.{nat_cmp}
use Rattle.std.specs.FinMap.{entries, entries_sorted}
use Rattle.std.specs.FinMap.Entries.{is_sorted}
use Rattle.std.proofs.lemmas.Bool.{eqb-true, and_parts}
use Rattle.std.proofs.lemmas.Grind.{flat_map-append}
use Rattle.frs_types.specs.declared.record.Record.{Record}
use Rattle.frs_types.specs.Records.{named_lowest, are_allowed_from}
use Rattle.frs_types.proofs.Truth.{is_true}
use Rattle.frs_types.proofs.Allowed.{allowed_joined}
use Rattle.frs_disk.specs.Disk.{Image}
use Rattle.frs_segment.specs.Segments.{File, FileList, WholeSegment, IsSegment, records_of, end_of, is_chunk, are_chunks, all_records, follow_from, first_alone_reaches, are_enough}
use Rattle.frs_segment.proofs.IsChunk.{chunk_passes}

-- the files of a disk stand by rising number
pub rising : (d : Image) → IsTrue (is_sorted nat_cmp (entries d))
rising d = is_true (is_sorted nat_cmp (entries d)) (entries_sorted d)

pub all_records-append : (a b : List WholeSegment) → all_records (a ++ b) ≡ all_records a ++ all_records b
all_records-append a b = flat_map-append records_of a b

-- where there is a record, enough files are looked at only if they go back to where the newest one points
pub enough_reaches : (older : FileList) (segments : List WholeSegment) (rs : List Record) → (rs ≡ [] → ⊥) → IsTrue (are_enough older segments rs) → IsTrue (first_alone_reaches (named_lowest rs) segments)
enough_reaches [] segments [] some is = absurd (some refl)
enough_reaches (file ∷ older) segments [] some is = absurd (some refl)
enough_reaches [] segments (r ∷ rs) some is = is
enough_reaches (file ∷ older) segments (r ∷ rs) some is = is

-- ---- each record may stand where it does

pub chunks_allowed : (n : ℕ) (chunks : List (List Record)) → IsTrue (are_chunks n chunks) → IsTrue (are_allowed_from n (flat_map (λ rs. rs) chunks))
chunks_allowed n [] all = refl
chunks_allowed n (rs ∷ chunks) all =
    let parts = and_parts (is_chunk n rs) (are_chunks (n + length rs) chunks) all in
    allowed_joined n rs (flat_map (λ (x : List Record). x) chunks) (chunk_passes n rs parts.0).all (chunks_allowed (n + length rs) chunks parts.1)

pub segment_allowed : (file : File) (s : WholeSegment) → IsSegment file s → IsTrue (are_allowed_from s.first (records_of s))
segment_allowed file s is = chunks_allowed s.first s.chunks is.chunks

pub all_allowed : (n : ℕ) (files : List File) (segments : List WholeSegment) → AllZip IsSegment files segments → IsTrue (follow_from n segments) → IsTrue (are_allowed_from n (all_records segments))
all_allowed n [] [] each follow = refl
all_allowed n [] (s ∷ segments) each follow = absurd each
all_allowed n (f ∷ files) [] each follow = absurd each
all_allowed n (f ∷ files) (s ∷ segments) each follow =
    let parts = and_parts (nat_eq s.first n) (follow_from (end_of s) segments) follow in
    let is : s.first ≡ n = eqb-true s.first n parts.0 in
    let here : IsTrue (are_allowed_from n (records_of s)) = subst (λ (k : ℕ). IsTrue (are_allowed_from k (records_of s))) is (segment_allowed f s each.0) in
    let more : IsTrue (are_allowed_from (n + length (records_of s)) (all_records segments)) = subst (λ (k : ℕ). IsTrue (are_allowed_from k (all_records segments))) (ap (λ (k : ℕ). k + length (records_of s)) is) (all_allowed (end_of s) files segments each.1 parts.1) in
    allowed_joined n (records_of s) (all_records segments) here more
