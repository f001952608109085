-- The log of a writer that has taken more records, and parts of a log.
use Rattle.std.proofs.Common.{◌≡◌, ℕ, ◌≤◌, List, [], ◌∷◌, ◌++◌, length, take, map, refl, ◌∙◌, ap}
use Rattle.std.proofs.lemmas.List.{take-append-le}
use Rattle.frs_types.specs.declared.record.Record.{Record}
use Rattle.frs_types.specs.Records.{Log, IsPlaced}
use Rattle.frs_frame.specs.Spelling.{spelling}
use Rattle.frs_segment.specs.Segments.{body}
use Rattle.frs_writer.specs.Groups.{joined_records}
use Rattle.frs_writer.proofs.LongerLog.{with_more}
use Rattle.frs_writer.proofs.IsPlaced.{placed_front}

-- the parts of a list whose image falls into parts
pub record Parted (xs ys : List (List ℕ)) (rs : List Record) : Type 0 where
  pub front : List Record
  pub back : List Record
  pub is : rs ≡ front ++ back
  pub front_is : xs ≡ map spelling front
  pub back_is : ys ≡ map spelling back

pub part : (xs ys : List (List ℕ)) (rs : List Record) → xs ++ ys ≡ map spelling rs → Parted xs ys rs
part [] ys rs is = record { front = []; back = rs; is = refl; front_is = refl; back_is = is }
part (x ∷ xs) ys [] is = absurd cc
part (x ∷ xs) ys (r ∷ rs) is =
    let head : x ≡ spelling r = cc in
    let tail : xs ++ ys ≡ map spelling rs = cc in
    let p = part xs ys rs tail in
    record { front = r ∷ p.front; back = p.back; is = ap (λ (l : List Record). r ∷ l) p.is; front_is = ap (λ (l : List (List ℕ)). x ∷ l) p.front_is ∙ ap (λ (b : List ℕ). b ∷ map spelling p.front) head; back_is = p.back_is }

pub joined_body : (rs : List Record) → joined_records (map spelling rs) ≡ body rs
joined_body [] = refl
joined_body (r ∷ rs) = ap (λ (b : List ℕ). spelling r ++ b) (joined_body rs)

-- ---- a log with more records

pub placed_less : (log : Log) (more : List Record) → IsPlaced (with_more log more) → IsPlaced log
placed_less log more placed = placed_front 0 log.first log.records more placed

pub take_more : (k : ℕ) (rs more : List Record) → k ≤ length rs → take k (rs ++ more) ≡ take k rs
take_more k rs more le = take-append-le k rs more le
