-- One record more of a log that is read from its newest record to its oldest.
use Rattle.std.proofs.Common.{◌≡◌, ℕ, zero, suc, ◌+◌, ◌-◌, ◌<◌, ◌≤◌, List, [], ◌∷◌, ◌++◌, Option, Some, length, refl, sym, ap, subst, ◌∙◌, arith, append_assoc, length-append, IsTrue, drop}
use Rattle.std.specs.Prelude.{unwrap_or, option_map, Result, Ok, Err, OnOk}
use Rattle.frs_types.specs.declared.memory.NoMemory.{NoMemory}
use Rattle.std.specs.List.{last_or}
use Rattle.frs_types.specs.declared.record.Record.{Record}
use Rattle.frs_types.specs.Records.{Numbered, is_allowed, are_allowed_from, numbered_records_from, named_lowest}
use Rattle.std.specs.Prelude.{min}
use Rattle.std.proofs.lemmas.List.Sums.{fold-append}
use Rattle.frs_types.specs.declared.record.Entry.{Entry}
use Rattle.frs_types.specs.Survivors.{committed_records, survivors_of, open_begins, least}
use Rattle.frs_recovery.specs.Answers.{lsns_of}
use Rattle.frs_filters.specs.declared.chain.Chain.{Chain}
use Rattle.frs_filters.specs.Begins.{Begins, HasNoted}
use Rattle.frs_filters.specs.Chain.{HasSeen}
use Rattle.frs_recovery.specs.declared.backward_reader.BackwardReader.{BackwardReader}
use Rattle.frs_recovery.specs.OfferedRecords.{offered_records, lowest_named, HasRead}
use Rattle.frs_types.proofs.Allowed.{allowed_at, lowest_at_most}

-- the lowest that the newest record names, once a record was read
pub still_named : (r : Record) (rs : List Record) → lowest_named (r ∷ rs) ≡ Some (unwrap_or (lowest_named rs) r.lowest)
still_named r [] = refl
still_named r (q ∷ rs) = last_some q rs
  where
    last_some : (q : Record) (rs : List Record) → option_map (λ (p : Record). p.lowest) (last_or (Some q) rs) ≡ Some (unwrap_or (option_map (λ (p : Record). p.lowest) (last_or (Some q) rs)) r.lowest)
    last_some q [] = refl
    last_some q (p ∷ rs) = last_some p rs

pub lowest_is : (r : Record) (rs : List Record) → named_lowest (r ∷ rs) ≡ unwrap_or (lowest_named rs) r.lowest
lowest_is r rs = ap (λ (o : Option ℕ). unwrap_or o 1) (still_named r rs)

abbrev at_lsn : ℕ → Record → Numbered
at_lsn n r = record { lsn = n; what = r }

-- a record below the lowest isn't offered
below_lowest : (n l : ℕ) (r : Record) (rs : List Record) → n < l → drop (l - n) (numbered_records_from n (r ∷ rs)) ≡ drop (l - (n + 1)) (numbered_records_from (n + 1) rs)
below_lowest n l r rs lt = let e : l - n ≡ suc (l - (n + 1)) = omega arith in ap (λ (k : ℕ). drop k (numbered_records_from n (r ∷ rs))) e

drop_none : (k : ℕ) → drop {A = Numbered} k [] ≡ []
drop_none zero = refl
drop_none (suc k) = refl

-- at the lowest and above it all are
from_lowest_on : (n l : ℕ) (rs : List Record) → l ≤ n → drop (l - n) (numbered_records_from n rs) ≡ numbered_records_from n rs
from_lowest_on n l rs le = let e : l - n ≡ 0 = omega arith in ap (λ (k : ℕ). drop k (numbered_records_from n rs)) e

-- the lowest of records in front of which one stands
lowest_stays : (r q : Record) (rs : List Record) → named_lowest (r ∷ q ∷ rs) ≡ named_lowest (q ∷ rs)
lowest_stays r q rs = refl

offered_skips : (n l : ℕ) (r : Record) (rs : List Record) → l ≡ unwrap_or (lowest_named rs) r.lowest → n < l → IsTrue (is_allowed n r) → offered_records n (r ∷ rs) ≡ offered_records (n + 1) rs
offered_skips n l r [] is lt h = let le = lowest_at_most n r h in absurd (omega (arith, is))
offered_skips n l r (q ∷ rs) is lt h =
    let same : named_lowest (q ∷ rs) ≡ l = sym (lowest_stays r q rs) ∙ lowest_is r (q ∷ rs) ∙ sym is in
    below_lowest n (named_lowest (q ∷ rs)) r (q ∷ rs) (omega (arith, same))

offered_adds : (n l : ℕ) (r : Record) (rs : List Record) → l ≡ unwrap_or (lowest_named rs) r.lowest → l ≤ n → offered_records n (r ∷ rs) ≡ at_lsn n r ∷ offered_records (n + 1) rs
offered_adds n l r [] is le = from_lowest_on n r.lowest (r ∷ []) (omega (arith, is)) ∙ ap (λ (x : List Numbered). at_lsn n r ∷ x) (sym (drop_none (1 - (n + 1))))
offered_adds n l r (q ∷ rs) is le =
    let same : named_lowest (q ∷ rs) ≡ l = sym (lowest_stays r q rs) ∙ lowest_is r (q ∷ rs) ∙ sym is in
    from_lowest_on n (named_lowest (q ∷ rs)) (r ∷ q ∷ rs) (omega (arith, same)) ∙ ap (λ (x : List Numbered). at_lsn n r ∷ x) (sym (from_lowest_on (n + 1) (named_lowest (q ∷ rs)) (q ∷ rs) (omega (arith, same))))

-- ---- one record

lowest_of_named : (back : BackwardReader) (n l : ℕ) (r : Record) (rs : List Record) → l ≡ unwrap_or back.named r.lowest → HasRead back n rs → l ≡ unwrap_or (lowest_named rs) r.lowest
lowest_of_named back n l r rs is read = is ∙ ap (λ (o : Option ℕ). unwrap_or o r.lowest) read.named

pub read_below : (back : BackwardReader) (n l : ℕ) (r : Record) → l ≡ unwrap_or back.named r.lowest → n < l → IsTrue (is_allowed n r) → (rs : List Record) → HasRead back (n + 1) rs → HasRead (record back { named = Some l }) n (r ∷ rs)
read_below back n l r is lt h rs read =
    let lowest = lowest_of_named back (n + 1) l r rs is read in
    let same = sym (offered_skips n l r rs lowest lt h) in
    record {
      named = ap (λ (k : ℕ). Some k) lowest ∙ sym (still_named r rs);
      seen = subst (λ (x : List Numbered). HasSeen back.chain x) same read.seen;
      noted = subst (λ (x : List Numbered). HasNoted back.begins x) same read.noted;
    }

pub read_on : (back : BackwardReader) (chain : Chain) (begins : Begins) (n l : ℕ) (r : Record) → l ≡ unwrap_or back.named r.lowest → l ≤ n → ((later : List Numbered) → HasSeen back.chain later → HasSeen chain (at_lsn n r ∷ later)) → ((later : List Numbered) → HasNoted back.begins later → HasNoted begins (at_lsn n r ∷ later))
    → (rs : List Record) → HasRead back (n + 1) rs → HasRead (record { chain = chain; begins = begins; named = Some l }) n (r ∷ rs)
read_on back chain begins n l r is le seen noted rs read =
    let lowest = lowest_of_named back (n + 1) l r rs is read in
    let same = sym (offered_adds n l r rs lowest le) in
    record {
      named = ap (λ (k : ℕ). Some k) lowest ∙ sym (still_named r rs);
      seen = subst (λ (x : List Numbered). HasSeen chain x) same (seen (offered_records (n + 1) rs) read.seen);
      noted = subst (λ (x : List Numbered). HasNoted begins x) same (noted (offered_records (n + 1) rs) read.noted);
    }

-- no record was read, whatever the LSN
pub nothing_read : (back : BackwardReader) (n m : ℕ) → HasRead back n [] → HasRead back m []
nothing_read back n m read = record { named = read.named; seen = subst (λ (x : List Numbered). HasSeen back.chain x) (drop_none (1 - n) ∙ sym (drop_none (1 - m))) read.seen; noted = subst (λ (x : List Numbered). HasNoted back.begins x) (drop_none (1 - n) ∙ sym (drop_none (1 - m))) read.noted }

-- ---- the records of a chunk

-- All but the older records were read, on top of those that were read before.
pub record IsPart (old now : BackwardReader) (first : ℕ) (all older : List Record) : Type 0 where
  pub newer : List Record
  pub parts : all ≡ older ++ newer
  pub read : (rs : List Record) → HasRead old (first + length all) rs → HasRead now (first + length older) (newer ++ rs)

pub next_allowed : (old now : BackwardReader) (first k : ℕ) (all before older : List Record) (r : Record) → k ≡ length older → IsPart old now first all before → before ≡ older ++ r ∷ [] → IsTrue (are_allowed_from first all) → IsTrue (is_allowed (first + k) r)
next_allowed old now first k all before older r many part e h =
    subst (λ (n : ℕ). IsTrue (is_allowed (first + n) r)) (sym many) (allowed_at first older r part.newer (subst (λ (rs : List Record). IsTrue (are_allowed_from first rs)) (part.parts ∙ ap (λ (rs : List Record). rs ++ part.newer) e ∙ append_assoc older (r ∷ []) part.newer) h))

pub part_on : (old now next : BackwardReader) (first k : ℕ) (all before older : List Record) (r : Record) → k ≡ length older → IsPart old now first all before → before ≡ older ++ r ∷ []
    → ((rs : List Record) → HasRead now (first + k + 1) rs → HasRead next (first + k) (r ∷ rs)) → IsPart old next first all older
part_on old now next first k all before older r many part e step =
    let long : length before ≡ length older + 1 = ap length e ∙ length-append older (r ∷ []) in
    let after : first + length before ≡ first + k + 1 = omega (arith, many, long) in
    record {
      newer = r ∷ part.newer;
      parts = part.parts ∙ ap (λ (rs : List Record). rs ++ part.newer) e ∙ append_assoc older (r ∷ []) part.newer;
      read = λ rs read. subst (λ (n : ℕ). HasRead next (first + n) (r ∷ part.newer ++ rs)) many (step (part.newer ++ rs) (subst (λ (n : ℕ). HasRead now n (part.newer ++ rs)) after (part.read rs read)));
    }

pub read_on_ok : (result : Result (Unit {0}) NoMemory) (back : BackwardReader) (chain : Chain) (begins : Begins) (n l : ℕ) (r : Record) → l ≡ unwrap_or back.named r.lowest → l ≤ n → ((later : List Numbered) → HasSeen back.chain later → OnOk result (HasSeen chain (at_lsn n r ∷ later))) → ((later : List Numbered) → HasNoted back.begins later → HasNoted begins (at_lsn n r ∷ later))
    → (rs : List Record) → HasRead back (n + 1) rs → OnOk result (HasRead (record { chain = chain; begins = begins; named = Some l }) n (r ∷ rs))
read_on_ok (Ok x) back chain begins n l r is le seen noted rs read = read_on back chain begins n l r is le seen noted rs read
read_on_ok (Err e) back chain begins n l r is le seen noted rs read = tt

-- ---- what is left

pub least_of_both : (next n : ℕ) (back : BackwardReader) (entries : List Entry) (first : ℕ) (rs : List Record) → HasRead back first rs → entries ≡ survivors_of (committed_records (offered_records first rs)) → n ≡ least (least next (lsns_of entries)) (open_begins (offered_records first rs))
    → n ≡ least next (lsns_of (survivors_of (committed_records (offered_records first rs))) ++ open_begins (offered_records first rs))
least_of_both next n back entries first rs read is e =
    let later = offered_records first rs in
    e ∙ sym (fold-append min next (lsns_of entries) (open_begins later)) ∙ ap (λ (es : List Entry). least next (lsns_of es ++ open_begins later)) is
