-- Records that stand one after another: which bytes they are, and that the bytes tell them.
use Rattle.std.proofs.Common.{◌≡◌, ℕ, ◌+◌, ◌^◌, ◌<◌, ◌≤◌, true, false, ◌&&◌, List, [], ◌∷◌, ◌++◌, length, drop, Some, None, Ok, refl, sym, ap, subst, ◌∙◌, append_assoc, arith, IsTrue}
use Rattle.std.specs.List.{AllByRecursion}
use Rattle.std.proofs.lemmas.List.{length-append, append-nil}
use Rattle.std.proofs.lemmas.Bool.{ltb-true, lt-ltb, leb-true, eqb-true, and_parts, and_from}
use Rattle.std.proofs.Math.Dec.{ltb, leb, eqb}
use Rattle.std.proofs.lemmas.Grind.{flat_map-append}
use Rattle.frs_types.specs.declared.record.Action.{Action}
use Rattle.frs_types.specs.declared.record.Action.TheVariants.{Put, Remove, Delete, Begin, Commit, Compaction, Mark, Abandon}
use Rattle.frs_types.specs.declared.record.Record.{Record}
use Rattle.frs_types.proofs.Allowed.{allowed_at, allowed_joined}
use Rattle.frs_types.specs.Records.{kind_allows, kind_permits, has_words, is_allowed, are_allowed_from, well_formed, Fits}
use Rattle.frs_frame.specs.declared.fault.FrameFault.{FrameFault}
use Rattle.frs_frame.specs.declared.fault.FrameFault.TheVariants as faults
use Rattle.frs_frame.specs.Spelling.{spelling}
use Rattle.frs_frame.specs.Decoding.{FailsDecoding}
use Rattle.frs_frame.proofs.DecodingOf.{one_record, spelling_least}
use Rattle.frs_segment.specs.declared.layout.ChunkPlace.{ChunkPlace}
use Rattle.frs_segment.specs.Segments.{body}
use Rattle.frs_segment.specs.Scanning.{FillBody, TellsRecord}

-- ---- one record

kind_permitted : (n : ℕ) (action : Action) (tx named : ℕ) → 1 ≤ n → kind_allows n action tx named ≡ true → kind_permits action tx named ≡ true
kind_permitted n (Put id key value) tx named le is = refl
kind_permitted n (Remove id key) tx named le is = refl
kind_permitted n (Delete id) tx named le is = (and_parts (ltb tx n) (eqb named 0) is).1
kind_permitted n Begin tx named le is =
    let parts = and_parts (eqb tx n) (eqb named 0) is in
    and_from (ltb 0 tx) (eqb named 0) (lt-ltb 0 tx (omega (arith, eqb-true tx n parts.0))) parts.1
kind_permitted n Commit tx named le is =
    let parts = and_parts (ltb 0 tx && ltb tx n) (eqb named 0) is in
    and_from (ltb 0 tx) (eqb named 0) (and_parts (ltb 0 tx) (ltb tx n) parts.0).0 parts.1
kind_permitted n (Compaction id key value) tx named le is = is
kind_permitted n Mark tx named le is = is
kind_permitted n Abandon tx named le is =
    let parts = and_parts (ltb 0 tx && ltb tx n) (eqb named 0) is in
    and_from (ltb 0 tx) (eqb named 0) (and_parts (ltb 0 tx) (ltb tx n) parts.0).0 parts.1

tx_below : (n : ℕ) (action : Action) (tx named : ℕ) → kind_allows n action tx named ≡ true → tx ≤ n
tx_below n (Put id key value) tx named is = omega (arith, ltb-true tx n is)
tx_below n (Remove id key) tx named is = omega (arith, ltb-true tx n is)
tx_below n (Delete id) tx named is = omega (arith, ltb-true tx n (and_parts (ltb tx n) (eqb named 0) is).0)
tx_below n Begin tx named is = omega (arith, eqb-true tx n (and_parts (eqb tx n) (eqb named 0) is).0)
tx_below n Commit tx named is = omega (arith, ltb-true tx n (and_parts (ltb 0 tx) (ltb tx n) (and_parts (ltb 0 tx && ltb tx n) (eqb named 0) is).0).1)
tx_below n (Compaction id key value) tx named is = omega (arith, eqb-true tx 0 (and_parts (eqb tx 0) (ltb 0 named) is).0)
tx_below n Mark tx named is = omega (arith, eqb-true tx 0 (and_parts (eqb tx 0) (eqb named 0) is).0)
tx_below n Abandon tx named is = omega (arith, ltb-true tx n (and_parts (ltb 0 tx) (ltb tx n) (and_parts (ltb 0 tx && ltb tx n) (eqb named 0) is).0).1)

-- what a record that may stand at an LSN has
record Standing (n : ℕ) (r : Record) : Type 0 where
  kind : kind_allows n r.action r.tx r.named ≡ true
  named : r.named < n
  named_lowest : 0 < r.lowest
  lowest : r.lowest ≤ n
  words : has_words r.action ≡ true

standing : (n : ℕ) (r : Record) → IsTrue (is_allowed n r) → Standing n r
standing n r is =
    let kind = kind_allows n r.action r.tx r.named in
    let w = and_parts (kind && ltb r.named n && ltb 0 r.lowest && leb r.lowest n) (has_words r.action) is in
    let l = and_parts (kind && ltb r.named n && ltb 0 r.lowest) (leb r.lowest n) w.0 in
    let k = and_parts (kind && ltb r.named n) (ltb 0 r.lowest) l.0 in
    let m = and_parts kind (ltb r.named n) k.0 in
    record { kind = m.0; named = ltb-true r.named n m.1; named_lowest = ltb-true 0 r.lowest k.1; lowest = leb-true r.lowest n l.1; words = w.1 }

-- a record that may stand at an LSN may stand somewhere
pub permitted : (n : ℕ) (r : Record) → IsTrue (is_allowed n r) → IsTrue (well_formed r)
permitted n r is =
    let s = standing n r is in
    let kind = kind_permits r.action r.tx r.named in
    and_from (kind && ltb 0 r.lowest) (has_words r.action)
    (and_from kind (ltb 0 r.lowest) (kind_permitted n r.action r.tx r.named (omega (arith, s.named_lowest, s.lowest)) s.kind) (lt-ltb 0 r.lowest s.named_lowest)) s.words

-- and its numbers fit, where the LSN fits
pub allowed_fits : (n : ℕ) (r : Record) → n < 2 ^ 64 → IsTrue (is_allowed n r) → Fits r
allowed_fits n r lt is =
    let s = standing n r is in
    record {
      tx = omega (arith, tx_below n r.action r.tx r.named s.kind);
      lowest = omega (arith, s.lowest);
      named = omega (arith, s.named);
      words = s.words;
    }

-- a record that was read, and that may not stand there, is the only one at the front
pub no_other : (text : List ℕ) (lsn : ℕ) (r : Record) (rest : List ℕ) → lsn < 2 ^ 64 → Fits r → text ≡ spelling r ++ rest → is_allowed lsn r ≡ false → TellsRecord text lsn None
no_other text lsn r rest lt fits spelled not_there q behind is e =
    let one = one_record r q rest behind fits (allowed_fits lsn q lt is) (sym spelled ∙ e) in
    let there : is_allowed lsn r ≡ true = ap (is_allowed lsn) one.0 ∙ is in
    absurd cc

-- what isn't read is no record, unless memory runs out
abbrev pub Only : List ℕ → FrameFault → Type 0
Only text fault = (r : Record) (rest : List ℕ) → Fits r → IsTrue (well_formed r) → text ≡ spelling r ++ rest → FailsDecoding fault (Ok (r, length (spelling r)))

pub none_read : (text : List ℕ) (lsn : ℕ) (fault : FrameFault) → lsn < 2 ^ 64 → (fault ≡ faults.Memory → ⊥) → Only text fault → TellsRecord text lsn None
none_read text lsn faults.Memory lt other only q behind is e = other refl
none_read text lsn (faults.Kind byte) lt other only q behind is e = let h = only q behind (allowed_fits lsn q lt is) (permitted lsn q is) e in absurd (cc h)
none_read text lsn (faults.Short need have) lt other only q behind is e = let h = only q behind (allowed_fits lsn q lt is) (permitted lsn q is) e in absurd (cc h)
none_read text lsn (faults.Field offset) lt other only q behind is e = let h = only q behind (allowed_fits lsn q lt is) (permitted lsn q is) e in absurd (cc h)

-- ---- records one after another

pub body-append : (rs qs : List Record) → body (rs ++ qs) ≡ body rs ++ body qs
body-append rs qs = flat_map-append spelling rs qs

-- one record more
pub body_more : (rs : List Record) (r : Record) → body (rs ++ r ∷ []) ≡ body rs ++ spelling r
body_more rs r = body-append rs (r ∷ []) ∙ ap (λ (x : List ℕ). body rs ++ x) (append-nil (spelling r))

pub all_fit : (n : ℕ) (rs : List Record) → n + length rs ≤ 2 ^ 62 → IsTrue (are_allowed_from n rs) → AllByRecursion Fits rs
all_fit n [] le all = tt
all_fit n (r ∷ rs) le all =
    let parts = and_parts (is_allowed n r) (are_allowed_from (n + 1) rs) all in
    (allowed_fits n r (omega arith) parts.0, all_fit (n + 1) rs (omega arith) parts.1)

-- no record is spelled by no bytes
pub body_least : (rs : List Record) → length rs ≤ length (body rs)
body_least [] = omega arith
body_least (r ∷ rs) = omega (arith, spelling_least r, body_least rs, length-append (spelling r) (body rs))

-- Records that begin as others do, and aren't fewer, are those and more.
pub same_front : (rs qs : List Record) (rest : List ℕ) → AllByRecursion Fits rs → AllByRecursion Fits qs → length rs ≤ length qs → body rs ++ rest ≡ body qs
    → (more : List Record) × (qs ≡ rs ++ more) × (rest ≡ body more)
same_front [] qs rest f g le e = (qs, refl, e)
same_front (r ∷ rs) [] rest f g le e = absurd (omega arith)
same_front (r ∷ rs) (q ∷ qs) rest f g le e =
    let one = one_record r q (body rs ++ rest) (body qs) f.0 g.0 (sym (append_assoc (spelling r) (body rs) rest) ∙ e) in
    let (more, is, behind) = same_front rs qs rest f.1 g.1 (omega arith) one.1 in
    (more, ap (λ (x : List Record). x ++ qs) (ap (λ (x : Record). x ∷ []) (sym one.0)) ∙ ap (λ (x : List Record). r ∷ x) is, behind)

-- bytes are the bodies of one list of records
pub one_body : (rs qs : List Record) → AllByRecursion Fits rs → AllByRecursion Fits qs → body rs ≡ body qs → rs ≡ qs
one_body [] [] f g e = refl
one_body [] (q ∷ qs) f g e = absurd (omega (arith, ap length e, body_least (q ∷ qs)))
one_body (r ∷ rs) [] f g e = absurd (omega (arith, ap length e, body_least (r ∷ rs)))
one_body (r ∷ rs) (q ∷ qs) f g e =
    let one = one_record r q (body rs) (body qs) f.0 g.0 e in
    ap (λ (x : Record). x ∷ rs) one.0 ∙ ap (λ (x : List Record). q ∷ x) (one_body rs qs f.1 g.1 one.1)

-- ---- what a loop over the records knows

-- so many records stand at the front of the body, and these bytes behind them
pub record Stand (place : ChunkPlace) (text : List ℕ) (rs : List Record) (count : ℕ) (rest : List ℕ) : Type 0 where
  pub spelled : text ≡ body rs ++ rest
  pub count_is : length rs ≡ count
  pub all : IsTrue (are_allowed_from place.first rs)

pub stand_more : (place : ChunkPlace) (text : List ℕ) (rs : List Record) (count : ℕ) (rest : List ℕ) (r : Record) (len : ℕ) → Stand place text rs count rest → TellsRecord rest (place.first + count) (Some (r, len))
    → Stand place text (rs ++ r ∷ []) (count + 1) (drop len rest)
stand_more place text rs count rest r len s tells = record {
  spelled = s.spelled ∙ ap (λ (x : List ℕ). body rs ++ x) tells.1 ∙ sym (append_assoc (body rs) (spelling r) (drop len rest)) ∙ ap (λ (x : List ℕ). x ++ drop len rest) (sym (body_more rs r));
  count_is = omega (arith, length-append rs (r ∷ []), s.count_is);
  all = allowed_joined place.first rs (r ∷ []) s.all (and_from (is_allowed (place.first + length rs) r) true (ap (λ (n : ℕ). is_allowed (place.first + n) r) s.count_is ∙ tells.0) refl);
}

fill_front : (place : ChunkPlace) (text : List ℕ) (rs : List Record) (count : ℕ) (rest : List ℕ) (qs : List Record) → place.first + place.count ≤ 2 ^ 62 → count ≤ place.count → Stand place text rs count rest → FillBody place text qs
    → (more : List Record) × (qs ≡ rs ++ more) × (rest ≡ body more)
fill_front place text rs count rest qs limit le s fill =
    same_front rs qs rest
    (all_fit place.first rs (omega (arith, s.count_is)) s.all)
    (all_fit place.first qs (omega (arith, fill.count_is)) fill.allowed)
    (omega (arith, s.count_is, fill.count_is))
    (sym s.spelled ∙ fill.spelled)

-- no records fill the body where the next isn't there
pub stops : (place : ChunkPlace) (text : List ℕ) (rs : List Record) (count : ℕ) (rest : List ℕ) → place.first + place.count ≤ 2 ^ 62 → count < place.count → Stand place text rs count rest → TellsRecord rest (place.first + count) None
    → (qs : List Record) → FillBody place text qs → ⊥
stops place text rs count rest limit lt s none qs fill =
    let (more, is, behind) = fill_front place text rs count rest qs limit (omega arith) s fill in
    next more is behind
  where
    next : (more : List Record) → qs ≡ rs ++ more → rest ≡ body more → ⊥
    next [] is behind = omega (arith, ap length is, length-append rs [], s.count_is, fill.count_is)
    next (r ∷ more) is behind = none r (body more) (ap (λ (k : ℕ). is_allowed (place.first + k) r) (sym s.count_is) ∙ allowed_at place.first rs r more (subst (λ (x : List Record). IsTrue (are_allowed_from place.first x)) is fill.allowed)) behind

-- nor where bytes are left
pub bytes_left : (place : ChunkPlace) (text : List ℕ) (rs : List Record) (count : ℕ) (rest : List ℕ) → place.first + place.count ≤ 2 ^ 62 → count ≡ place.count → (length rest ≡ 0 → ⊥) → Stand place text rs count rest
    → (qs : List Record) → FillBody place text qs → ⊥
bytes_left place text rs count rest limit e left s qs fill =
    let (more, is, behind) = fill_front place text rs count rest qs limit (omega arith) s fill in
    next more is behind
  where
    next : (more : List Record) → qs ≡ rs ++ more → rest ≡ body more → ⊥
    next [] is behind = left (ap length behind)
    next (r ∷ more) is behind = omega (arith, ap length is, length-append rs (r ∷ more), s.count_is, fill.count_is)

pub filled : (place : ChunkPlace) (text : List ℕ) (rs : List Record) (rest : List ℕ) → length rest ≡ 0 → Stand place text rs place.count rest → FillBody place text rs
filled place text rs [] none s = record { spelled = s.spelled ∙ append-nil (body rs); count_is = s.count_is; allowed = s.all }
filled place text rs (b ∷ rest) none s = absurd (omega arith)
