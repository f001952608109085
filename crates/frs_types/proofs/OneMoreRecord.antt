-- What one more record at the end of a log changes in its committed records and in its survivors.
use Rattle.std.proofs.Common.{◌≡◌, ℕ, ◌+◌, Bool, true, false, cond, not, ◌&&◌, ◌||◌, ◌==◌, List, [], ◌∷◌, ◌++◌, Option, Some, None, refl, sym, ap, ◌∙◌, append_assoc, filter, option_to_list, length, arith}
use Rattle.std.specs.List.{list_any}
use Rattle.std.proofs.lemmas.List.Folds.{list_any-append}
use Rattle.std.proofs.lemmas.Option.{same_Some}
use Rattle.frs_types.specs.declared.record.Action.{Action}
use Rattle.frs_types.specs.declared.record.Action.TheVariants.{Put, Remove, Delete, Begin, Commit, Compaction, Mark, Abandon}
use Rattle.frs_types.specs.declared.record.Record.{Record}
use Rattle.frs_types.specs.declared.record.Entry.{Entry}
use Rattle.frs_types.specs.Records.{Numbered, numbered_records_from}
use Rattle.frs_types.specs.Survivors.{is_commit, is_compaction, is_begin, is_delete_of, is_ended_by, entry_by, is_committed_by, committed_records, open_begins}

-- ---- committed records

-- the transaction is among these
abbrev pub is_among : ℕ → List ℕ → Bool
is_among tx ts = list_any (λ t. t == tx) ts

-- the record is committed, or its transaction is one of these
abbrev pub counts : List ℕ → Numbered → List Numbered → Bool
counts ts q later = is_among q.what.tx ts || is_committed_by q later

-- the records that would be committed if these transactions were, oldest first
abbrev pub records_with : List ℕ → List Numbered → List Numbered
records_with ts [] = []
records_with ts (q ∷ later) = cond (counts ts q later) (q ∷ records_with ts later) (records_with ts later)

pub records_with_none : (ns : List Numbered) → records_with [] ns ≡ committed_records ns
records_with_none [] = refl
records_with_none (q ∷ later) = ap (λ qs. cond (is_committed_by q later) (q ∷ qs) qs) (records_with_none later)

-- these transactions, and that which the record commits
abbrev pub with_commit_of : Numbered → List ℕ → List ℕ
with_commit_of r ts = cond (is_commit r.what.action) (r.what.tx ∷ ts) ts

abbrev pub one_if : Bool → Numbered → List Numbered
one_if b r = cond b (r ∷ []) []

commit_joins : (a c z l k e : Bool) → (a || (c || z || (l || ((k && e) || false)))) ≡ cond k ((e || a) || (c || z || l)) (a || (c || z || l))
commit_joins true c z l true true = refl
commit_joins true c z l true false = refl
commit_joins true c z l false e = refl
commit_joins false true z l true true = refl
commit_joins false true z l true false = refl
commit_joins false true z l false e = refl
commit_joins false false true l true true = refl
commit_joins false false true l true false = refl
commit_joins false false true l false e = refl
commit_joins false false false true true true = refl
commit_joins false false false true true false = refl
commit_joins false false false true false e = refl
commit_joins false false false false true true = refl
commit_joins false false false false true false = refl
commit_joins false false false false false e = refl

among_if : (k : Bool) (tx n : ℕ) (ts : List ℕ) (b : Bool) → cond k (((n == tx) || is_among tx ts) || b) (is_among tx ts || b) ≡ (is_among tx (cond k (n ∷ ts) ts) || b)
among_if true tx n ts b = refl
among_if false tx n ts b = refl

counts-push : (ts : List ℕ) (q r : Numbered) (later : List Numbered) → counts ts q (later ++ r ∷ []) ≡ counts (with_commit_of r ts) q later
counts-push ts q r later =
    ap (λ b. is_among q.what.tx ts || (is_compaction q.what.action || (q.what.tx == 0) || b)) (list_any-append (λ (l : Numbered). is_commit l.what.action && (l.what.tx == q.what.tx)) later (r ∷ []))
    ∙ commit_joins (is_among q.what.tx ts) (is_compaction q.what.action) (q.what.tx == 0) (list_any (λ (l : Numbered). is_commit l.what.action && (l.what.tx == q.what.tx)) later) (is_commit r.what.action) (r.what.tx == q.what.tx)
    ∙ among_if (is_commit r.what.action) q.what.tx r.what.tx ts (is_committed_by q later)

pub records_with-push : (ts : List ℕ) (ns : List Numbered) (r : Numbered) → records_with ts (ns ++ r ∷ []) ≡ records_with (with_commit_of r ts) ns ++ one_if (counts ts r []) r
records_with-push ts [] r = refl
records_with-push ts (q ∷ later) r =
    let rest = records_with-push ts later r in
    ap (λ b. cond b (q ∷ records_with ts (later ++ r ∷ [])) (records_with ts (later ++ r ∷ []))) (counts-push ts q r later)
    ∙ ap (λ qs. cond (counts (with_commit_of r ts) q later) (q ∷ qs) qs) rest
    ∙ elim (counts (with_commit_of r ts) q later) as (λ b. cond b (q ∷ (records_with (with_commit_of r ts) later ++ one_if (counts ts r []) r)) (records_with (with_commit_of r ts) later ++ one_if (counts ts r []) r) ≡ cond b (q ∷ records_with (with_commit_of r ts) later) (records_with (with_commit_of r ts) later) ++ one_if (counts ts r []) r) [
      | true ↦ refl
      | false ↦ refl
    ]

-- ---- what is left of entries

-- an entry has its record's LSN
pub from_entry : (n : ℕ) (a : Action) (e : Entry) → entry_by n a ≡ Some e → e.lsn ≡ n
from_entry n (Put id key value) e is = sym (ap (λ (x : Entry). x.lsn) (same_Some _ _ is))
from_entry n (Remove id key) e is = absurd cc
from_entry n (Delete id) e is = absurd cc
from_entry n Begin e is = absurd cc
from_entry n Commit e is = absurd cc
from_entry n (Compaction id key value) e is = sym (ap (λ (x : Entry). x.lsn) (same_Some _ _ is))
from_entry n Mark e is = absurd cc
from_entry n Abandon e is = absurd cc

-- the record names the entry, or deletes its map
abbrev pub is_gone_by : Entry → Numbered → Bool
is_gone_by e l = (l.what.named == e.lsn) || is_delete_of e.id l.what.action

abbrev pub stays : List Numbered → Entry → Bool
stays later e = not (list_any (is_gone_by e) later)

-- the entries of these records that no later one of them names or deletes, oldest first
abbrev pub entries_left : List Numbered → List Entry
entries_left [] = []
entries_left (q ∷ later) = filter (stays later) (option_to_list (entry_by q.lsn q.what.action)) ++ entries_left later

-- the entries once this record stands behind theirs
abbrev pub left_by : Numbered → List Entry → List Entry
left_by r es = filter (λ e. not (is_gone_by e r)) es ++ option_to_list (entry_by r.lsn r.what.action)

one_left : (a b : Bool) (e : Entry) → filter {X = Entry} (λ _. not (a || (b || false))) (e ∷ []) ≡ cond (not a) (cond (not b) (e ∷ []) []) []
one_left true b e = refl
one_left false true e = refl
one_left false false e = refl

filter_two : (f : Entry → Bool) (a b : Bool) (e : Entry) (es : List Entry) → b ≡ f e → cond (not a) (cond b (e ∷ []) []) [] ++ filter f es ≡ filter f (cond (not a) (e ∷ []) [] ++ es)
filter_two f true b e es is = refl
filter_two f false b e es is = ap (λ c. cond c (e ∷ []) [] ++ filter f es) is ∙ elim (f e) as (λ c. cond c (e ∷ []) [] ++ filter f es ≡ cond c (e ∷ filter f es) (filter f es)) [ true ↦ refl | false ↦ refl ]

last_left : (o : Option Entry) → filter (stays []) (option_to_list o) ++ [] ≡ option_to_list o
last_left None = refl
last_left (Some e) = refl

first_left : (o : Option Entry) (later : List Numbered) (r : Numbered) (es : List Entry)
    → filter (stays (later ++ r ∷ [])) (option_to_list o) ++ filter (λ e. not (is_gone_by e r)) es ≡ filter (λ e. not (is_gone_by e r)) (filter (stays later) (option_to_list o) ++ es)
first_left None later r es = refl
first_left (Some e) later r es =
    ap (λ b. cond (not b) (e ∷ []) [] ++ filter (λ x. not (is_gone_by x r)) es) (list_any-append (is_gone_by e) later (r ∷ []))
    ∙ ap (λ l. l ++ filter (λ x. not (is_gone_by x r)) es) (one_left (list_any (is_gone_by e) later) (is_gone_by e r) e)
    ∙ filter_two (λ x. not (is_gone_by x r)) (list_any (is_gone_by e) later) (not (is_gone_by e r)) e es refl

pub entries_left-push : (qs : List Numbered) (r : Numbered) → entries_left (qs ++ r ∷ []) ≡ left_by r (entries_left qs)
entries_left-push [] r = last_left (entry_by r.lsn r.what.action)
entries_left-push (q ∷ later) r =
    let new = option_to_list (entry_by r.lsn r.what.action) in
    let o = entry_by q.lsn q.what.action in
    ap (λ es. filter (stays (later ++ r ∷ [])) (option_to_list o) ++ es) (entries_left-push later r)
    ∙ sym (append_assoc (filter (stays (later ++ r ∷ [])) (option_to_list o)) (filter (λ e. not (is_gone_by e r)) (entries_left later)) new)
    ∙ ap (λ es. es ++ new) (first_left o later r (entries_left later))

-- ---- begins that stay open

begin_left : (a b : Bool) (n : ℕ) (ends : ℕ → Bool) (ns new : List ℕ)
    → cond (a && not (b || (ends n || false))) (n ∷ (filter (λ k. not (ends k)) ns ++ new)) (filter (λ k. not (ends k)) ns ++ new) ≡ filter (λ k. not (ends k)) (cond (a && not b) (n ∷ ns) ns) ++ new
begin_left false b n ends ns new = refl
begin_left true true n ends ns new = refl
begin_left true false n ends ns new =
    elim (ends n) as (λ e. cond (not (e || false)) (n ∷ (filter (λ k. not (ends k)) ns ++ new)) (filter (λ k. not (ends k)) ns ++ new) ≡ cond (not e) (n ∷ filter (λ k. not (ends k)) ns) (filter (λ k. not (ends k)) ns) ++ new) [
      | true ↦ refl
      | false ↦ refl
    ]

pub open_begins-push : (ns : List Numbered) (r : Numbered) → open_begins (ns ++ r ∷ []) ≡ filter (λ n. not (is_ended_by n r.what.tx r.what.action)) (open_begins ns) ++ cond (is_begin r.what.action) (r.lsn ∷ []) []
open_begins-push [] r = elim (is_begin r.what.action) as (λ b. cond (b && true) (r.lsn ∷ []) [] ≡ cond b (r.lsn ∷ []) []) [ true ↦ refl | false ↦ refl ]
open_begins-push (q ∷ later) r =
    let ends : ℕ → Bool = λ n. is_ended_by n r.what.tx r.what.action in
    ap (λ b. cond (is_begin q.what.action && not b) (q.lsn ∷ open_begins (later ++ r ∷ [])) (open_begins (later ++ r ∷ []))) (list_any-append (λ (l : Numbered). is_ended_by q.lsn l.what.tx l.what.action) later (r ∷ []))
    ∙ ap (λ ns. cond (is_begin q.what.action && not (list_any (λ (l : Numbered). is_ended_by q.lsn l.what.tx l.what.action) later || (ends q.lsn || false))) (q.lsn ∷ ns) ns) (open_begins-push later r)
    ∙ begin_left (is_begin q.what.action) (list_any (λ (l : Numbered). is_ended_by q.lsn l.what.tx l.what.action) later) q.lsn ends (open_begins later) (cond (is_begin r.what.action) (r.lsn ∷ []) [])

-- ---- numbered records

pub numbered_joined : (n : ℕ) (rs qs : List Record) → numbered_records_from n (rs ++ qs) ≡ numbered_records_from n rs ++ numbered_records_from (n + length rs) qs
numbered_joined n [] qs = ap (λ k. numbered_records_from k qs) (omega arith)
numbered_joined n (r ∷ rs) qs =
    let later : (n + 1) + length rs ≡ n + length (r ∷ rs) = omega arith in
    ap (λ ns. record { lsn = n; what = r } ∷ ns) (numbered_joined (n + 1) rs qs ∙ ap (λ k. numbered_records_from (n + 1) rs ++ numbered_records_from k qs) later)
