-- One record through the filters, in front of those that were offered.
use Rattle.std.proofs.Common.{◌≡◌, ℕ, ◌<◌, Bool, true, false, not, ◌&&◌, ◌||◌, List, ◌∷◌, Some, None, refl, sym, ap, ◌∙◌, subst, arith, nat_cmp, true≢false}
use Rattle.frs_types.proofs.LogExamples.{rec}
use Rattle.frs_types.specs.declared.memory.NoMemory.{NoMemory}
use Rattle.std.specs.Prelude.{Result, Ok, Err, OnOk, ◌==◌, nat_lt, nat_le, IsTrue, if◌then◌else◌}
use Rattle.std.specs.List.{list_any}
use Rattle.std.proofs.lemmas.Bool.{ne_eqb, and_parts, ltb-true, eqb-true}
use Rattle.frs_types.specs.declared.record.Action.{Action}
use Rattle.frs_types.specs.declared.record.Action.TheVariants.{Put, Remove, Delete, Begin, Commit, Compaction, Mark, Abandon}
use Rattle.frs_types.specs.declared.record.Record.{Record}
use Rattle.frs_types.specs.declared.record.Entry.{Entry}
use Rattle.frs_types.specs.Records.{Numbered, is_allowed, kind_allows, has_words}
use Rattle.frs_types.specs.Survivors.{is_commit, is_delete_of, entry_by, with_entry, is_committed_by, committed_records, survivors_of}
use Rattle.frs_filters.specs.declared.chain.Chain.{Chain}
use Rattle.frs_filters.specs.Filters.{is_noted, is_map_noted, given_if, is_committed, with_commit, is_unnamed, with_named, is_undeleted, with_deleted, is_placed, with_older, with_replayed}
use Rattle.frs_filters.specs.Chain.{past_deletes, past_skips, past_transactions, chain_after, HasSeen}
use Rattle.frs_filters.proofs.IsNoted.{noted-number, noted-id}

-- ---- the filters one behind the other, field by field

past_deletes-is : (c : Chain) (u : Bool) (lsn : ℕ) (r : Record) → past_deletes c (given_if u lsn r) ≡ record c { replay = if u then with_replayed c.replay lsn r.action else c.replay }
past_deletes-is c true lsn r = refl
past_deletes-is c false lsn r = refl

past_skips-is : (c : Chain) (s : Bool) (lsn : ℕ) (r : Record) → past_skips c (given_if s lsn r) ≡ record c {
  deletes = if s then with_deleted c.deletes r.action else c.deletes;
  replay = if s && is_undeleted c.deletes r.action then with_replayed c.replay lsn r.action else c.replay;
}
past_skips-is c true lsn r = past_deletes-is (record c { deletes = with_deleted c.deletes r.action }) (is_undeleted c.deletes r.action) lsn r
past_skips-is c false lsn r = refl

abbrev flat : Chain → Bool → ℕ → Record → Chain
flat c b lsn r = record c {
  skips = if b then with_named c.skips r.named else c.skips;
  deletes = if b && is_unnamed c.skips lsn r.action then with_deleted c.deletes r.action else c.deletes;
  replay = if b && is_unnamed c.skips lsn r.action && is_undeleted c.deletes r.action then with_replayed c.replay lsn r.action else c.replay;
}

past_transactions-is : (c : Chain) (b : Bool) (lsn : ℕ) (r : Record) → past_transactions c (given_if b lsn r) ≡ flat c b lsn r
past_transactions-is c true lsn r = past_skips-is (record c { skips = with_named c.skips r.named }) (is_unnamed c.skips lsn r.action) lsn r
past_transactions-is c false lsn r = refl

-- ---- what is held of the committed records

record Holds (noted : List ℕ) (gone : List (List ℕ)) (entries : List Entry) (ls : List Numbered) : Type 0 where
  pub named : (n : ℕ) → 0 < n → is_noted nat_cmp noted n ≡ list_any (λ (l : Numbered). l.what.named == n) ls
  pub deleted : (id : List ℕ) → is_map_noted gone id ≡ list_any (λ (l : Numbered). is_delete_of id l.what.action) ls
  pub kept : entries ≡ survivors_of ls

abbrev HoldsOf : Chain → List Numbered → Type 0
HoldsOf c ls = Holds c.skips c.deletes c.replay ls

abbrev pub at_lsn : ℕ → Record → Numbered
at_lsn lsn r = record { lsn = lsn; what = r }

abbrev in_front : Bool → ℕ → Record → List Numbered → List Numbered
in_front b lsn r ls = if b then at_lsn lsn r ∷ ls else ls

-- ---- a record that changes nothing

silent : (c : Chain) (ls : List Numbered) (b : Bool) (lsn : ℕ) (r : Record) → r.named ≡ 0 → ((id : List ℕ) → is_delete_of id r.action ≡ false) → entry_by lsn r.action ≡ None → HoldsOf c ls → HoldsOf c (in_front b lsn r ls)
silent c ls false lsn r z d e h = h
silent c ls true lsn r z d e h = record {
  named = λ n p. h.named n p ∙ ap (λ v. v || list_any (λ (l : Numbered). l.what.named == n) ls) (sym (ne_eqb r.named n (omega arith)));
  deleted = λ id. h.deleted id ∙ ap (λ v. v || list_any (λ (l : Numbered). is_delete_of id l.what.action) ls) (sym (d id));
  kept = h.kept ∙ ap (λ o. with_entry o ls (survivors_of ls)) (sym e);
}

-- ---- a record that changes maps

same_either : {A : Type 0} (b : Bool) (x : A) → (if b then x else x) ≡ x
same_either true x = refl
same_either false x = refl

named_step : (named : List ℕ) (ls : List Numbered) (b : Bool) (lsn : ℕ) (r : Record) → ((n : ℕ) → 0 < n → is_noted nat_cmp named n ≡ list_any (λ (l : Numbered). l.what.named == n) ls)
    → (n : ℕ) → 0 < n → is_noted nat_cmp (if b then with_named named r.named else named) n ≡ list_any (λ (l : Numbered). l.what.named == n) (in_front b lsn r ls)
named_step named ls true lsn r h n p = noted-number named r.named n _ (h n p)
named_step named ls false lsn r h n p = h n p

-- no delete
gone_step : (gone : List (List ℕ)) (ls : List Numbered) (b s : Bool) (lsn : ℕ) (r : Record) → ((id : List ℕ) → is_delete_of id r.action ≡ false) → with_deleted gone r.action ≡ gone → ((id : List ℕ) → is_map_noted gone id ≡ list_any (λ (l : Numbered). is_delete_of id l.what.action) ls)
    → (id : List ℕ) → is_map_noted (if b && s then with_deleted gone r.action else gone) id ≡ list_any (λ (l : Numbered). is_delete_of id l.what.action) (in_front b lsn r ls)
gone_step gone ls b s lsn r d w h id =
    ap (λ g. is_map_noted (if b && s then g else gone) id) w ∙ ap (λ g. is_map_noted g id) (same_either (b && s) gone) ∙ h id
    ∙ elim b as (λ v. list_any (λ (l : Numbered). is_delete_of id l.what.action) ls ≡ list_any (λ (l : Numbered). is_delete_of id l.what.action) (in_front v lsn r ls)) [
      | true ↦ ap (λ v. v || list_any (λ (l : Numbered). is_delete_of id l.what.action) ls) (sym (d id))
      | false ↦ refl
    ]

-- a put or a compaction: it stays out where it is named, where its map is deleted, or where its place is taken
entry_in_front : (s d : Bool) (kept : List Entry) (e : Entry)
    → (if not s && not d then with_older kept (Some e) else kept) ≡ (if s || d || is_placed kept (e.id, e.key) then kept else e ∷ kept)
entry_in_front true d kept e = refl
entry_in_front false true kept e = refl
entry_in_front false false kept e = refl

entry_step : (named : List ℕ) (gone : List (List ℕ)) (kept : List Entry) (ls : List Numbered) (b : Bool) (lsn : ℕ) (r : Record) (e : Entry) → 0 < lsn → e.lsn ≡ lsn → entry_by lsn r.action ≡ Some e → Holds named gone kept ls
    → (if b && not (is_noted nat_cmp named lsn) && not (is_map_noted gone e.id) then with_older kept (Some e) else kept) ≡ survivors_of (in_front b lsn r ls)
entry_step named gone kept ls false lsn r e p l o h = h.kept
entry_step named gone kept ls true lsn r e p l o h =
    entry_in_front (is_noted nat_cmp named lsn) (is_map_noted gone e.id) kept e
    ∙ (λ i. if (h.named lsn p ∙ ap (λ n. list_any (λ (l : Numbered). l.what.named == n) ls) (sym l)) i || h.deleted e.id i || is_placed (h.kept i) (e.id, e.key) then h.kept i else e ∷ h.kept i)
    ∙ ap (λ o. with_entry o ls (survivors_of ls)) (sym o)

-- the record is one that the transaction filter may pass
abbrev is_change : Action → Bool
is_change (Put id key value) = true
is_change (Remove id key) = true
is_change (Delete id) = true
is_change (Compaction id key value) = true
is_change other = false

change : (c : Chain) (ls : List Numbered) (b : Bool) (lsn tx lowest named : ℕ) (a : Action) → is_change a ≡ true → 0 < lsn → HoldsOf c ls → HoldsOf (flat c b lsn (rec tx lowest named a)) (in_front b lsn (rec tx lowest named a) ls)
change c ls b lsn tx lowest named (Put id key value) t p h = record {
  named = named_step c.skips ls b lsn (rec tx lowest named (Put id key value)) h.named;
  deleted = gone_step c.deletes ls b (not (is_noted nat_cmp c.skips lsn)) lsn (rec tx lowest named (Put id key value)) (λ _. refl) refl h.deleted;
  kept = entry_step c.skips c.deletes c.replay ls b lsn (rec tx lowest named (Put id key value)) (record { id = id; key = key; value = value; lsn = lsn }) p refl refl h;
}
change c ls b lsn tx lowest named (Compaction id key value) t p h = record {
  named = named_step c.skips ls b lsn (rec tx lowest named (Compaction id key value)) h.named;
  deleted = gone_step c.deletes ls b (not (is_noted nat_cmp c.skips lsn)) lsn (rec tx lowest named (Compaction id key value)) (λ _. refl) refl h.deleted;
  kept = entry_step c.skips c.deletes c.replay ls b lsn (rec tx lowest named (Compaction id key value)) (record { id = id; key = key; value = value; lsn = lsn }) p refl refl h;
}
change c ls true lsn tx lowest named (Remove id key) t p h = record {
  named = named_step c.skips ls true lsn (rec tx lowest named (Remove id key)) h.named;
  deleted = h.deleted;
  kept = h.kept;
}
change c ls false lsn tx lowest named (Remove id key) t p h = h
change c ls true lsn tx lowest named (Delete id) t p h = record {
  named = named_step c.skips ls true lsn (rec tx lowest named (Delete id)) h.named;
  deleted = λ q. noted-id c.deletes id q _ (h.deleted q);
  kept = h.kept;
}
change c ls false lsn tx lowest named (Delete id) t p h = h
change c ls b lsn tx lowest named other t p h = absurd (true≢false (sym t))

-- ---- one record in front

-- 0 is below the LSN of a record that may stand there
above_zero : (lsn tx lowest named : ℕ) (a : Action) → IsTrue (is_allowed lsn (rec tx lowest named a)) → (IsTrue (kind_allows lsn a tx named)) × (0 < lsn)
above_zero lsn tx lowest named a ok =
    let all = and_parts _ (has_words a) ok in
    let most = and_parts _ (nat_le lowest lsn) all.0 in
    let more = and_parts _ (nat_lt 0 lowest) most.0 in
    let two = and_parts (kind_allows lsn a tx named) (nat_lt named lsn) more.0 in
    let below : named < lsn = ltb-true _ _ two.1 in (two.0, omega arith)

-- the commits of the records so far
abbrev pub AreCommits : List ℕ → List Numbered → Type 0
AreCommits commits later = (tx : ℕ) → is_noted nat_cmp commits tx ≡ list_any (λ (l : Numbered). is_commit l.what.action && (l.what.tx == tx)) later

pub commits_step : (commits : List ℕ) (later : List Numbered) (lsn tx lowest named : ℕ) (a : Action) → AreCommits commits later → AreCommits (with_commit commits tx a) (at_lsn lsn (rec tx lowest named a) ∷ later)
commits_step commits later lsn tx lowest named Commit h = λ t. noted-number commits tx t _ (h t)
commits_step commits later lsn tx lowest named (Put id key value) h = h
commits_step commits later lsn tx lowest named (Remove id key) h = h
commits_step commits later lsn tx lowest named (Delete id) h = h
commits_step commits later lsn tx lowest named (Compaction id key value) h = h
commits_step commits later lsn tx lowest named Begin h = h
commits_step commits later lsn tx lowest named Mark h = h
commits_step commits later lsn tx lowest named Abandon h = h

-- a change passes where it is committed
commits_decide : (commits : List ℕ) (later : List Numbered) (lsn tx lowest named : ℕ) (a : Action) → is_change a ≡ true → AreCommits commits later → is_committed commits tx a ≡ is_committed_by (at_lsn lsn (rec tx lowest named a)) later
commits_decide commits later lsn tx lowest named (Put id key value) t h = ap (λ v. (tx == 0) || v) (h tx)
commits_decide commits later lsn tx lowest named (Remove id key) t h = ap (λ v. (tx == 0) || v) (h tx)
commits_decide commits later lsn tx lowest named (Delete id) t h = ap (λ v. (tx == 0) || v) (h tx)
commits_decide commits later lsn tx lowest named (Compaction id key value) t h = refl
commits_decide commits later lsn tx lowest named other t h = absurd (true≢false (sym t))

changed : (c : Chain) (later : List Numbered) (lsn tx lowest named : ℕ) (a : Action) → is_change a ≡ true → 0 < lsn → AreCommits c.transactions later → HoldsOf c (committed_records later)
    → HoldsOf (flat c (is_committed c.transactions tx a) lsn (rec tx lowest named a)) (committed_records (at_lsn lsn (rec tx lowest named a) ∷ later))
changed c later lsn tx lowest named a t p cs h =
    let P : Bool → Type 0 = λ v. HoldsOf (flat c (is_committed c.transactions tx a) lsn (rec tx lowest named a)) (in_front v lsn (rec tx lowest named a) (committed_records later)) in
    subst P (commits_decide c.transactions later lsn tx lowest named a t cs) (change c (committed_records later) (is_committed c.transactions tx a) lsn tx lowest named a t p h)

-- what is held after one record in front
held : (c : Chain) (later : List Numbered) (lsn tx lowest named : ℕ) (a : Action) → IsTrue (kind_allows lsn a tx named) → 0 < lsn → AreCommits c.transactions later → HoldsOf c (committed_records later)
    → HoldsOf (flat c (is_committed c.transactions tx a) lsn (rec tx lowest named a)) (committed_records (at_lsn lsn (rec tx lowest named a) ∷ later))
held c later lsn tx lowest named Begin k p cs h = silent c (committed_records later) (is_committed_by (at_lsn lsn (rec tx lowest named Begin)) later) lsn (rec tx lowest named Begin) (eqb-true _ _ (and_parts _ _ k).1) (λ _. refl) refl h
held c later lsn tx lowest named Commit k p cs h = silent c (committed_records later) (is_committed_by (at_lsn lsn (rec tx lowest named Commit)) later) lsn (rec tx lowest named Commit) (eqb-true _ _ (and_parts _ _ k).1) (λ _. refl) refl h
held c later lsn tx lowest named Mark k p cs h = silent c (committed_records later) (is_committed_by (at_lsn lsn (rec tx lowest named Mark)) later) lsn (rec tx lowest named Mark) (eqb-true _ _ (and_parts _ _ k).1) (λ _. refl) refl h
held c later lsn tx lowest named Abandon k p cs h = silent c (committed_records later) (is_committed_by (at_lsn lsn (rec tx lowest named Abandon)) later) lsn (rec tx lowest named Abandon) (eqb-true _ _ (and_parts _ _ k).1) (λ _. refl) refl h
held c later lsn tx lowest named (Put id key value) k p cs h = changed c later lsn tx lowest named (Put id key value) refl p cs h
held c later lsn tx lowest named (Remove id key) k p cs h = changed c later lsn tx lowest named (Remove id key) refl p cs h
held c later lsn tx lowest named (Delete id) k p cs h = changed c later lsn tx lowest named (Delete id) refl p cs h
held c later lsn tx lowest named (Compaction id key value) k p cs h = changed c later lsn tx lowest named (Compaction id key value) refl p cs h

pub one_more : (c : Chain) (later : List Numbered) (lsn : ℕ) (r : Record) → IsTrue (is_allowed lsn r) → HasSeen c later → HasSeen (chain_after c lsn r) (record { lsn = lsn; what = r } ∷ later)
one_more c later lsn r ok h =
    let known = above_zero lsn r.tx r.lowest r.named r.action ok in
    let parts = held c later lsn r.tx r.lowest r.named r.action known.0 known.1 h.commits (record { named = h.named; deleted = h.deleted; kept = h.kept }) in
    let P : Chain → Type 0 = λ d. HasSeen d (at_lsn lsn r ∷ later) in
    subst P (sym (past_transactions-is (record c { transactions = with_commit c.transactions r.tx r.action }) (is_committed c.transactions r.tx r.action) lsn r)) (record {
      commits = commits_step c.transactions later lsn r.tx r.lowest r.named r.action h.commits;
      named = parts.named;
      deleted = parts.deleted;
      kept = parts.kept;
    })

-- after an Ok
pub on_ok : (result : Result (Unit {0}) NoMemory) (new after : Chain) (ls : List Numbered) → OnOk result (new ≡ after) → HasSeen after ls → OnOk result (HasSeen new ls)
on_ok (Ok u) new after ls h seen = let P : Chain → Type 0 = λ c. HasSeen c ls in subst P (sym h) seen
on_ok (Err e) new after ls h seen = h
