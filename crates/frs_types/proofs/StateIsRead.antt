-- Along a lawful log the entries that are left of its records are those of the state that it reaches, also if some of the
-- active transactions are counted as committed.
use Rattle.std.proofs.Common.{◌≡◌, ℕ, ◌+◌, ◌<◌, ◌≤◌, Bool, true, false, cond, not, ◌&&◌, ◌||◌, ◌==◌, List, [], ◌∷◌, ◌++◌, Option, Some, None, refl, sym, ap, ◌∙◌, subst, inl, inr, ◌⊎◌, append-nil, append_assoc, filter, flat_map, bytes_eq, IsTrue, option_map, unwrap_or, arith, eqb-true, ne_eqb, true≢false}
use Rattle.std.specs.List.{AllByRecursion}
use Rattle.std.specs.Option.{option_or}
use Rattle.std.specs.Prelude.{nat_lt, nat_le}
use Rattle.std.proofs.lemmas.Bool.{and_parts, eqb-false}
use Rattle.std.proofs.lemmas.List.{map-append}
use Rattle.std.proofs.lemmas.List.Folds.{list_any-append}
use Rattle.frs_types.specs.declared.record.Action.{Action}
use Rattle.frs_types.specs.declared.record.Action.TheVariants.{Put, Remove, Delete, Begin, Commit, Compaction, Mark, Abandon}
use Rattle.frs_types.specs.declared.record.Record.{Record}
use Rattle.frs_types.specs.declared.lock.Lock.TheVariants.{OnKey, OnMap}
use Rattle.frs_types.specs.Maps.{Place, Change, Table, at, table_after, table_after_all}
use Rattle.frs_types.specs.Maps.Change.{Set, Take, Clear}
use Rattle.frs_types.specs.Records.{Numbered, numbered_records_from, is_allowed, kind_allows, has_words}
use Rattle.frs_types.specs.Survivors.{is_commit, is_compaction, is_begin, is_ended_by, is_committed_by, open_begins}
use Rattle.frs_types.specs.Lawful.{StoredValue, Open, LogState, is_open_tx, changes_of, with_change, without_transaction, after_change, after_by, after_record, state_after, lowest, named_at, lock_of, is_alone, has_tx, is_stored, fits_by, is_lawful, are_lawful, settled_state}
use Rattle.frs_types.proofs.Changes.{touches, given, latest, latest-append, latest_none, latest_of, latest_alike, at-table_after, at-table_after_all, same_place-Decides}
use Rattle.frs_types.proofs.OneMoreRecord.{is_among, counts, records_with, with_commit_of, one_if, records_with-push, entries_left, left_by, entries_left-push, open_begins-push}
use Rattle.frs_types.proofs.EntriesLeft.{changed, Holds, IsNamed, change_by, holds_record, left_by_idle, holds_wider}
use Rattle.frs_types.proofs.ActiveChanges.{others_apart, changes_of_other, changes_of_own, open_with_change, begins_of, begins_with_change, begun, changes_of_begun, changes_of_ended, changes_of_own_ended, open_without, begins_without, changes_of_none}

-- ---- what is read of a state

-- what stands at a place once the changes of these transactions are made, one transaction behind the other
abbrev pub seen : LogState → List ℕ → Place → Option StoredValue
seen s ts p = unwrap_or (latest p (flat_map (changes_of s.active) ts)) (at s.entries p)

-- the transaction is active, or hasn't begun
abbrev pub IsLive : LogState → ℕ → Type 0
IsLive s t = (is_open_tx s.active t ≡ true) ⊎ (s.next ≤ t)

abbrev pub AreLive : LogState → List ℕ → Type 0
AreLive s ts = AllByRecursion (IsLive s) ts

-- what one of two transactions has changed the other hasn't
abbrev pub AreApartIn : List Open → Type 0
AreApartIn active = (p : Place) (t u : ℕ) → (t == u) ≡ false → (latest p (changes_of active t) ≡ None) ⊎ (latest p (changes_of active u) ≡ None)

-- Read backward, these records give the state.
pub record IsRead (s : LogState) (ns : List Numbered) : Type 0 where
  pub next : 0 < s.next
  pub begins : AllByRecursion (λ n. (0 < n) × (n < s.next)) (begins_of s.active)
  pub begun_still : open_begins ns ≡ begins_of s.active
  pub apart : AreApartIn s.active
  pub reads : (ts : List ℕ) → AreLive s ts → Holds (seen s ts) (entries_left (records_with ts ns)) s.next

each_live : (s u : LogState) → ((t : ℕ) → IsLive u t → IsLive s t) → (ts : List ℕ) → AreLive u ts → AreLive s ts
each_live s u step [] live = tt
each_live s u step (t ∷ ts) live = (step t live.0, each_live s u step ts live.1)

-- ---- the open transactions of a state

open_is_below : (active : List Open) (n t : ℕ) → AllByRecursion (λ m. (0 < m) × (m < n)) (begins_of active) → is_open_tx active t ≡ true → (0 < t) × (t < n)
open_is_below [] n t all is = absurd cc
open_is_below (o ∷ active) n t all is =
    elim (o.begin == t) as (λ b. (o.begin == t) ≡ b → (b || is_open_tx active t) ≡ true → (0 < t) × (t < n)) [
      | true ↦ λ own _. subst (λ k. (0 < k) × (k < n)) (eqb-true o.begin t own) all.0
      | false ↦ λ _ later. open_is_below active n t all.1 later
    ] refl is

closed_at : (active : List Open) (n t : ℕ) → AllByRecursion (λ m. (0 < m) × (m < n)) (begins_of active) → ((0 < t) × (t < n) → ⊥) → changes_of active t ≡ []
closed_at active n t all not_in = changes_of_none active t
    (elim (is_open_tx active t) as (λ b. is_open_tx active t ≡ b → b ≡ false) [ true ↦ λ is. absurd (not_in (open_is_below active n t all is)) | false ↦ λ _. refl ] refl)

-- ---- records at the end

or_true : (b : Bool) → (b || true) ≡ true
or_true true = refl
or_true false = refl

or_false : (b : Bool) → (b || false) ≡ b
or_false true = refl
or_false false = refl

-- a record that counts stands behind the others that count
counted : (ts : List ℕ) (ns : List Numbered) (q : Numbered) → is_commit q.what.action ≡ false → counts ts q [] ≡ true → entries_left (records_with ts (ns ++ q ∷ [])) ≡ left_by q (entries_left (records_with ts ns))
counted ts ns q no_commit is =
    ap entries_left (records_with-push ts ns q
    ∙ ap (λ b. records_with (cond b (q.what.tx ∷ ts) ts) ns ++ one_if (counts ts q []) q) no_commit
    ∙ ap (λ b. records_with ts ns ++ one_if b q) is)
    ∙ entries_left-push (records_with ts ns) q

passed : (ts : List ℕ) (ns : List Numbered) (q : Numbered) → is_commit q.what.action ≡ false → counts ts q [] ≡ false → entries_left (records_with ts (ns ++ q ∷ [])) ≡ entries_left (records_with ts ns)
passed ts ns q no_commit is =
    ap entries_left (records_with-push ts ns q
    ∙ ap (λ b. records_with (cond b (q.what.tx ∷ ts) ts) ns ++ one_if (counts ts q []) q) no_commit
    ∙ ap (λ b. records_with ts ns ++ one_if b q) is
    ∙ append-nil (records_with ts ns))

-- a record that makes no change and names nothing leaves what is read as it is, whether or not it counts
idle_reads : (f : Place → Option StoredValue) (n : ℕ) (ts : List ℕ) (ns : List Numbered) (q : Numbered) → q.what.named ≡ 0 → change_by q.lsn q.what.action ≡ None
    → Holds f (entries_left (records_with (with_commit_of q ts) ns)) n → Holds f (entries_left (records_with ts (ns ++ q ∷ []))) n
idle_reads f n ts ns q nameless none held =
    let all = records_with (with_commit_of q ts) ns in
    subst (λ es. Holds f es n) (sym (ap entries_left (records_with-push ts ns q)
    ∙ elim (counts ts q []) as (λ b. entries_left (all ++ one_if b q) ≡ entries_left all) [
      | true ↦ entries_left-push all q ∙ left_by_idle f (entries_left all) n q held nameless none
      | false ↦ ap entries_left (append-nil all)
    ])) held

-- the kinds of records that make a change don't begin, commit or end
change_alone : (n : ℕ) (a : Action) (x : Change StoredValue) → change_by n a ≡ Some x → (is_commit a ≡ false) × (is_begin a ≡ false) × ((k tx : ℕ) → is_ended_by k tx a ≡ false)
change_alone n (Put id key value) x is = (refl, refl, λ k tx. refl)
change_alone n (Remove id key) x is = (refl, refl, λ k tx. refl)
change_alone n (Delete id) x is = (refl, refl, λ k tx. refl)
change_alone n (Compaction id key value) x is = (refl, refl, λ k tx. refl)
change_alone n Begin x is = absurd cc
change_alone n Commit x is = absurd cc
change_alone n Mark x is = absurd cc
change_alone n Abandon x is = absurd cc

filter_same : (test other : ℕ → Bool) → ((n : ℕ) → test n ≡ other n) → (ns : List ℕ) → filter test ns ≡ filter other ns
filter_same test other same [] = refl
filter_same test other same (n ∷ ns) = ap (λ b. cond b (n ∷ filter test ns) (filter test ns)) (same n) ∙ ap (λ l. cond (other n) (n ∷ l) l) (filter_same test other same ns)

filter_whole : (ns : List ℕ) → filter {X = ℕ} (λ _. true) ns ≡ ns
filter_whole [] = refl
filter_whole (n ∷ ns) = ap (λ l. n ∷ l) (filter_whole ns)

filter_nothing : (ns : List ℕ) → filter {X = ℕ} (λ _. false) ns ≡ []
filter_nothing [] = refl
filter_nothing (n ∷ ns) = filter_nothing ns

begins_behind_change : (ns : List Numbered) (q : Numbered) (x : Change StoredValue) → change_by q.lsn q.what.action ≡ Some x → open_begins (ns ++ q ∷ []) ≡ open_begins ns
begins_behind_change ns q x makes =
    let kind = change_alone q.lsn q.what.action x makes in
    open_begins-push ns q
    ∙ ap (λ b. filter (λ n. not (is_ended_by n q.what.tx q.what.action)) (open_begins ns) ++ cond b (q.lsn ∷ []) []) kind.1
    ∙ append-nil (filter (λ n. not (is_ended_by n q.what.tx q.what.action)) (open_begins ns))
    ∙ filter_same (λ n. not (is_ended_by n q.what.tx q.what.action)) (λ _. true) (λ n. ap not (kind.2 n q.what.tx)) (open_begins ns)
    ∙ filter_whole (open_begins ns)

is_named_by : (f g : Place → Option StoredValue) (named : ℕ) (x : Change StoredValue) → ((p : Place) → touches p x ≡ true → f p ≡ g p) → IsNamed g named x → IsNamed f named x
is_named_by f g named (Set id key h) same names = names ∙ sym (ap (λ o. unwrap_or (option_map (λ (k : StoredValue). k.lsn) o) 0) (same (id, key) ((same_place-Decides (id, key) (id, key)).1 refl)))
is_named_by f g named (Take id key) same names = names ∙ sym (ap (λ o. unwrap_or (option_map (λ (k : StoredValue). k.lsn) o) 0) (same (id, key) ((same_place-Decides (id, key) (id, key)).1 refl)))
is_named_by f g named (Clear id) same names = names

bounds_wider : (n : ℕ) (ms : List ℕ) → AllByRecursion (λ m. (0 < m) × (m < n)) ms → AllByRecursion (λ m. (0 < m) × (m < n + 1)) ms
bounds_wider n [] all = tt
bounds_wider n (m ∷ ms) all = (let own : (0 < m) × (m < n) = all.0 in (omega arith, omega arith), bounds_wider n ms all.1)

each_untouched : (p : Place) (f : ℕ → List (Change StoredValue)) → ((t : ℕ) → latest p (f t) ≡ None) → (ts : List ℕ) → AllByRecursion (λ t. latest p (f t) ≡ None) ts
each_untouched p f none [] = tt
each_untouched p f none (t ∷ ts) = (none t, each_untouched p f none ts)

flat_map_same : (f g : ℕ → List (Change StoredValue)) (ts : List ℕ) → AllByRecursion (λ t. g t ≡ f t) ts → flat_map g ts ≡ flat_map f ts
flat_map_same f g [] same = refl
flat_map_same f g (t ∷ ts) same = ap (λ l. l ++ flat_map g ts) same.0 ∙ ap (λ l. f t ++ l) (flat_map_same f g ts same.1)

each_for_live : (u : LogState) (P : ℕ → Type 0) → ((t : ℕ) → IsLive u t → P t) → (ts : List ℕ) → AreLive u ts → AllByRecursion P ts
each_for_live u P step [] live = tt
each_for_live u P step (t ∷ ts) live = (step t live.0, each_for_live u P step ts live.1)

others_among : (tx : ℕ) (ts : List ℕ) → is_among tx ts ≡ false → AllByRecursion (λ t. (t == tx) ≡ false) ts
others_among tx [] is = tt
others_among tx (t ∷ ts) is = elim (t == tx) as (λ b. (t == tx) ≡ b → (b || is_among tx ts) ≡ false → AllByRecursion (λ k. (k == tx) ≡ false) (t ∷ ts)) [
  | true ↦ λ _ never. absurd (true≢false never)
  | false ↦ λ other rest. (other, others_among tx ts rest)
] refl is

each_mapped : (P Q : ℕ → Type 0) → ((t : ℕ) → P t → Q t) → (ts : List ℕ) → AllByRecursion P ts → AllByRecursion Q ts
each_mapped P Q step [] all = tt
each_mapped P Q step (t ∷ ts) all = (step t all.0, each_mapped P Q step ts all.1)

each_filtered : (P : ℕ → Type 0) (test : ℕ → Bool) (ns : List ℕ) → AllByRecursion P ns → AllByRecursion P (filter test ns)
each_filtered P test [] all = tt
each_filtered P test (n ∷ ns) all = elim (test n) as (λ b. AllByRecursion P (cond b (n ∷ filter test ns) (filter test ns))) [ true ↦ (all.0, each_filtered P test ns all.1) | false ↦ each_filtered P test ns all.1 ]

each_pushed : (P : ℕ → Type 0) (ns : List ℕ) (n : ℕ) → AllByRecursion P ns → P n → AllByRecursion P (ns ++ n ∷ [])
each_pushed P [] n all own = (own, tt)
each_pushed P (m ∷ ns) n all own = (all.0, each_pushed P ns n all.1 own)

or_inside : (a b : Option (Option StoredValue)) (c : Option StoredValue) → unwrap_or a (unwrap_or b c) ≡ unwrap_or (option_or a b) c
or_inside None b c = refl
or_inside (Some h) b c = refl

-- ---- one record behind others

module _ (s : LogState) (ns : List Numbered) (r : Record) (read : IsRead s ns) where
  abbrev behind : Numbered
  behind = record { lsn = s.next; what = r }

  -- ---- a change outside of a transaction, or a compaction

  module _ (x : Change StoredValue) (makes : change_by s.next r.action ≡ Some x) (at_once : (is_compaction r.action || (r.tx == 0)) ≡ true) (alone : IsTrue (is_alone s 0 (lock_of x)))
      (names : IsNamed (at s.entries) r.named x) where
    abbrev now : LogState
    now = record { entries = table_after s.entries x; active = s.active; next = s.next + 1 }

    now_untouched : (p : Place) → touches p x ≡ true → (t : ℕ) → latest p (changes_of s.active t) ≡ None
    now_untouched p here t = elim (t == 0) as (λ b. (t == 0) ≡ b → latest p (changes_of s.active t) ≡ None) [
      | true ↦ λ is. ap (latest p) (closed_at s.active s.next t read.begins (λ own. let none : t ≡ 0 = eqb-true t 0 is in absurd (omega arith)))
      | false ↦ λ other. others_apart p x 0 t s.active alone here other
    ] refl

    now_seen : (ts : List ℕ) (p : Place) → seen now ts p ≡ changed (seen s ts) x p
    now_seen ts p =
        ap (unwrap_or (latest p (flat_map (changes_of s.active) ts))) (at-table_after p x s.entries)
        ∙ elim (touches p x) as (λ b. touches p x ≡ b → unwrap_or (latest p (flat_map (changes_of s.active) ts)) (cond b (given x) (at s.entries p)) ≡ cond b (given x) (seen s ts p)) [
          | true ↦ λ here. ap (λ o. unwrap_or o (given x)) (latest_none p (changes_of s.active) ts (each_untouched p (changes_of s.active) (now_untouched p here) ts))
          | false ↦ λ _. refl
        ] refl

    now_named : (ts : List ℕ) → IsNamed (seen s ts) r.named x
    now_named ts = is_named_by (seen s ts) (at s.entries) r.named x (λ p here. ap (λ o. unwrap_or o (at s.entries p)) (latest_none p (changes_of s.active) ts (each_untouched p (changes_of s.active) (now_untouched p here) ts))) names

    now_live : (t : ℕ) → IsLive now t → IsLive s t
    now_live t live = elim live [ inl is ↦ inl is | inr later ↦ inr (omega arith) ]

    read_now : IsRead now (ns ++ behind ∷ [])
    read_now = record {
      next = omega (arith, read.next);
      begins = bounds_wider s.next (begins_of s.active) read.begins;
      begun_still = begins_behind_change ns behind x makes ∙ read.begun_still;
      apart = read.apart;
      reads = λ ts live. subst (λ es. Holds (seen now ts) es (s.next + 1))
          (sym (counted ts ns behind (change_alone s.next r.action x makes).0 (ap (λ b. is_among r.tx ts || b) (commit_nothing at_once) ∙ or_true (is_among r.tx ts))))
          (holds_record (seen s ts) (seen now ts) (entries_left (records_with ts ns)) behind x read.next (read.reads ts (each_live s now now_live ts live)) makes (now_named ts) (now_seen ts));
    }
      where
        commit_nothing : (is_compaction r.action || (r.tx == 0)) ≡ true → is_committed_by behind [] ≡ true
        commit_nothing is = elim (is_compaction r.action) as (λ b. (b || (r.tx == 0)) ≡ true → (b || (r.tx == 0) || false) ≡ true) [ true ↦ λ _. refl | false ↦ λ outside. or_false (r.tx == 0) ∙ outside ] is

  -- ---- a change in an active transaction

  module _ (x : Change StoredValue) (makes : change_by s.next r.action ≡ Some x) (later : (is_compaction r.action || (r.tx == 0)) ≡ false) (active_now : is_open_tx s.active r.tx ≡ true)
      (alone : IsTrue (is_alone s r.tx (lock_of x))) (names : IsNamed (at (table_after_all s.entries (changes_of s.active r.tx))) r.named x) where
    abbrev inside : LogState
    inside = record { entries = s.entries; active = with_change s.active r.tx x; next = s.next + 1 }

    own_behind : changes_of inside.active r.tx ≡ changes_of s.active r.tx ++ x ∷ []
    own_behind = changes_of_own s.active r.tx x active_now

    others_free : (p : Place) → touches p x ≡ true → (t : ℕ) → (t == r.tx) ≡ false → latest p (changes_of s.active t) ≡ None
    others_free p here t other = others_apart p x r.tx t s.active alone here other

    own_touched : (p : Place) → touches p x ≡ true → latest p (changes_of inside.active r.tx) ≡ Some (given x)
    own_touched p here = ap (latest p) own_behind ∙ latest-append p (changes_of s.active r.tx) (x ∷ []) ∙ ap (λ b. option_or (cond b (Some (given x)) None) (latest p (changes_of s.active r.tx))) here

    same_elsewhere : (p : Place) → touches p x ≡ false → (t : ℕ) → latest p (changes_of inside.active t) ≡ latest p (changes_of s.active t)
    same_elsewhere p not_here t = elim (t == r.tx) as (λ b. (t == r.tx) ≡ b → latest p (changes_of inside.active t) ≡ latest p (changes_of s.active t)) [
      | true ↦ λ is. subst (λ k. latest p (changes_of inside.active k) ≡ latest p (changes_of s.active k)) (sym (eqb-true t r.tx is))
          (ap (latest p) own_behind ∙ latest-append p (changes_of s.active r.tx) (x ∷ []) ∙ ap (λ b. option_or (cond b (Some (given x)) None) (latest p (changes_of s.active r.tx))) not_here)
      | false ↦ λ other. ap (latest p) (changes_of_other s.active r.tx t x other)
    ] refl

    inside_live : (t : ℕ) → IsLive inside t → IsLive s t
    inside_live t live = elim live [ inl is ↦ inl (sym (open_with_change s.active r.tx t x) ∙ is) | inr after ↦ inr (omega arith) ]

    inside_seen : (ts : List ℕ) → is_among r.tx ts ≡ true → (p : Place) → seen inside ts p ≡ changed (seen s ts) x p
    inside_seen ts among p = elim (touches p x) as (λ b. touches p x ≡ b → seen inside ts p ≡ cond b (given x) (seen s ts p)) [
      | true ↦ λ here.
          ap (λ o. unwrap_or o (at s.entries p)) (latest_of p (changes_of inside.active) r.tx (λ t other. ap (latest p) (changes_of_other s.active r.tx t x other) ∙ others_free p here t other) ts among ∙ own_touched p here)
      | false ↦ λ not_here. ap (λ o. unwrap_or o (at s.entries p)) (latest_alike p (changes_of inside.active) (changes_of s.active) (same_elsewhere p not_here) ts)
    ] refl

    inside_named : (ts : List ℕ) → is_among r.tx ts ≡ true → IsNamed (seen s ts) r.named x
    inside_named ts among = is_named_by (seen s ts) (at (table_after_all s.entries (changes_of s.active r.tx))) r.named x
        (λ p here. ap (λ o. unwrap_or o (at s.entries p)) (latest_of p (changes_of s.active) r.tx (others_free p here) ts among) ∙ sym (at-table_after_all p (changes_of s.active r.tx) s.entries)) names

    not_counted : (ts : List ℕ) (b : Bool) → is_among r.tx ts ≡ b → counts ts behind [] ≡ b
    not_counted ts b is =
        ap (λ c. c || is_committed_by behind []) is
        ∙ ap (λ c. b || c) (elim (is_compaction r.action) as (λ c. (c || (r.tx == 0)) ≡ false → (c || (r.tx == 0) || false) ≡ false) [ true ↦ λ never. never | false ↦ λ outside. or_false (r.tx == 0) ∙ outside ] later)
        ∙ or_false b

    inside_reads : (ts : List ℕ) → AreLive inside ts → Holds (seen inside ts) (entries_left (records_with ts (ns ++ behind ∷ []))) (s.next + 1)
    inside_reads ts live =
        let before = read.reads ts (each_live s inside inside_live ts live) in
        elim (is_among r.tx ts) as (λ b. is_among r.tx ts ≡ b → Holds (seen inside ts) (entries_left (records_with ts (ns ++ behind ∷ []))) (s.next + 1)) [
          | true ↦ λ among. subst (λ es. Holds (seen inside ts) es (s.next + 1)) (sym (counted ts ns behind (change_alone s.next r.action x makes).0 (not_counted ts true among)))
              (holds_record (seen s ts) (seen inside ts) (entries_left (records_with ts ns)) behind x read.next before makes (inside_named ts among) (inside_seen ts among))
          | false ↦ λ outside. subst (λ es. Holds (seen inside ts) es (s.next + 1)) (sym (passed ts ns behind (change_alone s.next r.action x makes).0 (not_counted ts false outside)))
              (holds_wider (seen s ts) (seen inside ts) (entries_left (records_with ts ns)) s.next (s.next + 1) (omega arith)
              (λ p. ap (λ l. unwrap_or (latest p l) (at s.entries p)) (flat_map_same (changes_of s.active) (changes_of inside.active) ts
              (each_mapped (λ t. (t == r.tx) ≡ false) (λ t. changes_of inside.active t ≡ changes_of s.active t) (λ t other. changes_of_other s.active r.tx t x other) ts (others_among r.tx ts outside)))) before)
        ] refl

    apart_from_own : (p : Place) (u : ℕ) → (u == r.tx) ≡ false → (latest p (changes_of inside.active r.tx) ≡ None) ⊎ (latest p (changes_of inside.active u) ≡ None)
    apart_from_own p u other = elim (touches p x) as (λ b. touches p x ≡ b → (latest p (changes_of inside.active r.tx) ≡ None) ⊎ (latest p (changes_of inside.active u) ≡ None)) [
      | true ↦ λ here. inr (same_at_other ∙ others_free p here u other)
      | false ↦ λ not_here. elim (read.apart p r.tx u (ne_eqb r.tx u (λ is. eqb-false u r.tx other (sym is)))) [
        | inl none ↦ inl (same_elsewhere p not_here r.tx ∙ none)
        | inr none ↦ inr (same_at_other ∙ none)
      ]
    ] refl
      where
        same_at_other : latest p (changes_of inside.active u) ≡ latest p (changes_of s.active u)
        same_at_other = ap (latest p) (changes_of_other s.active r.tx u x other)

    turned : {A B : Type 0} → A ⊎ B → B ⊎ A
    turned (inl a) = inr a
    turned (inr b) = inl b

    inside_apart : AreApartIn inside.active
    inside_apart p t u differ = elim (t == r.tx) as (λ b. (t == r.tx) ≡ b → (latest p (changes_of inside.active t) ≡ None) ⊎ (latest p (changes_of inside.active u) ≡ None)) [
      | true ↦ λ own. subst (λ k. (latest p (changes_of inside.active k) ≡ None) ⊎ (latest p (changes_of inside.active u) ≡ None)) (sym (eqb-true t r.tx own))
          (apart_from_own p u (ne_eqb u r.tx (λ is. eqb-false t u differ (eqb-true t r.tx own ∙ sym is))))
      | false ↦ λ other. elim (u == r.tx) as (λ b. (u == r.tx) ≡ b → (latest p (changes_of inside.active t) ≡ None) ⊎ (latest p (changes_of inside.active u) ≡ None)) [
        | true ↦ λ own. subst (λ k. (latest p (changes_of inside.active t) ≡ None) ⊎ (latest p (changes_of inside.active k) ≡ None)) (sym (eqb-true u r.tx own)) (turned (apart_from_own p t other))
        | false ↦ λ another. elim (read.apart p t u differ) [
          | inl none ↦ inl (ap (latest p) (changes_of_other s.active r.tx t x other) ∙ none)
          | inr none ↦ inr (ap (latest p) (changes_of_other s.active r.tx u x another) ∙ none)
        ]
      ] refl
    ] refl

    read_inside : IsRead inside (ns ++ behind ∷ [])
    read_inside = record {
      next = omega (arith, read.next);
      begins = subst (λ ms. AllByRecursion (λ m. (0 < m) × (m < s.next + 1)) ms) (sym (begins_with_change s.active r.tx x)) (bounds_wider s.next (begins_of s.active) read.begins);
      begun_still = begins_behind_change ns behind x makes ∙ read.begun_still ∙ sym (begins_with_change s.active r.tx x);
      apart = inside_apart;
      reads = inside_reads;
    }

  -- ---- a record that makes no change

  module _ (u : LogState) (nameless : r.named ≡ 0) (none : change_by s.next r.action ≡ None) (next : u.next ≡ s.next + 1) where
    idle_behind : (ts all : List ℕ) → with_commit_of behind ts ≡ all → AreLive s all → ((p : Place) → seen u ts p ≡ seen s all p) → Holds (seen u ts) (entries_left (records_with ts (ns ++ behind ∷ []))) u.next
    idle_behind ts all is live same = idle_reads (seen u ts) u.next ts ns behind nameless none
        (subst (λ l. Holds (seen u ts) (entries_left (records_with l ns)) u.next) (sym is) (holds_wider (seen s all) (seen u ts) (entries_left (records_with all ns)) s.next u.next (omega arith) same (read.reads all live)))

  -- ---- a begin

  module _ (is_begun : r.action ≡ Begin) (nameless : r.named ≡ 0) where
    abbrev begun_now : LogState
    begun_now = record { entries = s.entries; active = s.active ++ begun s.next; next = s.next + 1 }

    begun_live : (t : ℕ) → IsLive begun_now t → IsLive s t
    begun_live t live = elim live [
      | inl is ↦ elim (is_open_tx s.active t) as (λ b. is_open_tx s.active t ≡ b → (b || ((s.next == t) || false)) ≡ true → IsLive s t) [
        | true ↦ λ open_before _. inl open_before
        | false ↦ λ _ own. let same : s.next ≡ t = eqb-true s.next t (sym (or_false (s.next == t)) ∙ own) in inr (omega arith)
      ] refl (sym (list_any-append (λ (o : Open). o.begin == t) s.active (begun s.next)) ∙ is)
      | inr after ↦ inr (omega arith)
    ]

    begun_seen : (ts : List ℕ) (p : Place) → seen begun_now ts p ≡ seen s ts p
    begun_seen ts p = ap (λ o. unwrap_or o (at s.entries p)) (latest_alike p (changes_of begun_now.active) (changes_of s.active) (λ t. ap (latest p) (changes_of_begun s.active s.next t)) ts)

    begun_apart : AreApartIn begun_now.active
    begun_apart p t u differ = elim (read.apart p t u differ) [
      | inl none ↦ inl (ap (latest p) (changes_of_begun s.active s.next t) ∙ none)
      | inr none ↦ inr (ap (latest p) (changes_of_begun s.active s.next u) ∙ none)
    ]

    begins_begun : begins_of begun_now.active ≡ begins_of s.active ++ s.next ∷ []
    begins_begun = map-append (λ (o : Open). o.begin) s.active (begun s.next)

    open_begun : open_begins (ns ++ behind ∷ []) ≡ begins_of begun_now.active
    open_begun =
        open_begins-push ns behind
        ∙ ap (λ a. filter (λ n. not (is_ended_by n r.tx a)) (open_begins ns) ++ cond (is_begin a) (s.next ∷ []) []) is_begun
        ∙ ap (λ l. l ++ s.next ∷ []) (filter_whole (open_begins ns) ∙ read.begun_still)
        ∙ sym begins_begun

    read_begun : IsRead begun_now (ns ++ behind ∷ [])
    read_begun = record {
      next = omega (arith, read.next);
      begins = subst (λ ms. AllByRecursion (λ m. (0 < m) × (m < s.next + 1)) ms) (sym begins_begun)
          (each_pushed (λ m. (0 < m) × (m < s.next + 1)) (begins_of s.active) s.next (bounds_wider s.next (begins_of s.active) read.begins) (read.next, omega arith));
      begun_still = open_begun;
      apart = begun_apart;
      reads = λ ts live. idle_behind begun_now nameless (ap (change_by s.next) is_begun) refl ts ts (ap (λ a. cond (is_commit a) (r.tx ∷ ts) ts) is_begun) (each_live s begun_now begun_live ts live) (begun_seen ts);
    }

  -- ---- the end of one transaction, with or without its changes

  module _ (nameless : r.named ≡ 0) (active_now : is_open_tx s.active r.tx ≡ true) where
    abbrev ended : Table StoredValue → LogState
    ended t = record { entries = t; active = without_transaction s.active r.tx; next = s.next + 1 }

    ended_other : (t : ℕ) → (is_open_tx (without_transaction s.active r.tx) t ≡ true) ⊎ (s.next + 1 ≤ t) → (t == r.tx) ≡ false
    ended_other t live = elim live [
      | inl is ↦ (open_without s.active r.tx t is).1
      | inr after ↦ (let own : (0 < r.tx) × (r.tx < s.next) = open_is_below s.active s.next r.tx read.begins active_now in ne_eqb t r.tx (λ same. omega arith))
    ]

    ended_live : (entries : Table StoredValue) (t : ℕ) → IsLive (ended entries) t → IsLive s t
    ended_live entries t live = elim live [ inl is ↦ inl (open_without s.active r.tx t is).0 | inr after ↦ inr (omega arith) ]

    ended_changes : (entries : Table StoredValue) (ts : List ℕ) → AreLive (ended entries) ts → flat_map (changes_of (without_transaction s.active r.tx)) ts ≡ flat_map (changes_of s.active) ts
    ended_changes entries ts live = flat_map_same (changes_of s.active) (changes_of (without_transaction s.active r.tx)) ts
        (each_for_live (ended entries) (λ t. changes_of (without_transaction s.active r.tx) t ≡ changes_of s.active t) (λ t one. changes_of_ended s.active r.tx t (ended_other t one)) ts live)

    ended_at : (p : Place) (t : ℕ) → latest p (changes_of s.active t) ≡ None → latest p (changes_of (without_transaction s.active r.tx) t) ≡ None
    ended_at p t none = elim (t == r.tx) as (λ b. (t == r.tx) ≡ b → latest p (changes_of (without_transaction s.active r.tx) t) ≡ None) [
      | true ↦ λ own. ap (λ k. latest p (changes_of (without_transaction s.active r.tx) k)) (eqb-true t r.tx own) ∙ ap (latest p) (changes_of_own_ended s.active r.tx)
      | false ↦ λ other. ap (latest p) (changes_of_ended s.active r.tx t other) ∙ none
    ] refl

    ended_apart : AreApartIn (without_transaction s.active r.tx)
    ended_apart p t u differ = elim (read.apart p t u differ) [ inl none ↦ inl (ended_at p t none) | inr none ↦ inr (ended_at p u none) ]

    ended_begins : AllByRecursion (λ m. (0 < m) × (m < s.next + 1)) (begins_of (without_transaction s.active r.tx))
    ended_begins = subst (λ ms. AllByRecursion (λ m. (0 < m) × (m < s.next + 1)) ms) (sym (begins_without s.active r.tx))
        (each_filtered (λ m. (0 < m) × (m < s.next + 1)) (λ n. not (r.tx == n)) (begins_of s.active) (bounds_wider s.next (begins_of s.active) read.begins))

    ended_open : ((n : ℕ) → is_ended_by n r.tx r.action ≡ (r.tx == n)) → is_begin r.action ≡ false → open_begins (ns ++ behind ∷ []) ≡ begins_of (without_transaction s.active r.tx)
    ended_open ends no_begin =
        open_begins-push ns behind
        ∙ ap (λ b. filter (λ n. not (is_ended_by n r.tx r.action)) (open_begins ns) ++ cond b (s.next ∷ []) []) no_begin
        ∙ append-nil (filter (λ n. not (is_ended_by n r.tx r.action)) (open_begins ns))
        ∙ filter_same (λ n. not (is_ended_by n r.tx r.action)) (λ n. not (r.tx == n)) (λ n. ap not (ends n)) (open_begins ns)
        ∙ ap (filter (λ n. not (r.tx == n))) read.begun_still
        ∙ sym (begins_without s.active r.tx)

    abbrev committed_now : LogState
    committed_now = ended (table_after_all s.entries (changes_of s.active r.tx))

    committed_seen : (ts : List ℕ) → AreLive committed_now ts → (p : Place) → seen committed_now ts p ≡ seen s (r.tx ∷ ts) p
    committed_seen ts live p =
        let rest = flat_map (changes_of s.active) ts in
        ap (λ l. unwrap_or (latest p l) (at committed_now.entries p)) (ended_changes committed_now.entries ts live)
        ∙ ap (unwrap_or (latest p rest)) (at-table_after_all p (changes_of s.active r.tx) s.entries)
        ∙ or_inside (latest p rest) (latest p (changes_of s.active r.tx)) (at s.entries p)
        ∙ ap (λ o. unwrap_or o (at s.entries p)) (sym (latest-append p (changes_of s.active r.tx) rest))

    read_committed : r.action ≡ Commit → IsRead committed_now (ns ++ behind ∷ [])
    read_committed is = record {
      next = omega (arith, read.next);
      begins = ended_begins;
      begun_still = ended_open (λ n. ap (is_ended_by n r.tx) is) (ap is_begin is);
      apart = ended_apart;
      reads = λ ts live. idle_behind committed_now nameless (ap (change_by s.next) is) refl ts (r.tx ∷ ts) (ap (λ a. cond (is_commit a) (r.tx ∷ ts) ts) is)
          (inl active_now, each_live s committed_now (ended_live committed_now.entries) ts live) (committed_seen ts live);
    }

    read_abandoned : r.action ≡ Abandon → IsRead (ended s.entries) (ns ++ behind ∷ [])
    read_abandoned is = record {
      next = omega (arith, read.next);
      begins = ended_begins;
      begun_still = ended_open (λ n. ap (is_ended_by n r.tx) is) (ap is_begin is);
      apart = ended_apart;
      reads = λ ts live. idle_behind (ended s.entries) nameless (ap (change_by s.next) is) refl ts ts (ap (λ a. cond (is_commit a) (r.tx ∷ ts) ts) is)
          (each_live s (ended s.entries) (ended_live s.entries) ts live) (λ p. ap (λ l. unwrap_or (latest p l) (at s.entries p)) (ended_changes s.entries ts live));
    }

  -- ---- a mark

  module _ (is_mark : r.action ≡ Mark) (nameless : r.named ≡ 0) where
    abbrev marked : LogState
    marked = record { entries = s.entries; active = []; next = s.next + 1 }

    marked_live : (t : ℕ) → IsLive marked t → IsLive s t
    marked_live t live = elim live [ inl is ↦ absurd cc | inr after ↦ inr (omega arith) ]

    marked_none : (t : ℕ) → IsLive marked t → changes_of [] t ≡ changes_of s.active t
    marked_none t live = elim live [
      | inl is ↦ absurd cc
      | inr after ↦ sym (closed_at s.active s.next t read.begins (λ own. omega arith))
    ]

    read_marked : IsRead marked (ns ++ behind ∷ [])
    read_marked = record {
      next = omega (arith, read.next);
      begins = tt;
      begun_still =
          open_begins-push ns behind
          ∙ ap (λ a. filter (λ n. not (is_ended_by n r.tx a)) (open_begins ns) ++ cond (is_begin a) (s.next ∷ []) []) is_mark
          ∙ ap (λ l. l ++ []) (filter_nothing (open_begins ns));
      apart = λ p t u differ. inl refl;
      reads = λ ts live. idle_behind marked nameless (ap (change_by s.next) is_mark) refl ts ts (ap (λ a. cond (is_commit a) (r.tx ∷ ts) ts) is_mark) (each_live s marked marked_live ts live)
          (λ p. ap (λ l. unwrap_or (latest p l) (at s.entries p)) (flat_map_same (changes_of s.active) (changes_of []) ts (each_for_live marked (λ t. changes_of [] t ≡ changes_of s.active t) marked_none ts live)));
    }

  -- ---- by the kinds of records

  is_stored_named : (o : Option StoredValue) (value : List ℕ) (named : ℕ) → is_stored o value named ≡ true → named ≡ unwrap_or (option_map (λ (h : StoredValue). h.lsn) o) 0
  is_stored_named None value named is = absurd cc
  is_stored_named (Some h) value named is = sym (eqb-true h.lsn named (and_parts (bytes_eq h.value value) (h.lsn == named) is).1)

  module _ (x : Change StoredValue) (makes : change_by s.next r.action ≡ Some x) (no_compaction : is_compaction r.action ≡ false) (has : IsTrue (has_tx s r.tx)) (alone : IsTrue (is_alone s r.tx (lock_of x)))
      (names : IsNamed (at (table_after_all s.entries (changes_of s.active r.tx))) r.named x) where
    read_changed : IsRead (after_change s r.tx x) (ns ++ behind ∷ [])
    read_changed = elim (r.tx == 0) as (λ b. (r.tx == 0) ≡ b → (b || is_open_tx s.active r.tx) ≡ true → IsRead (cond b (record { entries = table_after s.entries x; active = s.active; next = s.next + 1 }) (record { entries = s.entries; active = with_change s.active r.tx x; next = s.next + 1 })) (ns ++ behind ∷ [])) [
      | true ↦ λ outside _.
          let none : changes_of s.active r.tx ≡ [] = closed_at s.active s.next r.tx read.begins (λ own. let is : r.tx ≡ 0 = eqb-true r.tx 0 outside in absurd (omega arith)) in
          read_now x makes (ap (λ b. b || (r.tx == 0)) no_compaction ∙ outside) (subst (λ k. IsTrue (is_alone s k (lock_of x))) (eqb-true r.tx 0 outside) alone)
          (subst (λ cs. IsNamed (at (table_after_all s.entries cs)) r.named x) none names)
      | false ↦ λ inside_one active_now. read_inside x makes (ap (λ b. b || (r.tx == 0)) no_compaction ∙ inside_one) active_now alone names
    ] refl has

  read_by : (a : Action) → r.action ≡ a → kind_allows s.next a r.tx r.named ≡ true → fits_by s r.tx r.named a ≡ true → IsRead (after_by s r.tx a) (ns ++ behind ∷ [])
  read_by (Put id key value) is allows fits =
      let parts = and_parts (has_tx s r.tx && is_alone s r.tx (OnKey id key)) (r.named == named_at s r.tx (id, key)) fits in
      let both = and_parts (has_tx s r.tx) (is_alone s r.tx (OnKey id key)) parts.0 in
      read_changed (Set id key (record { value = value; lsn = s.next })) (ap (change_by s.next) is) (ap is_compaction is) both.0 both.1 (eqb-true r.named (named_at s r.tx (id, key)) parts.1)
  read_by (Remove id key) is allows fits =
      let some = and_parts (has_tx s r.tx && is_alone s r.tx (OnKey id key) && (r.named == named_at s r.tx (id, key))) (nat_lt 0 r.named) fits in
      let parts = and_parts (has_tx s r.tx && is_alone s r.tx (OnKey id key)) (r.named == named_at s r.tx (id, key)) some.0 in
      let both = and_parts (has_tx s r.tx) (is_alone s r.tx (OnKey id key)) parts.0 in
      read_changed (Take id key) (ap (change_by s.next) is) (ap is_compaction is) both.0 both.1 (eqb-true r.named (named_at s r.tx (id, key)) parts.1)
  read_by (Delete id) is allows fits =
      let both = and_parts (has_tx s r.tx) (is_alone s r.tx (OnMap id)) fits in
      read_changed (Clear id) (ap (change_by s.next) is) (ap is_compaction is) both.0 both.1 (eqb-true r.named 0 (and_parts (nat_lt r.tx s.next) (r.named == 0) allows).1)
  read_by Begin is allows fits = read_begun is (eqb-true r.named 0 (and_parts (r.tx == s.next) (r.named == 0) allows).1)
  read_by Commit is allows fits = read_committed (eqb-true r.named 0 (and_parts (nat_lt 0 r.tx && nat_lt r.tx s.next) (r.named == 0) allows).1) fits is
  read_by (Compaction id key value) is allows fits =
      let both = and_parts (is_stored (at s.entries (id, key)) value r.named) (is_alone s 0 (OnKey id key)) fits in
      read_now (Set id key (record { value = value; lsn = s.next })) (ap (change_by s.next) is) (ap (λ a. is_compaction a || (r.tx == 0)) is) both.1 (is_stored_named (at s.entries (id, key)) value r.named both.0)
  read_by Mark is allows fits = read_marked is (eqb-true r.named 0 (and_parts (r.tx == 0) (r.named == 0) allows).1)
  read_by Abandon is allows fits = read_abandoned (eqb-true r.named 0 (and_parts (nat_lt 0 r.tx && nat_lt r.tx s.next) (r.named == 0) allows).1) fits is

  pub read_record : is_lawful s r ≡ true → IsRead (after_record s r) (ns ++ record { lsn = s.next; what = r } ∷ [])
  read_record lawful =
      let parts = and_parts (is_allowed s.next r && (r.lowest == lowest s)) (fits_by s r.tx r.named r.action) lawful in
      let placed = (and_parts (is_allowed s.next r) (r.lowest == lowest s) parts.0).0 in
      let words = and_parts (kind_allows s.next r.action r.tx r.named && nat_lt r.named s.next && nat_lt 0 r.lowest && nat_le r.lowest s.next) (has_words r.action) placed in
      let lowest_ok = and_parts (kind_allows s.next r.action r.tx r.named && nat_lt r.named s.next && nat_lt 0 r.lowest) (nat_le r.lowest s.next) words.0 in
      let above = and_parts (kind_allows s.next r.action r.tx r.named && nat_lt r.named s.next) (nat_lt 0 r.lowest) lowest_ok.0 in
      read_by r.action refl (and_parts (kind_allows s.next r.action r.tx r.named) (nat_lt r.named s.next) above.0).0 parts.1

-- ---- a whole log

pub next_after : (s : LogState) (r : Record) → (after_record s r).next ≡ s.next + 1
next_after s r = by_kind r.action
  where
    at_change : (x : Change StoredValue) → (after_change s r.tx x).next ≡ s.next + 1
    at_change x = elim (r.tx == 0) as (λ b. (cond {A = LogState} b (record { entries = table_after s.entries x; active = s.active; next = s.next + 1 }) (record { entries = s.entries; active = with_change s.active r.tx x; next = s.next + 1 })).next ≡ s.next + 1) [ true ↦ refl | false ↦ refl ]

    by_kind : (a : Action) → (after_by s r.tx a).next ≡ s.next + 1
    by_kind (Put id key value) = at_change (Set id key (record { value = value; lsn = s.next }))
    by_kind (Remove id key) = at_change (Take id key)
    by_kind (Delete id) = at_change (Clear id)
    by_kind Begin = refl
    by_kind Commit = refl
    by_kind (Compaction id key value) = refl
    by_kind Mark = refl
    by_kind Abandon = refl

pub read_records : (s : LogState) (ns : List Numbered) (rs : List Record) → IsRead s ns → are_lawful s rs ≡ true → IsRead (state_after s rs) (ns ++ numbered_records_from s.next rs)
read_records s ns [] read lawful = subst (IsRead s) (sym (append-nil ns)) read
read_records s ns (r ∷ rs) read lawful =
    let parts = and_parts (is_lawful s r) (are_lawful (after_record s r) rs) lawful in
    let q : Numbered = record { lsn = s.next; what = r } in
    let rest = read_records (after_record s r) (ns ++ q ∷ []) rs (read_record s ns r read parts.0) parts.1 in
    subst (IsRead (state_after s (r ∷ rs))) (append_assoc ns (q ∷ []) (numbered_records_from (after_record s r).next rs) ∙ ap (λ n. ns ++ q ∷ numbered_records_from n rs) (next_after s r)) rest

no_entries : (n : ℕ) → 0 < n → IsRead (settled_state [] n) []
no_entries n above = record {
  next = above;
  begins = tt;
  begun_still = refl;
  apart = λ p t u differ. inl refl;
  reads = λ ts live. record {
    found = λ p. sym (ap (λ o. unwrap_or o None) (latest_none p (changes_of []) ts (each_untouched p (changes_of []) (λ t. refl) ts)));
    each = tt;
    apart = record {
      below = λ p h held. absurd (nothing ts p h held);
      one = λ p q h k held other same. absurd (nothing ts p h held);
    };
  };
}
  where
    nothing : (ts : List ℕ) (p : Place) (h : StoredValue) → seen (settled_state [] n) ts p ≡ Some h → ⊥
    nothing ts p h held =
        let none : seen (settled_state [] n) ts p ≡ None = ap (λ o. unwrap_or o None) (latest_none p (changes_of []) ts (each_untouched p (changes_of []) (λ t. refl) ts)) in
        cc

-- A lawful log from an LSN on, on no entries, is read as the state that it reaches.
pub lawful_is_read : (n : ℕ) (rs : List Record) → 0 < n → are_lawful (settled_state [] n) rs ≡ true → IsRead (state_after (settled_state [] n) rs) (numbered_records_from n rs)
lawful_is_read n rs above lawful = read_records (settled_state [] n) [] rs (no_entries n above) lawful
