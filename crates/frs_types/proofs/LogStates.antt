-- Laws of lawful logs and of the states that they reach.
use Rattle.std.proofs.Common.{◌≡◌, ℕ, ◌+◌, ◌<◌, Bool, true, false, cond, ◌&&◌, ◌==◌, T, List, [], ◌∷◌, ◌++◌, Option, Some, None, Less, Equal, Greater, refl, sym, ap, ◌∙◌, subst, inl, inr, ◌⊎◌, map, filter, fold, length, bytes_eq, option_to_list, option_map, unwrap_or, is_lt, arith}
use Rattle.std.specs.Prelude.{nat_lt, nat_le}
use Rattle.std.specs.List.{cons_option}
use Rattle.std.specs.Option.{option_or}
use Rattle.std.specs.Ordering.{eq_by_cmp}
use Rattle.std.specs.FinMap.Entries.{put, where_key, by_order, below_all, is_sorted, same_entries, is_sorted-put}
use Rattle.std.proofs.lemmas.Bool.{and_parts, ltb-true}
use Rattle.std.proofs.lemmas.List.{take_at}
use Rattle.std.proofs.lemmas.Option.{same_Some}
use Rattle.std.proofs.lemmas.Slice.Eq.{bytes_eq-Decides}
use Rattle.frs_types.specs.declared.record.Action.{Action}
use Rattle.frs_types.specs.declared.record.Action.TheVariants.{Put, Remove, Delete, Begin, Commit, Compaction, Mark, Abandon}
use Rattle.frs_types.specs.declared.record.Record.{Record}
use Rattle.frs_types.specs.declared.record.Entry.{Entry}
use Rattle.frs_types.specs.declared.lock.Lock.TheVariants.{OnKey}
use Rattle.frs_types.specs.Maps.{Place, Maps, Change, Table, place_cmp, same_place, at, table_after, table_after_all, After}
use Rattle.frs_types.specs.Maps.Change.{Set, Take, Clear}
use Rattle.frs_types.specs.Records.{is_allowed, kind_allows, has_words, Numbered, numbered_records_from}
use Rattle.frs_types.specs.Survivors.{entry_by, is_committed_by, committed_records}
use Rattle.frs_types.specs.Lawful.{StoredValue, LogState, plain_maps, changes_of, with_change, after_change, after_by, after_record, state_after, settled_state, lowest, is_stored, is_alone, fits_by, is_lawful, are_lawful, Lawful}
use Rattle.frs_types.specs.ChangeLists.{plain_change, change_list_by, change_lists_of}
use Rattle.frs_types.proofs.Changes.{latest, at-table_after, place_total, place_from_tie, same_place-Decides}
use Rattle.frs_types.proofs.OneMoreRecord.{stays, entries_left, from_entry}
use Rattle.frs_types.proofs.EntriesLeft.{place_of, stored_by, set_by, found_in}
use Rattle.frs_types.proofs.StateIsRead.{next_after}
use Rattle.frs_types.proofs.BackwardIsForward.{reached, left_holds, sorted_by}

-- ---- parts of a log

and_in_turn : (a b c : Bool) → (a && (b && c)) ≡ ((a && b) && c)
and_in_turn true b c = refl
and_in_turn false b c = refl

-- A log splits at any record: its front is lawful, and so is the rest behind the state that the front reaches.
pub lawful_split : (s : LogState) (rs qs : List Record) → are_lawful s (rs ++ qs) ≡ (are_lawful s rs && are_lawful (state_after s rs) qs)
lawful_split s [] qs = refl
lawful_split s (r ∷ rs) qs = ap (λ b. is_lawful s r && b) (lawful_split (after_record s r) rs qs) ∙ and_in_turn (is_lawful s r) (are_lawful (after_record s r) rs) (are_lawful (state_after (after_record s r) rs) qs)

-- A lawful log stays lawful when its newest records are taken away.
pub lawful_front : (entries : Table StoredValue) (n : ℕ) (rs qs : List Record) → Lawful entries n (rs ++ qs) → Lawful entries n rs
lawful_front entries n rs qs lawful = (and_parts (are_lawful (settled_state entries n) rs) (are_lawful (state_after (settled_state entries n) rs) qs) (sym (lawful_split (settled_state entries n) rs qs) ∙ lawful)).0

-- A record names an LSN before its own.
pub named_before : (s : LogState) (front : List Record) (r : Record) (back : List Record) → are_lawful s (front ++ r ∷ back) ≡ true → r.named < s.next + length front
named_before s [] r back lawful =
    let parts = and_parts (is_lawful s r) (are_lawful (after_record s r) back) lawful in
    let placed = and_parts (is_allowed s.next r && (r.lowest == lowest s)) (fits_by s r.tx r.named r.action) parts.0 in
    let words = and_parts (kind_allows s.next r.action r.tx r.named && nat_lt r.named s.next && nat_lt 0 r.lowest && nat_le r.lowest s.next) (has_words r.action) (and_parts (is_allowed s.next r) (r.lowest == lowest s) placed.0).0 in
    let low = and_parts (kind_allows s.next r.action r.tx r.named && nat_lt r.named s.next && nat_lt 0 r.lowest) (nat_le r.lowest s.next) words.0 in
    let above = and_parts (kind_allows s.next r.action r.tx r.named && nat_lt r.named s.next) (nat_lt 0 r.lowest) low.0 in
    let own : r.named < s.next = ltb-true r.named s.next (and_parts (kind_allows s.next r.action r.tx r.named) (nat_lt r.named s.next) above.0).1 in
    omega arith
named_before s (q ∷ front) r back lawful =
    let rest : r.named < (after_record s q).next + length front = named_before (after_record s q) front r back (and_parts (is_lawful s q) (are_lawful (after_record s q) (front ++ r ∷ back)) lawful).1 in
    let one : (after_record s q).next ≡ s.next + 1 = next_after s q in
    omega arith

-- ---- where entries come from

-- among records from the LSN n on this one, a put or a compaction, made the value at the place
pub record IsMadeIn (n : ℕ) (rs : List Record) (p : Place) (h : StoredValue) : Type 0 where
  pub front : List Record
  pub made : Record
  pub back : List Record
  pub is : rs ≡ front ++ made ∷ back
  pub lsn : h.lsn ≡ n + length front
  pub entry : entry_by h.lsn made.action ≡ Some (record { id = p.0; key = p.1; value = h.value; lsn = h.lsn })

later_made : (n : ℕ) (r : Record) (rs : List Record) (p : Place) (h : StoredValue) → IsMadeIn (n + 1) rs p h → IsMadeIn n (r ∷ rs) p h
later_made n r rs p h made = record {
  front = r ∷ made.front;
  made = made.made;
  back = made.back;
  is = ap (λ qs. r ∷ qs) made.is;
  lsn = omega (arith, made.lsn);
  entry = made.entry;
}

first_made : (n : ℕ) (r : Record) (rs : List Record) (e : Entry) (p : Place) (h : StoredValue) → entry_by n r.action ≡ Some e → e.lsn ≡ n → place_of e ≡ p → stored_by e ≡ h → IsMadeIn n (r ∷ rs) p h
first_made n r rs e p h makes lsn place stored = record {
  front = [];
  made = r;
  back = rs;
  is = refl;
  lsn = (let same : e.lsn ≡ h.lsn = ap (λ (k : StoredValue). k.lsn) stored in omega arith);
  entry =
      ap (λ k. entry_by k r.action) (sym (ap (λ (k : StoredValue). k.lsn) stored) ∙ lsn) ∙ makes
      ∙ λ i. Some (record { id = (place i).0; key = (place i).1; value = (stored i).value; lsn = (stored i).lsn });
}

from_cond : (b : Bool) (e : Entry) (o : Option (Option StoredValue)) (h : StoredValue) → unwrap_or (option_or o (cond b (Some (Some (stored_by e))) None)) None ≡ Some h → (unwrap_or o None ≡ Some h) ⊎ ((b ≡ true) × (stored_by e ≡ h))
from_cond true e None h is = inr (refl, same_Some _ _ is)
from_cond false e None h is = absurd cc
from_cond b e (Some k) h is = inl is

made_of : (o : Option Entry) (n : ℕ) (r : Record) (rs : List Record) (later : List Numbered) (es : List Entry) (p : Place) (h : StoredValue) → entry_by n r.action ≡ o → found_in (filter (stays later) (option_to_list o) ++ es) p ≡ Some h
    → (found_in es p ≡ Some h → IsMadeIn (n + 1) rs p h) → IsMadeIn n (r ∷ rs) p h
made_of None n r rs later es p h makes found rest = later_made n r rs p h (rest found)
made_of (Some e) n r rs later es p h makes found rest =
    elim (stays later e) as (λ b. found_in (cond b (e ∷ []) [] ++ es) p ≡ Some h → IsMadeIn n (r ∷ rs) p h) [
      | true ↦ λ one. elim (from_cond (same_place (place_of e) p) e (latest p (map set_by es)) h one) [
        | inl behind ↦ later_made n r rs p h (rest behind)
        | inr own ↦ first_made n r rs e p h makes (from_entry n r.action e makes) ((same_place-Decides (place_of e) p).0 own.0) own.1
      ]
      | false ↦ λ behind. later_made n r rs p h (rest behind)
    ] found

left_made : (n : ℕ) (rs : List Record) (p : Place) (h : StoredValue) → found_in (entries_left (committed_records (numbered_records_from n rs))) p ≡ Some h → IsMadeIn n rs p h
left_made n [] p h found = absurd cc
left_made n (r ∷ rs) p h found =
    let later = numbered_records_from (n + 1) rs in
    elim (is_committed_by (record { lsn = n; what = r }) later) as (λ b. found_in (entries_left (cond b (record { lsn = n; what = r } ∷ committed_records later) (committed_records later))) p ≡ Some h → IsMadeIn n (r ∷ rs) p h) [
      | true ↦ λ one. made_of (entry_by n r.action) n r rs (committed_records later) (entries_left (committed_records later)) p h refl one (left_made (n + 1) rs p h)
      | false ↦ λ behind. later_made n r rs p h (left_made (n + 1) rs p h behind)
    ] found

-- Each entry of the state comes from a put or compaction record of the log, at its LSN.
pub entry_is_made : (rs : List Record) → Lawful [] 1 rs → (p : Place) (h : StoredValue) → at (reached rs).entries p ≡ Some h → IsMadeIn 1 rs p h
entry_is_made rs lawful p h held = left_made 1 rs p h ((left_holds rs lawful).found p ∙ held)

-- ---- plain maps

abbrev plain_by : (o : Option StoredValue) → Option (List ℕ)
plain_by o = option_map (λ (h : StoredValue). h.value) o

plain_where : (test : Place → Bool) (t : Table StoredValue) → plain_maps (where_key place_cmp test t) ≡ where_key place_cmp test (plain_maps t)
plain_where test [] = refl
plain_where test (e ∷ t) = elim (test e.0) as (λ b. plain_maps (cond b (e ∷ where_key place_cmp test t) (where_key place_cmp test t)) ≡ cond b ((e.0, e.1.value) ∷ where_key place_cmp test (plain_maps t)) (where_key place_cmp test (plain_maps t))) [
  | true ↦ ap (λ (m : Maps). (e.0, e.1.value) ∷ m) (plain_where test t)
  | false ↦ plain_where test t
]

-- A change of entries changes their plain maps alike.
pub plain_after : (x : Change StoredValue) (t : Table StoredValue) → plain_maps (table_after t x) ≡ table_after (plain_maps t) (plain_change x)
plain_after (Set id key h) [] = refl
plain_after (Set id key h) (e ∷ t) =
    elim (place_cmp (id, key) e.0) as (λ o. plain_maps (by_order o (((id, key), h) ∷ e ∷ t) ((e.0, h) ∷ t) (e ∷ put place_cmp (id, key) h t))
    ≡ by_order o (((id, key), h.value) ∷ plain_maps (e ∷ t)) ((e.0, h.value) ∷ plain_maps t) ((e.0, e.1.value) ∷ put place_cmp (id, key) h.value (plain_maps t))) [
      | Less ↦ refl
      | Equal ↦ refl
      | Greater ↦ ap (λ (m : Maps). (e.0, e.1.value) ∷ m) (plain_after (Set id key h) t)
    ]
plain_after (Take id key) t = plain_where _ t
plain_after (Clear id) t = plain_where _ t

pub plain_after_all : (cs : List (Change StoredValue)) (t : Table StoredValue) → plain_maps (table_after_all t cs) ≡ table_after_all (plain_maps t) (map plain_change cs)
plain_after_all [] t = refl
plain_after_all (x ∷ cs) t = plain_after_all cs (table_after t x) ∙ ap (λ m. table_after_all m (map plain_change cs)) (plain_after x t)

-- ---- the bridge to maps after lists of changes

plain_at : (p : Place) (t : Table StoredValue) (h : StoredValue) → at t p ≡ Some h → at (plain_maps t) p ≡ Some h.value
plain_at p [] h is = absurd cc
plain_at p (e ∷ t) h is = elim (eq_by_cmp place_cmp p e.0) as (λ b. cond b (Some e.1) (at t p) ≡ Some h → cond b (Some e.1.value) (at (plain_maps t) p) ≡ Some h.value) [
  | true ↦ λ here. ap plain_by here
  | false ↦ λ later. plain_at p t h later
] is

below_plain : (p : Place) (t : Table StoredValue) → below_all place_cmp p (plain_maps t) ≡ below_all place_cmp p t
below_plain p [] = refl
below_plain p (e ∷ t) = ap (λ b. is_lt (place_cmp p e.0) && b) (below_plain p t)

sorted_plain : (t : Table StoredValue) → is_sorted place_cmp (plain_maps t) ≡ is_sorted place_cmp t
sorted_plain [] = refl
sorted_plain (e ∷ t) = ap (λ b. b && is_sorted place_cmp (plain_maps t)) (below_plain e.0 t) ∙ ap (λ b. below_all place_cmp e.0 t && b) (sorted_plain t)

-- a value that is there already changes nothing
put_again : (m : Maps) (id key value : List ℕ) → T (is_sorted place_cmp m) → at m (id, key) ≡ Some value → table_after m (Set id key value) ≡ m
put_again m id key value sorted held = same_entries place_cmp place_total (λ p q tie. sym (place_from_tie p q tie)) (table_after m (Set id key value)) m (is_sorted-put place_cmp place_total (id, key) value m sorted) sorted
    (λ p. at-table_after p (Set id key value) m ∙ elim (same_place (id, key) p) as (λ b. same_place (id, key) p ≡ b → cond b (Some value) (at m p) ≡ at m p) [
      | true ↦ λ is. sym held ∙ ap (at m) ((same_place-Decides (id, key) p).0 is)
      | false ↦ λ _. refl
    ] refl)

stored_is : (o : Option StoredValue) (value : List ℕ) (n : ℕ) → is_stored o value n ≡ true → (h : StoredValue) × (o ≡ Some h) × (h.value ≡ value)
stored_is None value n is = absurd cc
stored_is (Some h) value n is = (h, refl, (bytes_eq-Decides h.value value).0 (and_parts (bytes_eq h.value value) (h.lsn == n) is).0)

module _ (s : LogState) (r : Record) (sorted : T (is_sorted place_cmp s.entries)) where
  plain_change_by : (x : Change StoredValue) → plain_maps (after_change s r.tx x).entries ≡ fold table_after_all (plain_maps s.entries) (option_to_list (cond (r.tx == 0) (Some (plain_change x ∷ [])) None))
  plain_change_by x = elim (r.tx == 0) as (λ b. plain_maps (cond {A = LogState} b (record { entries = table_after s.entries x; active = s.active; next = s.next + 1 }) (record { entries = s.entries; active = with_change s.active r.tx x; next = s.next + 1 })).entries
      ≡ fold table_after_all (plain_maps s.entries) (option_to_list (cond b (Some (plain_change x ∷ [])) None))) [
        | true ↦ plain_after x s.entries
        | false ↦ refl
      ]

  plain_by_kind : (a : Action) → fits_by s r.tx r.named a ≡ true → plain_maps (after_by s r.tx a).entries ≡ fold table_after_all (plain_maps s.entries) (option_to_list (change_list_by s r.tx a))
  plain_by_kind (Put id key value) fits = plain_change_by (Set id key (record { value = value; lsn = s.next }))
  plain_by_kind (Remove id key) fits = plain_change_by (Take id key)
  plain_by_kind (Delete id) fits = plain_change_by (Clear id)
  plain_by_kind Begin fits = refl
  plain_by_kind Commit fits = plain_after_all (changes_of s.active r.tx) s.entries
  plain_by_kind (Compaction id key value) fits =
      let stored = stored_is (at s.entries (id, key)) value r.named (and_parts (is_stored (at s.entries (id, key)) value r.named) (is_alone s 0 (OnKey id key)) fits).0 in
      plain_after (Set id key (record { value = value; lsn = s.next })) s.entries
      ∙ put_again (plain_maps s.entries) id key value (subst T (sym (sorted_plain s.entries)) sorted) (plain_at (id, key) s.entries stored.0 stored.1 ∙ ap (λ v. Some v) stored.2)
  plain_by_kind Mark fits = refl
  plain_by_kind Abandon fits = refl

fold_one_first : (m : Maps) (o : Option (List (Change (List ℕ)))) (cs : List (List (Change (List ℕ)))) → fold table_after_all m (cons_option o cs) ≡ fold table_after_all (fold table_after_all m (option_to_list o)) cs
fold_one_first m None cs = refl
fold_one_first m (Some c) cs = refl

plain_is_fold : (s : LogState) (rs : List Record) → T (is_sorted place_cmp s.entries) → are_lawful s rs ≡ true → plain_maps (state_after s rs).entries ≡ fold table_after_all (plain_maps s.entries) (change_lists_of s rs)
plain_is_fold s [] sorted lawful = refl
plain_is_fold s (r ∷ rs) sorted lawful =
    let parts = and_parts (is_lawful s r) (are_lawful (after_record s r) rs) lawful in
    let fits = (and_parts (is_allowed s.next r && (r.lowest == lowest s)) (fits_by s r.tx r.named r.action) parts.0).1 in
    plain_is_fold (after_record s r) rs (sorted_by s r.tx r.action sorted) parts.1
    ∙ ap (λ m. fold table_after_all m (change_lists_of (after_record s r) rs)) (plain_by_kind s r sorted r.action fits)
    ∙ sym (fold_one_first (plain_maps s.entries) (change_list_by s r.tx r.action) (change_lists_of (after_record s r) rs))

first_of_lists : (o : Option (List (Change (List ℕ)))) (cs ds : List (List (Change (List ℕ)))) → cons_option o (cs ++ ds) ≡ cons_option o cs ++ ds
first_of_lists None cs ds = refl
first_of_lists (Some c) cs ds = refl

change_lists_joined : (s : LogState) (rs qs : List Record) → change_lists_of s (rs ++ qs) ≡ change_lists_of s rs ++ change_lists_of (state_after s rs) qs
change_lists_joined s [] qs = refl
change_lists_joined s (r ∷ rs) qs =
    ap (cons_option (change_list_by s r.tx r.action)) (change_lists_joined (after_record s r) rs qs)
    ∙ first_of_lists (change_list_by s r.tx r.action) (change_lists_of (after_record s r) rs) (change_lists_of (state_after (after_record s r) rs) qs)

-- The plain maps that a prefix of a lawful log reaches are those of a table after the prefix's commits, in their order.
pub plain_is_after : (entries : Table StoredValue) (n : ℕ) (rs qs : List Record) → T (is_sorted place_cmp entries) → Lawful entries n (rs ++ qs)
    → plain_maps (state_after (settled_state entries n) rs).entries ≡ After (plain_maps entries) (change_lists_of (settled_state entries n) (rs ++ qs)) (length (change_lists_of (settled_state entries n) rs))
plain_is_after entries n rs qs sorted lawful =
    let s = settled_state entries n in
    plain_is_fold s rs sorted (lawful_front entries n rs qs lawful)
    ∙ ap (fold table_after_all (plain_maps entries)) (sym (take_at (change_lists_of s rs) (change_lists_of (state_after s rs) qs) (length (change_lists_of s rs)) refl))
    ∙ ap (λ cs. After (plain_maps entries) cs (length (change_lists_of s rs))) (sym (change_lists_joined s rs qs))
