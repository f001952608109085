-- Backward is forward: what survives in a lawful log, read from its newest record to its oldest, is what the state that
-- the log reaches has. It is so of the whole log, and of its records from the lowest that the newest one names.
use Rattle.std.proofs.Common.{◌≡◌, ℕ, ◌+◌, ◌-◌, ◌<◌, ◌≤◌, Bool, true, false, cond, not, ◌&&◌, ◌||◌, ◌==◌, T, List, [], ◌∷◌, ◌++◌, Option, Some, None, refl, sym, ap, ◌∙◌, subst, map, filter, fold, length, take, drop, option_to_list, arith, take-append-drop, length-take-le, length-drop, append_assoc}
use Rattle.std.specs.List.{AllByRecursion, list_any}
use Rattle.std.specs.Ordering.{eq_by_cmp}
use Rattle.std.specs.FinMap.Entries.{put, is_sorted, is_sorted-put, is_sorted-where_key, same_entries}
use Rattle.std.proofs.lemmas.Bool.{false_from_ne_true}
use Rattle.std.proofs.lemmas.Option.{same_Some}
use Rattle.frs_types.specs.declared.record.Action.{Action}
use Rattle.frs_types.specs.declared.record.Action.TheVariants.{Put, Remove, Delete, Begin, Commit, Compaction, Mark, Abandon}
use Rattle.frs_types.specs.declared.record.Record.{Record}
use Rattle.frs_types.specs.declared.record.Entry.{Entry}
use Rattle.frs_types.specs.Maps.{Place, Change, Table, place_cmp, same_place, at, table_after, table_after_all}
use Rattle.frs_types.specs.Maps.Change.{Set, Take, Clear}
use Rattle.frs_types.specs.Records.{Log, Numbered, numbered_records, numbered_records_from, next_lsn, named_lowest, from_lowest}
use Rattle.frs_types.specs.Survivors.{is_begin, is_ended_by, is_delete_of, entry_by, is_committed_by, committed_records, with_entry, survivors_of, survivors, open_begins, least, lowest_of}
use Rattle.frs_types.specs.Lawful.{StoredValue, Open, LogState, changes_of, with_change, after_change, after_by, after_record, state_after, settled_state, table_of, lowest, Lawful}
use Rattle.frs_types.proofs.Changes.{place_total, place_from_tie, same_place-Decides}
use Rattle.frs_types.proofs.OneMoreRecord.{records_with_none, is_gone_by, stays, from_entry, entries_left, numbered_joined}
use Rattle.frs_types.proofs.EntriesLeft.{place_of, stored_by, found_in, at-table_of, AreFound, Holds}
use Rattle.frs_types.proofs.StateIsRead.{IsRead, lawful_is_read, next_after}
use Rattle.frs_types.proofs.LowestRises.{TableFrom, least_at_most, least_of_each, least_from, table_from-put, needed, each_in_table, behind_table, both_in, named_at_most, named_at_least}

-- ---- the survivors are the entries that are left

abbrev EntriesFrom : ℕ → List Entry → Type 0
EntriesFrom low es = AllByRecursion (λ (e : Entry). low ≤ e.lsn) es

lower : (low high : ℕ) (es : List Entry) → low ≤ high → EntriesFrom high es → EntriesFrom low es
lower low high [] le all = tt
lower low high (e ∷ es) le all = (let own : high ≤ e.lsn = all.0 in omega arith, lower low high es le all.1)

with_own : (n : ℕ) (later : List Numbered) (o : Option Entry) (es : List Entry) → ((e : Entry) → o ≡ Some e → e.lsn ≡ n) → EntriesFrom n es → EntriesFrom n (filter (stays later) (option_to_list o) ++ es)
with_own n later None es own all = all
with_own n later (Some e) es own all =
    let here : e.lsn ≡ n = own e refl in
    elim (stays later e) as (λ b. EntriesFrom n (cond b (e ∷ []) [] ++ es)) [ true ↦ (omega arith, all) | false ↦ all ]

left_from : (n : ℕ) (rs : List Record) → EntriesFrom n (entries_left (committed_records (numbered_records_from n rs)))
left_from n [] = tt
left_from n (r ∷ rs) =
    let later = numbered_records_from (n + 1) rs in
    let rest : EntriesFrom n (entries_left (committed_records later)) = lower n (n + 1) (entries_left (committed_records later)) (omega arith) (left_from (n + 1) rs) in
    elim (is_committed_by (record { lsn = n; what = r }) later) as (λ b. EntriesFrom n (entries_left (cond b (record { lsn = n; what = r } ∷ committed_records later) (committed_records later)))) [
      | true ↦ with_own n (committed_records later) (entry_by n r.action) (entries_left (committed_records later)) (from_entry n r.action) rest
      | false ↦ rest
    ]

either_any : {X : Type 0} (f g : X → Bool) (xs : List X) → list_any (λ x. f x || g x) xs ≡ (list_any f xs || list_any g xs)
either_any f g [] = refl
either_any f g (x ∷ xs) = ap (λ b. (f x || g x) || b) (either_any f g xs) ∙ mixed (f x) (g x) (list_any f xs) (list_any g xs)
  where
    mixed : (a b c d : Bool) → ((a || b) || (c || d)) ≡ ((a || c) || (b || d))
    mixed true b c d = refl
    mixed false true true d = refl
    mixed false true false d = refl
    mixed false false c d = refl

-- an entry that f has at its place isn't at the place of one with a greater LSN that f has at its place
alone_at : (f : Place → Option StoredValue) (e : Entry) (es : List Entry) → f (place_of e) ≡ Some (stored_by e) → AreFound f es → EntriesFrom (e.lsn + 1) es
    → list_any (λ (n : Entry). same_place (e.id, e.key) (n.id, n.key)) es ≡ false
alone_at f e [] own all above = refl
alone_at f e (d ∷ es) own all above =
    let differ : same_place (place_of e) (place_of d) ≡ false = false_from_ne_true (same_place (place_of e) (place_of d)) (λ same.
    let stored : stored_by e ≡ stored_by d = same_Some _ _ (sym own ∙ ap f ((same_place-Decides (place_of e) (place_of d)).0 same) ∙ all.0) in
    let lsns : e.lsn ≡ d.lsn = ap (λ (h : StoredValue). h.lsn) stored in
    let higher : e.lsn + 1 ≤ d.lsn = above.0 in
    omega arith) in
    ap (λ b. b || list_any (λ (n : Entry). same_place (e.id, e.key) (n.id, n.key)) es) differ ∙ alone_at f e es own all.1 above.1

one_survives : (f : Place → Option StoredValue) (n : ℕ) (later : List Numbered) (o : Option Entry) (es : List Entry) → ((e : Entry) → o ≡ Some e → e.lsn ≡ n)
    → AreFound f (filter (stays later) (option_to_list o) ++ es) → EntriesFrom (n + 1) es → with_entry o later es ≡ filter (stays later) (option_to_list o) ++ es
one_survives f n later None es own found above = refl
one_survives f n later (Some e) es own found above =
    let here : e.lsn ≡ n = own e refl in
    let named : Bool = list_any (λ (l : Numbered). l.what.named == e.lsn) later in
    let deleted : Bool = list_any (λ (l : Numbered). is_delete_of e.id l.what.action) later in
    let newer : Bool = list_any (λ (d : Entry). same_place (e.id, e.key) (d.id, d.key)) es in
    let gone : list_any (is_gone_by e) later ≡ (named || deleted) = either_any (λ (l : Numbered). l.what.named == e.lsn) (λ (l : Numbered). is_delete_of e.id l.what.action) later in
    elim (named || deleted) as (λ b. (named || deleted) ≡ b → cond (b || newer) es (e ∷ es) ≡ filter (stays later) (e ∷ []) ++ es) [
      | true ↦ λ is. sym (ap (λ b. cond (not b) (e ∷ []) [] ++ es) (gone ∙ is))
      | false ↦ λ is.
          let kept : filter (stays later) (e ∷ []) ++ es ≡ e ∷ es = ap (λ b. cond (not b) (e ∷ []) [] ++ es) (gone ∙ is) in
          let all : AreFound f (e ∷ es) = subst (AreFound f) kept found in
          ap (λ b. cond b es (e ∷ es)) (alone_at f e es all.0 all.1 (subst (λ k. EntriesFrom (k + 1) es) (sym here) above)) ∙ sym kept
    ] refl

found_behind : (f : Place → Option StoredValue) (es ds : List Entry) → AreFound f (es ++ ds) → AreFound f ds
found_behind f [] ds all = all
found_behind f (e ∷ es) ds all = found_behind f es ds all.1

-- where f has each entry that is left at its place, no entry hides another
pub survivors_are_left : (f : Place → Option StoredValue) (n : ℕ) (rs : List Record) → AreFound f (entries_left (committed_records (numbered_records_from n rs)))
    → survivors_of (committed_records (numbered_records_from n rs)) ≡ entries_left (committed_records (numbered_records_from n rs))
survivors_are_left f n [] found = refl
survivors_are_left f n (r ∷ rs) found =
    let q : Numbered = record { lsn = n; what = r } in
    let later = numbered_records_from (n + 1) rs in
    let rest = committed_records later in
    elim (is_committed_by q later) as (λ b. AreFound f (entries_left (cond b (q ∷ rest) rest)) → survivors_of (cond b (q ∷ rest) rest) ≡ entries_left (cond b (q ∷ rest) rest)) [
      | true ↦ λ all.
          ap (with_entry (entry_by n r.action) rest) (survivors_are_left f (n + 1) rs (found_behind f (filter (stays rest) (option_to_list (entry_by n r.action))) (entries_left rest) all))
          ∙ one_survives f n rest (entry_by n r.action) (entries_left rest) (from_entry n r.action) all (left_from (n + 1) rs)
      | false ↦ λ all. survivors_are_left f (n + 1) rs all
    ] found

-- ---- tables in order

sorted_after : (t : Table StoredValue) (x : Change StoredValue) → T (is_sorted place_cmp t) → T (is_sorted place_cmp (table_after t x))
sorted_after t (Set id key h) sorted = is_sorted-put place_cmp place_total (id, key) h t sorted
sorted_after t (Take id key) sorted = is_sorted-where_key place_cmp (λ p. not (same_place (id, key) p)) t sorted
sorted_after t (Clear id) sorted = is_sorted-where_key place_cmp _ t sorted

sorted_after_all : (cs : List (Change StoredValue)) (t : Table StoredValue) → T (is_sorted place_cmp t) → T (is_sorted place_cmp (table_after_all t cs))
sorted_after_all [] t sorted = sorted
sorted_after_all (x ∷ cs) t sorted = sorted_after_all cs (table_after t x) (sorted_after t x sorted)

pub sorted_by : (s : LogState) (tx : ℕ) (a : Action) → T (is_sorted place_cmp s.entries) → T (is_sorted place_cmp (after_by s tx a).entries)
sorted_by s tx a sorted = by_kind a
  where
    at_change : (x : Change StoredValue) → T (is_sorted place_cmp (after_change s tx x).entries)
    at_change x = elim (tx == 0) as (λ b. T (is_sorted place_cmp (cond {A = LogState} b (record { entries = table_after s.entries x; active = s.active; next = s.next + 1 }) (record { entries = s.entries; active = with_change s.active tx x; next = s.next + 1 })).entries)) [
      | true ↦ sorted_after s.entries x sorted
      | false ↦ sorted
    ]

    by_kind : (b : Action) → T (is_sorted place_cmp (after_by s tx b).entries)
    by_kind (Put id key value) = at_change (Set id key (record { value = value; lsn = s.next }))
    by_kind (Remove id key) = at_change (Take id key)
    by_kind (Delete id) = at_change (Clear id)
    by_kind Begin = sorted
    by_kind Commit = sorted_after_all (changes_of s.active tx) s.entries sorted
    by_kind (Compaction id key value) = sorted_after s.entries (Set id key (record { value = value; lsn = s.next })) sorted
    by_kind Mark = sorted
    by_kind Abandon = sorted

-- The entries of a state are a table.
pub sorted_state : (s : LogState) (rs : List Record) → T (is_sorted place_cmp s.entries) → T (is_sorted place_cmp (state_after s rs).entries)
sorted_state s [] sorted = sorted
sorted_state s (r ∷ rs) sorted = sorted_state (after_record s r) rs (sorted_by s r.tx r.action sorted)

sorted_entries : (es : List Entry) (t : Table StoredValue) → T (is_sorted place_cmp t) → T (is_sorted place_cmp (fold (λ u (e : Entry). put place_cmp (e.id, e.key) (record { value = e.value; lsn = e.lsn }) u) t es))
sorted_entries [] t sorted = sorted
sorted_entries (e ∷ es) t sorted = sorted_entries es (put place_cmp (e.id, e.key) (record { value = e.value; lsn = e.lsn }) t) (is_sorted-put place_cmp place_total (e.id, e.key) (record { value = e.value; lsn = e.lsn }) t sorted)

-- ---- the survivors of a whole log

-- the state that a log reaches from LSN 1 on, on no entries
abbrev pub reached : List Record → LogState
reached rs = state_after (settled_state [] 1) rs

abbrev pub whole : List Record → Log
whole rs = record { first = 1; records = rs }

module _ (rs : List Record) (lawful : Lawful [] 1 rs) where
  is_read : IsRead (reached rs) (numbered_records_from 1 rs)
  is_read = lawful_is_read 1 rs (omega arith) lawful

  pub left_holds : Holds (at (reached rs).entries) (entries_left (committed_records (numbered_records_from 1 rs))) (reached rs).next
  left_holds = subst (λ qs. Holds (at (reached rs).entries) (entries_left qs) (reached rs).next) (records_with_none (numbered_records_from 1 rs)) (is_read.reads [] tt)

  survivors_left : survivors (whole rs) ≡ entries_left (committed_records (numbered_records_from 1 rs))
  survivors_left = survivors_are_left (at (reached rs).entries) 1 rs left_holds.each

  -- each survivor is the entry of the state at its place
  pub survivors_found : AreFound (at (reached rs).entries) (survivors (whole rs))
  survivors_found = subst (AreFound (at (reached rs).entries)) (sym survivors_left) left_holds.each

  -- As a table the survivors are the entries of the state.
  pub survivors_are_entries : table_of (survivors (whole rs)) ≡ (reached rs).entries
  survivors_are_entries = same_entries place_cmp place_total (λ p q tie. sym (place_from_tie p q tie)) (table_of (survivors (whole rs))) (reached rs).entries (sorted_entries (survivors (whole rs)) [] tt) (sorted_state (settled_state [] 1) rs tt)
      (λ p. at-table_of (survivors (whole rs)) p ∙ ap (λ es. found_in es p) survivors_left ∙ left_holds.found p)

-- ---- the lowest of a whole log

abbrev lsns_of : List Entry → List ℕ
lsns_of es = map (λ (e : Entry). e.lsn) es

each_two : (P : ℕ → Type 0) (es : List Entry) (ns : List ℕ) → AllByRecursion P (lsns_of es) → AllByRecursion P ns → AllByRecursion P (lsns_of es ++ ns)
each_two P [] ns all more = more
each_two P (e ∷ es) ns all more = (all.0, each_two P es ns all.1 more)

each_one : (P : ℕ → Type 0) (es : List Entry) (ns : List ℕ) → AllByRecursion P (lsns_of es ++ ns) → AllByRecursion (λ (e : Entry). P e.lsn) es
each_one P [] ns all = tt
each_one P (e ∷ es) ns all = (all.0, each_one P es ns all.1)

each_other : (P : ℕ → Type 0) (es : List Entry) (ns : List ℕ) → AllByRecursion P (lsns_of es ++ ns) → AllByRecursion P ns
each_other P [] ns all = all
each_other P (e ∷ es) ns all = each_other P es ns all.1

as_lsns : (low : ℕ) (es : List Entry) → EntriesFrom low es → AllByRecursion (λ m. low ≤ m) (lsns_of es)
as_lsns low [] all = tt
as_lsns low (e ∷ es) all = (all.0, as_lsns low es all.1)

-- a table of entries that aren't below has nothing below
table_of_from : (low : ℕ) (es : List Entry) (t : Table StoredValue) → EntriesFrom low es → TableFrom low t
    → TableFrom low (fold (λ u (e : Entry). put place_cmp (e.id, e.key) (record { value = e.value; lsn = e.lsn }) u) t es)
table_of_from low [] t all from = from
table_of_from low (e ∷ es) t all from =
    table_of_from low es (put place_cmp (e.id, e.key) (record { value = e.value; lsn = e.lsn }) t) all.1 (table_from-put low (e.id, e.key) (record { value = e.value; lsn = e.lsn }) t all.0 from)

-- nor has an entry that a table has at its place
at_from : (low : ℕ) (t : Table StoredValue) (p : Place) (h : StoredValue) → TableFrom low t → at t p ≡ Some h → low ≤ h.lsn
at_from low [] p h from is = absurd cc
at_from low (e ∷ t) p h from is = elim (eq_by_cmp place_cmp p e.0) as (λ b. cond b (Some e.1) (at t p) ≡ Some h → low ≤ h.lsn) [
  | true ↦ λ here. (let same : e.1.lsn ≡ h.lsn = ap (λ (k : StoredValue). k.lsn) (same_Some _ _ here) in let own : low ≤ e.1.lsn = from.0 in omega arith)
  | false ↦ λ later. at_from low t p h from.1 later
] is

entries_from : (low : ℕ) (t : Table StoredValue) (es : List Entry) → TableFrom low t → AreFound (at t) es → EntriesFrom low es
entries_from low t [] from found = tt
entries_from low t (e ∷ es) from found = (at_from low t (place_of e) (stored_by e) from found.0, entries_from low t es from found.1)

module _ (rs : List Record) (lawful : Lawful [] 1 rs) where
  next_reached : (s : LogState) (qs : List Record) → (state_after s qs).next ≡ s.next + length qs
  next_reached s [] = omega arith
  next_reached s (r ∷ qs) =
      let rest : (state_after (after_record s r) qs).next ≡ (after_record s r).next + length qs = next_reached (after_record s r) qs in
      let one : (after_record s r).next ≡ s.next + 1 = next_after s r in
      omega arith

  begins_are_open : open_begins (numbered_records_from 1 rs) ≡ map (λ (o : Open). o.begin) (reached rs).active
  begins_are_open = (lawful_is_read 1 rs (omega arith) lawful).begun_still

  -- no survivor and no open begin is below the lowest of the state
  pub survivors_from : EntriesFrom (lowest (reached rs)) (survivors (whole rs))
  survivors_from = entries_from (lowest (reached rs)) (reached rs).entries (survivors (whole rs))
      (each_in_table (λ m. lowest (reached rs) ≤ m) (reached rs).entries (map (λ (o : Open). o.begin) (reached rs).active) (least_of_each (reached rs).next (needed (reached rs)))) (survivors_found rs lawful)

  pub begins_from : AllByRecursion (λ m. lowest (reached rs) ≤ m) (open_begins (numbered_records_from 1 rs))
  begins_from = subst (λ ns. AllByRecursion (λ m. lowest (reached rs) ≤ m) ns) (sym begins_are_open)
      (behind_table (λ m. lowest (reached rs) ≤ m) (reached rs).entries (map (λ (o : Open). o.begin) (reached rs).active) (least_of_each (reached rs).next (needed (reached rs))))

  -- The lowest of the log is that of the state.
  pub lowest_is_lowest : lowest_of (whole rs) ≡ lowest (reached rs)
  lowest_is_lowest =
      let log : Log = whole rs in
      let begins = open_begins (numbered_records_from 1 rs) in
      let all = lsns_of (survivors log) ++ begins in
      let next : (reached rs).next ≡ 1 + length rs = next_reached (settled_state [] 1) rs in
      let low : ℕ = lowest_of log in
      let first : low ≤ 1 + length rs = least_at_most (next_lsn log) all in
      let each : AllByRecursion (λ m. low ≤ m) all = least_of_each (next_lsn log) all in
      let entries : TableFrom low (reached rs).entries = subst (TableFrom low) (survivors_are_entries rs lawful) (table_of_from low (survivors log) [] (each_one (λ m. low ≤ m) (survivors log) begins each) tt) in
      let up : low ≤ lowest (reached rs) = least_from low (reached rs).next (needed (reached rs)) (omega arith)
      (both_in (λ m. low ≤ m) (reached rs).entries (map (λ (o : Open). o.begin) (reached rs).active) entries (subst (λ ns. AllByRecursion (λ m. low ≤ m) ns) begins_are_open (each_other (λ m. low ≤ m) (survivors log) begins each))) in
      let below : lowest (reached rs) ≤ (reached rs).next = least_at_most (reached rs).next (needed (reached rs)) in
      let down : lowest (reached rs) ≤ low = least_from (lowest (reached rs)) (next_lsn log) all (omega arith)
      (each_two (λ m. lowest (reached rs) ≤ m) (survivors log) begins (as_lsns (lowest (reached rs)) (survivors log) survivors_from) begins_from) in
      omega arith

-- ---- the cut at the named lowest

-- what the front of a log adds before what survives of the rest has LSNs of the front
record FrontAdds (low : ℕ) (front back : List Numbered) : Type 0 where
  entries : List Entry
  joined : survivors_of (committed_records (front ++ back)) ≡ entries ++ survivors_of (committed_records back)
  below : AllByRecursion (λ (e : Entry). e.lsn < low) entries
  begins : List ℕ
  begun : open_begins (front ++ back) ≡ begins ++ open_begins back
  before : AllByRecursion (λ n. n < low) begins

record AddsEntry (low : ℕ) (o : Option Entry) (later : List Numbered) (es : List Entry) : Type 0 where
  more : List Entry
  are : with_entry o later es ≡ more ++ es
  below : AllByRecursion (λ (e : Entry). e.lsn < low) more

adds_entry : (low : ℕ) (o : Option Entry) (later : List Numbered) (es : List Entry) → ((e : Entry) → o ≡ Some e → e.lsn < low) → AddsEntry low o later es
adds_entry low None later es own = record { more = []; are = refl; below = tt }
adds_entry low (Some e) later es own =
    elim (list_any (λ (l : Numbered). l.what.named == e.lsn) later || list_any (λ (l : Numbered). is_delete_of e.id l.what.action) later || list_any (λ (n : Entry). same_place (e.id, e.key) (n.id, n.key)) es) as (λ b.
    cond (list_any (λ (l : Numbered). l.what.named == e.lsn) later || list_any (λ (l : Numbered). is_delete_of e.id l.what.action) later || list_any (λ (n : Entry). same_place (e.id, e.key) (n.id, n.key)) es) es (e ∷ es) ≡ cond b es (e ∷ es) → AddsEntry low (Some e) later es) [
      | true ↦ λ is. record { more = []; are = is; below = tt }
      | false ↦ λ is. record { more = e ∷ []; are = is; below = (own e refl, tt) }
    ] refl

both_below : (low : ℕ) (more es : List Entry) → AllByRecursion (λ (e : Entry). e.lsn < low) more → AllByRecursion (λ (e : Entry). e.lsn < low) es → AllByRecursion (λ (e : Entry). e.lsn < low) (more ++ es)
both_below low [] es all rest = rest
both_below low (e ∷ more) es all rest = (all.0, both_below low more es all.1 rest)

front_adds : (low n : ℕ) (rs : List Record) (back : List Numbered) → n + length rs ≤ low → FrontAdds low (numbered_records_from n rs) back
front_adds low n [] back le = record { entries = []; joined = refl; below = tt; begins = []; begun = refl; before = tt }
front_adds low n (r ∷ rs) back le =
    let rest = front_adds low (n + 1) rs back (omega (arith, le)) in
    let q : Numbered = record { lsn = n; what = r } in
    let later = numbered_records_from (n + 1) rs ++ back in
    let here : n < low = omega (arith, le) in
    let kept : (es : List Entry) × (survivors_of (cond (is_committed_by q later) (q ∷ committed_records later) (committed_records later)) ≡ es ++ survivors_of (committed_records back)) × AllByRecursion (λ (e : Entry). e.lsn < low) es =
    elim (is_committed_by q later) as (λ b. (es : List Entry) × (survivors_of (cond b (q ∷ committed_records later) (committed_records later)) ≡ es ++ survivors_of (committed_records back)) × AllByRecursion (λ (e : Entry). e.lsn < low) es) [
      | true ↦
          let one = adds_entry low (entry_by n r.action) (committed_records later) (survivors_of (committed_records later)) (λ e is. let own : e.lsn ≡ n = from_entry n r.action e is in omega arith) in
          (one.more ++ rest.entries, one.are ∙ ap (λ es. one.more ++ es) rest.joined ∙ sym (append_assoc one.more rest.entries (survivors_of (committed_records back))), both_below low one.more rest.entries one.below rest.below)
      | false ↦ (rest.entries, rest.joined, rest.below)
    ] in
    let opened : (ns : List ℕ) × (open_begins (q ∷ later) ≡ ns ++ open_begins back) × AllByRecursion (λ m. m < low) ns =
    elim (is_begin r.action && not (list_any (λ (l : Numbered). is_ended_by n l.what.tx l.what.action) later)) as (λ b. (ns : List ℕ) × (cond b (n ∷ open_begins later) (open_begins later) ≡ ns ++ open_begins back) × AllByRecursion (λ m. m < low) ns) [
      | true ↦ (n ∷ rest.begins, ap (λ ns. n ∷ ns) rest.begun, (here, rest.before))
      | false ↦ (rest.begins, rest.begun, rest.before)
    ] in
    record { entries = kept.0; joined = kept.1; below = kept.2; begins = opened.0; begun = opened.1; before = opened.2 }

no_entry_below : (low : ℕ) (es ds : List Entry) → AllByRecursion (λ (e : Entry). e.lsn < low) es → EntriesFrom low (es ++ ds) → es ++ ds ≡ ds
no_entry_below low [] ds below from = refl
no_entry_below low (e ∷ es) ds below from = (let own : e.lsn < low = below.0 in let other : low ≤ e.lsn = from.0 in absurd (omega arith))

no_begin_below : (low : ℕ) (ns ms : List ℕ) → AllByRecursion (λ n. n < low) ns → AllByRecursion (λ n. low ≤ n) (ns ++ ms) → ns ++ ms ≡ ms
no_begin_below low [] ms below from = refl
no_begin_below low (n ∷ ns) ms below from = (let own : n < low = below.0 in let other : low ≤ n = from.0 in absurd (omega arith))

lower_numbers : (low high : ℕ) (ns : List ℕ) → low ≤ high → AllByRecursion (λ n. high ≤ n) ns → AllByRecursion (λ n. low ≤ n) ns
lower_numbers low high [] le all = tt
lower_numbers low high (n ∷ ns) le all = (let own : high ≤ n = all.0 in omega arith, lower_numbers low high ns le all.1)

module _ (rs : List Record) (lawful : Lawful [] 1 rs) where
  abbrev cut : ℕ
  cut = named_lowest rs - 1

  cut_above : 1 ≤ named_lowest rs
  cut_above = named_at_least rs lawful

  cut_within : cut ≤ length rs
  cut_within =
      let at_most : named_lowest rs ≤ lowest (reached rs) = named_at_most rs lawful in
      let below : lowest (reached rs) ≤ (reached rs).next = least_at_most (reached rs).next (needed (reached rs)) in
      let next : (reached rs).next ≡ 1 + length rs = next_reached rs lawful (settled_state [] 1) rs in
      omega arith

  split : numbered_records_from 1 rs ≡ numbered_records_from 1 (take cut rs) ++ numbered_records (from_lowest 1 rs)
  split =
      let taken : length (take cut rs) ≡ cut = length-take-le cut rs cut_within in
      let above : 1 ≤ named_lowest rs = cut_above in
      let first : 1 + length (take cut rs) ≡ named_lowest rs = omega arith in
      ap (numbered_records_from 1) (sym (take-append-drop cut rs)) ∙ numbered_joined 1 (take cut rs) (drop cut rs)
      ∙ ap (λ n. numbered_records_from 1 (take cut rs) ++ numbered_records_from n (drop cut rs)) first

  adds : FrontAdds (named_lowest rs) (numbered_records_from 1 (take cut rs)) (numbered_records (from_lowest 1 rs))
  adds =
      let taken : length (take cut rs) ≡ cut = length-take-le cut rs cut_within in
      let above : 1 ≤ named_lowest rs = cut_above in
      front_adds (named_lowest rs) 1 (take cut rs) (numbered_records (from_lowest 1 rs)) (omega arith)

  -- The cut at the named lowest keeps the survivors.
  pub cut_keeps_survivors : survivors (from_lowest 1 rs) ≡ survivors (whole rs)
  cut_keeps_survivors =
      let joined : survivors (whole rs) ≡ adds.entries ++ survivors (from_lowest 1 rs) = ap (λ ns. survivors_of (committed_records ns)) split ∙ adds.joined in
      let from : EntriesFrom (named_lowest rs) (survivors (whole rs)) = lower (named_lowest rs) (lowest (reached rs)) (survivors (whole rs)) (named_at_most rs lawful) (survivors_from rs lawful) in
      sym (joined ∙ no_entry_below (named_lowest rs) adds.entries (survivors (from_lowest 1 rs)) adds.below (subst (EntriesFrom (named_lowest rs)) joined from))

  cut_keeps_begins : open_begins (numbered_records (from_lowest 1 rs)) ≡ open_begins (numbered_records_from 1 rs)
  cut_keeps_begins =
      let joined : open_begins (numbered_records_from 1 rs) ≡ adds.begins ++ open_begins (numbered_records (from_lowest 1 rs)) = ap open_begins split ∙ adds.begun in
      let from : AllByRecursion (λ n. named_lowest rs ≤ n) (open_begins (numbered_records_from 1 rs)) = lower_numbers (named_lowest rs) (lowest (reached rs)) (open_begins (numbered_records_from 1 rs)) (named_at_most rs lawful) (begins_from rs lawful) in
      sym (joined ∙ no_begin_below (named_lowest rs) adds.begins (open_begins (numbered_records (from_lowest 1 rs))) adds.before (subst (λ ns. AllByRecursion (λ n. named_lowest rs ≤ n) ns) joined from))

  same_next : next_lsn (from_lowest 1 rs) ≡ next_lsn (whole rs)
  same_next =
      let left : length (drop cut rs) ≡ length rs - cut = length-drop cut rs in
      let above : 1 ≤ named_lowest rs = cut_above in
      let within : cut ≤ length rs = cut_within in
      omega arith

  -- The cut keeps the lowest.
  pub cut_keeps_lowest : lowest_of (from_lowest 1 rs) ≡ lowest_of (whole rs)
  cut_keeps_lowest =
      ap (λ n. least n (lsns_of (survivors (from_lowest 1 rs)) ++ open_begins (numbered_records (from_lowest 1 rs)))) same_next
      ∙ ap (λ es. least (next_lsn (whole rs)) (lsns_of es ++ open_begins (numbered_records (from_lowest 1 rs)))) cut_keeps_survivors
      ∙ ap (λ ns. least (next_lsn (whole rs)) (lsns_of (survivors (whole rs)) ++ ns)) cut_keeps_begins

  -- ---- the whole theorem

  -- What survives of the records from the named lowest are the entries of the state that the whole log reaches.
  pub cut_gives_entries : table_of (survivors (from_lowest 1 rs)) ≡ (reached rs).entries
  cut_gives_entries = ap table_of cut_keeps_survivors ∙ survivors_are_entries rs lawful

  -- Their lowest is that of the state.
  pub cut_gives_lowest : lowest_of (from_lowest 1 rs) ≡ lowest (reached rs)
  cut_gives_lowest = cut_keeps_lowest ∙ lowest_is_lowest rs lawful
