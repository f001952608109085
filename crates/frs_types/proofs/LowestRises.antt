-- The lowest of a state never falls along a log, so neither do the lowests that the records of a lawful log name.
use Rattle.std.proofs.Common.{◌≡◌, ℕ, ◌+◌, ◌<◌, ◌≤◌, min, Bool, true, false, cond, not, ◌&&◌, ◌==◌, List, [], ◌∷◌, ◌++◌, Option, Some, None, Less, Equal, Greater, refl, subst, map, option_map, unwrap_or, arith, eqb-true}
use Rattle.std.specs.List.{AllByRecursion, last_or}
use Rattle.std.specs.Prelude.{nat_le, nat_lt}
use Rattle.std.specs.FinMap.Entries.{put, where_key, by_order}
use Rattle.std.proofs.lemmas.Bool.{and_parts, and_from, le-leb, ltb-true}
use Rattle.frs_types.specs.declared.record.Action.{Action}
use Rattle.frs_types.specs.declared.record.Action.TheVariants.{Put, Remove, Delete, Begin, Commit, Compaction, Mark, Abandon}
use Rattle.frs_types.specs.declared.record.Record.{Record}
use Rattle.frs_types.specs.Maps.{Place, Change, Table, place_cmp, table_after, table_after_all}
use Rattle.frs_types.specs.Maps.Change.{Set, Take, Clear}
use Rattle.frs_types.specs.Records.{is_allowed, are_placed_from, named_lowest, kind_allows, has_words}
use Rattle.frs_types.specs.Survivors.{least}
use Rattle.frs_types.specs.Lawful.{StoredValue, Open, LogState, changes_of, with_change, without_transaction, after_change, after_by, after_record, state_after, settled_state, lowest, fits_by, is_lawful, are_lawful}
use Rattle.frs_types.proofs.StateIsRead.{next_after}

-- ---- the least of numbers

pub least_at_most : (n : ℕ) (ns : List ℕ) → least n ns ≤ n
least_at_most n [] = omega arith
least_at_most n (m ∷ ns) = let rest : least (min n m) ns ≤ min n m = least_at_most (min n m) ns in omega arith

pub least_of_each : (n : ℕ) (ns : List ℕ) → AllByRecursion (λ m. least n ns ≤ m) ns
least_of_each n [] = tt
least_of_each n (m ∷ ns) = (let rest : least (min n m) ns ≤ min n m = least_at_most (min n m) ns in omega arith, least_of_each (min n m) ns)

pub least_from : (low n : ℕ) (ns : List ℕ) → low ≤ n → AllByRecursion (λ m. low ≤ m) ns → low ≤ least n ns
least_from low n [] first each = first
least_from low n (m ∷ ns) first each = let here : low ≤ m = each.0 in least_from low (min n m) ns (omega arith) each.1

-- ---- nothing of a state is below

abbrev pub IsFrom : ℕ → StoredValue → Type 0
IsFrom low h = low ≤ h.lsn

abbrev pub TableFrom : ℕ → Table StoredValue → Type 0
TableFrom low t = AllByRecursion (λ (e : Place × StoredValue). IsFrom low e.1) t

abbrev pub ChangeFrom : ℕ → Change StoredValue → Type 0
ChangeFrom low (Set id key h) = IsFrom low h
ChangeFrom low (Take id key) = Unit {0}
ChangeFrom low (Clear id) = Unit {0}

abbrev pub ChangesFrom : ℕ → List (Change StoredValue) → Type 0
ChangesFrom low cs = AllByRecursion (ChangeFrom low) cs

-- what an active transaction has begun and set isn't below
abbrev pub OpenFrom : ℕ → Open → Type 0
OpenFrom low o = (low ≤ o.begin) × ChangesFrom low o.changes

pub record StateFrom (low : ℕ) (s : LogState) : Type 0 where
  pub next : low ≤ s.next
  pub entries : TableFrom low s.entries
  pub active : AllByRecursion (OpenFrom low) s.active

-- ---- tables

pub table_from-put : (low : ℕ) (p : Place) (h : StoredValue) (t : Table StoredValue) → IsFrom low h → TableFrom low t → TableFrom low (put place_cmp p h t)
table_from-put low p h [] own all = (own, tt)
table_from-put low p h (e ∷ t) own all =
    elim (place_cmp p e.0) as (λ o. TableFrom low (by_order o ((p, h) ∷ e ∷ t) ((e.0, h) ∷ t) (e ∷ put place_cmp p h t))) [
      | Less ↦ (own, all)
      | Equal ↦ (own, all.1)
      | Greater ↦ (all.0, table_from-put low p h t own all.1)
    ]

table_from_where : (low : ℕ) (test : Place → Bool) (t : Table StoredValue) → TableFrom low t → TableFrom low (where_key place_cmp test t)
table_from_where low test [] all = tt
table_from_where low test (e ∷ t) all = elim (test e.0) as (λ b. TableFrom low (cond b (e ∷ where_key place_cmp test t) (where_key place_cmp test t))) [
  | true ↦ (all.0, table_from_where low test t all.1)
  | false ↦ table_from_where low test t all.1
]

table_from_change : (low : ℕ) (x : Change StoredValue) (t : Table StoredValue) → ChangeFrom low x → TableFrom low t → TableFrom low (table_after t x)
table_from_change low (Set id key h) t own all = table_from-put low (id, key) h t own all
table_from_change low (Take id key) t own all = table_from_where low _ t all
table_from_change low (Clear id) t own all = table_from_where low _ t all

table_from_changes : (low : ℕ) (cs : List (Change StoredValue)) (t : Table StoredValue) → ChangesFrom low cs → TableFrom low t → TableFrom low (table_after_all t cs)
table_from_changes low [] t each all = all
table_from_changes low (x ∷ cs) t each all = table_from_changes low cs (table_after t x) each.1 (table_from_change low x t each.0 all)

-- ---- active transactions

each_one_more : {X : Type 0} (P : X → Type 0) (xs : List X) (x : X) → AllByRecursion P xs → P x → AllByRecursion P (xs ++ x ∷ [])
each_one_more P [] x all own = (own, tt)
each_one_more P (y ∷ xs) x all own = (all.0, each_one_more P xs x all.1 own)

-- a property of begins and changes that one more change keeps, after each kind of change of active transactions
module _ (P : Open → Type 0) where
  each_with_change : (active : List Open) (tx : ℕ) (x : Change StoredValue) → ((o : Open) → P o → P (record o { changes = o.changes ++ x ∷ [] })) → AllByRecursion P active → AllByRecursion P (with_change active tx x)
  each_with_change [] tx x more all = tt
  each_with_change (o ∷ active) tx x more all = (
    elim (o.begin == tx) as (λ b. P (cond b (record o { changes = o.changes ++ x ∷ [] }) o)) [ true ↦ more o all.0 | false ↦ all.0 ],
    each_with_change active tx x more all.1,
  )

  each_without : (active : List Open) (tx : ℕ) → AllByRecursion P active → AllByRecursion P (without_transaction active tx)
  each_without [] tx all = tt
  each_without (o ∷ active) tx all = elim (o.begin == tx) as (λ b. AllByRecursion P (cond (not b) (o ∷ without_transaction active tx) (without_transaction active tx))) [
    | true ↦ each_without active tx all.1
    | false ↦ (all.0, each_without active tx all.1)
  ]

from_changes_of : (low : ℕ) (active : List Open) (tx : ℕ) → AllByRecursion (OpenFrom low) active → ChangesFrom low (changes_of active tx)
from_changes_of low [] tx all = tt
from_changes_of low (o ∷ active) tx all = elim (o.begin == tx) as (λ b. ChangesFrom low (cond b o.changes (changes_of active tx))) [ true ↦ all.0.1 | false ↦ from_changes_of low active tx all.1 ]

-- ---- one record

module _ (low : ℕ) (s : LogState) (from : StateFrom low s) where
  from_change : (tx : ℕ) (x : Change StoredValue) → ChangeFrom low x → StateFrom low (after_change s tx x)
  from_change tx x own =
      elim (tx == 0) as (λ b. StateFrom low (cond {A = LogState} b (record { entries = table_after s.entries x; active = s.active; next = s.next + 1 }) (record { entries = s.entries; active = with_change s.active tx x; next = s.next + 1 }))) [
        | true ↦ record { next = omega (arith, from.next); entries = table_from_change low x s.entries own from.entries; active = from.active }
        | false ↦ record {
          next = omega (arith, from.next);
          entries = from.entries;
          active = each_with_change (OpenFrom low) s.active tx x (λ o all. (all.0, each_one_more (ChangeFrom low) o.changes x all.1 own)) from.active;
        }
      ]

  from_by : (tx : ℕ) (a : Action) → StateFrom low (after_by s tx a)
  from_by tx (Put id key value) = from_change tx (Set id key (record { value = value; lsn = s.next })) from.next
  from_by tx (Remove id key) = from_change tx (Take id key) tt
  from_by tx (Delete id) = from_change tx (Clear id) tt
  from_by tx Begin = record { next = omega (arith, from.next); entries = from.entries; active = each_one_more (OpenFrom low) s.active (record { begin = s.next; changes = [] }) from.active (from.next, tt) }
  from_by tx Commit = record { next = omega (arith, from.next); entries = table_from_changes low (changes_of s.active tx) s.entries (from_changes_of low s.active tx from.active) from.entries; active = each_without (OpenFrom low) s.active tx from.active }
  from_by tx (Compaction id key value) = record { next = omega (arith, from.next); entries = table_from-put low (id, key) (record { value = value; lsn = s.next }) s.entries from.next from.entries; active = from.active }
  from_by tx Mark = record { next = omega (arith, from.next); entries = from.entries; active = tt }
  from_by tx Abandon = record { next = omega (arith, from.next); entries = from.entries; active = each_without (OpenFrom low) s.active tx from.active }

-- ---- each active transaction has set what it set behind its begin

abbrev pub IsBehindBegin : ℕ → Open → Type 0
IsBehindBegin next o = (o.begin ≤ next) × ChangesFrom o.begin o.changes

pub record AreBehindBegins (s : LogState) : Type 0 where
  pub each : AllByRecursion (IsBehindBegin s.next) s.active

each_wider : (next : ℕ) (active : List Open) → AllByRecursion (IsBehindBegin next) active → AllByRecursion (IsBehindBegin (next + 1)) active
each_wider next [] all = tt
each_wider next (o ∷ active) all = ((let own : o.begin ≤ next = all.0.0 in omega arith, all.0.1), each_wider next active all.1)

module _ (s : LogState) (behind : AreBehindBegins s) where
  behind_change : (tx : ℕ) (x : Change StoredValue) → ((low : ℕ) → low ≤ s.next → ChangeFrom low x) → AreBehindBegins (after_change s tx x)
  behind_change tx x own =
      elim (tx == 0) as (λ b. AreBehindBegins (cond {A = LogState} b (record { entries = table_after s.entries x; active = s.active; next = s.next + 1 }) (record { entries = s.entries; active = with_change s.active tx x; next = s.next + 1 }))) [
        | true ↦ record { each = each_wider s.next s.active behind.each }
        | false ↦ record { each = each_wider s.next (with_change s.active tx x) (each_with_change (IsBehindBegin s.next) s.active tx x (λ o all. (all.0, each_one_more (ChangeFrom o.begin) o.changes x all.1 (own o.begin all.0))) behind.each) }
      ]

  behind_by : (tx : ℕ) (a : Action) → AreBehindBegins (after_by s tx a)
  behind_by tx (Put id key value) = behind_change tx (Set id key (record { value = value; lsn = s.next })) (λ low is. is)
  behind_by tx (Remove id key) = behind_change tx (Take id key) (λ low is. tt)
  behind_by tx (Delete id) = behind_change tx (Clear id) (λ low is. tt)
  behind_by tx Begin = record { each = each_one_more (IsBehindBegin (s.next + 1)) s.active (record { begin = s.next; changes = [] }) (each_wider s.next s.active behind.each) (omega arith, tt) }
  behind_by tx Commit = record { each = each_wider s.next (without_transaction s.active tx) (each_without (IsBehindBegin s.next) s.active tx behind.each) }
  behind_by tx (Compaction id key value) = record { each = each_wider s.next s.active behind.each }
  behind_by tx Mark = record { each = tt }
  behind_by tx Abandon = record { each = each_wider s.next (without_transaction s.active tx) (each_without (IsBehindBegin s.next) s.active tx behind.each) }

-- ---- the lowest

changes_from_wider : (low high : ℕ) (cs : List (Change StoredValue)) → low ≤ high → ChangesFrom high cs → ChangesFrom low cs
changes_from_wider low high [] le all = tt
changes_from_wider low high (Set id key h ∷ cs) le all = (let own : high ≤ h.lsn = all.0 in omega arith, changes_from_wider low high cs le all.1)
changes_from_wider low high (Take id key ∷ cs) le all = (tt, changes_from_wider low high cs le all.1)
changes_from_wider low high (Clear id ∷ cs) le all = (tt, changes_from_wider low high cs le all.1)

abbrev pub needed : LogState → List ℕ
needed s = map (λ (e : Place × StoredValue). e.1.lsn) s.entries ++ map (λ (o : Open). o.begin) s.active

pub each_in_table : (P : ℕ → Type 0) (t : Table StoredValue) (ns : List ℕ) → AllByRecursion P (map (λ (e : Place × StoredValue). e.1.lsn) t ++ ns) → AllByRecursion (λ (e : Place × StoredValue). P e.1.lsn) t
each_in_table P [] ns all = tt
each_in_table P (e ∷ t) ns all = (all.0, each_in_table P t ns all.1)

pub behind_table : (P : ℕ → Type 0) (t : Table StoredValue) (ns : List ℕ) → AllByRecursion P (map (λ (e : Place × StoredValue). e.1.lsn) t ++ ns) → AllByRecursion P ns
behind_table P [] ns all = all
behind_table P (e ∷ t) ns all = behind_table P t ns all.1

pub both_in : (P : ℕ → Type 0) (t : Table StoredValue) (ns : List ℕ) → AllByRecursion (λ (e : Place × StoredValue). P e.1.lsn) t → AllByRecursion P ns → AllByRecursion P (map (λ (e : Place × StoredValue). e.1.lsn) t ++ ns)
both_in P [] ns all more = more
both_in P (e ∷ t) ns all more = (all.0, both_in P t ns all.1 more)

open_from : (low next : ℕ) (active : List Open) → AllByRecursion (λ m. low ≤ m) (map (λ (o : Open). o.begin) active) → AllByRecursion (IsBehindBegin next) active → AllByRecursion (OpenFrom low) active
open_from low next [] all behind = tt
open_from low next (o ∷ active) all behind = ((all.0, changes_from_wider low o.begin o.changes all.0 behind.0.1), open_from low next active all.1 behind.1)

begins_from : (low : ℕ) (active : List Open) → AllByRecursion (OpenFrom low) active → AllByRecursion (λ m. low ≤ m) (map (λ (o : Open). o.begin) active)
begins_from low [] all = tt
begins_from low (o ∷ active) all = (all.0.0, begins_from low active all.1)

-- nothing of a state is below its lowest
pub from_its_lowest : (s : LogState) → AreBehindBegins s → StateFrom (lowest s) s
from_its_lowest s behind =
    let each = least_of_each s.next (needed s) in
    let P : ℕ → Type 0 = λ m. lowest s ≤ m in
    record {
      next = least_at_most s.next (needed s);
      entries = each_in_table P s.entries (map (λ (o : Open). o.begin) s.active) each;
      active = open_from (lowest s) s.next s.active (behind_table P s.entries (map (λ (o : Open). o.begin) s.active) each) behind.each;
    }

pub lowest_from : (low : ℕ) (s : LogState) → StateFrom low s → low ≤ lowest s
lowest_from low s from = least_from low s.next (needed s) from.next (both_in (λ m. low ≤ m) s.entries (map (λ (o : Open). o.begin) s.active) from.entries (begins_from low s.active from.active))

pub lowest_after_record : (s : LogState) (r : Record) → AreBehindBegins s → lowest s ≤ lowest (after_record s r)
lowest_after_record s r behind = lowest_from (lowest s) (after_record s r) (from_by (lowest s) s (from_its_lowest s behind) r.tx r.action)

-- The lowest never falls along a log.
pub lowest_rises : (s : LogState) (rs : List Record) → AreBehindBegins s → lowest s ≤ lowest (state_after s rs)
lowest_rises s [] behind = omega arith
lowest_rises s (r ∷ rs) behind =
    let one : lowest s ≤ lowest (after_record s r) = lowest_after_record s r behind in
    let rest : lowest (after_record s r) ≤ lowest (state_after (after_record s r) rs) = lowest_rises (after_record s r) rs (behind_by s behind r.tx r.action) in
    omega arith

-- ---- what the records of a lawful log name

names_lowest : (s : LogState) (r : Record) → is_lawful s r ≡ true → (is_allowed s.next r ≡ true) × (r.lowest ≡ lowest s)
names_lowest s r lawful =
    let parts = and_parts (is_allowed s.next r && (r.lowest == lowest s)) (fits_by s r.tx r.named r.action) lawful in
    let both = and_parts (is_allowed s.next r) (r.lowest == lowest s) parts.0 in
    (both.0, eqb-true r.lowest (lowest s) both.1)

-- A lawful log's records may stand in their places, and the lowests that they name never fall.
pub lawful_is_placed : (s : LogState) (low : ℕ) (rs : List Record) → AreBehindBegins s → low ≤ lowest s → are_lawful s rs ≡ true → are_placed_from low s.next rs ≡ true
lawful_is_placed s low [] behind le lawful = refl
lawful_is_placed s low (r ∷ rs) behind le lawful =
    let parts = and_parts (is_lawful s r) (are_lawful (after_record s r) rs) lawful in
    let own = names_lowest s r parts.0 in
    let named : r.lowest ≡ lowest s = own.1 in
    let higher : lowest s ≤ lowest (after_record s r) = lowest_after_record s r behind in
    let rest : are_placed_from r.lowest (after_record s r).next rs ≡ true = lawful_is_placed (after_record s r) r.lowest rs (behind_by s behind r.tx r.action) (omega arith) parts.1 in
    and_from (is_allowed s.next r && nat_le low r.lowest) (are_placed_from r.lowest (s.next + 1) rs)
    (and_from (is_allowed s.next r) (nat_le low r.lowest) own.0 (le-leb low r.lowest (omega arith)))
    (subst (λ n. are_placed_from r.lowest n rs ≡ true) (next_after s r) rest)

abbrev lowest_in : Option Record → ℕ
lowest_in o = unwrap_or (option_map (λ (r : Record). r.lowest) o) 1

last_named : (s : LogState) (o : Option Record) (rs : List Record) → AreBehindBegins s → lowest_in o ≤ lowest s → are_lawful s rs ≡ true → lowest_in (last_or o rs) ≤ lowest (state_after s rs)
last_named s o [] behind le lawful = le
last_named s o (r ∷ rs) behind le lawful =
    let parts = and_parts (is_lawful s r) (are_lawful (after_record s r) rs) lawful in
    let named : r.lowest ≡ lowest s = (names_lowest s r parts.0).1 in
    let higher : lowest s ≤ lowest (after_record s r) = lowest_after_record s r behind in
    last_named (after_record s r) (Some r) rs (behind_by s behind r.tx r.action) (omega arith) parts.1

pub none_begun : (t : Table StoredValue) (n : ℕ) → AreBehindBegins (settled_state t n)
none_begun t n = record { each = tt }

-- What the newest record of a lawful log names isn't above the lowest of the state behind it.
pub named_at_most : (rs : List Record) → are_lawful (settled_state [] 1) rs ≡ true → named_lowest rs ≤ lowest (state_after (settled_state [] 1) rs)
named_at_most rs lawful = last_named (settled_state [] 1) None rs (none_begun [] 1) (omega arith) lawful

last_above : (s : LogState) (o : Option Record) (rs : List Record) → 1 ≤ lowest_in o → are_lawful s rs ≡ true → 1 ≤ lowest_in (last_or o rs)
last_above s o [] above lawful = above
last_above s o (r ∷ rs) above lawful =
    let parts = and_parts (is_lawful s r) (are_lawful (after_record s r) rs) lawful in
    let words = and_parts (kind_allows s.next r.action r.tx r.named && nat_lt r.named s.next && nat_lt 0 r.lowest && nat_le r.lowest s.next) (has_words r.action) (names_lowest s r parts.0).0 in
    let low = and_parts (kind_allows s.next r.action r.tx r.named && nat_lt r.named s.next && nat_lt 0 r.lowest) (nat_le r.lowest s.next) words.0 in
    let own : 0 < r.lowest = ltb-true 0 r.lowest (and_parts (kind_allows s.next r.action r.tx r.named && nat_lt r.named s.next) (nat_lt 0 r.lowest) low.0).1 in
    last_above (after_record s r) (Some r) rs (omega arith) parts.1

pub named_at_least : (rs : List Record) → are_lawful (settled_state [] 1) rs ≡ true → 1 ≤ named_lowest rs
named_at_least rs lawful = last_above (settled_state [] 1) None rs (omega arith) lawful
