-- The changes of active transactions after each kind of record, and that those of one don't touch what another has changed.
use Rattle.std.proofs.Common.{◌≡◌, ℕ, Bool, true, false, cond, not, ◌||◌, ◌==◌, List, [], ◌∷◌, ◌++◌, Some, None, refl, sym, ap, ◌∙◌, filter, map, bytes_eq, eqb-true, eq-eqb, ne_eqb, true≢false}
use Rattle.std.specs.List.{list_any, list_all}
use Rattle.std.specs.Option.{option_or}
use Rattle.std.proofs.lemmas.Bool.{and_parts, and_from, eqb-false, false_from_ne_true, not-true}
use Rattle.std.proofs.lemmas.Slice.Eq.{bytes_eq-Decides}
use Rattle.frs_types.specs.Maps.{Place, Change}
use Rattle.frs_types.specs.Maps.Change.{Set, Take, Clear}
use Rattle.frs_types.specs.Locks.{do_conflict}
use Rattle.frs_types.specs.Lawful.{StoredValue, Open, is_open_tx, changes_of, with_change, without_transaction, lock_of}
use Rattle.frs_types.proofs.Changes.{touches, given, latest, same_place-Decides}

-- ---- two changes at one place

-- what a change that touches the place says of it
abbrev Covers : Place → Change StoredValue → Type 0
Covers p (Set id key h) = (id, key) ≡ p
Covers p (Take id key) = (id, key) ≡ p
Covers p (Clear id) = id ≡ p.0

covers : (p : Place) (x : Change StoredValue) → touches p x ≡ true → Covers p x
covers p (Set id key h) is = (same_place-Decides (id, key) p).0 is
covers p (Take id key) is = (same_place-Decides (id, key) p).0 is
covers p (Clear id) is = (bytes_eq-Decides id p.0).0 is

same_ids : (a b : List ℕ) → a ≡ b → bytes_eq a b ≡ true
same_ids a b is = (bytes_eq-Decides a b).1 is

both_conflict : (p : Place) (x c : Change StoredValue) → Covers p x → Covers p c → do_conflict (lock_of x) (lock_of c) ≡ true
both_conflict p (Set id key h) (Set other k g) a b = and_from _ _ (same_ids id other (ap (λ (q : Place). q.0) (a ∙ sym b))) (same_ids key k (ap (λ (q : Place). q.1) (a ∙ sym b)))
both_conflict p (Set id key h) (Take other k) a b = and_from _ _ (same_ids id other (ap (λ (q : Place). q.0) (a ∙ sym b))) (same_ids key k (ap (λ (q : Place). q.1) (a ∙ sym b)))
both_conflict p (Set id key h) (Clear other) a b = same_ids id other (ap (λ (q : Place). q.0) a ∙ sym b)
both_conflict p (Take id key) (Set other k g) a b = and_from _ _ (same_ids id other (ap (λ (q : Place). q.0) (a ∙ sym b))) (same_ids key k (ap (λ (q : Place). q.1) (a ∙ sym b)))
both_conflict p (Take id key) (Take other k) a b = and_from _ _ (same_ids id other (ap (λ (q : Place). q.0) (a ∙ sym b))) (same_ids key k (ap (λ (q : Place). q.1) (a ∙ sym b)))
both_conflict p (Take id key) (Clear other) a b = same_ids id other (ap (λ (q : Place). q.0) a ∙ sym b)
both_conflict p (Clear id) (Set other k g) a b = same_ids id other (a ∙ sym (ap (λ (q : Place). q.0) b))
both_conflict p (Clear id) (Take other k) a b = same_ids id other (a ∙ sym (ap (λ (q : Place). q.0) b))
both_conflict p (Clear id) (Clear other) a b = same_ids id other (a ∙ sym b)

-- changes that don't conflict with one that touches the place don't touch it
latest_apart : (p : Place) (x : Change StoredValue) → touches p x ≡ true → (cs : List (Change StoredValue)) → list_any (λ c. do_conflict (lock_of x) (lock_of c)) cs ≡ false → latest p cs ≡ None
latest_apart p x here [] apart = refl
latest_apart p x here (c ∷ cs) apart =
    elim (do_conflict (lock_of x) (lock_of c)) as (λ b. do_conflict (lock_of x) (lock_of c) ≡ b → (b || list_any (λ d. do_conflict (lock_of x) (lock_of d)) cs) ≡ false → latest p (c ∷ cs) ≡ None) [
      | true ↦ λ _ never. absurd (true≢false never)
      | false ↦ λ one rest.
          let other : touches p c ≡ false = false_from_ne_true (touches p c) (λ there. true≢false (sym (both_conflict p x c (covers p x here) (covers p c there)) ∙ one)) in
          ap (λ o. option_or o (cond (touches p c) (Some (given c)) None)) (latest_apart p x here cs rest) ∙ ap (λ b. cond b (Some (given c)) None) other
    ] refl apart

-- where no transaction but tx has a change that conflicts with this one, none but tx has changed its places
pub others_apart : (p : Place) (x : Change StoredValue) (tx t : ℕ) (active : List Open) → list_all (λ (o : Open). (o.begin == tx) || not (list_any (λ c. do_conflict (lock_of x) (lock_of c)) o.changes)) active ≡ true
    → touches p x ≡ true → (t == tx) ≡ false → latest p (changes_of active t) ≡ None
others_apart p x tx t [] alone here other = refl
others_apart p x tx t (o ∷ active) alone here other =
    let both = and_parts ((o.begin == tx) || not (list_any (λ c. do_conflict (lock_of x) (lock_of c)) o.changes)) (list_all (λ (u : Open). (u.begin == tx) || not (list_any (λ c. do_conflict (lock_of x) (lock_of c)) u.changes)) active) alone in
    elim (o.begin == t) as (λ b. (o.begin == t) ≡ b → latest p (cond b o.changes (changes_of active t)) ≡ None) [
      | true ↦ λ own.
          let not_tx : (o.begin == tx) ≡ false = ap (λ k. k == tx) (eqb-true o.begin t own) ∙ other in
          let free : not (list_any (λ c. do_conflict (lock_of x) (lock_of c)) o.changes) ≡ true = sym (ap (λ b. b || not (list_any (λ c. do_conflict (lock_of x) (lock_of c)) o.changes)) not_tx) ∙ both.0 in
          latest_apart p x here o.changes (not-true _ free)
      | false ↦ λ _. others_apart p x tx t active both.1 here other
    ] refl

-- ---- after one more change

pub changes_of_other : (active : List Open) (tx t : ℕ) (x : Change StoredValue) → (t == tx) ≡ false → changes_of (with_change active tx x) t ≡ changes_of active t
changes_of_other [] tx t x other = refl
changes_of_other (o ∷ active) tx t x other =
    let rest = changes_of_other active tx t x other in
    elim (o.begin == tx) as (λ b. (o.begin == tx) ≡ b → changes_of (cond b (record o { changes = o.changes ++ x ∷ [] }) o ∷ with_change active tx x) t ≡ changes_of (o ∷ active) t) [
      | true ↦ λ own.
          let not_t : (o.begin == t) ≡ false = ne_eqb o.begin t (λ is. eqb-false t tx other (sym is ∙ eqb-true o.begin tx own)) in
          ap (λ b. cond b (o.changes ++ x ∷ []) (changes_of (with_change active tx x) t)) not_t ∙ rest ∙ sym (ap (λ b. cond b o.changes (changes_of active t)) not_t)
      | false ↦ λ _. ap (cond (o.begin == t) o.changes) rest
    ] refl

pub changes_of_own : (active : List Open) (tx : ℕ) (x : Change StoredValue) → is_open_tx active tx ≡ true → changes_of (with_change active tx x) tx ≡ changes_of active tx ++ x ∷ []
changes_of_own [] tx x active_now = absurd cc
changes_of_own (o ∷ active) tx x active_now =
    elim (o.begin == tx) as (λ b. (o.begin == tx) ≡ b → (b || is_open_tx active tx) ≡ true → changes_of (cond b (record o { changes = o.changes ++ x ∷ [] }) o ∷ with_change active tx x) tx ≡ cond b o.changes (changes_of active tx) ++ x ∷ []) [
      | true ↦ λ own _. ap (λ b. cond b (o.changes ++ x ∷ []) (changes_of (with_change active tx x) tx)) own
      | false ↦ λ other rest. ap (λ b. cond b o.changes (changes_of (with_change active tx x) tx)) other ∙ changes_of_own active tx x rest
    ] refl active_now

pub open_with_change : (active : List Open) (tx t : ℕ) (x : Change StoredValue) → is_open_tx (with_change active tx x) t ≡ is_open_tx active t
open_with_change [] tx t x = refl
open_with_change (o ∷ active) tx t x =
    elim (o.begin == tx) as (λ b. is_open_tx (cond b (record o { changes = o.changes ++ x ∷ [] }) o ∷ with_change active tx x) t ≡ ((o.begin == t) || is_open_tx active t)) [
      | true ↦ ap (λ b. (o.begin == t) || b) (open_with_change active tx t x)
      | false ↦ ap (λ b. (o.begin == t) || b) (open_with_change active tx t x)
    ]

abbrev pub begins_of : List Open → List ℕ
begins_of active = map (λ (o : Open). o.begin) active

pub begins_with_change : (active : List Open) (tx : ℕ) (x : Change StoredValue) → begins_of (with_change active tx x) ≡ begins_of active
begins_with_change [] tx x = refl
begins_with_change (o ∷ active) tx x =
    elim (o.begin == tx) as (λ b. begins_of (cond b (record o { changes = o.changes ++ x ∷ [] }) o ∷ with_change active tx x) ≡ o.begin ∷ begins_of active) [
      | true ↦ ap (λ ns. o.begin ∷ ns) (begins_with_change active tx x)
      | false ↦ ap (λ ns. o.begin ∷ ns) (begins_with_change active tx x)
    ]

-- ---- after a begin

abbrev pub begun : ℕ → List Open
begun n = record { begin = n; changes = [] } ∷ []

pub changes_of_begun : (active : List Open) (n t : ℕ) → changes_of (active ++ begun n) t ≡ changes_of active t
changes_of_begun [] n t = elim (n == t) as (λ b. cond {A = List (Change StoredValue)} b [] [] ≡ []) [ true ↦ refl | false ↦ refl ]
changes_of_begun (o ∷ active) n t = ap (cond (o.begin == t) o.changes) (changes_of_begun active n t)

-- ---- after an end

pub changes_of_ended : (active : List Open) (tx t : ℕ) → (t == tx) ≡ false → changes_of (without_transaction active tx) t ≡ changes_of active t
changes_of_ended [] tx t other = refl
changes_of_ended (o ∷ active) tx t other =
    let rest = changes_of_ended active tx t other in
    elim (o.begin == tx) as (λ b. (o.begin == tx) ≡ b → changes_of (cond (not b) (o ∷ without_transaction active tx) (without_transaction active tx)) t ≡ changes_of (o ∷ active) t) [
      | true ↦ λ own.
          let not_t : (o.begin == t) ≡ false = ne_eqb o.begin t (λ is. eqb-false t tx other (sym is ∙ eqb-true o.begin tx own)) in
          rest ∙ sym (ap (λ b. cond b o.changes (changes_of active t)) not_t)
      | false ↦ λ _. ap (cond (o.begin == t) o.changes) rest
    ] refl

pub changes_of_own_ended : (active : List Open) (tx : ℕ) → changes_of (without_transaction active tx) tx ≡ []
changes_of_own_ended [] tx = refl
changes_of_own_ended (o ∷ active) tx =
    elim (o.begin == tx) as (λ b. (o.begin == tx) ≡ b → changes_of (cond (not b) (o ∷ without_transaction active tx) (without_transaction active tx)) tx ≡ []) [
      | true ↦ λ _. changes_of_own_ended active tx
      | false ↦ λ other. ap (λ b. cond b o.changes (changes_of (without_transaction active tx) tx)) other ∙ changes_of_own_ended active tx
    ] refl

-- a transaction that is open still was open before, and isn't the one that ended
pub open_without : (active : List Open) (tx t : ℕ) → is_open_tx (without_transaction active tx) t ≡ true → (is_open_tx active t ≡ true) × ((t == tx) ≡ false)
open_without [] tx t active_now = absurd cc
open_without (o ∷ active) tx t active_now =
    elim (o.begin == tx) as (λ b. (o.begin == tx) ≡ b → is_open_tx (cond (not b) (o ∷ without_transaction active tx) (without_transaction active tx)) t ≡ true → (((o.begin == t) || is_open_tx active t) ≡ true) × ((t == tx) ≡ false)) [
      | true ↦ λ _ rest. let more = open_without active tx t rest in (or_second (o.begin == t) (is_open_tx active t) more.0, more.1)
      | false ↦ λ other rest. elim (o.begin == t) as (λ b. (o.begin == t) ≡ b → (b || is_open_tx (without_transaction active tx) t) ≡ true → ((b || is_open_tx active t) ≡ true) × ((t == tx) ≡ false)) [
        | true ↦ λ own _. (refl, ap (λ k. k == tx) (sym (eqb-true o.begin t own)) ∙ other)
        | false ↦ λ _ later. open_without active tx t later
      ] refl rest
    ] refl active_now
  where
    or_second : (a b : Bool) → b ≡ true → (a || b) ≡ true
    or_second true b is = refl
    or_second false b is = is

pub begins_without : (active : List Open) (tx : ℕ) → begins_of (without_transaction active tx) ≡ filter (λ n. not (tx == n)) (begins_of active)
begins_without [] tx = refl
begins_without (o ∷ active) tx =
    let turned : (o.begin == tx) ≡ (tx == o.begin) = elim (o.begin == tx) as (λ b. (o.begin == tx) ≡ b → b ≡ (tx == o.begin)) [
      | true ↦ λ is. sym (eq-eqb tx o.begin (sym (eqb-true o.begin tx is)))
      | false ↦ λ is. sym (ne_eqb tx o.begin (λ same. eqb-false o.begin tx is (sym same)))
    ] refl in
    elim (o.begin == tx) as (λ b. begins_of (cond (not b) (o ∷ without_transaction active tx) (without_transaction active tx)) ≡ cond (not b) (o.begin ∷ begins_of (without_transaction active tx)) (begins_of (without_transaction active tx))) [ true ↦ refl | false ↦ refl ]
    ∙ ap (λ b. cond (not b) (o.begin ∷ begins_of (without_transaction active tx)) (begins_of (without_transaction active tx))) turned
    ∙ ap (λ ns. cond (not (tx == o.begin)) (o.begin ∷ ns) ns) (begins_without active tx)

pub changes_of_none : (active : List Open) (t : ℕ) → is_open_tx active t ≡ false → changes_of active t ≡ []
changes_of_none [] t closed = refl
changes_of_none (o ∷ active) t closed =
    elim (o.begin == t) as (λ b. (b || is_open_tx active t) ≡ false → cond b o.changes (changes_of active t) ≡ []) [
      | true ↦ λ never. absurd (true≢false never)
      | false ↦ λ rest. changes_of_none active t rest
    ] closed
