-- What it means for the log that nobody hinders a client at a lock, and that a client without a lock closes no ring.
use Rattle.std.proofs.Common.{◌≡◌, ◌≢◌, ⊎_elim, ℕ, zero, suc, ◌+◌, ◌<◌, ◌≤◌, Bool, true, false, cond}
use Rattle.std.proofs.Common.{not, ◌&&◌, ◌||◌, ◌==◌, List, [], ◌∷◌, length, refl, sym, ap, ◌∙◌, subst, arith}
use Rattle.std.proofs.Common.{true≢false, bytes_eq, Option, Some, None}
use Rattle.std.specs.Prelude.{filter}
use Rattle.std.specs.List.{AllByRecursion, list_any, list_all, range_with_len}
use Rattle.std.proofs.lemmas.Bool.{and_parts, and_from, or_cases, or_left, or_right, cases_eq, cases_lt}
use Rattle.std.proofs.lemmas.Bool.{eqb-false, false_from_ne_true}
use Rattle.std.proofs.lemmas.Bool.Decides.{Decides-eqb}
use Rattle.std.proofs.lemmas.List.{get_or_past}
use Rattle.std.proofs.lemmas.Slice.Eq.{bytes_eq-Decides}
use Rattle.frs_types.specs.declared.lock.Lock.{Lock}
use Rattle.frs_types.specs.declared.lock.Lock.TheVariants.{OnKey, OnMap}
use Rattle.frs_types.specs.Maps.{Change}
use Rattle.frs_types.specs.Locks.{Holder, Holders, nobody, holder_at, do_conflict, same_lock, with_lock, hinderers}
use Rattle.frs_types.specs.Locks.{is_hindered_by, hinderers_at, is_free, waits_for, is_reached, with_wait, ring}
use Rattle.frs_types.specs.Lawful.{StoredValue, Open, lock_of}
use Rattle.frs_history.specs.Machine.{State}
use Rattle.frs_locks.proofs.NoRing.{In, any_in, in_filter, same_locks}
use Rattle.frs_locks.proofs.IndexChanges.{same_self}
use Rattle.frs_book.specs.Drawn.{Drawing, begin_of}
use Rattle.frs_book.specs.Agreement.{IsOpenOf, IsCovered}

-- ---- locks that are held

same_is : (l k : Lock) → same_lock l k ≡ true → l ≡ k
same_is (OnKey id key) (OnKey other k) is =
    let both = and_parts (bytes_eq id other) (bytes_eq key k) is in
    let ids : id ≡ other = (bytes_eq-Decides id other).0 both.0 in
    let keys : key ≡ k = (bytes_eq-Decides key k).0 both.1 in
    λ i. OnKey (ids i) (keys i)
same_is (OnKey id key) (OnMap other) is = absurd cc
same_is (OnMap id) (OnKey other k) is = absurd cc
same_is (OnMap id) (OnMap other) is = ap (λ w. OnMap w) ((bytes_eq-Decides id other).0 is)

-- what conflicts with a lock that is held conflicts with what is held
pub held_conflicts : (lock l : Lock) (locks : List Lock) → list_any (same_lock l) locks ≡ true
    → do_conflict lock l ≡ true → list_any (do_conflict lock) locks ≡ true
held_conflicts lock l [] held is = absurd cc
held_conflicts lock l (k ∷ locks) held is = ⊎_elim
    (λ here. or_left (do_conflict lock k) _ (sym (ap (do_conflict lock) (same_is l k here)) ∙ is))
    (λ later. or_right (do_conflict lock k) _ (held_conflicts lock l locks later is))
    (or_cases (same_lock l k) _ held)

-- one more lock is held, and those from before
pub holds_new : (lock : Lock) (locks : List Lock) → list_any (same_lock lock) (with_lock lock locks) ≡ true
holds_new lock locks = elim (list_any (same_lock lock) locks) as (λ b. list_any (same_lock lock) locks ≡ b
    → list_any (same_lock lock) (cond b locks (lock ∷ locks)) ≡ true) [
      | true ↦ λ is. is
      | false ↦ λ _. or_left (same_lock lock lock) _ (same_self lock)
    ] refl

pub holds_still : (lock l : Lock) (locks : List Lock) → list_any (same_lock l) locks ≡ true
    → list_any (same_lock l) (with_lock lock locks) ≡ true
holds_still lock l locks is =
    elim (list_any (same_lock lock) locks) as (λ b. list_any (same_lock l) (cond b locks (lock ∷ locks)) ≡ true) [
      | true ↦ is
      | false ↦ or_right (same_lock l lock) _ is
    ]

-- ---- nobody hinders

none_of_range : (Q : ℕ → Bool) (n a d : ℕ) → filter Q (range_with_len a n) ≡ [] → a ≤ d → d < a + n → Q d ≡ false
none_of_range Q zero a d none le lt = absurd (omega arith)
none_of_range Q (suc n) a d none le lt =
    elim (Q a) as (λ b. Q a ≡ b → cond b (a ∷ filter Q (range_with_len (a + 1) n)) (filter Q (range_with_len (a + 1) n)) ≡ []
    → Q d ≡ false) [
      | true ↦ λ _ never. absurd cc
      | false ↦ λ first rest. ⊎_elim
          (λ (is : a ≡ d). sym (ap Q is) ∙ first)
          (λ other. none_of_range Q n (a + 1) d rest (omega (arith, other)) (omega arith))
          (cases_eq a d)
    ] refl none

pub not_hindered : (hs : Holders) (c : ℕ) (lock : Lock) → hinderers hs c lock ≡ []
    → (e : ℕ) → e ≢ c → list_any (do_conflict lock) (holder_at hs e).locks ≡ false
not_hindered hs c lock none e other = ⊎_elim
    (λ lt.
    let not_own : (e == c) ≡ false = false_from_ne_true (e == c) (λ same. other ((Decides-eqb e c).0 same)) in
    let no = none_of_range (is_hindered_by hs c lock) (length hs) 0 e none (omega arith) (omega (arith, lt)) in
    sym (ap (λ b. not b && list_any (do_conflict lock) (holder_at hs e).locks) not_own) ∙ no)
    (λ le. ap (λ (h : Holder). list_any (do_conflict lock) h.locks) (get_or_past hs e nobody le))
    (cases_lt e (length hs))

pub free_of_all : (hs : Holders) (lock : Lock) → is_free hs lock ≡ true
    → (e : ℕ) → list_any (do_conflict lock) (holder_at hs e).locks ≡ false
free_of_all [] lock free e = ap (λ (h : Holder). list_any (do_conflict lock) h.locks) (get_or_past [] e nobody (omega arith))
free_of_all (h ∷ hs) lock free zero =
    false_from_ne_true (list_any (do_conflict lock) h.locks) (λ is. true≢false (sym free ∙ ap not
    (or_left (list_any (do_conflict lock) h.locks) (list_any (λ (k : Holder). list_any (do_conflict lock) k.locks) hs) is)))
free_of_all (h ∷ hs) lock free (suc e) = free_of_all hs lock
    (ap not (false_from_ne_true (list_any (λ (k : Holder). list_any (do_conflict lock) k.locks) hs)
    (λ is. true≢false (sym free ∙ ap not (or_right (list_any (do_conflict lock) h.locks) _ is))))) e

-- ---- no other transaction has a change that conflicts

no_change_conflicts : (lock : Lock) (h : Holder) (cs : List (Change StoredValue)) → AllByRecursion (IsCovered h) cs
    → list_any (do_conflict lock) h.locks ≡ false → list_any (λ x. do_conflict lock (lock_of x)) cs ≡ false
no_change_conflicts lock h [] covered none = refl
no_change_conflicts lock h (x ∷ cs) covered none =
    let here : do_conflict lock (lock_of x) ≡ false = false_from_ne_true (do_conflict lock (lock_of x))
    (λ is. true≢false (sym (held_conflicts lock (lock_of x) h.locks covered.0 is) ∙ none)) in
    ap (λ b. b || list_any (λ y. do_conflict lock (lock_of y)) cs) here ∙ no_change_conflicts lock h cs covered.1 none

pub alone_among : (s : State) (d : Drawing) (tx : ℕ) (lock : Lock)
    → ((e : ℕ) → begin_of d e ≢ tx → list_any (do_conflict lock) (holder_at s.holders e).locks ≡ false)
    → (active : List Open) → AllByRecursion (IsOpenOf s d) active
    → list_all (λ (o : Open). (o.begin == tx) || not (list_any (λ x. do_conflict lock (lock_of x)) o.changes)) active ≡ true
alone_among s d tx lock free [] all = refl
alone_among s d tx lock free (o ∷ active) all =
    let rest = alone_among s d tx lock free active all.1 in
    let here : ((o.begin == tx) || not (list_any (λ x. do_conflict lock (lock_of x)) o.changes)) ≡ true =
    elim (o.begin == tx) as (λ b. (o.begin == tx) ≡ b
    → (b || not (list_any (λ x. do_conflict lock (lock_of x)) o.changes)) ≡ true) [
      | true ↦ λ _. refl
      | false ↦ λ other.
          let owner = all.0.client in
          let apart : begin_of d owner ≢ tx = λ same. eqb-false o.begin tx other (sym all.0.begin ∙ same) in
          ap not (no_change_conflicts lock (holder_at s.holders owner) o.changes all.0.locks (free owner apart))
    ] refl in
    and_from _ _ here rest

-- ---- no lock, no ring

-- nobody waits for a client that holds nothing
not_waited : (hs : Holders) (c y : ℕ) (w : Option Lock) → (holder_at hs c).locks ≡ [] → In c (hinderers_at hs y w) → ⊥
not_waited hs c y None none is = absurd is
not_waited hs c y (Some lock) none is =
    let found = (in_filter (is_hindered_by hs y lock) (range_with_len 0 (length hs)) c is).1 in
    let holds = (and_parts (not (c == y)) (list_any (do_conflict lock) (holder_at hs c).locks) found).1 in
    let no = ap (list_any (do_conflict lock)) none in
    absurd (true≢false (sym holds ∙ no))

not_reached : (hs : Holders) (c : ℕ) → (holder_at hs c).locks ≡ [] → (k y : ℕ) → is_reached hs k y c ≡ true → ⊥
not_reached hs c none zero y is = absurd cc
not_reached hs c none (suc k) y is =
    let r = any_in (λ e. (e == c) || is_reached hs k e c) (waits_for hs y) is in
    ⊎_elim
    (λ here. not_waited hs c y (holder_at hs y).waits none
    (subst (λ e. In e (waits_for hs y)) ((Decides-eqb r.0 c).0 here) r.1))
    (λ on. not_reached hs c none k r.0 on)
    (or_cases (r.0 == c) _ r.2)

pub no_lock_no_ring : (hs : Holders) (c : ℕ) (lock : Lock) → c < length hs → (holder_at hs c).locks ≡ []
    → ring hs c lock ≡ false
no_lock_no_ring hs c lock lt none = false_from_ne_true (ring hs c lock)
    (not_reached (with_wait hs c lock) c (same_locks hs c c lock lt ∙ none) (length hs) c)
