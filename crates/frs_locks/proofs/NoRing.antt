-- Who is reached by waiting, and why no client waits for itself after a call.
use Rattle.std.proofs.Common.{◌≡◌, ◌≢◌, ◌⊎◌, inl, inr, ⊎_elim, ℕ, zero, suc, ◌+◌, ◌<◌, ◌≤◌, Bool, true, false, not, ◌&&◌, ◌||◌, cond, List, [], ◌∷◌, length, Option, None, Some, refl, sym, ◌∙◌, ap, subst, arith}
use Rattle.std.specs.Prelude.{◌==◌, filter, find, slice_set}
use Rattle.std.specs.List.{list_any, range_with_len}
use Rattle.std.proofs.lemmas.Bool.{and_parts, or_cases, or_left, or_right, cases_eq, false_from_ne_true}
use Rattle.std.proofs.lemmas.Bool.Decides.{Decides-eqb}
use Rattle.std.proofs.lemmas.List.{get_or-set_same, get_or-set_other, length-set}
use Rattle.std.proofs.lemmas.List.Elements.{filter_agree}
use Rattle.frs_types.specs.declared.lock.Lock.{Lock}
use Rattle.frs_types.specs.Locks.{Holder, Holders, holder_at, nobody, do_conflict, is_hindered_by, hinderers, hinderers_at, waits_for, is_reached, with_wait, ring, via}
use Rattle.frs_locks.specs.Answers.{IsRingless}

-- ---- members

abbrev pub In : ℕ → List ℕ → Type 0
In e [] = ⊥
In e (x ∷ xs) = (x ≡ e) ⊎ In e xs

pub in_any : (P : ℕ → Bool) (xs : List ℕ) (e : ℕ) → In e xs → P e ≡ true → list_any P xs ≡ true
in_any P [] e is p = absurd is
in_any P (x ∷ xs) e (inl is) p = or_left (P x) _ (ap P is ∙ p)
in_any P (x ∷ xs) e (inr is) p = or_right (P x) _ (in_any P xs e is p)

pub any_in : (P : ℕ → Bool) (xs : List ℕ) → list_any P xs ≡ true → (e : ℕ) × In e xs × (P e ≡ true)
any_in P [] h = absurd cc
any_in P (x ∷ xs) h = ⊎_elim (λ p. (x, inl refl, p)) (λ q. let r = any_in P xs q in (r.0, inr r.1, r.2)) (or_cases (P x) _ h)

pub in_filter : (Q : ℕ → Bool) (xs : List ℕ) (e : ℕ) → In e (filter Q xs) → In e xs × (Q e ≡ true)
in_filter Q [] e is = absurd is
in_filter Q (x ∷ xs) e is = at (λ later. let r = in_filter Q xs e later in (inr r.0, r.1)) (Q x) refl is
  where
    at : (In e (filter Q xs) → In e (x ∷ xs) × (Q e ≡ true)) → (b : Bool) → Q x ≡ b → In e (cond b (x ∷ filter Q xs) (filter Q xs)) → In e (x ∷ xs) × (Q e ≡ true)
    at rest true q (inl here) = (inl here, sym (ap Q here) ∙ q)
    at rest true q (inr later) = rest later
    at rest false q later = rest later

pub filter_in : (Q : ℕ → Bool) (xs : List ℕ) (e : ℕ) → In e xs → Q e ≡ true → In e (filter Q xs)
filter_in Q [] e is q = absurd is
filter_in Q (x ∷ xs) e (inl is) q = subst (λ b. In e (cond b (x ∷ filter Q xs) (filter Q xs))) (sym (ap Q is ∙ q)) (inl is)
filter_in Q (x ∷ xs) e (inr is) q = at (filter_in Q xs e is q) (Q x)
  where
    at : In e (filter Q xs) → (b : Bool) → In e (cond b (x ∷ filter Q xs) (filter Q xs))
    at rest true = inr rest
    at rest false = rest

-- ---- one more holder

pub holder_same : (hs : Holders) (c : ℕ) (h : Holder) → c < length hs → holder_at (slice_set hs c h) c ≡ h
holder_same hs c h lt = get_or-set_same hs c h nobody lt

pub holder_other : (hs : Holders) (c d : ℕ) (h : Holder) → d ≢ c → holder_at (slice_set hs c h) d ≡ holder_at hs d
holder_other hs c d h other = get_or-set_other hs c d h nobody other

-- ---- who is reached

-- a step to e, and on from there
pub step_to : (hs : Holders) (k y e x : ℕ) → In e (waits_for hs y) → ((e == x) || is_reached hs k e x) ≡ true → is_reached hs (suc k) y x ≡ true
step_to hs k y e x is p = in_any (λ i. (i == x) || is_reached hs k i x) (waits_for hs y) e is p

pub more_steps : (hs : Holders) (k m y x : ℕ) → k ≤ m → is_reached hs k y x ≡ true → is_reached hs m y x ≡ true
more_steps hs zero m y x le h = absurd cc
more_steps hs (suc k) zero y x le h = absurd (omega arith)
more_steps hs (suc k) (suc m) y x le h =
    let r = any_in _ (waits_for hs y) h in
    step_to hs m y r.0 x r.1 (⊎_elim (λ is. or_left _ _ is) (λ on. or_right (r.0 == x) _ (more_steps hs k m r.0 x (omega arith) on)) (or_cases (r.0 == x) _ r.2))

pub joined_steps : (hs : Holders) (j i m a b d : ℕ) → j + i ≤ m → is_reached hs j a b ≡ true → is_reached hs i b d ≡ true → is_reached hs m a d ≡ true
joined_steps hs zero i m a b d le h g = absurd cc
joined_steps hs (suc j) i zero a b d le h g = absurd (omega arith)
joined_steps hs (suc j) i (suc m) a b d le h g =
    let r = any_in _ (waits_for hs a) h in
    step_to hs m a r.0 d r.1 (or_right (r.0 == d) _ (⊎_elim
    (λ is. more_steps hs i m r.0 d (omega arith) (subst (λ e. is_reached hs i e d ≡ true) (sym ((Decides-eqb r.0 b).0 is)) g))
    (λ on. joined_steps hs j i m r.0 b d (omega arith) on g)
    (or_cases (r.0 == b) _ r.2)))

-- ---- a client that waits for nothing

pub stays_put : (hs : Holders) (c x : ℕ) → (holder_at hs c).waits ≡ None → (k : ℕ) → is_reached hs k c x ≡ false
stays_put hs c x none zero = refl
stays_put hs c x none (suc k) = ap (λ w. list_any (λ e. (e == x) || is_reached hs k e x) (hinderers_at hs c w)) none

-- a step that was there, where c alone is another
pub older_step : (hs : Holders) (c y e : ℕ) (h : Holder) → y ≢ c → e ≢ c → In e (waits_for (slice_set hs c h) y) → In e (waits_for hs y)
older_step hs c y e h other apart is = at (holder_at hs y).waits (subst (λ w. In e (hinderers_at (slice_set hs c h) y w)) (ap (λ (i : Holder). i.waits) (holder_other hs c y h other)) is)
  where
    at : (w : Option Lock) → In e (hinderers_at (slice_set hs c h) y w) → In e (hinderers_at hs y w)
    at None is = is
    at (Some lock) is =
        let r = in_filter (is_hindered_by (slice_set hs c h) y lock) _ e is in
        filter_in (is_hindered_by hs y lock) (range_with_len 0 (length hs)) e
        (subst (λ n. In e (range_with_len 0 n)) (length-set hs c h) r.0)
        (sym (ap (λ (i : Holder). not (e == y) && list_any (do_conflict lock) i.locks) (holder_other hs c e h apart)) ∙ r.1)

pub quiet_reach : (hs : Holders) (c x : ℕ) (h : Holder) → c < length hs → h.waits ≡ None → {z : ℕ} → z ≡ c → (m : ℕ) → is_reached (slice_set hs c h) m z x ≡ true → ⊥
quiet_reach hs c x h lt none {z} here m is =
    let e = stays_put (slice_set hs c h) c x (ap (λ (i : Holder). i.waits) (holder_same hs c h lt) ∙ none) m in
    let f = subst (λ z. is_reached (slice_set hs c h) m z x ≡ true) here is in cc

pub older_reach : (hs : Holders) (c x : ℕ) (h : Holder) → c < length hs → h.waits ≡ None → x ≢ c → (k y : ℕ) → is_reached (slice_set hs c h) k y x ≡ true → is_reached hs k y x ≡ true
older_reach hs c x h lt none apart zero y is = is
older_reach hs c x h lt none apart (suc k) y is = ⊎_elim
    (λ here. absurd (quiet_reach hs c x h lt none here (suc k) is))
    (λ other.
    let r = any_in _ (waits_for (slice_set hs c h) y) is in
    ⊎_elim
    (λ here. ⊎_elim (λ same. absurd (apart (sym ((Decides-eqb r.0 x).0 same) ∙ here))) (λ more. absurd (quiet_reach hs c x h lt none here k more)) (or_cases (r.0 == x) _ r.2))
    (λ away. step_to hs k y r.0 x (older_step hs c y r.0 h other away r.1)
    (⊎_elim (λ same. or_left _ _ same) (λ more. or_right (r.0 == x) _ (older_reach hs c x h lt none apart k r.0 more)) (or_cases (r.0 == x) _ r.2)))
    (cases_eq r.0 c))
    (cases_eq y c)

-- a client's holder that waits for nothing closes no ring
pub ringless_quiet : (hs : Holders) (c : ℕ) (h : Holder) → IsRingless hs → c < length hs → h.waits ≡ None → IsRingless (slice_set hs c h)
ringless_quiet hs c h none lt quiet x = ⊎_elim
    (λ here. subst (λ z. is_reached (slice_set hs c h) (length (slice_set hs c h)) z z ≡ false) (sym here) (stays_put _ c c (ap (λ (i : Holder). i.waits) (holder_same hs c h lt) ∙ quiet) _))
    (λ apart. false_from_ne_true _ (λ is. let was = older_reach hs c x h lt quiet apart _ x is in
    let was' = subst (λ n. is_reached hs n x x ≡ true) (length-set hs c h) was in let no = none x in cc))
    (cases_eq x c)

-- ---- a client that waits for something else

-- at most this many steps lead to c
abbrev pub LeadsTo : Holders → ℕ → ℕ → ℕ → Type 0
LeadsTo hs c i y = (y ≡ c) ⊎ (is_reached hs i y c ≡ true)

-- the locks are as they were, and so are the steps of the others
pub same_locks : (hs : Holders) (c d : ℕ) (lock : Lock) → c < length hs → (holder_at (with_wait hs c lock) d).locks ≡ (holder_at hs d).locks
same_locks hs c d lock lt = ⊎_elim
    (λ here. subst (λ z. (holder_at (with_wait hs c lock) z).locks ≡ (holder_at hs z).locks) (sym here) (ap (λ (i : Holder). i.locks) (holder_same hs c _ lt)))
    (λ other. ap (λ (i : Holder). i.locks) (holder_other hs c d _ other))
    (cases_eq d c)

pub same_hinderers : (hs : Holders) (c y : ℕ) (lock l : Lock) → c < length hs → hinderers (with_wait hs c lock) y l ≡ hinderers hs y l
same_hinderers hs c y lock l lt =
    filter_agree _ _ (λ d. ap (λ locks. not (d == y) && list_any (do_conflict l) locks) (same_locks hs c d lock lt)) _
    ∙ ap (λ n. filter (is_hindered_by hs y l) (range_with_len 0 n)) (length-set hs c (record (holder_at hs c) { waits = Some lock }))

pub same_step : (hs : Holders) (c y : ℕ) (lock : Lock) → c < length hs → y ≢ c → waits_for (with_wait hs c lock) y ≡ waits_for hs y
same_step hs c y lock lt other = ap (λ w. hinderers_at (with_wait hs c lock) y w) (ap (λ (i : Holder). i.waits) (holder_other hs c y _ other)) ∙ at (holder_at hs y).waits
  where
    at : (w : Option Lock) → hinderers_at (with_wait hs c lock) y w ≡ hinderers_at hs y w
    at None = refl
    at (Some l) = same_hinderers hs c y lock l lt

-- the steps of c are those to the clients that hinder it
pub own_step : (hs : Holders) (c : ℕ) (lock : Lock) → c < length hs → waits_for (with_wait hs c lock) c ≡ hinderers hs c lock
own_step hs c lock lt = ap (λ w. hinderers_at (with_wait hs c lock) c w) (ap (λ (i : Holder). i.waits) (holder_same hs c _ lt)) ∙ same_hinderers hs c c lock lock lt

-- a way that was there, or one through c
abbrev pub IsWay : Holders → Holders → ℕ → ℕ → ℕ → ℕ → Type 0
IsWay hs now c k y x = (is_reached hs k y x ≡ true) ⊎ ((i : ℕ) × (j : ℕ) × (i + j ≤ k) × LeadsTo now c i y × (is_reached now j c x ≡ true))

pub split_way : (hs : Holders) (c x : ℕ) (lock : Lock) → c < length hs → (k y : ℕ) → is_reached (with_wait hs c lock) k y x ≡ true → IsWay hs (with_wait hs c lock) c k y x
split_way hs c x lock lt zero y is = absurd cc
split_way hs c x lock lt (suc k) y is = ⊎_elim
    (λ here. inr (0, suc k, omega arith, inl here, subst (λ z. is_reached (with_wait hs c lock) (suc k) z x ≡ true) here is))
    (λ other.
    let r = any_in _ (waits_for (with_wait hs c lock) y) is in
    let was : In r.0 (waits_for hs y) = subst (λ es. In r.0 es) (same_step hs c y lock lt other) r.1 in
    ⊎_elim
    (λ same. inl (step_to hs k y r.0 x was (or_left _ _ same)))
    (λ more. ⊎_elim
    (λ old. inl (step_to hs k y r.0 x was (or_right (r.0 == x) _ old)))
    (λ (through : (i : ℕ) × (j : ℕ) × (i + j ≤ k) × LeadsTo (with_wait hs c lock) c i r.0 × (is_reached (with_wait hs c lock) j c x ≡ true)).
    inr (
      suc through.0,
      through.1,
      omega (arith, through.2),
      inr (step_to (with_wait hs c lock) through.0 y r.0 c r.1
          (⊎_elim (λ here. or_left _ _ ((Decides-eqb r.0 c).1 here)) (λ far. or_right (r.0 == c) _ far) through.3)),
      through.4,
    ))
    (split_way hs c x lock lt k r.0 more))
    (or_cases (r.0 == x) _ r.2))
    (cases_eq y c)

-- a wait that closes no ring through the client closes none
pub ringless_wait : (hs : Holders) (c : ℕ) (lock : Lock) → IsRingless hs → c < length hs → ring hs c lock ≡ false → IsRingless (with_wait hs c lock)
ringless_wait hs c lock none lt closes x = false_from_ne_true _ (λ is. closed (split_way hs c x lock lt (length hs) x
    (subst (λ n. is_reached (with_wait hs c lock) n x x ≡ true) (length-set hs c (record (holder_at hs c) { waits = Some lock })) is)))
  where
    turned : (i j : ℕ) → i + j ≤ length hs → LeadsTo (with_wait hs c lock) c i x → is_reached (with_wait hs c lock) j c x ≡ true → ring hs c lock ≡ true
    turned i j le (inl here) on = more_steps _ j _ c c (omega arith) (subst (λ z. is_reached (with_wait hs c lock) j c z ≡ true) here on)
    turned i j le (inr far) on = joined_steps _ j i _ c x c (omega arith) on far

    closed : IsWay hs (with_wait hs c lock) c (length hs) x x → ⊥
    closed (inl old) = let no = none x in cc
    closed (inr through) = let yes = turned through.0 through.1 through.2 through.3 through.4 in cc

-- ---- the client from which a ring comes back

pub find_in : (P : ℕ → Bool) (xs : List ℕ) (e : ℕ) → In e xs → P e ≡ true → find P xs ≡ None → ⊥
find_in P [] e is p none = is
find_in P (x ∷ xs) e is p none = at (λ later rest. find_in P xs e later p rest) (P x) refl none is
  where
    at : (In e xs → find P xs ≡ None → ⊥) → (b : Bool) → P x ≡ b → cond b (Some x) (find P xs) ≡ None → In e (x ∷ xs) → ⊥
    at on true q none is = absurd cc
    at on false q none (inl here) = let y = sym (ap P here) ∙ q in absurd cc
    at on false q none (inr later) = on later none

pub ring_has_via : (hs : Holders) (c : ℕ) (lock : Lock) → c < length hs → ring hs c lock ≡ true → via hs c lock ≡ None → ⊥
ring_has_via hs c lock lt is none = at (length hs) refl is
  where
    at : (n : ℕ) → length hs ≡ n → is_reached (with_wait hs c lock) n c c ≡ true → ⊥
    at zero e is = absurd cc
    at (suc k) e is =
        let r = any_in _ (waits_for (with_wait hs c lock) c) is in
        let inside : In r.0 (hinderers hs c lock) = subst (λ es. In r.0 es) (own_step hs c lock lt) r.1 in
        let apart = (in_filter (is_hindered_by hs c lock) _ r.0 inside).1 in
        ⊎_elim
        (λ same. let no = (and_parts (not (r.0 == c)) _ apart).0 in let yes = ap not same in absurd cc)
        (λ more. find_in (λ d. is_reached (with_wait hs c lock) (length hs) d c) (hinderers hs c lock) r.0 inside
        (more_steps _ k (length hs) r.0 c (omega (arith, e)) more) none)
        (or_cases (r.0 == c) _ r.2)
