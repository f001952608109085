-- Whom the index finds, and what a client's answer leaves.
use Rattle.std.proofs.Common.{◌≡◌, ⊎_elim, ℕ, zero, suc, ◌+◌, ◌<◌, ◌≤◌, ◌==◌, Bool, true, false, cond, not, ◌||◌, List, [], ◌∷◌, ◌++◌, length, map, set, take, get_or, replicate, Option, None, Some, refl, sym, ◌∙◌, ap, subst, arith, add-one, inl, inr}
use Rattle.std.specs.Prelude.{filter, find, if◌then◌else◌, slice_set}
use Rattle.std.specs.List.{list_any, range_with_len}
use Rattle.std.specs.BTreeMap.{BTreeMap, get}
use Rattle.std.specs.Ordering.{nat_cmp}
use Rattle.std.specs.Cmp.Lexicographic.{slice_cmp}
use Rattle.std.proofs.lemmas.Bool.{and_from, or_left, or_right, cases_eq, cases_lt, false_from_ne_true}
use Rattle.std.proofs.lemmas.Bool.Decides.{Decides-eqb}
use Rattle.std.proofs.Math.Bool.{or-false}
use Rattle.std.proofs.lemmas.List.{get_or-replicate, get_or_past, length-set, length-replicate, map-id, set-get_or}
use Rattle.std.proofs.lemmas.List.FromFn.{filter_of_map_range_with_len_more, get_or-map-range_with_len, length-map-range_with_len}
use Rattle.frs_types.specs.declared.lock.Lock.{Lock}
use Rattle.frs_types.specs.declared.lock.Lock.TheVariants.{OnKey, OnMap}
use Rattle.frs_types.specs.Locks.{Holder, Holders, holder_at, nobody, do_conflict, same_lock, hinderers, is_hindered_by, with_wait, ring, via, is_reached, waits_for}
use Rattle.frs_locks.specs.declared.map_locks.MapLocks.{MapLocks}
use Rattle.frs_types.specs.declared.limits.TheConstants.{CLIENT_LIMIT}
use Rattle.frs_locks.specs.Answers.{IsRing, IsRingless, least_client}
use Rattle.frs_locks.specs.Index.{IsIndexOf, AreSoundLocks, NoOther, SaysOf, map_at, is_client, is_against, holds_map, holds_key, holds_some_key, is_on_key_of}
use Rattle.frs_locks.proofs.NoRing.{holder_same, holder_other, stays_put, ringless_quiet, ringless_wait, filter_in, In, ring_has_via, own_step}
use Rattle.frs_locks.proofs.Rounds.{found_at}
use Rattle.frs_locks.proofs.IndexChanges.{IsTaken}
use Rattle.frs_locks.proofs.IndexAnswers.{empty_map}

or_four : (a b x y : Bool) → ((a || b) || (x || y)) ≡ ((a || x) || (b || y))
or_four true b x y = refl
or_four false true true y = refl
or_four false true false y = refl
or_four false false x y = refl

split_key : (id k : List ℕ) (l : Lock) → do_conflict (OnKey id k) l ≡ (same_lock (OnMap id) l || same_lock (OnKey id k) l)
split_key id k (OnKey other key) = refl
split_key id k (OnMap other) = sym (or-false _)

split_map : (id : List ℕ) (l : Lock) → do_conflict (OnMap id) l ≡ (same_lock (OnMap id) l || is_on_key_of id l)
split_map id (OnKey other key) = refl
split_map id (OnMap other) = sym (or-false _)

pub conflict_key : (id k : List ℕ) (locks : List Lock) → list_any (do_conflict (OnKey id k)) locks ≡ (list_any (same_lock (OnMap id)) locks || list_any (same_lock (OnKey id k)) locks)
conflict_key id k [] = refl
conflict_key id k (l ∷ ls) = (λ i. split_key id k l i || conflict_key id k ls i) ∙ or_four (same_lock (OnMap id) l) (same_lock (OnKey id k) l) (list_any (same_lock (OnMap id)) ls) (list_any (same_lock (OnKey id k)) ls)

pub conflict_map : (id : List ℕ) (locks : List Lock) → list_any (do_conflict (OnMap id)) locks ≡ (list_any (same_lock (OnMap id)) locks || list_any (is_on_key_of id) locks)
conflict_map id [] = refl
conflict_map id (l ∷ ls) = (λ i. split_map id l i || conflict_map id ls i) ∙ or_four (same_lock (OnMap id) l) (is_on_key_of id l) (list_any (same_lock (OnMap id)) ls) (list_any (is_on_key_of id) ls)

pub against_key : (maps : BTreeMap (List ℕ) MapLocks) (hs now : Holders) (id k : List ℕ) (lock : Lock) (m : MapLocks) (key : Option ℕ) (clients : List Bool) (d : ℕ) → IsIndexOf maps hs → hs ≡ now → lock ≡ OnKey id k → Some m ≡ map_at maps id
    → key ≡ get (slice_cmp nat_cmp) m.keys k → get_or clients d false ≡ false → is_against m.whole key clients d ≡ list_any (do_conflict lock) (holder_at now d).locks
against_key maps hs now id k lock m key clients d index is at there owner none =
    (λ i. is_client m.whole d || (is_client (owner i) d || none i)) ∙ ap (λ b. is_client m.whole d || b) (or-false _)
    ∙ (λ i. holds_map (there i) d || holds_key (there i) k d)
    ∙ (λ i. (index id d).map i || (index id d).key k i) ∙ sym (conflict_key id k (holder_at hs d).locks)
    ∙ (λ i. list_any (do_conflict (sym at i)) (holder_at (is i) d).locks)

pub against_map : (maps : BTreeMap (List ℕ) MapLocks) (hs now : Holders) (id : List ℕ) (lock : Lock) (m : MapLocks) (d : ℕ) → IsIndexOf maps hs → hs ≡ now → lock ≡ OnMap id → Some m ≡ map_at maps id
    → is_against m.whole None m.clients d ≡ list_any (do_conflict lock) (holder_at now d).locks
against_map maps hs now id lock m d index is at there =
    (λ i. holds_map (there i) d || holds_some_key (there i) d)
    ∙ (λ i. (index id d).map i || (index id d).some_key i) ∙ sym (conflict_map id (holder_at hs d).locks)
    ∙ (λ i. list_any (do_conflict (sym at i)) (holder_at (is i) d).locks)

pub none_key : (maps : BTreeMap (List ℕ) MapLocks) (hs now : Holders) (id k : List ℕ) (lock : Lock) (d : ℕ) → IsIndexOf maps hs → hs ≡ now → lock ≡ OnKey id k → None ≡ map_at maps id
    → false ≡ list_any (do_conflict lock) (holder_at now d).locks
none_key maps hs now id k lock d index is at there =
    (λ i. holds_map (there i) d || holds_key (there i) k d)
    ∙ (λ i. (index id d).map i || (index id d).key k i) ∙ sym (conflict_key id k (holder_at hs d).locks)
    ∙ (λ i. list_any (do_conflict (sym at i)) (holder_at (is i) d).locks)

pub none_map : (maps : BTreeMap (List ℕ) MapLocks) (hs now : Holders) (id : List ℕ) (lock : Lock) (d : ℕ) → IsIndexOf maps hs → hs ≡ now → lock ≡ OnMap id → None ≡ map_at maps id
    → false ≡ list_any (do_conflict lock) (holder_at now d).locks
none_map maps hs now id lock d index is at there =
    (λ i. holds_map (there i) d || holds_some_key (there i) d)
    ∙ (λ i. (index id d).map i || (index id d).some_key i) ∙ sym (conflict_map id (holder_at hs d).locks)
    ∙ (λ i. list_any (do_conflict (sym at i)) (holder_at (is i) d).locks)

pub holds_on_key : (maps : BTreeMap (List ℕ) MapLocks) (hs now : Holders) (id k : List ℕ) (lock : Lock) (o : Option MapLocks) (d : ℕ) → IsIndexOf maps hs → hs ≡ now → lock ≡ OnKey id k → o ≡ map_at maps id
    → holds_key o k d ≡ list_any (same_lock lock) (holder_at now d).locks
holds_on_key maps hs now id k lock o d index is at there = (λ i. holds_key (there i) k d) ∙ (index id d).key k ∙ (λ i. list_any (same_lock (sym at i)) (holder_at (is i) d).locks)

-- ---- a walk over the clients

filter_one_more : (p : ℕ → Bool) (n : ℕ) → filter p (range_with_len 0 (n + 1)) ≡ filter p (range_with_len 0 n) ++ cond (p n) (n ∷ []) []
filter_one_more p n = ap (filter p) (sym (map-id (range_with_len 0 (n + 1)))) ∙ filter_of_map_range_with_len_more p (λ k. k) 0 n n (omega arith)
    ∙ ap (λ xs. filter p xs ++ cond (p n) (n ∷ []) []) (map-id (range_with_len 0 n))

-- one client more
pub filter_range_more : (p : ℕ → Bool) (n : ℕ) (found more : List ℕ) (b : Bool) → found ≡ filter p (range_with_len 0 n) → b ≡ p n → more ≡ found ++ cond b (n ∷ []) [] → more ≡ filter p (range_with_len 0 (n + 1))
filter_range_more p n found more b h s m = m ∙ (λ i. h i ++ cond (s i) (n ∷ []) []) ∙ sym (filter_one_more p n)

pub none_more : (p : ℕ → Bool) (n : ℕ) → filter p (range_with_len 0 n) ≡ [] → p n ≡ false → filter p (range_with_len 0 (n + 1)) ≡ []
none_more p n h s = filter_one_more p n ∙ (λ i. h i ++ cond (s i) (n ∷ []) [])

head_none : (b : Bool) (x : ℕ) (xs : List ℕ) → cond b (x ∷ xs) xs ≡ [] → (b ≡ false) × (xs ≡ [])
head_none true x xs h = absurd cc
head_none false x xs h = (refl, h)

least_from : (p : ℕ → Bool) (i a n : ℕ) → i < n → filter p (range_with_len a i) ≡ [] → p (a + i) ≡ true → least_client (filter p (range_with_len a n)) ≡ Some (a + i)
least_from p zero a zero lt h is = absurd (omega arith)
least_from p zero a (suc n) lt h is = ap (λ b. least_client (cond b (a ∷ filter p (range_with_len (a + 1) n)) (filter p (range_with_len (a + 1) n)))) (ap p (omega arith) ∙ is) ∙ ap Some (omega arith)
least_from p (suc i) a zero lt h is = absurd (omega arith)
least_from p (suc i) a (suc n) lt h is =
    let r = head_none (p a) a _ h in
    ap (λ b. least_client (cond b (a ∷ filter p (range_with_len (a + 1) n)) (filter p (range_with_len (a + 1) n)))) r.0
    ∙ least_from p i (a + 1) n (omega arith) r.1 (ap p (omega arith) ∙ is) ∙ ap Some (omega arith)

pub least_at : (p : ℕ → Bool) (i n : ℕ) → i < n → filter p (range_with_len 0 i) ≡ [] → p i ≡ true → Some i ≡ least_client (filter p (range_with_len 0 n))
least_at p i n lt h is = sym (least_from p i 0 n lt h (ap p (omega arith) ∙ is) ∙ ap Some (omega arith))

-- the first of the clients that passes
find_head : (b : Bool) (x : ℕ) (o : Option ℕ) → cond b (Some x) o ≡ None → (b ≡ false) × (o ≡ None)
find_head true x o h = absurd cc
find_head false x o h = (refl, h)

pub find_first : (p : ℕ → Bool) (xs : List ℕ) (i d : ℕ) → i < length xs → find p (take i xs) ≡ None → p (get_or xs i d) ≡ true → Some (get_or xs i d) ≡ find p xs
find_first p [] i d lt h is = absurd (omega arith)
find_first p (x ∷ xs) zero d lt h is = ap (λ b. cond b (Some x) (find p xs)) (sym is)
find_first p (x ∷ xs) (suc i) d lt h is = let r = find_head (p x) x _ h in find_first p xs i d (omega arith) r.1 is ∙ ap (λ b. cond b (Some x) (find p xs)) (sym r.0)

find_next : (p : ℕ → Bool) (xs : List ℕ) (i d : ℕ) → i < length xs → find p (take i xs) ≡ None → p (get_or xs i d) ≡ false → find p (take (suc i) xs) ≡ None
find_next p [] i d lt h is = refl
find_next p (x ∷ xs) zero d lt h is = ap (λ b. cond b (Some x) None) is
find_next p (x ∷ xs) (suc i) d lt h is = let r = find_head (p x) x _ h in ap (λ b. cond b (Some x) (find p (take (suc i) xs))) r.0 ∙ find_next p xs i d (omega arith) r.1 is

pub find_more : (p : ℕ → Bool) (xs : List ℕ) (i d : ℕ) → i < length xs → find p (take i xs) ≡ None → p (get_or xs i d) ≡ false → find p (take (i + 1) xs) ≡ None
find_more p xs i d lt h is = ap (λ n. find p (take n xs)) (add-one i) ∙ find_next p xs i d lt h is

-- the answer on a ring
pub ring_answer : (hs : Holders) (c : ℕ) (lock : Lock) (leading : List Bool) (clients : List ℕ) (r : Option ℕ) → c < length hs
    → ((e : ℕ) → get_or leading e false ≡ is_reached (with_wait hs c lock) (length hs) e c) → clients ≡ hinderers hs c lock
    → r ≡ (if get_or leading c false then find (λ d. get_or leading d false) clients else None) → IsRing hs c lock r
ring_answer hs c lock leading clients r lt lead is h = subst (IsRing hs c lock) (sym (h ∙ (λ i. if lead c i then find (λ d. lead d i) (is i) else None))) (at (ring hs c lock) refl)
  where
    found : ring hs c lock ≡ true → (o : Option ℕ) → via hs c lock ≡ o → IsRing hs c lock o
    found is' None e = absurd (ring_has_via hs c lock lt is' e)
    found is' (Some d) e = (is', e)

    at : (b : Bool) → ring hs c lock ≡ b → IsRing hs c lock (if b then via hs c lock else None)
    at true is' = found is' (via hs c lock) refl
    at false is' = is'

-- ---- the whole

pub sound_new : (maps : BTreeMap (List ℕ) MapLocks) (n : ℕ) → maps.entries ≡ [] → 2 ≤ n → n ≤ CLIENT_LIMIT + 1 → AreSoundLocks maps (replicate n nobody)
sound_new maps n empty some most = record {
  indexed = λ id d. let here = everywhere n d in let none = empty_map maps id empty in record {
    map = (λ i. holds_map (none i) d) ∙ ap (λ (h : Holder). list_any (same_lock (OnMap id)) h.locks) (sym here);
    key = λ k. (λ i. holds_key (none i) k d) ∙ ap (λ (h : Holder). list_any (same_lock (OnKey id k)) h.locks) (sym here);
    some_key = (λ i. holds_some_key (none i) d) ∙ ap (λ (h : Holder). list_any (is_on_key_of id) h.locks) (sym here);
  };
  ringless = λ c. stays_put (replicate n nobody) c c (ap (λ (h : Holder). h.waits) (everywhere n c)) _;
  some = subst (λ k. 2 ≤ k) (sym (length-replicate n nobody)) some;
  most = subst (λ k. k ≤ CLIENT_LIMIT + 1) (sym (length-replicate n nobody)) most;
  compactor = everywhere n 0;
}
  where
    everywhere : (n d : ℕ) → holder_at (replicate n nobody) d ≡ nobody
    everywhere n d = ⊎_elim (λ lt. get_or-replicate n d nobody nobody lt) (λ le. get_or_past _ d nobody (subst (λ k. k ≤ d) (sym (length-replicate n nobody)) le)) (cases_lt d n)

-- the holders once one of them but the first is another
pub sound_after : (maps now : BTreeMap (List ℕ) MapLocks) (hs : Holders) (c : ℕ) (h : Holder) → AreSoundLocks maps hs → 1 ≤ c → IsIndexOf now (slice_set hs c h) → IsRingless (slice_set hs c h) → AreSoundLocks now (slice_set hs c h)
sound_after maps now hs c h was some index ringless = record {
  indexed = index;
  ringless = ringless;
  some = subst (λ k. 2 ≤ k) (sym (length-set hs c h)) was.some;
  most = subst (λ k. k ≤ CLIENT_LIMIT + 1) (sym (length-set hs c h)) was.most;
  compactor = holder_other hs c 0 h (λ is. absurd (omega (arith, some, is))) ∙ was.compactor;
}

-- a holder with the same locks
pub index_kept : (maps : BTreeMap (List ℕ) MapLocks) (hs : Holders) (c : ℕ) (h : Holder) → c < length hs → h.locks ≡ (holder_at hs c).locks → IsIndexOf maps hs → IsIndexOf maps (slice_set hs c h)
index_kept maps hs c h lt same index id d = subst (λ (locks : List Lock). SaysOf (map_at maps id) id d locks) (⊎_elim
    (λ here. subst (λ e. (holder_at hs e).locks ≡ (holder_at (slice_set hs c h) e).locks) (sym here) (sym same ∙ sym (ap (λ (i : Holder). i.locks) (holder_same hs c h lt))))
    (λ other. sym (ap (λ (i : Holder). i.locks) (holder_other hs c d h other)))
    (cases_eq d c)) (index id d)

-- where nobody hinders the client, nobody else holds the lock
in_range : (n a d : ℕ) → a ≤ d → d < a + n → In d (range_with_len a n)
in_range zero a d le lt = absurd (omega arith)
in_range (suc n) a d le lt = ⊎_elim (λ is. inl is) (λ other. inr (in_range n (a + 1) d (omega (arith, other)) (omega arith))) (cases_eq a d)

pub free_of_others : (hs : Holders) (c : ℕ) (lock : Lock) → hinderers hs c lock ≡ [] → NoOther hs c lock
free_of_others hs c lock none d other = false_from_ne_true _ (λ is. ⊎_elim
    (λ lt. subst (In d) none (filter_in (is_hindered_by hs c lock) (range_with_len 0 (length hs)) d (in_range (length hs) 0 d (omega arith) (omega (arith, lt)))
    (and_from _ _ (ap not (false_from_ne_true (d == c) (λ same. other ((Decides-eqb d c).0 same)))) (more lock is))))
    (λ le. let no = ap (λ (h : Holder). list_any (same_lock lock) h.locks) (get_or_past hs d nobody le) in absurd cc)
    (cases_lt d (length hs)))
  where
    more : (l : Lock) → list_any (same_lock l) (holder_at hs d).locks ≡ true → list_any (do_conflict l) (holder_at hs d).locks ≡ true
    more (OnKey id k) is = conflict_key id k _ ∙ or_right _ _ is
    more (OnMap id) is = conflict_map id _ ∙ or_left _ _ is

pub sound_wait : (maps : BTreeMap (List ℕ) MapLocks) (hs : Holders) (c : ℕ) (lock : Lock) → AreSoundLocks maps hs → 1 ≤ c → c < length hs → ring hs c lock ≡ false → AreSoundLocks maps (with_wait hs c lock)
sound_wait maps hs c lock was some lt closes = sound_after maps maps hs c _ was some (index_kept maps hs c _ lt refl was.indexed) (ringless_wait hs c lock was.ringless lt closes)

pub sound_quiet : (maps now : BTreeMap (List ℕ) MapLocks) (hs : Holders) (c : ℕ) (h : Holder) → AreSoundLocks maps hs → 1 ≤ c → c < length hs → h.waits ≡ None → IsIndexOf now (slice_set hs c h) → AreSoundLocks now (slice_set hs c h)
sound_quiet maps now hs c h was some lt quiet index = sound_after maps now hs c h was some index (ringless_quiet hs c h was.ringless lt quiet)

-- what stands at a place, whatever stands in for nothing
pub same_item : (hs : Holders) (i : ℕ) (h : Holder) → i < length hs → h ≡ get_or hs i h → h ≡ holder_at hs i
same_item [] i h lt is = absurd (omega arith)
same_item (x ∷ xs) zero h lt is = is
same_item (x ∷ xs) (suc i) h lt is = same_item xs i h (omega arith) is

pub wait_holder : (hs : Holders) (c : ℕ) (h old : Holder) (copy lock : Lock) → c < length hs → old ≡ get_or hs c old → copy ≡ lock → h ≡ record old { waits = Some copy } → h ≡ record (holder_at hs c) { waits = Some lock }
wait_holder hs c h old copy lock lt was same is = is ∙ (λ i. record (same_item hs c old lt was i) { waits = Some (same i) })

pub ring_found : (hs : Holders) (c : ℕ) (lock : Lock) (steps : List (List ℕ)) (own : List ℕ) (leading : List Bool) (r : Option ℕ) → c < length hs
    → steps ≡ map (waits_for (with_wait hs c lock)) (range_with_len 0 (length hs)) → own ≡ get_or steps c own
    → ((h : Holders) → steps ≡ map (waits_for h) (range_with_len 0 (length h)) → leading ≡ map (λ d. is_reached h (length h) d c) (range_with_len 0 (length h)))
    → r ≡ (if get_or leading c false then find (λ d. get_or leading d false) own else None) → IsRing hs c lock r
ring_found hs c lock steps own leading r lt s o lead h = ring_answer hs c lock leading own r lt
    (λ e. found_at now (length now) c leading (lead now (s ∙ ap (λ n. map (waits_for now) (range_with_len 0 n)) (sym same))) e ∙ ap (λ n. is_reached now n e c) same)
    (o ∙ ap (λ xs. get_or xs c own) s ∙ get_or-map-range_with_len (waits_for now) 0 (length hs) c c own lt (omega arith) ∙ own_step hs c lock lt) h
  where
    now : Holders
    now = with_wait hs c lock

    same : length (with_wait hs c lock) ≡ length hs
    same = length-set hs c _

pub own_steps_at : (hs : Holders) (c : ℕ) (lock : Lock) (steps : List (List ℕ)) → c < length hs → steps ≡ map (waits_for (with_wait hs c lock)) (range_with_len 0 (length hs)) → c < length steps
own_steps_at hs c lock steps lt s = subst (λ n. c < n) (sym (ap length s ∙ length-map-range_with_len (waits_for (with_wait hs c lock)) 0 (length hs))) lt

-- ---- a lock that is taken

pub sound_same : (maps now : BTreeMap (List ℕ) MapLocks) (hs : Holders) (c : ℕ) (h old : Holder) → AreSoundLocks maps hs → 1 ≤ c → c < length hs → old ≡ get_or hs c old → h ≡ old → IsIndexOf now hs → AreSoundLocks now (slice_set hs c h)
sound_same maps now hs c h old was some lt o is index = subst (AreSoundLocks now) (sym (ap (set hs c) (is ∙ same_item hs c old lt o) ∙ set-get_or hs c nobody))
    (record { indexed = index; ringless = was.ringless; some = was.some; most = was.most; compactor = was.compactor })

pub sound_kept : (maps : BTreeMap (List ℕ) MapLocks) (hs : Holders) (c : ℕ) (h old : Holder) → AreSoundLocks maps hs → 1 ≤ c → c < length hs → old ≡ get_or hs c old → h ≡ record { locks = old.locks; waits = None } → AreSoundLocks maps (slice_set hs c h)
sound_kept maps hs c h old was some lt o is = sound_quiet maps maps hs c h was some lt (ap (λ (i : Holder). i.waits) is)
    (index_kept maps hs c h lt (ap (λ (i : Holder). i.locks) (is ∙ (λ j. record { locks = (same_item hs c old lt o j).locks; waits = None }))) was.indexed)

pub sound_taken : (maps now : BTreeMap (List ℕ) MapLocks) (hs : Holders) (c : ℕ) (lock : Lock) (h old : Holder) → AreSoundLocks maps hs → 1 ≤ c → c < length hs → old ≡ get_or hs c old → h ≡ record { locks = lock ∷ old.locks; waits = None }
    → hinderers hs c lock ≡ [] → IsTaken maps now c lock → AreSoundLocks now (slice_set hs c h)
sound_taken maps now hs c lock h old was some lt o is free took = sound_quiet maps now hs c h was some lt (ap (λ (i : Holder). i.waits) is)
    (subst (λ (i : Holder). IsIndexOf now (slice_set hs c i)) (sym (is ∙ (λ j. record { locks = lock ∷ (same_item hs c old lt o j).locks; waits = None })))
    (took hs None was.indexed lt (free_of_others hs c lock free)))
