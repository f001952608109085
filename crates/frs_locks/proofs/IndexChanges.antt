-- The index once a client has taken a lock, and once it has given locks back.
use Rattle.std.proofs.Common.{◌≡◌, ◌≢◌, ⊎_elim, ℕ, ◌+◌, ◌<◌, ◌==◌, Bool, true, false, ◌&&◌, ◌||◌, List, [], ◌∷◌, length, drop, get_or, reverse, Option, None, Some, refl, sym, ◌∙◌, ap, subst, drop-cons, add-one}
use Rattle.std.specs.Prelude.{if◌then◌else◌, slice_set}
use Rattle.std.specs.List.{list_any}
use Rattle.std.specs.Str.{bytes_eq}
use Rattle.std.specs.BTreeMap.{BTreeMap}
use Rattle.std.specs.Cmp.Lexicographic.{nat_list_eq_equiv}
use Rattle.std.proofs.lemmas.Bool.{and_parts, and_from, cases_eq, false_from_ne_true}
use Rattle.std.proofs.lemmas.Bool.Decides.{Decides-eqb}
use Rattle.std.proofs.lemmas.Slice.Eq.{bytes_eq-Decides}
use Rattle.std.proofs.lemmas.List.Sorted.{IsPermutation-reverse, list_any-IsPermutation}
use Rattle.std.proofs.lemmas.List.Folds.{list_any_at}
use Rattle.frs_types.specs.declared.lock.Lock.{Lock}
use Rattle.frs_types.specs.declared.lock.Lock.TheVariants.{OnKey, OnMap}
use Rattle.frs_types.specs.Locks.{Holder, Holders, holder_at, nobody, same_lock}
use Rattle.frs_locks.specs.declared.map_locks.MapLocks.{MapLocks}
use Rattle.frs_locks.specs.Index.{IsIndexOf, LeavesTo, NoOther, SaysOf, SaysSame, map_at, is_client, holds_map, holds_key, holds_some_key, is_on_key_of}
use Rattle.frs_locks.proofs.NoRing.{holder_same, holder_other}

pub says_as : (m n : Option MapLocks) (id : List ℕ) (d : ℕ) (locks : List Lock) → SaysSame m n → SaysOf m id d locks → SaysOf n id d locks
says_as m n id d locks same says = record { map = same.map d ∙ says.map; key = λ k. same.key k d ∙ says.key k; some_key = same.some_key d ∙ says.some_key }

pub index_as : (maps now : BTreeMap (List ℕ) MapLocks) (hs : Holders) → ((q : List ℕ) → SaysSame (map_at maps q) (map_at now q)) → IsIndexOf maps hs → IsIndexOf now hs
index_as maps now hs same index = λ id d. says_as _ _ id d _ (same id) (index id d)

other_test : (c d : ℕ) → d ≢ c → (c == d) ≡ false
other_test c d other = false_from_ne_true (c == d) (λ is. other (sym ((Decides-eqb c d).0 is)))

pub same_key_no_other : (hs : Holders) (c : ℕ) (id key q k : List ℕ) → NoOther hs c (OnKey id key) → (d : ℕ) → d ≢ c → (bytes_eq q id && bytes_eq k key) ≡ true → list_any (same_lock (OnKey q k)) (holder_at hs d).locks ≡ false
same_key_no_other hs c id key q k none d other is =
    let p = and_parts _ _ is in
    (λ i. list_any (same_lock (OnKey ((bytes_eq-Decides q id).0 p.0 i) ((bytes_eq-Decides k key).0 p.1 i))) (holder_at hs d).locks) ∙ none d other

pub same_map_no_other : (hs : Holders) (c : ℕ) (id q : List ℕ) → NoOther hs c (OnMap id) → (d : ℕ) → d ≢ c → bytes_eq q id ≡ true → list_any (same_lock (OnMap q)) (holder_at hs d).locks ≡ false
same_map_no_other hs c id q none d other is = (λ i. list_any (same_lock (OnMap ((bytes_eq-Decides q id).0 is i))) (holder_at hs d).locks) ∙ none d other

pick_own : (b x : Bool) → (if b then true else x) ≡ (b || x)
pick_own true x = refl
pick_own false x = refl

pick_other : (b x : Bool) → (b ≡ true → x ≡ false) → (if b then false else x) ≡ x
pick_other true x h = sym (h refl)
pick_other false x h = refl

pick_nothing : (b x : Bool) → (b && false || x) ≡ x
pick_nothing true x = refl
pick_nothing false x = refl

pick_all : (b x : Bool) → (b && true || x) ≡ (b || x)
pick_all true x = refl
pick_all false x = refl

-- the two ends of what is said of a client once c's holder is another
pub each_client : (now : BTreeMap (List ℕ) MapLocks) (hs : Holders) (c : ℕ) (h : Holder) → c < length hs
    → ((id : List ℕ) → SaysOf (map_at now id) id c h.locks) → ((id : List ℕ) (d : ℕ) → d ≢ c → SaysOf (map_at now id) id d (holder_at hs d).locks) → IsIndexOf now (slice_set hs c h)
each_client now hs c h lt own others id d = ⊎_elim
    (λ here. subst (λ e. SaysOf (map_at now id) id e (holder_at (slice_set hs c h) e).locks) (sym here)
    (subst (λ (i : Holder). SaysOf (map_at now id) id c i.locks) (sym (holder_same hs c h lt)) (own id)))
    (λ other. subst (λ (i : Holder). SaysOf (map_at now id) id d i.locks) (sym (holder_other hs c d h other)) (others id d other))
    (cases_eq d c)

pub took_key : (maps now : BTreeMap (List ℕ) MapLocks) (c : ℕ) (id key : List ℕ)
    → ((q : List ℕ) (d : ℕ) → holds_map (map_at now q) d ≡ holds_map (map_at maps q) d)
    → ((q k : List ℕ) (d : ℕ) → holds_key (map_at now q) k d ≡ if bytes_eq q id && bytes_eq k key then c == d else holds_key (map_at maps q) k d)
    → ((q : List ℕ) (d : ℕ) → holds_some_key (map_at now q) d ≡ ((bytes_eq q id && (c == d)) || holds_some_key (map_at maps q) d))
    → (hs : Holders) (waits : Option Lock) → IsIndexOf maps hs → c < length hs → NoOther hs c (OnKey id key)
    → IsIndexOf now (slice_set hs c (record { locks = OnKey id key ∷ (holder_at hs c).locks; waits = waits }))
took_key maps now c id key m k s hs waits index lt none = each_client now hs c _ lt
    (λ q. record {
      map = m q c ∙ (index q c).map;
      key = λ l. k q l c ∙ (λ i. if bytes_eq q id && bytes_eq l key then (Decides-eqb c c).1 refl i else (index q c).key l i) ∙ pick_own (bytes_eq q id && bytes_eq l key) (list_any (same_lock (OnKey q l)) (holder_at hs c).locks);
      some_key = s q c ∙ (λ i. (bytes_eq q id && (Decides-eqb c c).1 refl i) || (index q c).some_key i) ∙ pick_all (bytes_eq q id) (list_any (is_on_key_of q) (holder_at hs c).locks);
    })
    (λ q d other. record {
      map = m q d ∙ (index q d).map;
      key = λ l. k q l d ∙ (λ i. if bytes_eq q id && bytes_eq l key then other_test c d other i else (index q d).key l i) ∙ pick_other (bytes_eq q id && bytes_eq l key) (list_any (same_lock (OnKey q l)) (holder_at hs d).locks) (same_key_no_other hs c id key q l none d other);
      some_key = s q d ∙ (λ i. (bytes_eq q id && other_test c d other i) || (index q d).some_key i) ∙ pick_nothing (bytes_eq q id) (list_any (is_on_key_of q) (holder_at hs d).locks);
    })

pub took_map : (maps now : BTreeMap (List ℕ) MapLocks) (c : ℕ) (id : List ℕ)
    → ((q : List ℕ) (d : ℕ) → holds_map (map_at now q) d ≡ if bytes_eq q id then c == d else holds_map (map_at maps q) d)
    → ((q k : List ℕ) (d : ℕ) → holds_key (map_at now q) k d ≡ holds_key (map_at maps q) k d)
    → ((q : List ℕ) (d : ℕ) → holds_some_key (map_at now q) d ≡ holds_some_key (map_at maps q) d)
    → (hs : Holders) (waits : Option Lock) → IsIndexOf maps hs → c < length hs → NoOther hs c (OnMap id)
    → IsIndexOf now (slice_set hs c (record { locks = OnMap id ∷ (holder_at hs c).locks; waits = waits }))
took_map maps now c id m k s hs waits index lt none = each_client now hs c _ lt
    (λ q. record {
      map = m q c ∙ (λ i. if bytes_eq q id then (Decides-eqb c c).1 refl i else (index q c).map i) ∙ pick_own (bytes_eq q id) (list_any (same_lock (OnMap q)) (holder_at hs c).locks);
      key = λ l. k q l c ∙ (index q c).key l;
      some_key = s q c ∙ (index q c).some_key;
    })
    (λ q d other. record {
      map = m q d ∙ (λ i. if bytes_eq q id then other_test c d other i else (index q d).map i) ∙ pick_other (bytes_eq q id) (list_any (same_lock (OnMap q)) (holder_at hs d).locks) (same_map_no_other hs c id q none d other);
      key = λ l. k q l d ∙ (index q d).key l;
      some_key = s q d ∙ (index q d).some_key;
    })

-- ---- locks that are given back

left_of : (b x y : Bool) → (if b then false else x) ≡ true → (x ≡ true → (b || y) ≡ true) → y ≡ true
left_of true x y h g = absurd cc
left_of false x y h g = g h

left_key : (b x y : Bool) → (if b && true then false else x) ≡ true → (x ≡ true → (b || y) ≡ true) → y ≡ true
left_key true x y h g = absurd cc
left_key false x y h g = g h

kept_key : (b x : Bool) → (if b && false then false else x) ≡ x
kept_key true x = refl
kept_key false x = refl

pub gave_key : (maps now : BTreeMap (List ℕ) MapLocks) (c : ℕ) (id key : List ℕ)
    → ((q : List ℕ) (d : ℕ) → holds_map (map_at now q) d ≡ holds_map (map_at maps q) d)
    → ((q k : List ℕ) (d : ℕ) → holds_key (map_at now q) k d ≡ if bytes_eq q id && bytes_eq k key then false else holds_key (map_at maps q) k d)
    → ((q : List ℕ) (d : ℕ) → holds_some_key (map_at now q) d ≡ if bytes_eq q id && (c == d) then false else holds_some_key (map_at maps q) d)
    → (hs : Holders) (rest : List Lock) → LeavesTo maps hs c (OnKey id key ∷ rest) → NoOther hs c (OnKey id key) → LeavesTo now hs c rest
gave_key maps now c id key m k s hs rest leaves none = record {
  others = λ q d other. record {
    map = m q d ∙ (leaves.others q d other).map;
    key = λ l. k q l d ∙ (λ i. if bytes_eq q id && bytes_eq l key then false else (leaves.others q d other).key l i) ∙ pick_other (bytes_eq q id && bytes_eq l key) (list_any (same_lock (OnKey q l)) (holder_at hs d).locks) (same_key_no_other hs c id key q l none d other);
    some_key = s q d ∙ (λ i. if bytes_eq q id && other_test c d other i then false else (leaves.others q d other).some_key i) ∙ kept_key (bytes_eq q id) (list_any (is_on_key_of q) (holder_at hs d).locks);
  };
  map = λ q is. leaves.map q (sym (m q c) ∙ is);
  key = λ q l is. left_of (bytes_eq q id && bytes_eq l key) (holds_key (map_at maps q) l c) (list_any (same_lock (OnKey q l)) rest) (sym (k q l c) ∙ is) (leaves.key q l);
  some_key = λ q is. left_key (bytes_eq q id) (holds_some_key (map_at maps q) c) (list_any (is_on_key_of q) rest) ((λ i. if bytes_eq q id && sym ((Decides-eqb c c).1 refl) i then false else holds_some_key (map_at maps q) c) ∙ sym (s q c) ∙ is) (leaves.some_key q);
}

pub gave_map : (maps now : BTreeMap (List ℕ) MapLocks) (c : ℕ) (id : List ℕ)
    → ((q : List ℕ) (d : ℕ) → holds_map (map_at now q) d ≡ if bytes_eq q id then false else holds_map (map_at maps q) d)
    → ((q k : List ℕ) (d : ℕ) → holds_key (map_at now q) k d ≡ holds_key (map_at maps q) k d)
    → ((q : List ℕ) (d : ℕ) → holds_some_key (map_at now q) d ≡ holds_some_key (map_at maps q) d)
    → (hs : Holders) (rest : List Lock) → LeavesTo maps hs c (OnMap id ∷ rest) → NoOther hs c (OnMap id) → LeavesTo now hs c rest
gave_map maps now c id m k s hs rest leaves none = record {
  others = λ q d other. record {
    map = m q d ∙ (λ i. if bytes_eq q id then false else (leaves.others q d other).map i) ∙ pick_other (bytes_eq q id) (list_any (same_lock (OnMap q)) (holder_at hs d).locks) (same_map_no_other hs c id q none d other);
    key = λ l. k q l d ∙ (leaves.others q d other).key l;
    some_key = s q d ∙ (leaves.others q d other).some_key;
  };
  map = λ q is. left_of (bytes_eq q id) (holds_map (map_at maps q) c) (list_any (same_lock (OnMap q)) rest) (sym (m q c) ∙ is) (leaves.map q);
  key = λ q l is. leaves.key q l (sym (k q l c) ∙ is);
  some_key = λ q is. leaves.some_key q (sym (s q c) ∙ is);
}

pub any_reversed : (p : Lock → Bool) (locks : List Lock) → list_any p (reverse locks) ≡ list_any p locks
any_reversed p locks = sym (list_any-IsPermutation p locks (reverse locks) (IsPermutation-reverse locks))

pub leaves_all : (maps : BTreeMap (List ℕ) MapLocks) (hs : Holders) (c : ℕ) (locks : List Lock) → IsIndexOf maps hs → reverse locks ≡ (holder_at hs c).locks → LeavesTo maps hs c locks
leaves_all maps hs c locks index own = record {
  others = λ q d other. index q d;
  map = λ q is. sym (any_reversed _ locks) ∙ ap (list_any _) own ∙ sym (index q c).map ∙ is;
  key = λ q k is. sym (any_reversed _ locks) ∙ ap (list_any _) own ∙ sym ((index q c).key k) ∙ is;
  some_key = λ q is. sym (any_reversed _ locks) ∙ ap (list_any _) own ∙ sym (index q c).some_key ∙ is;
}

pub left_nothing : (maps : BTreeMap (List ℕ) MapLocks) (hs : Holders) (c : ℕ) → c < length hs → LeavesTo maps hs c [] → IsIndexOf maps (slice_set hs c nobody)
left_nothing maps hs c lt leaves = each_client maps hs c nobody lt
    (λ q. record {
      map = false_from_ne_true _ (λ is. let no = leaves.map q is in absurd cc);
      key = λ k. false_from_ne_true _ (λ is. let no = leaves.key q k is in absurd cc);
      some_key = false_from_ne_true _ (λ is. let no = leaves.some_key q is in absurd cc);
    })
    leaves.others

one_client : (o : Option ℕ) (c d : ℕ) → d ≢ c → is_client o c ≡ true → is_client o d ≡ false
one_client None c d other is = refl
one_client (Some e) c d other is = false_from_ne_true _ (λ same. other (sym ((Decides-eqb e d).0 same) ∙ (Decides-eqb e c).0 is))

one_on_map : (m : Option MapLocks) (c d : ℕ) → d ≢ c → holds_map m c ≡ true → holds_map m d ≡ false
one_on_map None c d other is = refl
one_on_map (Some m) c d other is = one_client m.whole c d other is

one_on_key : (m : Option MapLocks) (k : List ℕ) (c d : ℕ) → d ≢ c → holds_key m k c ≡ true → holds_key m k d ≡ false
one_on_key None k c d other is = refl
one_on_key (Some m) k c d other is = one_client _ c d other is

-- a lock that c holds is held by no other
pub held_alone : (maps : BTreeMap (List ℕ) MapLocks) (hs : Holders) (c : ℕ) (lock : Lock) → IsIndexOf maps hs → list_any (same_lock lock) (holder_at hs c).locks ≡ true → NoOther hs c lock
held_alone maps hs c (OnKey id key) index is d other = sym ((index id d).key key) ∙ one_on_key (map_at maps id) key c d other ((index id c).key key ∙ is)
held_alone maps hs c (OnMap id) index is d other = sym (index id d).map ∙ one_on_map (map_at maps id) c d other ((index id c).map ∙ is)

pub same_self : (lock : Lock) → same_lock lock lock ≡ true
same_self (OnKey id key) = and_from _ _ (nat_list_eq_equiv.refl id) (nat_list_eq_equiv.refl key)
same_self (OnMap id) = nat_list_eq_equiv.refl id

-- the lock at this place of the list is held by c alone
pub alone_at : (maps : BTreeMap (List ℕ) MapLocks) (hs : Holders) (c : ℕ) (locks : List Lock) (i : ℕ) (lock : Lock) → IsIndexOf maps hs → reverse locks ≡ (holder_at hs c).locks → i < length locks → lock ≡ get_or locks i lock → NoOther hs c lock
alone_at maps hs c locks i lock index own lt is = held_alone maps hs c lock index
    (ap (list_any (same_lock lock)) (sym own) ∙ any_reversed (same_lock lock) locks ∙ list_any_at (same_lock lock) locks i lock lt (ap (same_lock lock) (sym is) ∙ same_self lock))

pub rest_begins : (locks : List Lock) (i : ℕ) (lock : Lock) → i < length locks → lock ≡ get_or locks i lock → drop i locks ≡ lock ∷ drop (i + 1) locks
rest_begins locks i lock lt is = drop-cons locks i lock lt ∙ (λ j. sym is j ∷ drop (sym (add-one i) j) locks)

-- what a client that takes a lock, or gives one back, changes in the index
abbrev pub IsTaken : BTreeMap (List ℕ) MapLocks → BTreeMap (List ℕ) MapLocks → ℕ → Lock → Type 0
IsTaken maps now c lock = (hs : Holders) (waits : Option Lock) → IsIndexOf maps hs → c < length hs → NoOther hs c lock
    → IsIndexOf now (slice_set hs c (record { locks = lock ∷ (holder_at hs c).locks; waits = waits }))

abbrev pub IsGiven : BTreeMap (List ℕ) MapLocks → BTreeMap (List ℕ) MapLocks → ℕ → Lock → Type 0
IsGiven maps now c lock = (hs : Holders) (rest : List Lock) → LeavesTo maps hs c (lock ∷ rest) → NoOther hs c lock → LeavesTo now hs c rest

pub taken_by : (maps made now : BTreeMap (List ℕ) MapLocks) (c : ℕ) (lock same : Lock) → lock ≡ same → ((q : List ℕ) → SaysSame (map_at maps q) (map_at made q)) → IsTaken made now c same → IsTaken maps now c lock
taken_by maps made now c lock same is alike took = subst (IsTaken maps now c) (sym is) (λ hs waits index. took hs waits (index_as maps made hs alike index))

pub copied_key : (id key copy : List ℕ) (lock : Lock) → lock ≡ OnKey id key → copy ≡ key → lock ≡ OnKey id copy
copied_key id key copy lock is same = is ∙ ap (OnKey id) (sym same)
