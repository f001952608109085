-- What the index says once something of one map is another.
use Rattle.std.proofs.Common.{◌≡◌, ⊎_elim, ℕ, Bool, true, false, cond, ◌&&◌, ◌||◌, Result, Ok, Err, IfErr, IsSome, List, [], Option, None, Some, refl, sym, ◌∙◌, ap, subst, Ordering, Less, Equal, Greater, nat_cmp, is_eq, get_or, replicate, ◌≤◌}
use Rattle.std.specs.Prelude.{◌==◌, if◌then◌else◌, is_some, slice_index_or}
use Rattle.std.specs.BTreeMap.{BTreeMap, get, is_at}
use Rattle.std.specs.Cmp.Lexicographic.{slice_cmp, texts_ties, nat_list_eq_equiv}
use Rattle.std.specs.Str.{bytes_eq}
use Rattle.std.specs.Map.{lookup}
use Rattle.std.proofs.lemmas.Bool.{cases_lt}
use Rattle.std.proofs.lemmas.List.{get_or-replicate, get_or_past, length-replicate}
use Rattle.std.proofs.lemmas.Map.Lookups.{exact_bytes}
use Rattle.frs_locks.specs.declared.map_locks.MapLocks.{MapLocks}
use Rattle.frs_locks.specs.Index.{SaysSame, map_at, is_client, holds_map, holds_key, holds_some_key}

-- the map's keys, once the owner of one of them is another
pub key_after : (m n : BTreeMap (List ℕ) ℕ) (key : List ℕ) (w : Option ℕ) → ((q : List ℕ) → get (slice_cmp nat_cmp) n q ≡ cond (is_at (slice_cmp nat_cmp key) q) w (get (slice_cmp nat_cmp) m q))
    → (k : List ℕ) (d : ℕ) → is_client (get (slice_cmp nat_cmp) n k) d ≡ if bytes_eq k key then is_client w d else is_client (get (slice_cmp nat_cmp) m k) d
key_after m n key w h k d = ap (λ o. is_client o d) (h k) ∙ split (is_eq (slice_cmp nat_cmp key k)) ∙ ap (λ b. if b then is_client w d else is_client (get (slice_cmp nat_cmp) m k) d) (sym (texts_ties key k) ∙ nat_list_eq_equiv.symm key k)
  where
    split : (b : Bool) → is_client (cond b w (get (slice_cmp nat_cmp) m k)) d ≡ if b then is_client w d else is_client (get (slice_cmp nat_cmp) m k) d
    split true = refl
    split false = refl

-- what holds of one map's entry and of the entries of the others holds of all
pub each_map : (P : Option MapLocks → List ℕ → Type 0) (m n : BTreeMap (List ℕ) MapLocks) (id : List ℕ) (w : Option MapLocks)
    → ((q : List ℕ) → map_at n q ≡ cond (is_at (slice_cmp nat_cmp id) q) w (map_at m q)) → P w id → ((q : List ℕ) → bytes_eq q id ≡ false → P (map_at m q) q) → (q : List ℕ) → P (map_at n q) q
each_map P m n id w h here others q = subst (λ o. P o q) (sym (h q)) (at (slice_cmp nat_cmp id q) refl)
  where
    at : (o : Ordering) → slice_cmp nat_cmp id q ≡ o → P (cond (is_eq o) w (map_at m q)) q
    at Less e = others q (nat_list_eq_equiv.symm q id ∙ texts_ties id q ∙ ap is_eq e)
    at Equal e = subst (λ i. P w i) (exact_bytes id q e) here
    at Greater e = others q (nat_list_eq_equiv.symm q id ∙ texts_ties id q ∙ ap is_eq e)

pub says_same : (m : Option MapLocks) → SaysSame m m
says_same m = record { map = λ d. refl; key = λ k d. refl; some_key = λ d. refl }

pub never : (n d : ℕ) → get_or (replicate n false) d false ≡ false
never n d = ⊎_elim (λ lt. get_or-replicate n d false false lt) (λ le. get_or_past _ d false (subst (λ k. k ≤ d) (sym (length-replicate n false)) le)) (cases_lt d n)

pub empty_map : {X : Type 0} (m : BTreeMap (List ℕ) X) (q : List ℕ) → m.entries ≡ [] → get (slice_cmp nat_cmp) m q ≡ None
empty_map m q e = ap (λ es. lookup (is_at (slice_cmp nat_cmp q)) es) e

-- what says nothing, put where there was nothing
pub same_made : (m n : BTreeMap (List ℕ) MapLocks) (id copy : List ℕ) (new : MapLocks) → copy ≡ id → is_some (map_at m id) ≡ false → SaysSame None (Some new)
    → ((q : List ℕ) → map_at n q ≡ cond (is_at (slice_cmp nat_cmp copy) q) (Some new) (map_at m q)) → (q : List ℕ) → SaysSame (map_at m q) (map_at n q)
same_made m n id copy new is absent nothing h = each_map (λ o q. SaysSame (map_at m q) o) m n copy (Some new) h
    (subst (λ o. SaysSame o (Some new)) (sym (ap (map_at m) is ∙ gone (map_at m id) absent)) nothing) (λ q other. says_same (map_at m q))
  where
    gone : (o : Option MapLocks) → is_some o ≡ false → o ≡ None
    gone None e = refl
    gone (Some x) e = absurd cc

pub if_err_all : {V E : Type 0} {P : E → Type 0} (r : Result V E) → ((e : E) → P e) → IfErr r P
if_err_all (Ok v) p = tt
if_err_all (Err e) p = p e

-- n has another entry at one map, of which m has an entry
module _ (m n : BTreeMap (List ℕ) MapLocks) (id : List ℕ) (e f : MapLocks) (was : Some e ≡ map_at m id)
    (h : (q : List ℕ) → map_at n q ≡ cond (is_at (slice_cmp nat_cmp id) q) (Some f) (map_at m q)) where
  pub map_same : f.whole ≡ e.whole → (q : List ℕ) (d : ℕ) → holds_map (map_at n q) d ≡ holds_map (map_at m q) d
  map_same whole = each_map (λ o q. (d : ℕ) → holds_map o d ≡ holds_map (map_at m q) d) m n id (Some f) h
      (λ d. ap (λ o. is_client o d) whole ∙ ap (λ o. holds_map o d) was) (λ q other d. refl)

  pub map_after : (v : ℕ → Bool) → ((d : ℕ) → is_client f.whole d ≡ v d) → (q : List ℕ) (d : ℕ) → holds_map (map_at n q) d ≡ if bytes_eq q id then v d else holds_map (map_at m q) d
  map_after v whole = each_map (λ o q. (d : ℕ) → holds_map o d ≡ if bytes_eq q id then v d else holds_map (map_at m q) d) m n id (Some f) h
      (λ d. whole d ∙ ap (λ b. if b then v d else holds_map (map_at m id) d) (sym (nat_list_eq_equiv.refl id)))
      (λ q other d. ap (λ b. if b then v d else holds_map (map_at m q) d) (sym other))

  pub key_same : f.keys ≡ e.keys → (q k : List ℕ) (d : ℕ) → holds_key (map_at n q) k d ≡ holds_key (map_at m q) k d
  key_same keys q k d = each_map (λ o q. holds_key o k d ≡ holds_key (map_at m q) k d) m n id (Some f) h
      (ap (λ ks. is_client (get (slice_cmp nat_cmp) ks k) d) keys ∙ ap (λ o. holds_key o k d) was) (λ q other. refl) q

  pub keys_after : (key : List ℕ) (v : ℕ → Bool) → ((k : List ℕ) (d : ℕ) → holds_key (Some f) k d ≡ if bytes_eq k key then v d else holds_key (Some e) k d)
      → (q k : List ℕ) (d : ℕ) → holds_key (map_at n q) k d ≡ if bytes_eq q id && bytes_eq k key then v d else holds_key (map_at m q) k d
  keys_after key v keys q k d = each_map (λ o q. holds_key o k d ≡ if bytes_eq q id && bytes_eq k key then v d else holds_key (map_at m q) k d) m n id (Some f) h
      (keys k d ∙ ap (λ o. if bytes_eq k key then v d else holds_key o k d) was ∙ ap (λ b. if b && bytes_eq k key then v d else holds_key (map_at m id) k d) (sym (nat_list_eq_equiv.refl id)))
      (λ q other. ap (λ b. if b && bytes_eq k key then v d else holds_key (map_at m q) k d) (sym other)) q

  pub some_key_same : f.clients ≡ e.clients → (q : List ℕ) (d : ℕ) → holds_some_key (map_at n q) d ≡ holds_some_key (map_at m q) d
  some_key_same clients q d = each_map (λ o q. holds_some_key o d ≡ holds_some_key (map_at m q) d) m n id (Some f) h
      (ap (λ cs. slice_index_or cs d false) clients ∙ ap (λ o. holds_some_key o d) was) (λ q other. refl) q

  pub some_key_more : (c : ℕ) → ((d : ℕ) → holds_some_key (Some f) d ≡ ((c == d) || holds_some_key (Some e) d))
      → (q : List ℕ) (d : ℕ) → holds_some_key (map_at n q) d ≡ ((bytes_eq q id && (c == d)) || holds_some_key (map_at m q) d)
  some_key_more c more q d = each_map (λ o q. holds_some_key o d ≡ ((bytes_eq q id && (c == d)) || holds_some_key (map_at m q) d)) m n id (Some f) h
      (more d ∙ ap (λ o. (c == d) || holds_some_key o d) was ∙ ap (λ b. (b && (c == d)) || holds_some_key (map_at m id) d) (sym (nat_list_eq_equiv.refl id)))
      (λ q other. ap (λ b. (b && (c == d)) || holds_some_key (map_at m q) d) (sym other)) q

  pub some_key_less : (c : ℕ) → ((d : ℕ) → holds_some_key (Some f) d ≡ if c == d then false else holds_some_key (Some e) d)
      → (q : List ℕ) (d : ℕ) → holds_some_key (map_at n q) d ≡ if bytes_eq q id && (c == d) then false else holds_some_key (map_at m q) d
  some_key_less c less q d = each_map (λ o q. holds_some_key o d ≡ if bytes_eq q id && (c == d) then false else holds_some_key (map_at m q) d) m n id (Some f) h
      (less d ∙ ap (λ o. if c == d then false else holds_some_key o d) was ∙ ap (λ b. if b && (c == d) then false else holds_some_key (map_at m id) d) (sym (nat_list_eq_equiv.refl id)))
      (λ q other. ap (λ b. if b && (c == d) then false else holds_some_key (map_at m q) d) (sym other)) q

  pub each_same : SaysSame (Some e) (Some f) → (q : List ℕ) → SaysSame (map_at m q) (map_at n q)
  each_same same = each_map (λ o q. SaysSame (map_at m q) o) m n id (Some f) h (subst (λ o. SaysSame o (Some f)) was same) (λ q other. says_same (map_at m q))

pub some_there : {A : Type 0} {o : Option A} {x : A} → Some x ≡ o → IsSome o
some_there {A} h = subst (λ (o : Option A). IsSome o) h refl
