-- What was noted once more is noted; and what an entry that is kept changes.
use Rattle.std.proofs.Common.{◌≡◌, ℕ, Bool, true, false, ◌||◌, List, [], ◌∷◌, ◌++◌, Some, reverse, refl, sym, ap, ◌∙◌, Ordering, Less, Equal, Greater, nat_cmp, is_eq}
use Rattle.std.specs.Prelude.{◌==◌, if◌then◌else◌}
use Rattle.std.specs.Ordering.{match_ordering}
use Rattle.std.specs.Cmp.{IsTotalOrder, alike_right, nat_cmp_total, unsigned_ties, both_tied, nat_eq_equiv, on_total, then_total}
use Rattle.std.specs.Cmp.Lexicographic.{slice_cmp, nat_list_cmp_total, texts_ties}
use Rattle.std.specs.BTreeSet.{insert_key}
use Rattle.std.specs.Str.{bytes_eq}
use Rattle.std.proofs.lemmas.List.{reverse-append}
use Rattle.frs_types.specs.declared.record.Entry.{Entry}
use Rattle.frs_types.specs.Maps.{Place, place_cmp, same_place}
use Rattle.frs_filters.specs.Filters.{is_noted, is_map_noted, is_placed, with_older}

pub or_swap : (a b c : Bool) → (a || (b || c)) ≡ (b || (a || c))
or_swap true true c = refl
or_swap true false c = refl
or_swap false b c = refl

or_same : (a b : Bool) → (a || b) ≡ (a || (a || b))
or_same true b = refl
or_same false b = refl

pub has-insert_key : {K : Type 0} {cmp : K → K → Ordering} → IsTotalOrder cmp → (ks : List K) (k q : K) → is_noted cmp (insert_key cmp ks k) q ≡ (is_eq (cmp q k) || is_noted cmp ks q)
has-insert_key o [] k q = refl
has-insert_key {K} {cmp} o (x ∷ xs) k q =
    elim (cmp k x) as (λ c. cmp k x ≡ c → is_noted cmp (match_ordering c (k ∷ x ∷ xs) (x ∷ xs) (x ∷ insert_key cmp xs k)) q ≡ (is_eq (cmp q k) || (is_eq (cmp q x) || is_noted cmp xs q))) [
      | Less ↦ λ _. refl
      | Equal ↦ λ h. or_same (is_eq (cmp q x)) (is_noted cmp xs q) ∙ ap (λ c. is_eq c || (is_eq (cmp q x) || is_noted cmp xs q)) (sym (alike_right o k x q h))
      | Greater ↦ λ _. ap (λ b. is_eq (cmp q x) || b) (has-insert_key o xs k q) ∙ or_swap (is_eq (cmp q x)) (is_eq (cmp q k)) (is_noted cmp xs q)
    ] refl

-- numbers
pub noted-number : (ks : List ℕ) (k q : ℕ) (rest : Bool) → is_noted nat_cmp ks q ≡ rest → is_noted nat_cmp (insert_key nat_cmp ks k) q ≡ ((k == q) || rest)
noted-number ks k q rest h = has-insert_key nat_cmp_total ks k q ∙ (λ i. (sym (unsigned_ties q k) ∙ nat_eq_equiv.symm q k) i || h i)

-- ids
pub noted-id : (ks : List (List ℕ)) (k q : List ℕ) (rest : Bool) → is_map_noted ks q ≡ rest → is_map_noted (insert_key (slice_cmp nat_cmp) ks k) q ≡ (bytes_eq q k || rest)
noted-id ks k q rest h = has-insert_key nat_list_cmp_total ks k q ∙ (λ i. sym (texts_ties q k) i || h i)

-- places
place_total : IsTotalOrder place_cmp
place_total = then_total (on_total (λ (p : Place). p.0) nat_list_cmp_total) (on_total (λ (p : Place). p.1) nat_list_cmp_total)

place_ties : (p q : Place) → is_eq (place_cmp p q) ≡ same_place p q
place_ties p q = sym (both_tied _ _ (slice_cmp nat_cmp p.0 q.0) (slice_cmp nat_cmp p.1 q.1) (texts_ties p.0 q.0) (texts_ties p.1 q.1))

-- ---- an entry that is kept

-- the places of entries are noted
abbrev pub AreNoted : List Place → List Entry → Type 0
AreNoted places entries = (p : Place) → is_noted place_cmp places p ≡ is_placed entries p

-- what is pushed is the entry, where its words are copies
pub same_pushed : (kept reserved pushed : List Entry) (id id' key key' value : List ℕ) (n : ℕ) → pushed ≡ reserved ++ record { id = id'; key = key'; value = value; lsn = n } ∷ [] → reserved ≡ kept → id' ≡ id → key' ≡ key → pushed ≡ kept ++ record { id = id; key = key; value = value; lsn = n } ∷ []
same_pushed kept reserved pushed id id' key key' value n h k a b = h ∙ (λ i. k i ++ record { id = a i; key = b i; value = value; lsn = n } ∷ [])

pub noted_pushed : (places places' : List Place) (kept pushed : List Entry) (e : Entry) → AreNoted places (reverse kept) → places' ≡ insert_key place_cmp places (e.id, e.key) → pushed ≡ kept ++ e ∷ [] → AreNoted places' (reverse pushed)
noted_pushed places places' kept pushed e noted h k p =
    ap (λ ps. is_noted place_cmp ps p) h ∙ has-insert_key place_total places (e.id, e.key) p ∙ (λ i. place_ties p (e.id, e.key) i || noted p i)
    ∙ ap (λ es. is_placed es p) (sym (ap reverse k ∙ reverse-append kept (e ∷ [])))

pub older_pushed : (places : List Place) (kept pushed seen : List Entry) (e : Entry) → AreNoted places (reverse kept) → is_noted place_cmp places (e.id, e.key) ≡ false → pushed ≡ kept ++ e ∷ [] → reverse kept ≡ seen → reverse pushed ≡ with_older seen (Some e)
older_pushed places kept pushed seen e noted absent k s =
    ap reverse k ∙ reverse-append kept (e ∷ []) ∙ ap (λ es. e ∷ es) s
    ∙ sym (ap (λ b. if b then seen else e ∷ seen) (ap (λ es. is_placed es (e.id, e.key)) (sym s) ∙ sym (noted (e.id, e.key)) ∙ absent))
