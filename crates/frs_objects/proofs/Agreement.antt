-- What keeps slots and rows in agreement, and what the rows show then.
use Rattle.std.proofs.Common.{◌≡◌, ℕ, ◌+◌, ◌-◌, ◌≤◌, Bool, true, false, not, ◌||◌, cond, List, ◌∷◌, Option, Some, None, is_some, refl, sym, ap, ◌∙◌, subst, arith, nat_cmp, true≢false}
use Rattle.std.specs.Prelude.{◌==◌, nat_lt, if◌then◌else◌, option_map}
use Rattle.std.specs.Cmp.{unsigned_Decides}
use Rattle.std.specs.List.Sorted.{IsStrictlySortedBy}
use Rattle.std.specs.List.{list_any}
use Rattle.std.specs.Map.{keys_of}
use Rattle.std.specs.FinMap.Entries.{put, where_key}
use Rattle.std.proofs.lemmas.Bool.Decides.{nat_tests}
use Rattle.frs_types.specs.declared.record.Entry.{Entry}
use Rattle.frs_types.specs.Maps.{Place, at, place_cmp, same_place}
use Rattle.frs_types.specs.Lawful.{StoredValue}
use Rattle.frs_objects.specs.declared.places.Slot.{Slot}
use Rattle.frs_objects.specs.Slots.{kept_by, slot_if_used, slot_without_entry}
use Rattle.frs_objects.specs.Objects.{stored_by, entry_of, entry_at}
use Rattle.frs_objects.specs.Index.{Rows, row_at, entry_in, entry_under, table_by, lsn_in, wanted_in, is_blank, demand, Agrees, is_lsn, wanted_more}
use Rattle.frs_objects.proofs.SlotAt.{settled_some}
use Rattle.frs_objects.proofs.Tables.{IsTable-put, IsTable-where, at-put, at-where, same_tables, by_place, place_itself}
use Rattle.frs_objects.proofs.Shown.{by_number, IsTable-shown, stored_in, stored_under, at-shown}

-- ---- slots that were written

some_apart : {X : Type 0} (x y : X) → Some x ≡ None → ⊥
some_apart x y e = true≢false (ap is_some e)

lsn_kept : (s : Slot) (l : Option ℕ) → s.lsn ≡ l → lsn_in (kept_by l s) ≡ l
lsn_kept s (Some n) e = e
lsn_kept s None e = elim (nat_lt 0 s.wanted) as (λ b. lsn_in (if b then Some s else None) ≡ None) [ true ↦ e | false ↦ refl ]

pub lsn_settled : (s : Slot) → lsn_in (slot_if_used s) ≡ s.lsn
lsn_settled s = lsn_kept s s.lsn refl

wanted_kept : (s : Slot) (l : Option ℕ) → wanted_in (kept_by l s) ≡ s.wanted
wanted_kept s (Some n) = refl
wanted_kept s None = elim (nat_lt 0 s.wanted) as (λ b. nat_lt 0 s.wanted ≡ b → wanted_in (if b then Some s else None) ≡ s.wanted) [ true ↦ λ e. refl | false ↦ λ e. grind (arith, nat_tests) ] refl

pub wanted_settled : (s : Slot) → wanted_in (slot_if_used s) ≡ s.wanted
wanted_settled s = wanted_kept s s.lsn

the_slot : (s t : Slot) → Some s ≡ Some t → s ≡ t
the_slot s t e = cc

kept_again : (s t : Slot) (l : Option ℕ) → s.lsn ≡ l → kept_by l s ≡ Some t → slot_if_used t ≡ Some t
kept_again s t (Some n) e is = subst (λ (v : Slot). slot_if_used v ≡ Some v) (the_slot s t is) (ap (λ l. kept_by l s) e)
kept_again s t None e is = elim (nat_lt 0 s.wanted) as (λ b. nat_lt 0 s.wanted ≡ b → (if b then Some s else None) ≡ Some t → slot_if_used t ≡ Some t) [
  | true ↦ λ w is. subst (λ (v : Slot). slot_if_used v ≡ Some v) (the_slot s t is) (ap (λ l. kept_by l s) e ∙ ap (λ b. if b then Some s else None) w)
  | false ↦ λ w is. absurd (true≢false (ap is_some (sym is)))
] refl is

pub settled_again : (s t : Slot) → slot_if_used s ≡ Some t → slot_if_used t ≡ Some t
settled_again s t is = kept_again s t s.lsn refl is

lsn_emptied : (o : Option Slot) → lsn_in (slot_without_entry o) ≡ None
lsn_emptied None = refl
lsn_emptied (Some s) = lsn_settled (record { lsn = None; wanted = s.wanted })

wanted_emptied : (o : Option Slot) → wanted_in (slot_without_entry o) ≡ wanted_in o
wanted_emptied None = refl
wanted_emptied (Some s) = wanted_settled (record { lsn = None; wanted = s.wanted })

emptied_again : (o : Option Slot) (t : Slot) → slot_without_entry o ≡ Some t → slot_if_used t ≡ Some t
emptied_again None t is = absurd (true≢false (ap is_some (sym is)))
emptied_again (Some s) t is = settled_again (record { lsn = None; wanted = s.wanted }) t is

settled_more : (o : Option Slot) → slot_if_used (wanted_more o) ≡ Some (wanted_more o)
settled_more o = settled_some (wanted_more o) (λ _ z. omega arith)

the_settled : (s t : Slot) → slot_if_used s ≡ Some s → Some s ≡ Some t → slot_if_used t ≡ Some t
the_settled s t is e = subst (λ (v : Slot). slot_if_used v ≡ Some v) (the_slot s t e) is

-- ---- what is shown, once slots and rows agree

pub same_shown : (S S' : Place → Option Slot) (rows rows' : Rows) (ws ws' : List (Place × ℕ)) → Agrees S rows ws → Agrees S' rows' ws' → ((q : Place) → stored_under rows' (lsn_in (S' q)) ≡ stored_under rows (lsn_in (S q))) → table_by rows' ≡ table_by rows
same_shown S S' rows rows' ws ws' a b h = same_tables (table_by rows') (table_by rows) (IsTable-shown rows') (IsTable-shown rows) (λ q. at-shown b q ∙ h q ∙ sym (at-shown a q))

-- the rows under the LSNs of places are what they were
under_same : (S S' : Place → Option Slot) (rows rows' : Rows) (ws : List (Place × ℕ)) → Agrees S rows ws
    → ((q : Place) → lsn_in (S' q) ≡ lsn_in (S q)) → ((n : ℕ) (e : Entry) → row_at rows n ≡ Some (Some e) → row_at rows' n ≡ Some (Some e))
    → (q : Place) (l : Option ℕ) → lsn_in (S q) ≡ l → stored_under rows' (lsn_in (S' q)) ≡ stored_under rows (lsn_in (S q))
under_same S S' rows rows' ws a lsns stays q None is = ap (stored_under rows') (lsns q ∙ is) ∙ sym (ap (stored_under rows) is)
under_same S S' rows rows' ws a lsns stays q (Some n) is =
    let f = a.found q n is in
    ap (stored_under rows') (lsns q ∙ is) ∙ ap stored_in (stays n f.0 f.1 ∙ sym f.1) ∙ sym (ap (stored_under rows) is)

-- ---- an LSN that is kept for a put

module _ (S S' : Place → Option Slot) (rows rows' : Rows) (p : Place) (l : ℕ) (ws : List (Place × ℕ)) (a : Agrees S rows ws)
    (new : row_at rows l ≡ None) (ordered : IsStrictlySortedBy nat_cmp (keys_of rows'))
    (slots : (q : Place) → S' q ≡ cond (same_place p q) (Some (wanted_more (S p))) (S q))
    (written : (n : ℕ) → row_at rows' n ≡ cond (l == n) (Some None) (row_at rows n)) where
  reserved_lsns : (q : Place) → lsn_in (S' q) ≡ lsn_in (S q)
  reserved_lsns q = ap lsn_in (slots q) ∙ by_place p q (λ b. lsn_in (cond b (Some (wanted_more (S p))) (S q)) ≡ lsn_in (S q)) (λ e. ap (λ v. lsn_in (S v)) e) (λ _. refl)

  reserved_same : (n : ℕ) (e : Entry) → row_at rows' n ≡ Some (Some e) → row_at rows n ≡ Some (Some e)
  reserved_same n e is = by_number l n (λ b. cond b (Some None) (row_at rows n) ≡ Some (Some e) → row_at rows n ≡ Some (Some e)) (λ _ h. absurd (true≢false (ap is_blank h))) (λ _ h. h) (sym (written n) ∙ is)

  reserved_stays : (n : ℕ) (e : Entry) → row_at rows n ≡ Some (Some e) → row_at rows' n ≡ Some (Some e)
  reserved_stays n e is = written n ∙ by_number l n (λ b. cond b (Some None) (row_at rows n) ≡ Some (Some e)) (λ h. absurd (true≢false (ap is_some (sym is ∙ sym (ap (row_at rows) h) ∙ new)))) (λ _. is)

  pub Agrees-reserved : Agrees S' rows' ((p, l) ∷ ws)
  Agrees-reserved = record {
    ordered = ordered;
    owned = λ n e is. let o = a.owned n e (reserved_same n e is) in (o.0, reserved_lsns (e.id, e.key) ∙ o.1);
    found = λ q n is. let f = a.found q n (sym (reserved_lsns q) ∙ is) in (f.0, reserved_stays n f.0 f.1, f.2);
    needed = λ q s is. by_place p q (λ b. cond b (Some (wanted_more (S p))) (S q) ≡ Some s → slot_if_used s ≡ Some s) (λ _ h. the_settled (wanted_more (S p)) s (settled_more (S p)) h) (λ _ h. a.needed q s h) (sym (slots q) ∙ is);
    counted = λ q. ap wanted_in (slots q) ∙ by_place p q (λ b. wanted_in (cond b (Some (wanted_more (S p))) (S q)) ≡ (if b then demand ws q + 1 else demand ws q)) (λ e. ap (λ v. wanted_in (S v) + 1) e ∙ ap (λ v. v + 1) (a.counted q)) (λ _. a.counted q);
    blank = λ n. ap is_blank (written n) ∙ by_number l n (λ b. is_blank (cond b (Some None) (row_at rows n)) ≡ (b || list_any (λ (x : Place × ℕ). x.1 == n) ws)) (λ _. refl) (λ _. a.blank n);
    own = (sym (a.blank l) ∙ ap is_blank new, a.own);
  }

  pub reserved_shown : table_by rows' ≡ table_by rows
  reserved_shown = same_shown S S' rows rows' ws ((p, l) ∷ ws) a Agrees-reserved (λ q. under_same S S' rows rows' ws a reserved_lsns reserved_stays q (lsn_in (S q)) refl)

-- ---- an LSN that isn't kept any more

module _ (S S' : Place → Option Slot) (rows rows' : Rows) (p : Place) (l w : ℕ) (ws : List (Place × ℕ)) (a : Agrees S rows ((p, l) ∷ ws))
    (ordered : IsStrictlySortedBy nat_cmp (keys_of rows'))
    (less : w + 1 ≡ wanted_in (S p))
    (slots : (q : Place) → S' q ≡ cond (same_place p q) (slot_if_used (record { lsn = lsn_in (S p); wanted = w })) (S q))
    (written : (n : ℕ) → row_at rows' n ≡ cond (l == n) None (row_at rows n)) where
  released_lsns : (q : Place) → lsn_in (S' q) ≡ lsn_in (S q)
  released_lsns q = ap lsn_in (slots q) ∙ by_place p q (λ b. lsn_in (cond b (slot_if_used (record { lsn = lsn_in (S p); wanted = w })) (S q)) ≡ lsn_in (S q)) (λ e. lsn_settled (record { lsn = lsn_in (S p); wanted = w }) ∙ ap (λ v. lsn_in (S v)) e) (λ _. refl)

  was_blank : is_blank (row_at rows l) ≡ true
  was_blank = a.blank l ∙ ap (λ b. b || list_any (λ (x : Place × ℕ). x.1 == l) ws) ((unsigned_Decides l l).1 refl)

  released_same : (n : ℕ) (e : Entry) → row_at rows' n ≡ Some (Some e) → row_at rows n ≡ Some (Some e)
  released_same n e is = by_number l n (λ b. cond b None (row_at rows n) ≡ Some (Some e) → row_at rows n ≡ Some (Some e)) (λ _ h. absurd (true≢false (ap is_some (sym h)))) (λ _ h. h) (sym (written n) ∙ is)

  released_stays : (n : ℕ) (e : Entry) → row_at rows n ≡ Some (Some e) → row_at rows' n ≡ Some (Some e)
  released_stays n e is = written n ∙ by_number l n (λ b. cond b None (row_at rows n) ≡ Some (Some e)) (λ h. absurd (true≢false (sym was_blank ∙ ap (λ v. is_blank (row_at rows v)) h ∙ ap is_blank is))) (λ _. is)

  demanded : w ≡ demand ws p
  demanded = let d : wanted_in (S p) ≡ demand ws p + 1 = a.counted p ∙ ap (λ b. if b then demand ws p + 1 else demand ws p) (place_itself p) in omega arith

  demanded_elsewhere : (q : Place) → same_place p q ≡ false → wanted_in (S q) ≡ demand ws q
  demanded_elsewhere q apart = a.counted q ∙ ap (λ b. if b then demand ws q + 1 else demand ws q) apart

  blank_elsewhere : (n : ℕ) → (l == n) ≡ false → is_blank (row_at rows n) ≡ list_any (λ (x : Place × ℕ). x.1 == n) ws
  blank_elsewhere n apart = a.blank n ∙ ap (λ b. b || list_any (λ (x : Place × ℕ). x.1 == n) ws) apart

  pub Agrees-released : Agrees S' rows' ws
  Agrees-released = record {
    ordered = ordered;
    owned = λ n e is. let o = a.owned n e (released_same n e is) in (o.0, released_lsns (e.id, e.key) ∙ o.1);
    found = λ q n is. let f = a.found q n (sym (released_lsns q) ∙ is) in (f.0, released_stays n f.0 f.1, f.2);
    needed = λ q s is. by_place p q (λ b. cond b (slot_if_used (record { lsn = lsn_in (S p); wanted = w })) (S q) ≡ Some s → slot_if_used s ≡ Some s) (λ _ h. settled_again (record { lsn = lsn_in (S p); wanted = w }) s h) (λ _ h. a.needed q s h) (sym (slots q) ∙ is);
    counted = λ q. ap wanted_in (slots q) ∙ by_place p q (λ b. wanted_in (cond b (slot_if_used (record { lsn = lsn_in (S p); wanted = w })) (S q)) ≡ demand ws q) (λ e. wanted_settled (record { lsn = lsn_in (S p); wanted = w }) ∙ demanded ∙ ap (demand ws) e) (demanded_elsewhere q);
    blank = λ n. ap is_blank (written n) ∙ by_number l n (λ b. is_blank (cond b None (row_at rows n)) ≡ list_any (λ (x : Place × ℕ). x.1 == n) ws) (λ e. sym (ap (λ v. list_any (λ (x : Place × ℕ). x.1 == v) ws) (sym e) ∙ a.own.0)) (blank_elsewhere n);
    own = a.own.1;
  }

  pub released_shown : table_by rows' ≡ table_by rows
  released_shown = same_shown S S' rows rows' ((p, l) ∷ ws) ws a Agrees-released (λ q. under_same S S' rows rows' ((p, l) ∷ ws) a released_lsns released_stays q (lsn_in (S q)) refl)

-- ---- a put that is made

pub lsn_from : (l : Option ℕ) (n : ℕ) → is_lsn l n ≡ true → l ≡ Some n
lsn_from None n e = absurd (true≢false (sym e))
lsn_from (Some m) n e = ap Some ((unsigned_Decides m n).0 e)

pub the_entry : (d e : Entry) → Some (Some d) ≡ Some (Some e) → d ≡ e
the_entry d e is = cc

-- two places with one LSN are one
pub one_place_by : (S : Place → Option Slot) (rows : Rows) (ws : List (Place × ℕ)) (p q : Place) (n : ℕ) → Agrees S rows ws → lsn_in (S p) ≡ Some n → lsn_in (S q) ≡ Some n → p ≡ q
one_place_by S rows ws p q n a i j =
    let f = a.found p n i in
    let g = a.found q n j in
    sym f.2 ∙ ap (λ (e : Entry). (e.id, e.key)) (the_entry f.0 g.0 (sym f.1 ∙ g.1)) ∙ g.2

pub split : (b : Bool) (P : Bool → Type 0) → (b ≡ true → P true) → (b ≡ false → P false) → P b
split true P h k = h refl
split false P h k = k refl

module _ (S S' : Place → Option Slot) (rows rows' : Rows) (x : Entry) (w : ℕ) (ws : List (Place × ℕ)) (a : Agrees S rows (((x.id, x.key), x.lsn) ∷ ws))
    (ordered : IsStrictlySortedBy nat_cmp (keys_of rows'))
    (less : w + 1 ≡ wanted_in (S (x.id, x.key)))
    (slots : (q : Place) → S' q ≡ cond (same_place (x.id, x.key) q) (Some (record { lsn = Some x.lsn; wanted = w })) (S q))
    (written : (n : ℕ) → row_at rows' n ≡ cond (x.lsn == n) (Some (Some x)) (cond (is_lsn (lsn_in (S (x.id, x.key))) n) None (row_at rows n))) where
  kept_blank : is_blank (row_at rows x.lsn) ≡ true
  kept_blank = a.blank x.lsn ∙ ap (λ b. b || list_any (λ (y : Place × ℕ). y.1 == x.lsn) ws) ((unsigned_Decides x.lsn x.lsn).1 refl)

  filled_elsewhere : (q : Place) (n : ℕ) → same_place (x.id, x.key) q ≡ false → lsn_in (S q) ≡ Some n → row_at rows' n ≡ row_at rows n
  filled_elsewhere q n apart is =
      written n
      ∙ by_number x.lsn n (λ b. cond b (Some (Some x)) (cond (is_lsn (lsn_in (S (x.id, x.key))) n) None (row_at rows n)) ≡ row_at rows n)
      (λ e. absurd (true≢false (sym kept_blank ∙ ap (λ v. is_blank (row_at rows v)) e ∙ ap is_blank (a.found q n is).1)))
      (λ _. split (is_lsn (lsn_in (S (x.id, x.key))) n) (λ b. cond b None (row_at rows n) ≡ row_at rows n)
      (λ h. absurd (true≢false (sym (place_itself q) ∙ ap (λ v. same_place v q) (sym (one_place_by S rows (((x.id, x.key), x.lsn) ∷ ws) (x.id, x.key) q n a (lsn_from _ n h) is)) ∙ apart)))
      (λ _. refl))

  filled_here : (q : Place) → (x.id, x.key) ≡ q → S' q ≡ Some (record { lsn = Some x.lsn; wanted = w })
  filled_here q e = slots q ∙ ap (λ b. cond b (Some (record { lsn = Some x.lsn; wanted = w })) (S q)) (ap (same_place (x.id, x.key)) (sym e) ∙ place_itself (x.id, x.key))

  filled_apart : (q : Place) → same_place (x.id, x.key) q ≡ false → S' q ≡ S q
  filled_apart q e = slots q ∙ ap (λ b. cond b (Some (record { lsn = Some x.lsn; wanted = w })) (S q)) e

  filled_row : row_at rows' x.lsn ≡ Some (Some x)
  filled_row = written x.lsn ∙ ap (λ b. cond b (Some (Some x)) (cond (is_lsn (lsn_in (S (x.id, x.key))) x.lsn) None (row_at rows x.lsn))) ((unsigned_Decides x.lsn x.lsn).1 refl)

  filled_owned : (n : ℕ) (e : Entry) → row_at rows' n ≡ Some (Some e) → (e.lsn ≡ n) × (lsn_in (S' (e.id, e.key)) ≡ Some n)
  filled_owned n e is =
      by_number x.lsn n (λ b. cond b (Some (Some x)) (cond (is_lsn (lsn_in (S (x.id, x.key))) n) None (row_at rows n)) ≡ Some (Some e) → (e.lsn ≡ n) × (lsn_in (S' (e.id, e.key)) ≡ Some n))
      (λ same h. subst (λ (v : Entry). (v.lsn ≡ n) × (lsn_in (S' (v.id, v.key)) ≡ Some n)) (the_entry x e h) (same, ap lsn_in (filled_here (x.id, x.key) refl) ∙ ap Some same))
      (λ _ h. split (is_lsn (lsn_in (S (x.id, x.key))) n) (λ b. is_lsn (lsn_in (S (x.id, x.key))) n ≡ b → cond b None (row_at rows n) ≡ Some (Some e) → (e.lsn ≡ n) × (lsn_in (S' (e.id, e.key)) ≡ Some n))
      (λ _ _ g. absurd (true≢false (ap is_some (sym g))))
      (λ _ other g. let o = a.owned n e g in (
        o.0,
        ap lsn_in (slots (e.id, e.key)) ∙ by_place (x.id, x.key) (e.id, e.key) (λ b. lsn_in (cond b (Some (record { lsn = Some x.lsn; wanted = w })) (S (e.id, e.key))) ≡ Some n)
            (λ here. absurd (true≢false (sym (ap (λ v. is_lsn v n) (ap (λ v. lsn_in (S v)) here ∙ o.1) ∙ (unsigned_Decides n n).1 refl) ∙ other)))
            (λ _. o.1),
      ))
      refl h)
      (sym (written n) ∙ is)

  filled_found : (q : Place) (n : ℕ) → lsn_in (S' q) ≡ Some n → (e : Entry) × (row_at rows' n ≡ Some (Some e)) × ((e.id, e.key) ≡ q)
  filled_found q n is =
      by_place (x.id, x.key) q (λ b. lsn_in (cond b (Some (record { lsn = Some x.lsn; wanted = w })) (S q)) ≡ Some n → (e : Entry) × (row_at rows' n ≡ Some (Some e)) × ((e.id, e.key) ≡ q))
      (λ here h. (x, ap (row_at rows') (sym (the_number x.lsn n h)) ∙ filled_row, here))
      (λ apart h. let f = a.found q n h in (f.0, filled_elsewhere q n apart h ∙ f.1, f.2))
      (sym (ap lsn_in (slots q)) ∙ is)
    where
      the_number : (m n : ℕ) → Some m ≡ Some n → m ≡ n
      the_number m n e = cc

  filled_demanded : w ≡ demand ws (x.id, x.key)
  filled_demanded = let d : wanted_in (S (x.id, x.key)) ≡ demand ws (x.id, x.key) + 1 = a.counted (x.id, x.key) ∙ ap (λ b. if b then demand ws (x.id, x.key) + 1 else demand ws (x.id, x.key)) (place_itself (x.id, x.key)) in omega arith

  filled_blank : (n : ℕ) → is_blank (row_at rows' n) ≡ list_any (λ (y : Place × ℕ). y.1 == n) ws
  filled_blank n =
      ap is_blank (written n)
      ∙ by_number x.lsn n (λ b. is_blank (cond b (Some (Some x)) (cond (is_lsn (lsn_in (S (x.id, x.key))) n) None (row_at rows n))) ≡ list_any (λ (y : Place × ℕ). y.1 == n) ws)
      (λ e. sym (ap (λ v. list_any (λ (y : Place × ℕ). y.1 == v) ws) (sym e) ∙ a.own.0))
      (λ other. split (is_lsn (lsn_in (S (x.id, x.key))) n) (λ b. is_blank (cond b None (row_at rows n)) ≡ list_any (λ (y : Place × ℕ). y.1 == n) ws)
      (λ h. sym (ap is_blank (a.found (x.id, x.key) n (lsn_from _ n h)).1) ∙ later n other)
      (λ _. later n other))
    where
      later : (n : ℕ) → (x.lsn == n) ≡ false → is_blank (row_at rows n) ≡ list_any (λ (y : Place × ℕ). y.1 == n) ws
      later n other = a.blank n ∙ ap (λ b. b || list_any (λ (y : Place × ℕ). y.1 == n) ws) other

  pub Agrees-filled : Agrees S' rows' ws
  Agrees-filled = record {
    ordered = ordered;
    owned = filled_owned;
    found = filled_found;
    needed = λ q s is. by_place (x.id, x.key) q (λ b. cond b (Some (record { lsn = Some x.lsn; wanted = w })) (S q) ≡ Some s → slot_if_used s ≡ Some s) (λ _ h. the_settled (record { lsn = Some x.lsn; wanted = w }) s refl h) (λ _ h. a.needed q s h) (sym (slots q) ∙ is);
    counted = λ q. ap wanted_in (slots q) ∙ by_place (x.id, x.key) q (λ b. wanted_in (cond b (Some (record { lsn = Some x.lsn; wanted = w })) (S q)) ≡ demand ws q) (λ e. filled_demanded ∙ ap (demand ws) e) (λ apart. a.counted q ∙ ap (λ b. if b then demand ws q + 1 else demand ws q) apart);
    blank = filled_blank;
    own = a.own.1;
  }

  filled_under : (q : Place) (l : Option ℕ) → same_place (x.id, x.key) q ≡ false → lsn_in (S q) ≡ l → stored_under rows' (lsn_in (S q)) ≡ stored_under rows (lsn_in (S q))
  filled_under q None apart is = ap (stored_under rows') is ∙ sym (ap (stored_under rows) is)
  filled_under q (Some n) apart is = ap (stored_under rows') is ∙ ap stored_in (filled_elsewhere q n apart is) ∙ sym (ap (stored_under rows) is)

  pub filled_shown : table_by rows' ≡ put place_cmp (x.id, x.key) (stored_by x) (table_by rows)
  filled_shown =
      same_tables (table_by rows') (put place_cmp (x.id, x.key) (stored_by x) (table_by rows)) (IsTable-shown rows') (IsTable-put (x.id, x.key) (stored_by x) (table_by rows) (IsTable-shown rows))
      (λ q. at-shown Agrees-filled q ∙ ap (λ s. stored_under rows' (lsn_in s)) (slots q)
      ∙ by_place (x.id, x.key) q (λ b. stored_under rows' (lsn_in (cond b (Some (record { lsn = Some x.lsn; wanted = w })) (S q))) ≡ cond b (Some (stored_by x)) (at (table_by rows) q))
      (λ _. ap stored_in filled_row)
      (λ apart. filled_under q (lsn_in (S q)) apart refl ∙ sym (at-shown a q))
      ∙ sym (at-put (x.id, x.key) q (stored_by x) (table_by rows)))

-- ---- entries that are taken out

module _ (S S' : Place → Option Slot) (rows rows' : Rows) (P : Place → Bool) (gone : ℕ → Bool) (ws : List (Place × ℕ)) (a : Agrees S rows ws)
    (ordered : IsStrictlySortedBy nat_cmp (keys_of rows'))
    (slots : (q : Place) → S' q ≡ cond (P q) (slot_without_entry (S q)) (S q))
    (written : (n : ℕ) → row_at rows' n ≡ cond (gone n) None (row_at rows n))
    (goes : (q : Place) (n : ℕ) → lsn_in (S q) ≡ Some n → gone n ≡ P q)
    (keeps : (n : ℕ) → is_blank (row_at rows n) ≡ true → gone n ≡ false) where
  taken_owned : (n : ℕ) (e : Entry) → row_at rows' n ≡ Some (Some e) → (e.lsn ≡ n) × (lsn_in (S' (e.id, e.key)) ≡ Some n)
  taken_owned n e is =
      split (gone n) (λ b. gone n ≡ b → cond b None (row_at rows n) ≡ Some (Some e) → (e.lsn ≡ n) × (lsn_in (S' (e.id, e.key)) ≡ Some n))
      (λ _ _ h. absurd (true≢false (ap is_some (sym h))))
      (λ _ stays h. let o = a.owned n e h in (o.0, ap lsn_in (slots (e.id, e.key) ∙ ap (λ b. cond b (slot_without_entry (S (e.id, e.key))) (S (e.id, e.key))) (sym (goes (e.id, e.key) n o.1) ∙ stays)) ∙ o.1))
      refl (sym (written n) ∙ is)

  taken_found : (q : Place) (n : ℕ) → lsn_in (S' q) ≡ Some n → (e : Entry) × (row_at rows' n ≡ Some (Some e)) × ((e.id, e.key) ≡ q)
  taken_found q n is =
      split (P q) (λ b. P q ≡ b → lsn_in (cond b (slot_without_entry (S q)) (S q)) ≡ Some n → (e : Entry) × (row_at rows' n ≡ Some (Some e)) × ((e.id, e.key) ≡ q))
      (λ _ _ h. absurd (true≢false (ap is_some (sym h ∙ lsn_emptied (S q)))))
      (λ _ stays h. let f = a.found q n h in (f.0, written n ∙ ap (λ b. cond b None (row_at rows n)) (goes q n h ∙ stays) ∙ f.1, f.2))
      refl (sym (ap lsn_in (slots q)) ∙ is)

  taken_blank : (n : ℕ) → is_blank (row_at rows' n) ≡ is_blank (row_at rows n)
  taken_blank n =
      ap is_blank (written n)
      ∙ split (is_blank (row_at rows n)) (λ b. is_blank (row_at rows n) ≡ b → is_blank (cond (gone n) None (row_at rows n)) ≡ b)
      (λ _ h. ap (λ b. is_blank (cond b None (row_at rows n))) (keeps n h) ∙ h)
      (λ _ h. split (gone n) (λ b. is_blank (cond b None (row_at rows n)) ≡ false) (λ _. refl) (λ _. h))
      refl

  pub Agrees-taken : Agrees S' rows' ws
  Agrees-taken = record {
    ordered = ordered;
    owned = taken_owned;
    found = taken_found;
    needed = λ q s is. split (P q) (λ b. cond b (slot_without_entry (S q)) (S q) ≡ Some s → slot_if_used s ≡ Some s) (λ _ h. emptied_again (S q) s h) (λ _ h. a.needed q s h) (sym (slots q) ∙ is);
    counted = λ q. ap wanted_in (slots q) ∙ split (P q) (λ b. wanted_in (cond b (slot_without_entry (S q)) (S q)) ≡ demand ws q) (λ _. wanted_emptied (S q) ∙ a.counted q) (λ _. a.counted q);
    blank = λ n. taken_blank n ∙ a.blank n;
    own = a.own;
  }

  taken_under : (q : Place) (l : Option ℕ) → P q ≡ false → lsn_in (S q) ≡ l → stored_under rows' (lsn_in (S q)) ≡ stored_under rows (lsn_in (S q))
  taken_under q None stays is = ap (stored_under rows') is ∙ sym (ap (stored_under rows) is)
  taken_under q (Some n) stays is = ap (stored_under rows') is ∙ ap stored_in (written n ∙ ap (λ b. cond b None (row_at rows n)) (goes q n is ∙ stays)) ∙ sym (ap (stored_under rows) is)

  pub taken_shown : table_by rows' ≡ where_key place_cmp (λ q. not (P q)) (table_by rows)
  taken_shown =
      same_tables (table_by rows') (where_key place_cmp (λ q. not (P q)) (table_by rows)) (IsTable-shown rows') (IsTable-where (λ q. not (P q)) (table_by rows) (IsTable-shown rows))
      (λ q. at-shown Agrees-taken q ∙ ap (λ s. stored_under rows' (lsn_in s)) (slots q)
      ∙ split (P q) (λ b. P q ≡ b → stored_under rows' (lsn_in (cond b (slot_without_entry (S q)) (S q))) ≡ cond (not b) (at (table_by rows) q) None)
      (λ _ _. ap (stored_under rows') (lsn_emptied (S q)))
      (λ _ stays. taken_under q (lsn_in (S q)) stays refl ∙ sym (at-shown a q))
      refl
      ∙ sym (at-where (λ q. not (P q)) q (table_by rows)))

-- ---- nothing changed

module _ (S S' : Place → Option Slot) (rows rows' : Rows) (ws : List (Place × ℕ)) (a : Agrees S rows ws)
    (ordered : IsStrictlySortedBy nat_cmp (keys_of rows'))
    (slots : (q : Place) → S' q ≡ S q)
    (same : (n : ℕ) → row_at rows' n ≡ row_at rows n) where
  pub Agrees-same : Agrees S' rows' ws
  Agrees-same = record {
    ordered = ordered;
    owned = λ n e is. let o = a.owned n e (sym (same n) ∙ is) in (o.0, ap lsn_in (slots (e.id, e.key)) ∙ o.1);
    found = λ q n is. let f = a.found q n (sym (ap lsn_in (slots q)) ∙ is) in (f.0, same n ∙ f.1, f.2);
    needed = λ q s is. a.needed q s (sym (slots q) ∙ is);
    counted = λ q. ap wanted_in (slots q) ∙ a.counted q;
    blank = λ n. ap is_blank (same n) ∙ a.blank n;
    own = a.own;
  }

  pub same_rows_shown : table_by rows' ≡ table_by rows
  same_rows_shown = same_shown S S' rows rows' ws ws a Agrees-same (λ q. under_same S S' rows rows' ws a (λ p. ap lsn_in (slots p)) (λ n e is. same n ∙ is) q (lsn_in (S q)) refl)

-- ---- what a put that is kept for says

module _ (S : Place → Option Slot) (rows : Rows) (p : Place) (l : ℕ) (ws : List (Place × ℕ)) (a : Agrees S rows ((p, l) ∷ ws)) where
  wanted_once : wanted_in (S p) ≡ demand ws p + 1
  wanted_once = a.counted p ∙ ap (λ b. if b then demand ws p + 1 else demand ws p) (place_itself p)

  pub wanted_some : (s : Slot) → Some s ≡ S p → 1 ≤ s.wanted
  wanted_some s e = let w : s.wanted ≡ demand ws p + 1 = ap wanted_in e ∙ wanted_once in omega arith

  pub wanted_less : (s : Slot) → Some s ≡ S p → (s.wanted - 1) + 1 ≡ wanted_in (S p)
  wanted_less s e = let h : 1 ≤ s.wanted = wanted_some s e in let w : s.wanted ≡ wanted_in (S p) = ap wanted_in e in omega arith

  pub not_missing : None ≡ S p → ⊥
  not_missing e = let w : 0 ≡ demand ws p + 1 = ap wanted_in e ∙ wanted_once in omega arith

  pub kept_row : is_blank (row_at rows l) ≡ true
  kept_row = a.blank l ∙ ap (λ b. b || list_any (λ (x : Place × ℕ). x.1 == l) ws) ((unsigned_Decides l l).1 refl)

-- an LSN that is kept is no entry's
pub blank_apart : (S : Place → Option Slot) (rows : Rows) (ws : List (Place × ℕ)) → Agrees S rows ws → (p : Place) (n : ℕ) → is_blank (row_at rows n) ≡ true → is_lsn (lsn_in (S p)) n ≡ false
blank_apart S rows ws a p n is = split (is_lsn (lsn_in (S p)) n) (λ b. b ≡ false) (λ h. absurd (true≢false (sym is ∙ ap is_blank (a.found p n (lsn_from _ n h)).1))) (λ _. refl)

-- the LSN of a place is that of one place alone
pub lsn_apart : (S : Place → Option Slot) (rows : Rows) (ws : List (Place × ℕ)) → Agrees S rows ws → (p q : Place) (n : ℕ) → lsn_in (S q) ≡ Some n → is_lsn (lsn_in (S p)) n ≡ same_place p q
lsn_apart S rows ws a p q n is =
    by_place p q (λ b. is_lsn (lsn_in (S p)) n ≡ b)
    (λ e. ap (λ v. is_lsn v n) (ap (λ v. lsn_in (S v)) e ∙ is) ∙ (unsigned_Decides n n).1 refl)
    (λ apart. split (is_lsn (lsn_in (S p)) n) (λ b. b ≡ false) (λ h. absurd (true≢false (sym (place_itself q) ∙ ap (λ v. same_place v q) (sym (one_place_by S rows ws p q n a (lsn_from _ n h) is)) ∙ apart))) (λ _. refl))

-- ---- the entry at a place

module _ (S : Place → Option Slot) (rows : Rows) (ws : List (Place × ℕ)) (a : Agrees S rows ws) (p : Place) where
  pub entry_none : lsn_in (S p) ≡ None → None ≡ entry_at (table_by rows) p
  entry_none e = sym (ap (option_map (entry_of p)) (at-shown a p ∙ ap (stored_under rows) e))

  pub entry_some : (n : ℕ) (o : Option Entry) → lsn_in (S p) ≡ Some n → Some o ≡ row_at rows n → o ≡ entry_at (table_by rows) p
  entry_some n o is row =
      let f = a.found p n is in
      let same : o ≡ Some f.0 = the_row o (Some f.0) (row ∙ f.1) in
      same ∙ sym (ap (option_map (entry_of p)) (at-shown a p ∙ ap (stored_under rows) is ∙ ap stored_in f.1) ∙ ap (λ (q : Place). Some (entry_of q (stored_by f.0))) (sym f.2))
    where
      the_row : (o o' : Option Entry) → Some o ≡ Some o' → o ≡ o'
      the_row o o' e = cc

  pub entry_lost : {C : Type 0} (n : ℕ) → lsn_in (S p) ≡ Some n → None ≡ row_at rows n → C
  entry_lost n is none = let f = a.found p n is in absurd (true≢false (ap is_some (sym f.1 ∙ sym none)))

-- where a place has no slot, it has nothing to take out
pub nothing_to_take : (S : Place → Option Slot) (p q : Place) → S p ≡ None → S q ≡ cond (same_place p q) (slot_without_entry (S q)) (S q)
nothing_to_take S p q none = by_place p q (λ b. S q ≡ cond b (slot_without_entry (S q)) (S q)) (λ e. let h : S q ≡ None = ap S (sym e) ∙ none in h ∙ sym (ap slot_without_entry h)) (λ _. refl)

-- the slot of one place without its entry
pub emptied_here : (S S' : Place → Option Slot) (p : Place) (s : Slot) → Some s ≡ S p → ((q : Place) → S' q ≡ cond (same_place p q) (slot_if_used (record { lsn = None; wanted = s.wanted })) (S q)) → (q : Place) → S' q ≡ cond (same_place p q) (slot_without_entry (S q)) (S q)
emptied_here S S' p s is h q = h q ∙ by_place p q (λ b. cond b (slot_if_used (record { lsn = None; wanted = s.wanted })) (S q) ≡ cond b (slot_without_entry (S q)) (S q)) (λ e. ap slot_without_entry (is ∙ ap S e)) (λ _. refl)

-- the entry under a place's LSN has that place, and is what is shown there
module _ (S : Place → Option Slot) (rows : Rows) (ws : List (Place × ℕ)) (a : Agrees S rows ws) (p : Place) where
  under_found : (n : ℕ) (e : Entry) → lsn_in (S p) ≡ Some n → entry_in (row_at rows n) ≡ Some e → row_at rows n ≡ Some (Some e)
  under_found n e is under = let f = a.found p n is in f.1 ∙ ap Some (sym (ap entry_in f.1) ∙ under)

  pub entry_placed : (l : Option ℕ) (e : Entry) → lsn_in (S p) ≡ l → entry_under rows l ≡ Some e → (e.id, e.key) ≡ p
  entry_placed None e is under = absurd (true≢false (ap is_some (sym under)))
  entry_placed (Some n) e is under =
      let f = a.found p n is in
      ap (λ (v : Entry). (v.id, v.key)) (the_entry e f.0 (sym (under_found n e is under) ∙ f.1)) ∙ f.2

  pub entry_shown : (l : Option ℕ) (e : Entry) → lsn_in (S p) ≡ l → entry_under rows l ≡ Some e → at (table_by rows) p ≡ Some (stored_by e)
  entry_shown None e is under = absurd (true≢false (ap is_some (sym under)))
  entry_shown (Some n) e is under = at-shown a p ∙ ap (stored_under rows) is ∙ ap stored_in (under_found n e is under)

  pub entry_there : (l : Option ℕ) (h : StoredValue) → lsn_in (S p) ≡ l → entry_under rows l ≡ None → at (table_by rows) p ≡ Some h → ⊥
  entry_there None h is under shown = true≢false (ap is_some (sym shown ∙ at-shown a p ∙ ap (stored_under rows) is))
  entry_there (Some n) h is under shown = let f = a.found p n is in true≢false (ap is_some (sym (ap entry_in f.1) ∙ under))

pub the_stored : (g h : StoredValue) → Some g ≡ Some h → g ≡ h
the_stored g h e = cc

-- ---- an entry under another LSN

module _ (S S' : Place → Option Slot) (rows rows' : Rows) (p : Place) (to : ℕ) (ws : List (Place × ℕ)) (a : Agrees S rows ((p, to) ∷ ws)) (s : Slot) (is : Some s ≡ S p) (e : Entry) (under : Some e ≡ entry_under rows s.lsn)
    (ordered : IsStrictlySortedBy nat_cmp (keys_of rows'))
    (slots : (q : Place) → S' q ≡ cond (same_place (e.id, e.key) q) (Some (record { lsn = Some to; wanted = s.wanted - 1 })) (S q))
    (written : (n : ℕ) → row_at rows' n ≡ cond (to == n) (Some (Some (record { id = e.id; key = e.key; value = e.value; lsn = to }))) (cond (is_lsn s.lsn n) None (row_at rows n))) where
  its_place : (e.id, e.key) ≡ p
  its_place = entry_placed S rows ((p, to) ∷ ws) a p s.lsn e (ap lsn_in (sym is)) (sym under)

  its_slot : Some s ≡ S (e.id, e.key)
  its_slot = is ∙ ap S (sym its_place)

  its_puts : Agrees S rows (((e.id, e.key), to) ∷ ws)
  its_puts = subst (λ (v : Place). Agrees S rows ((v, to) ∷ ws)) (sym its_place) a

  its_rows : (n : ℕ) → row_at rows' n ≡ cond (to == n) (Some (Some (record { id = e.id; key = e.key; value = e.value; lsn = to }))) (cond (is_lsn (lsn_in (S (e.id, e.key))) n) None (row_at rows n))
  its_rows n = written n ∙ ap (λ v. cond (to == n) (Some (Some (record { id = e.id; key = e.key; value = e.value; lsn = to }))) (cond (is_lsn v n) None (row_at rows n))) (ap lsn_in its_slot)

  pub Agrees-moved : Agrees S' rows' ws
  Agrees-moved = Agrees-filled S S' rows rows' (record { id = e.id; key = e.key; value = e.value; lsn = to }) (s.wanted - 1) ws its_puts ordered (wanted_less S rows (e.id, e.key) to ws its_puts s its_slot) slots its_rows

  pub moved_shown : (h : StoredValue) → at (table_by rows) p ≡ Some h → table_by rows' ≡ put place_cmp p (record { value = h.value; lsn = to }) (table_by rows)
  moved_shown h shown =
      filled_shown S S' rows rows' (record { id = e.id; key = e.key; value = e.value; lsn = to }) (s.wanted - 1) ws its_puts ordered (wanted_less S rows (e.id, e.key) to ws its_puts s its_slot) slots its_rows
      ∙ ap (λ (v : Place). put place_cmp v (record { value = e.value; lsn = to }) (table_by rows)) its_place
      ∙ ap (λ (g : StoredValue). put place_cmp p (record { value = g.value; lsn = to }) (table_by rows)) (the_stored (stored_by e) h (sym (entry_shown S rows ((p, to) ∷ ws) a p s.lsn e (ap lsn_in (sym is)) (sym under)) ∙ shown))
