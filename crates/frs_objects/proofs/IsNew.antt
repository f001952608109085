-- An LSN that is no entry's and isn't kept stands under no row.
use Rattle.std.proofs.Common.{◌≡◌, ℕ, zero, suc, ◌+◌, ◌-◌, ◌^◌, ◌<◌, ◌≤◌, length, drop, true, false, ◌||◌, cond, List, [], ◌∷◌, Option, Some, None, is_some, refl, sym, ap, ◌∙◌, subst, arith, true≢false}
use Rattle.std.specs.Prelude.{◌==◌, if◌then◌else◌, unwrap_or, option_map, slice_index_or}
use Rattle.std.proofs.Math.Seq.{drop-cons}
use Rattle.std.proofs.lemmas.List.{length-drop}
use Rattle.std.specs.Ordering.{eq_by_cmp}
use Rattle.std.specs.List.{list_any, AllByRecursion}
use Rattle.std.specs.Cmp.{unsigned_Decides}
use Rattle.std.proofs.lemmas.Bool.{or_right}
use Rattle.frs_types.specs.declared.record.Entry.{Entry}
use Rattle.frs_types.specs.Maps.{Place, Table, at, place_cmp, same_place}
use Rattle.frs_types.specs.Lawful.{StoredValue}
use Rattle.frs_objects.specs.declared.index.Index.{Index}
use Rattle.frs_objects.specs.declared.places.Slot.{Slot}
use Rattle.frs_objects.specs.Slots.{slot_at}
use Rattle.frs_objects.specs.declared.op.Op.{Op}
use Rattle.frs_objects.specs.declared.op.Op.TheVariants.{Put, Remove, Delete}
use Rattle.frs_objects.specs.Objects.{stored_by, entry_of, entry_at, lsn_of_place, table_lsns, put_lsns, with_put, puts_among, AreNew, HaveOwnNumbers}
use Rattle.frs_objects.specs.Index.{Rows, row_at, table_by, is_blank, Agrees, demand, IsIndex, table_in, HasRoomFor}
use Rattle.frs_objects.proofs.Shown.{by_number, stored_in, stored_under, at-shown}
use Rattle.frs_objects.proofs.Agreement.{split}
use Rattle.frs_objects.proofs.Oldest.{unlisted_at}

-- the LSN of what stands at a place is listed
lsn_listed : (t : Table StoredValue) (p : Place) (h : StoredValue) → at t p ≡ Some h → list_any (λ m. m == h.lsn) (table_lsns t) ≡ true
lsn_listed [] p h is = absurd (true≢false (ap is_some (sym is)))
lsn_listed (x ∷ t) p h is =
    split (eq_by_cmp place_cmp p x.0) (λ b. cond b (Some x.1) (at t p) ≡ Some h → list_any (λ m. m == h.lsn) (table_lsns (x ∷ t)) ≡ true)
    (λ _ here. ap (λ b. b || list_any (λ m. m == h.lsn) (table_lsns t)) (ap (λ (v : StoredValue). v.lsn == h.lsn) (the_same x.1 h here) ∙ (unsigned_Decides h.lsn h.lsn).1 refl))
    (λ _ there. or_right (x.1.lsn == h.lsn) _ (lsn_listed t p h there))
    is
  where
    the_same : (g h : StoredValue) → Some g ≡ Some h → g ≡ h
    the_same g h e = cc

pub row_free : (slots : Place → Option Slot) (rows : Rows) (ws : List (Place × ℕ)) → Agrees slots rows ws → (n : ℕ) → list_any (λ (w : Place × ℕ). w.1 == n) ws ≡ false → list_any (λ m. m == n) (table_lsns (table_by rows)) ≡ false → row_at rows n ≡ None
row_free slots rows ws a n kept listed = by_row (row_at rows n) refl
  where
    by_row : (o : Option (Option Entry)) → row_at rows n ≡ o → o ≡ None
    by_row None is = refl
    by_row (Some None) is = absurd (true≢false (sym (ap is_blank is) ∙ a.blank n ∙ kept))
    by_row (Some (Some e)) is =
        let own = a.owned n e is in
        let there : at (table_by rows) (e.id, e.key) ≡ Some (stored_by e) = at-shown a (e.id, e.key) ∙ ap (stored_under rows) own.1 ∙ ap stored_in is in
        absurd (true≢false (sym (lsn_listed (table_by rows) (e.id, e.key) (stored_by e) there) ∙ ap (λ v. list_any (λ m. m == v) (table_lsns (table_by rows))) own.0 ∙ listed))

-- ---- entries one after another

pub none_at_first : (slots : Place → Option Slot) (rows : Rows) → Agrees slots rows [] → table_by rows ≡ [] → (n : ℕ) → row_at rows n ≡ None
none_at_first slots rows a none n = row_free slots rows [] a n refl (ap (λ t. list_any (λ m. m == n) (table_lsns t)) none)

-- the LSNs of the entries behind one are new once it is in
pub new_behind : (rows rows' : Rows) (e : Entry) (es : List Entry) → HaveOwnNumbers (e ∷ es) → ((n : ℕ) → list_any (λ (d : Entry). d.lsn == n) (e ∷ es) ≡ true → row_at rows n ≡ None) → ((n : ℕ) → (e.lsn == n) ≡ false → row_at rows n ≡ None → row_at rows' n ≡ None) → (n : ℕ) → list_any (λ (d : Entry). d.lsn == n) es ≡ true → row_at rows' n ≡ None
new_behind rows rows' e es own new others n there =
    others n
    (by_number e.lsn n (λ b. b ≡ false) (λ same. absurd (true≢false (sym there ∙ ap (λ v. list_any (λ (d : Entry). d.lsn == v) es) (sym same) ∙ own.0))) (λ _. refl))
    (new n (or_right (e.lsn == n) _ there))

-- ---- the LSN at a place

lsn_entry : (p : Place) (o : Option StoredValue) → unwrap_or (option_map (λ (e : Entry). e.lsn) (option_map (entry_of p) o)) 0 ≡ unwrap_or (option_map (λ (h : StoredValue). h.lsn) o) 0
lsn_entry p None = refl
lsn_entry p (Some h) = refl

pub lsn_of_entry : (t : Table StoredValue) (p : Place) (o : Option Entry) → o ≡ entry_at t p → unwrap_or (option_map (λ (e : Entry). e.lsn) o) 0 ≡ lsn_of_place t p
lsn_of_entry t p o is = ap (λ v. unwrap_or (option_map (λ (e : Entry). e.lsn) v) 0) is ∙ lsn_entry p (at t p)

pub some_of : {X : Type 0} (o : Option X) → is_some o ≡ true → (x : X) × (o ≡ Some x)
some_of None is = absurd (true≢false (sym is))
some_of (Some x) is = (x, refl)

-- ---- puts one after another

AreNew-behind : (t : Table StoredValue) (op : Op) (ws : List (Place × ℕ)) → AreNew t (put_lsns (with_put op ws)) → AreNew t (put_lsns ws)
AreNew-behind t (Put id key value lsn) ws new = new.2
AreNew-behind t (Remove id key) ws new = new
AreNew-behind t (Delete id) ws new = new

AreNew-drop : (t : Table StoredValue) (i : ℕ) (ops : List Op) → AreNew t (put_lsns (puts_among ops)) → AreNew t (put_lsns (puts_among (drop i ops)))
AreNew-drop t zero ops new = new
AreNew-drop t (suc i) [] new = new
AreNew-drop t (suc i) (op ∷ ops) new = AreNew-drop t i ops (AreNew-behind t op (puts_among ops) new)

unlisted : (n : ℕ) (ws : List (Place × ℕ)) → AllByRecursion (λ m. n < m) (put_lsns ws) → list_any (λ (w : Place × ℕ). w.1 == n) ws ≡ false
unlisted n [] all = refl
unlisted n (w ∷ ws) all = ap (λ b. b || list_any (λ (x : Place × ℕ). x.1 == n) ws) (by_number w.1 n (λ b. b ≡ false) (λ e. absurd (omega (arith, e, all.0))) (λ _. refl)) ∙ unlisted n ws all.1

demand_bound : (ws : List (Place × ℕ)) (p : Place) → demand ws p ≤ length ws
demand_bound [] p = omega arith
demand_bound (w ∷ ws) p = let rest = demand_bound ws p in split (same_place w.0 p) (λ b. (if b then demand ws p + 1 else demand ws p) ≤ suc (length ws)) (λ _. omega (arith, rest)) (λ _. omega (arith, rest))

with_put_bound : (op : Op) (ws : List (Place × ℕ)) → length (with_put op ws) ≤ length ws + 1
with_put_bound (Put id key value lsn) ws = omega arith
with_put_bound (Remove id key) ws = omega arith
with_put_bound (Delete id) ws = omega arith

puts_bound : (ops : List Op) → length (puts_among ops) ≤ length ops
puts_bound [] = omega arith
puts_bound (op ∷ ops) = let front = with_put_bound op (puts_among ops) in let rest = puts_bound ops in omega (arith, front, rest)

room_at : (a : Index) (op : Op) (rest : List Op) → IsIndex a (puts_among rest) → AreNew (table_in a) (put_lsns (with_put op (puts_among rest))) → length rest + 1 < 2 ^ 64 → HasRoomFor a op
room_at a (Put id key value lsn) rest is new fits =
    let bound = demand_bound (puts_among rest) (id, key) in
    let few = puts_bound rest in
    let wanted = is.counted (id, key) in (
      row_free (slot_at a.places.maps) a.entries.entries (puts_among rest) is lsn (unlisted lsn (puts_among rest) new.1) new.0,
      omega (arith, bound, few, wanted, fits),
    )
room_at a (Remove id key) rest is new fits = tt
room_at a (Delete id) rest is new fits = tt

pub room_for : (a : Index) (ops : List Op) (i : ℕ) (op : Op) → i < length ops → op ≡ slice_index_or ops i op → IsIndex a (puts_among (drop (suc i) ops)) → AreNew (table_in a) (put_lsns (puts_among ops)) → length ops < 2 ^ 64 → HasRoomFor a op
room_for a ops i op within is index new fits =
    let front : drop i ops ≡ op ∷ drop (suc i) ops = drop-cons ops i op within ∙ ap (λ o. o ∷ drop (suc i) ops) (sym is) in
    let few : length (drop (suc i) ops) ≡ length ops - suc i = length-drop (suc i) ops in
    room_at a op (drop (suc i) ops) index (subst (λ (os : List Op). AreNew (table_in a) (put_lsns (puts_among os))) front (AreNew-drop (table_in a) i ops new)) (omega (arith, few, within, fits))

pub room_for_last : (a first : Index) (ops : List Op) (left : ℕ) (op : Op) → 0 < left → left ≤ length ops → op ≡ slice_index_or ops (left - 1) op → IsIndex a (puts_among (drop left ops)) → table_in a ≡ table_in first → AreNew (table_in first) (put_lsns (puts_among ops)) → length ops < 2 ^ 64 → HasRoomFor a op
room_for_last a first ops left op some within is index same new fits =
    let here : left ≡ suc (left - 1) = omega (arith, some) in
    room_for a ops (left - 1) op (omega (arith, some, within)) is (subst (λ n. IsIndex a (puts_among (drop n ops))) here index) (subst (λ t. AreNew t (put_lsns (puts_among ops))) (sym same) new) fits

-- whether an LSN has a row is whether an entry has it
pub is_listed : (slots : Place → Option Slot) (rows : Rows) → Agrees slots rows [] → (n : ℕ) → is_some (row_at rows n) ≡ list_any (λ m. m == n) (table_lsns (table_by rows))
is_listed slots rows a n =
    split (list_any (λ m. m == n) (table_lsns (table_by rows))) (λ b. list_any (λ m. m == n) (table_lsns (table_by rows)) ≡ b → is_some (row_at rows n) ≡ b)
    (λ _ listed. some_row (row_at rows n) refl listed)
    (λ _ listed. ap is_some (row_free slots rows [] a n refl listed))
    refl
  where
    some_row : (o : Option (Option Entry)) → row_at rows n ≡ o → list_any (λ m. m == n) (table_lsns (table_by rows)) ≡ true → is_some o ≡ true
    some_row None is listed = absurd (true≢false (sym listed ∙ unlisted_at slots rows a n is))
    some_row (Some o) is listed = refl

-- what is above the greater of two numbers is above both
pub all_above : (m n : ℕ) (ns : List ℕ) → m < n → AllByRecursion (λ k. n < k) ns → AllByRecursion (λ k. m < k) ns
all_above m n [] l all = tt
all_above m n (k ∷ ns) l all = (omega (arith, l, all.0), all_above m n ns l all.1)
