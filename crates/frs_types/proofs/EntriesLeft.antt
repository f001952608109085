-- What a list of entries has at each place, and what a record leaves there that names the entry at the place of its change.
use Rattle.std.proofs.Common.{◌≡◌, ℕ, ◌+◌, ◌<◌, ◌≤◌, Bool, true, false, cond, not, ◌||◌, ◌==◌, List, [], ◌∷◌, ◌++◌, Option, Some, None, refl, sym, ap, ◌∙◌, inl, inr, ◌⊎◌, subst, append-nil, filter, map, option_to_list, option_map, unwrap_or, bytes_eq, arith, eqb-true, eq-eqb, ne_eqb, true≢false}
use Rattle.std.specs.Bool.{one_answer}
use Rattle.std.specs.List.{AllByRecursion}
use Rattle.std.specs.Option.{option_or}
use Rattle.std.proofs.lemmas.List.Folds.{fold-map}
use Rattle.std.proofs.lemmas.Option.{same_Some}
use Rattle.std.proofs.lemmas.Slice.Eq.{bytes_eq-Decides}
use Rattle.frs_types.specs.declared.record.Action.{Action}
use Rattle.frs_types.specs.declared.record.Action.TheVariants.{Put, Remove, Delete, Begin, Commit, Compaction, Mark, Abandon}
use Rattle.frs_types.specs.declared.record.Entry.{Entry}
use Rattle.frs_types.specs.Maps.{Place, Change, Table, same_place, at, table_after}
use Rattle.frs_types.specs.Maps.Change.{Set, Take, Clear}
use Rattle.frs_types.specs.Records.{Numbered}
use Rattle.frs_types.specs.Survivors.{is_delete_of, entry_by}
use Rattle.frs_types.specs.Lawful.{StoredValue, table_of}
use Rattle.frs_types.proofs.Changes.{touches, given, latest, latest-append, at-table_after_all, same_place-Decides}
use Rattle.frs_types.proofs.OneMoreRecord.{is_gone_by, left_by}

-- ---- what entries have at a place

abbrev pub place_of : Entry → Place
place_of e = (e.id, e.key)

abbrev pub stored_by : Entry → StoredValue
stored_by e = record { value = e.value; lsn = e.lsn }

abbrev pub set_by : Entry → Change StoredValue
set_by e = Set e.id e.key (stored_by e)

-- what the last entry of the place has
abbrev pub found_in : List Entry → Place → Option StoredValue
found_in es p = unwrap_or (latest p (map set_by es)) None

pub at-table_of : (es : List Entry) (p : Place) → at (table_of es) p ≡ found_in es p
at-table_of es p = ap (λ (t : Table StoredValue). at t p) (sym (fold-map table_after set_by [] es)) ∙ at-table_after_all p (map set_by es) []

-- what stands at a place after a change
abbrev pub changed : (Place → Option StoredValue) → Change StoredValue → Place → Option StoredValue
changed f x p = cond (touches p x) (given x) (f p)

cond_or : (b : Bool) (h : Option StoredValue) (o : Option (Option StoredValue)) → unwrap_or (option_or (cond b (Some h) None) o) None ≡ cond b h (unwrap_or o None)
cond_or true h o = refl
cond_or false h o = refl

map_push_one : (es : List Entry) (e : Entry) → map set_by (es ++ e ∷ []) ≡ map set_by es ++ set_by e ∷ []
map_push_one [] e = refl
map_push_one (d ∷ es) e = ap (λ xs. set_by d ∷ xs) (map_push_one es e)

pub found_in-push : (es : List Entry) (e : Entry) (p : Place) → found_in (es ++ e ∷ []) p ≡ cond (same_place (place_of e) p) (Some (stored_by e)) (found_in es p)
found_in-push es e p =
    ap (λ cs. unwrap_or (latest p cs) None) (map_push_one es e)
    ∙ ap (λ o. unwrap_or o None) (latest-append p (map set_by es) (set_by e ∷ []))
    ∙ cond_or (same_place (place_of e) p) (Some (stored_by e)) (latest p (map set_by es))

-- ---- without the entries at the places of a change

-- the entries at places that the change doesn't touch
abbrev pub untouched : Change StoredValue → List Entry → List Entry
untouched x es = filter (λ e. not (touches (place_of e) x)) es

or_none : (a : Option (Option StoredValue)) → option_or a None ≡ a
or_none None = refl
or_none (Some h) = refl

kept_or : (here at_e at_p : Bool) (a b : Option (Option StoredValue)) (h : Option StoredValue) → (here ≡ true → at_e ≡ at_p) → b ≡ cond at_p None a
    → cond (not at_e) (option_or b (cond here (Some h) None)) b ≡ cond at_p None (option_or a (cond here (Some h) None))
kept_or true true true a b h same is = is
kept_or true true false a b h same is = absurd (true≢false (same refl))
kept_or true false true a b h same is = absurd (true≢false (sym (same refl)))
kept_or true false false a b h same is = ap (λ o. option_or o (Some h)) is
kept_or false true true a b h same is = is
kept_or false true false a b h same is = is ∙ sym (or_none a)
kept_or false false true a b h same is = or_none b ∙ is
kept_or false false false a b h same is = ap (λ o. option_or o None) is

latest_untouched : (x : Change StoredValue) (p : Place) (es : List Entry) → latest p (map set_by (untouched x es)) ≡ cond (touches p x) None (latest p (map set_by es))
latest_untouched x p [] = elim (touches p x) as (λ b. None ≡ cond {A = Option (Option StoredValue)} b None None) [ true ↦ refl | false ↦ refl ]
latest_untouched x p (e ∷ es) =
    let new : Option (Option StoredValue) = cond (same_place (place_of e) p) (Some (Some (stored_by e))) None in
    elim (touches (place_of e) x) as (λ b. latest p (map set_by (cond (not b) (e ∷ untouched x es) (untouched x es))) ≡ cond (not b) (option_or (latest p (map set_by (untouched x es))) new) (latest p (map set_by (untouched x es)))) [
      | true ↦ refl
      | false ↦ refl
    ]
    ∙ kept_or (same_place (place_of e) p) (touches (place_of e) x) (touches p x) (latest p (map set_by es)) (latest p (map set_by (untouched x es))) (Some (stored_by e))
    (λ here. ap (λ (q : Place). touches q x) ((same_place-Decides (place_of e) p).0 here)) (latest_untouched x p es)

pub found_in-untouched : (x : Change StoredValue) (es : List Entry) (p : Place) → found_in (untouched x es) p ≡ cond (touches p x) None (found_in es p)
found_in-untouched x es p =
    ap (λ o. unwrap_or o None) (latest_untouched x p es)
    ∙ elim (touches p x) as (λ b. unwrap_or (cond b None (latest p (map set_by es))) None ≡ cond b None (found_in es p)) [ true ↦ refl | false ↦ refl ]

-- ---- entries that are apart

-- each entry is what is found at its place
abbrev pub AreFound : (Place → Option StoredValue) → List Entry → Type 0
AreFound f es = AllByRecursion (λ e. f (place_of e) ≡ Some (stored_by e)) es

-- what stands at the places has LSNs above 0 and below n, and no two of them are equal
pub record AreApart (f : Place → Option StoredValue) (n : ℕ) : Type 0 where
  pub below : (p : Place) (h : StoredValue) → f p ≡ Some h → (0 < h.lsn) × (h.lsn < n)
  pub one : (p q : Place) (h k : StoredValue) → f p ≡ Some h → f q ≡ Some k → h.lsn ≡ k.lsn → p ≡ q

-- these entries are what f has, each at its place, and their LSNs are apart and below n
pub record Holds (f : Place → Option StoredValue) (es : List Entry) (n : ℕ) : Type 0 where
  pub found : (p : Place) → found_in es p ≡ f p
  pub each : AreFound f es
  pub apart : AreApart f n

-- the LSN at the place, or 0
abbrev pub lsn_at : (Place → Option StoredValue) → Place → ℕ
lsn_at f p = unwrap_or (option_map (λ (h : StoredValue). h.lsn) (f p)) 0

-- a record with the change names what stands at its place
abbrev pub IsNamed : (Place → Option StoredValue) → ℕ → Change StoredValue → Type 0
IsNamed f named (Set id key h) = named ≡ lsn_at f (id, key)
IsNamed f named (Take id key) = named ≡ lsn_at f (id, key)
IsNamed f named (Clear id) = named ≡ 0

-- the change that a record with this LSN makes, if it makes one
abbrev pub change_by : ℕ → Action → Option (Change StoredValue)
change_by n (Put id key value) = Some (Set id key (record { value = value; lsn = n }))
change_by n (Remove id key) = Some (Take id key)
change_by n (Delete id) = Some (Clear id)
change_by n (Compaction id key value) = Some (Set id key (record { value = value; lsn = n }))
change_by n Begin = None
change_by n Commit = None
change_by n Mark = None
change_by n Abandon = None

-- ---- a record goes exactly with the entries at the places of its change

named_apart : (f : Place → Option StoredValue) (n : ℕ) → AreApart f n → (p : Place) (e : Entry) (o : Option StoredValue) → f p ≡ o → f (place_of e) ≡ Some (stored_by e)
    → (unwrap_or (option_map (λ (h : StoredValue). h.lsn) o) 0 == e.lsn) ≡ true → p ≡ place_of e
named_apart f n apart p e None is found same =
    let own : (0 < e.lsn) × (e.lsn < n) = apart.below (place_of e) (stored_by e) found in
    let zero : 0 ≡ e.lsn = eqb-true 0 e.lsn same in
    absurd (omega arith)
named_apart f n apart p e (Some h) is found same = apart.one p (place_of e) h (stored_by e) is found (eqb-true h.lsn e.lsn same)

gone_at : (f : Place → Option StoredValue) (n : ℕ) → AreApart f n → (p : Place) (e : Entry) → f (place_of e) ≡ Some (stored_by e) → ((lsn_at f p == e.lsn) || false) ≡ same_place p (place_of e)
gone_at f n apart p e found =
    let or_false : (b : Bool) → (b || false) ≡ b = λ b. elim b as (λ c. (c || false) ≡ c) [ true ↦ refl | false ↦ refl ] in
    or_false (lsn_at f p == e.lsn)
    ∙ one_answer (lsn_at f p == e.lsn) (same_place p (place_of e)) (
      λ is. named_apart f n apart p e (f p) refl found is,
      λ same. eq-eqb _ _ (ap (lsn_at f) same ∙ ap (λ o. unwrap_or (option_map (λ (h : StoredValue). h.lsn) o) 0) found),
    )
    (same_place-Decides p (place_of e))

gone_in : (f : Place → Option StoredValue) (n : ℕ) → AreApart f n → (id : List ℕ) (e : Entry) → f (place_of e) ≡ Some (stored_by e) → ((0 == e.lsn) || bytes_eq e.id id) ≡ bytes_eq id e.id
gone_in f n apart id e found =
    let own : (0 < e.lsn) × (e.lsn < n) = apart.below (place_of e) (stored_by e) found in
    let other : (0 == e.lsn) ≡ false = ne_eqb 0 e.lsn (λ is. omega arith) in
    ap (λ b. b || bytes_eq e.id id) other
    ∙ one_answer (bytes_eq e.id id) (bytes_eq id e.id) (bytes_eq-Decides e.id id) (λ is. sym ((bytes_eq-Decides id e.id).0 is), λ is. (bytes_eq-Decides id e.id).1 (sym is))

gone_by_change : (f : Place → Option StoredValue) (n : ℕ) → AreApart f n → (named lsn : ℕ) (a : Action) (x : Change StoredValue) → change_by lsn a ≡ Some x → IsNamed f named x
    → (e : Entry) → f (place_of e) ≡ Some (stored_by e) → ((named == e.lsn) || is_delete_of e.id a) ≡ touches (place_of e) x
gone_by_change f n apart named lsn (Put id key value) x is names e found =
    subst (λ (y : Change StoredValue). IsNamed f named y → ((named == e.lsn) || false) ≡ touches (place_of e) y) (same_Some _ _ is) (λ own. ap (λ k. (k == e.lsn) || false) own ∙ gone_at f n apart (id, key) e found) names
gone_by_change f n apart named lsn (Remove id key) x is names e found =
    subst (λ (y : Change StoredValue). IsNamed f named y → ((named == e.lsn) || false) ≡ touches (place_of e) y) (same_Some _ _ is) (λ own. ap (λ k. (k == e.lsn) || false) own ∙ gone_at f n apart (id, key) e found) names
gone_by_change f n apart named lsn (Delete id) x is names e found =
    subst (λ (y : Change StoredValue). IsNamed f named y → ((named == e.lsn) || bytes_eq e.id id) ≡ touches (place_of e) y) (same_Some _ _ is) (λ own. ap (λ k. (k == e.lsn) || bytes_eq e.id id) own ∙ gone_in f n apart id e found) names
gone_by_change f n apart named lsn (Compaction id key value) x is names e found =
    subst (λ (y : Change StoredValue). IsNamed f named y → ((named == e.lsn) || false) ≡ touches (place_of e) y) (same_Some _ _ is) (λ own. ap (λ k. (k == e.lsn) || false) own ∙ gone_at f n apart (id, key) e found) names
gone_by_change f n apart named lsn Begin x is names e found = absurd cc
gone_by_change f n apart named lsn Commit x is names e found = absurd cc
gone_by_change f n apart named lsn Mark x is names e found = absurd cc
gone_by_change f n apart named lsn Abandon x is names e found = absurd cc

-- two tests that agree at each of these entries keep the same of them
filter_alike : (P : Entry → Type 0) (test other : Entry → Bool) → ((e : Entry) → P e → test e ≡ other e) → (es : List Entry) → AllByRecursion P es → filter test es ≡ filter other es
filter_alike P test other same [] all = refl
filter_alike P test other same (e ∷ es) all = ap (λ b. cond b (e ∷ filter test es) (filter test es)) (same e all.0) ∙ ap (λ l. cond (other e) (e ∷ l) l) (filter_alike P test other same es all.1)

each_kept : (P Q : Entry → Type 0) (test : Entry → Bool) → ((e : Entry) → P e → test e ≡ true → Q e) → (es : List Entry) → AllByRecursion P es → AllByRecursion Q (filter test es)
each_kept P Q test step [] all = tt
each_kept P Q test step (e ∷ es) all =
    let rest = each_kept P Q test step es all.1 in
    elim (test e) as (λ b. test e ≡ b → AllByRecursion Q (cond b (e ∷ filter test es) (filter test es))) [
      | true ↦ λ is. (step e all.0 is, rest)
      | false ↦ λ is. rest
    ] refl

each_push : (Q : Entry → Type 0) (es : List Entry) (e : Entry) → AllByRecursion Q es → Q e → AllByRecursion Q (es ++ e ∷ [])
each_push Q [] e all own = (own, tt)
each_push Q (d ∷ es) e all own = (all.0, each_push Q es e all.1 own)

-- ---- a change

not_is : (b : Bool) → not b ≡ true → b ≡ false
not_is true is = absurd (true≢false (sym is))
not_is false is = refl

changed_cases : (b : Bool) (o r : Option StoredValue) (h : StoredValue) → cond b o r ≡ Some h → ((b ≡ true) × (o ≡ Some h)) ⊎ (r ≡ Some h)
changed_cases true o r h is = inl (refl, is)
changed_cases false o r h is = inr is

-- a value that the change gives has the LSN n, and the change touches one place alone
abbrev pub IsNew : Change StoredValue → ℕ → Type 0
IsNew x n = (h : StoredValue) → given x ≡ Some h → (h.lsn ≡ n) × ((p q : Place) → touches p x ≡ true → touches q x ≡ true → p ≡ q)

module _ (f g : Place → Option StoredValue) (n : ℕ) (x : Change StoredValue) (above : 0 < n) (new : IsNew x n) (apart : AreApart f n) (is : (p : Place) → g p ≡ changed f x p) where
  held_before : (p : Place) (h : StoredValue) → g p ≡ Some h → ((touches p x ≡ true) × (given x ≡ Some h)) ⊎ (f p ≡ Some h)
  held_before p h held = changed_cases (touches p x) (given x) (f p) h (sym (is p) ∙ held)

  apart_below : (p : Place) (h : StoredValue) → g p ≡ Some h → (0 < h.lsn) × (h.lsn < n + 1)
  apart_below p h held = elim (held_before p h held) [
    | inl given_here ↦ (let own : h.lsn ≡ n = (new h given_here.1).0 in (omega arith, omega arith))
    | inr before ↦ (let own : (0 < h.lsn) × (h.lsn < n) = apart.below p h before in (omega arith, omega arith))
  ]

  apart_one : (p q : Place) (h k : StoredValue) → g p ≡ Some h → g q ≡ Some k → h.lsn ≡ k.lsn → p ≡ q
  apart_one p q h k at_p at_q same = elim (held_before p h at_p) [
    | inl here ↦ elim (held_before q k at_q) [
      | inl there ↦ (new h here.1).1 p q here.0 there.0
      | inr before ↦ (let own : h.lsn ≡ n = (new h here.1).0 in let old : (0 < k.lsn) × (k.lsn < n) = apart.below q k before in absurd (omega arith))
    ]
    | inr earlier ↦ elim (held_before q k at_q) [
      | inl there ↦ (let own : k.lsn ≡ n = (new k there.1).0 in let old : (0 < h.lsn) × (h.lsn < n) = apart.below p h earlier in absurd (omega arith))
      | inr before ↦ apart.one p q h k earlier before same
    ]
  ]

  apart_changed : AreApart g (n + 1)
  apart_changed = record { below = apart_below; one = apart_one }

  kept_found : (es : List Entry) → AreFound f es → AreFound g (untouched x es)
  kept_found es all = each_kept (λ e. f (place_of e) ≡ Some (stored_by e)) (λ e. g (place_of e) ≡ Some (stored_by e)) (λ e. not (touches (place_of e) x))
      (λ e found kept. is (place_of e) ∙ ap (λ b. cond b (given x) (f (place_of e))) (not_is (touches (place_of e) x) kept) ∙ found) es all

  taken_found : given x ≡ None → (es : List Entry) → ((p : Place) → found_in es p ≡ f p) → (p : Place) → found_in (untouched x es) p ≡ g p
  taken_found none es found p = found_in-untouched x es p ∙ ap (λ o. cond (touches p x) o (found_in es p)) (sym none) ∙ ap (cond (touches p x) (given x)) (found p) ∙ sym (is p)

  pub holds_taken : given x ≡ None → (es : List Entry) → Holds f es n → Holds g (untouched x es) (n + 1)
  holds_taken none es held = record { found = taken_found none es held.found; each = kept_found es held.each; apart = apart_changed }

  module _ (e : Entry) (sets : x ≡ set_by e) (es : List Entry) (held : Holds f es n) where
    shadowed : (b : Bool) (y z : Option StoredValue) → cond b y (cond b None z) ≡ cond b y z
    shadowed true y z = refl
    shadowed false y z = refl

    set_found : (p : Place) → found_in (untouched x es ++ e ∷ []) p ≡ g p
    set_found p =
        found_in-push (untouched x es) e p
        ∙ ap (cond (touches p (set_by e)) (given (set_by e))) (found_in-untouched x es p)
        ∙ ap (λ (y : Change StoredValue). cond (touches p (set_by e)) (given (set_by e)) (cond (touches p y) None (found_in es p))) sets
        ∙ shadowed (touches p (set_by e)) (given (set_by e)) (found_in es p)
        ∙ ap (cond (touches p (set_by e)) (given (set_by e))) (held.found p)
        ∙ ap (λ (y : Change StoredValue). changed f y p) (sym sets)
        ∙ sym (is p)

    own_found : g (place_of e) ≡ Some (stored_by e)
    own_found = is (place_of e) ∙ ap (λ (y : Change StoredValue). changed f y (place_of e)) sets ∙ ap (λ b. cond b (Some (stored_by e)) (f (place_of e))) ((same_place-Decides (place_of e) (place_of e)).1 refl)

    pub holds_set : Holds g (untouched x es ++ e ∷ []) (n + 1)
    holds_set = record { found = set_found; each = each_push (λ d. g (place_of d) ≡ Some (stored_by d)) (untouched x es) e (kept_found es held.each) own_found; apart = apart_changed }

new_set : (n : ℕ) (id key value : List ℕ) → IsNew (Set id key (record { value = value; lsn = n })) n
new_set n id key value h is = (
  sym (ap (λ (k : StoredValue). k.lsn) (same_Some _ _ is)),
  λ p q here there. sym ((same_place-Decides (id, key) p).0 here) ∙ (same_place-Decides (id, key) q).0 there,
)

-- ---- one record

abbrev left_of : ℕ → Action → List Entry
left_of n a = option_to_list (entry_by n a)

module _ (f g : Place → Option StoredValue) (n : ℕ) (above : 0 < n) (es : List Entry) (held : Holds f es n) where
  holds_put : (id key value : List ℕ) (x : Change StoredValue) → Set id key (record { value = value; lsn = n }) ≡ x → ((p : Place) → g p ≡ changed f x p)
      → Holds g (untouched x es ++ record { id = id; key = key; value = value; lsn = n } ∷ []) (n + 1)
  holds_put id key value x same is = holds_set f g n x above (subst (λ (y : Change StoredValue). IsNew y n) same (new_set n id key value)) held.apart is (record { id = id; key = key; value = value; lsn = n }) (sym same) es held

  holds_gone : (x : Change StoredValue) → given x ≡ None → ((p : Place) → g p ≡ changed f x p) → Holds g (untouched x es ++ []) (n + 1)
  holds_gone x none is = subst (λ l. Holds g l (n + 1)) (sym (append-nil (untouched x es))) (holds_taken f g n x above (λ h some. absurd cc) held.apart is none es held)

  holds_by : (a : Action) (x : Change StoredValue) → change_by n a ≡ Some x → ((p : Place) → g p ≡ changed f x p) → Holds g (untouched x es ++ left_of n a) (n + 1)
  holds_by (Put id key value) x makes is = holds_put id key value x (same_Some _ _ makes) is
  holds_by (Remove id key) x makes is = holds_gone x (ap given (sym (same_Some _ _ makes))) is
  holds_by (Delete id) x makes is = holds_gone x (ap given (sym (same_Some _ _ makes))) is
  holds_by (Compaction id key value) x makes is = holds_put id key value x (same_Some _ _ makes) is
  holds_by Begin x makes is = absurd cc
  holds_by Commit x makes is = absurd cc
  holds_by Mark x makes is = absurd cc
  holds_by Abandon x makes is = absurd cc

-- What stands there once a record with a change, which names what stands at its place, has this LSN.
pub holds_record : (f g : Place → Option StoredValue) (es : List Entry) (r : Numbered) (x : Change StoredValue) → 0 < r.lsn → Holds f es r.lsn → change_by r.lsn r.what.action ≡ Some x
    → IsNamed f r.what.named x → ((p : Place) → g p ≡ changed f x p) → Holds g (left_by r es) (r.lsn + 1)
holds_record f g es r x above held makes names is =
    subst (λ l. Holds g (l ++ left_of r.lsn r.what.action) (r.lsn + 1))
    (sym (filter_alike (λ e. f (place_of e) ≡ Some (stored_by e)) (λ e. not (is_gone_by e r)) (λ e. not (touches (place_of e) x))
    (λ e found. ap not (gone_by_change f r.lsn held.apart r.what.named r.lsn r.what.action x makes names e found)) es held.each))
    (holds_by f g r.lsn above es held r.what.action x makes is)

idle_by : (n : ℕ) (a : Action) → change_by n a ≡ None → (left_of n a ≡ []) × ((id : List ℕ) → is_delete_of id a ≡ false)
idle_by n (Put id key value) is = absurd cc
idle_by n (Remove id key) is = absurd cc
idle_by n (Delete id) is = absurd cc
idle_by n (Compaction id key value) is = absurd cc
idle_by n Begin is = (refl, λ _. refl)
idle_by n Commit is = (refl, λ _. refl)
idle_by n Mark is = (refl, λ _. refl)
idle_by n Abandon is = (refl, λ _. refl)

filter_every : (es : List Entry) → filter {X = Entry} (λ _. true) es ≡ es
filter_every [] = refl
filter_every (e ∷ es) = ap (λ l. e ∷ l) (filter_every es)

pub left_by_idle : (f : Place → Option StoredValue) (es : List Entry) (n : ℕ) (r : Numbered) → Holds f es n → r.what.named ≡ 0 → change_by r.lsn r.what.action ≡ None → left_by r es ≡ es
left_by_idle f es n r held zero none =
    let idle = idle_by r.lsn r.what.action none in
    let kept : (e : Entry) → f (place_of e) ≡ Some (stored_by e) → not (is_gone_by e r) ≡ true = λ e found.
    let own : (0 < e.lsn) × (e.lsn < n) = held.apart.below (place_of e) (stored_by e) found in
    let other : (r.what.named == e.lsn) ≡ false = ne_eqb r.what.named e.lsn (λ is. omega arith) in
    ap (λ b. not (b || is_delete_of e.id r.what.action)) other ∙ ap not (idle.1 e.id) in
    ap (λ l. filter (λ e. not (is_gone_by e r)) es ++ l) idle.0
    ∙ append-nil (filter (λ e. not (is_gone_by e r)) es)
    ∙ filter_alike (λ e. f (place_of e) ≡ Some (stored_by e)) (λ e. not (is_gone_by e r)) (λ _. true) kept es held.each
    ∙ filter_every es

pub holds_wider : (f g : Place → Option StoredValue) (es : List Entry) (n m : ℕ) → n ≤ m → ((p : Place) → g p ≡ f p) → Holds f es n → Holds g es m
holds_wider f g es n m wide is held = record {
  found = λ p. held.found p ∙ sym (is p);
  each = each_alike es held.each;
  apart = record {
    below = λ p h at_p. (let own : (0 < h.lsn) × (h.lsn < n) = held.apart.below p h (sym (is p) ∙ at_p) in (omega arith, omega arith));
    one = λ p q h k at_p at_q. held.apart.one p q h k (sym (is p) ∙ at_p) (sym (is q) ∙ at_q);
  };
}
  where
    each_alike : (ds : List Entry) → AreFound f ds → AreFound g ds
    each_alike [] all = tt
    each_alike (e ∷ ds) all = (is (place_of e) ∙ all.0, each_alike ds all.1)
