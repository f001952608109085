-- A segment in its place on a shelf.
use Rattle.std.proofs.Common.{◌≡◌, ◌≢◌, ℕ, zero, suc, ◌<◌, Bool, false, cond, T, List, [], ◌∷◌, length, get_or, set, map, Vec, Some, refl, sym, ◌∙◌, ap, subst, arith}
use Rattle.std.proofs.lemmas.Cmp.{on_total, then_total}
use Rattle.std.proofs.lemmas.Map.Lookups.{CmpEqualImpliesEq, exact_pairs, exact_unsigned}
use Rattle.std.specs.List.{insert as insert_at}
use Rattle.std.specs.declared.alloc.Global.{Global}
use Rattle.std.specs.declared.cmp.Ordering.{Ordering}
use Rattle.std.specs.declared.cmp.Ordering.TheVariants.{Less, Equal, Greater}
use Rattle.std.specs.Ordering.{nat_cmp, is_eq}
use Rattle.std.specs.Cmp.{IsTotalOrder, nat_cmp_total}
use Rattle.std.specs.FinMap.{entries, get, insert, put, is_sorted, from_sorted, entries-insert, entries-from_sorted, entries_sorted, same_entries_map, get-insert, empty, get-from_sorted, get-empty, same_map}
use Rattle.frs_disk.specs.Outside.{shelf_cmp, ShelfFiles, greatest_of, greatest_snapshot}
use Rattle.frs_disk.specs.ShelfEntries.{shelf_entries}

abbrev pub Segment : Type 0
Segment = ℕ × ℕ × Vec ℕ Global

pub shelf_total : IsTotalOrder shelf_cmp
shelf_total = then_total (on_total (λ (k : ℕ × ℕ). k.0) nat_cmp_total) (on_total (λ (k : ℕ × ℕ). k.1) nat_cmp_total)

-- keys that compare alike are one
pub shelf_exact : CmpEqualImpliesEq shelf_cmp
shelf_exact = exact_pairs nat_cmp nat_cmp exact_unsigned exact_unsigned

-- the segments before a place come before this key
abbrev pub Passed : List Segment → ℕ → ℕ × ℕ → Type 0
Passed [] at key = Unit {0}
Passed (e ∷ held) zero key = Unit {0}
Passed (e ∷ held) (suc at) key = (shelf_cmp key (e.0, e.1) ≡ Greater) × Passed held at key

pub passed_start : (held : List Segment) (key : ℕ × ℕ) → Passed held 0 key
passed_start [] key = tt
passed_start (e ∷ held) key = tt

pub passed_more : (held : List Segment) (at : ℕ) (key : ℕ × ℕ) (f : Segment) → Passed held at key → at < length held → f ≡ get_or held at f → shelf_cmp key (f.0, f.1) ≡ Greater → Passed held (suc at) key
passed_more [] at key f passed lt is greater = tt
passed_more (e ∷ held) zero key f passed lt is greater = (subst (λ (x : Segment). shelf_cmp key (x.0, x.1) ≡ Greater) is greater, passed_start held key)
passed_more (e ∷ held) (suc at) key f passed lt is greater = (passed.0, passed_more held at key f passed.1 (omega arith) is greater)

put_greater : (k : ℕ × ℕ) (v : List ℕ) (e : (ℕ × ℕ) × List ℕ) (es : List ((ℕ × ℕ) × List ℕ)) → shelf_cmp k e.0 ≡ Greater → put shelf_cmp k v (e ∷ es) ≡ e ∷ put shelf_cmp k v es
put_greater k v e es is = rw is

put_equal : (k : ℕ × ℕ) (v : List ℕ) (e : (ℕ × ℕ) × List ℕ) (es : List ((ℕ × ℕ) × List ℕ)) → shelf_cmp k e.0 ≡ Equal → put shelf_cmp k v (e ∷ es) ≡ (e.0, v) ∷ es
put_equal k v e es is = rw is

put_less : (k : ℕ × ℕ) (v : List ℕ) (e : (ℕ × ℕ) × List ℕ) (es : List ((ℕ × ℕ) × List ℕ)) → shelf_cmp k e.0 ≡ Less → put shelf_cmp k v (e ∷ es) ≡ (k, v) ∷ e ∷ es
put_less k v e es is = rw is

pub set_here : (held : List Segment) (at : ℕ) (key : ℕ × ℕ) (f : Segment) (v : List ℕ) → Passed held at key → at < length held → f ≡ get_or held at f → shelf_cmp key (f.0, f.1) ≡ Equal
    → put shelf_cmp key v (shelf_entries held) ≡ set (shelf_entries held) at (key, v)
set_here [] at key f v passed lt is same = absurd (omega arith)
set_here (e ∷ held) zero key f v passed lt is same =
    let here : shelf_cmp key (e.0, e.1) ≡ Equal = subst (λ (x : Segment). shelf_cmp key (x.0, x.1) ≡ Equal) is same in
    put_equal key v ((e.0, e.1), e.2.items) (shelf_entries held) here ∙ ap (λ (k : ℕ × ℕ). (k, v) ∷ shelf_entries held) (sym (shelf_exact key (e.0, e.1) here))
set_here (e ∷ held) (suc at) key f v passed lt is same =
    put_greater key v ((e.0, e.1), e.2.items) (shelf_entries held) passed.0 ∙ ap (λ (l : List ((ℕ × ℕ) × List ℕ)). ((e.0, e.1), e.2.items) ∷ l) (set_here held at key f v passed.1 (omega arith) is same)

pub insert_here : (held : List Segment) (at : ℕ) (key : ℕ × ℕ) (f : Segment) (v : List ℕ) → Passed held at key → at < length held → f ≡ get_or held at f → shelf_cmp key (f.0, f.1) ≡ Less
    → put shelf_cmp key v (shelf_entries held) ≡ insert_at (shelf_entries held) at (key, v)
insert_here [] at key f v passed lt is less = absurd (omega arith)
insert_here (e ∷ held) zero key f v passed lt is less = put_less key v ((e.0, e.1), e.2.items) (shelf_entries held) (subst (λ (x : Segment). shelf_cmp key (x.0, x.1) ≡ Less) is less)
insert_here (e ∷ held) (suc at) key f v passed lt is less =
    put_greater key v ((e.0, e.1), e.2.items) (shelf_entries held) passed.0 ∙ ap (λ (l : List ((ℕ × ℕ) × List ℕ)). ((e.0, e.1), e.2.items) ∷ l) (insert_here held at key f v passed.1 (omega arith) is less)

pub insert_last : (held : List Segment) (at : ℕ) (key : ℕ × ℕ) (v : List ℕ) → Passed held at key → at ≡ length held → put shelf_cmp key v (shelf_entries held) ≡ insert_at (shelf_entries held) at (key, v)
insert_last [] zero key v passed end = refl
insert_last [] (suc at) key v passed end = absurd (omega arith)
insert_last (e ∷ held) zero key v passed end = absurd (omega arith)
insert_last (e ∷ held) (suc at) key v passed end =
    put_greater key v ((e.0, e.1), e.2.items) (shelf_entries held) passed.0 ∙ ap (λ (l : List ((ℕ × ℕ) × List ℕ)). ((e.0, e.1), e.2.items) ∷ l) (insert_last held at key v passed.1 (omega arith))

-- what an edit of the vector does to the plain list
pub shelf_entries-set : (held : List Segment) (at : ℕ) (f : Segment) → shelf_entries (set held at f) ≡ set (shelf_entries held) at ((f.0, f.1), f.2.items)
shelf_entries-set [] at f = refl
shelf_entries-set (e ∷ held) zero f = refl
shelf_entries-set (e ∷ held) (suc at) f = ap (λ (l : List ((ℕ × ℕ) × List ℕ)). ((e.0, e.1), e.2.items) ∷ l) (shelf_entries-set held at f)

pub shelf_entries-insert : (held : List Segment) (at : ℕ) (f : Segment) → shelf_entries (insert_at held at f) ≡ insert_at (shelf_entries held) at ((f.0, f.1), f.2.items)
shelf_entries-insert [] zero f = refl
shelf_entries-insert [] (suc at) f = refl
shelf_entries-insert (e ∷ held) zero f = refl
shelf_entries-insert (e ∷ held) (suc at) f = ap (λ (l : List ((ℕ × ℕ) × List ℕ)). ((e.0, e.1), e.2.items) ∷ l) (shelf_entries-insert held at f)

-- what a `put` does to the map
pub put_rising : (es fs : List ((ℕ × ℕ) × List ℕ)) (k : ℕ × ℕ) (v : List ℕ) → T (is_sorted shelf_cmp es) → fs ≡ put shelf_cmp k v es → T (is_sorted shelf_cmp fs)
put_rising es fs k v rising is =
    let m : ShelfFiles = from_sorted {R = shelf_cmp} es in
    let put_is : entries (insert m k v) ≡ put shelf_cmp k v es = entries-insert shelf_total m k v ∙ ap (put shelf_cmp k v) (entries-from_sorted shelf_cmp es rising) in
    subst (λ (l : List ((ℕ × ℕ) × List ℕ)). T (is_sorted shelf_cmp l)) (put_is ∙ sym is) (entries_sorted (insert m k v))

pub put_map : (es fs : List ((ℕ × ℕ) × List ℕ)) (k : ℕ × ℕ) (v : List ℕ) → T (is_sorted shelf_cmp es) → fs ≡ put shelf_cmp k v es → from_sorted {R = shelf_cmp} fs ≡ insert (from_sorted es) k v
put_map es fs k v rising is =
    let m : ShelfFiles = from_sorted {R = shelf_cmp} es in
    let put_is : entries (insert m k v) ≡ put shelf_cmp k v es = entries-insert shelf_total m k v ∙ ap (put shelf_cmp k v) (entries-from_sorted shelf_cmp es rising) in
    same_entries_map _ _ (entries-from_sorted shelf_cmp fs (put_rising es fs k v rising is) ∙ is ∙ sym put_is)

apart : (q k : ℕ × ℕ) (o : Ordering) → shelf_cmp q k ≡ o → q ≢ k → is_eq o ≡ false
apart q k Less is other = refl
apart q k Equal is other = absurd (other (shelf_exact q k is))
apart q k Greater is other = refl

-- and what it leaves
pub get-insert_elsewhere : (m : ShelfFiles) (k : ℕ × ℕ) (v : List ℕ) (q : ℕ × ℕ) → q ≢ k → get (insert m k v) q ≡ get m q
get-insert_elsewhere m k v q other = get-insert shelf_total m k v q ∙ ap (λ (b : Bool). cond b (Some v) (get m q)) (apart q k (shelf_cmp q k) refl other)

-- nothing is held
pub from_none : from_sorted {X = List ℕ} {R = shelf_cmp} [] ≡ empty
from_none = same_map shelf_total shelf_exact _ _ (λ q. get-from_sorted shelf_cmp [] q tt ∙ sym (get-empty shelf_cmp q))

-- the numbers of snapshots
numbers : (held : List Segment) → map (λ k. k.0) (map (λ e. e.0) (shelf_entries held)) ≡ map (λ e. e.0) held
numbers [] = refl
numbers (e ∷ held) = ap (λ (l : List ℕ). e.0 ∷ l) (numbers held)

pub greatest_held : (held : List Segment) → T (is_sorted shelf_cmp (shelf_entries held)) → greatest_snapshot (from_sorted (shelf_entries held)) ≡ greatest_of (map (λ e. e.0) held)
greatest_held held rising = ap greatest_of (ap (λ (l : List ((ℕ × ℕ) × List ℕ)). map (λ k. k.0) (map (λ e. e.0) l)) (entries-from_sorted shelf_cmp (shelf_entries held) rising) ∙ numbers held)
