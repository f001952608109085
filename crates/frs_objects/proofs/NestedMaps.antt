-- Maps by bytes, and maps of such maps: what a change of one of them changes at each place.
use Rattle.std.proofs.Common.{◌≡◌, ℕ, Bool, true, false, ◌&&◌, cond, List, Option, Some, IsSome, refl, sym, ap, ◌∙◌, subst, nat_cmp, is_eq, true≢false, Ordering, Less, Equal, Greater, BTreeMap}
use Rattle.std.specs.BTreeMap.{get, is_at, WritesThrough, UpdatesBy}
use Rattle.std.specs.Map.{lookup}
use Rattle.std.specs.Cmp.Lexicographic.{slice_cmp, texts_ties}
use Rattle.std.specs.Str.{bytes_eq}
use Rattle.std.proofs.lemmas.Map.Lookups.{exact_bytes}
use Rattle.frs_types.specs.Maps.{Place, same_place}

-- ---- maps by bytes

abbrev pub by_bytes : {X : Type 0} → BTreeMap (List ℕ) X → List ℕ → Option X
by_bytes m k = get (slice_cmp nat_cmp) m k

-- a test by order and a test of the bytes are one
pub at_bytes : (x y : List ℕ) → is_at (slice_cmp nat_cmp x) y ≡ bytes_eq x y
at_bytes x y = sym (texts_ties x y)

-- what holds where two words are equal, and where they aren't
pub by_equal : (x y : List ℕ) (P : Bool → Type 0) → (x ≡ y → P true) → (bytes_eq x y ≡ false → P false) → P (bytes_eq x y)
by_equal x y P same apart =
    elim (bytes_eq x y) as (λ b. bytes_eq x y ≡ b → P b) [
      | true ↦ λ e. same (exact_bytes x y (equal_of _ (at_bytes x y ∙ e)))
      | false ↦ λ e. apart e
    ] refl
  where
    equal_of : (o : Ordering) → is_eq o ≡ true → o ≡ Equal
    equal_of Less e = absurd (true≢false (sym e))
    equal_of Equal e = refl
    equal_of Greater e = absurd (true≢false (sym e))

-- what an update says of each key
pub at_update : {X : Type 0} (m n : BTreeMap (List ℕ) X) (id : List ℕ) (o : Option X) → UpdatesBy (slice_cmp nat_cmp) (slice_cmp nat_cmp id) m n o → (k : List ℕ) → by_bytes n k ≡ cond (bytes_eq id k) o (by_bytes m k)
at_update m n id o u k = u.0 k ∙ ap (λ b. cond b o (by_bytes m k)) (at_bytes id k)

-- what a value written back says of each key
pub at_write : {X : Type 0} (m n : BTreeMap (List ℕ) X) (id : List ℕ) (v w : X) → by_bytes m id ≡ Some v → WritesThrough (slice_cmp nat_cmp) (slice_cmp nat_cmp id) m w n → (k : List ℕ) → by_bytes n k ≡ cond (bytes_eq id k) (Some w) (by_bytes m k)
at_write m n id v w is h = at_update m n id (Some w) (h.3 (subst IsSome (sym is) refl))

-- two updates of one key
pub twice : {X : Type 0} (m n r : BTreeMap (List ℕ) X) (id : List ℕ) (o p : Option X)
    → ((k : List ℕ) → by_bytes n k ≡ cond (bytes_eq id k) o (by_bytes m k))
    → ((k : List ℕ) → by_bytes r k ≡ cond (bytes_eq id k) p (by_bytes n k))
    → (k : List ℕ) → by_bytes r k ≡ cond (bytes_eq id k) p (by_bytes m k)
twice m n r id o p first second k = second k ∙ ap (cond (bytes_eq id k) p) (first k) ∙ covered p o (by_bytes m k) (bytes_eq id k)
  where
    covered : {X : Type 0} (p o x : Option X) (b : Bool) → cond b p (cond b o x) ≡ cond b p x
    covered p o x true = refl
    covered p o x false = refl

-- the same entries have the same at each key
pub same_at : {X : Type 0} (m n : BTreeMap (List ℕ) X) → n.entries ≡ m.entries → (k : List ℕ) → by_bytes n k ≡ by_bytes m k
same_at m n e k = ap (lookup (is_at (slice_cmp nat_cmp k))) e

-- ---- maps of maps, where a reader of one map looks a key up

-- a map that has o at the id, where it had another, and s at the key in there
pub changed : {W S : Type 0} (inside : Option W → List ℕ → S) (m n : BTreeMap (List ℕ) W) (id key : List ℕ) (o : Option W) (s : S)
    → ((k : List ℕ) → by_bytes n k ≡ cond (bytes_eq id k) o (by_bytes m k))
    → ((k : List ℕ) → inside o k ≡ cond (bytes_eq key k) s (inside (by_bytes m id) k))
    → (q : Place) → inside (by_bytes n q.0) q.1 ≡ cond (same_place (id, key) q) s (inside (by_bytes m q.0) q.1)
changed inside m n id key o s outer inner q =
    ap (λ v. inside v q.1) (outer q.0)
    ∙ by_equal id q.0 (λ b. inside (cond b o (by_bytes m q.0)) q.1 ≡ cond (b && bytes_eq key q.1) s (inside (by_bytes m q.0) q.1))
    (λ e. inner q.1 ∙ ap (λ v. cond (bytes_eq key q.1) s (inside (by_bytes m v) q.1)) e)
    (λ _. refl)

-- and where it is as it was in there
pub unchanged : {W S : Type 0} (inside : Option W → List ℕ → S) (m n : BTreeMap (List ℕ) W) (id : List ℕ) (o : Option W)
    → ((k : List ℕ) → by_bytes n k ≡ cond (bytes_eq id k) o (by_bytes m k))
    → ((k : List ℕ) → inside o k ≡ inside (by_bytes m id) k)
    → (q : Place) → inside (by_bytes n q.0) q.1 ≡ inside (by_bytes m q.0) q.1
unchanged inside m n id o outer inner q =
    ap (λ v. inside v q.1) (outer q.0)
    ∙ by_equal id q.0 (λ b. inside (cond b o (by_bytes m q.0)) q.1 ≡ inside (by_bytes m q.0) q.1)
    (λ e. inner q.1 ∙ ap (λ v. inside (by_bytes m v) q.1) e)
    (λ _. refl)

-- and where f was done at each key in there
pub cleared : {W S : Type 0} (inside : Option W → List ℕ → S) (f : S → S) (m n : BTreeMap (List ℕ) W) (id : List ℕ) (o : Option W)
    → ((k : List ℕ) → by_bytes n k ≡ cond (bytes_eq id k) o (by_bytes m k))
    → ((k : List ℕ) → inside o k ≡ f (inside (by_bytes m id) k))
    → (q : Place) → inside (by_bytes n q.0) q.1 ≡ cond (bytes_eq id q.0) (f (inside (by_bytes m q.0) q.1)) (inside (by_bytes m q.0) q.1)
cleared inside f m n id o outer inner q =
    ap (λ v. inside v q.1) (outer q.0)
    ∙ by_equal id q.0 (λ b. inside (cond b o (by_bytes m q.0)) q.1 ≡ cond b (f (inside (by_bytes m q.0) q.1)) (inside (by_bytes m q.0) q.1))
    (λ e. inner q.1 ∙ ap (λ v. f (inside (by_bytes m v) q.1)) e)
    (λ _. refl)
