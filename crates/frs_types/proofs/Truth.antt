-- What std's test `T` says of a conjunction, of `IsTrue`, and of the order of numbers.
use Rattle.std.proofs.Common.{Ordering, Less, Equal, Greater, ◌≡◌, ℕ, ◌<◌, ◌&&◌, Bool, true, false, T, IsTrue, refl}
use Rattle.std.specs.Ordering.{MatchOrdering, nat_cmp, is_lt}
use Rattle.std.specs.Cmp.{ranks}

pub and_first : (a b : Bool) → T (a && b) → T a
and_first true b is = tt
and_first false b is = is

pub and_second : (a b : Bool) → T (a && b) → T b
and_second true b is = is
and_second false b is = absurd is

pub and_both : (a b : Bool) → T a → T b → T (a && b)
and_both true b p q = q
and_both false b p q = p

pub is_true : (b : Bool) → T b → IsTrue b
is_true true is = refl
is_true false is = absurd is

pub from_is_true : (b : Bool) → IsTrue b → T b
from_is_true true is = tt
from_is_true false is = absurd cc

pub less_by_cmp : (x y : ℕ) → T (is_lt (nat_cmp x y)) → x < y
less_by_cmp x y is = at (nat_cmp x y) (ranks x y) is
  where
    at : (o : Ordering) → MatchOrdering o (x < y) (x ≡ y) (y < x) → T (is_lt o) → x < y
    at Less p is = p
    at Equal p is = absurd is
    at Greater p is = absurd is
