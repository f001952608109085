-- A file that is found is one of those that are short.
use Rattle.std.proofs.Common.{◌≡◌, ℕ, ◌<◌, ◌^◌, Bool, true, false, cond, ◌&&◌, List, [], ◌∷◌, length, Vec, Some, subst, rules}
use Rattle.std.specs.Prelude.{nat_lt, IsTrue}
use Rattle.std.specs.List.{find}
use Rattle.std.specs.Option.{option_map}
use Rattle.std.specs.Str.{bytes_eq}
use Rattle.std.specs.declared.alloc.Global.{Global}
use Rattle.frs_disk.specs.Outside.{are_short}
use Rattle.frs_disk.specs.MemOutside.{file_named}

below : (n : ℕ) (b : Bool) → nat_lt n (2 ^ 32) && b ≡ true → n < 2 ^ 32
below n b is = search (rules, is)

later : (a b : Bool) → a && b ≡ true → b ≡ true
later true b is = is
later false b is = cc

pub named_short : (files : List (List ℕ × Vec ℕ Global)) (name bytes : List ℕ) → IsTrue (are_short files) → file_named files name ≡ Some bytes → length bytes < 2 ^ 32
named_short [] name bytes short is = cc
named_short (f ∷ files) name bytes short is = tested (bytes_eq f.0 name) (λ there. named_short files name bytes (later (nat_lt (length f.1.items) (2 ^ 32)) (are_short files) short) there) is
  where
    tested : (b : Bool) → (file_named files name ≡ Some bytes → length bytes < 2 ^ 32) → option_map (λ (g : List ℕ × Vec ℕ Global). g.1.items) (cond b (Some f) (find (λ g. bytes_eq g.0 name) files)) ≡ Some bytes → length bytes < 2 ^ 32
    tested true rest here = let same : f.1.items ≡ bytes = cc in subst (λ (l : List ℕ). length l < 2 ^ 32) same (below (length f.1.items) (are_short files) short)
    tested false rest there = rest there
