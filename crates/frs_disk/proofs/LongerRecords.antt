-- How one more call adds to a record of calls: to what is read after it, and to what a crash may leave.
use Rattle.std.specs.Prelude.{◌≡◌, ℕ, Bool, true, cond, List, [], ◌∷◌, Some, None, refl, ◌≤◌, nat_le, ◌++◌, length, Option, IsSome, unwrap_or}
use Rattle.std.proofs.Common.{sym, ap, subst, inl, rules}
use Rattle.std.specs.FinMap.{insert}
use Rattle.frs_disk.specs.Disk.{Image, bytes_after_write, ChangesFile, Created, Removed}
use Rattle.frs_disk.specs.declared.calls.Made.{Made}
use Rattle.frs_disk.specs.Calls.{after_write, image_after, Takes, image_after_calls, Leaves}

pub create_same : (number : ℕ) (image : Image) → ChangesFile number Created image image
create_same number image = record { file = inl refl; others = λ q other. refl }

pub remove_same : (number : ℕ) (image : Image) → ChangesFile number Removed image image
remove_same number image = record { file = inl refl; others = λ q other. refl }

-- a write within the file is done as a whole
pub after_write_is : (number at : ℕ) (bytes : List ℕ) (image : Image) (o : Option (List ℕ)) → IsSome o → at ≤ length (unwrap_or o [])
    → after_write number at bytes image o ≡ insert image number (bytes_after_write at bytes (unwrap_or o []))
after_write_is number at bytes image None some le = cc
after_write_is number at bytes image (Some old) some le =
    let pass : nat_le at (length old) ≡ true = search (rules, le) in
    ap (λ (b : Bool). cond b (insert image number (bytes_after_write at bytes old)) image) pass

-- one more call
pub replayed-push : (image : Image) (calls : List Made) (made : Made) → image_after_calls image (calls ++ made ∷ []) ≡ image_after made (image_after_calls image calls)
replayed-push image [] made = refl
replayed-push image (m ∷ calls) made = replayed-push (image_after m image) calls made

pub leaves_push : (image old mid new : Image) (calls : List Made) (made : Made) → Leaves image old calls mid → Takes made (image_after_calls image calls) mid new → Leaves image old (calls ++ made ∷ []) new
leaves_push image old mid new [] made so_far takes = (new, subst (λ (c : Image). Takes made image c new) so_far takes, refl)
leaves_push image old mid new (m ∷ calls) made so_far takes = (so_far.0, so_far.1, leaves_push (image_after m image) so_far.0 mid new calls made so_far.2 takes)

pub leaves_pop : (image old new : Image) (calls : List Made) (made : Made) → Leaves image old (calls ++ made ∷ []) new
    → (mid : Image) × Leaves image old calls mid × Takes made (image_after_calls image calls) mid new
leaves_pop image old new [] made had = (old, refl, subst (λ (c : Image). Takes made image old c) (sym had.2) had.1)
leaves_pop image old new (m ∷ calls) made had =
    let rest = leaves_pop (image_after m image) had.0 new calls made had.2 in
    (rest.0, (had.0, had.1, rest.1), rest.2)
