-- What an answer of a call, and an update of the entries by LSN, say.
use Rattle.std.proofs.Common.{◌≡◌, ℕ, true, false, cond, Option, None, Result, Ok, Err, OnOk, OnErr, is_err, sym, ap, ◌∙◌, nat_cmp, true≢false, BTreeMap}
use Rattle.std.specs.Prelude.{◌==◌}
use Rattle.std.specs.BTreeMap.{UpdatesBy}
use Rattle.frs_types.specs.declared.record.Entry.{Entry}
use Rattle.frs_objects.specs.Index.{row_at}
use Rattle.frs_objects.proofs.Shown.{by_number, at_number}

pub when_refused : {V E P : Type 0} (r : Result V E) → is_err r ≡ true → OnErr r P → P
when_refused (Ok v) e p = absurd (true≢false (sym e))
when_refused (Err v) e p = p

pub when_done : {V E P : Type 0} (r : Result V E) → is_err r ≡ false → OnOk r P → P
when_done (Ok v) e p = p
when_done (Err v) e p = absurd (true≢false e)

pub row_updated : (m n : BTreeMap ℕ (Option Entry)) (l : ℕ) (o : Option (Option Entry)) → UpdatesBy nat_cmp (nat_cmp l) m n o → (k : ℕ) → row_at n.entries k ≡ cond (l == k) o (row_at m.entries k)
row_updated m n l o u k = u.0 k ∙ ap (λ b. cond b o (row_at m.entries k)) (at_number l k)

-- a row that was new and is taken out again
pub row_undone : (m n r : BTreeMap ℕ (Option Entry)) (l : ℕ) (o : Option (Option Entry)) → row_at m.entries l ≡ None → UpdatesBy nat_cmp (nat_cmp l) m n o → UpdatesBy nat_cmp (nat_cmp l) n r None → (k : ℕ) → row_at r.entries k ≡ row_at m.entries k
row_undone m n r l o new u v k =
    row_updated n r l None v k
    ∙ by_number l k (λ b. cond b None (row_at n.entries k) ≡ row_at m.entries k)
    (λ e. sym new ∙ ap (row_at m.entries) e)
    (λ e. row_updated m n l o u k ∙ ap (λ b. cond b o (row_at m.entries k)) e)
