-- That every client's script is at its end is what a whole book means.
use Rattle.std.proofs.Common.{◌≡◌, ℕ, suc, zero, ◌+◌, Bool, true, false, not, ◌&&◌, List, [], ◌∷◌}
use Rattle.std.proofs.Common.{length, map, refl, sym, ap, ◌∙◌, arith}
use Rattle.std.specs.Prelude.{slice_get, is_none, nat_le}
use Rattle.std.proofs.lemmas.Bool.{le-leb, lt-leb, leb-true, leb-false}
use Rattle.std.proofs.lemmas.List.{length-map}
use Rattle.frs_history.specs.Machine.{Client}
use Rattle.frs_history.specs.Histories.{is_active}
use Rattle.frs_book.specs.declared.client_state.TxState.{TxState}
use Rattle.frs_book.specs.declared.client_state.TxState.TheVariants as tx
use Rattle.frs_book.specs.declared.ledger.Ledger.{Ledger}
use Rattle.frs_book.specs.Books.{IsWhole, is_finished}
use Rattle.frs_book.specs.Ledgers.{transaction_of, client_of_state, machine_state, book_of, scripts_of, client_at, script_at}
use Rattle.frs_book.specs.Ledgers.{has_begun, has_finished, AreFinished, IsLedger}
use Rattle.frs_book.proofs.LedgerGoesOn.{client_is, agrees}

none_past : {X : Type 0} (xs : List X) (n : ℕ) → is_none (slice_get xs n) ≡ nat_le (length xs) n
none_past [] zero = refl
none_past [] (suc n) = sym (le-leb 0 (suc n) (omega arith))
none_past (x ∷ xs) zero = sym (lt-leb (suc (length xs)) zero (omega arith))
none_past (x ∷ xs) (suc n) = none_past xs n ∙ more (nat_le (length xs) n) refl
  where
    more : (b : Bool) → nat_le (length xs) n ≡ b → b ≡ nat_le (suc (length xs)) (suc n)
    more true is = sym (le-leb (suc (length xs)) (suc n) (let le = leb-true (length xs) n is in omega arith))
    more false is = sym (lt-leb (suc (length xs)) (suc n) (let lt = leb-false (length xs) n is in omega arith))

active_is : (t : TxState) → is_active (transaction_of t) ≡ has_begun t
active_is tx.Outside = refl
active_is (tx.Active b sync changes) = refl
active_is tx.Abandoned = refl

module _ (a : Ledger) (kept : IsLedger a) where
  pub finished_is : (c : ℕ) → is_finished (scripts_of a) (machine_state a) c ≡ has_finished (script_at (scripts_of a) c) (client_at a c)
  finished_is c =
      ap (λ (k : Client). is_none (slice_get (script_at (scripts_of a) c) k.done) && not (is_active k.tx)) (client_is a kept c)
      ∙ (λ i. none_past (script_at (scripts_of a) c) (client_at a c).done i && not (active_is (client_at a c).tx i))

  pub count_is : length a.clients.items ≡ length (scripts_of a) + 1
  count_is =
      let count = (agrees a kept).clients in
      let mapped : length (map client_of_state a.clients.items) ≡ length a.clients.items = length-map a.clients.items client_of_state in
      omega (arith, count, mapped)

  pub whole_from : AreFinished (scripts_of a) a.clients.items → IsWhole (book_of a)
  whole_from all c is = finished_is c ∙ all c is.0 (omega (arith, is.1, count_is))

  pub finished_from : IsWhole (book_of a) → AreFinished (scripts_of a) a.clients.items
  finished_from whole c some less = sym (finished_is c) ∙ whole c (some, omega (arith, less, count_is))
