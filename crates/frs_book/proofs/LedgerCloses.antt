-- What always holds of a ledger holds once its closing mark is drawn, and once an acknowledgement is made.
use Rattle.std.proofs.Common.{◌≡◌, ⊎_elim, ℕ, suc, zero, ◌<◌, Bool, true, false, not, ◌||◌}
use Rattle.std.proofs.Common.{List, [], ◌∷◌, ◌++◌, Option, Some, None, length, map, refl, sym, ap, ◌∙◌, subst, arith}
use Rattle.std.proofs.Common.{option_to_list, true≢false}
use Rattle.std.specs.Prelude.{slice_index_or, vec_capacity}
use Rattle.std.specs.List.{list_any}
use Rattle.std.proofs.lemmas.Bool.{and_parts, cases_lt, not-true}
use Rattle.std.proofs.lemmas.Option.{same_Some}
use Rattle.std.proofs.lemmas.List.{set-get_or, get_or_past, length-map}
use Rattle.std.proofs.lemmas.List.Sums.{fold_push}
use Rattle.frs_types.specs.declared.record.Action.TheVariants.{Mark}
use Rattle.frs_types.specs.Lawful.{Open}
use Rattle.frs_frame.specs.Spelling.{spelling}
use Rattle.frs_history.specs.declared.event.Ack.{Ack}
use Rattle.frs_history.specs.Machine.{Client, client}
use Rattle.frs_history.specs.Histories.{is_active}
use Rattle.frs_book.specs.declared.client_state.ClientState.{ClientState}
use Rattle.frs_book.specs.declared.client_state.TxState.{TxState}
use Rattle.frs_book.specs.declared.client_state.TxState.TheVariants as tx
use Rattle.frs_book.specs.declared.ledger.Ledger.{Ledger}
use Rattle.frs_book.specs.Drawn.{Drawing, DrawStep, record_for, after_draw, draw_step, drawing_of, draw_steps, acks_owed}
use Rattle.frs_book.specs.Agreement.{is_quiet}
use Rattle.frs_book.specs.Books.{IsWhole, IsDue, asked_of, last_asked, closed_session, with_ack}
use Rattle.frs_book.specs.Ledgers.{new_client, transaction_of, client_of_state, session_of, machine_state, book_of, scripts_of}
use Rattle.frs_book.specs.Ledgers.{client_at, drawing_in, HasChanges, IsLedger}
use Rattle.frs_book.proofs.OneMoreEvent.{with_mark, draws_mark, drawing_with_mark, acks_with_mark}
use Rattle.frs_book.proofs.BookGoesOn.{book_closes, book_acknowledges}
use Rattle.frs_book.proofs.AcksCounted.{shorter}
use Rattle.frs_book.proofs.LedgerGoesOn.{client_is, agrees}

-- ---- the closing mark

none_of_all : {X : Type 0} (test : X → Bool) (d : X) (xs : List X) → ((i : ℕ) → test (slice_index_or xs i d) ≡ false)
    → list_any test xs ≡ false
none_of_all test d [] all = refl
none_of_all test d (x ∷ xs) all =
    ap (λ b. b || list_any test xs) (all 0) ∙ none_of_all test d xs (λ i. all (suc i))

module _ (a : Ledger) (kept : IsLedger a) (whole : IsWhole (book_of a)) where
  idle : (c : ℕ) → is_active (client (machine_state a) c).tx ≡ false
  idle zero = ap (λ (k : Client). is_active k.tx) (client_is a kept 0)
      ∙ ap (λ (k : ClientState). is_active (transaction_of k.tx)) kept.compactor
  idle (suc c) = ⊎_elim
      (λ (lt : suc c < length a.clients.items).
      let count : length (machine_state a).clients ≡ suc (length (scripts_of a)) = (agrees a kept).clients in
      let clients : length (map client_of_state a.clients.items) ≡ length a.clients.items = length-map a.clients.items client_of_state in
      not-true _ (and_parts _ _ (whole (suc c) (omega arith, omega (arith, lt, count, clients)))).1)
      (λ le. ap (λ (k : Client). is_active k.tx) (client_is a kept (suc c))
      ∙ ap (λ (k : ClientState). is_active (transaction_of k.tx)) (get_or_past a.clients.items (suc c) new_client le))
      (cases_lt (suc c) (length a.clients.items))

  pub all_quiet : is_quiet (Some (machine_state a)) ≡ true
  all_quiet = ap not (none_of_all (λ (k : Client). is_active k.tx) (client_of_state new_client) (machine_state a).clients idle)

  quiet_changes : (active : List Open) (t : TxState) → is_active (transaction_of t) ≡ false → HasChanges active t
  quiet_changes active tx.Outside quiet = tt
  quiet_changes active tx.Abandoned quiet = tt
  quiet_changes active (tx.Active b sync changes) quiet = absurd (true≢false quiet)

  -- The mark was drawn, and stands behind all events.
  module _ (unclosed : a.closing.value ≡ None) (new : Ledger)
      (same : new ≡ record a { closing = new.closing; drawer = new.drawer })
      (closing : new.closing.value ≡ Some (length a.history.events))
      (first : new.drawer.first ≡ a.drawer.first)
      (drawn : new.drawer.drawn ≡ a.drawer.drawn ++ spelling (record_for (drawing_in a) 0 Mark) ∷ []) where
    abbrev marked : Ledger
    marked = record a { closing = new.closing; drawer = new.drawer }

    session_closes : session_of marked ≡ with_mark (session_of a)
    session_closes i = record (session_of a) { closing = closing i }

    drawing_closes : drawing_in marked ≡ after_draw (drawing_in a) 0 (Some Mark)
    drawing_closes = ap drawing_of session_closes ∙ drawing_with_mark (session_of a) unclosed

    steps_close : draw_steps (session_of marked) ≡ draw_steps (session_of a) ++ draw_step (drawing_in a) None ∷ []
    steps_close = ap draw_steps session_closes ∙ draws_mark (session_of a) unclosed

    marked_ledger : IsLedger marked
    marked_ledger = record {
      book = book_closes (book_of a) kept.book (book_of marked) unclosed all_quiet session_closes refl refl refl first drawn;
      entries = kept.entries ∙ ap (λ (d : Drawing). d.log.entries) (sym drawing_closes);
      begins = kept.begins ∙ sym (set-get_or (drawing_in a).begins 0 0) ∙ ap (λ (d : Drawing). d.begins) (sym drawing_closes);
      changes = λ c. quiet_changes (drawing_in marked).log.active (client_at a c).tx
          (ap (λ (k : Client). is_active k.tx) (sym (client_is a kept c)) ∙ idle c);
      compactor = kept.compactor;
      bracketed = kept.bracketed;
      counted = kept.counted;
      due = λ c.
          ap (last_asked c) steps_close
          ∙ fold_push (λ found (t : DrawStep). asked_of c found t.moment t.lsn) [] (draw_steps (session_of a)) (draw_step (drawing_in a) None)
          ∙ kept.due c;
      room =
          let owed : length (acks_owed (session_of marked)) ≡ length (acks_owed (session_of a)) =
          ap length (ap acks_owed session_closes ∙ acks_with_mark (session_of a) unclosed) in
          omega (arith, owed, kept.room);
      last = kept.last;
      last_limit = kept.last_limit;
      abandon = kept.abandon;
    }

    pub still_marked : IsLedger new
    still_marked = subst IsLedger (sym same) marked_ledger

    pub session_marked : session_of new ≡ closed_session (session_of a)
    session_marked = ap session_of same ∙ session_closes

-- ---- an acknowledgement

module _ (a : Ledger) (kept : IsLedger a) (c : ℕ) (x : Ack) (due : IsDue (book_of a) c x) where
  one_is : (o : Option Ack) → option_to_list o ≡ x ∷ [] → o ≡ Some x
  one_is None is = absurd cc
  one_is (Some y) is = cc

  pub due_is_kept : (client_at a c).due ≡ Some x
  due_is_kept = one_is (client_at a c).due (sym (kept.due c) ∙ due.last)

  pub client_is_due : c < length a.clients.items
  client_is_due = ⊎_elim
      (λ lt. lt)
      (λ le.
      let none : None ≡ Some x = sym (ap (λ (k : ClientState). k.due) (get_or_past a.clients.items c new_client le)) ∙ due_is_kept in
      absurd cc)
      (cases_lt c (length a.clients.items))

  -- the acknowledgement that the client keeps is that one
  pub due_is_read : (k : ClientState) (y : Ack) → k ≡ client_at a c → k.due ≡ Some y → y ≡ x
  due_is_read k y is asks = same_Some y x (sym asks ∙ ap (λ (j : ClientState). j.due) is ∙ due_is_kept)

  pub room_for_it : length a.acks.items < vec_capacity a.acks
  room_for_it =
      let fewer = shorter a.acks.items (acks_owed (session_of a)) x kept.book.acks due.left in
      omega (arith, fewer, kept.room)

  pub still_acknowledged : (new : Ledger) → new ≡ record a { acks = new.acks } → new.acks.items ≡ a.acks.items ++ x ∷ []
      → vec_capacity new.acks ≡ vec_capacity a.acks → (IsLedger new) × (book_of new ≡ with_ack (book_of a) x)
  still_acknowledged new same items capacity = (
    subst IsLedger (sym same) (record {
      book = book_acknowledges (book_of a) kept.book x (book_of (record a { acks = new.acks })) due.left
          (λ i. record (book_of a) { acks = items i });
      entries = kept.entries;
      begins = kept.begins;
      changes = kept.changes;
      compactor = kept.compactor;
      bracketed = kept.bracketed;
      counted = kept.counted;
      due = kept.due;
      room = omega (arith, capacity, kept.room);
      last = kept.last;
      last_limit = kept.last_limit;
      abandon = kept.abandon;
    }),
    ap book_of same ∙ λ i. record (book_of a) { acks = items i },
  )
