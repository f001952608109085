-- What always holds of a ledger holds once its history has gone on by one event, and where nothing but room has changed.
use Rattle.std.proofs.Common.{◌≡◌, ◌≢◌, ◌⊎◌, inl, inr, ⊎_elim, ℕ, suc, zero, ◌+◌, ◌-◌, ◌^◌, ◌<◌, ◌≤◌, Bool, true, false, cond}
use Rattle.std.proofs.Common.{not, ◌&&◌, ◌==◌, List, [], ◌∷◌, ◌++◌, Option, Some, None, length, map, refl, sym, ap, ◌∙◌}
use Rattle.std.proofs.Common.{subst, arith, ne_eqb, option_map, option_to_list, true≢false}
use Rattle.std.specs.Prelude.{slice_set, slice_index_or, vec_capacity}
use Rattle.std.proofs.lemmas.Bool.{cases_eq}
use Rattle.std.proofs.lemmas.List.{get_or-set_same, get_or-set_other, set-get_or, map-set, length-append}
use Rattle.std.proofs.lemmas.List.Sums.{fold_push}
use Rattle.frs_types.specs.declared.limits.TheConstants.{NUMBER_LIMIT}
use Rattle.frs_types.specs.declared.record.Action.{Action}
use Rattle.frs_types.specs.declared.record.Action.TheVariants as action
use Rattle.frs_types.specs.Locks.{holder_at}
use Rattle.frs_types.specs.Lawful.{StoredValue, LogState, changes_of, with_change, after_change}
use Rattle.frs_types.specs.Maps.{Change, at, table_after}
use Rattle.frs_types.specs.Maps.Change.{Set, Take, Clear}
use Rattle.frs_types.proofs.ActiveChanges.{changes_of_other, changes_of_begun, changes_of_ended}
use Rattle.frs_frame.specs.Spelling.{spelling, without_numbers}
use Rattle.frs_slots.specs.Views.{DrawerView, HasLooked, next_drawn}
use Rattle.frs_history.specs.declared.command.Command.{Command}
use Rattle.frs_history.specs.declared.command.Command.TheVariants as command
use Rattle.frs_history.specs.declared.event.Event.{Event}
use Rattle.frs_history.specs.declared.event.Reply.TheVariants as reply
use Rattle.frs_history.specs.declared.event.What.{What}
use Rattle.frs_history.specs.declared.event.What.TheVariants as what
use Rattle.frs_history.specs.HistoryView.{HistoryView}
use Rattle.frs_history.specs.Machine.{Client, client}
use Rattle.frs_history.specs.Scripts.{is_bracketed}
use Rattle.frs_history.specs.Histories.{Moment, next}
use Rattle.frs_book.specs.declared.client_state.ClientState.{ClientState}
use Rattle.frs_book.specs.declared.client_state.TxState.{TxState}
use Rattle.frs_book.specs.declared.client_state.TxState.TheVariants as tx
use Rattle.frs_book.specs.declared.ledger.Ledger.{Ledger}
use Rattle.frs_book.specs.Drawn.{Drawing, DrawStep, begin_of, action_by, action_of, action_at, record_for, after_draw}
use Rattle.frs_book.specs.Drawn.{begin_after, draw_step, drawing_of, draw_steps, acks_owed, ack_at}
use Rattle.frs_book.specs.Agreement.{Agreement, IsDrawnBy, has_words_if}
use Rattle.frs_book.specs.Books.{SameBook, GoesOnWith, moment_of, event_lsn, is_wait, asked_of, last_asked}
use Rattle.frs_book.specs.Ledgers.{new_client, client_in, begin_lsn, transaction_of, client_of_state, session_of, machine_state}
use Rattle.frs_book.specs.Ledgers.{book_of, scripts_of, client_at, drawing_in, HasChanges}
use Rattle.frs_book.specs.Ledgers.{script_at, lines_left, IsLedger}
use Rattle.frs_book.proofs.OneMoreEvent.{with_event, draws_one_more, drawing_with_event, acks_with_event}
use Rattle.frs_book.proofs.BookGoesOn.{book_agrees, book_goes_on}

-- ---- lists

pub map_at : {X : Type 0} → {Y : Type 0} (f : X → Y) (xs : List X) (i : ℕ) (d : X)
    → slice_index_or (map f xs) i (f d) ≡ f (slice_index_or xs i d)
map_at f [] i d = refl
map_at f (x ∷ xs) zero d = refl
map_at f (x ∷ xs) (suc i) d = map_at f xs i d

-- ---- what the log keeps of the other clients

-- an event never draws a mark
abbrev pub is_mark : Option Action → Bool
is_mark (Some action.Mark) = true
is_mark other = false

no_mark_of : (x : Command) → is_mark (action_of x) ≡ false
no_mark_of (command.Begin sync) = refl
no_mark_of (command.Put id key value) = refl
no_mark_of (command.Remove id key) = refl
no_mark_of (command.Delete id) = refl
no_mark_of (command.Get id key) = refl
no_mark_of command.Commit = refl
no_mark_of command.Snapshot = refl

no_mark_again : (id key : List ℕ) (o : Option (List ℕ)) → is_mark (option_map (λ value. action.Compaction id key value) o) ≡ false
no_mark_again id key None = refl
no_mark_again id key (Some v) = refl

pub no_mark : (m : Moment) → is_mark (action_at m) ≡ false
no_mark m = by_parts m.command m.event.what
  where
    by_parts : (x : Option Command) (w : What) → is_mark (action_by m.before.maps x w) ≡ false
    by_parts (Some x) (what.Answered reply.Done) = no_mark_of x
    by_parts (Some x) (what.Answered reply.Deadlock) = refl
    by_parts x what.End = refl
    by_parts x (what.Reappend id key) = no_mark_again id key (at m.before.maps (id, key))
    by_parts x w = refl

changes_beside : (s : LogState) (b c : ℕ) (y : Change StoredValue) → c ≢ b
    → changes_of (after_change s b y).active c ≡ changes_of s.active c
changes_beside s b c y other = elim (b == 0) as (λ t. changes_of (cond {A = LogState} t
    (record { entries = table_after s.entries y; active = s.active; next = s.next + 1 })
    (record { entries = s.entries; active = with_change s.active b y; next = s.next + 1 })).active c ≡ changes_of s.active c) [
      | true ↦ refl
      | false ↦ changes_of_other s.active b c y (ne_eqb c b other)
    ]

-- the changes of a transaction other than that of the client which draws the action
pub changes_still : (d : Drawing) (c b : ℕ) (a : Option Action) → is_mark a ≡ false → b ≢ begin_of d c
    → changes_of (after_draw d c a).log.active b ≡ changes_of d.log.active b
changes_still d c b None none other = refl
changes_still d c b (Some (action.Put id key value)) none other =
    changes_beside d.log (begin_of d c) b (Set id key (record { value = value; lsn = d.log.next })) other
changes_still d c b (Some (action.Remove id key)) none other = changes_beside d.log (begin_of d c) b (Take id key) other
changes_still d c b (Some (action.Delete id)) none other = changes_beside d.log (begin_of d c) b (Clear id) other
changes_still d c b (Some action.Begin) none other = changes_of_begun d.log.active d.log.next b
changes_still d c b (Some action.Commit) none other = changes_of_ended d.log.active (begin_of d c) b (ne_eqb b (begin_of d c) other)
changes_still d c b (Some (action.Compaction id key value)) none other = refl
changes_still d c b (Some action.Mark) none other = absurd (true≢false none)
changes_still d c b (Some action.Abandon) none other = changes_of_ended d.log.active (begin_of d c) b (ne_eqb b (begin_of d c) other)

-- a draw changes the begin of its client alone
pub begins_after : (d : Drawing) (c : ℕ) (a : Option Action) → c < length d.begins
    → (after_draw d c a).begins ≡ slice_set d.begins c (begin_of (after_draw d c a) c)
begins_after d c None lt = sym (set-get_or d.begins c 0)
begins_after d c (Some a) lt =
    ap (slice_set d.begins c) (sym (get_or-set_same d.begins c (begin_after d.log.next (begin_of d c) a) 0 lt))

-- ---- one event more

-- The ledger has gone on by the event: what has changed, and what the records say of it.
pub record HasGoneOn (old : Ledger) (e : Event) (new : Ledger) : Type 0 where
  pub some : 1 ≤ e.client
  pub within : e.client < length old.clients.items
  pub opening : new.opening ≡ old.opening
  pub closing : new.closing ≡ old.closing
  pub acks : new.acks ≡ old.acks
  pub events : new.history.events ≡ old.history.events ++ e ∷ []
  pub next : next (scripts_of old) (machine_state old) e ≡ Some (machine_state new)
  pub words : has_words_if (action_at (moment_of (book_of old) e)) ≡ true
  pub state : ClientState
  pub clients : new.clients.items ≡ slice_set old.clients.items e.client state
  pub entries : new.objects ≡ (after_draw (drawing_in old) e.client (action_at (moment_of (book_of old) e))).log.entries
  pub begin : begin_lsn state.tx ≡ begin_of (after_draw (drawing_in old) e.client (action_at (moment_of (book_of old) e))) e.client
  pub changes : HasChanges (after_draw (drawing_in old) e.client (action_at (moment_of (book_of old) e))).log.active state.tx
  pub due : asked_of e.client (option_to_list (client_at old e.client).due) (Some (moment_of (book_of old) e)) (event_lsn (book_of old) e)
      ≡ option_to_list state.due
  pub left : length (ack_at (event_lsn (book_of old) e) (Some (moment_of (book_of old) e)))
      + lines_left ([] ∷ scripts_of old) new.clients.items ≤ lines_left ([] ∷ scripts_of old) old.clients.items
  pub last : new.last ≤ old.last + 1
  pub first : new.drawer.first ≡ old.drawer.first
  pub drawn : new.drawer.drawn ≡ old.drawer.drawn
      ++ map spelling (option_to_list (option_map (record_for (drawing_in old) e.client) (action_at (moment_of (book_of old) e))))
  pub abandon : new.abandon ≡ spelling (without_numbers action.Abandon)

module _ (old : Ledger) (kept : IsLedger old) where
  -- the machine's client is the ledger's
  pub client_is : (c : ℕ) → client (machine_state old) c ≡ client_of_state (client_at old c)
  client_is c = map_at client_of_state old.clients.items c new_client

  pub begin_is : (c : ℕ) → begin_of (drawing_in old) c ≡ begin_lsn (client_at old c).tx
  begin_is c = ap (λ bs. slice_index_or bs c 0) (sym kept.begins)
      ∙ map_at (λ (k : ClientState). begin_lsn k.tx) old.clients.items c new_client

  pub agrees : Agreement (scripts_of old) (machine_state old) (drawing_in old)
  agrees = book_agrees (book_of old) kept.book

  pub drawn_is : (c : ℕ) → IsDrawnBy (drawing_in old).log (begin_lsn (client_at old c).tx) (transaction_of (client_at old c).tx) (holder_at old.locks c)
  drawn_is c = subst (λ n. IsDrawnBy (drawing_in old).log n (transaction_of (client_at old c).tx) (holder_at old.locks c)) (begin_is c)
      (subst (λ (k : Client). IsDrawnBy (drawing_in old).log (begin_of (drawing_in old) c) k.tx (holder_at old.locks c)) (client_is c) (agrees.drawn c))

  -- ---- an event

  module _ (e : Event) (new : Ledger) (on : HasGoneOn old e new) where
    abbrev its : Moment
    its = moment_of (book_of old) e

    abbrev after : Drawing
    after = after_draw (drawing_in old) e.client (action_at its)

    pub session_is : session_of new ≡ with_event (session_of old) e
    session_is i = record {
      scripts = (on.opening i).scripts.value;
      entries = (on.opening i).entries.value;
      last = (on.opening i).last.value;
      opening = next_drawn (on.opening i).drawer.value - 1;
      events = on.events i;
      closing = (on.closing i).value;
    }

    drawing_is : drawing_in new ≡ after
    drawing_is = ap drawing_of session_is
        ∙ drawing_with_event (session_of old) e (machine_state old) kept.book.state kept.book.closing

    steps_are : draw_steps (session_of new) ≡ draw_steps (session_of old) ++ draw_step (drawing_in old) (Some its) ∷ []
    steps_are = ap draw_steps session_is
        ∙ draws_one_more (session_of old) e (machine_state old) kept.book.state kept.book.closing

    acks_are : acks_owed (session_of new) ≡ acks_owed (session_of old) ++ ack_at (event_lsn (book_of old) e) (Some its)
    acks_are = ap acks_owed session_is
        ∙ acks_with_event (session_of old) e (machine_state old) kept.book.state kept.book.closing

    pub goes_on_with : GoesOnWith (book_of old) e (book_of new)
    goes_on_with = record {
      session = session_is;
      state = on.next;
      acks = ap (λ v. v.items) on.acks;
      before = ap (λ o. o.drawer.value.drawn) on.opening;
    }

    -- ---- the clients

    own_state : client_at new e.client ≡ on.state
    own_state = ap (λ ks. client_in ks e.client) on.clients
        ∙ get_or-set_same old.clients.items e.client on.state new_client on.within

    other_state : (c : ℕ) → c ≢ e.client → client_at new c ≡ client_at old c
    other_state c other = ap (λ ks. client_in ks c) on.clients
        ∙ get_or-set_other old.clients.items e.client c on.state new_client other

    scripts_are : scripts_of new ≡ scripts_of old
    scripts_are = ap (λ o. o.scripts.value) on.opening

    count_of_begins : e.client < length (drawing_in old).begins
    count_of_begins = omega (arith, on.within, ap length kept.begins, count_mapped old.clients.items)
      where
        count_mapped : (ks : List ClientState) → length (map (λ (k : ClientState). begin_lsn k.tx) ks) ≡ length ks
        count_mapped [] = refl
        count_mapped (k ∷ ks) = ap suc (count_mapped ks)

    begins_are : map (λ (k : ClientState). begin_lsn k.tx) new.clients.items ≡ after.begins
    begins_are =
        ap (map (λ (k : ClientState). begin_lsn k.tx)) on.clients
        ∙ map-set (λ (k : ClientState). begin_lsn k.tx) old.clients.items e.client on.state
        ∙ ap (λ bs. slice_set bs e.client (begin_lsn on.state.tx)) kept.begins
        ∙ ap (slice_set (drawing_in old).begins e.client) on.begin
        ∙ sym (begins_after (drawing_in old) e.client (action_at its) count_of_begins)

    -- ---- the changes of active transactions

    others_changes : (c : ℕ) (t : TxState) → c ≢ e.client → begin_of (drawing_in old) c ≡ begin_lsn t
        → IsDrawnBy (drawing_in old).log (begin_lsn t) (transaction_of t) (holder_at old.locks c)
        → HasChanges (drawing_in old).log.active t → HasChanges after.log.active t
    others_changes c tx.Outside other begin drawn has = tt
    others_changes c tx.Abandoned other begin drawn has = tt
    others_changes c (tx.Active b sync changes) other begin drawn has =
        changes_still (drawing_in old) e.client b (action_at its) (no_mark its)
        (λ same. other (agrees.apart c e.client (omega (arith, begin, drawn.0)) (begin ∙ same)))
        ∙ has

    changes_are : (c : ℕ) → HasChanges after.log.active (client_at new c).tx
    changes_are c = ⊎_elim
        (λ (own : c ≡ e.client). subst (λ n. HasChanges after.log.active (client_at new n).tx) (sym own)
        (subst (λ (k : ClientState). HasChanges after.log.active k.tx) (sym own_state) on.changes))
        (λ other. subst (λ (k : ClientState). HasChanges after.log.active k.tx) (sym (other_state c other))
        (others_changes c (client_at old c).tx other (begin_is c) (drawn_is c) (kept.changes c)))
        (cases_eq c e.client)

    -- ---- what is due

    asked_is : (c : ℕ) → last_asked c (draw_steps (session_of new))
        ≡ asked_of c (last_asked c (draw_steps (session_of old))) (Some its) (event_lsn (book_of old) e)
    asked_is c = ap (last_asked c) steps_are
        ∙ fold_push (λ found (t : DrawStep). asked_of c found t.moment t.lsn) [] (draw_steps (session_of old)) (draw_step (drawing_in old) (Some its))

    due_is : (c : ℕ) → last_asked c (draw_steps (session_of new)) ≡ option_to_list (client_at new c).due
    due_is c = ⊎_elim
        (λ (own : c ≡ e.client). subst (λ n. last_asked n (draw_steps (session_of new)) ≡ option_to_list (client_at new n).due) (sym own)
        (asked_is e.client
        ∙ ap (λ found. asked_of e.client found (Some its) (event_lsn (book_of old) e)) (kept.due e.client)
        ∙ on.due ∙ ap (λ (k : ClientState). option_to_list k.due) (sym own_state)))
        (λ other.
        asked_is c
        ∙ ap (λ t. cond (t && not (is_wait e.what)) (ack_at (event_lsn (book_of old) e) (Some its)) (last_asked c (draw_steps (session_of old))))
        (ne_eqb e.client c (λ same. other (sym same)))
        ∙ kept.due c ∙ ap (λ (k : ClientState). option_to_list k.due) (sym (other_state c other)))
        (cases_eq c e.client)

    -- ---- all of it

    pub still_ledger : IsLedger new
    still_ledger =
        let capacity : vec_capacity new.acks ≡ vec_capacity old.acks = ap (λ v. vec_capacity v) on.acks in
        record {
          book = book_goes_on (book_of old) kept.book e (machine_state new) (book_of new) on.next on.words session_is refl
              (ap (λ v. v.items) on.acks) (ap (λ o. o.drawer.value.drawn) on.opening) on.first on.drawn;
          entries = on.entries ∙ ap (λ (d : Drawing). d.log.entries) (sym drawing_is);
          begins = begins_are ∙ ap (λ (d : Drawing). d.begins) (sym drawing_is);
          changes = λ c. subst (λ (d : Drawing). HasChanges d.log.active (client_at new c).tx) (sym drawing_is) (changes_are c);
          compactor = other_state 0 (λ same. omega (arith, same, on.some)) ∙ kept.compactor;
          bracketed = λ c. subst (λ ss. is_bracketed false (script_at ss c) ≡ true) (sym scripts_are) (kept.bracketed c);
          counted = λ c. subst (λ ss. length (script_at ss c) < 2 ^ 64) (sym scripts_are) (kept.counted c);
          due = due_is;
          room = subst (λ ss. length (acks_owed (session_of new)) + lines_left ([] ∷ ss) new.clients.items ≤ vec_capacity new.acks) (sym scripts_are)
              (let count : length (acks_owed (session_of new)) ≡ length (acks_owed (session_of old)) + length (ack_at (event_lsn (book_of old) e) (Some its)) =
              ap length acks_are ∙ length-append (acks_owed (session_of old)) (ack_at (event_lsn (book_of old) e) (Some its)) in
              omega (arith, count, capacity, kept.room, on.left));
          last =
              let events : length new.history.events ≡ length old.history.events + 1 = ap length on.events ∙ length-append old.history.events (e ∷ []) in
              let from : new.opening.last.value ≡ old.opening.last.value = ap (λ o. o.last.value) on.opening in
              omega (arith, events, from, kept.last, on.last);
          last_limit =
              let from : new.opening.last.value ≡ old.opening.last.value = ap (λ o. o.last.value) on.opening in
              subst (λ n. n < NUMBER_LIMIT) (sym from) kept.last_limit;
          abandon = on.abandon;
        }

-- ---- nothing but room

-- Nothing has changed but the room for events and what the drawing end knows as taken.
pub record HasRested (old new : Ledger) : Type 0 where
  pub same : new ≡ record old { history = new.history; drawer = new.drawer }
  pub events : new.history.events ≡ old.history.events
  pub drawer : (new.drawer ≡ old.drawer) ⊎ HasLooked old.drawer new.drawer

module _ (old : Ledger) (kept : IsLedger old) where
  with_room : (room : ℕ) → IsLedger (record old { history = record { events = old.history.events; room = room } })
  with_room room = record {
    book = kept.book;
    entries = kept.entries;
    begins = kept.begins;
    changes = kept.changes;
    compactor = kept.compactor;
    bracketed = kept.bracketed;
    counted = kept.counted;
    due = kept.due;
    room = kept.room;
    last = kept.last;
    last_limit = kept.last_limit;
    abandon = kept.abandon;
  }

  with_history : (h : HistoryView) → h.events ≡ old.history.events → IsLedger (record old { history = h })
  with_history h same = subst (λ es. IsLedger (record old { history = record { events = es; room = h.room } })) (sym same) (with_room h.room)

module _ (old : Ledger) (kept : IsLedger old) where
  pub with_drawer : (d : DrawerView) → d.first ≡ old.drawer.first → d.drawn ≡ old.drawer.drawn → IsLedger (record old { drawer = d })
  with_drawer d first drawn = record {
    book = record {
      session = kept.book.session;
      state = kept.book.state;
      closing = kept.book.closing;
      opening = ap (λ n. n + length old.opening.drawer.value.drawn) first ∙ kept.book.opening;
      drawn = drawn ∙ kept.book.drawn;
      acks = kept.book.acks;
    };
    entries = kept.entries;
    begins = kept.begins;
    changes = kept.changes;
    compactor = kept.compactor;
    bracketed = kept.bracketed;
    counted = kept.counted;
    due = kept.due;
    room = kept.room;
    last = kept.last;
    last_limit = kept.last_limit;
    abandon = kept.abandon;
  }

pub looked_first : (a b : DrawerView) → (b ≡ a) ⊎ HasLooked a b → (b.first ≡ a.first) × (b.drawn ≡ a.drawn)
looked_first a b (inl same) = (ap (λ (d : DrawerView). d.first) same, ap (λ (d : DrawerView). d.drawn) same)
looked_first a b (inr looked) = (ap (λ (d : DrawerView). d.first) looked.same, ap (λ (d : DrawerView). d.drawn) looked.same)

module _ (old new : Ledger) (kept : IsLedger old) (rests : HasRested old new) where
  pub rested_ledger : IsLedger new
  rested_ledger =
      let same = looked_first old.drawer new.drawer rests.drawer in
      subst IsLedger (sym rests.same)
      (with_drawer (record old { history = new.history }) (with_history old kept new.history rests.events) new.drawer same.0 same.1)

  rested_session : session_of new ≡ session_of old
  rested_session = ap session_of rests.same ∙ λ i. record (session_of old) { events = rests.events i }

  pub rested_book : SameBook (book_of old) (book_of new)
  rested_book = record {
    session = rested_session;
    state = ap machine_state rests.same;
    acks = ap (λ (a : Ledger). a.acks.items) rests.same;
    before = ap (λ (a : Ledger). a.opening.drawer.value.drawn) rests.same;
    drawer = rests.drawer;
  }

  -- the same book, where the drawing end hasn't looked
  pub same_book : new.drawer ≡ old.drawer → book_of new ≡ book_of old
  same_book drawer = λ i. record {
    session = rested_session i;
    state = ap machine_state rests.same i;
    acks = ap (λ (a : Ledger). a.acks.items) rests.same i;
    drawer = drawer i;
    before = ap (λ (a : Ledger). a.opening.drawer.value.drawn) rests.same i;
  }
