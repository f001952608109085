-- A ledger that has just been opened is one, and shows a new book.
use Rattle.std.proofs.Common.{◌≡◌, ℕ, suc, zero, ◌+◌, ◌-◌, ◌<◌, ◌≤◌, List, [], ◌∷◌, None, length, map, refl, sym}
use Rattle.std.proofs.Common.{ap, ◌∙◌, subst, arith, add-one, fold, false, true, ◌^◌, flat_map, option_to_list, IsTrue}
use Rattle.std.specs.Prelude.{replicate, slice_index_or, vec_capacity, sum_by}
use Rattle.std.specs.List.{AllByRecursion}
use Rattle.std.proofs.lemmas.Bool.{and_parts}
use Rattle.std.proofs.lemmas.List.Sums.{sum_by-cons}
use Rattle.frs_types.specs.declared.limits.TheConstants.{NUMBER_LIMIT}
use Rattle.frs_types.specs.declared.record.Action.TheVariants.{Abandon}
use Rattle.frs_types.specs.declared.record.Entry.{Entry}
use Rattle.frs_types.specs.Maps.{Table, IsTable, place_cmp}
use Rattle.frs_types.specs.Maps.Change.{Set}
use Rattle.std.specs.FinMap.Entries.{put}
use Rattle.frs_types.specs.Locks.{nobody}
use Rattle.frs_types.specs.Lawful.{StoredValue, table_of, plain_maps}
use Rattle.frs_frame.specs.Spelling.{spelling, without_numbers}
use Rattle.frs_slots.specs.Views.{next_drawn}
use Rattle.frs_history.specs.declared.command.Line.{Line}
use Rattle.frs_history.specs.Machine.{newcomer}
use Rattle.frs_history.specs.Scripts.{rises_from, is_bracketed, is_script}
use Rattle.frs_book.specs.declared.client_state.ClientState.{ClientState}
use Rattle.frs_book.specs.declared.ledger.Ledger.{Ledger}
use Rattle.frs_book.specs.Drawn.{Drawing, DrawStep, opened, drawing_of, draw_steps, acks_owed, ack_at}
use Rattle.frs_book.specs.Agreement.{AreStoredBefore}
use Rattle.frs_book.specs.Books.{IsBook, AreBefore, new_session, new_book, last_asked}
use Rattle.frs_book.specs.Ledgers.{new_client, client_in, begin_lsn, client_of_state, session_of, book_of}
use Rattle.frs_book.specs.Ledgers.{scripts_of, client_at, drawing_in, HasChanges, script_at, lines_left, IsLedger}
use Rattle.frs_book.proofs.EachStored.{stored_after, table_sorted}
use Rattle.frs_book.proofs.BookGoesOn.{new_is_book}

-- ---- entries as a table

record IsStoredTable (next : ℕ) (t : Table StoredValue) : Type 0 where
  sorted : IsTable t
  stored : AreStoredBefore next t

table_from : (next : ℕ) (es : List Entry) (t : Table StoredValue) → IsStoredTable next t → AreBefore next es
    → IsStoredTable next (fold (λ u (e : Entry). put place_cmp (e.id, e.key) (record { value = e.value; lsn = e.lsn }) u) t es)
table_from next [] t is all = is
table_from next (e ∷ es) t is all =
    let x = Set e.id e.key (record { value = e.value; lsn = e.lsn }) in
    table_from next es (put place_cmp (e.id, e.key) (record { value = e.value; lsn = e.lsn }) t)
    (record { sorted = table_sorted t x is.sorted; stored = stored_after next x t all.0 is.stored }) all.1

-- ---- nothing is drawn yet

nothing_drawn : (scripts : List (List Line)) (entries : Table StoredValue) (last next : ℕ)
    → drawing_of (new_session scripts entries last next) ≡ opened (new_session scripts entries last next)
unfolding drawing_of
nothing_drawn scripts entries last next = refl

no_steps : (scripts : List (List Line)) (entries : Table StoredValue) (last next : ℕ)
    → draw_steps (new_session scripts entries last next) ≡ []
unfolding draw_steps
no_steps scripts entries last next = refl

map_replicate : {X : Type 0} → {Y : Type 0} (f : X → Y) (n : ℕ) (x : X) → map f (replicate n x) ≡ replicate n (f x)
map_replicate f zero x = refl
map_replicate f (suc n) x = ap (λ ys. f x ∷ ys) (map_replicate f n x)

all_new : (n c : ℕ) → slice_index_or (replicate n new_client) c new_client ≡ new_client
all_new zero c = refl
all_new (suc n) zero = refl
all_new (suc n) (suc c) = all_new n c

all_left : (scripts : List (List Line)) (n : ℕ) → length scripts ≤ n
    → lines_left scripts (replicate n new_client) ≡ sum_by length scripts
all_left [] n le = refl
all_left (lines ∷ scripts) zero le = absurd (omega (arith, le))
all_left (lines ∷ scripts) (suc n) le =
    let rest = all_left scripts n (omega (arith, le)) in
    let sum = sum_by-cons length lines scripts in
    omega (arith, rest, sum)

script_at_most : (scripts : List (List Line)) (c : ℕ) → length (slice_index_or scripts c []) ≤ sum_by length scripts
script_at_most [] c = omega arith
script_at_most (lines ∷ scripts) zero =
    let sum = sum_by-cons length lines scripts in omega (arith, sum)
script_at_most (lines ∷ scripts) (suc c) =
    let sum = sum_by-cons length lines scripts in
    let rest = script_at_most scripts c in
    omega (arith, sum, rest)

-- each script is bracketed
bracketed_each : (scripts : List (List Line)) → AllByRecursion (λ lines. IsTrue (is_script lines)) scripts
    → (c : ℕ) → is_bracketed false (slice_index_or scripts c []) ≡ true
bracketed_each [] all c = refl
bracketed_each (lines ∷ scripts) all zero = (and_parts (rises_from 0 lines) (is_bracketed false lines) all.0).1
bracketed_each (lines ∷ scripts) all (suc c) = bracketed_each scripts all.1 c

pub bracketed_from : (scripts : List (List Line)) → AllByRecursion (λ lines. IsTrue (is_script lines)) scripts
    → (c : ℕ) → is_bracketed false (script_at scripts c) ≡ true
bracketed_from scripts all zero = refl
bracketed_from scripts all (suc c) = bracketed_each scripts all c

module _ (scripts : List (List Line)) (entries : List Entry) (a : Ledger)
    (scripts_are : scripts_of a ≡ scripts)
    (events : a.history.events ≡ []) (closing : a.closing.value ≡ None)
    (objects : a.objects ≡ table_of entries) (from_objects : a.opening.entries.value ≡ a.objects)
    (from_drawer : a.opening.drawer.value ≡ a.drawer) (from_last : a.opening.last.value ≡ a.last)
    (clients : a.clients.items ≡ replicate (length scripts + 1) new_client)
    (locks : a.locks ≡ replicate (length scripts + 1) nobody)
    (acks : a.acks.items ≡ []) (below : a.last < NUMBER_LIMIT) (some : 1 ≤ next_drawn a.drawer) where
  abbrev n : ℕ
  n = length scripts

  clients_are : a.clients.items ≡ new_client ∷ replicate n new_client
  clients_are = clients ∙ ap (λ k. replicate k new_client) (add-one n)

  session_is : session_of a ≡ new_session scripts (table_of entries) a.last (next_drawn a.drawer)
  session_is i = record {
    scripts = scripts_are i;
    entries = (from_objects ∙ objects) i;
    last = from_last i;
    opening = next_drawn (from_drawer i) - 1;
    events = events i;
    closing = closing i;
  }

  pub opened_book : book_of a ≡ new_book scripts (table_of entries) a.last a.drawer
  opened_book i = record {
    session = session_is i;
    state = record {
      maps = plain_maps (objects i);
      last = a.last;
      clients = (ap (map client_of_state) clients_are ∙ ap (λ ks. newcomer ∷ ks) (map_replicate client_of_state n new_client)) i;
      holders = (locks ∙ ap (λ k. replicate k nobody) (add-one n)) i;
    };
    acks = acks i;
    drawer = a.drawer;
    before = (from_drawer i).drawn;
  }

  drawing_is : drawing_in a ≡ opened (new_session scripts (table_of entries) a.last (next_drawn a.drawer))
  drawing_is = ap drawing_of session_is ∙ nothing_drawn scripts (table_of entries) a.last (next_drawn a.drawer)

  steps_are : draw_steps (session_of a) ≡ []
  steps_are = ap draw_steps session_is ∙ no_steps scripts (table_of entries) a.last (next_drawn a.drawer)

  client_is_new : (c : ℕ) → client_at a c ≡ new_client
  client_is_new c = ap (λ ks. client_in ks c) clients ∙ all_new (n + 1) c

  pub opened_ledger : AreBefore (next_drawn a.drawer) entries
      → ((c : ℕ) → is_bracketed false (script_at scripts c) ≡ true)
      → sum_by length scripts ≤ vec_capacity a.acks → sum_by length scripts < 2 ^ 64
      → a.abandon ≡ spelling (without_numbers Abandon) → IsLedger a
  opened_ledger before bracketed room fits abandon =
      let table = table_from (next_drawn a.drawer) entries [] (record { sorted = refl; stored = tt }) before in
      record {
        book = subst IsBook (sym opened_book) (new_is_book scripts (table_of entries) a.last a.drawer some table.sorted table.stored);
        entries = objects ∙ ap (λ (d : Drawing). d.log.entries) (sym drawing_is);
        begins =
            ap (map (λ (k : ClientState). begin_lsn k.tx)) clients_are
            ∙ ap (λ bs. 0 ∷ bs) (map_replicate (λ (k : ClientState). begin_lsn k.tx) n new_client)
            ∙ ap (λ (d : Drawing). d.begins) (sym drawing_is);
        changes = λ c. subst (λ (k : ClientState). HasChanges (drawing_in a).log.active k.tx) (sym (client_is_new c)) tt;
        compactor = client_is_new 0;
        bracketed = λ c. subst (λ ss. is_bracketed false (script_at ss c) ≡ true) (sym scripts_are) (bracketed c);
        counted = λ c. subst (λ ss. length (script_at ss c) < 2 ^ 64) (sym scripts_are) (count c);
        due = λ c. ap (last_asked c) steps_are ∙ ap (λ (k : ClientState). option_to_list k.due) (sym (client_is_new c));
        room =
            let none : length (acks_owed (session_of a)) ≡ 0 = ap (λ ts. length (flat_map (λ (t : DrawStep). ack_at t.lsn t.moment) ts)) steps_are in
            let left : lines_left ([] ∷ scripts_of a) a.clients.items ≡ sum_by length scripts =
            ap (λ ss. lines_left ([] ∷ ss) a.clients.items) scripts_are ∙ ap (lines_left ([] ∷ scripts)) clients_are ∙ whole in
            omega (arith, none, left, room);
        last = omega (arith, from_last);
        last_limit = subst (λ k. k < NUMBER_LIMIT) (sym from_last) below;
        abandon = abandon;
      }
    where
      count : (c : ℕ) → length (script_at scripts c) < 2 ^ 64
      count zero = omega arith
      count (suc c) = let most = script_at_most scripts c in omega (arith, most, fits)

      whole : lines_left ([] ∷ scripts) (new_client ∷ replicate n new_client) ≡ sum_by length scripts
      whole = let rest = all_left scripts n (omega arith) in omega (arith, rest)
