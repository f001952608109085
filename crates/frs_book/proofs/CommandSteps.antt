-- Each outcome of a client's command keeps the agreement, with a lawful record, and commits what the maps show.
use Rattle.std.proofs.Common.{◌≡◌, ℕ, suc, ◌+◌, ◌<◌, Bool, true, false, cond}
use Rattle.std.proofs.Common.{List, [], ◌∷◌, ◌++◌, Option, Some, None, length, fold, refl, sym, ap, ◌∙◌, subst}
use Rattle.std.proofs.Common.{arith, ne_eqb, true≢false, option_map, is_some}
use Rattle.std.specs.Prelude.{slice_set, slice_get, is_none}
use Rattle.std.specs.List.{list_any}
use Rattle.frs_types.specs.declared.lock.Lock.{Lock}
use Rattle.frs_types.specs.declared.lock.Lock.TheVariants.{OnKey}
use Rattle.frs_types.specs.declared.record.Action.{Action}
use Rattle.frs_types.specs.declared.record.Action.TheVariants as action
use Rattle.frs_types.specs.Maps.{Change, at, table_after, table_after_all}
use Rattle.frs_types.specs.Maps.Change.{Set, Take, Clear}
use Rattle.frs_types.specs.Locks.{Holder, holder_at, same_lock, with_lock, hinderers, ring}
use Rattle.frs_types.specs.Lawful.{StoredValue, LogState, plain_maps, changes_of, after_change, is_lawful, with_change, lock_of}
use Rattle.frs_types.specs.ChangeLists.{plain_change}
use Rattle.frs_types.proofs.ActiveChanges.{changes_of_none}
use Rattle.frs_types.proofs.LogStates.{plain_after_all}
use Rattle.frs_history.specs.declared.command.Command.{Command}
use Rattle.frs_history.specs.declared.command.Command.TheVariants as command
use Rattle.frs_history.specs.declared.event.Reply.TheVariants as reply
use Rattle.frs_history.specs.declared.event.What.TheVariants as what
use Rattle.frs_history.specs.Machine.{Changes, Transaction, State, Scripts, Outcome, client, maps_seen, seen_by}
use Rattle.frs_history.specs.Machine.{free_outcome, change_outcome, read_outcome, hindered_outcome, outcome_at, outcome}
use Rattle.frs_history.specs.Machine.{lock_needed, value_or_none, answer_outcome}
use Rattle.frs_history.specs.Machine.Transaction.{Outside, Active, Abandoned}
use Rattle.frs_history.specs.Machine.Outcome.{Answers, Waits_for, Never}
use Rattle.frs_history.specs.Histories.{commits_by}
use Rattle.frs_book.specs.Drawn.{Drawing, begin_of, action_by, record_for, after_draw}
use Rattle.frs_book.specs.Agreement.{IsChangeBefore, IsDrawnBy, Agreement, has_words_if, IsLawfulDraw}
use Rattle.frs_book.proofs.EachStored.{at-plain, entries_later}
use Rattle.frs_book.proofs.Unhindered.{holds_still, not_hindered, no_lock_no_ring}
use Rattle.frs_book.proofs.ClientChanges.{state_with}
use Rattle.frs_book.proofs.LogEffects.{agrees_idle, agrees_outside, agrees_inside, agrees_begun, agrees_ended}
use Rattle.frs_book.proofs.LogEffects.{agrees_committed}
use Rattle.frs_book.proofs.LawfulDraws.{IsFree, lawful_put, lawful_remove, lawful_delete, lawful_begin, lawful_commit}
use Rattle.frs_book.proofs.LawfulDraws.{lawful_abandon, none_at_zero}

-- ---- one step

-- The client's action keeps the agreement, its record is lawful, and the changes are those that it commits.
pub record IsStep (scripts : Scripts) (s : State) (d : Drawing) (c : ℕ) (a : Option Action) (cs : List Changes) (t : State) : Type 0 where
  pub agrees : Agreement scripts t (after_draw d c a)
  pub lawful : IsLawfulDraw d c a
  pub maps : t.maps ≡ fold table_after_all s.maps cs
  pub idle : a ≡ None → cs ≡ []

deadlock_commits : (sync : Bool) (changes : Changes) (x : Command)
    → commits_by (Active sync changes) (Some x) (what.Answered reply.Deadlock) ≡ []
deadlock_commits sync changes command.Commit = refl
deadlock_commits sync changes x = refl

module _ (scripts : Scripts) (s : State) (d : Drawing) (agrees : Agreement scripts s d) (c : ℕ)
    (within : c < suc (length scripts)) where
  abbrev old : Holder
  old = holder_at s.holders c

  abbrev begin : ℕ
  begin = begin_of d c

  abbrev done : ℕ
  done = (client s c).done + 1

  abbrev pub Keeps : Transaction → Command → Outcome → Type 0
  Keeps tx x (Answers r t) = has_words_if (action_by s.maps (Some x) (what.Answered r)) ≡ true → IsStep scripts s d c (action_by s.maps (Some x) (what.Answered r)) (commits_by tx (Some x) (what.Answered r)) t
  Keeps tx x (Waits_for lock) = Unit {0}
  Keeps tx x Never = Unit {0}

  pub drawn_as : (tx : Transaction) → (client s c).tx ≡ tx → IsDrawnBy d.log begin tx old
  drawn_as tx is = subst (λ t. IsDrawnBy d.log begin t old) is (agrees.drawn c)

  -- ---- without a record

  abbrev after_idle : ℕ → Transaction → List Lock → State
  after_idle last tx locks = state_with scripts s d agrees c within s.maps last (record { done = done; tx = tx })
      (record { locks = locks; waits = None }) d.log begin

  idle_step : (last : ℕ) (tx : Transaction) (locks : List Lock)
      → IsDrawnBy d.log begin tx (record { locks = locks; waits = None })
      → ((l : Lock) → list_any (same_lock l) old.locks ≡ true → list_any (same_lock l) locks ≡ true)
      → IsStep scripts s d c None [] (after_idle last tx locks)
  idle_step last tx locks own keeps = record {
    agrees = agrees_idle scripts s d agrees c within last (record { done = done; tx = tx }) (record { locks = locks; waits = None }) own keeps;
    lawful = tt;
    maps = refl;
    idle = λ _. refl;
  }

  -- a client that holds no lock keeps its locks whatever it holds afterwards
  keeps_none : (locks : List Lock) → old.locks ≡ [] → (l : Lock) → list_any (same_lock l) old.locks ≡ true
      → list_any (same_lock l) locks ≡ true
  keeps_none locks none l is = let no = ap (list_any (same_lock l)) none in absurd (true≢false (sym is ∙ no))

  -- outside and abandoned transactions are one for the log
  idle_outside : (last : ℕ) (tx : Transaction) → (begin ≡ 0) × (old.locks ≡ []) → IsDrawnBy d.log begin tx (record { locks = []; waits = None })
      → IsStep scripts s d c None [] (after_idle last tx [])
  idle_outside last tx is own = idle_step last tx [] own (keeps_none [] is.1)

  idle_active : (sync : Bool) (changes : Changes) (lock : Lock) → IsDrawnBy d.log begin (Active sync changes) old
      → IsStep scripts s d c None [] (after_idle s.last (Active sync changes) (with_lock lock old.locks))
  idle_active sync changes lock own = idle_step s.last (Active sync changes) (with_lock lock old.locks) own
      (λ l is. holds_still lock l old.locks is)

  -- ---- a change

  abbrev after_outside : Change (List ℕ) → State
  after_outside y = state_with scripts s d agrees c within (table_after s.maps y) s.last (record { done = done; tx = Outside })
      (record { locks = []; waits = None }) d.log begin

  -- what is drawn for a change that is made outside
  abbrev drawing_outside : Change StoredValue → ℕ → Drawing
  drawing_outside y b = record { log = after_change d.log b y; begins = slice_set d.begins c b }

  outside_agrees : (y : Change StoredValue) → IsChangeBefore (d.log.next + 1) y → begin ≡ 0
      → Agreement scripts (after_outside (plain_change y)) (drawing_outside y begin)
  outside_agrees y new none = subst (Agreement scripts (after_outside (plain_change y))) (sym (ap (drawing_outside y) none))
      (agrees_outside scripts s d agrees c within y (record { done = done; tx = Outside })
      (record { locks = []; waits = None }) new none (refl, refl))

  abbrev after_inside : Bool → Changes → Change (List ℕ) → Lock → State
  after_inside sync changes y lock = state_with scripts s d agrees c within s.maps s.last
      (record { done = done; tx = Active sync (changes ++ y ∷ []) })
      (record { locks = with_lock lock old.locks; waits = None }) d.log begin

  inside_log : (y : Change StoredValue) → 0 < begin → after_change d.log begin y
      ≡ record { entries = d.log.entries; active = with_change d.log.active begin y; next = d.log.next + 1 }
  inside_log y above = ap (λ b. cond {A = LogState} b
      (record { entries = table_after d.log.entries y; active = d.log.active; next = d.log.next + 1 })
      (record { entries = d.log.entries; active = with_change d.log.active begin y; next = d.log.next + 1 }))
      (ne_eqb begin 0 (λ same. omega (arith, same, above)))

  inside_agrees : (y : Change StoredValue) (sync : Bool) (changes : Changes) → IsChangeBefore (d.log.next + 1) y
      → IsDrawnBy d.log begin (Active sync changes) old
      → Agreement scripts (after_inside sync changes (plain_change y) (lock_of y)) (drawing_outside y begin)
  inside_agrees y sync changes new own =
      subst (λ l. Agreement scripts (after_inside sync changes (plain_change y) (lock_of y))
      (record { log = l; begins = slice_set d.begins c begin })) (sym (inside_log y own.0))
      (agrees_inside scripts s d agrees c within y sync changes done new own)

  new_value : (id key value : List ℕ) → IsChangeBefore (d.log.next + 1) (Set id key (record { value = value; lsn = d.log.next }))
  new_value id key value = (agrees.next, omega arith)

  -- a change that is made, outside and inside a transaction
  outside_step : (a : Action) (y : Change StoredValue) → IsChangeBefore (d.log.next + 1) y → begin ≡ 0
      → after_draw d c (Some a) ≡ drawing_outside y begin → is_lawful d.log (record_for d c a) ≡ true
      → IsStep scripts s d c (Some a) ((plain_change y ∷ []) ∷ []) (after_outside (plain_change y))
  outside_step a y new none draws lawful = record {
    agrees = subst (Agreement scripts (after_outside (plain_change y))) (sym draws) (outside_agrees y new none);
    lawful = lawful;
    maps = refl;
    idle = λ never. absurd cc;
  }

  inside_step : (a : Action) (y : Change StoredValue) (sync : Bool) (changes : Changes)
      → IsChangeBefore (d.log.next + 1) y → IsDrawnBy d.log begin (Active sync changes) old
      → after_draw d c (Some a) ≡ drawing_outside y begin → is_lawful d.log (record_for d c a) ≡ true
      → IsStep scripts s d c (Some a) [] (after_inside sync changes (plain_change y) (lock_of y))
  inside_step a y sync changes new own draws lawful = record {
    agrees = subst (Agreement scripts (after_inside sync changes (plain_change y) (lock_of y))) (sym draws)
        (inside_agrees y sync changes new own);
    lawful = lawful;
    maps = refl;
    idle = λ never. refl;
  }

  -- ---- the ends of a transaction

  commit_step : (sync : Bool) (changes : Changes) → IsDrawnBy d.log begin (Active sync changes) old
      → IsStep scripts s d c (Some action.Commit) (changes ∷ []) (state_with scripts s d agrees c within
      (table_after_all s.maps changes) s.last (record { done = done; tx = Outside }) (record { locks = []; waits = None }) d.log begin)
  commit_step sync changes own = record {
    agrees = agrees_committed scripts s d agrees c within sync changes (record { done = done; tx = Outside })
        (record { locks = []; waits = None }) own (refl, refl);
    lawful = lawful_commit scripts s d agrees c own.0 own.2;
    maps = refl;
    idle = λ never. absurd cc;
  }

  pub abandon_step : (n : ℕ) (sync : Bool) (changes : Changes) → IsDrawnBy d.log begin (Active sync changes) old
      → IsStep scripts s d c (Some action.Abandon) [] (state_with scripts s d agrees c within
      s.maps s.last (record { done = n; tx = Abandoned }) (record { locks = []; waits = None }) d.log begin)
  abandon_step n sync changes own = record {
    agrees = agrees_ended scripts s d agrees c within d.log.entries s.maps (record { done = n; tx = Abandoned })
        (record { locks = []; waits = None }) agrees.maps agrees.sorted
        (entries_later d.log.next (d.log.next + 1) (omega arith) d.log.entries agrees.stored) own.0 (refl, refl);
    lawful = lawful_abandon scripts s d agrees c own.0 own.2;
    maps = refl;
    idle = λ never. refl;
  }

  begin_step : (sync : Bool) → begin ≡ 0
      → IsStep scripts s d c (Some action.Begin) [] (state_with scripts s d agrees c within
      s.maps s.last (record { done = done; tx = Active sync [] }) (record { locks = []; waits = None }) d.log begin)
  begin_step sync none = record {
    agrees = agrees_begun scripts s d agrees c within sync done (record { locks = []; waits = None }) none;
    lawful = lawful_begin scripts s d agrees c;
    maps = refl;
    idle = λ never. refl;
  }

  -- ---- commands where nobody hinders the client

  -- what the client sees is what its transaction sees in the log
  pub seen_as : (tx : Transaction) → (client s c).tx ≡ tx → IsDrawnBy d.log begin tx old
      → maps_seen s c ≡ plain_maps (table_after_all d.log.entries (changes_of d.log.active begin))
  seen_as tx is own = ap (λ t. seen_by t s.maps) is ∙ ap (seen_by tx) agrees.maps ∙ by_kind tx own
    where
      nothing : begin ≡ 0 → changes_of d.log.active begin ≡ []
      nothing none = ap (changes_of d.log.active) none ∙ changes_of_none d.log.active 0 (none_at_zero scripts s d agrees d.log.active agrees.owned)

      by_kind : (tx : Transaction) → IsDrawnBy d.log begin tx old
          → seen_by tx (plain_maps d.log.entries) ≡ plain_maps (table_after_all d.log.entries (changes_of d.log.active begin))
      by_kind Outside own = ap (λ cs. plain_maps (table_after_all d.log.entries cs)) (sym (nothing own.0))
      by_kind Abandoned own = ap (λ cs. plain_maps (table_after_all d.log.entries cs)) (sym (nothing own.0))
      by_kind (Active sync changes) own =
          ap (table_after_all (plain_maps d.log.entries)) (sym own.3)
          ∙ sym (plain_after_all (changes_of d.log.active begin) d.log.entries)

  there_by : (o : Option StoredValue) → is_some (option_map (λ (h : StoredValue). h.value) o) ≡ true → is_some o ≡ true
  there_by None is = is
  there_by (Some h) is = refl

  -- a key that is there for the client is there in the log
  is_there : (id key : List ℕ) (tx : Transaction) → (client s c).tx ≡ tx → is_some (at (maps_seen s c) (id, key)) ≡ true
      → is_some (at (table_after_all d.log.entries (changes_of d.log.active begin)) (id, key)) ≡ true
  is_there id key tx is there =
      let seen = table_after_all d.log.entries (changes_of d.log.active begin) in
      there_by (at seen (id, key)) (sym (ap is_some (ap (λ m. at m (id, key)) (seen_as tx is (drawn_as tx is)) ∙ at-plain (id, key) seen)) ∙ there)

  abbrev FreeAt : Option Lock → Type 0
  FreeAt None = Unit {0}
  FreeAt (Some lock) = IsFree scripts s d agrees c lock

  remove_outside : (id key : List ℕ) → (client s c).tx ≡ Outside → IsFree scripts s d agrees c (OnKey id key)
      → (b : Bool) → is_some (at (maps_seen s c) (id, key)) ≡ b
      → Keeps Outside (command.Remove id key)
      (cond b (change_outcome s c Outside (OnKey id key) (Take id key)) (read_outcome s c Outside (OnKey id key) reply.Absent))
  remove_outside id key is free true there = λ words.
      outside_step (action.Remove id key) (Take id key) tt (drawn_as Outside is).0 refl
      (lawful_remove scripts s d agrees c id key free words (is_there id key Outside is there))
  remove_outside id key is free false there = λ words. idle_outside s.last Outside (drawn_as Outside is) ((drawn_as Outside is).0, refl)

  remove_inside : (id key : List ℕ) (sync : Bool) (changes : Changes) → (client s c).tx ≡ Active sync changes
      → IsFree scripts s d agrees c (OnKey id key)
      → (b : Bool) → is_some (at (maps_seen s c) (id, key)) ≡ b
      → Keeps (Active sync changes) (command.Remove id key)
      (cond b (change_outcome s c (Active sync changes) (OnKey id key) (Take id key))
      (read_outcome s c (Active sync changes) (OnKey id key) reply.Absent))
  remove_inside id key sync changes is free true there = λ words.
      inside_step (action.Remove id key) (Take id key) sync changes tt (drawn_as (Active sync changes) is) refl
      (lawful_remove scripts s d agrees c id key free words (is_there id key (Active sync changes) is there))
  remove_inside id key sync changes is free false there = λ words.
      idle_active sync changes (OnKey id key) (drawn_as (Active sync changes) is)

  get_outside : (id key : List ℕ) → (client s c).tx ≡ Outside → (o : Option (List ℕ))
      → Keeps Outside (command.Get id key) (read_outcome s c Outside (OnKey id key) (value_or_none o))
  get_outside id key is None = λ words. idle_outside s.last Outside (drawn_as Outside is) ((drawn_as Outside is).0, refl)
  get_outside id key is (Some v) = λ words. idle_outside s.last Outside (drawn_as Outside is) ((drawn_as Outside is).0, refl)

  get_inside : (id key : List ℕ) (sync : Bool) (changes : Changes) → (client s c).tx ≡ Active sync changes → (o : Option (List ℕ))
      → Keeps (Active sync changes) (command.Get id key) (read_outcome s c (Active sync changes) (OnKey id key) (value_or_none o))
  get_inside id key sync changes is None = λ words. idle_active sync changes (OnKey id key) (drawn_as (Active sync changes) is)
  get_inside id key sync changes is (Some v) = λ words. idle_active sync changes (OnKey id key) (drawn_as (Active sync changes) is)

  stays_abandoned : (client s c).tx ≡ Abandoned → IsStep scripts s d c None [] (after_idle s.last Abandoned [])
  stays_abandoned is = idle_outside s.last Abandoned (drawn_as Abandoned is) ((drawn_as Abandoned is).0, refl)

  free_keeps : (tx : Transaction) → (client s c).tx ≡ tx → (x : Command)
      → FreeAt (lock_needed tx x) → Keeps tx x (free_outcome s c tx x)
  free_keeps Outside is (command.Begin sync) free = λ words. begin_step sync (drawn_as Outside is).0
  free_keeps Outside is (command.Put id key value) free = λ words.
      outside_step (action.Put id key value) (Set id key (record { value = value; lsn = d.log.next })) (new_value id key value)
      (drawn_as Outside is).0 refl (lawful_put scripts s d agrees c id key value free words)
  free_keeps Outside is (command.Remove id key) free =
      remove_outside id key is free (is_some (at (maps_seen s c) (id, key))) refl
  free_keeps Outside is (command.Delete id) free = λ words.
      outside_step (action.Delete id) (Clear id) tt (drawn_as Outside is).0 refl (lawful_delete scripts s d agrees c id free words)
  free_keeps Outside is (command.Get id key) free = get_outside id key is (at (maps_seen s c) (id, key))
  free_keeps Outside is command.Commit free = tt
  free_keeps Outside is command.Snapshot free = λ words.
      idle_step (s.last + 1) Outside old.locks (drawn_as Outside is) (λ l held. held)
  free_keeps (Active sync changes) is (command.Begin again) free = tt
  free_keeps (Active sync changes) is (command.Put id key value) free = λ words.
      inside_step (action.Put id key value) (Set id key (record { value = value; lsn = d.log.next })) sync changes
      (new_value id key value) (drawn_as (Active sync changes) is) refl (lawful_put scripts s d agrees c id key value free words)
  free_keeps (Active sync changes) is (command.Remove id key) free =
      remove_inside id key sync changes is free (is_some (at (maps_seen s c) (id, key))) refl
  free_keeps (Active sync changes) is (command.Delete id) free = λ words.
      inside_step (action.Delete id) (Clear id) sync changes tt (drawn_as (Active sync changes) is) refl
      (lawful_delete scripts s d agrees c id free words)
  free_keeps (Active sync changes) is (command.Get id key) free =
      get_inside id key sync changes is (at (maps_seen s c) (id, key))
  free_keeps (Active sync changes) is command.Commit free = λ words. commit_step sync changes (drawn_as (Active sync changes) is)
  free_keeps (Active sync changes) is command.Snapshot free = λ words.
      idle_step (s.last + 1) (Active sync changes) old.locks (drawn_as (Active sync changes) is) (λ l held. held)
  free_keeps Abandoned is (command.Begin sync) free = λ words. stays_abandoned is
  free_keeps Abandoned is (command.Put id key value) free = λ words. stays_abandoned is
  free_keeps Abandoned is (command.Remove id key) free = λ words. stays_abandoned is
  free_keeps Abandoned is (command.Delete id) free = λ words. stays_abandoned is
  free_keeps Abandoned is (command.Get id key) free = λ words. stays_abandoned is
  free_keeps Abandoned is command.Commit free = λ words.
      idle_outside s.last Outside (drawn_as Abandoned is) ((drawn_as Abandoned is).0, refl)
  free_keeps Abandoned is command.Snapshot free = λ words. stays_abandoned is

  -- ---- a client that is hindered

  deadlock_keeps : (tx : Transaction) → (client s c).tx ≡ tx → (x : Command) (lock : Lock) → lock_needed tx x ≡ Some lock
      → (b : Bool) → ring s.holders c lock ≡ b
      → Keeps tx x (cond b (answer_outcome s c reply.Deadlock Abandoned []) (Waits_for lock))
  deadlock_keeps tx is x lock needs false none = tt
  deadlock_keeps Outside is x lock needs true closes =
      let none = no_lock_no_ring s.holders c lock (omega (arith, within, agrees.holders)) (drawn_as Outside is).1 in
      absurd (true≢false (sym closes ∙ none))
  deadlock_keeps Abandoned is x lock needs true closes = absurd cc
  deadlock_keeps (Active sync changes) is x lock needs true closes = λ words.
      subst (λ cs. IsStep scripts s d c (Some action.Abandon) cs (state_with scripts s d agrees c within
      s.maps s.last (record { done = done; tx = Abandoned }) (record { locks = []; waits = None }) d.log begin))
      (sym (deadlock_commits sync changes x))
      (abandon_step done sync changes (drawn_as (Active sync changes) is))

  none_hinders : (cs : List ℕ) → is_none (slice_get cs 0) ≡ true → cs ≡ []
  none_hinders [] is = refl
  none_hinders (e ∷ cs) is = absurd cc

  lock_keeps : (x : Command) (o : Option Lock) → lock_needed (client s c).tx x ≡ o
      → Keeps (client s c).tx x (outcome_at s c x o)
  lock_keeps x None needs = free_keeps (client s c).tx refl x (subst FreeAt (sym needs) tt)
  lock_keeps x (Some lock) needs =
      elim (is_none (slice_get (hinderers s.holders c lock) 0)) as
      (λ b. is_none (slice_get (hinderers s.holders c lock) 0) ≡ b → Keeps (client s c).tx x
      (cond b (free_outcome s c (client s c).tx x) (hindered_outcome s c lock))) [
        | true ↦ λ free. free_keeps (client s c).tx refl x
            (subst FreeAt (sym needs) (not_hindered s.holders c lock (none_hinders (hinderers s.holders c lock) free)))
        | false ↦ λ _. deadlock_keeps (client s c).tx refl x lock needs (ring s.holders c lock) refl
      ] refl

  -- Whatever the outcome of the client's next command is, it keeps the agreement.
  pub outcome_keeps : (x : Command) → Keeps (client s c).tx x (outcome s c x)
  outcome_keeps x = lock_keeps x (lock_needed (client s c).tx x) refl
