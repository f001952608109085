-- Where each client is in its script, in every history: what is left of the script begins inside a transaction exactly
-- where the client is inside one, an idle client holds no lock, and a wait is for the lock that the next command needs.
use Rattle.std.proofs.Common.{◌≡◌, ◌⊎◌, inl, inr, ⊎_elim, ℕ, suc, ◌+◌, ◌<◌, Bool, true, false, cond, ◌&&◌, ◌==◌}
use Rattle.std.proofs.Common.{List, [], ◌∷◌, ◌++◌, Option, Some, None, length, drop, refl, sym, ap, ◌∙◌, subst, arith, true≢false}
use Rattle.std.proofs.Common.{is_some}
use Rattle.std.specs.Prelude.{slice_get, slice_set, slice_index_or, is_none, option_and_then}
use Rattle.std.proofs.lemmas.Bool.{and_parts, cases_eq}
use Rattle.std.proofs.lemmas.List.{get_or-set_same, get_or-set_other, length-set, length-replicate, set-get_or}
use Rattle.std.proofs.lemmas.Option.{same_Some, slice_get_within, get_or_from_slice_get}
use Rattle.std.proofs.Math.Seq.{drop-cons}
use Rattle.frs_types.specs.declared.lock.Lock.{Lock}
use Rattle.frs_types.specs.declared.lock.Lock.TheVariants.{OnKey, OnMap}
use Rattle.frs_types.specs.Maps.{Maps, Change, at, table_after, table_after_all}
use Rattle.frs_types.specs.Maps.Change.{Set, Take, Clear}
use Rattle.frs_types.specs.Locks.{Holder, holder_at, nobody, with_lock, with_wait, hinderers, ring, is_free}
use Rattle.frs_history.specs.declared.command.Command.{Command}
use Rattle.frs_history.specs.declared.command.Command.TheVariants as command
use Rattle.frs_history.specs.declared.command.Line.{Line}
use Rattle.frs_history.specs.declared.event.Event.{Event}
use Rattle.frs_history.specs.declared.event.Reply.{Reply}
use Rattle.frs_history.specs.declared.event.Reply.TheVariants as reply
use Rattle.frs_history.specs.declared.event.What.{What}
use Rattle.frs_history.specs.declared.event.What.TheVariants as what
use Rattle.frs_history.specs.Machine.{Client, Changes, Transaction, State, Scripts, Outcome, start, client, newcomer, next_line}
use Rattle.frs_history.specs.Machine.{maps_seen, answer_outcome, read_outcome, change_outcome, value_or_none, free_outcome}
use Rattle.frs_history.specs.Machine.{lock_needed, hindered_outcome, outcome_at, outcome}
use Rattle.frs_history.specs.Machine.Transaction.{Outside, Active, Abandoned}
use Rattle.frs_history.specs.Machine.Outcome.{Answers, Waits_for, Never}
use Rattle.frs_history.specs.Scripts.{may_stand, inside_after, is_bracketed}
use Rattle.frs_history.specs.Histories.{same_reply, if_answers, if_waits, if_next, is_active, state_at_end, next_by, next, run}
use Rattle.frs_locks.proofs.NoRing.{holder_same, holder_other}
use Rattle.frs_book.specs.Ledgers.{script_at}
use Rattle.frs_book.proofs.Unhindered.{no_lock_no_ring}
use Rattle.frs_book.proofs.HistoryRuns.{same_everywhere}
use Rattle.frs_book.proofs.NextEvents.{has_script, has_client}

-- an abandoned transaction counts as well: its commit is still to come
abbrev pub is_inside : Transaction → Bool
is_inside Outside = false
is_inside (Active sync changes) = true
is_inside Abandoned = true

-- the lock that the next of the lines needs, whoever holds it
abbrev pub lock_of_line : List Line → Client → Option Lock
lock_of_line lines x = option_and_then (λ (l : Line). lock_needed x.tx l.command) (slice_get lines x.done)

pub record IsClientAt (lines : List Line) (x : Client) (h : Holder) : Type 0 where
  pub placed : is_bracketed (is_inside x.tx) (drop x.done lines) ≡ true
  pub free : is_active x.tx ≡ false → h.locks ≡ []
  pub waits : (h.waits ≡ None) ⊎ (h.waits ≡ lock_of_line lines x)

-- ---- one answer

-- The client has one command more behind it, waits for nothing, and is inside a transaction as the command leaves it.
pub record IsAnswered (s : State) (c : ℕ) (x : Command) (t : State) : Type 0 where
  pub tx : Transaction
  pub locks : List Lock
  pub clients : t.clients ≡ slice_set s.clients c (record { done = (client s c).done + 1; tx = tx })
  pub holders : t.holders ≡ slice_set s.holders c (record { locks = locks; waits = None })
  pub inside : is_inside tx ≡ inside_after (is_inside (client s c).tx) x
  pub free : is_active tx ≡ false → locks ≡ []

abbrev HasForm : State → ℕ → Command → Outcome → Type 0
HasForm s c x (Answers r t) = IsAnswered s c x t
HasForm s c x (Waits_for lock) = lock_needed (client s c).tx x ≡ Some lock
HasForm s c x Never = Unit {0}

module _ (s : State) (c : ℕ) (own : is_active (client s c).tx ≡ false → (holder_at s.holders c).locks ≡ []) (x : Command) where
  answer_form : (m : Maps) (last : ℕ) (r : Reply) (tx : Transaction) (locks : List Lock)
      → is_inside tx ≡ inside_after (is_inside (client s c).tx) x → (is_active tx ≡ false → locks ≡ [])
      → HasForm s c x (answer_outcome (record s { maps = m; last = last }) c r tx locks)
  answer_form m last r tx locks inside free =
      record { tx = tx; locks = locks; clients = refl; holders = refl; inside = inside; free = free }

  -- a command that neither begins nor ends a transaction
  module _ (stays : inside_after (is_inside (client s c).tx) x ≡ is_inside (client s c).tx) where
    change_form : (tx : Transaction) → (client s c).tx ≡ tx → (lock : Lock) (y : Change (List ℕ))
        → HasForm s c x (change_outcome s c tx lock y)
    change_form Outside is lock y = answer_form (table_after s.maps y) s.last reply.Done Outside [] (sym (stays ∙ ap is_inside is)) (λ _. refl)
    change_form (Active sync changes) is lock y = answer_form s.maps s.last reply.Done (Active sync (changes ++ y ∷ []))
        (with_lock lock (holder_at s.holders c).locks) (sym (stays ∙ ap is_inside is)) (λ never. absurd (true≢false never))
    change_form Abandoned is lock y = tt

    read_form : (tx : Transaction) → (client s c).tx ≡ tx → (lock : Lock) (r : Reply) → HasForm s c x (read_outcome s c tx lock r)
    read_form Outside is lock r = answer_form s.maps s.last r Outside [] (sym (stays ∙ ap is_inside is)) (λ _. refl)
    read_form (Active sync changes) is lock r = answer_form s.maps s.last r (Active sync changes)
        (with_lock lock (holder_at s.holders c).locks) (sym (stays ∙ ap is_inside is)) (λ never. absurd (true≢false never))
    read_form Abandoned is lock r = tt

    -- also where a change is made only if the key is there
    either_form : (tx : Transaction) → (client s c).tx ≡ tx → (lock : Lock) (y : Change (List ℕ)) (r : Reply) (b : Bool)
        → HasForm s c x (cond b (change_outcome s c tx lock y) (read_outcome s c tx lock r))
    either_form tx is lock y r true = change_form tx is lock y
    either_form tx is lock y r false = read_form tx is lock r

    abandoned_form : (client s c).tx ≡ Abandoned → HasForm s c x (answer_outcome s c reply.Abandoned Abandoned [])
    abandoned_form is = answer_form s.maps s.last reply.Abandoned Abandoned [] (sym (stays ∙ ap is_inside is)) (λ _. refl)

    snapshot_form : (tx : Transaction) → (client s c).tx ≡ tx
        → HasForm s c x (answer_outcome (record s { last = s.last + 1 }) c (reply.Snapshot (s.last + 1)) tx (holder_at s.holders c).locks)
    snapshot_form tx is = answer_form s.maps (s.last + 1) (reply.Snapshot (s.last + 1)) tx (holder_at s.holders c).locks
        (sym (stays ∙ ap is_inside is)) (λ idle. own (ap is_active is ∙ idle))

free_form : (s : State) (c : ℕ) (own : is_active (client s c).tx ≡ false → (holder_at s.holders c).locks ≡ [])
    (tx : Transaction) → (client s c).tx ≡ tx → (x : Command) → HasForm s c x (free_outcome s c tx x)
free_form s c own Outside is (command.Begin sync) =
    answer_form s c own (command.Begin sync) s.maps s.last reply.Done (Active sync []) [] refl (λ never. absurd (true≢false never))
free_form s c own Outside is (command.Put id key value) =
    change_form s c own (command.Put id key value) refl Outside is (OnKey id key) (Set id key value)
free_form s c own Outside is (command.Remove id key) =
    either_form s c own (command.Remove id key) refl Outside is (OnKey id key) (Take id key) reply.Absent (is_some (at (maps_seen s c) (id, key)))
free_form s c own Outside is (command.Delete id) =
    change_form s c own (command.Delete id) refl Outside is (OnMap id) (Clear id)
free_form s c own Outside is (command.Get id key) =
    read_form s c own (command.Get id key) refl Outside is (OnKey id key) (value_or_none (at (maps_seen s c) (id, key)))
free_form s c own Outside is command.Commit = tt
free_form s c own Outside is command.Snapshot = snapshot_form s c own command.Snapshot refl Outside is
free_form s c own (Active sync changes) is (command.Begin again) = tt
free_form s c own (Active sync changes) is (command.Put id key value) =
    change_form s c own (command.Put id key value) refl (Active sync changes) is (OnKey id key) (Set id key value)
free_form s c own (Active sync changes) is (command.Remove id key) =
    either_form s c own (command.Remove id key) refl (Active sync changes) is (OnKey id key) (Take id key) reply.Absent
    (is_some (at (maps_seen s c) (id, key)))
free_form s c own (Active sync changes) is (command.Delete id) =
    change_form s c own (command.Delete id) refl (Active sync changes) is (OnMap id) (Clear id)
free_form s c own (Active sync changes) is (command.Get id key) =
    read_form s c own (command.Get id key) refl (Active sync changes) is (OnKey id key)
    (value_or_none (at (maps_seen s c) (id, key)))
free_form s c own (Active sync changes) is command.Commit =
    answer_form s c own command.Commit (table_after_all s.maps changes) s.last reply.Done Outside [] refl (λ _. refl)
free_form s c own (Active sync changes) is command.Snapshot =
    snapshot_form s c own command.Snapshot refl (Active sync changes) is
free_form s c own Abandoned is (command.Begin sync) =
    answer_form s c own (command.Begin sync) s.maps s.last reply.Abandoned Abandoned [] refl (λ _. refl)
free_form s c own Abandoned is (command.Put id key value) = abandoned_form s c own (command.Put id key value) refl is
free_form s c own Abandoned is (command.Remove id key) = abandoned_form s c own (command.Remove id key) refl is
free_form s c own Abandoned is (command.Delete id) = abandoned_form s c own (command.Delete id) refl is
free_form s c own Abandoned is (command.Get id key) = abandoned_form s c own (command.Get id key) refl is
free_form s c own Abandoned is command.Commit =
    answer_form s c own command.Commit s.maps s.last reply.Abandoned Outside [] refl (λ _. refl)
free_form s c own Abandoned is command.Snapshot = abandoned_form s c own command.Snapshot refl is

-- a command that needs a lock inside a transaction leaves it inside
still_inside : (sync : Bool) (changes : Changes) (x : Command) (lock : Lock) → lock_needed (Active sync changes) x ≡ Some lock
    → true ≡ inside_after true x
still_inside sync changes (command.Begin again) lock needs = refl
still_inside sync changes (command.Put id key value) lock needs = refl
still_inside sync changes (command.Remove id key) lock needs = refl
still_inside sync changes (command.Delete id) lock needs = refl
still_inside sync changes (command.Get id key) lock needs = refl
still_inside sync changes command.Commit lock needs = absurd cc
still_inside sync changes command.Snapshot lock needs = refl

module _ (s : State) (c : ℕ) (own : is_active (client s c).tx ≡ false → (holder_at s.holders c).locks ≡ [])
    (within : c < length s.holders) (x : Command) where
  deadlock_form : (tx : Transaction) → (client s c).tx ≡ tx → (lock : Lock) → lock_needed tx x ≡ Some lock
      → ring s.holders c lock ≡ true → HasForm s c x (answer_outcome s c reply.Deadlock Abandoned [])
  deadlock_form Outside is lock needs closes =
      absurd (true≢false (sym closes ∙ no_lock_no_ring s.holders c lock within (own (ap is_active is))))
  deadlock_form Abandoned is lock needs closes = absurd cc
  deadlock_form (Active sync changes) is lock needs closes =
      answer_form s c own x s.maps s.last reply.Deadlock Abandoned []
      (still_inside sync changes x lock needs ∙ sym (ap (λ b. inside_after b x) (ap is_inside is))) (λ _. refl)

  hindered_form : (lock : Lock) → lock_needed (client s c).tx x ≡ Some lock → (b : Bool) → ring s.holders c lock ≡ b
      → HasForm s c x (cond b (answer_outcome s c reply.Deadlock Abandoned []) (Waits_for lock))
  hindered_form lock needs true closes = deadlock_form (client s c).tx refl lock needs closes
  hindered_form lock needs false open_still = needs

  lock_form : (o : Option Lock) → lock_needed (client s c).tx x ≡ o → HasForm s c x (outcome_at s c x o)
  lock_form None needs = free_form s c own (client s c).tx refl x
  lock_form (Some lock) needs =
      elim (is_none (slice_get (hinderers s.holders c lock) 0)) as
      (λ b. HasForm s c x (cond b (free_outcome s c (client s c).tx x) (hindered_outcome s c lock))) [
        | true ↦ free_form s c own (client s c).tx refl x
        | false ↦ hindered_form lock needs (ring s.holders c lock) refl
      ]

  outcome_form : HasForm s c x (outcome s c x)
  outcome_form = lock_form (lock_needed (client s c).tx x) refl

-- ---- all clients

pub record AreClientsAt (scripts : Scripts) (s : State) : Type 0 where
  pub clients : length s.clients ≡ suc (length scripts)
  pub holders : length s.holders ≡ suc (length scripts)
  pub each : (c : ℕ) → IsClientAt (script_at scripts c) (client s c) (holder_at s.holders c)

next_first : (lines : List Line) (n : ℕ) (l : Line) → slice_get lines n ≡ Some l → drop n lines ≡ l ∷ drop (n + 1) lines
next_first lines n l is =
    let one : suc n ≡ n + 1 = omega arith in
    drop-cons lines n l (slice_get_within lines n l is)
    ∙ ap (λ k. k ∷ drop (suc n) lines) (get_or_from_slice_get lines n l l is)
    ∙ ap (λ m. l ∷ drop m lines) one

-- the next command may stand where it stands, and what is left behind it is bracketed
next_bracketed : (lines : List Line) (x : Client) (h : Holder) → IsClientAt lines x h → (l : Line)
    → slice_get lines x.done ≡ Some l
    → (may_stand (is_inside x.tx) l.command ≡ true) × (is_bracketed (inside_after (is_inside x.tx) l.command) (drop (x.done + 1) lines) ≡ true)
next_bracketed lines x h is l at_line =
    and_parts (may_stand (is_inside x.tx) l.command) (is_bracketed (inside_after (is_inside x.tx) l.command) (drop (x.done + 1) lines))
    (sym (ap (is_bracketed (is_inside x.tx)) (next_first lines x.done l at_line)) ∙ is.placed)

moved : (lines : List Line) (x y : Client) (h k : Holder) → x ≡ y → h ≡ k → IsClientAt lines x h → IsClientAt lines y k
moved lines x y h k same also is =
    subst (λ (g : Holder). IsClientAt lines y g) also (subst (λ (z : Client). IsClientAt lines z h) same is)

module _ (scripts : Scripts) (s : State) (all : AreClientsAt scripts s) where
  -- one client changes
  changed : (t : State) (c : ℕ) (x : Client) (h : Holder) → c < suc (length scripts) → t.clients ≡ slice_set s.clients c x
      → t.holders ≡ slice_set s.holders c h → IsClientAt (script_at scripts c) x h → AreClientsAt scripts t
  changed t c x h within clients holders is = record {
    clients = ap length clients ∙ length-set s.clients c x ∙ all.clients;
    holders = ap length holders ∙ length-set s.holders c h ∙ all.holders;
    each = λ e. ⊎_elim
        (λ (same : e ≡ c). subst (λ k. IsClientAt (script_at scripts k) (client t k) (holder_at t.holders k)) (sym same)
        (moved (script_at scripts c) x (client t c) h (holder_at t.holders c)
        (sym (ap (λ cs. slice_index_or cs c newcomer) clients
        ∙ get_or-set_same s.clients c x newcomer (omega (arith, within, all.clients))))
        (sym (ap (λ hs. holder_at hs c) holders ∙ holder_same s.holders c h (omega (arith, within, all.holders)))) is))
        (λ other. moved (script_at scripts e) (client s e) (client t e) (holder_at s.holders e) (holder_at t.holders e)
        (sym (ap (λ cs. slice_index_or cs e newcomer) clients ∙ get_or-set_other s.clients c e x newcomer other))
        (sym (ap (λ hs. holder_at hs e) holders ∙ holder_other s.holders c e h other)) (all.each e))
        (cases_eq e c);
  }

  -- an answer
  answered : (c : ℕ) (l : Line) (t : State) → next_line scripts s c ≡ Some l → IsAnswered s c l.command t → AreClientsAt scripts t
  answered c l t at_line is = changed t c (record { done = (client s c).done + 1; tx = is.tx })
      (record { locks = is.locks; waits = None }) (has_script scripts s c l at_line) is.clients is.holders
      (record {
        placed = ap (λ b. is_bracketed b (drop ((client s c).done + 1) (script_at scripts c))) is.inside
            ∙ (next_bracketed (script_at scripts c) (client s c) (holder_at s.holders c) (all.each c) l at_line).1;
        free = is.free;
        waits = inl refl;
      })

  form_of : (c : ℕ) (l : Line) → next_line scripts s c ≡ Some l → HasForm s c l.command (outcome s c l.command)
  form_of c l at_line =
      let lt = has_script scripts s c l at_line in
      outcome_form s c (all.each c).free (omega (arith, lt, all.holders)) l.command

  answered_by : (c : ℕ) (l : Line) (r : Reply) (t : State) → next_line scripts s c ≡ Some l → (o : Outcome)
      → HasForm s c l.command o → if_answers r o ≡ Some t → AreClientsAt scripts t
  answered_by c l r t at_line (Answers given after) form is =
      elim (same_reply r given) as (λ b. cond b (Some after) None ≡ Some t → AreClientsAt scripts t) [
        | true ↦ λ now. subst (AreClientsAt scripts) (same_Some after t now) (answered c l after at_line form)
        | false ↦ λ never. absurd cc
      ] is
  answered_by c l r t at_line (Waits_for lock) form is = absurd cc
  answered_by c l r t at_line Never form is = absurd cc

  answer_step : (c number : ℕ) (r : Reply) (t : State) (o : Option Line) → next_line scripts s c ≡ o
      → if_next number (λ x. if_answers r (outcome s c x)) o ≡ Some t → AreClientsAt scripts t
  answer_step c number r t None at_line is = absurd cc
  answer_step c number r t (Some l) at_line is =
      elim (l.number == number) as (λ b. cond b (if_answers r (outcome s c l.command)) None ≡ Some t → AreClientsAt scripts t) [
        | true ↦ λ now. answered_by c l r t at_line (outcome s c l.command) (form_of c l at_line) now
        | false ↦ λ never. absurd cc
      ] is

  -- a wait
  waits_now : (c : ℕ) (l : Line) (lock : Lock) → next_line scripts s c ≡ Some l → lock_needed (client s c).tx l.command ≡ Some lock
      → AreClientsAt scripts (record s { holders = with_wait s.holders c lock })
  waits_now c l lock at_line needs =
      changed (record s { holders = with_wait s.holders c lock }) c (client s c)
      (record (holder_at s.holders c) { waits = Some lock }) (has_script scripts s c l at_line)
      (sym (set-get_or s.clients c newcomer)) refl
      (record {
        placed = (all.each c).placed;
        free = (all.each c).free;
        waits = inr (sym (ap (option_and_then (λ (k : Line). lock_needed (client s c).tx k.command)) at_line ∙ needs));
      })

  waits_by : (c : ℕ) (l : Line) (t : State) → next_line scripts s c ≡ Some l → (o : Outcome) → HasForm s c l.command o
      → if_waits s c o ≡ Some t → AreClientsAt scripts t
  waits_by c l t at_line (Answers r after) form is = absurd cc
  waits_by c l t at_line (Waits_for lock) form is =
      elim (is_none (holder_at s.holders c).waits) as
      (λ b. cond b (Some (record s { holders = with_wait s.holders c lock })) None ≡ Some t → AreClientsAt scripts t) [
        | true ↦ λ now. subst (AreClientsAt scripts) (same_Some _ t now) (waits_now c l lock at_line form)
        | false ↦ λ never. absurd cc
      ] is
  waits_by c l t at_line Never form is = absurd cc

  wait_step : (c number : ℕ) (t : State) (o : Option Line) → next_line scripts s c ≡ o
      → if_next number (λ x. if_waits s c (outcome s c x)) o ≡ Some t → AreClientsAt scripts t
  wait_step c number t None at_line is = absurd cc
  wait_step c number t (Some l) at_line is =
      elim (l.number == number) as (λ b. cond b (if_waits s c (outcome s c l.command)) None ≡ Some t → AreClientsAt scripts t) [
        | true ↦ λ now. waits_by c l t at_line (outcome s c l.command) (form_of c l at_line) now
        | false ↦ λ never. absurd cc
      ] is

  -- the end of a script
  ended : (c : ℕ) → is_active (client s c).tx ≡ true → AreClientsAt scripts (state_at_end s c)
  ended c active = changed (state_at_end s c) c (record { done = (client s c).done; tx = Abandoned }) nobody
      (has_client scripts s c all.clients active) refl refl
      (record {
        placed = ap (λ b. is_bracketed b (drop (client s c).done (script_at scripts c))) (sym (active_inside (client s c).tx active))
            ∙ (all.each c).placed;
        free = λ _. refl;
        waits = inl refl;
      })
    where
      active_inside : (tx : Transaction) → is_active tx ≡ true → is_inside tx ≡ true
      active_inside Outside is = absurd cc
      active_inside (Active sync changes) is = refl
      active_inside Abandoned is = refl

  end_step : (c number : ℕ) (t : State)
      → cond ((number == 0) && is_none (next_line scripts s c) && is_active (client s c).tx) (Some (state_at_end s c)) None ≡ Some t
      → AreClientsAt scripts t
  end_step c number t is =
      elim ((number == 0) && is_none (next_line scripts s c) && is_active (client s c).tx) as
      (λ b. ((number == 0) && is_none (next_line scripts s c) && is_active (client s c).tx) ≡ b
      → cond b (Some (state_at_end s c)) None ≡ Some t → AreClientsAt scripts t) [
        | true ↦ λ both now. subst (AreClientsAt scripts) (same_Some _ t now)
            (ended c (and_parts ((number == 0) && is_none (next_line scripts s c)) (is_active (client s c).tx) both).1)
        | false ↦ λ _ never. absurd cc
      ] refl is

  reappend_step : (c number : ℕ) (id key : List ℕ) (t : State)
      → cond ((c == 0) && (number == 0) && is_some (at s.maps (id, key)) && is_free s.holders (OnKey id key)) (Some s) None ≡ Some t
      → AreClientsAt scripts t
  reappend_step c number id key t is =
      elim ((c == 0) && (number == 0) && is_some (at s.maps (id, key)) && is_free s.holders (OnKey id key)) as
      (λ b. cond b (Some s) None ≡ Some t → AreClientsAt scripts t) [
        | true ↦ λ now. subst (AreClientsAt scripts) (same_Some s t now) all
        | false ↦ λ never. absurd cc
      ] is

  by_what : (c number : ℕ) (w : What) (t : State) → next_by scripts s c number w ≡ Some t → AreClientsAt scripts t
  by_what c number (what.Answered r) t is = answer_step c number r t (next_line scripts s c) refl is
  by_what c number what.Waits t is = wait_step c number t (next_line scripts s c) refl is
  by_what c number (what.Reappend id key) t is = reappend_step c number id key t is
  by_what c number what.End t is = end_step c number t is

-- ---- histories

placed_after : (scripts : Scripts) (es : List Event) (s t : State) → AreClientsAt scripts s → run scripts s es ≡ Some t
    → AreClientsAt scripts t
placed_after scripts [] s t all is = subst (AreClientsAt scripts) (same_Some s t is) all
placed_after scripts (e ∷ es) s t all is =
    elim (next scripts s e) as
    (λ o. next scripts s e ≡ o → option_and_then (λ u. run scripts u es) o ≡ Some t → AreClientsAt scripts t) [
      | None ↦ λ _ never. absurd cc
      | Some u ↦ λ one rest. placed_after scripts es u t (by_what scripts s all e.client e.line e.what u one) rest
    ] refl is

placed_at_start : (scripts : Scripts) (m : Maps) (last : ℕ)
    → ((c : ℕ) → is_bracketed false (script_at scripts c) ≡ true) → AreClientsAt scripts (start m last (length scripts))
placed_at_start scripts m last are =
    let n = length scripts in
    record {
      clients = ap suc (length-replicate n newcomer);
      holders = ap suc (length-replicate n nobody);
      each = λ c. moved (script_at scripts c) newcomer (client (start m last n) c) nobody (holder_at (start m last n).holders c)
          (sym (same_everywhere n c newcomer)) (sym (same_everywhere n c nobody))
          (record { placed = are c; free = λ _. refl; waits = inl refl });
    }

-- In every history each client is where its script says.
pub clients_are_placed : (scripts : Scripts) (m : Maps) (last : ℕ) (es : List Event) (s : State)
    → ((c : ℕ) → is_bracketed false (script_at scripts c) ≡ true) → run scripts (start m last (length scripts)) es ≡ Some s
    → (c : ℕ) → IsClientAt (script_at scripts c) (client s c) (holder_at s.holders c)
clients_are_placed scripts m last es s are is =
    (placed_after scripts es (start m last (length scripts)) s (placed_at_start scripts m last are) is).each

-- ---- what follows for the next command

-- it may stand where it stands
pub next_may_stand : (lines : List Line) (x : Client) (h : Holder) → IsClientAt lines x h → (l : Line)
    → slice_get lines x.done ≡ Some l → may_stand (is_inside x.tx) l.command ≡ true
next_may_stand lines x h is l at_line = (next_bracketed lines x h is l at_line).0

-- where it needs no lock, nothing is waited for
pub nothing_is_waited_for : (lines : List Line) (x : Client) (h : Holder) → IsClientAt lines x h → (l : Line)
    → slice_get lines x.done ≡ Some l → lock_needed x.tx l.command ≡ None → h.waits ≡ None
nothing_is_waited_for lines x h is l at_line needs = ⊎_elim
    (λ (none : h.waits ≡ None). none)
    (λ wanted. wanted ∙ ap (option_and_then (λ (k : Line). lock_needed x.tx k.command)) at_line ∙ needs)
    is.waits

-- so its client's locks stay where the command leaves them
pub holders_stay : (hs : List Holder) (c : ℕ) → (holder_at hs c).waits ≡ None
    → slice_set hs c (record { locks = (holder_at hs c).locks; waits = None }) ≡ hs
holders_stay hs c none =
    ap (λ w. slice_set hs c (record { locks = (holder_at hs c).locks; waits = w })) (sym none) ∙ set-get_or hs c nobody
