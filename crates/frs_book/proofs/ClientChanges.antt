-- The agreement after one client has changed, with the log, and all other clients are as they were.
use Rattle.std.proofs.Common.{◌≡◌, ◌≢◌, ⊎_elim, ℕ, suc, ◌<◌, ◌≤◌, true}
use Rattle.std.proofs.Common.{map, length, sym, ap, ◌∙◌, subst, arith}
use Rattle.std.specs.Prelude.{slice_set}
use Rattle.std.specs.List.{AllByRecursion, list_any}
use Rattle.std.proofs.lemmas.Bool.{cases_eq}
use Rattle.std.proofs.lemmas.List.{get_or-set_same, get_or-set_other, length-set}
use Rattle.frs_types.specs.Maps.{Maps, IsTable}
use Rattle.frs_types.specs.Locks.{Holder, holder_at, same_lock}
use Rattle.frs_types.specs.Lawful.{Open, LogState, plain_maps, is_open_tx, changes_of, lock_of}
use Rattle.frs_types.specs.ChangeLists.{plain_change}
use Rattle.frs_history.specs.Machine.{Client, Transaction, State, Scripts, client, newcomer}
use Rattle.frs_history.specs.Machine.Transaction.{Outside, Active, Abandoned}
use Rattle.frs_locks.proofs.NoRing.{holder_same, holder_other}
use Rattle.frs_book.specs.Drawn.{Drawing, begin_of}
use Rattle.frs_book.specs.Agreement.{AreStoredBefore, IsOpenOf, IsDrawnBy, Agreement}
use Rattle.frs_book.proofs.EachStored.{each_to, changes_later}

-- ---- the client's transaction in another log

pub drawn_still : (old log : LogState) (b : ℕ) (tx : Transaction) (h : Holder) → old.next ≤ log.next
    → (0 < b → (is_open_tx log.active b ≡ is_open_tx old.active b) × (changes_of log.active b ≡ changes_of old.active b))
    → IsDrawnBy old b tx h → IsDrawnBy log b tx h
drawn_still old log b Outside h le same is = is
drawn_still old log b Abandoned h le same is = is
drawn_still old log b (Active sync changes) h le same is =
    let now = same is.0 in
    (is.0, omega (arith, is.1), now.0 ∙ is.2, ap (map plain_change) now.1 ∙ is.3)

module _ (scripts : Scripts) (s : State) (d : Drawing) (agrees : Agreement scripts s d) (c : ℕ)
    (within : c < suc (length scripts)) where
  module _ (m : Maps) (last : ℕ) (x : Client) (h : Holder) (log : LogState) (b : ℕ) where
    abbrev pub state_with : State
    state_with = record {
      maps = m;
      last = last;
      clients = slice_set s.clients c x;
      holders = slice_set s.holders c h;
    }

    abbrev pub drawing_with : Drawing
    drawing_with = record { log = log; begins = slice_set d.begins c b }

    pub own_begin : begin_of drawing_with c ≡ b
    own_begin = get_or-set_same d.begins c b 0 (omega (arith, within, agrees.begins))

    pub other_begin : (e : ℕ) → e ≢ c → begin_of drawing_with e ≡ begin_of d e
    other_begin e other = get_or-set_other d.begins c e b 0 other

    own_client : client state_with c ≡ x
    own_client = get_or-set_same s.clients c x newcomer (omega (arith, within, agrees.clients))

    other_client : (e : ℕ) → e ≢ c → client state_with e ≡ client s e
    other_client e other = get_or-set_other s.clients c e x newcomer other

    pub own_holder : holder_at state_with.holders c ≡ h
    own_holder = holder_same s.holders c h (omega (arith, within, agrees.holders))

    other_holder : (e : ℕ) → e ≢ c → holder_at state_with.holders e ≡ holder_at s.holders e
    other_holder e other = holder_other s.holders c e h other

    -- ---- open transactions

    -- that of another client
    pub open_of_other : d.log.next ≤ log.next → (o : Open) → begin_of d c ≢ o.begin → IsOpenOf s d o
        → IsOpenOf state_with drawing_with o
    open_of_other le o not_own is =
        let apart : is.client ≢ c = λ same. not_own (sym (ap (begin_of d) same) ∙ is.begin) in
        record {
          client = is.client;
          begin = other_begin is.client apart ∙ is.begin;
          above = is.above;
          changes = changes_later d.log.next log.next le o.changes is.changes;
          locks = subst (λ (k : Holder). AllByRecursion (λ y. list_any (same_lock (lock_of y)) k.locks ≡ true) o.changes)
              (sym (other_holder is.client apart)) is.locks;
        }

    -- that of this client, or of another, where this client keeps its begin and its locks
    pub open_of_any : d.log.next ≤ log.next → b ≡ begin_of d c
        → ((l : _) → list_any (same_lock l) (holder_at s.holders c).locks ≡ true → list_any (same_lock l) h.locks ≡ true)
        → (o : Open) → IsOpenOf s d o → IsOpenOf state_with drawing_with o
    open_of_any le same_begin keeps o is = ⊎_elim
        (λ (own : is.client ≡ c). record {
          client = c;
          begin = own_begin ∙ same_begin ∙ sym (ap (begin_of d) own) ∙ is.begin;
          above = is.above;
          changes = changes_later d.log.next log.next le o.changes is.changes;
          locks = subst (λ (k : Holder). AllByRecursion (λ y. list_any (same_lock (lock_of y)) k.locks ≡ true) o.changes)
              (sym own_holder)
              (each_to (λ y. list_any (same_lock (lock_of y)) (holder_at s.holders is.client).locks ≡ true) _
              (λ y held. keeps (lock_of y)
              (ap (λ e. list_any (same_lock (lock_of y)) (holder_at s.holders e).locks) (sym own) ∙ held)) o.changes is.locks);
        })
        (λ other. open_of_other le o
        (λ same. other (agrees.apart is.client c (omega (arith, is.begin, is.above)) (is.begin ∙ sym same))) is)
        (cases_eq is.client c)

    -- ---- the agreement

    pub agrees_with : m ≡ plain_maps log.entries → IsTable log.entries → 0 < log.next
        → AreStoredBefore log.next log.entries → IsDrawnBy log b x.tx h
        → ((e : ℕ) → e ≢ c → IsDrawnBy log (begin_of d e) (client s e).tx (holder_at s.holders e))
        → ((e : ℕ) → e ≢ c → 0 < b → b ≢ begin_of d e)
        → AllByRecursion (IsOpenOf state_with drawing_with) log.active → Agreement scripts state_with drawing_with
    agrees_with maps sorted next stored own others differs owned = record {
      maps = maps;
      sorted = sorted;
      next = next;
      stored = stored;
      clients = length-set s.clients c x ∙ agrees.clients;
      holders = length-set s.holders c h ∙ agrees.holders;
      begins = length-set d.begins c b ∙ agrees.begins;
      drawn = λ e. ⊎_elim
          (λ (is : e ≡ c). subst (λ k. IsDrawnBy log (begin_of drawing_with k) (client state_with k).tx (holder_at state_with.holders k)) (sym is)
          (subst (λ n. IsDrawnBy log n (client state_with c).tx (holder_at state_with.holders c)) (sym own_begin)
          (subst (λ (k : Client). IsDrawnBy log b k.tx (holder_at state_with.holders c)) (sym own_client)
          (subst (IsDrawnBy log b x.tx) (sym own_holder) own))))
          (λ other. subst (λ n. IsDrawnBy log n (client state_with e).tx (holder_at state_with.holders e)) (sym (other_begin e other))
          (subst (λ (k : Client). IsDrawnBy log (begin_of d e) k.tx (holder_at state_with.holders e)) (sym (other_client e other))
          (subst (IsDrawnBy log (begin_of d e) (client s e).tx) (sym (other_holder e other)) (others e other))))
          (cases_eq e c);
      apart = λ f e above same. ⊎_elim
          (λ (is : f ≡ c). ⊎_elim
          (λ (also : e ≡ c). is ∙ sym also)
          (λ other.
          let own : begin_of drawing_with f ≡ b = ap (begin_of drawing_with) is ∙ own_begin in
          absurd (differs e other (omega (arith, own, above)) (sym own ∙ same ∙ other_begin e other)))
          (cases_eq e c))
          (λ apart. ⊎_elim
          (λ (also : e ≡ c).
          let own : begin_of drawing_with e ≡ b = ap (begin_of drawing_with) also ∙ own_begin in
          let its : begin_of drawing_with f ≡ begin_of d f = other_begin f apart in
          absurd (differs f apart (omega (arith, own, above, same)) (sym own ∙ sym same ∙ its)))
          (λ other.
          let its : begin_of drawing_with f ≡ begin_of d f = other_begin f apart in
          agrees.apart f e (omega (arith, its, above)) (sym its ∙ same ∙ other_begin e other))
          (cases_eq e c))
          (cases_eq f c);
      owned = owned;
    }
