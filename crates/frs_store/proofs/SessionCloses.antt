-- What is known of a session that ends: what its journal took is a front of what its book drew, so a crash leaves a front
-- of the records; and where all was written, the store is ready again.
use Rattle.std.proofs.Common.{◌≡◌, ◌⊎◌, inl, inr, ℕ, suc, ◌+◌, ◌-◌, ◌≤◌, ◌==◌, nat_le, ◌&&◌, Bool, true, false, cond, zero, List, [], ◌∷◌, ◌++◌, length, map, take, drop, Option, Some, None, IsTrue}
use Rattle.std.proofs.Common.{refl, sym, ap, ◌∙◌, subst, arith, Result, Ok, Err, length-append, take-append-drop}
use Rattle.std.specs.Prelude.{OnOk, OnErr}
use Rattle.std.specs.Result.{result_err}
use Rattle.std.specs.FinMap.{entries}
use Rattle.std.proofs.Math.Seq.{take-append_seam}
use Rattle.std.proofs.lemmas.Bool.{and_parts, and_from, le-leb}
use Rattle.std.proofs.lemmas.List.{append_assoc, drop-append-le, length-drop, length-map, take-append-le, take-map}
use Rattle.std.proofs.lemmas.List.Elements.{filter-append}
use mathlib.Core.List.{IsPrefix}
use Rattle.frs_types.specs.declared.record.Record.{Record}
use Rattle.frs_types.specs.Records.{Log, IsPlaced, are_placed_from, is_allowed, named_lowest, from_lowest, next_lsn}
use Rattle.frs_types.specs.Lawful.{settled_state, lowest, Lawful}
use Rattle.frs_types.proofs.LogStates.{lawful_front}
use Rattle.frs_types.proofs.LowestRises.{least_at_most, needed, named_at_least, named_at_most}
use Rattle.frs_disk.specs.declared.disk.Disk.{Ghosts}
use Rattle.frs_disk.specs.Disk.{Image}
use Rattle.frs_disk.specs.Frames.{Within, GoesOn, RemovesBelow}
use Rattle.frs_disk.proofs.Moments.{passes_none}
use Rattle.frs_frame.specs.Spelling.{spelling}
use Rattle.frs_segment.specs.Segments.{Spells}
use Rattle.frs_segment.specs.Stores.{SpellsAlike, LeavesAlike}
use Rattle.frs_recovery.specs.Sound.{IsReady}
use Rattle.frs_slots.specs.Views.{next_drawn}
use Rattle.frs_writer.specs.Writer.{IsLog}
use Rattle.frs_writer.specs.Writing.{SpellsFrom, OfPlacedLog}
use Rattle.frs_writer.proofs.LongerLog.{with_more}
use Rattle.frs_history.specs.declared.event.Ack.{Ack}
use Rattle.frs_book.specs.Drawn.{SessionHistory, drawn_records, acks_owed}
use Rattle.frs_book.specs.Books.{BookView, IsBook, SameSession, closed_session}
use Rattle.frs_book.proofs.BookGoesOn.{next_behind}
use Rattle.frs_store.specs.declared.stop.Stop.{Stop}
use Rattle.frs_store.specs.declared.store.Store.{Store}
use Rattle.frs_store.specs.Closed.{EndsOnReady, IsStoreAtEnd, IsClosed}
use Rattle.frs_store.specs.Journal.{IsJournal}
use Rattle.frs_store.specs.Session.{SessionView, IsUnderWay, IsOnStore, IsOfSession, IsGoing, SameStart, HasStopCause, MissesAtMostOne, faults_of}
use Rattle.frs_store.specs.Stops.{StopHasCause, StopMet}
use Rattle.frs_store.specs.SessionEnd.{SessionEnd, IsSessionEnd, SpellsFront, MissesAtMostLast, acks_of, opening_mark, records_with, state_of}
use Rattle.frs_store.proofs.ContinuedLog.{placed, goes_on}
use Rattle.frs_store.proofs.MetStops.{stop_met}
use Rattle.frs_store.proofs.RecoveredCommits.{all_lawful, front_lawful}

-- ---- lists

-- without some at their front, records stand in their places
placed_behind : (k low n : ℕ) (rs : List Record) → are_placed_from low n rs ≡ true → are_placed_from 0 (n + k) (drop k rs) ≡ true
placed_behind zero low n [] all = refl
placed_behind zero low n (r ∷ rs) all =
    let both = and_parts (is_allowed n r && nat_le low r.lowest) (are_placed_from r.lowest (n + 1) rs) all in
    let may = and_parts (is_allowed n r) (nat_le low r.lowest) both.0 in
    let here : n + 0 ≡ n = omega arith in
    subst (λ k. are_placed_from 0 k (r ∷ rs) ≡ true) (sym here) (and_from _ _ (and_from _ _ may.0 (le-leb 0 r.lowest (omega arith))) both.1)
placed_behind (suc k) low n [] all = refl
placed_behind (suc k) low n (r ∷ rs) all =
    let both = and_parts (is_allowed n r && nat_le low r.lowest) (are_placed_from r.lowest (n + 1) rs) all in
    let place : n + 1 + k ≡ n + suc k = omega arith in
    subst (λ m. are_placed_from 0 m (drop k rs) ≡ true) place (placed_behind k r.lowest (n + 1) rs both.1)

no_more : (c : ℕ) (acks : List Ack) → length (acks_of c acks) ≤ length acks
no_more c [] = omega arith
no_more c (a ∷ acks) = by (a.client == c) (no_more c acks)
  where
    by : (b : Bool) → length (acks_of c acks) ≤ length acks → length (cond b (a ∷ acks_of c acks) (acks_of c acks)) ≤ suc (length acks)
    by true rest = omega (arith, rest)
    by false rest = omega (arith, rest)

-- where one is missing at most, of each client one is missing at most
each_misses_one : (owed acks : List Ack) → MissesAtMostOne owed acks → MissesAtMostLast owed acks
each_misses_one owed acks (rest, is, most) c = (
  acks_of c rest,
  ap (acks_of c) is ∙ filter-append (λ (a : Ack). a.client == c) acks rest,
  (let fewer : length (acks_of c rest) ≤ length rest = no_more c rest in omega (arith, fewer, most)),
)

-- ---- the log of a session on a ready store

module _ {D : Type 0} (g : Ghosts D) (s : Store D) (is : IsOfSession g s) (journal : IsJournal g s.journal) (book : IsBook s.book)
    (prefix : IsPrefix s.journal.writer.taker.taken s.book.drawer.drawn)
    (told : IsTrue (g.tells s.journal.start)) (ready : IsReady g s.journal.start) where
  pub on : IsOnStore g s
  on = is.store told ready

  abbrev before : List Record
  before = on.before

  abbrev all : List Record
  all = records_with before s.book.session

  abbrev drawn : List Record
  drawn = opening_mark before ∷ drawn_records s.book.session

  abbrev taken : List Record
  taken = take (length s.journal.writer.taker.taken) drawn

  abbrev untaken : List Record
  untaken = drop (length s.journal.writer.taker.taken) drawn

  drawn_bytes : s.book.drawer.drawn ≡ map spelling drawn
  drawn_bytes = book.drawn ∙ ap (λ (bytes : List (List ℕ)). bytes ++ map spelling (drawn_records s.book.session)) on.mark

  taken_bytes : s.journal.writer.taker.taken ≡ map spelling taken
  taken_bytes =
      let n : ℕ = length s.journal.writer.taker.taken in
      sym (take-append_seam s.journal.writer.taker.taken prefix.0) ∙ ap (take n) prefix.1 ∙ ap (take n) drawn_bytes ∙ take-map spelling n drawn

  parts : (before ++ taken) ++ untaken ≡ all
  parts = append_assoc before taken untaken ∙ ap (λ (rs : List Record). before ++ rs) (take-append-drop (length s.journal.writer.taker.taken) drawn)

  lawful : Lawful [] 1 (before ++ taken)
  lawful = lawful_front [] 1 (before ++ taken) untaken (subst (Lawful [] 1) (sym parts) (all_lawful before s.book.session on.begins book.session))

  abbrev log : Log
  log = with_more (from_lowest 1 before) taken

  its_log : IsLog g s.journal.writer log
  its_log = record { base = from_lowest 1 before; spelled = on.spelled; taken = taken; bytes = taken_bytes; is = refl }

  one : 1 ≤ named_lowest before
  one = named_at_least before on.begins.lawful

  inside : named_lowest before - 1 ≤ length before
  inside =
      let named : named_lowest before ≤ lowest (state_of before) = named_at_most before on.begins.lawful in
      let below : lowest (state_of before) ≤ (state_of before).next = least_at_most (state_of before).next (needed (state_of before)) in
      let next : (state_of before).next ≡ 1 + length before = next_behind before (settled_state [] 1) in
      omega (arith, named, below, next)

  its_placed : IsPlaced log
  its_placed =
      let k : ℕ = named_lowest before - 1 in
      let first : 1 + k ≡ named_lowest before = omega (arith, one) in
      let cut : are_placed_from 0 (1 + k) (drop k (before ++ taken)) ≡ true = placed_behind k 0 1 (before ++ taken) (placed (before ++ taken) lawful) in
      subst (λ n. are_placed_from 0 n (drop k before ++ taken) ≡ true) first
      (subst (λ (rs : List Record). are_placed_from 0 (1 + k) rs ≡ true) (drop-append-le k before taken inside) cut)

  log_next : next_lsn log ≡ 1 + length before + length taken
  log_next =
      let both : length log.records ≡ length (drop (named_lowest before - 1) before) + length taken = length-append (drop (named_lowest before - 1) before) taken in
      let left : length (drop (named_lowest before - 1) before) ≡ length before - (named_lowest before - 1) = length-drop (named_lowest before - 1) before in
      omega (arith, both, left, one, inside)

  -- up to an LSN that isn't before the last one at the start, the log is a front of all records
  spells_front : (low : ℕ) → length before ≤ low → (c : Image) → SpellsFrom low log c → SpellsFront low all c
  spells_front low le c (n, least, below, spells) =
      let count : length (before ++ taken) ≡ length before + length taken = length-append before taken in
      let whole : length all ≡ length (before ++ taken) + length untaken = ap length (sym parts) ∙ length-append (before ++ taken) untaken in
      let within : n ≤ length (before ++ taken) = omega (arith, below, log_next, count) in
      let front : take n (before ++ taken) ≡ take n all =
      sym (take-append-le n (before ++ taken) untaken within) ∙ ap (take n) parts in (
        n,
        least,
        (let most : n ≤ length all = omega (arith, within, whole) in most),
        subst (Spells (entries c)) (goes_on before taken log n lawful refl (omega (arith, le, least)) ∙ ap (from_lowest 1) front) spells,
      )

  durable_before : length before ≤ s.journal.durable
  durable_before = omega (arith, on.durable)

  least_synced : length before ≤ s.journal.writer.synced
  least_synced = omega (arith, on.durable, journal.least)

  crash_leaves : Within g s.journal.start s.journal.writer.disk (SpellsFront (length before) all)
  crash_leaves c left =
      subst (λ n. SpellsFront n all c) on.durable
      (spells_front s.journal.durable durable_before c (journal.since told ready.alike log its_log its_placed c left))

  left_now : (c : Image) → g.may_leave s.journal.writer.disk c → SpellsFront s.journal.writer.synced all c
  left_now c left = spells_front s.journal.writer.synced least_synced c (journal.now told ready.alike log its_log its_placed c left)

  abbrev pub the_end : SessionEnd
  the_end = record { before = before; session = s.book.session; acks = s.book.acks; synced = s.journal.writer.synced }

  -- what the files spelled at the start
  pub spelled_at_start : Spells (entries (g.reads s.journal.start)) (from_lowest 1 before)
  spelled_at_start = subst (λ (files : Image). Spells (entries files) (from_lowest 1 before)) journal.looked.seen on.spelled

  pub session_ends : MissesAtMostOne (acks_owed s.book.session) s.book.acks → IsSessionEnd g s.journal.start s.journal.writer.disk the_end
  session_ends owed = record {
    begins = on.begins;
    legal = book.session;
    owed = each_misses_one (acks_owed s.book.session) s.book.acks owed;
    acked = is.acked;
    least = least_synced;
    crash = crash_leaves;
    now = left_now;
  }

  pub all_synced : s.journal.writer.synced + 1 ≡ next_drawn s.book.drawer → s.journal.writer.synced ≡ length all
  all_synced synced =
      let count : length s.book.drawer.drawn ≡ suc (length (drawn_records s.book.session)) = ap length drawn_bytes ∙ length-map drawn spelling in
      let whole : length all ≡ length before + suc (length (drawn_records s.book.session)) = length-append before drawn in
      let first : s.book.drawer.first ≡ s.journal.writer.taker.first = is.one_ring.1 in
      omega (arith, synced, count, whole, first, journal.first, on.durable)

  -- where nothing was cut short, the disk is ready again
  pub ready_again : ((disk : D) → IsTrue (g.tells disk) → g.may_leave disk (g.reads disk))
      → (IsTrue (g.tells s.journal.writer.disk) → OfPlacedLog g s.journal.writer (λ log. LeavesAlike g s.journal.writer.disk))
      → (IsTrue (g.tells s.journal.writer.disk) → RemovesBelow g s.journal.writer.disk) → IsReady g s.journal.writer.disk
  ready_again as_read alike removed =
      let now : IsTrue (g.tells s.journal.writer.disk) = subst IsTrue (sym journal.frame.told) told in
      let (n, least, most, spells) = left_now (g.reads s.journal.writer.disk) (as_read s.journal.writer.disk now) in
      let well : LeavesAlike g s.journal.writer.opened = λ c left.
      subst (λ (files : Image). SpellsAlike (entries files) (entries c)) (sym journal.looked.seen) (ready.alike c (journal.looked.crash c left)) in
      record {
        sound = (take n all, front_lawful before s.book.session on.begins book.session n, spells);
        alike = alike now well log its_log its_placed;
        removed = removed now;
      }

-- ---- the closing of the store

pub some_none : {T : Type 0} {x : T} → Some x ≡ None → ⊥
some_none is = absurd cc

-- nothing was done
pub same_start : {D : Type 0} (g : Ghosts D) (s : Store D) → SameStart g s s
same_start g s = record {
  start = refl;
  number = refl;
  durable = refl;
  opened = refl;
  frame = record { told = refl; time = passes_none g s.journal.writer.disk };
}

module _ {D : Type 0} (g : Ghosts D) (s : SessionView D) (is : IsUnderWay g s) where
  -- the session had stopped
  pub kept_at_end : (stop : Stop) → s.stop ≡ Some stop → IsStoreAtEnd g s s.store (Some stop)
  kept_at_end stop some = record {
    session = is.session;
    same = same_start g s.store;
    at_end = record {
      session = inl refl;
      state = refl;
      acks = refl;
      owed = is.owed;
      kept = λ old was. (sym some ∙ was, refl, refl);
      met = λ none. absurd (some_none (sym some ∙ none));
      all = λ none. absurd (some_none none);
    };
    cause = λ none. absurd (some_none (sym some ∙ none));
    going = λ none. absurd (some_none none);
    durable = λ none. absurd (some_none none);
  }

  -- the store was closed, and has answered this
  module _ (new : Store D) (asks_nothing : acks_owed (closed_session s.store.book.session) ≡ acks_owed s.store.book.session)
      (none : s.stop ≡ None) (session : IsOfSession g new) (same : SameStart g s.store new)
      (state : new.book.state ≡ s.store.book.state) (acks : new.book.acks ≡ s.store.book.acks) (journal : IsJournal g new.journal) (book : IsBook new.book) where
    owed_by : (h : SessionHistory) → new.book.session ≡ h → acks_owed h ≡ acks_owed s.store.book.session
        → MissesAtMostOne (acks_owed new.book.session) new.book.acks
    owed_by h its same_owed =
        subst (λ (made : List Ack). MissesAtMostOne (acks_owed new.book.session) made) (sym acks)
        (subst (λ (owed : List Ack). MissesAtMostOne owed s.store.book.acks) (sym (ap acks_owed its ∙ same_owed)) is.owed)

    owed_now : (new.book.session ≡ s.store.book.session) ⊎ (new.book.session ≡ closed_session s.store.book.session)
        → MissesAtMostOne (acks_owed new.book.session) new.book.acks
    owed_now (inl still) = owed_by s.store.book.session still refl
    owed_now (inr closed) = owed_by (closed_session s.store.book.session) closed asks_nothing

    pub closed_at_end : {T : Type 0} (r : Result T Stop) → OnOk r (IsGoing g new)
        → OnOk r (new.journal.writer.synced + 1 ≡ next_drawn new.book.drawer)
        → OnOk r (new.book.session ≡ closed_session s.store.book.session)
        → OnErr r ((new.book.session ≡ s.store.book.session) ⊎ (new.book.session ≡ closed_session s.store.book.session))
        → HasStopCause g s.store new r → IsStoreAtEnd g s new (result_err r)
    closed_at_end (Ok done) going durable closed refused cause = record {
      session = session;
      same = same;
      at_end = record {
        session = inr closed;
        state = state;
        acks = acks;
        owed = owed_now (inr closed);
        kept = λ old was. absurd (some_none (sym was ∙ none));
        met = λ _ stop met. absurd (some_none (sym met));
        all = λ _. (ap acks_owed closed ∙ asks_nothing ∙ is.settled none ∙ sym acks, closed, cause);
      };
      cause = λ _ stop met. absurd (some_none (sym met));
      going = λ _. going.filled.going;
      durable = λ _. durable;
    }
    closed_at_end (Err stop) going durable closed refused cause = record {
      session = session;
      same = same;
      at_end = record {
        session = refused;
        state = state;
        acks = acks;
        owed = owed_now refused;
        kept = λ old was. absurd (some_none (sym was ∙ none));
        met = λ _ other told. (let its : stop ≡ other = cc in
            subst (StopMet (faults_of g s.store) (faults_of g new) s.store.journal.number new.book.session) its
            (subst (λ n. StopMet (faults_of g s.store) (faults_of g new) n new.book.session stop) same.number
            (stop_met g new session journal book (faults_of g s.store) (faults_of g new) stop cause)));
        all = λ no. absurd (some_none no);
      };
      cause = λ _ other told. (let its : stop ≡ other = cc in
          subst (StopHasCause (faults_of g s.store) (faults_of g new) (next_drawn new.book.drawer) new.journal.writer) its cause);
      going = λ no. absurd (some_none no);
      durable = λ no. absurd (some_none no);
    }

-- ---- the session once its store was closed

-- nothing of a book has changed
pub same_book : (old new : BookView) → SameSession old new → new.drawer ≡ old.drawer → new ≡ old
same_book old new same drawer i = record {
  session = same.session i;
  state = same.state i;
  acks = same.acks i;
  drawer = drawer i;
  before = same.before i;
}

module _ {D : Type 0} (g : Ghosts D) (s : SessionView D) (last : Store D) (stop : Option Stop) (ended : IsStoreAtEnd g s last stop)
    (known : ℕ) where
  -- its ends were brought together
  abbrev pub met : Store D
  met = record last { journal = record last.journal { writer = record last.journal.writer { taker = record last.journal.writer.taker { known = known } } } }

  met_session : IsOfSession g met
  met_session =
      let is = ended.session in
      record {
        one_ring = is.one_ring;
        taken = is.taken;
        clients = is.clients;
        one = is.one;
        opening = is.opening;
        acked = is.acked;
        store = λ told ready. let on = is.store told ready in record {
          before = on.before;
          begins = on.begins;
          spelled = on.spelled;
          durable = on.durable;
          mark = on.mark;
        };
      }

  module _ (journal : IsJournal g met.journal) (book : IsBook last.book) (prefix : IsPrefix last.journal.writer.taker.taken last.book.drawer.drawn) where
    ends_on : IsTrue (g.tells last.journal.start) → IsReady g last.journal.start
        → EndsOnReady g last.journal.start (record { book = last.book; disk = last.journal.writer.disk; stop = stop })
    ends_on told ready = record {
      «end» = the_end g met met_session journal book prefix told ready;
      spelled = spelled_at_start g met met_session journal book prefix told ready;
      session = refl;
      acks = refl;
      is = session_ends g met met_session journal book prefix told ready ended.at_end.owed;
      all = λ none. all_synced g met met_session journal book prefix told ready (ended.durable none);
    }

    told_at : IsTrue (g.tells s.store.journal.start) → IsTrue (g.tells last.journal.start)
    told_at = subst (λ disk. IsTrue (g.tells disk)) (sym ended.same.start)

    ready_at : IsReady g s.store.journal.start → IsReady g last.journal.start
    ready_at = subst (IsReady g) (sym ended.same.start)

    pub closes : ((disk : D) → IsTrue (g.tells disk) → g.may_leave disk (g.reads disk))
        → (last.journal.writer.ended ≡ None → IsTrue (g.tells last.journal.writer.disk)
        → OfPlacedLog g met.journal.writer (λ log. LeavesAlike g last.journal.writer.disk))
        → (last.journal.writer.ended ≡ None → IsTrue (g.tells last.journal.writer.disk) → RemovesBelow g last.journal.writer.disk)
        → IsClosed g s (record { book = last.book; disk = last.journal.writer.disk; stop = stop })
    closes as_read alike pending = record {
      frame = ended.same.frame;
      since = subst (λ disk. GoesOn g disk last.journal.writer.disk) ended.same.start journal.frame;
      book = book;
      ends = λ told ready.
          subst (λ disk. EndsOnReady g disk (record { book = last.book; disk = last.journal.writer.disk; stop = stop })) ended.same.start
          (ends_on (told_at told) (ready_at ready));
      at_end = ended.at_end;
      removed = λ none. pending (ended.going none);
      again = λ none told ready. ready_again g met met_session journal book prefix (told_at told) (ready_at ready) as_read
          (alike (ended.going none)) (pending (ended.going none));
    }
