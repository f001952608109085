-- What holds of a book holds once its history has gone on by an event, its closing mark was drawn, or an acknowledgement
-- was made; and what its records' fields are.
use Rattle.std.proofs.Common.{◌≡◌, ℕ, ◌+◌, ◌-◌, ◌<◌, ◌≤◌, Bool, true, false, cond, ◌==◌, ◌&&◌, List, [], ◌∷◌, ◌++◌}
use Rattle.std.proofs.Common.{Option, Some, None, length, map, refl, sym, ap, ◌∙◌, subst, arith, option_to_list, option_map}
use Rattle.std.proofs.Common.{append_assoc, append-nil, is_some, eqb-true}
use Rattle.std.proofs.lemmas.Bool.{and_parts}
use Rattle.std.proofs.Math.Seq.{take-length}
use Rattle.std.specs.Prelude.{count_by}
use Rattle.std.proofs.lemmas.List.{map-append, length-append, length-map, take-append-le}
use Rattle.std.proofs.lemmas.List.Sums.{sum_by-append}
use Rattle.frs_types.specs.declared.record.Action.{Action}
use Rattle.frs_types.specs.declared.record.Action.TheVariants.{Mark}
use Rattle.frs_types.specs.declared.record.Record.{Record}
use Rattle.frs_types.specs.Maps.{Table, IsTable}
use Rattle.frs_types.specs.Lawful.{StoredValue, LogState, after_record, state_after}
use Rattle.frs_types.proofs.StateIsRead.{next_after}
use Rattle.frs_frame.specs.Spelling.{spelling}
use Rattle.frs_slots.specs.Views.{DrawerView, next_drawn}
use Rattle.frs_history.specs.declared.event.Ack.{Ack}
use Rattle.frs_history.specs.declared.event.Event.{Event}
use Rattle.frs_history.specs.Machine.{State, Scripts}
use Rattle.frs_history.specs.Histories.{next, run}
use Rattle.frs_book.specs.Drawn.{SessionHistory, Drawing, action_at, record_for, draw_step, drawn_records}
use Rattle.frs_book.specs.Drawn.{draw_steps, drawing_of, acks_owed, ack_at}
use Rattle.frs_book.specs.Agreement.{Agreement, AreWorded, has_words_if, is_quiet, may_close, begun, IsSession, AreStoredBefore}
use Rattle.frs_book.specs.Books.{BookView, IsBook, IsAmong, is_same_ack, moment_of, event_lsn, new_book}
use Rattle.frs_book.proofs.HistoryRuns.{session_is_shown}
use Rattle.frs_book.proofs.OneMoreEvent.{run_one_more, with_event, with_mark, records_with_event, acks_with_event}
use Rattle.frs_book.proofs.OneMoreEvent.{records_with_mark, acks_with_mark}

-- ---- lists

words_joined : (rs qs : List Record) → AreWorded rs → AreWorded qs → AreWorded (rs ++ qs)
words_joined [] qs all more = more
words_joined (r ∷ rs) qs all more = (all.0, words_joined rs qs all.1 more)

words_of_one : (d : Drawing) (c : ℕ) (a : Option Action) → has_words_if a ≡ true
    → AreWorded (option_to_list (option_map (record_for d c) a))
words_of_one d c None words = tt
words_of_one d c (Some a) words = (words, tt)

still_closed : (scripts : Scripts) (s : State) (es : List Event) (e : Event) (closing : Option ℕ) → IsAmong closing (length es)
    → may_close scripts s es closing ≡ true → may_close scripts s (es ++ e ∷ []) closing ≡ true
still_closed scripts s es e None among is = is
still_closed scripts s es e (Some place) among is =
    ap (λ l. is_quiet (run scripts s l)) (take-append-le place es (e ∷ []) among) ∙ is

among_more : (closing : Option ℕ) (es : List Event) (e : Event) → IsAmong closing (length es)
    → IsAmong closing (length (es ++ e ∷ []))
among_more None es e among = tt
among_more (Some place) es e among = let sum = length-append es (e ∷ []) in omega (arith, among, sum)

count_more : (test : Ack → Bool) (acks more : List Ack) → count_by test acks ≤ count_by test (acks ++ more)
count_more test acks more =
    let both : count_by test (acks ++ more) ≡ count_by test acks + count_by test more = sum_by-append (λ x. cond (test x) 1 0) acks more in
    omega (arith, both)

pub next_behind : (rs : List Record) (s : LogState) → (state_after s rs).next ≡ s.next + length rs
next_behind [] s = omega arith
next_behind (r ∷ rs) s =
    let rest : (state_after (after_record s r) rs).next ≡ (after_record s r).next + length rs = next_behind rs (after_record s r) in
    let one : (after_record s r).next ≡ s.next + 1 = next_after s r in
    omega (arith, rest, one)

pub same_ack_is : (x a : Ack) → is_same_ack x a ≡ true → x ≡ a
same_ack_is x a same =
    let parts = and_parts ((x.client == a.client) && (x.line == a.line)) (x.lsn == a.lsn) same in
    let both = and_parts (x.client == a.client) (x.line == a.line) parts.0 in
    let clients = eqb-true x.client a.client both.0 in
    let lines = eqb-true x.line a.line both.1 in
    let lsns = eqb-true x.lsn a.lsn parts.1 in
    λ i. record { client = clients i; line = lines i; lsn = lsns i }

module _ (b : BookView) (is : IsBook b) where
  -- the machine and the log agree at the end of the history
  pub book_agrees : Agreement b.session.scripts b.state (drawing_of b.session)
  book_agrees = (session_is_shown b.session is.session).agrees b.state is.state

  -- the next LSN of the log is that of the drawing end
  pub next_is_drawn : (drawing_of b.session).log.next ≡ next_drawn b.drawer
  next_is_drawn =
      let behind = next_behind (drawn_records b.session) (record { entries = b.session.entries; active = []; next = b.session.opening + 1 }) in
      let same = ap (λ (l : LogState). l.next) (session_is_shown b.session is.session).log in
      let opening : b.drawer.first + length b.before ≡ b.session.opening + 1 = is.opening in
      let count : length b.drawer.drawn ≡ length b.before + length (drawn_records b.session) =
      ap length is.drawn ∙ length-append b.before (map spelling (drawn_records b.session))
      ∙ ap (λ n. length b.before + n) (length-map (drawn_records b.session) spelling) in
      same ∙ behind ∙ omega (arith, opening, count)

  -- ---- one event more

  module _ (e : Event) (t : State) (new : BookView) (one : next b.session.scripts b.state e ≡ Some t)
      (words : has_words_if (action_at (moment_of b e)) ≡ true) where
    drawn_now : Option Record
    drawn_now = (draw_step (drawing_of b.session) (Some (moment_of b e))).drawn

    session_goes_on : IsSession (with_event b.session e)
    session_goes_on = record {
      sorted = is.session.sorted;
      stored = is.session.stored;
      words = subst AreWorded (sym (records_with_event b.session e b.state is.state is.closing))
          (words_joined (drawn_records b.session) (option_to_list (option_map (record_for (drawing_of b.session) e.client) (action_at (moment_of b e))))
          is.session.words (words_of_one (drawing_of b.session) e.client (action_at (moment_of b e)) words));
      legal = ap is_some (run_one_more b.session.scripts b.session.events (begun b.session) b.state e is.state ∙ one);
      closing = still_closed b.session.scripts (begun b.session) b.session.events e b.session.closing is.closing is.session.closing;
    }

    -- the book goes on: what its drawing end draws is the event's record, if it draws one
    pub book_goes_on : new.session ≡ with_event b.session e → new.state ≡ t → new.acks ≡ b.acks → new.before ≡ b.before
        → new.drawer.first ≡ b.drawer.first
        → new.drawer.drawn ≡ b.drawer.drawn ++ map spelling (option_to_list (option_map (record_for (drawing_of b.session) e.client) (action_at (moment_of b e))))
        → IsBook new
    book_goes_on session state acks before first drawn = record {
      session = subst IsSession (sym session) session_goes_on;
      state =
          ap (λ (h : SessionHistory). run h.scripts (begun h) h.events) session
          ∙ run_one_more b.session.scripts b.session.events (begun b.session) b.state e is.state ∙ one ∙ ap (λ u. Some u) (sym state);
      closing = subst (λ (h : SessionHistory). IsAmong h.closing (length h.events)) (sym session)
          (among_more b.session.closing b.session.events e is.closing);
      opening =
          (λ i. first i + length (before i)) ∙ is.opening ∙ ap (λ (h : SessionHistory). h.opening + 1) (sym session);
      drawn =
          drawn ∙ ap (λ l. l ++ map spelling its) is.drawn
          ∙ append_assoc b.before (map spelling (drawn_records b.session)) (map spelling its)
          ∙ ap (λ l. b.before ++ l) (sym (map-append spelling (drawn_records b.session) its)
          ∙ ap (map spelling) (sym (records_with_event b.session e b.state is.state is.closing)))
          ∙ (λ i. (sym before) i ++ map spelling (drawn_records ((sym session) i)));
      acks = λ a.
          let more = count_more (is_same_ack a) (acks_owed b.session) (ack_at (event_lsn b e) (Some (moment_of b e))) in
          let now = acks_with_event b.session e b.state is.state is.closing in
          let same : count_by (is_same_ack a) (acks_owed new.session) ≡ count_by (is_same_ack a) (acks_owed b.session ++ ack_at (event_lsn b e) (Some (moment_of b e))) =
          ap (λ h. count_by (is_same_ack a) (acks_owed h)) session ∙ ap (count_by (is_same_ack a)) now in
          let old : count_by (is_same_ack a) b.acks ≤ count_by (is_same_ack a) (acks_owed b.session) = is.acks a in
          let kept : count_by (is_same_ack a) new.acks ≡ count_by (is_same_ack a) b.acks = ap (count_by (is_same_ack a)) acks in
          omega (arith, more, same, old, kept);
    }
      where
        its : List Record
        its = option_to_list (option_map (record_for (drawing_of b.session) e.client) (action_at (moment_of b e)))

  -- ---- the closing mark

  module _ (new : BookView) (unclosed : b.session.closing ≡ None) (quiet : is_quiet (Some b.state) ≡ true) where
    abbrev pub mark_record : Record
    mark_record = record_for (drawing_of b.session) 0 Mark

    session_closes : IsSession (with_mark b.session)
    session_closes = record {
      sorted = is.session.sorted;
      stored = is.session.stored;
      words = subst AreWorded (sym (records_with_mark b.session unclosed))
          (words_joined (drawn_records b.session) (mark_record ∷ []) is.session.words (refl, tt));
      legal = is.session.legal;
      closing =
          ap (λ es. is_quiet (run b.session.scripts (begun b.session) es)) (take-length b.session.events)
          ∙ ap is_quiet is.state ∙ quiet;
    }

    pub book_closes : new.session ≡ with_mark b.session → new.state ≡ b.state → new.acks ≡ b.acks → new.before ≡ b.before
        → new.drawer.first ≡ b.drawer.first → new.drawer.drawn ≡ b.drawer.drawn ++ spelling mark_record ∷ [] → IsBook new
    book_closes session state acks before first drawn = record {
      session = subst IsSession (sym session) session_closes;
      state =
          ap (λ (h : SessionHistory). run h.scripts (begun h) h.events) session ∙ is.state ∙ ap (λ u. Some u) (sym state);
      closing = subst (λ (h : SessionHistory). IsAmong h.closing (length h.events)) (sym session)
          (let le : length b.session.events ≤ length b.session.events = omega arith in le);
      opening = (λ i. first i + length (before i)) ∙ is.opening ∙ ap (λ (h : SessionHistory). h.opening + 1) (sym session);
      drawn =
          drawn ∙ ap (λ l. l ++ spelling mark_record ∷ []) is.drawn
          ∙ append_assoc b.before (map spelling (drawn_records b.session)) (spelling mark_record ∷ [])
          ∙ ap (λ l. b.before ++ l) (sym (map-append spelling (drawn_records b.session) (mark_record ∷ []))
          ∙ ap (map spelling) (sym (records_with_mark b.session unclosed)))
          ∙ (λ i. (sym before) i ++ map spelling (drawn_records ((sym session) i)));
      acks = λ a.
          let same : count_by (is_same_ack a) (acks_owed new.session) ≡ count_by (is_same_ack a) (acks_owed b.session) =
          ap (λ h. count_by (is_same_ack a) (acks_owed h)) session
          ∙ ap (count_by (is_same_ack a)) (acks_with_mark b.session unclosed) in
          let old : count_by (is_same_ack a) b.acks ≤ count_by (is_same_ack a) (acks_owed b.session) = is.acks a in
          let kept : count_by (is_same_ack a) new.acks ≡ count_by (is_same_ack a) b.acks = ap (count_by (is_same_ack a)) acks in
          omega (arith, same, old, kept);
    }

  -- ---- an acknowledgement

  -- one that is owed more often than it was made may be made
  pub book_acknowledges : (a : Ack) (new : BookView)
      → count_by (is_same_ack a) b.acks < count_by (is_same_ack a) (acks_owed b.session)
      → new ≡ record b { acks = b.acks ++ a ∷ [] } → IsBook new
  book_acknowledges a new left same = subst IsBook (sym same) (record {
    session = is.session;
    state = is.state;
    closing = is.closing;
    opening = is.opening;
    drawn = is.drawn;
    acks = λ x.
        let sum : count_by (is_same_ack x) (b.acks ++ a ∷ []) ≡ count_by (is_same_ack x) b.acks + count_by (is_same_ack x) (a ∷ []) =
        sum_by-append (λ k. cond (is_same_ack x k) 1 0) b.acks (a ∷ []) in
        by_test x (is_same_ack x a) refl sum;
  })
    where
      by_test : (x : Ack) (same : Bool) → is_same_ack x a ≡ same
          → count_by (is_same_ack x) (b.acks ++ a ∷ []) ≡ count_by (is_same_ack x) b.acks + count_by (is_same_ack x) (a ∷ [])
          → count_by (is_same_ack x) (b.acks ++ a ∷ []) ≤ count_by (is_same_ack x) (acks_owed b.session)
      by_test x true same sum =
          let one : count_by (is_same_ack x) (a ∷ []) ≡ 1 = ap (λ t. 0 + cond t 1 0) same ∙ omega arith in
          let own : count_by (is_same_ack x) b.acks < count_by (is_same_ack x) (acks_owed b.session) =
          subst (λ y. count_by (is_same_ack y) b.acks < count_by (is_same_ack y) (acks_owed b.session)) (sym (same_ack_is x a same)) left in
          omega (arith, one, own, sum)
      by_test x false same sum =
          let none : count_by (is_same_ack x) (a ∷ []) ≡ 0 = ap (λ t. 0 + cond t 1 0) same ∙ omega arith in
          let old : count_by (is_same_ack x) b.acks ≤ count_by (is_same_ack x) (acks_owed b.session) = is.acks x in
          omega (arith, none, old, sum)

-- ---- the start

pub new_is_book : (scripts : Scripts) (entries : Table StoredValue) (last : ℕ) (drawer : DrawerView) → 1 ≤ next_drawn drawer
    → IsTable entries → AreStoredBefore (next_drawn drawer) entries → IsBook (new_book scripts entries last drawer)
unfolding draw_steps
new_is_book scripts entries last drawer some sorted stored =
    let at_next : next_drawn drawer - 1 + 1 ≡ next_drawn drawer = omega (arith, some) in
    record {
      session = record {
        sorted = sorted;
        stored = subst (λ n. AreStoredBefore n entries) (sym at_next) stored;
        words = tt;
        legal = refl;
        closing = refl;
      };
      state = refl;
      closing = tt;
      opening = sym at_next;
      drawn = sym (append-nil drawer.drawn);
      acks = λ a. (let le : 0 ≤ 0 = omega arith in le);
    }
