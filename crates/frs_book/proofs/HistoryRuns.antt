-- What a whole history draws is lawful, and the records up to an LSN show the commits up to it.
use Rattle.std.proofs.Common.{◌≡◌, ⊎_elim, ℕ, zero, suc, ◌+◌, ◌-◌, ◌<◌, ◌≤◌, Bool, true, false, cond, List, [], ◌∷◌, ◌++◌}
use Rattle.std.proofs.Common.{Option, Some, None, length, fold, map, refl, sym, ap, ◌∙◌, subst, arith, option_map, is_some}
use Rattle.std.proofs.Common.{take, drop, flat_map, take-append-drop, unwrap_or}
use Rattle.std.specs.Prelude.{nat_le, replicate, option_and_then, slice_index_or}
use Rattle.std.specs.List.{cons_option}
use Rattle.std.proofs.lemmas.Bool.{and_from, cases_lt, le-leb, lt-leb}
use Rattle.std.proofs.lemmas.List.{length-append, length-replicate, get_or-replicate, get_or_past}
use Rattle.std.proofs.lemmas.List.Folds.{flat_map-map}
use Rattle.std.proofs.lemmas.Grind.{flat_map-append}
use Rattle.std.proofs.lemmas.List.Sums.{sum_by-cons}
use Rattle.std.proofs.Math.Seq.{take-append-add}
use Rattle.std.proofs.lemmas.Option.{same_Some}
use Rattle.frs_types.specs.declared.record.Action.{Action}
use Rattle.frs_types.specs.declared.record.Action.TheVariants.{Mark}
use Rattle.frs_types.specs.declared.record.Record.{Record}
use Rattle.frs_types.specs.Maps.{Maps, table_after_all, After}
use Rattle.frs_types.specs.Locks.{nobody, holder_at}
use Rattle.frs_types.specs.Lawful.{LogState, plain_maps, after_by, after_record, state_after, are_lawful}
use Rattle.frs_types.proofs.StateIsRead.{next_after}
use Rattle.frs_history.specs.declared.event.Event.{Event}
use Rattle.frs_history.specs.Machine.{Changes, State, Scripts, newcomer}
use Rattle.frs_history.specs.Histories.{Moment, moment, moments, commits_of, next, run}
use Rattle.frs_book.specs.Drawn.{SessionHistory, Drawing, DrawStep, begin_of, record_for, after_draw, client_of, drawn_action, action_at}
use Rattle.frs_book.specs.Drawn.{draw_step, draw_steps_from, drawing_after, with_closing, records_of, commits_at}
use Rattle.frs_book.specs.Drawn.{commits_among, moments_of, opened, draw_steps, drawn_records, drawing_of, commits_in}
use Rattle.frs_book.specs.Drawn.{commits_up_to}
use Rattle.frs_book.specs.Agreement.{IsDrawnBy, Agreement, AreWorded, is_quiet, may_close, begun, IsSession, IsShown}
use Rattle.frs_book.specs.Agreement.{Keeps, IsLawfulDraw, has_words_if}
use Rattle.frs_book.proofs.CommandSteps.{IsStep}
use Rattle.frs_book.proofs.EventSteps.{event_step, mark_step}

-- ---- lists of commits

take_none : {X : Type 0} (xs : List X) → take 0 xs ≡ []
take_none [] = refl
take_none (x ∷ xs) = refl

take_of_none : {X : Type 0} (k : ℕ) → take {A = X} k [] ≡ []
take_of_none zero = refl
take_of_none (suc k) = refl

fold_joined : (m : Maps) (cs ds : List Changes) → fold table_after_all m (cs ++ ds) ≡ fold table_after_all (fold table_after_all m cs) ds
fold_joined m [] ds = refl
fold_joined m (c ∷ cs) ds = fold_joined (table_after_all m c) cs ds

after_more : (m : Maps) (cs more : List Changes) (k : ℕ) → After m (cs ++ more) (length cs + k) ≡ After (fold table_after_all m cs) more k
after_more m cs more k = ap (fold table_after_all m) (take-append-add cs more k) ∙ fold_joined m cs (take k more)

-- ---- steps one behind the other

-- The records of these moments are lawful, the agreement holds behind them, and each front shows its commits.
pub record IsRun (scripts : Scripts) (s : State) (d : Drawing) (ms : List (Option Moment)) (t : State) : Type 0 where
  pub agrees : Agreement scripts t (drawing_after d ms)
  pub log : (drawing_after d ms).log ≡ state_after d.log (records_of (draw_steps_from d ms))
  pub lawful : are_lawful d.log (records_of (draw_steps_from d ms)) ≡ true
  pub shown : (n : ℕ) → d.log.next ≤ n + 1
      → plain_maps (state_after d.log (take (n + 1 - d.log.next) (records_of (draw_steps_from d ms)))).entries
      ≡ After (plain_maps d.log.entries) (flat_map commits_at ms) (commits_among (draw_steps_from d ms) n)
  pub rises : d.log.next ≤ (drawing_after d ms).log.next
  pub early : (n : ℕ) → n + 1 ≤ d.log.next → commits_among (draw_steps_from d ms) n ≡ 0
  pub all : (n : ℕ) → (drawing_after d ms).log.next ≤ n + 1 → commits_among (draw_steps_from d ms) n ≡ length (flat_map commits_at ms)

run_none : (scripts : Scripts) (s : State) (d : Drawing) → Agreement scripts s d → IsRun scripts s d [] s
run_none scripts s d agrees = record {
  agrees = agrees;
  log = refl;
  lawful = refl;
  shown = λ n le. ap (λ rs. plain_maps (state_after d.log rs).entries) (take_of_none (n + 1 - d.log.next));
  rises = omega arith;
  early = λ n le. refl;
  all = λ n le. refl;
}

-- before the next LSN nothing of what is still drawn counts
module _ (m : Option Moment) (ms : List (Option Moment)) (d : Drawing) (n : ℕ) (lt : n + 1 < d.log.next)
    (rest : (now : Drawing) → n + 1 < now.log.next → commits_among (draw_steps_from now ms) n ≡ 0) where
  none_yet_by : (a : Option Action) → cond (nat_le (cond (is_some a) d.log.next (d.log.next - 1)) n) (length (commits_at m)) 0
      + commits_among (draw_steps_from (after_draw d (client_of m) a) ms) n ≡ 0
  none_yet_by None =
      let none : commits_among (draw_steps_from d ms) n ≡ 0 = rest d lt in
      let no_own : nat_le (d.log.next - 1) n ≡ false = lt-leb (d.log.next - 1) n (omega (arith, lt)) in
      let sum : 0 + commits_among (draw_steps_from d ms) n ≡ 0 = omega (arith, none) in
      ap (λ b. cond b (length (commits_at m)) 0 + commits_among (draw_steps_from d ms) n) no_own ∙ sum
  none_yet_by (Some a) =
      let now = after_draw d (client_of m) (Some a) in
      let more : now.log.next ≡ d.log.next + 1 = next_after d.log (record_for d (client_of m) a) in
      let none : commits_among (draw_steps_from now ms) n ≡ 0 = rest now (omega (arith, more, lt)) in
      let no_own : nat_le d.log.next n ≡ false = lt-leb d.log.next n (omega (arith, lt)) in
      let sum : 0 + commits_among (draw_steps_from now ms) n ≡ 0 = omega (arith, none) in
      ap (λ b. cond b (length (commits_at m)) 0 + commits_among (draw_steps_from now ms) n) no_own ∙ sum

none_yet : (ms : List (Option Moment)) (d : Drawing) (n : ℕ) → n + 1 < d.log.next → commits_among (draw_steps_from d ms) n ≡ 0
none_yet [] d n lt = refl
none_yet (m ∷ ms) d n lt =
    sum_by-cons (λ (t : DrawStep). cond (nat_le t.lsn n) (length (commits_at t.moment)) 0) (draw_step d m)
    (draw_steps_from (after_draw d (client_of m) (drawn_action m)) ms)
    ∙ none_yet_by m ms d n lt (λ now. none_yet ms now n) (drawn_action m)

module _ (scripts : Scripts) (s : State) (d : Drawing) (agrees : Agreement scripts s d) (m : Option Moment)
    (ms : List (Option Moment)) (u t : State) where
  abbrev rest_of : Option Action → List DrawStep
  rest_of a = draw_steps_from (after_draw d (client_of m) a) ms

  abbrev records_by : Option Action → List Record
  records_by a = cons_option (option_map (record_for d (client_of m)) a) (records_of (rest_of a))

  lawful_by : (a : Option Action) → IsLawfulDraw d (client_of m) a
      → are_lawful (after_draw d (client_of m) a).log (records_of (rest_of a)) ≡ true → are_lawful d.log (records_by a) ≡ true
  lawful_by None own rest = rest
  lawful_by (Some a) own rest = and_from _ _ own rest

  log_by : (a : Option Action) → (drawing_after (after_draw d (client_of m) a) ms).log ≡ state_after (after_draw d (client_of m) a).log (records_of (rest_of a))
      → (drawing_after (after_draw d (client_of m) a) ms).log ≡ state_after d.log (records_by a)
  log_by None rest = rest
  log_by (Some a) rest = rest

  abbrev count_by : Option Action → ℕ → ℕ
  count_by a n = cond (nat_le (cond (is_some a) d.log.next (d.log.next - 1)) n) (length (commits_at m)) 0 + commits_among (rest_of a) n

  nothing_first : (p : Maps) (b : Bool) (cs more : List Changes) (k : ℕ) → cs ≡ []
      → After p more k ≡ After p (cs ++ more) (cond b (length cs) 0 + k)
  nothing_first p b cs more k none =
      sym (ap (λ l. After p (l ++ more) (cond b (length l) 0 + k)) none ∙ ap (After p more) (by_test b))
    where
      by_test : (b : Bool) → cond b (length {A = Changes} []) 0 + k ≡ k
      by_test true = omega arith
      by_test false = omega arith

  abbrev plain : Maps
  plain = plain_maps d.log.entries

  next_more : (a : Action) → (after_draw d (client_of m) (Some a)).log.next ≡ d.log.next + 1
  next_more a = next_after d.log (record_for d (client_of m) a)

  shown_by : (a : Option Action) → IsStep scripts s d (client_of m) a (commits_at m) u
      → IsRun scripts u (after_draw d (client_of m) a) ms t → (n : ℕ) → d.log.next ≤ n + 1
      → plain_maps (state_after d.log (take (n + 1 - d.log.next) (records_by a))).entries
      ≡ After (plain_maps d.log.entries) (commits_at m ++ flat_map commits_at ms) (count_by a n)
  shown_by None step rest n le =
      rest.shown n le
      ∙ nothing_first (plain_maps d.log.entries) (nat_le (d.log.next - 1) n) (commits_at m) (flat_map commits_at ms)
      (commits_among (rest_of None) n) (step.idle refl)
  shown_by (Some a) step rest n le =
      let r = record_for d (client_of m) a in
      let rs = records_of (rest_of (Some a)) in
      let now = after_draw d (client_of m) (Some a) in
      let more : now.log.next ≡ d.log.next + 1 = next_more a in
      let all = commits_at m ++ flat_map commits_at ms in
      let later = commits_among (rest_of (Some a)) n in
      let counted = λ (b : Bool). After plain all (cond b (length (commits_at m)) 0 + later) in
      ⊎_elim
      (λ (lt : n < d.log.next).
      let none : later ≡ 0 = none_yet ms now n (omega (arith, more, lt)) in
      let front : n + 1 - d.log.next ≡ 0 = omega (arith, lt, le) in
      let sum : 0 + later ≡ 0 = omega (arith, none) in
      ap (λ k. plain_maps (state_after d.log (take k (r ∷ rs))).entries) front
      ∙ sym (ap counted (lt-leb d.log.next n lt) ∙ ap (After plain all) sum ∙ ap (fold table_after_all plain) (take_none all)))
      (λ (ge : d.log.next ≤ n).
      let front : n + 1 - d.log.next ≡ suc (n + 1 - now.log.next) = omega (arith, ge, more) in
      ap (λ k. plain_maps (state_after d.log (take k (r ∷ rs))).entries) front
      ∙ rest.shown n (omega (arith, ge, more))
      ∙ ap (λ p. After p (flat_map commits_at ms) later)
      (sym step.agrees.maps ∙ step.maps ∙ ap (λ p. fold table_after_all p (commits_at m)) agrees.maps)
      ∙ sym (after_more plain (commits_at m) (flat_map commits_at ms) later)
      ∙ sym (ap counted (le-leb d.log.next n ge)))
      (cases_lt n d.log.next)

  rises_by : (a : Option Action) → IsRun scripts u (after_draw d (client_of m) a) ms t
      → d.log.next ≤ (drawing_after (after_draw d (client_of m) a) ms).log.next
  rises_by None rest = rest.rises
  rises_by (Some a) rest = omega (arith, rest.rises, next_more a)

  -- nothing is committed without a record, so up to the last LSN before these steps nothing counts
  early_by : (a : Option Action) → IsStep scripts s d (client_of m) a (commits_at m) u
      → IsRun scripts u (after_draw d (client_of m) a) ms t → (n : ℕ) → n + 1 ≤ d.log.next → count_by a n ≡ 0
  early_by None step rest n le =
      let none : commits_among (rest_of None) n ≡ 0 = rest.early n le in
      ap (λ cs. cond (nat_le (d.log.next - 1) n) (length cs) 0 + commits_among (rest_of None) n) (step.idle refl)
      ∙ by_test (nat_le (d.log.next - 1) n) none
    where
      by_test : (b : Bool) → commits_among (rest_of None) n ≡ 0 → cond b (length {A = Changes} []) 0 + commits_among (rest_of None) n ≡ 0
      by_test true none = omega (arith, none)
      by_test false none = omega (arith, none)
  early_by (Some a) step rest n le =
      let none : commits_among (rest_of (Some a)) n ≡ 0 = rest.early n (omega (arith, le, next_more a)) in
      let sum : 0 + commits_among (rest_of (Some a)) n ≡ 0 = omega (arith, none) in
      ap (λ b. cond b (length (commits_at m)) 0 + commits_among (rest_of (Some a)) n) (lt-leb d.log.next n (omega (arith, le))) ∙ sum

  all_by : (a : Option Action) → IsRun scripts u (after_draw d (client_of m) a) ms t → (n : ℕ)
      → (drawing_after (after_draw d (client_of m) a) ms).log.next ≤ n + 1
      → count_by a n ≡ length (commits_at m ++ flat_map commits_at ms)
  all_by None rest n le =
      let later : commits_among (rest_of None) n ≡ length (flat_map commits_at ms) = rest.all n le in
      let both : length (commits_at m ++ flat_map commits_at ms) ≡ length (commits_at m) + length (flat_map commits_at ms) =
      length-append (commits_at m) (flat_map commits_at ms) in
      let sum : length (commits_at m) + commits_among (rest_of None) n ≡ length (commits_at m ++ flat_map commits_at ms) =
      omega (arith, later, both) in
      ap (λ b. cond b (length (commits_at m)) 0 + commits_among (rest_of None) n)
      (le-leb (d.log.next - 1) n (omega (arith, le, rest.rises))) ∙ sum
  all_by (Some a) rest n le =
      let later : commits_among (rest_of (Some a)) n ≡ length (flat_map commits_at ms) = rest.all n le in
      let both : length (commits_at m ++ flat_map commits_at ms) ≡ length (commits_at m) + length (flat_map commits_at ms) =
      length-append (commits_at m) (flat_map commits_at ms) in
      let sum : length (commits_at m) + commits_among (rest_of (Some a)) n ≡ length (commits_at m ++ flat_map commits_at ms) =
      omega (arith, later, both) in
      ap (λ b. cond b (length (commits_at m)) 0 + commits_among (rest_of (Some a)) n)
      (le-leb d.log.next n (omega (arith, le, rest.rises, next_more a))) ∙ sum

  summed : (n : ℕ) → commits_among (draw_steps_from d (m ∷ ms)) n ≡ count_by (drawn_action m) n
  summed n = sum_by-cons (λ (k : DrawStep). cond (nat_le k.lsn n) (length (commits_at k.moment)) 0) (draw_step d m)
      (rest_of (drawn_action m))

  pub run_more : IsStep scripts s d (client_of m) (drawn_action m) (commits_at m) u
      → IsRun scripts u (after_draw d (client_of m) (drawn_action m)) ms t → IsRun scripts s d (m ∷ ms) t
  run_more step rest = record {
    agrees = rest.agrees;
    log = log_by (drawn_action m) rest.log;
    lawful = lawful_by (drawn_action m) step.lawful rest.lawful;
    shown = λ n le. shown_by (drawn_action m) step rest n le ∙ ap (After plain (flat_map commits_at (m ∷ ms))) (sym (summed n));
    rises = rises_by (drawn_action m) rest;
    early = λ n le. summed n ∙ early_by (drawn_action m) step rest n le;
    all = λ n le. summed n ∙ all_by (drawn_action m) rest n le;
  }

-- ---- events one behind the other

first_words : (d : Drawing) (c : ℕ) (a : Option Action) (rs : List Record)
    → AreWorded (cons_option (option_map (record_for d c) a) rs) → has_words_if a ≡ true
first_words d c None rs all = refl
first_words d c (Some a) rs all = all.0

later_words : (d : Drawing) (c : ℕ) (a : Option Action) (rs : List Record)
    → AreWorded (cons_option (option_map (record_for d c) a) rs) → AreWorded rs
later_words d c None rs all = all
later_words d c (Some a) rs all = all.1

module _ (scripts : Scripts) where
  one_run : (m : Moment) (ms : List (Option Moment)) (s u t : State) (d : Drawing) → Agreement scripts s d
      → (has_words_if (drawn_action (Some m)) ≡ true → IsStep scripts s d m.event.client (drawn_action (Some m)) (commits_of m) u)
      → AreWorded (records_of (draw_steps_from d (Some m ∷ ms)))
      → (Agreement scripts u (after_draw d m.event.client (drawn_action (Some m)))
      → AreWorded (records_of (draw_steps_from (after_draw d m.event.client (drawn_action (Some m))) ms))
      → IsRun scripts u (after_draw d m.event.client (drawn_action (Some m))) ms t)
      → IsRun scripts s d (Some m ∷ ms) t
  one_run m ms s u t d agrees one words rest =
      let a = drawn_action (Some m) in
      let behind = records_of (draw_steps_from (after_draw d m.event.client a) ms) in
      let step = one (first_words d m.event.client a behind words) in
      run_more scripts s d agrees (Some m) ms u t step (rest step.agrees (later_words d m.event.client a behind words))

  pub events_run : (es : List Event) (s t : State) (d : Drawing) → Agreement scripts s d → run scripts s es ≡ Some t
      → AreWorded (records_of (draw_steps_from d (map (λ m. Some m) (moments scripts s es))))
      → IsRun scripts s d (map (λ m. Some m) (moments scripts s es)) t
  events_run [] s t d agrees is words = subst (IsRun scripts s d []) (same_Some s t is) (run_none scripts s d agrees)
  events_run (e ∷ es) s t d agrees is words =
      elim (next scripts s e) as (λ o. next scripts s e ≡ o → option_and_then (λ u. run scripts u es) o ≡ Some t
      → AreWorded (records_of (draw_steps_from d (Some (moment scripts s e) ∷ map (λ m. Some m) (moments scripts (unwrap_or o s) es))))
      → IsRun scripts s d (Some (moment scripts s e) ∷ map (λ m. Some m) (moments scripts (unwrap_or o s) es)) t) [
        | None ↦ λ _ never _. absurd cc
        | Some u ↦ λ one rest all. one_run (moment scripts s e) (map (λ m. Some m) (moments scripts u es)) s u t d agrees
            (event_step scripts s d agrees e u one) all
            (λ now. events_run es u t (after_draw d e.client (drawn_action (Some (moment scripts s e)))) now rest)
      ] refl is words

  -- with the closing mark at its place
  closing_run : (place : ℕ) (es : List Event) (s t : State) (d : Drawing) → Agreement scripts s d → run scripts s es ≡ Some t
      → is_quiet (run scripts s (take place es)) ≡ true
      → AreWorded (records_of (draw_steps_from d (with_closing (Some place) (moments scripts s es))))
      → IsRun scripts s d (with_closing (Some place) (moments scripts s es)) t
  closing_run zero es s t d agrees is quiet words =
      let step = mark_step scripts s d agrees (sym (ap (λ l. is_quiet (run scripts s l)) (take_none es)) ∙ quiet) in
      run_more scripts s d agrees None (map (λ m. Some m) (moments scripts s es)) s t step
      (events_run es s t (after_draw d 0 (Some Mark)) step.agrees is words.1)
  closing_run (suc place) [] s t d agrees is quiet words =
      let step = mark_step scripts s d agrees quiet in
      run_more scripts s d agrees None [] s t step
      (subst (IsRun scripts s (after_draw d 0 (Some Mark)) []) (same_Some s t is)
      (run_none scripts s (after_draw d 0 (Some Mark)) step.agrees))
  closing_run (suc place) (e ∷ es) s t d agrees is quiet words =
      elim (next scripts s e) as (λ o. next scripts s e ≡ o → option_and_then (λ u. run scripts u es) o ≡ Some t
      → is_quiet (option_and_then (λ u. run scripts u (take place es)) o) ≡ true
      → AreWorded (records_of (draw_steps_from d (Some (moment scripts s e) ∷ with_closing (Some place) (moments scripts (unwrap_or o s) es))))
      → IsRun scripts s d (Some (moment scripts s e) ∷ with_closing (Some place) (moments scripts (unwrap_or o s) es)) t) [
        | None ↦ λ _ never _ _. absurd cc
        | Some u ↦ λ one rest still all. one_run (moment scripts s e) (with_closing (Some place) (moments scripts u es)) s u t d agrees
            (event_step scripts s d agrees e u one) all
            (λ now. closing_run place es u t (after_draw d e.client (drawn_action (Some (moment scripts s e)))) now rest still)
      ] refl is quiet words

  pub session_run : (closing : Option ℕ) (es : List Event) (s t : State) (d : Drawing) → Agreement scripts s d
      → run scripts s es ≡ Some t → may_close scripts s es closing ≡ true
      → AreWorded (records_of (draw_steps_from d (with_closing closing (moments scripts s es))))
      → IsRun scripts s d (with_closing closing (moments scripts s es)) t
  session_run None es s t d agrees is quiet words = events_run es s t d agrees is words
  session_run (Some place) es s t d agrees is quiet words = closing_run place es s t d agrees is quiet words

-- ---- the start

pub same_everywhere : {X : Type 0} (n i : ℕ) (x : X) → slice_index_or (x ∷ replicate n x) i x ≡ x
same_everywhere n zero x = refl
same_everywhere n (suc i) x = ⊎_elim
    (λ lt. get_or-replicate n i x x lt)
    (λ le. get_or_past (replicate n x) i x (omega (arith, le, length-replicate n x)))
    (cases_lt i n)

-- A session begins in agreement.
pub agrees_at_start : (h : SessionHistory) → IsSession h → Agreement h.scripts (begun h) (opened h)
agrees_at_start h is =
    let n = length h.scripts in
    record {
      maps = refl;
      sorted = is.sorted;
      next = omega arith;
      stored = is.stored;
      clients = ap suc (length-replicate n newcomer);
      holders = ap suc (length-replicate n nobody);
      begins = ap suc (length-replicate n 0);
      drawn = λ c. subst (λ x. IsDrawnBy (opened h).log (begin_of (opened h) c) x.tx (holder_at (begun h).holders c)) (sym (same_everywhere n c newcomer))
          (same_everywhere n c 0, ap (λ k. k.locks) (same_everywhere n c nobody));
      apart = λ c e above same. let none : begin_of (opened h) c ≡ 0 = same_everywhere n c 0 in absurd (omega (arith, none, above));
      owned = tt;
    }

-- ---- a session

commits_with_closing : (closing : Option ℕ) (ms : List Moment) → flat_map commits_at (with_closing closing ms) ≡ flat_map commits_of ms
commits_with_closing None ms = flat_map-map commits_at (λ m. Some m) ms
commits_with_closing (Some place) ms =
    flat_map-append commits_at (map (λ m. Some m) (take place ms)) (None ∷ map (λ m. Some m) (drop place ms))
    ∙ ap (λ cs. cs ++ flat_map commits_at (map (λ m. Some m) (drop place ms))) (flat_map-map commits_at (λ m. Some m) (take place ms))
    ∙ ap (λ cs. flat_map commits_of (take place ms) ++ cs) (flat_map-map commits_at (λ m. Some m) (drop place ms))
    ∙ sym (flat_map-append commits_of (take place ms) (drop place ms))
    ∙ ap (flat_map commits_of) (take-append-drop place ms)

module _ (h : SessionHistory) (is : IsSession h) where
  legal_run : (o : Option State) → run h.scripts (begun h) h.events ≡ o → is_some o ≡ true
      → (t : State) × IsRun h.scripts (begun h) (opened h) (with_closing h.closing (moments_of h)) t
  unfolding draw_steps
  legal_run None ends some = absurd cc
  legal_run (Some t) ends some = (t, session_run h.scripts h.closing h.events (begun h) t (opened h) (agrees_at_start h is) ends is.closing is.words)

  pub whole_run : (t : State) × IsRun h.scripts (begun h) (opened h) (with_closing h.closing (moments_of h)) t
  whole_run = legal_run (run h.scripts (begun h) h.events) refl is.legal

  shows_commits : (n : ℕ) → h.opening ≤ n
      → plain_maps (state_after (opened h).log (take (n - h.opening) (drawn_records h))).entries
      ≡ After (plain_maps h.entries) (commits_in h) (commits_up_to h n)
  unfolding draw_steps
  shows_commits n le =
      let same : n - h.opening ≡ n + 1 - (h.opening + 1) = omega (arith, le) in
      ap (λ k. plain_maps (state_after (opened h).log (take k (drawn_records h))).entries) same
      ∙ whole_run.1.shown n (omega (arith, le))
      ∙ ap (λ cs. After (plain_maps h.entries) cs (commits_up_to h n)) (commits_with_closing h.closing (moments_of h))

  behind_opening : (s : LogState) (mark : Record) → s.entries ≡ h.entries → s.next ≡ h.opening → mark.action ≡ Mark
      → after_record s mark ≡ (opened h).log
  behind_opening s mark entries next kind =
      ap (after_by s mark.tx) kind ∙ λ i. record { entries = entries i; active = []; next = next i + 1 }

  -- What is drawn in a session is lawful, and shows its commits.
  pub session_is_shown : IsShown h
  unfolding draw_steps drawing_of
  session_is_shown = record {
    agrees = λ t ends. (session_run h.scripts h.closing h.events (begun h) t (opened h) (agrees_at_start h is) ends is.closing is.words).agrees;
    log = whole_run.1.log;
    lawful = whole_run.1.lawful;
    maps = shows_commits;
    early = λ n le. whole_run.1.early n (omega (arith, le));
    all = λ n le. whole_run.1.all n le ∙ ap length (commits_with_closing h.closing (moments_of h));
    behind_mark = λ s mark n entries next kind le.
        ap (λ l. plain_maps (state_after l (take (n - h.opening) (drawn_records h))).entries) (behind_opening s mark entries next kind)
        ∙ shows_commits n le;
  }

-- one event, and the closing mark
pub event_keeps : (scripts : Scripts) (s t : State) (d : Drawing) (e : Event) → Agreement scripts s d
    → next scripts s e ≡ Some t → has_words_if (action_at (moment scripts s e)) ≡ true
    → Keeps scripts d (Some (moment scripts s e)) t
event_keeps scripts s t d e agrees is words =
    let step = event_step scripts s d agrees e t is words in record { agrees = step.agrees; lawful = step.lawful }

pub mark_keeps : (scripts : Scripts) (s : State) (d : Drawing) → Agreement scripts s d
    → is_quiet (Some s) ≡ true → Keeps scripts d None s
mark_keeps scripts s d agrees quiet =
    let step = mark_step scripts s d agrees quiet in record { agrees = step.agrees; lawful = step.lawful }
