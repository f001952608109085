-- What is known of a session that was opened, answered all its commands and was closed, is a run of its script; and so is
-- what is known of one that wasn't opened.
use Rattle.std.proofs.Common.{◌≡◌, inl, inr, ⊎_elim, ℕ, ◌+◌, ◌-◌, ◌≤◌, true, List, [], ◌∷◌, ◌++◌, length, Option, Some, None, IsTrue, refl, sym, ap, subst, ◌∙◌, arith, append_assoc, append-nil, length-append}
use Rattle.std.proofs.Math.Seq.{take-append_seam}
use Rattle.std.specs.List.{AllByRecursion}
use Rattle.std.specs.FinMap.{entries}
use Rattle.frs_types.specs.declared.record.Record.{Record}
use Rattle.frs_types.specs.Lawful.{plain_maps}
use Rattle.frs_types.specs.Records.{Log, from_lowest, next_lsn}
use Rattle.frs_types.specs.Survivors.{survivors, maps_of}
use Rattle.frs_disk.specs.declared.disk.Disk.{Ghosts}
use Rattle.frs_disk.specs.Disk.{Image}
use Rattle.frs_disk.specs.Frames.{Within, GoesOn}
use Rattle.frs_segment.specs.Segments.{FileList, Spells}
use Rattle.frs_recovery.specs.Sound.{IsReady}
use Rattle.frs_history.specs.declared.command.Line.{Line}
use Rattle.frs_history.specs.declared.event.Ack.{Ack}
use Rattle.frs_history.specs.declared.event.Event.{Event}
use Rattle.frs_history.specs.Machine.{State}
use Rattle.frs_book.specs.Books.{BookView, is_finished, closed_session}
use Rattle.frs_book.specs.Drawn.{SessionHistory}
use Rattle.frs_store.specs.declared.call.Call.{Call}
use Rattle.frs_store.specs.declared.call.Call.TheVariants as call
use Rattle.frs_store.specs.declared.session.Closed.{Closed}
use Rattle.frs_store.specs.declared.start.TheConstants.{CLIENT}
use Rattle.frs_store.specs.declared.stop.StartFault.{StartFault}
use Rattle.frs_store.specs.declared.stop.StartFault.TheVariants as start
use Rattle.frs_store.specs.declared.stop.Stop.{Stop}
use Rattle.frs_store.specs.declared.stop.Stop.TheVariants as stop
use Rattle.frs_store.specs.declared.stop.Unopened.{Unopened}
use Rattle.frs_store.specs.Closed.{EndsOnReady, EndsSession, IsClosed}
use Rattle.frs_store.specs.Session.{SessionView, SameStart, GoesFurther, CallAnswers, faults_of}
use Rattle.frs_store.specs.SessionEnd.{opening_mark, SessionEnd, IsSessionEnd, BeginsOn, RecoversFront, RecoversAll, records_with}
use Rattle.frs_store.specs.Start as starts
use Rattle.frs_store.specs.Start.{IsOpened, LeavesOpening, RecoversSame, StartHasCause, greatest_of}
use Rattle.frs_store.specs.Stops.{StopMet, HasUsedUp}
use Rattle.frs_store.proofs.StoreGoesOn.{acked_later, same_start_join, same_start_none}
use Rattle.frs_engine.specs.declared.ending.Ending.TheVariants.{Closed as Done, Disk}
use Rattle.frs_engine.specs.Causes.{HasRoomBehind, IsUnopened, IsStopped, IsEndOfRun}
use Rattle.frs_engine.specs.Endings.{ending_of_stop, ending_of_start}
use Rattle.frs_engine.specs.Promise.{AreOwn, Tells, is_whole_in, Survives, EndsWhole, IsRun}
use Rattle.frs_engine.specs.Sessions.{AnswersOwn, AnswersAll}

-- ---- a stop

no_stop : (stop : Option Stop) → ((s : Stop) → stop ≡ Some s → ⊥) → stop ≡ None
no_stop None never = refl
no_stop (Some s) never = absurd (never s refl)

pub closed_by : (stop : Option Stop) → ending_of_stop stop ≡ Done → stop ≡ None
closed_by None is = refl
closed_by (Some stop.Disk) is = cc
closed_by (Some stop.Limit) is = cc
closed_by (Some stop.Memory) is = cc

some_stop : (stop : Option Stop) (s : Stop) → stop ≡ Some s → stop ≡ None → ⊥
some_stop stop s some none = let e : Some s ≡ None = sym some ∙ none in cc

-- ---- the client's events

own_join : (a b : List Event) → AreOwn a → AreOwn b → AreOwn (a ++ b)
own_join [] b first rest = rest
own_join (e ∷ a) b first rest = (first.0, own_join a b first.1 rest)

module _ {D : Type 0} (g : Ghosts D) where
  pub answers_none : (s : SessionView D) → AnswersOwn g s s
  answers_none s = record {
    same = same_start_none g s.store s.store refl;
    more = [];
    own = tt;
    session = ap (λ (es : List Event). record s.store.book.session { events = es }) (sym (append-nil s.store.book.session.events));
  }

  pub answers_one : ((disk : D) (s t : ℕ) (c : Image) → s ≤ t → g.left_since disk t c → g.left_since disk s c) → (old mid new : SessionView D) (more : List Event)
      → AnswersOwn g old mid → SameStart g mid.store new.store → AreOwn more
      → new.store.book.session ≡ record mid.store.book.session { events = mid.store.book.session.events ++ more } → AnswersOwn g old new
  answers_one earlier old mid new more so_far same own session = record {
    same = same_start_join g earlier old.store mid.store new.store so_far.same same;
    more = so_far.more ++ more;
    own = own_join so_far.more more so_far.own own;
    session =
        session
        ∙ ap (λ (h : SessionHistory). record h { events = h.events ++ more }) so_far.session
        ∙ ap (λ (es : List Event). record old.store.book.session { events = es }) (append_assoc old.store.book.session.events so_far.more more);
  }

-- what the last call of a session answered
module _ {D : Type 0} (g : Ghosts D) (earlier : (disk : D) (s t : ℕ) (c : Image) → s ≤ t → g.left_since disk t c → g.left_since disk s c) (old mid new : SessionView D)
    (one : length old.store.book.session.scripts ≡ 1) (so_far : AnswersOwn g old mid) (going : mid.stop ≡ None) (faults : faults_of g mid.store ≡ faults_of g old.store)
    (further : GoesFurther g CLIENT mid.store new.store) where
  pub answers_further : AnswersOwn g old new
  answers_further = answers_one g earlier old mid new further.more so_far further.same further.own further.session

  one_client : (c : ℕ) → (1 ≤ c) × (c ≤ length new.store.book.session.scripts) → 1 ≡ c
  one_client c is =
      let scripts : new.store.book.session.scripts ≡ old.store.book.session.scripts = ap (λ (k : SessionHistory). k.scripts) answers_further.session in
      let count : length new.store.book.session.scripts ≡ 1 = ap length scripts ∙ one in
      omega (arith, is.0, is.1, count)

  pub answered_all : (r : Call) → CallAnswers g mid CLIENT r new → ((place : ℕ) → r ≡ call.Done place → ⊥) → AnswersAll g old new
  answered_all (call.Done place) answers not_done = absurd (not_done place refl)
  answered_all call.Finished answers not_done = record {
    own = answers_further;
    whole = λ none c is.
        let book : new.store.book ≡ record mid.store.book { drawer = new.store.book.drawer } = answers.1 in
        let finished : is_finished new.store.book.session.scripts new.store.book.state 1 ≡ true =
        subst (λ (b : BookView). is_finished b.session.scripts b.state 1 ≡ true) (sym book) answers.0 in
        subst (λ k. is_finished new.store.book.session.scripts new.store.book.state k ≡ true) (one_client c is) finished;
    steady = λ none. answers.4 ∙ faults;
    met = λ stop some. absurd (some_stop new.stop stop some answers.3);
  }
  answered_all (call.Stopped stop) answers not_done = record {
    own = answers_further;
    whole = λ none. absurd (some_stop new.stop stop answers.kept none);
    steady = λ none. absurd (some_stop new.stop stop answers.kept none);
    met = λ x some.
        let both : Some stop ≡ Some x = sym answers.kept ∙ some in
        let same : stop ≡ x = cc in
        subst (λ n. StopMet n (faults_of g new.store) new.store.journal.number new.store.book.session x) faults
        (subst (λ (y : Stop). StopMet (faults_of g mid.store) (faults_of g new.store) new.store.journal.number new.store.book.session y) same (answers.met going));
  }

-- ---- a session that was opened

-- The disk as it was handed in, the session as it was opened, once its commands were answered, and closed.
module _ {D : Type 0} (g : Ghosts D) (disk : D) (script : List Line) (s now : SessionView D) (c : Closed D)
    (opened : IsOpened g disk script s.store) (answered : AnswersAll g s now) (closed : IsClosed g now c) where
  abbrev h : SessionHistory
  h = c.book.session

  its_start : now.store.journal.start ≡ disk
  its_start = answered.own.same.start ∙ opened.start

  -- what the closing leaves of the session
  kept_of : {X : Type 0} (field : SessionHistory → X) → ((k : SessionHistory) → field (closed_session k) ≡ field k) → field h ≡ field now.store.book.session
  kept_of field same = ⊎_elim (λ is. ap field is) (λ is. ap field is ∙ same now.store.book.session) closed.at_end.session

  scripts_are : h.scripts ≡ script ∷ []
  scripts_are = kept_of (λ (k : SessionHistory). k.scripts) (λ k. refl) ∙ ap (λ (k : SessionHistory). k.scripts) answered.own.session ∙ opened.scripts

  events_are : h.events ≡ answered.own.more
  events_are =
      kept_of (λ (k : SessionHistory). k.events) (λ k. refl) ∙ ap (λ (k : SessionHistory). k.events) answered.own.session
      ∙ ap (λ (es : List Event). es ++ answered.own.more) opened.events

  opening_is : h.opening ≡ s.store.journal.durable + 1
  opening_is = kept_of (λ (k : SessionHistory). k.opening) (λ k. refl) ∙ ap (λ (k : SessionHistory). k.opening) answered.own.session ∙ opened.opening

  pub told_of_run : Tells script h c.book.acks
  told_of_run = record {
    scripts = scripts_are;
    last = kept_of (λ (k : SessionHistory). k.last) (λ k. refl) ∙ ap (λ (k : SessionHistory). k.last) answered.own.session ∙ opened.last;
    legal = closed.book.session;
    own = subst AreOwn (sym events_are) answered.own.own;
    owed = closed.at_end.owed;
  }

  pub goes_on : GoesOn g disk c.disk
  goes_on = subst (λ old. GoesOn g old c.disk) its_start closed.since

  -- ---- a crash

  module _ (one_log : (image : FileList) (log other : Log) → Spells image log → Spells image other → log ≡ other)
      (begun_maps : (before : List Record) (k : SessionHistory) (image : FileList) (log : Log) → BeginsOn before k → Spells image (from_lowest 1 before) → Spells image log → maps_of (survivors log) ≡ plain_maps k.entries)
      (crash : (old new : D) (e : SessionEnd) → IsSessionEnd g old new e → Within g old new (RecoversFront (length e.before) e.session))
      (at_now : (old new : D) (e : SessionEnd) → IsSessionEnd g old new e → (x : Image) → g.may_leave new x → RecoversFront e.synced e.session x)
      (told : IsTrue (g.tells disk)) (ready : IsReady g disk) where
    ends : EndsOnReady g disk c
    ends = subst (λ start. EndsSession g start c) its_start closed.ends told ready

    opening_behind : (log : Log) → Spells (entries (g.reads disk)) log → h.opening ≡ next_lsn log
    opening_behind log spelled =
        let first = opened.durable told in
        opening_is ∙ sym first.2 ∙ ap next_lsn (one_log (entries (g.reads disk)) first.0 log first.1 spelled)

    pub survives : (log : Log) → Spells (entries (g.reads disk)) log → Survives g disk c.disk log h c.book.acks
    survives log spelled =
        let e = ends in
        let opening : h.opening ≡ length e.«end».before + 1 = ap (λ (k : SessionHistory). k.opening) (sym e.session) ∙ e.is.begins.opening in
        let next : h.opening ≡ next_lsn log = opening_behind log spelled in
        let low : length e.«end».before ≡ next_lsn log - 1 = omega (arith, opening, next) in
        record {
          maps = ap (λ (k : SessionHistory). plain_maps k.entries) (sym e.session) ∙ sym (begun_maps e.«end».before e.«end».session (entries (g.reads disk)) log e.is.begins e.spelled spelled);
          opening = next;
          crash = λ x left. subst (λ (k : SessionHistory). RecoversFront (next_lsn log - 1) k x) e.session (subst (λ n. RecoversFront n e.«end».session x) low (crash disk c.disk e.«end» e.is x left));
          durable = λ x left.
              let found = subst (λ (k : SessionHistory). RecoversFront e.«end».synced k x) e.session (at_now disk c.disk e.«end» e.is x left) in
              (found.0, acked_later e.«end».synced found.0 found.1 c.book.acks (subst (λ (acks : List Ack). AllByRecursion (λ (a : Ack). a.lsn ≤ e.«end».synced) acks) e.acks e.is.acked), found.2);
        }

  -- ---- all was done

  module _ (none : c.stop ≡ None) where
    went_on : now.stop ≡ None
    went_on = no_stop now.stop (λ old was. some_stop c.stop old (closed.at_end.kept old was).0 none)

    finished : is_finished now.store.book.session.scripts now.store.book.state 1 ≡ true
    finished = answered.whole went_on 1 (omega arith, (let one : now.store.book.session.scripts ≡ script ∷ [] = ap (λ (k : SessionHistory). k.scripts) answered.own.session ∙ opened.scripts in omega (arith, ap length one)))

    finished_end : is_finished h.scripts c.book.state 1 ≡ true
    finished_end =
        subst (λ (t : State). is_finished h.scripts t 1 ≡ true) (sym closed.at_end.state)
        (subst (λ (ss : List (List Line)). is_finished ss now.store.book.state 1 ≡ true) (sym (kept_of (λ (k : SessionHistory). k.scripts) (λ k. refl))) finished)

    closed_is : h ≡ closed_session now.store.book.session
    closed_is = (closed.at_end.all none).1

    pub ends_whole : ((old new : D) (e : SessionEnd) → IsSessionEnd g old new e → e.synced ≡ length (records_with e.before e.session) → (x : Image) → g.may_leave new x → RecoversAll e.session x)
        → EndsWhole g disk c.disk h c.book.acks
    ends_whole all = record {
      whole = ap (is_whole_in h.scripts) closed.book.state ∙ finished_end;
      acked = sym (closed.at_end.all none).0;
      closing = ap (λ (k : SessionHistory). k.closing) closed_is ∙ ap (λ (es : List Event). Some (length es)) (sym (ap (λ (k : SessionHistory). k.events) closed_is));
      all = λ told ready x left.
          let e : EndsOnReady g disk c = subst (λ start. EndsSession g start c) its_start closed.ends told ready in
          subst (λ (k : SessionHistory). RecoversAll k x) e.session (all disk c.disk e.«end» e.is (e.all none) x left);
      again = record {
        removed = closed.removed none;
        ready = subst (λ start. IsTrue (g.tells start) → IsReady g start → IsReady g c.disk) its_start (closed.again none);
      };
    }

  -- ---- why it ended

  room_behind : IsTrue (g.tells disk) → (log : Log) × HasRoomBehind (entries (g.reads disk)) log
  room_behind told =
      let first = opened.durable told in
      let lsn = opened.left.1 in
      let number = opened.left.0 in
      (first.0, (first.1, omega (arith, first.2, opened.opening, lsn), omega (arith, opened.number told, number)))

  number_is : IsTrue (g.tells disk) → now.store.journal.number ≡ greatest_of (entries (g.reads disk)) + 1
  number_is told = answered.own.same.number ∙ opened.number told

  -- the stop that ended it, counted from the disk as it was handed in
  stop_met : (x : Stop) → c.stop ≡ Some x → StopMet (g.faults disk) (g.faults c.disk) now.store.journal.number h x
  stop_met x is = by now.stop refl
    where
      by : (was : Option Stop) → now.stop ≡ was → StopMet (g.faults disk) (g.faults c.disk) now.store.journal.number h x
      by None none =
          subst (λ n. StopMet n (g.faults c.disk) now.store.journal.number h x) (answered.steady none ∙ opened.faults) (closed.at_end.met none x is)
      by (Some old) was =
          let kept = closed.at_end.kept old was in
          let some : Some old ≡ Some x = sym kept.0 ∙ is in
          let same : old ≡ x = cc in
          subst (λ n. StopMet n (g.faults c.disk) now.store.journal.number h x) opened.faults
          (subst (λ n. StopMet (faults_of g s.store) n now.store.journal.number h x) (sym kept.1)
          (subst (λ (k : SessionHistory). StopMet (faults_of g s.store) (faults_of g now.store) now.store.journal.number k x) (sym kept.2)
          (answered.met x (was ∙ ap (λ (o : Stop). Some o) same))))

  steady_end : c.stop ≡ None → g.faults c.disk ≡ g.faults disk
  steady_end none = (closed.at_end.all none).2 ∙ answered.steady (went_on none) ∙ opened.faults

  stopped : (x : Option Stop) → c.stop ≡ x → IsStopped g disk c.disk h (ending_of_stop x)
  stopped None is = steady_end is
  stopped (Some stop.Disk) is = stop_met stop.Disk is
  stopped (Some stop.Memory) is = stop_met stop.Memory is
  stopped (Some stop.Limit) is =
      let met = stop_met stop.Limit is in
      (met.0, λ told. ⊎_elim (λ lsn. inl lsn) (λ number. inr (subst (λ n. HasUsedUp n h) (number_is told) number)) met.1)

  pub end_of_run : IsEndOfRun g disk c.disk (Some c.book) (ending_of_stop c.stop)
  end_of_run = (stopped c.stop refl, room_behind)

  steady_stop : (x : Option Stop) → c.stop ≡ x → (ending_of_stop x ≡ Disk → ⊥) → g.faults c.disk ≡ g.faults disk
  steady_stop None is other = steady_end is
  steady_stop (Some stop.Disk) is other = absurd (other refl)
  steady_stop (Some stop.Memory) is other = stop_met stop.Memory is
  steady_stop (Some stop.Limit) is other = (stop_met stop.Limit is).0

  pub steady : (ending_of_stop c.stop ≡ Disk → ⊥) → g.faults c.disk ≡ g.faults disk
  steady other = steady_stop c.stop refl other

-- ---- one that wasn't opened

module _ {D : Type 0} (g : Ghosts D) (disk : D) (u : Unopened D) (unopened : starts.IsUnopened g disk u) where
  cause_of : (fault : StartFault) → StartHasCause g disk u.disk fault → IsUnopened g disk u.disk (ending_of_start fault)
  cause_of (start.Recover fault) cause = cause
  cause_of (start.LogFull next) cause = (cause.0, cause.1, λ told. let full = cause.3 told in (full.0, full.1, inl full.2))
  cause_of (start.NumberLimit number) cause =
      (cause.0, cause.1, λ told. let next = cause.3 told in (next.log, next.spelled, inr (next.left, sym next.behind ∙ cause.2)))
  cause_of start.Disk cause = cause
  cause_of start.Memory cause = cause

  pub unopened_cause : IsEndOfRun g disk u.disk None (ending_of_start u.fault)
  unopened_cause = cause_of u.fault unopened.cause

  unopened_faults : (fault : StartFault) → StartHasCause g disk u.disk fault → (ending_of_start fault ≡ Disk → ⊥) → g.faults u.disk ≡ g.faults disk
  unopened_faults (start.Recover fault) cause other = cause.0
  unopened_faults (start.LogFull next) cause other = cause.0
  unopened_faults (start.NumberLimit number) cause other = cause.0
  unopened_faults start.Disk cause other = absurd (other refl)
  unopened_faults start.Memory cause other = cause

  pub unopened_steady : (ending_of_start u.fault ≡ Disk → ⊥) → g.faults u.disk ≡ g.faults disk
  unopened_steady other = unopened_faults u.fault unopened.cause other

pub not_closed : (fault : StartFault) → ending_of_start fault ≡ Done → ⊥
not_closed (start.Recover fault) is = cc
not_closed (start.LogFull next) is = cc
not_closed (start.NumberLimit number) is = cc
not_closed start.Disk is = cc
not_closed start.Memory is = cc

-- ---- nothing was begun

-- where the disk is as it was, each crash leaves what its files spell
nothing_opened : {D : Type 0} (g : Ghosts D) → ((disk : D) (c : Image) → g.left_since disk (g.moment disk) c → g.may_leave disk c) → (disk : D) → LeavesOpening g disk disk
nothing_opened g only_now disk told ready =
    let rs : List Record = ready.sound.0 in (
      rs,
      ready.sound.1,
      ready.sound.2,
      λ c left.
          let alike = ready.alike c (only_now disk c left) (from_lowest 1 rs) ready.sound.2.0 ready.sound.2.1 in
          let count : length (rs ++ opening_mark rs ∷ []) ≡ length rs + 1 = length-append rs (opening_mark rs ∷ []) in (
            length rs,
            omega arith,
            omega (arith, count),
            subst (λ (records : List Record). Spells (entries c) (from_lowest 1 records)) (sym (take-append_seam rs (opening_mark rs ∷ []))) (alike.0, alike.1),
          ),
    )

pub nothing_run : {D : Type 0} (g : Ghosts D) → ((disk : D) (c : Image) → g.left_since disk (g.moment disk) c → g.may_leave disk c)
    → ((old new : D) → LeavesOpening g old new → IsTrue (g.tells old) → IsReady g old → (log : Log) → Spells (entries (g.reads old)) log → Within g old new (RecoversSame log))
    → (disk : D) (script : List Line) → IsRun g disk disk script None
nothing_run g only_now unopened disk script = record { tells = tt; survives = λ told ready log spelled. unopened disk disk (nothing_opened g only_now disk) told ready log spelled }
