-- A ledger behind what a step asks first: it rests, and a record that was prepared is drawn with the numbers that the log
-- asks for.
use Rattle.std.proofs.Common.{◌≡◌, ◌≢◌, ◌⊎◌, inl, inr, ℕ, suc, ◌+◌, ◌-◌, ◌^◌, ◌<◌, ◌≤◌, Bool, true, false, not, ◌&&◌, List, [], ◌∷◌, Option, Some, None, length}
use Rattle.std.proofs.Common.{refl, sym, ap, ◌∙◌, subst, arith, IfSome, is_some, option_map, true≢false}
use Rattle.std.specs.Prelude.{slice_set, slice_get, slice_index_or, is_none}
use Rattle.std.proofs.lemmas.List.{get_or-set_same, set-set, get_or_read}
use Rattle.std.proofs.lemmas.Option.{slice_get_within}
use Rattle.frs_types.specs.declared.record.Action.{Action}
use Rattle.frs_types.specs.declared.record.Action.TheVariants as action
use Rattle.frs_types.specs.declared.record.Record.{Record}
use Rattle.frs_types.specs.Lawful.{LogState, lowest}
use Rattle.frs_types.specs.Locks.{Holder, holder_at}
use Rattle.frs_frame.specs.Spelling.{spelling, without_numbers}
use Rattle.frs_locks.specs.Answers.{least_client}
use Rattle.frs_slots.specs.Views.{DrawerView, SlotView, HasLooked, DrewRecord, next_drawn}
use Rattle.frs_objects.specs.declared.op.Op.{Op}
use Rattle.frs_history.specs.declared.command.Command.TheVariants as command
use Rattle.frs_history.specs.declared.command.Line.{Line}
use Rattle.frs_history.specs.declared.event.Reply.TheVariants as reply
use Rattle.frs_history.specs.declared.event.What.TheVariants as what
use Rattle.frs_history.specs.HistoryView.{HistoryView}
use Rattle.frs_history.specs.Histories.{is_active}
use Rattle.frs_history.specs.Machine.{Client, client, next_line, outcome}
use Rattle.frs_book.specs.declared.client_state.ClientState.{ClientState}
use Rattle.frs_book.specs.declared.client_state.TxState.{TxState}
use Rattle.frs_book.specs.declared.client_state.TxState.TheVariants as tx
use Rattle.frs_book.specs.declared.ledger.Ledger.{Ledger}
use Rattle.frs_book.specs.declared.step.Step.{Step}
use Rattle.frs_book.specs.declared.step.Step.TheVariants as step
use Rattle.frs_book.specs.Drawn.{drawing_of, action_of, action_by}
use Rattle.frs_book.specs.Books.{BookView, StepAnswers, IsToDraw, prepared_bytes, next_command_of}
use Rattle.frs_book.specs.Agreement.{IsDrawnBy}
use Rattle.frs_book.specs.Room.{HasDrawnOne}
use Rattle.frs_book.specs.Ledgers.{client_in, session_of, machine_state, book_of, scripts_of, client_at, drawing_in, script_at}
use Rattle.frs_book.specs.Ledgers.{IsLedger, IsTurn, IsTurnAt, IsFreeChange, TakesStep, answered_state, begin_lsn, transaction_of}
use Rattle.frs_book.proofs.NextEvents.{end_event, ends_next, is_finished_then, not_finished}
use Rattle.frs_book.proofs.RecordDraws.{prepared_is, to_draw}
use Rattle.frs_book.proofs.LedgerGoesOn.{HasRested, client_is, agrees, drawn_is, looked_first}
use Rattle.frs_book.proofs.StepAnswered.{memory_step}
use Rattle.frs_book.proofs.OutsideCommands.{begin_answers}
use Rattle.frs_book.proofs.OutsideSteps.{drew_behind_look}

-- ---- whose turn it is

-- the client has a place among the holders
pub holder_is_there : (a : Ledger) (c : ℕ) → IsTurn a c → c < length a.locks
holder_is_there a c turn =
    let count = (agrees a turn.kept).holders in
    omega (arith, count, turn.most)

-- one more command may be counted
pub done_fits : (a : Ledger) (c : ℕ) (line : Line) → IsTurnAt a c line → (client_at a c).done + 1 < 2 ^ 64
done_fits a c line turn =
    let there : (client_at a c).done < length (script_at (scripts_of a) c) =
    slice_get_within (script_at (scripts_of a) c) (client_at a c).done line
    (ap (λ (k : Client). slice_get (script_at (scripts_of a) c) k.done) (sym (client_is a turn.turn.kept c)) ∙ turn.at_line) in
    let most : length (script_at (scripts_of a) c) < 2 ^ 64 = turn.turn.kept.counted c in
    omega (arith, there, most)

-- ---- a ledger that rests

pub reserved_rests : (a : Ledger) (h : HistoryView) (d : DrawerView) → h.events ≡ a.history.events
    → (d ≡ a.drawer) ⊎ HasLooked a.drawer d → HasRested a (record a { history = h; drawer = d })
reserved_rests a h d events looks = record { same = refl; events = events; drawer = looks }

pub lowest_rests : (a : Ledger) (h : HistoryView) (d : DrawerView) → h.events ≡ a.history.events
    → lowest (drawing_in (record a { history = h; drawer = d })).log ≡ lowest (drawing_in a).log
lowest_rests a h d events = ap (λ es. lowest (drawing_of (record (session_of a) { events = es })).log) events

pub next_still : (old looked : DrawerView) → (looked ≡ old) ⊎ HasLooked old looked → next_drawn looked ≡ next_drawn old
next_still old looked looks =
    let same = looked_first old looked looks in
    λ i. same.0 i + length (same.1 i)

-- there was no memory for the command of the line
pub no_memory : (a : Ledger) (c : ℕ) (line : Line) → IsTurnAt a c line → (h : HistoryView) (d : DrawerView)
    → h.events ≡ a.history.events → (d ≡ a.drawer) ⊎ HasLooked a.drawer d → (before : Option (List ℕ))
    → TakesStep a c before step.Memory (record a { history = h; drawer = d }) before
no_memory a c line turn h d events looks before =
    memory_step a (record a { history = h; drawer = d }) turn.turn.kept c (reserved_rests a h d events looks) before
    (not_finished (scripts_of a) (machine_state a) c line turn.at_line)

-- a step of a ledger that only has more room for events
pub step_behind : (a mid new : Ledger) (c : ℕ) (before after : Option (List ℕ)) (answer : Step) → book_of mid ≡ book_of a
    → mid.opening ≡ a.opening → TakesStep mid c before answer new after → TakesStep a c before answer new after
step_behind a mid new c before after answer same opening takes = record {
  kept = takes.kept;
  opening = takes.opening ∙ opening;
  answers = subst (λ b. StepAnswers b c before answer (book_of new) after) same takes.answers;
}

-- ---- a record that was prepared

pub slip_is : (old looked : DrawerView) (slip : SlotView) → (looked ≡ old) ⊎ HasLooked old looked → slip.ring ≡ looked.ring
    → slip.lsn ≡ next_drawn looked → slip ≡ record { ring = old.ring; lsn = next_drawn old }
slip_is old looked slip looks ring lsn =
    let same : looked.ring ≡ old.ring = ring_still looks in
    λ i. record { ring = (ring ∙ same) i; lsn = (lsn ∙ next_still old looked looks) i }
  where
    ring_still : (looked ≡ old) ⊎ HasLooked old looked → looked.ring ≡ old.ring
    ring_still (inl same) = ap (λ (d : DrawerView). d.ring) same
    ring_still (inr is) = ap (λ (d : DrawerView). d.ring) is.same

-- from bytes that spell the record with the numbers 0
pub drew_spelled : (a : Action) (bytes : Option (List ℕ)) (old looked new : DrawerView) (tx low named : ℕ)
    → bytes ≡ Some (spelling (without_numbers a)) → (looked ≡ old) ⊎ HasLooked old looked
    → IfSome bytes (λ b. (r : Record) → b ≡ spelling r
    → HasDrawnOne looked (spelling (record r { tx = tx; lowest = low; named = named })) new)
    → HasDrawnOne looked (spelling (record { tx = tx; lowest = low; named = named; action = a })) new
drew_spelled a bytes old looked new tx low named is looks drawn =
    subst (λ o. IfSome o (λ b. (r : Record) → b ≡ spelling r
    → HasDrawnOne looked (spelling (record r { tx = tx; lowest = low; named = named })) new)) is drawn
    (without_numbers a) refl

-- the prepared bytes are those of the command's own action
pub prepared_for : (b : BookView) (c : ℕ) (line : Line) → next_line b.session.scripts b.state c ≡ Some line → (a : Action)
    → action_of line.command ≡ Some a → (framed : Option (List ℕ)) → framed ≡ Some (prepared_bytes (next_command_of b c))
    → framed ≡ Some (spelling (without_numbers a))
prepared_for b c line at_line a draws framed is = is ∙ ap (λ bytes. Some bytes) (prepared_is b c line at_line a draws)

-- ---- the client's state

-- an element that was read
pub client_read : (ks : List ClientState) (c : ℕ) (k : ClientState) → c < length ks → k ≡ slice_index_or ks c k
    → k ≡ client_in ks c
client_read ks c k within is = get_or_read ks c k within is (record { done = 0; tx = tx.Outside; due = None })

-- its state was changed, and then its answer noted
pub noted_client : (ks : List ClientState) (c : ℕ) (k : ClientState) (n : ℕ) (owed : Option ℕ) → c < length ks
    → slice_set (slice_set ks c k) c (answered_state (client_in (slice_set ks c k) c) c n owed)
    ≡ slice_set ks c (answered_state k c n owed)
noted_client ks c k n owed within =
    set-set ks c k (answered_state (client_in (slice_set ks c k) c) c n owed)
    ∙ ap (λ (j : ClientState). slice_set ks c (answered_state j c n owed))
    (get_or-set_same ks c k (record { done = 0; tx = tx.Outside; due = None }) within)

-- ---- the record is the one that the step asks for

pub drew_with : (a : Action) (framed : Option (List ℕ)) (old looked drawn now : DrawerView) (tx low least named : ℕ)
    → framed ≡ Some (spelling (without_numbers a)) → (looked ≡ old) ⊎ HasLooked old looked
    → IfSome framed (λ b. (r : Record) → b ≡ spelling r
    → HasDrawnOne looked (spelling (record r { tx = tx; lowest = low; named = named })) drawn)
    → low ≡ least → now ≡ drawn
    → DrewRecord old (spelling (record { tx = tx; lowest = least; named = named; action = a })) now
drew_with a framed old looked drawn now tx low least named is looks drew same moved =
    subst (λ (d : DrawerView). DrewRecord old (spelling (record { tx = tx; lowest = least; named = named; action = a })) d) (sym moved)
    (subst (λ n. DrewRecord old (spelling (record { tx = tx; lowest = n; named = named; action = a })) drawn) same
    (drew_behind_look old looked drawn (spelling (record { tx = tx; lowest = low; named = named; action = a })) looks
    (drew_spelled a framed old looked drawn tx low named is looks drew)))

-- ---- a record is to be drawn

pub begin_is_to_draw : (a : Ledger) (c : ℕ) (line : Line) → IsTurnAt a c line → (sync : Bool) → (client_at a c).tx ≡ tx.Outside
    → line.command ≡ command.Begin sync → IsToDraw (book_of a) c
begin_is_to_draw a c line turn sync outside begins =
    to_draw (book_of a) c line turn.at_line reply.Done _ action.Begin
    (ap (outcome (machine_state a) c) begins ∙ begin_answers a turn.turn.kept c outside sync)
    (ap (λ x. action_by (machine_state a).maps (Some x) (what.Answered reply.Done)) begins)

pub change_is_to_draw : (a : Ledger) (c : ℕ) (line : Line) → IsTurnAt a c line → (op : Op) (named : ℕ)
    → IsFreeChange a c line.command op named → IsToDraw (book_of a) c
change_is_to_draw a c line turn op named change =
    to_draw (book_of a) c line turn.at_line reply.Done _ change.action change.answers change.draws

pub end_is_to_draw : (a : Ledger) (c : ℕ) → next_line (scripts_of a) (machine_state a) c ≡ None
    → is_active (client (machine_state a) c).tx ≡ true → IsToDraw (book_of a) c
end_is_to_draw a c none active = record {
  event = end_event c;
  next = (ends_next (scripts_of a) (machine_state a) c none active).0;
  draws = ap (λ (o : Option Line). is_some (action_by (machine_state a).maps (option_map (λ (l : Line). l.command) o) what.End)) none;
}

-- ---- whether a transaction is active

idle_by : (log : LogState) (t : TxState) (h : Holder) → IsDrawnBy log (begin_lsn t) (transaction_of t) h → begin_lsn t ≡ 0
    → is_active (transaction_of t) ≡ false
idle_by log tx.Outside h drawn none = refl
idle_by log tx.Abandoned h drawn none = refl
idle_by log (tx.Active b sync changes) h drawn none = absurd (omega (arith, none, drawn.0))

active_by : (t : TxState) → 0 < begin_lsn t → is_active (transaction_of t) ≡ true
active_by tx.Outside some = absurd (omega (arith, some))
active_by tx.Abandoned some = absurd (omega (arith, some))
active_by (tx.Active b sync changes) some = refl

pub its_idle : (a : Ledger) → IsLedger a → (c : ℕ) → begin_lsn (client_at a c).tx ≡ 0
    → is_active (client (machine_state a) c).tx ≡ false
its_idle a kept c none = ap (λ (x : Client). is_active x.tx) (client_is a kept c)
    ∙ idle_by (drawing_in a).log (client_at a c).tx (holder_at a.locks c) (drawn_is a kept c) none

pub its_active : (a : Ledger) → IsLedger a → (c : ℕ) → 0 < begin_lsn (client_at a c).tx
    → is_active (client (machine_state a) c).tx ≡ true
its_active a kept c some = ap (λ (x : Client). is_active x.tx) (client_is a kept c) ∙ active_by (client_at a c).tx some

-- a script at its end, and no active transaction
pub finished_step : (a : Ledger) → IsLedger a → (c : ℕ) → next_line (scripts_of a) (machine_state a) c ≡ None
    → is_active (client (machine_state a) c).tx ≡ false → (before : Option (List ℕ)) → TakesStep a c before step.Finished a before
finished_step a kept c none idle before = record {
  kept = kept;
  opening = refl;
  answers = (is_finished_then (scripts_of a) (machine_state a) c none idle, refl, refl);
}

-- there was no memory for the end of a script
pub no_memory_at_end : (a : Ledger) → IsLedger a → (c : ℕ) → is_active (client (machine_state a) c).tx ≡ true
    → (h : HistoryView) (d : DrawerView) → h.events ≡ a.history.events → (d ≡ a.drawer) ⊎ HasLooked a.drawer d
    → (before : Option (List ℕ)) → TakesStep a c before step.Memory (record a { history = h; drawer = d }) before
no_memory_at_end a kept c active h d events looks before =
    memory_step a (record a { history = h; drawer = d }) kept c (reserved_rests a h d events looks) before
    (unfinished (is_none (next_line (scripts_of a) (machine_state a) c)))
  where
    unfinished : (b : Bool) → (b && not (is_active (client (machine_state a) c).tx)) ≡ false
    unfinished true = ap not active
    unfinished false = refl

-- ---- who hinders

pub some_hinder : (ds : List ℕ) → is_some (least_client ds) ≡ true → ds ≢ []
some_hinder [] is none = true≢false (sym is)
some_hinder (d ∷ ds) is none = absurd cc

pub none_hinders : (ds : List ℕ) → is_some (least_client ds) ≡ false → ds ≡ []
none_hinders [] is = refl
none_hinders (d ∷ ds) is = absurd (true≢false is)

-- ---- scripts

-- the script of a client from 1 on, as it was read
pub script_read : (scripts : List (List Line)) (c : ℕ) (lines : List Line) → 1 ≤ c → c - 1 < length scripts
    → lines ≡ slice_index_or scripts (c - 1) lines → lines ≡ script_at scripts c
script_read scripts c lines some within is =
    let one : c ≡ suc (c - 1) = omega (arith, some) in
    get_or_read scripts (c - 1) lines within is [] ∙ ap (λ n. slice_index_or ([] ∷ scripts) n []) (sym one)

-- its state was changed, and one more command may still be counted
pub noted_fits : (ks : List ClientState) (c : ℕ) (k : ClientState) → c < length ks → k.done ≡ (client_in ks c).done
    → (client_in ks c).done + 1 < 2 ^ 64 → (client_in (slice_set ks c k) c).done + 1 < 2 ^ 64
noted_fits ks c k within same fits =
    subst (λ n. n + 1 < 2 ^ 64)
    (sym (ap (λ (j : ClientState). j.done) (get_or-set_same ks c k (record { done = 0; tx = tx.Outside; due = None }) within) ∙ same))
    fits
