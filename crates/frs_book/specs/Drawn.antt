-- The records that a history draws, the LSN of each event, how many commits an LSN covers, and which events are to be
-- acknowledged with which LSN.
use Rattle.std.specs.Prelude.{ℕ, ◌+◌, ◌-◌, nat_le, List, [], ◌∷◌, ◌++◌, map, filter_map, flat_map, take, drop, length}
use Rattle.std.specs.Prelude.{Option, Some, None, is_some, option_map, if◌then◌else◌}
use Rattle.std.specs.Prelude.{replicate, sum_by, slice_index_or, slice_set}
use Rattle.frs_types.specs.declared.record.Action.{Action}
use Rattle.frs_types.specs.declared.record.Action.TheVariants as action
use Rattle.frs_types.specs.declared.record.Record.{Record}
use Rattle.frs_types.specs.Maps.{Maps, Table, at}
use Rattle.frs_types.specs.Lawful.{StoredValue, LogState, settled_state, plain_maps}
use Rattle.frs_types.specs.Lawful.{lowest, named_at, after_record, state_after}
use Rattle.frs_history.specs.declared.command.Command.{Command}
use Rattle.frs_history.specs.declared.command.Command.TheVariants as command
use Rattle.frs_history.specs.declared.event.Ack.{Ack}
use Rattle.frs_history.specs.declared.event.Event.{Event}
use Rattle.frs_history.specs.declared.event.Reply.TheVariants as reply
use Rattle.frs_history.specs.declared.event.What.{What}
use Rattle.frs_history.specs.declared.event.What.TheVariants as what
use Rattle.frs_history.specs.Machine.{Scripts, Changes, start}
use Rattle.frs_history.specs.Histories.{Moment, moments, commits_of, commits_from, is_owed}

-- A session: its scripts, what it was opened with, its events, and the place of the closing mark among them, once
-- drawn.
pub record SessionHistory : Type 0 where
  pub scripts : Scripts
  pub entries : Table StoredValue
  pub last : ℕ
  pub opening : ℕ
  pub events : List Event
  pub closing : Option ℕ

-- ---- which record is drawn

abbrev pub action_of : Command → Option Action
action_of (command.Begin sync) = Some action.Begin
action_of (command.Put id key value) = Some (action.Put id key value)
action_of (command.Remove id key) = Some (action.Remove id key)
action_of (command.Delete id) = Some (action.Delete id)
action_of (command.Get id key) = None
action_of command.Commit = Some action.Commit
action_of command.Snapshot = None

-- A command that is done draws its own action, a deadlock and an end an abandon, and an entry that is written again a
-- compaction with its value in the maps.
abbrev pub action_by : Maps → Option Command → What → Option Action
action_by m (Some x) (what.Answered reply.Done) = action_of x
action_by m (Some x) (what.Answered reply.Deadlock) = Some action.Abandon
action_by m x what.End = Some action.Abandon
action_by m x (what.Reappend id key) = option_map (λ value. action.Compaction id key value) (at m (id, key))
action_by m x other = None

abbrev pub action_at : Moment → Option Action
action_at m = action_by m.before.maps m.command m.event.what

-- of a moment, or in place of one of the closing mark
abbrev pub drawn_action : Option Moment → Option Action
drawn_action None = Some action.Mark
drawn_action (Some m) = action_at m

abbrev pub client_of : Option Moment → ℕ
client_of None = 0
client_of (Some m) = m.event.client

-- ---- the records, one after another

-- the state of the log so far, and for each client the LSN of its begin, or 0 outside a transaction
pub record Drawing : Type 0 where
  pub log : LogState
  pub begins : List ℕ

abbrev pub begin_of : Drawing → ℕ → ℕ
begin_of d c = slice_index_or d.begins c 0

-- a begin is its transaction; a compaction and a mark stand outside
abbrev pub tx_for : Drawing → ℕ → Action → ℕ
tx_for d c action.Begin = d.log.next
tx_for d c (action.Compaction id key value) = 0
tx_for d c action.Mark = 0
tx_for d c other = begin_of d c

abbrev pub named_for : LogState → ℕ → Action → ℕ
named_for s tx (action.Put id key value) = named_at s tx (id, key)
named_for s tx (action.Remove id key) = named_at s tx (id, key)
named_for s tx (action.Compaction id key value) = named_at s tx (id, key)
named_for s tx other = 0

-- the record that the client draws for the action
abbrev pub record_for : Drawing → ℕ → Action → Record
record_for d c a =
    record { tx = tx_for d c a; lowest = lowest d.log; named = named_for d.log (tx_for d c a) a; action = a }

-- the LSN of the client's begin once it drew the action at the LSN next
abbrev pub begin_after : ℕ → ℕ → Action → ℕ
begin_after next begin action.Begin = next
begin_after next begin action.Commit = 0
begin_after next begin action.Abandon = 0
begin_after next begin other = begin

abbrev pub after_draw : Drawing → ℕ → Option Action → Drawing
after_draw d c None = d
after_draw d c (Some a) = record {
  log = after_record d.log (record_for d c a);
  begins = slice_set d.begins c (begin_after d.log.next (begin_of d c) a);
}

-- A moment or the closing mark, the record that it draws, and that record's LSN or else the last LSN before it.
pub record DrawStep : Type 0 where
  pub moment : Option Moment
  pub drawn : Option Record
  pub lsn : ℕ

abbrev pub draw_step : Drawing → Option Moment → DrawStep
draw_step d m = record {
  moment = m;
  drawn = option_map (record_for d (client_of m)) (drawn_action m);
  lsn = if is_some (drawn_action m) then d.log.next else d.log.next - 1;
}

abbrev pub draw_steps_from : Drawing → List (Option Moment) → List DrawStep
draw_steps_from d [] = []
draw_steps_from d (m ∷ ms) = draw_step d m ∷ draw_steps_from (after_draw d (client_of m) (drawn_action m)) ms

-- what is drawn once all of them drew
abbrev pub drawing_after : Drawing → List (Option Moment) → Drawing
drawing_after d [] = d
drawing_after d (m ∷ ms) = drawing_after (after_draw d (client_of m) (drawn_action m)) ms

-- the moments, with the closing mark at its place
abbrev pub with_closing : Option ℕ → List Moment → List (Option Moment)
with_closing None ms = map (λ m. Some m) ms
with_closing (Some place) ms = map (λ m. Some m) (take place ms) ++ None ∷ map (λ m. Some m) (drop place ms)

-- ---- of a session

abbrev pub moments_of : SessionHistory → List Moment
moments_of h = moments h.scripts (start (plain_maps h.entries) h.last (length h.scripts)) h.events

-- behind the opening mark
abbrev pub opened : SessionHistory → Drawing
opened h = record {
  log = settled_state h.entries (h.opening + 1);
  begins = 0 ∷ replicate (length h.scripts) 0;
}

unfoldable pub draw_steps : SessionHistory → List DrawStep
draw_steps h = draw_steps_from (opened h) (with_closing h.closing (moments_of h))

-- the records of steps
abbrev pub records_of : List DrawStep → List Record
records_of ts = filter_map (λ (t : DrawStep). t.drawn) ts

-- the records behind the opening mark
abbrev pub drawn_records : SessionHistory → List Record
drawn_records h = records_of (draw_steps h)

-- the state of the log behind them
abbrev pub log_state_of : SessionHistory → LogState
log_state_of h = state_after (opened h).log (drawn_records h)

-- the same, with the clients' begins
unfoldable pub drawing_of : SessionHistory → Drawing
drawing_of h = drawing_after (opened h) (with_closing h.closing (moments_of h))

-- the lists of changes that the session commits, in order
abbrev pub commits_in : SessionHistory → List Changes
commits_in h = commits_from (plain_maps h.entries) h.last h.scripts h.events

-- the lists of changes that a moment commits; the closing mark commits none
abbrev pub commits_at : Option Moment → List Changes
commits_at None = []
commits_at (Some m) = commits_of m

-- the number of commits among the steps whose LSN is at most n
abbrev pub commits_among : List DrawStep → ℕ → ℕ
commits_among ts n = sum_by (λ (t : DrawStep). if nat_le t.lsn n then length (commits_at t.moment) else 0) ts

abbrev pub commits_up_to : SessionHistory → ℕ → ℕ
commits_up_to h n = commits_among (draw_steps h) n

-- the acknowledgement that a moment asks for
abbrev pub ack_at : ℕ → Option Moment → List Ack
ack_at lsn None = []
ack_at lsn (Some m) =
    if is_owed m then record { client = m.event.client; line = m.event.line; lsn = lsn } ∷ [] else []

abbrev pub acks_owed : SessionHistory → List Ack
acks_owed h = flat_map (λ (t : DrawStep). ack_at t.lsn t.moment) (draw_steps h)
