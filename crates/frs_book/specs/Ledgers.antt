-- What the book of a session keeps beside its scripts, how it is seen, and what always holds of it.
use Rattle.std.specs.Prelude.{◌≡◌, ◌⊎◌, ℕ, ◌+◌, ◌-◌, ◌^◌, ◌<◌, ◌≤◌, Bool, true, false, not, ◌&&◌, nat_le, List, [], ◌∷◌, map, length}
use Rattle.std.specs.Prelude.{Option, Some, None, option_map, option_to_list, slice_index_or, vec_capacity}
use Rattle.frs_types.specs.declared.limits.TheConstants.{NUMBER_LIMIT}
use Rattle.frs_types.specs.declared.record.Action.TheVariants.{Abandon}
use Rattle.frs_types.specs.declared.record.Action.{Action}
use Rattle.frs_types.specs.declared.lock.Lock.{Lock}
use Rattle.frs_types.specs.declared.lock.Lock.TheVariants.{OnKey, OnMap}
use Rattle.frs_types.specs.Maps.{table_after}
use Rattle.frs_types.specs.Locks.{nobody}
use Rattle.frs_types.specs.Records.{has_words}
use Rattle.frs_types.specs.Lawful.{Open, LogState, plain_maps, changes_of, after_by, after_change}
use Rattle.frs_types.specs.ChangeLists.{plain_change}
use Rattle.frs_frame.specs.Spelling.{spelling, without_numbers}
use Rattle.frs_slots.specs.Views.{next_drawn}
use Rattle.frs_objects.specs.declared.op.Op.{Op}
use Rattle.frs_objects.specs.declared.op.Op.TheVariants.{Remove, Delete}
use Rattle.frs_objects.specs.Objects.{change_by, AreNew, put_lsns, puts_among}
use Rattle.frs_history.specs.declared.command.Command.{Command}
use Rattle.frs_history.specs.declared.command.Command.TheVariants.{Commit}
use Rattle.frs_history.specs.declared.command.Line.{Line}
use Rattle.frs_history.specs.declared.event.Reply.{Reply}
use Rattle.frs_history.specs.declared.event.Reply.TheVariants.{Done}
use Rattle.frs_history.specs.declared.event.What.TheVariants.{Answered}
use Rattle.frs_history.specs.Histories.{is_owed_by}
use Rattle.frs_history.specs.Machine.{Client, Transaction, State, Scripts, client, next_line, outcome, with_client}
use Rattle.frs_history.specs.Machine.Outcome.{Answers}
use Rattle.frs_history.specs.Machine.Transaction.{Outside, Active, Abandoned}
use Rattle.frs_history.specs.Scripts.{is_bracketed}
use Rattle.frs_book.specs.declared.client_state.ClientState.{ClientState}
use Rattle.frs_book.specs.declared.client_state.TxState.{TxState}
use Rattle.frs_book.specs.declared.client_state.TxState.TheVariants as tx
use Rattle.frs_book.specs.declared.ledger.Ledger.{Ledger}
use Rattle.frs_book.specs.declared.step.Step.{Step}
use Rattle.frs_book.specs.Drawn.{SessionHistory, Drawing, drawing_of, draw_steps, acks_owed, action_of, tx_for, named_for}
use Rattle.frs_book.specs.Drawn.{begin_of, begin_after, action_by}
use Rattle.frs_book.specs.Books.{BookView, IsBook, StepAnswers, last_asked, snapshot_by}

-- ---- a client

abbrev pub new_client : ClientState
new_client = record { done = 0; tx = tx.Outside; due = None }

abbrev pub client_in : List ClientState → ℕ → ClientState
client_in ks c = slice_index_or ks c new_client

-- the LSN of the begin, or 0
abbrev pub begin_lsn : TxState → ℕ
begin_lsn (tx.Active begin sync changes) = begin
begin_lsn other = 0

abbrev pub has_begun : TxState → Bool
has_begun (tx.Active begin sync changes) = true
has_begun other = false

-- the transaction as the machine has it
abbrev pub transaction_of : TxState → Transaction
transaction_of tx.Outside = Outside
transaction_of (tx.Active begin sync changes) = Active sync (map plain_change (map change_by changes))
transaction_of tx.Abandoned = Abandoned

abbrev pub client_of_state : ClientState → Client
client_of_state k = record { done = k.done; tx = transaction_of k.tx }

-- ---- how a ledger is seen

abbrev pub session_of : Ledger → SessionHistory
session_of a = record {
  scripts = a.opening.scripts.value;
  entries = a.opening.entries.value;
  last = a.opening.last.value;
  opening = next_drawn a.opening.drawer.value - 1;
  events = a.history.events;
  closing = a.closing.value;
}

abbrev pub machine_state : Ledger → State
machine_state a = record {
  maps = plain_maps a.objects;
  last = a.last;
  clients = map client_of_state a.clients.items;
  holders = a.locks;
}

abbrev pub book_of : Ledger → BookView
book_of a = record {
  session = session_of a;
  state = machine_state a;
  acks = a.acks.items;
  drawer = a.drawer;
  before = a.opening.drawer.value.drawn;
}

abbrev pub scripts_of : Ledger → Scripts
scripts_of a = a.opening.scripts.value

abbrev pub client_at : Ledger → ℕ → ClientState
client_at a c = client_in a.clients.items c

abbrev pub drawing_in : Ledger → Drawing
drawing_in a = drawing_of (session_of a)

-- ---- what always holds

-- an active transaction has the changes of its open transaction in the log
abbrev pub HasChanges : List Open → TxState → Type 0
HasChanges active (tx.Active begin sync changes) = changes_of active begin ≡ map change_by changes
HasChanges active other = Unit {0}

-- the script of a client; that of client 0 has no line
abbrev pub script_at : Scripts → ℕ → List Line
script_at scripts c = slice_index_or ([] ∷ scripts) c []

-- how many lines weren't answered yet
abbrev pub lines_left : List (List Line) → List ClientState → ℕ
lines_left [] ks = 0
lines_left (lines ∷ scripts) [] = length lines + lines_left scripts []
lines_left (lines ∷ scripts) (k ∷ ks) = (length lines - k.done) + lines_left scripts ks

-- What always holds of a ledger: it is a book, and what it keeps of the log and its clients is what the records that
-- were drawn say.
pub record IsLedger (a : Ledger) : Type 0 where
  pub book : IsBook (book_of a)
  pub entries : a.objects ≡ (drawing_in a).log.entries
  pub begins : map (λ (k : ClientState). begin_lsn k.tx) a.clients.items ≡ (drawing_in a).begins
  pub changes : (c : ℕ) → HasChanges (drawing_in a).log.active (client_at a c).tx
  pub compactor : client_at a 0 ≡ new_client
  pub bracketed : (c : ℕ) → is_bracketed false (script_at (scripts_of a) c) ≡ true
  pub counted : (c : ℕ) → length (script_at (scripts_of a) c) < 2 ^ 64
  pub due : (c : ℕ) → last_asked c (draw_steps (session_of a)) ≡ option_to_list (client_at a c).due
  pub room : length (acks_owed (session_of a)) + lines_left ([] ∷ scripts_of a) a.clients.items ≤ vec_capacity a.acks
  pub last : a.last ≤ a.opening.last.value + length a.history.events
  pub last_limit : a.opening.last.value < NUMBER_LIMIT
  pub abandon : a.abandon ≡ spelling (without_numbers Abandon)

-- the script is at its end, and no transaction is active
abbrev pub has_finished : List Line → ClientState → Bool
has_finished lines k = nat_le (length lines) k.done && not (has_begun k.tx)

-- every client has, but the first, which has no script
abbrev pub AreFinished : Scripts → List ClientState → Type 0
AreFinished scripts ks = (c : ℕ) → 1 ≤ c → c < length ks → has_finished (script_at scripts c) (client_in ks c) ≡ true

-- ---- a step

-- it is the turn of one of the clients
pub record IsTurn (a : Ledger) (c : ℕ) : Type 0 where
  pub kept : IsLedger a
  pub some : 1 ≤ c
  pub most : c ≤ length (scripts_of a)

-- and this is its next line
pub record IsTurnAt (a : Ledger) (c : ℕ) (line : Line) : Type 0 where
  pub turn : IsTurn a c
  pub at_line : next_line (scripts_of a) (machine_state a) c ≡ Some line

-- the client answers this, and the ledger goes on as a book does
pub record TakesStep (old : Ledger) (c : ℕ) (before : Option (List ℕ)) (answer : Step) (new : Ledger)
    (after : Option (List ℕ)) : Type 0 where
  pub kept : IsLedger new
  pub opening : new.opening ≡ old.opening
  pub answers : StepAnswers (book_of old) c before answer (book_of new) after

-- the client once its command was answered, which may have to be acknowledged with this LSN
abbrev pub answered_state : ClientState → ℕ → ℕ → Option ℕ → ClientState
answered_state k c line owed = record k {
  done = k.done + 1;
  due = option_map (λ (lsn : ℕ). record { client = c; line = line; lsn = lsn }) owed;
}

-- the transaction once a command has come behind its abandonment
abbrev pub tx_after_abandoned : Command → TxState
tx_after_abandoned Commit = tx.Outside
tx_after_abandoned other = tx.Abandoned

-- ---- what is told without a record

-- Outside a transaction the command is answered this, and nothing of the maps changes.
pub record IsTold (a : Ledger) (c : ℕ) (x : Command) (r : Reply) : Type 0 where
  pub outside : (client_at a c).tx ≡ tx.Outside
  pub answers : outcome (machine_state a) c x ≡ Answers r
      (with_client (machine_state a) c (record { done = (client (machine_state a) c).done + 1; tx = Outside }) nobody)
  pub draws : action_by (machine_state a).maps (Some x) (Answered r) ≡ None
  pub unowed : is_owed_by Outside (Some x) (Answered r) ≡ false
  pub plain : (lsn : ℕ) → snapshot_by lsn (Answered r) ≡ None

-- ---- a change outside a transaction

-- what takes out all that a lock is on
abbrev pub removal_of : Lock → Op
removal_of (OnKey id key) = Remove id key
removal_of (OnMap id) = Delete id

-- The command makes this change at the next LSN, nobody hinders it, and its record names this LSN.
pub record IsFreeChange (a : Ledger) (c : ℕ) (x : Command) (op : Op) (named : ℕ) : Type 0 where
  pub answers : outcome (machine_state a) c x ≡ Answers Done
      (with_client (record (machine_state a) { maps = table_after (machine_state a).maps (plain_change (change_by op)) }) c
      (record { done = (client (machine_state a) c).done + 1; tx = Outside }) nobody)
  pub action : Action
  pub draws : action_of x ≡ Some action
  pub changes : (s : LogState) → s.next ≡ next_drawn a.drawer → after_by s 0 action ≡ after_change s 0 (change_by op)
  pub keeps_begin : begin_after (next_drawn a.drawer) 0 action ≡ 0
  pub stands : (d : Drawing) → tx_for d c action ≡ begin_of d c
  pub named_is : named ≡ named_for (drawing_in a).log 0 action
  pub words : has_words action ≡ true
  pub new : AreNew a.objects (put_lsns (puts_among (op ∷ [])))
  pub owed : is_owed_by Outside (Some x) (Answered Done) ≡ true

-- ---- the least begin

-- the lesser of the two, where a begin 0 stands for none
pub record IsLesser (least begin lesser : ℕ) : Type 0 where
  pub most : lesser ≤ least
  pub below : 0 < begin → lesser ≤ begin
  pub one : (lesser ≡ least) ⊎ ((0 < begin) × (begin ≡ lesser))

-- none is below it, and it is one of them or the next LSN
pub record IsLeastBegin (ks : List ClientState) (next least : ℕ) : Type 0 where
  pub most : least ≤ next
  pub each : (c : ℕ) → 0 < begin_lsn (client_in ks c).tx → least ≤ begin_lsn (client_in ks c).tx
  pub one : (least ≡ next) ⊎ ((c : ℕ) × (0 < begin_lsn (client_in ks c).tx) × (begin_lsn (client_in ks c).tx ≡ least))
