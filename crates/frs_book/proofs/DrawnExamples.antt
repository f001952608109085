-- Sessions worked out: the records that they draw, which are lawful, what is to be acknowledged, and the maps that their
-- records show, all by computation.
use Rattle.std.proofs.Common.{◌≡◌, ℕ, ◌+◌, zero, suc, List, [], ◌∷◌, ◌++◌, Option, Some, None, true, false, refl, map, take, drop, length}
use Rattle.std.proofs.Common.{unwrap_or}
use Rattle.std.specs.Prelude.{codes, decimal}
use Rattle.std.specs.Fmt.{digits}
use Rattle.frs_types.specs.declared.record.Action.{Action}
use Rattle.frs_types.specs.declared.record.Action.TheVariants as action
use Rattle.frs_types.specs.declared.record.Record.{Record}
use Rattle.frs_types.specs.declared.lock.Lock.TheVariants.{OnKey}
use Rattle.frs_types.specs.Maps.{Place, Maps}
use Rattle.frs_types.specs.Locks.{hinderers_at, waits_for, ring, via}
use Rattle.frs_types.specs.Lawful.{are_lawful, settled_state, state_after, plain_maps, lowest}
use Rattle.frs_history.specs.declared.command.Command.{Command}
use Rattle.frs_history.specs.declared.command.Command.TheVariants.{Begin, Put, Remove, Delete, Get, Commit, Snapshot}
use Rattle.frs_history.specs.declared.command.Line.{Line}
use Rattle.frs_history.specs.declared.event.Ack.{Ack}
use Rattle.frs_history.specs.declared.event.Event.{Event}
use Rattle.frs_history.specs.declared.event.Reply.{Reply}
use Rattle.frs_history.specs.declared.event.Reply.TheVariants.{Done, Absent, Found, Deadlock, Abandoned}
use Rattle.frs_history.specs.declared.event.Reply.TheVariants as reply
use Rattle.frs_history.specs.declared.event.What.TheVariants as what
use Rattle.frs_history.specs.Machine.{Scripts, State, start}
use Rattle.frs_history.specs.Histories.{next, run, is_legal}
use Rattle.frs_book.specs.Drawn.{draw_steps, SessionHistory, drawn_records, acks_owed, commits_up_to}
use Rattle.frs_book.specs.Books.{next_event, is_finished, lock_wanted, last_asked}
use Rattle.frs_locks.specs.Answers.{least_client}
use Rattle.std.specs.Prelude.{option_and_then, option_to_list}

-- ---- words of the examples

abbrev m : List ℕ
m = codes "m"

abbrev a : List ℕ
a = codes "a"

abbrev b : List ℕ
b = codes "b"

abbrev c : List ℕ
c = codes "c"

abbrev k : List ℕ
k = codes "k"

abbrev one : List ℕ
one = codes "1"

abbrev two : List ℕ
two = codes "2"

abbrev three : List ℕ
three = codes "3"

abbrev four : List ℕ
four = codes "4"

abbrev z : List ℕ
z = codes "z"

abbrev lines_from : ℕ → List Command → List Line
lines_from n [] = []
lines_from n (x ∷ xs) = record { number = n; command = x } ∷ lines_from (n + 1) xs

abbrev script : List Command → List Line
script xs = lines_from 1 xs

abbrev says : ℕ → ℕ → Reply → Event
says client line r = record { client = client; line = line; what = what.Answered r }

abbrev waits : ℕ → ℕ → Event
waits client line = record { client = client; line = line; what = what.Waits }

abbrev ends : ℕ → Event
ends client = record { client = client; line = 0; what = what.End }

abbrev reappends : List ℕ → List ℕ → Event
reappends id key = record { client = 0; line = 0; what = what.Reappend id key }

abbrev all_done : ℕ → ℕ → ℕ → List Event
all_done client line zero = []
all_done client line (suc n) = says client line Done ∷ all_done client (line + 1) n

-- a session on an empty store: its opening mark has LSN 1
abbrev fresh : Scripts → List Event → Option ℕ → SessionHistory
fresh scripts es closing =
    record { scripts = scripts; entries = []; last = 0; opening = 1; events = es; closing = closing }

abbrev opening_mark : Record
opening_mark = record { tx = 0; lowest = 1; named = 0; action = action.Mark }

-- the whole log of such a session
abbrev log_of : SessionHistory → List Record
log_of h = opening_mark ∷ drawn_records h

-- the transaction, the lowest and the named LSN of each record
abbrev heads : List Record → List (ℕ × ℕ × ℕ)
heads rs = map (λ (r : Record). (r.tx, r.lowest, r.named)) rs

abbrev actions : List Record → List Action
actions rs = map (λ (r : Record). r.action) rs

-- the maps that the records up to the LSN show
abbrev maps_at : ℕ → SessionHistory → Maps
maps_at n h = plain_maps (state_after (settled_state [] 1) (take n (log_of h))).entries

abbrev ack : ℕ → ℕ → ℕ → Ack
ack client line lsn = record { client = client; line = line; lsn = lsn }

abbrev entry : List ℕ → List ℕ → List ℕ → Place × List ℕ
entry id key value = ((id, key), value)

-- The session's events are legal, its log is lawful, and these are the heads of its records and its acknowledgements.
record IsExample (h : SessionHistory) (records : List (ℕ × ℕ × ℕ)) (owed : List Ack) : Type 0 where
  legal : is_legal [] 0 h.scripts h.events ≡ true
  lawful : are_lawful (settled_state [] 1) (log_of h) ≡ true
  drawn : heads (log_of h) ≡ records
  acks : acks_owed h ≡ owed

-- ---- changes on one key, in a transaction and before it

-- LSNs 2 to 7 name 0, 0, 2, 4, 0, 0 and carry lowest 2; the closing mark carries 6
abbrev one_key : SessionHistory
one_key = fresh
    (script (Put m k z ∷ Begin true ∷ Put m k a ∷ Remove m k ∷ Put m k b ∷ Commit ∷ []) ∷ []) (all_done 1 1 6) (Some 6)

one_key_drawn : IsExample one_key
    ((0, 1, 0) ∷ (0, 2, 0) ∷ (3, 2, 0) ∷ (3, 2, 2) ∷ (3, 2, 4) ∷ (3, 2, 0) ∷ (3, 2, 0) ∷ (0, 6, 0) ∷ [])
    (ack 1 1 2 ∷ ack 1 6 7 ∷ [])
unfolding draw_steps
one_key_drawn = record { legal = refl; lawful = refl; drawn = refl; acks = refl }

one_key_shows : map (λ n. maps_at n one_key) (1 ∷ 2 ∷ 6 ∷ 7 ∷ 8 ∷ [])
    ≡ [] ∷ (entry m k z ∷ []) ∷ (entry m k z ∷ []) ∷ (entry m k b ∷ []) ∷ (entry m k b ∷ []) ∷ []
unfolding draw_steps
one_key_shows = refl

one_key_commits : map (commits_up_to one_key) (1 ∷ 2 ∷ 3 ∷ 4 ∷ 5 ∷ 6 ∷ 7 ∷ 8 ∷ []) ≡ 0 ∷ 1 ∷ 1 ∷ 1 ∷ 1 ∷ 1 ∷ 2 ∷ 2 ∷ []
unfolding draw_steps
one_key_commits = refl

-- ---- a script that ends in an active transaction draws an abandon record

abbrev ended : SessionHistory
ended = fresh (script (Put m k a ∷ Begin true ∷ Put m k b ∷ []) ∷ []) (all_done 1 1 3 ++ ends 1 ∷ []) (Some 4)

ended_drawn : IsExample ended
    ((0, 1, 0) ∷ (0, 2, 0) ∷ (3, 2, 0) ∷ (3, 2, 2) ∷ (3, 2, 0) ∷ (0, 2, 0) ∷ []) (ack 1 1 2 ∷ [])
unfolding draw_steps
ended_drawn = record { legal = refl; lawful = refl; drawn = refl; acks = refl }

ended_abandons : actions (take 1 (drop 4 (log_of ended))) ≡ action.Abandon ∷ []
unfolding draw_steps
ended_abandons = refl

-- ---- a put behind a delete names nothing

abbrev deleted : SessionHistory
deleted = fresh
    (script (Put m a one ∷ Begin true ∷ Put m b two ∷ Delete m ∷ Put m a three ∷ Commit ∷ []) ∷ []) (all_done 1 1 6) (Some 6)

deleted_drawn : IsExample deleted
    ((0, 1, 0) ∷ (0, 2, 0) ∷ (3, 2, 0) ∷ (3, 2, 0) ∷ (3, 2, 0) ∷ (3, 2, 0) ∷ (3, 2, 0) ∷ (0, 6, 0) ∷ [])
    (ack 1 1 2 ∷ ack 1 6 7 ∷ [])
unfolding draw_steps
deleted_drawn = record { legal = refl; lawful = refl; drawn = refl; acks = refl }

deleted_shows : maps_at 8 deleted ≡ entry m a three ∷ []
unfolding draw_steps
deleted_shows = refl

-- ---- a transaction of 100 puts that isn't acknowledged

abbrev puts_from : ℕ → ℕ → List Command
puts_from n zero = []
puts_from n (suc count) = Put m (k ++ decimal n) (codes "v") ∷ puts_from (n + 1) count

abbrev hundred : SessionHistory
hundred = fresh (script (Begin false ∷ puts_from 1 100 ++ Commit ∷ []) ∷ []) (all_done 1 1 102) (Some 102)

hundred_lawful : are_lawful (settled_state [] 1) (log_of hundred) ≡ true
unfolding digits draw_steps
hundred_lawful = refl

hundred_acks : acks_owed hundred ≡ []
unfolding digits draw_steps
hundred_acks = refl

-- 102 records and the two marks; the lowest is then that of the first put
hundred_end : (length (log_of hundred) ≡ 104) × (lowest (state_after (settled_state [] 1) (log_of hundred)) ≡ 3)
unfolding digits draw_steps
hundred_end = (refl, refl)

-- ---- two clients, a wait and a deadlock

abbrev two_clients : SessionHistory
two_clients = fresh
    (script (Begin true ∷ Put m a one ∷ Put m b two ∷ Commit ∷ []) ∷ script (Begin true ∷ Put m b three ∷ Put m a four ∷ Commit ∷ []) ∷ [])
    (says 1 1 Done ∷ says 2 1 Done ∷ says 1 2 Done ∷ says 2 2 Done ∷ waits 1 3 ∷ says 2 3 Deadlock ∷ says 1 3 Done ∷ says 1 4 Done ∷ says 2 4 Abandoned ∷ [])
    None

-- all name 0 and carry 2, the LSN of the first begin
two_clients_drawn : IsExample two_clients
    ((0, 1, 0) ∷ (2, 2, 0) ∷ (3, 2, 0) ∷ (2, 2, 0) ∷ (3, 2, 0) ∷ (3, 2, 0) ∷ (2, 2, 0) ∷ (2, 2, 0) ∷ []) (ack 1 4 8 ∷ [])
unfolding draw_steps
two_clients_drawn = record { legal = refl; lawful = refl; drawn = refl; acks = refl }

two_clients_actions : actions (drawn_records two_clients)
    ≡ action.Begin ∷ action.Begin ∷ action.Put m a one ∷ action.Put m b three ∷ action.Abandon ∷ action.Put m b two ∷ action.Commit ∷ []
unfolding draw_steps
two_clients_actions = refl

two_clients_shows : map (λ n. maps_at n two_clients) (7 ∷ 8 ∷ []) ≡ [] ∷ (entry m a one ∷ entry m b two ∷ []) ∷ []
unfolding draw_steps
two_clients_shows = refl

-- ---- a reader outside of a transaction never waits

abbrev reader : SessionHistory
reader = fresh (script (Put m k one ∷ Begin true ∷ Put m k two ∷ Commit ∷ []) ∷ script (Get m k ∷ Get m k ∷ []) ∷ [])
    (says 1 1 Done ∷ says 1 2 Done ∷ says 1 3 Done ∷ says 2 1 (Found one) ∷ says 1 4 Done ∷ says 2 2 (Found two) ∷ []) None

reader_drawn : IsExample reader ((0, 1, 0) ∷ (0, 2, 0) ∷ (3, 2, 0) ∷ (3, 2, 2) ∷ (3, 2, 0) ∷ []) (ack 1 1 2 ∷ ack 1 4 5 ∷ [])
unfolding draw_steps
reader_drawn = record { legal = refl; lawful = refl; drawn = refl; acks = refl }

-- ---- two removes, the second of an absent key

abbrev removed_twice : SessionHistory
removed_twice = fresh (script (Put m k a ∷ Remove m k ∷ Remove m k ∷ Get m k ∷ []) ∷ [])
    (says 1 1 Done ∷ says 1 2 Done ∷ says 1 3 Absent ∷ says 1 4 Absent ∷ []) (Some 4)

removed_twice_drawn : IsExample removed_twice ((0, 1, 0) ∷ (0, 2, 0) ∷ (0, 2, 2) ∷ (0, 4, 0) ∷ []) (ack 1 1 2 ∷ ack 1 2 3 ∷ [])
unfolding draw_steps
removed_twice_drawn = record { legal = refl; lawful = refl; drawn = refl; acks = refl }

-- ---- orders and a stock

abbrev orders : SessionHistory
orders = fresh
    (script (Begin true ∷ Put (codes "orders") (codes "order:1001") (codes "{\"qty\":2}") ∷ Put (codes "stock") (codes "A-7") (codes "38") ∷ Commit
    ∷ Get (codes "stock") (codes "A-7") ∷ Put (codes "notes") (codes "order:1001") (codes "leave at door") ∷ []) ∷ [])
    (all_done 1 1 4 ++ says 1 5 (Found (codes "38")) ∷ says 1 6 Done ∷ []) (Some 6)

orders_drawn : IsExample orders ((0, 1, 0) ∷ (2, 2, 0) ∷ (2, 2, 0) ∷ (2, 2, 0) ∷ (2, 2, 0) ∷ (0, 3, 0) ∷ (0, 3, 0) ∷ [])
    (ack 1 4 5 ∷ ack 1 6 6 ∷ [])
unfolding draw_steps
orders_drawn = record { legal = refl; lawful = refl; drawn = refl; acks = refl }

orders_shows : maps_at 7 orders ≡ entry (codes "notes") (codes "order:1001") (codes "leave at door")
    ∷ entry (codes "orders") (codes "order:1001") (codes "{\"qty\":2}") ∷ entry (codes "stock") (codes "A-7") (codes "38") ∷ []
unfolding draw_steps
orders_shows = refl

-- ---- an entry that is written again, and a snapshot

abbrev again : SessionHistory
again = fresh (script (Put m a one ∷ Put m b two ∷ Snapshot ∷ []) ∷ [])
    (all_done 1 1 2 ++ says 1 3 (reply.Snapshot 1) ∷ reappends m a ∷ []) (Some 3)

again_drawn : IsExample again ((0, 1, 0) ∷ (0, 2, 0) ∷ (0, 2, 0) ∷ (0, 2, 0) ∷ (0, 2, 2) ∷ []) (ack 1 1 2 ∷ ack 1 2 3 ∷ ack 1 3 3 ∷ [])
unfolding draw_steps
again_drawn = record { legal = refl; lawful = refl; drawn = refl; acks = refl }

-- the mark stands before it
again_actions : actions (drop 3 (log_of again)) ≡ action.Mark ∷ action.Compaction m a one ∷ []
unfolding draw_steps
again_actions = refl

-- ---- three clients in a ring

abbrev three_clients : SessionHistory
three_clients = fresh
    (script (Begin true ∷ Put m a one ∷ Put m b two ∷ []) ∷ script (Begin true ∷ Put m b one ∷ Put m c two ∷ [])
    ∷ script (Begin true ∷ Put m c one ∷ Put m a two ∷ []) ∷ [])
    (says 1 1 Done ∷ says 1 2 Done ∷ says 2 1 Done ∷ says 2 2 Done ∷ says 3 1 Done ∷ says 3 2 Done ∷ waits 1 3 ∷ waits 2 3
    ∷ says 3 3 Deadlock ∷ says 2 3 Done ∷ [])
    None

three_clients_drawn : IsExample three_clients
    ((0, 1, 0) ∷ (2, 2, 0) ∷ (2, 2, 0) ∷ (4, 2, 0) ∷ (4, 2, 0) ∷ (6, 2, 0) ∷ (6, 2, 0) ∷ (6, 2, 0) ∷ (4, 2, 0) ∷ []) []
unfolding draw_steps
three_clients_drawn = record { legal = refl; lawful = refl; drawn = refl; acks = refl }

-- before client 3's step client 1 waits for 2, client 2 for 3, and the ring comes back by 1
abbrev three_wait : State
three_wait = unwrap_or (run three_clients.scripts (start [] 0 3) (take 8 three_clients.events)) (start [] 0 3)

three_hold : (waits_for three_wait.holders 1 ≡ 2 ∷ []) × (waits_for three_wait.holders 2 ≡ 3 ∷ [])
    × (ring three_wait.holders 3 (OnKey m a) ≡ true) × (via three_wait.holders 3 (OnKey m a) ≡ Some 1)
three_hold = (refl, refl, refl, refl)

-- ---- steps, one client after another

-- the events of steps of these clients in this order
abbrev stepped : Scripts → State → List ℕ → List Event
stepped scripts s [] = []
stepped scripts s (client ∷ clients) = option_to_list (next_event scripts s client)
    ++ stepped scripts (unwrap_or (option_and_then (next scripts s) (next_event scripts s client)) s) clients

ended_stepped : stepped ended.scripts (start [] 0 1) (1 ∷ 1 ∷ 1 ∷ 1 ∷ 1 ∷ []) ≡ ended.events
ended_stepped = refl

two_clients_stepped : stepped two_clients.scripts (start [] 0 2) (1 ∷ 2 ∷ 1 ∷ 2 ∷ 1 ∷ 2 ∷ 1 ∷ 1 ∷ 2 ∷ []) ≡ two_clients.events
two_clients_stepped = refl

reader_stepped : stepped reader.scripts (start [] 0 2) (1 ∷ 1 ∷ 1 ∷ 2 ∷ 1 ∷ 2 ∷ []) ≡ reader.events
reader_stepped = refl

removed_twice_stepped : stepped removed_twice.scripts (start [] 0 1) (1 ∷ 1 ∷ 1 ∷ 1 ∷ []) ≡ removed_twice.events
removed_twice_stepped = refl

three_clients_stepped : stepped three_clients.scripts (start [] 0 3) (1 ∷ 1 ∷ 2 ∷ 2 ∷ 3 ∷ 3 ∷ 1 ∷ 2 ∷ 3 ∷ 2 ∷ []) ≡ three_clients.events
three_clients_stepped = refl

-- the first two waits name the least clients that hinder
three_holders : map (λ client. least_client (hinderers_at three_wait.holders client (lock_wanted three_clients.scripts three_wait client))) (1 ∷ 2 ∷ [])
    ≡ Some 2 ∷ Some 3 ∷ []
three_holders = refl

-- a finished script has no next event
ended_finished : map (λ s. is_finished ended.scripts s 1) (option_to_list (run ended.scripts (start [] 0 1) ended.events)) ≡ true ∷ []
ended_finished = refl

-- the acknowledgement that a client's last step asks for
one_key_asked : last_asked 1 (draw_steps one_key) ≡ ack 1 6 7 ∷ []
unfolding draw_steps
one_key_asked = refl

removed_twice_asked : last_asked 1 (draw_steps removed_twice) ≡ []
unfolding draw_steps
removed_twice_asked = refl
