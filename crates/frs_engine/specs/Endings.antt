-- How a run ends, before anything is printed, and what is printed then.
use Rattle.std.specs.Prelude.{ℕ, List, [], Option, Some, None, Result}
use Rattle.frs_history.specs.declared.command.Line.{Line}
use Rattle.frs_history.specs.declared.event.Ack.{Ack}
use Rattle.frs_history.specs.declared.event.Event.{Event}
use Rattle.frs_history.specs.Machine.{Scripts}
use Rattle.frs_book.specs.Books.{BookView}
use Rattle.frs_store.specs.declared.stop.StartFault.{StartFault}
use Rattle.frs_store.specs.declared.stop.StartFault.TheVariants as start
use Rattle.frs_store.specs.declared.stop.Stop.{Stop}
use Rattle.frs_store.specs.declared.stop.Stop.TheVariants as stop
use Rattle.frs_text.specs.Scripts.{script_of, up_to}
use Rattle.frs_text.specs.Text.{Text, transcript}
use Rattle.frs_text.specs.LastLines.{last_line}
use Rattle.frs_text.specs.declared.last_line.LastLine.{LastLine}
use Rattle.frs_text.specs.declared.last_line.LastLine.TheVariants as last
use Rattle.frs_text.specs.declared.script_fault.ScriptFault.{ScriptFault}
use Rattle.frs_text.specs.declared.script_fault.ScriptFault.TheVariants as script
use Rattle.frs_engine.specs.declared.ending.Ending.{Ending}
use Rattle.frs_engine.specs.declared.ending.Ending.TheVariants.{Closed, Bad, Long, Disk, Unread, Past, Crowded, Refused, Limit, Memory, Later}
use Rattle.frs_engine.specs.declared.outcome.Outcome.{Outcome}
use Rattle.frs_engine.specs.declared.plan_script.TheConstants.{COMMAND_LIMIT, SNAPSHOT_LIMIT}
use Rattle.frs_engine.specs.declared.status.Status.{Status}
use Rattle.frs_engine.specs.declared.status.Status.TheVariants as status
use Rattle.frs_engine.specs.PlainJobs.{fault_status, refusal_line}
use Rattle.frs_engine.specs.Statuses.{code_of}

-- ---- scripts

-- the script that the bytes of the one file spell: of at most so many commands and snapshots
abbrev pub script_in : List ℕ → Result (List Line) ScriptFault
script_in bytes = script_of (up_to COMMAND_LIMIT SNAPSHOT_LIMIT) bytes

-- how a run ends whose script is refused
abbrev pub ending_by : ScriptFault → Ending
ending_by (script.BadLine n) = Bad n
ending_by (script.TooLong n) = Long n
ending_by (script.TooMany n) = Past n
ending_by script.Memory = Memory

-- how a run ends that was opened: all was done, unless something has stopped it
abbrev pub ending_of_stop : Option Stop → Ending
ending_of_stop None = Closed
ending_of_stop (Some stop.Disk) = Disk
ending_of_stop (Some stop.Limit) = Limit
ending_of_stop (Some stop.Memory) = Memory

-- how a run ends that wasn't opened
abbrev pub ending_of_start : StartFault → Ending
ending_of_start (start.Recover fault) = Refused fault
ending_of_start (start.LogFull next) = Limit
ending_of_start (start.NumberLimit number) = Limit
ending_of_start start.Disk = Disk
ending_of_start start.Memory = Memory

-- ---- statuses and texts

abbrev pub ending_status : Ending → Status
ending_status Closed = status.Done
ending_status (Bad n) = status.WrongLine
ending_status (Long n) = status.WrongLine
ending_status Disk = status.DiskStop
ending_status Unread = status.UnreadFile
ending_status (Past n) = status.Limit
ending_status (Crowded n) = status.Limit
ending_status (Refused fault) = fault_status fault
ending_status Limit = status.Limit
ending_status Memory = status.MemoryStop
ending_status Later = status.Later

-- as a number
abbrev pub status_of : Ending → ℕ
status_of e = code_of (ending_status e)

-- the last line; the one script and the one file are the first
abbrev pub last_of : Ending → LastLine
last_of Closed = last.Closed
last_of (Bad n) = last.BadScriptLine 1 n
last_of (Long n) = last.LongScriptLine 1 n
last_of Disk = last.DiskStop
last_of Unread = last.UnreadFile 1
last_of (Past n) = last.ScriptLineLimit 1 n
last_of (Crowded n) = last.ClientLimit n
last_of (Refused fault) = refusal_line fault
last_of Limit = last.LimitStop
last_of Memory = last.MemoryStop
last_of Later = last.Later

-- as a text
abbrev pub last_line_of : Ending → Text
last_line_of e = last_line (last_of e)

-- what happened, if a session was opened
abbrev pub scripts_of : Option BookView → Scripts
scripts_of None = []
scripts_of (Some b) = b.session.scripts

abbrev pub events_of : Option BookView → List Event
events_of None = []
events_of (Some b) = b.session.events

abbrev pub acks_of : Option BookView → List Ack
acks_of None = []
acks_of (Some b) = b.acks

-- the whole text: the transcript, which is empty where nothing was run, and the last line
abbrev pub text_of : Ending → Option BookView → Text
text_of e book = transcript (scripts_of book) (events_of book) (acks_of book) (last_line_of e)

abbrev pub outcome_text : {D : Type 0} → Outcome D → Text
outcome_text o = text_of o.ending o.book
