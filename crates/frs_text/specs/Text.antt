-- What is printed: words with escapes, the transcript, the maps, and the seven numbers of a store.
use Rattle.std.specs.Prelude.{ℕ, ◌-◌, ◌/◌, ◌%◌, Bool, true, false, not, ◌&&◌, ◌==◌, nat_le, List, [], ◌∷◌, ◌++◌, flat_map, find, length, option_map, unwrap_or, slice_index_or, sum_by, if◌then◌else◌, codes, decimal}
use Rattle.std.specs.Fmt.{digit_glyph}
use Rattle.std.specs.List.{join_with_byte}
use Rattle.frs_history.specs.declared.event.Ack.{Ack}
use Rattle.frs_history.specs.declared.command.Command.{Command}
use Rattle.frs_history.specs.declared.command.Command.TheVariants as command
use Rattle.frs_history.specs.declared.event.Event.{Event}
use Rattle.frs_history.specs.declared.command.Line.{Line}
use Rattle.frs_history.specs.declared.event.Reply.{Reply}
use Rattle.frs_history.specs.declared.event.Reply.TheVariants as reply
use Rattle.frs_history.specs.declared.event.What.{What}
use Rattle.frs_history.specs.declared.event.What.TheVariants as what
use Rattle.frs_history.specs.Machine.{Scripts}
use Rattle.frs_types.specs.Maps.{Place, Maps}
use Rattle.frs_types.specs.Records.{Log, next_lsn}
use Rattle.frs_types.specs.Survivors.{survivors, lowest_of}
use Rattle.frs_segment.specs.declared.layout.Segment.{Segment}
use Rattle.frs_segment.specs.Segments.{WholeSegment}
use Rattle.frs_recovery.specs.declared.recovered.Recovered.{Recovered}

-- ---- words and lines

abbrev pub Text : Type 0
Text = List ℕ

-- the bytes 21 to 7E other than `%` as they are, every other byte as `%` and two digits
abbrev pub is_plain : ℕ → Bool
is_plain byte = nat_le 0x21 byte && nat_le byte 0x7E && not (byte == 0x25)

abbrev pub shown_byte : ℕ → Text
shown_byte byte =
    if is_plain byte then byte ∷ [] else 0x25 ∷ digit_glyph true (byte / 16) ∷ digit_glyph true (byte % 16) ∷ []

-- no bytes are shown as `%`
abbrev pub word : List ℕ → Text
word [] = 0x25 ∷ []
word (byte ∷ bytes) = flat_map shown_byte (byte ∷ bytes)

-- words with one space between them, and a line feed
abbrev pub words : List Text → Text
words ws = join_with_byte 32 ws

abbrev pub line : List Text → Text
line ws = words ws ++ 10 ∷ []

-- ---- the transcript

abbrev pub command_words : Command → List Text
command_words (command.Begin true) = codes "begin" ∷ []
command_words (command.Begin false) = codes "begin" ∷ codes "async" ∷ []
command_words (command.Put id key value) = codes "put" ∷ word id ∷ word key ∷ word value ∷ []
command_words (command.Remove id key) = codes "remove" ∷ word id ∷ word key ∷ []
command_words (command.Delete id) = codes "delete" ∷ word id ∷ []
command_words (command.Get id key) = codes "get" ∷ word id ∷ word key ∷ []
command_words command.Commit = codes "commit" ∷ []
command_words command.Snapshot = codes "snapshot" ∷ []

abbrev pub reply_words : Reply → List Text
reply_words reply.Done = codes "done" ∷ []
reply_words reply.Absent = codes "none" ∷ []
reply_words (reply.Found value) = codes "value" ∷ word value ∷ []
reply_words reply.Deadlock = codes "deadlock" ∷ []
reply_words reply.Abandoned = codes "abandoned" ∷ []
reply_words (reply.Snapshot number) = codes "snapshot" ∷ decimal number ∷ []

-- the words of the command at that line of the client's script
abbrev pub words_at : Scripts → ℕ → ℕ → List Text
words_at scripts c number =
    let lines = slice_index_or ([] ∷ scripts) c [] in
    unwrap_or (option_map (λ (l : Line). command_words l.command) (find (λ (l : Line). l.number == number) lines)) []

-- what is said between the line's number and the arrow, and what behind the arrow
abbrev pub event_words : Scripts → ℕ → ℕ → What → List Text × List Text
event_words scripts c number (what.Answered r) = (words_at scripts c number, reply_words r)
event_words scripts c number what.Waits = (words_at scripts c number, codes "waits" ∷ [])
event_words scripts c number (what.Reappend id key) = (codes "reappend" ∷ word id ∷ word key ∷ [], codes "done" ∷ [])
event_words scripts c number what.End = (codes "end" ∷ [], codes "abandoned" ∷ [])

abbrev pub event_line : Scripts → Event → Text
event_line scripts e = let said = event_words scripts e.client e.line e.what in
    line (decimal e.client ∷ decimal e.line ∷ said.0 ++ codes "->" ∷ said.1)

abbrev pub ack_line : Ack → Text
ack_line a = line (codes "durable" ∷ decimal a.client ∷ decimal a.line ∷ [])

-- the events in order, and the acknowledgements in the order in which they were made
abbrev pub history_text : Scripts → List Event → List Ack → Text
history_text scripts events acks = flat_map (event_line scripts) events ++ flat_map ack_line acks

-- the same, and the last line
abbrev pub transcript : Scripts → List Event → List Ack → Text → Text
transcript scripts events acks last = flat_map (event_line scripts) events ++ flat_map ack_line acks ++ last

-- ---- the maps, and the numbers of a store

-- a line for each entry of the maps, which stand in the byte order of id and then key
abbrev pub entry_line : Place × List ℕ → Text
entry_line e = line (word e.0.0 ∷ word e.0.1 ∷ word e.1 ∷ [])

abbrev pub dump : Maps → Text
dump m = flat_map entry_line m

pub record Stat : Type 0 where
  pub segments : ℕ
  pub chunks : ℕ
  pub records : ℕ
  pub next : ℕ
  pub lowest : ℕ
  pub live : ℕ
  pub gap : ℕ

-- of the log that a store's files spell by these segments
abbrev pub stat_of : List WholeSegment → Log → Stat
stat_of segments log = record {
  segments = length segments;
  chunks = sum_by (λ (s : WholeSegment). length s.chunks) segments;
  records = length log.records;
  next = next_lsn log;
  lowest = lowest_of log;
  live = length (survivors log);
  gap = next_lsn log - lowest_of log;
}

-- of a store as it was read back
abbrev pub stat_found : Recovered → Stat
stat_found r = record {
  segments = length r.found.segments;
  chunks = sum_by (λ (s : Segment). length s.chunks) r.found.segments;
  records = r.found.next - r.found.named;
  next = r.found.next;
  lowest = r.lowest;
  live = length r.entries;
  gap = r.found.next - r.lowest;
}

abbrev pub number_line : Text → ℕ → Text
number_line name n = line (name ∷ decimal n ∷ [])

abbrev pub stat_text : Stat → Text
stat_text s =
    number_line (codes "segments") s.segments ++ number_line (codes "chunks") s.chunks
    ++ number_line (codes "records") s.records ++ number_line (codes "next") s.next
    ++ number_line (codes "lowest") s.lowest ++ number_line (codes "live") s.live ++ number_line (codes "gap") s.gap
