-- The last line of a text, and the lines that refuse: which words each of them has.
use Rattle.std.specs.Prelude.{ℕ, [], ◌∷◌, codes, decimal}
use Rattle.frs_text.specs.Text.{Text, line}
use Rattle.frs_text.specs.declared.last_line.LastLine.{LastLine}
use Rattle.frs_text.specs.declared.last_line.LastLine.TheVariants.{Closed, DiskStop, ShelfStop, LimitStop, MemoryStop, BadScriptLine, LongScriptLine, ScriptLineLimit, UnreadFile, ClientLimit, Later, WrongHeader, WrongChunk, MissingRecord}

-- `stopped`, and for what
abbrev pub stop_line : Text → Text
stop_line why = line (codes "stopped" ∷ why ∷ [])

-- a line of a script, and what is wrong with it
abbrev pub script_line : ℕ → ℕ → Text → Text
script_line script number why = line (codes "script" ∷ decimal script ∷ codes "line" ∷ decimal number ∷ why ∷ [])

-- a place in a segment, and what is wrong there
abbrev pub segment_line : ℕ → ℕ → Text → Text
segment_line segment offset what =
    line (codes "segment" ∷ decimal segment ∷ codes "offset" ∷ decimal offset ∷ what ∷ [])

abbrev pub last_line : LastLine → Text
last_line Closed = line (codes "closed" ∷ [])
last_line DiskStop = stop_line (codes "disk")
last_line ShelfStop = stop_line (codes "shelf")
last_line LimitStop = stop_line (codes "limit")
last_line MemoryStop = stop_line (codes "memory")
last_line (BadScriptLine script number) = script_line script number (codes "bad")
last_line (LongScriptLine script number) = script_line script number (codes "long")
last_line (ScriptLineLimit script number) = script_line script number (codes "limit")
last_line (UnreadFile file) = line (codes "file" ∷ decimal file ∷ codes "unread" ∷ [])
last_line (ClientLimit clients) = line (codes "limit" ∷ codes "clients" ∷ decimal clients ∷ [])
last_line Later = line (codes "later" ∷ [])
last_line (WrongHeader segment offset) = segment_line segment offset (codes "header")
last_line (WrongChunk segment offset) = segment_line segment offset (codes "chunk")
last_line (MissingRecord expected found) =
    line (codes "gap" ∷ codes "expected" ∷ decimal expected ∷ codes "found" ∷ decimal found ∷ [])
