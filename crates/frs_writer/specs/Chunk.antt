-- How a chunk is seen while its records are gathered.
use Rattle.std.specs.Prelude.{ℕ, ◌+◌, ◌≤◌, List, length}
use Rattle.frs_segment.specs.declared.format.TheConstants.{BODY_LIMIT, CHUNK_HEAD}

pub record ChunkView : Type 0 where
  pub count : ℕ
  pub bytes : List ℕ
  pub lowest : ℕ  -- the lowest LSN that its last record names, or 0

-- it has the place of its head, and no more records than a chunk may have
abbrev pub IsOpenChunk : ChunkView → Type 0
IsOpenChunk chunk = (CHUNK_HEAD ≤ length chunk.bytes) × (length chunk.bytes ≤ CHUNK_HEAD + BODY_LIMIT)
