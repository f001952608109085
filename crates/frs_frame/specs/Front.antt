-- What it means that a record stands at the front of bytes.
use Rattle.std.specs.Prelude.{◌≡◌, ℕ, ◌≤◌, IsTrue, List, ◌++◌, length, take, drop}
use Rattle.frs_types.specs.declared.record.Record.{Record}
use Rattle.frs_types.specs.Records.{Fits, well_formed}
use Rattle.frs_frame.specs.declared.encoding.TheConstants.{RECORD_HEAD}
use Rattle.frs_frame.specs.Spelling.{spelling}

-- The first bytes, so many, are the record's spelling, and its kind allows its fields.
pub record StandsAtFront (bytes : List ℕ) (r : Record) (len : ℕ) : Type 0 where
  pub front : take len bytes ≡ spelling r
  pub whole : bytes ≡ spelling r ++ drop len bytes
  pub len_is : len ≡ length (spelling r)
  pub least : RECORD_HEAD ≤ len
  pub within : len ≤ length bytes
  pub fits : Fits r
  pub well_formed : IsTrue (well_formed r)
