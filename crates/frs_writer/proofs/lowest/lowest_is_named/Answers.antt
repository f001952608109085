-- The eight bytes behind the kind and the transaction are the number.
use Rattle.std.proofs.lemmas.Nat.{from_be_bytes-to_be_bytes_8}
use Rattle.frs_frame.specs.Spelling.{spelling}
use Rattle.frs_writer.proofs.lowest.lowest_is_named.Goals as goal

pub returns : goal.returns
unfolding spelling
returns c = λ r lt. from_be_bytes-to_be_bytes_8 r.lowest lt
