use Rattle.std.proofs.Common.{arith}
use Rattle.frs_recovery.proofs.BackwardReader.{read_below, read_on_ok}
use Rattle.frs_recovery.proofs.backward_reader.BackwardReader.read.Goals as goal

pub returns-then-lsn-lowest : goal.returns-then-lsn-lowest
returns-then-lsn-lowest c = read_below c.args.self.now c.args.lsn c.unwrap_or-lowest.result c.args.r c.unwrap_or-lowest.ensures c.if-lsn-lowest.true c.requires

pub returns : goal.returns
returns c = read_on_ok c.offer.result c.args.self.now c.offer.new.self c.note.new.self c.args.lsn c.unwrap_or-lowest.result c.args.r c.unwrap_or-lowest.ensures (omega (arith, c.if-lsn-lowest.false)) c.offer.ensures c.in_ok-note.ensures.noted
