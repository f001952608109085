-- What the chain holds after one record in front.
use Rattle.frs_filters.proofs.HasSeen.{one_more, on_ok}
use Rattle.frs_filters.proofs.chain.Chain.offer.Goals as goal

pub returns : goal.returns
returns c = λ later seen. on_ok _ _ _ _ c.pass.ensures (one_more c.args.self.now later c.args.lsn c.args.r c.requires seen)
