use Rattle.std.proofs.Common.{refl}
use Rattle.frs_store.specs.InsideJournal.{view_of}
use Rattle.frs_store.proofs.JournalGoesOn.{renewed}
use Rattle.frs_store.proofs.journal.Journal.renew.Goals as goal

pub invariant_of-self : goal.invariant_of-self
invariant_of-self g c =
    let j = view_of c.self.inside in
    renewed _ _ g.D.Disk j c.renew.new.self (record c.self.inside.writer.taker { ring = c.renew.new.self.taker.ring; known = c.renew.new.self.taker.known }) refl refl c.self.invariant
    c.renew.result c.renew.ensures.taker c.renew.ensures.refused
