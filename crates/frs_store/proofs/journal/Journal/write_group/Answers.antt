use Rattle.std.proofs.Common.{sym, subst}
use Rattle.frs_store.specs.Journal.{JournalView, HasMore}
use Rattle.frs_store.specs.InsideJournal.{view_of}
use Rattle.frs_store.proofs.JournalGoesOn.{grouped, some_written}
use Rattle.frs_store.proofs.journal.Journal.write_group.Goals as goal

pub invariant_of-self : goal.invariant_of-self
invariant_of-self g c =
    grouped g.D.Disk g.met.D.Disk.counts_now g.met.D.Disk.since_earlier (view_of c.self.inside) c.write_group.new.self c.self.invariant
    c.write_group.ensures.same c.write_group.ensures.frame c.write_group.ensures.crash (subst (λ (v : JournalView _). HasMore v.writer) (sym c.self.view_is) c.requires) c.write_group.result
    c.write_group.ensures.wrote c.write_group.ensures.durable c.write_group.ensures.refused c.write_group.ensures.cause

pub returns-clause-some : goal.returns-clause-some
returns-clause-some g c = some_written c.self.inside.writer c.write_group.new.self c.write_group.result (subst (λ (v : JournalView _). HasMore v.writer) (sym c.self.view_is) c.requires) c.write_group.ensures.wrote
