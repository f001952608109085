use Rattle.std.proofs.Common.{◌≡◌, ◌-◌, ◌≤◌, length}
use Rattle.frs_store.specs.Session.{IsGoing, faults_of}
use Rattle.frs_store.proofs.StoreGoesOn.{WritesOn}
use Rattle.frs_store.proofs.store.Store.sync.Given as goal

abbrev pub invariant-loop-alloc : goal.invariant-loop-alloc
invariant-loop-alloc g l = record {
  going : IsGoing g.D.Disk l.self;
  known : length l.self.book.drawer.drawn ≤ l.self.journal.writer.taker.known;
  on : WritesOn g.D.Disk l.fn.self l.self;
  faults : faults_of g.D.Disk l.self ≡ faults_of g.D.Disk l.fn.self;
}

abbrev pub decreases-loop-alloc : goal.decreases-loop-alloc
decreases-loop-alloc g l = l.lsn - l.self.journal.writer.synced
