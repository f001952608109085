use Rattle.frs_disk.specs.Disk.{bytes_at}
use Rattle.frs_segment.proofs.HasHeads.{heads_read, heads_refused}
use Rattle.frs_segment.proofs.reader.heads.Goals as goal

pub returns-clause-only : goal.returns-clause-only
returns-clause-only g c tells found has = heads_read (c.args.number, bytes_at (g.D.Disk.reads c.args.disk.now) c.args.number) c.follow_heads.result found (c.follow_heads.ensures.told tells) has

pub returns-clause-refused : goal.returns-clause-refused
returns-clause-refused g c tells fault refused = heads_refused (c.args.number, bytes_at (g.D.Disk.reads c.args.disk.now) c.args.number) c.follow_heads.result fault (c.follow_heads.ensures.told tells) refused
