use Rattle.frs_disk.specs.Disk.{bytes_at}
use Rattle.frs_segment.proofs.TellsFile.{segment_read, refusal_read}
use Rattle.frs_segment.proofs.reader.scan.Goals as goal

pub returns-clause-only : goal.returns-clause-only
returns-clause-only g c tells s is = segment_read (c.args.number, bytes_at (g.D.Disk.reads c.args.disk.now) c.args.number) c.follow_chunks.result s (c.follow_chunks.ensures.told tells) is

pub returns-clause-refused : goal.returns-clause-refused
returns-clause-refused g c tells fault refused = refusal_read (c.args.number, bytes_at (g.D.Disk.reads c.args.disk.now) c.args.number) c.follow_chunks.result fault (c.follow_chunks.ensures.told tells) refused
