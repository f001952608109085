use Rattle.std.proofs.Common.{◌≡◌, ◌∙◌, ◌<◌, ℕ, List, Ok, Some, None, Err, Option, Result, length, sym, ap, subst, refl, IsTrue, arith}
use Rattle.std.proofs.lemmas.Grind.{common_steps}
use Rattle.std.proofs.lemmas.Result.{err_from_is_err_and}
use Rattle.frs_disk.specs.Disk.{bytes_at}
use Rattle.frs_disk.proofs.Frames.{only_reads_join}
use Rattle.frs_segment.specs.declared.layout.ChunkPlace.{ChunkPlace}
use Rattle.frs_segment.specs.declared.fault.ScanFault.{ScanFault}
use Rattle.frs_segment.specs.Segments.{File}
use Rattle.frs_segment.specs.Heads.{TellsHead, IsNext, IsNextIfAny}
use Rattle.frs_segment.proofs.FollowHeads.{leads_start, walked_start, leads_on, walked_on, in_line, walk_ends, walk_refused, start_refused, told_of_first}
use Rattle.frs_segment.proofs.reader.follow_heads.Goals as goal

pub loop-walk-preserved : goal.loop-walk-preserved
loop-walk-preserved g c =
    let d = g.D.Disk in
    let walk = c.loop-walk.walk in
    let so_far = c.loop-walk.invariant in
    let file : File = (c.args.number, bytes_at (d.reads c.args.disk.now) c.args.number) in
    let next = subst (IsNextIfAny walk.file_length walk.gate walk.next) c.in-Some.is c.in_ok-place.ensures.next in
    record {
      leads = leads_on c.args.number c.in-Some.place walk c.pass.new.self so_far.leads next c.in_ok-pass.ensures;
      told = λ tells.
          let walked = so_far.told tells in
          let head = subst (λ (x : Option ChunkPlace). TellsHead walk.gate walk.next file.1 (Ok x)) c.in-Some.is
          (told_of_first (d.tells c.args.disk.now) (d.tells c.loop-walk.disk) (d.reads c.args.disk.now) (d.reads c.loop-walk.disk) c.args.number walk.number walk.file_length walk.gate walk.next (Ok c.in_ok-place.field-0)
          so_far.frame.told so_far.frame.seen so_far.leads.number_is c.in_ok-place.ensures.told tells walked.size) in
          walked_on file c.in-Some.place walk c.pass.new.self so_far.leads walked head.0 head.1 c.in_ok-pass.ensures;
      frame = only_reads_join d g.met.D.Disk.since_earlier c.args.disk.now c.loop-walk.disk c.head.new.disk so_far.frame c.head.ensures.frame;
      width = omega (arith, so_far.width, c.head.ensures.width);
      faults = c.in_ok-place.ensures.cause ∙ so_far.faults;
    }

pub returns-clause-bytes : goal.returns-clause-bytes
returns-clause-bytes g c tells = (c.loop-walk.invariant.told tells).bytes
