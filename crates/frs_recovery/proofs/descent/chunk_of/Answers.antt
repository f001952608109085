use Rattle.std.proofs.Common.{◌≡◌, ◌∙◌, ℕ, List, Ok, Err, Vec, Global, drop, refl, sym, subst, IsTrue, arith, rules}
use Rattle.frs_types.specs.declared.record.Record.{Record}
use Rattle.frs_disk.specs.Disk.{Image, bytes_at}
use Rattle.frs_disk.proofs.Frames.{only_reads_join}
use Rattle.frs_segment.specs.declared.fault.ScanFault.{ScanFault}
use Rattle.frs_segment.specs.Segments.{File, WholeSegment, IsSegment}
use Rattle.frs_segment.specs.Faults.{GivesScanned, IsOfText}
use Rattle.frs_segment.specs.Scanning.{IsChunk, IsFaultAt}
use Rattle.frs_recovery.specs.Faults.{CountsFault}
use Rattle.frs_recovery.specs.Descent.{file_at, IsFileFault, NeedsChunk, IsUnreadable}
use Rattle.frs_recovery.proofs.SegmentOf.{unread_first, text_same, gives_none}
use Rattle.frs_recovery.proofs.descent.chunk_of.Goals as goal

abbrev Records : Type 0
Records = Vec Record Global

pub returns-in-Err : goal.returns-in-Err
returns-in-Err g c =
    let d = g.D.Disk in
    let place = c.args.place.now in
    let file : File = file_at (d.reads c.args.disk.now) c.args.number in
    let seen = c.in-Err.ensures.frame.seen in
    let of_text : IsOfText c.in-Err.fault = search rules in
    let same = text_same Records _ _ c.in-Err.fault of_text c.in-Err.ensures.cause in
    record {
      found = tt;
      meant = tt;
      why = λ told needs finished. unread_first (d.tells c.args.disk.now) (d.tells c.read_chunk.new.disk) (d.reads c.args.disk.now) (d.reads c.read_chunk.new.disk) c.args.number c.first_fault.result c.in-Err.ensures.frame.told seen c.first_fault.ensures.why told
          (record { no_segment = λ s is. let at = needs s is in gives_none {X = Records} (λ (v : Records). v.items) c.in-Err.fault at.0 of_text (c.in-Err.ensures.only told at.0 at.1); finished = finished });
      frame = only_reads_join d g.met.D.Disk.since_earlier c.args.disk.now c.read_chunk.new.disk c.first_fault.new.disk c.in-Err.ensures.frame c.first_fault.ensures.frame;
      width = omega (arith, c.in-Err.ensures.width, c.first_fault.ensures.width);
      cause = subst (λ (n : ℕ). CountsFault n (d.faults c.first_fault.new.disk) c.first_fault.result) same c.first_fault.ensures.cause;
    }
