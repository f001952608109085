use Rattle.std.proofs.Common.{◌≡◌, ◌∙◌, ◌-◌, List, Err, Vec, Global, length, get_or, take, refl, sym, subst, arith}
use Rattle.std.proofs.lemmas.Grind.{common_steps}
use Rattle.frs_disk.specs.Disk.{bytes_at}
use Rattle.frs_disk.proofs.Frames.{only_reads_none, only_reads_join}
use Rattle.frs_types.specs.declared.record.Record.{Record}
use Rattle.frs_segment.specs.declared.layout.ChunkPlace.{ChunkPlace}
use Rattle.frs_recovery.proofs.SegmentOf.{err_is}
use Rattle.frs_recovery.specs.Descent.{file_at, IsFileFault}
use Rattle.frs_segment.specs.Segments.{File}
use Rattle.frs_segment.specs.Scanning.{places_of_segment}
use Rattle.frs_recovery.proofs.ReadSegment.{IsReadBack, none_read, one_more, chained, last_apart, chunk_needed, explains_first, there_first, segment_read}
use Rattle.frs_recovery.proofs.descent.read_segment.Goals as goal

abbrev Records : Type 0
Records = Vec Record Global

pub loop-left-init : goal.loop-left-init
loop-left-init g c =
    let d = g.D.Disk in
    let bytes = bytes_at (d.reads c.args.disk.now) c.args.segment.now.number in
    let found = c.args.segment.now in
    record {
      back = subst (λ (left : List ChunkPlace). IsReadBack (d.tells c.args.disk.now) bytes found.«end» found.chunks left c.args.records.now c.args.records.now) (sym c.items-left.ensures) (none_read (d.tells c.args.disk.now) bytes found.«end» found.chunks c.args.records.now);
      frame = only_reads_none d g.met.D.Disk.only_now c.args.disk.now;
      width = omega arith;
      faults = refl;
    }

pub returns-in_err-chunk-clause-why : goal.returns-in_err-chunk-clause-why
returns-in_err-chunk-clause-why g c told has =
    let d = g.D.Disk in
    let left = c.loop-left.left.now in
    let found = c.args.segment.now in
    let so_far = c.loop-left.invariant in
    let file : File = file_at (d.reads c.args.disk.now) found.number in
    let place : ChunkPlace = get_or left (length left - 1) (record { offset = 0; first = 0; count = 0; body = 0 }) in
    let fault : c.from_residual.result ≡ Err c.in_err-chunk.field-0.0 = grind (arith, common_steps) in
    let laws = c.segment_heads.ensures in
    err_is (IsFileFault file) c.from_residual.result c.in_err-chunk.field-0.0 fault
    (explains_first (d.tells c.args.disk.now) (d.tells c.loop-left.disk) (d.reads c.args.disk.now) (d.reads c.loop-left.disk) found.number place c.in_err-chunk.field-0.0 so_far.frame.told so_far.frame.seen c.in_err-chunk.ensures.why told
    (λ s is. chunk_needed file found s left (take (length left - 1) left) place so_far.back.places is (laws.one file found (places_of_segment s) has (laws.kept file s is)) so_far.back.parts (last_apart left _ c.in-len1-up.len_at_least))
    (laws.made file found has))

pub returns-in_err-chunk-clause-frame : goal.returns-in_err-chunk-clause-frame
returns-in_err-chunk-clause-frame g c =
    only_reads_join g.D.Disk g.met.D.Disk.since_earlier c.args.disk.now c.loop-left.disk c.chunk_of.new.disk c.loop-left.invariant.frame c.chunk_of.ensures.frame

pub loop-left-preserved : goal.loop-left-preserved
loop-left-preserved g c =
    let d = g.D.Disk in
    let so_far = c.loop-left.invariant in
    let left = c.loop-left.left.now in
    let bytes = bytes_at (d.reads c.args.disk.now) c.args.segment.now.number in
    let found = c.args.segment.now in
    let place : ChunkPlace = get_or left (length left - 1) (record { offset = 0; first = 0; count = 0; body = 0 }) in
    record {
      back = one_more (d.tells c.args.disk.now) bytes found.«end» found.chunks left (take (length left - 1) left) place c.in_ok-chunk.chunk.items c.args.records.now c.loop-left.records c.read_all.new.self
          so_far.back (last_apart left _ c.in-len1-up.len_at_least) (chained found c.requires.line) c.in_ok-chunk.ensures.meant
          (there_first (d.tells c.args.disk.now) (d.tells c.loop-left.disk) (d.reads c.args.disk.now) (d.reads c.loop-left.disk) found.number place c.in_ok-chunk.chunk.items so_far.frame.told so_far.frame.seen c.in_ok-chunk.ensures.found) c.in_ok-read_all.ensures;
      frame = only_reads_join d g.met.D.Disk.since_earlier c.args.disk.now c.loop-left.disk c.chunk_of.new.disk so_far.frame c.chunk_of.ensures.frame;
      width = omega (arith, so_far.width, c.chunk_of.ensures.width);
      faults = c.in_ok-chunk.ensures.cause ∙ so_far.faults;
    }

pub returns-clause-read : goal.returns-clause-read
returns-clause-read g c =
    let d = g.D.Disk in
    segment_read (d.tells c.args.disk.now) (bytes_at (d.reads c.args.disk.now) c.args.segment.now.number) c.args.segment.now c.loop-left.left.now c.args.records.now c.loop-left.records c.in_default.len_below c.requires.line c.loop-left.invariant.back
