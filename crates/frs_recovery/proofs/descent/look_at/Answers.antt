use Rattle.frs_disk.specs.Disk.{IsNumber}
use Rattle.frs_segment.specs.declared.layout.Segment.{Segment}
use Rattle.std.proofs.Common.{◌≡◌, ◌∙◌, ◌-◌, ℕ, inr, Err, List, refl, sym, ap, subst, IsTrue, arith}
use Rattle.std.proofs.lemmas.Grind.{common_steps}
use Rattle.frs_types.specs.declared.record.Record.{Record}
use Rattle.frs_disk.specs.Disk.{Image, bytes_at}
use Rattle.frs_disk.proofs.Frames.{only_reads_join}
use Rattle.frs_segment.specs.Segments.{File, WholeSegment, IsSegment, end_of}
use Rattle.frs_segment.specs.Heads.{HasHeads, StandIn, segment_with}
use Rattle.frs_recovery.specs.Descent.{file_at, TellsSegment, IsFileFault, IsWrongFile}
use Rattle.frs_recovery.specs.FirstFault.{gap_below}
use Rattle.frs_recovery.specs.OfferedRecords.{HasRead}
use Rattle.frs_recovery.proofs.SegmentOf.{err_is}
use Rattle.frs_recovery.proofs.LookAt.{meets_them, reads_file, apart_wrong, refused_wrong, file_first}
use Rattle.frs_recovery.proofs.descent.look_at.Goals as goal

pub returns-in_err-read_segment-clause-why : goal.returns-in_err-read_segment-clause-why
returns-in_err-read_segment-clause-why g c segments looked told =
    let d = g.D.Disk in
    let segment = c.in-Some.segment in
    let file : File = file_at (d.reads c.args.disk.now) c.args.number in
    let found = subst (TellsSegment (d.tells c.args.disk.now) file) c.in-Some.is c.in_ok-segment.ensures.found in
    let same : file_at (d.reads c.segment_of.new.disk) segment.number ≡ file = file_first (d.reads c.args.disk.now) (d.reads c.segment_of.new.disk) c.args.number segment.number c.segment_of.ensures.frame.seen found.0 in
    let heads : HasHeads (file_at (d.reads c.segment_of.new.disk) segment.number) segment = subst (λ (f : File). HasHeads f segment) (sym same) (found.2 told).0 in
    let why = c.in_err-read_segment.ensures.why (subst IsTrue (sym c.segment_of.ensures.frame.told) told) heads in
    let fault : c.from_residual-in_err-read_segment.result ≡ Err c.in_err-read_segment.field-0.0 = grind (arith, common_steps) in
    err_is (IsWrongFile file segments) c.from_residual-in_err-read_segment.result c.in_err-read_segment.field-0.0 fault
    (refused_wrong file segments c.in_err-read_segment.field-0.0 (subst (λ (f : File). IsFileFault f c.in_err-read_segment.field-0.0) same why))

pub returns-in_err-met-clause-why : goal.returns-in_err-met-clause-why
returns-in_err-met-clause-why g c segments looked told =
    let d = g.D.Disk in
    let segment = c.in-Some.segment in
    let file : File = file_at (d.reads c.args.disk.now) c.args.number in
    let found = subst (TellsSegment (d.tells c.args.disk.now) file) c.in-Some.is c.in_ok-segment.ensures.found in
    let read = c.in_ok-read_segment.ensures.read in
    let laws = c.segment_heads.ensures in
    let same : file_at (d.reads c.segment_of.new.disk) segment.number ≡ file = file_first (d.reads c.args.disk.now) (d.reads c.segment_of.new.disk) c.args.number segment.number c.segment_of.ensures.frame.seen found.0 in
    let s : WholeSegment = segment_with segment read.0 in
    let stand : StandIn file.1 segment.chunks read.0 = subst (λ (f : File). StandIn f.1 segment.chunks read.0) same (read.2 (subst IsTrue (sym c.segment_of.ensures.frame.told) told)) in
    let whole = laws.whole file segment read.0 c.requires.in_range (found.2 told).1 found.1 (found.2 told).0 stand in
    let fault : c.from_residual-in_err-met.result ≡ Err c.in_err-met.field-0.0 = grind (arith, common_steps) in
    err_is (IsWrongFile file segments) c.from_residual-in_err-met.result c.in_err-met.field-0.0 fault
    (apart_wrong file segments s c.in_err-met.field-0.0 whole.0 (c.in_err-met.ensures.told segments s looked (file, whole.0) whole.1))

pub returns-in_err-push-2-clause-frame : goal.returns-in_err-push-2-clause-frame
returns-in_err-push-2-clause-frame g c =
    only_reads_join g.D.Disk g.met.D.Disk.since_earlier c.args.disk.now c.segment_of.new.disk c.read_segment.new.disk c.segment_of.ensures.frame c.read_segment.ensures.frame

pub returns-clause-frame : goal.returns-clause-frame
returns-clause-frame g c =
    only_reads_join g.D.Disk g.met.D.Disk.since_earlier c.args.disk.now c.segment_of.new.disk c.read_segment.new.disk c.segment_of.ensures.frame c.read_segment.ensures.frame

pub returns-clause-looks : goal.returns-clause-looks
returns-clause-looks g c segments looked =
    let d = g.D.Disk in
    let tells = d.tells c.args.disk.now in
    let segment = c.in-Some.segment in
    let file : File = file_at (d.reads c.args.disk.now) c.args.number in
    let found = subst (TellsSegment tells file) c.in-Some.is c.in_ok-segment.ensures.found in
    let read = c.in_ok-read_segment.ensures.read in
    let laws = c.segment_heads.ensures in
    let same : file_at (d.reads c.segment_of.new.disk) segment.number ≡ file = file_first (d.reads c.args.disk.now) (d.reads c.segment_of.new.disk) c.args.number segment.number c.segment_of.ensures.frame.seen found.0 in
    let s : WholeSegment = segment_with segment read.0 in
    let meant = laws.meant segment read.0 (subst IsNumber (sym found.0) c.requires.in_range) found.1 read.1 in
    let is : IsTrue tells → IsSegment file s = λ told. (laws.whole file segment read.0 c.requires.in_range (found.2 told).1 found.1 (found.2 told).0
    (subst (λ (f : File). StandIn f.1 segment.chunks read.0) same (read.2 (subst IsTrue (sym c.segment_of.ensures.frame.told) told)))).0 in
    let meets = meets_them s segments (gap_below segments (end_of s - 1)) (c.in_ok-met.ensures.told segments s looked (meant.0, meant.1) meant.2) in
    let ends : segment.«end» ≡ end_of s = ap (λ (x : Segment). x.«end») meant.2 in
    inr (reads_file tells file segments c.args.descent.now (record { segments = c.push-2.new.self; half = c.args.descent.now.half; records = c.read_segment.new.records }) segment s looked (meant.0, meant.1) found.0 meant.2 is meets
    (λ rs had. read.3 rs (subst (λ (n : ℕ). HasRead c.args.descent.now.records n rs) (sym ends) had)) refl c.in_ok-push-2.ensures.items)
