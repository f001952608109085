use Rattle.std.proofs.Common.{length}
use Rattle.std.specs.FinMap.{get}
use Rattle.frs_disk.specs.Disk.{Image, OnFile, Torn}
use Rattle.frs_disk.specs.RecordLaws.{on_file_same}
use Rattle.frs_disk.proofs.Moments.{within_call, within_join}
use Rattle.frs_disk.proofs.Frames.{only_reads_call, changes_one_call, changes_one_read, changes_one_join}
use Rattle.frs_segment.proofs.writer.write_durably.Goals as goal

pub returns-in_err-write-clause-frame : goal.returns-in_err-write-clause-frame
returns-in_err-write-clause-frame g c =
    let w = c.write.ensures in
    changes_one_call g.D.Disk c.args.number _ c.args.disk.now c.write.new.self w.told w.seen w.pending w.crash w.time

pub returns-clause-frame : goal.returns-clause-frame
returns-clause-frame g c =
    let d = g.D.Disk in
    let w = c.write.ensures in
    let s = c.sync.ensures in
    changes_one_join d g.met.D.Disk.counts_now g.met.D.Disk.since_earlier c.args.number c.args.disk.now c.write.new.self c.sync.new.self
    (changes_one_call d c.args.number _ c.args.disk.now c.write.new.self w.told w.seen w.pending w.crash w.time)
    (changes_one_read d c.args.number c.write.new.self c.sync.new.self (only_reads_call d c.write.new.self c.sync.new.self s.told s.seen s.pending s.crash s.time))

pub returns-in_err-write-clause-images : goal.returns-in_err-write-clause-images
returns-in_err-write-clause-images g c =
    within_call g.D.Disk c.args.disk.now c.write.new.self _ c.write.ensures.time
    (λ x left. (x, left, on_file_same _ _ _))
    (λ x left. let from = c.write.ensures.crash x left in (from.0, from.1, from.2.file))

pub returns-clause-images : goal.returns-clause-images
returns-clause-images g c =
    let d = g.D.Disk in
    let n = c.args.number in
    let torn : (x : Image) → d.may_leave c.write.new.self x → (y : Image) × d.may_leave c.args.disk.now y × OnFile (Torn c.args.at (length c.args.bytes.now)) (get y n) (get x n) =
    λ x left. let from = c.write.ensures.crash x left in (from.0, from.1, from.2.file) in
    within_join d c.args.disk.now c.write.new.self c.sync.new.self _ c.write.ensures.time.passes c.sync.ensures.time.passes
    (within_call d c.args.disk.now c.write.new.self _ c.write.ensures.time (λ x left. (x, left, on_file_same _ _ _)) torn)
    (within_call d c.write.new.self c.sync.new.self _ c.sync.ensures.time torn (λ x left. torn x (c.sync.ensures.crash x left)))
