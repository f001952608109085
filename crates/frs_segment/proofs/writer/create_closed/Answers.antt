use Rattle.frs_disk.proofs.Moments.{within_call, within_join}
use Rattle.frs_disk.proofs.Frames.{changes_one_call, changes_one_join}
use Rattle.std.proofs.Common.{◌≡◌, None}
use Rattle.std.specs.FinMap.{get}
use Rattle.frs_disk.specs.Disk.{Image}
use Rattle.frs_disk.specs.Frames.{Within}
use Rattle.frs_segment.specs.Front.{IsAbsentOrShort}
use Rattle.frs_segment.proofs.IsInTheMaking.{IsAbsentOrEmpty, created_empty, absent_short, empty_short, torn_short}
use Rattle.frs_segment.proofs.writer.create_closed.Goals as goal

pub returns-in_err-create-clause-frame : goal.returns-in_err-create-clause-frame
returns-in_err-create-clause-frame g c =
    let e = c.create.ensures in
    changes_one_call g.D.Disk c.args.number _ c.args.disk.now c.create.new.self e.told e.seen e.pending e.crash e.time

pub returns-clause-frame : goal.returns-clause-frame
returns-clause-frame g c =
    let d = g.D.Disk in
    let e = c.create.ensures in
    changes_one_join d g.met.D.Disk.counts_now g.met.D.Disk.since_earlier c.args.number c.args.disk.now c.create.new.self c.write_durably.new.disk
    (changes_one_call d c.args.number _ c.args.disk.now c.create.new.self e.told e.seen e.pending e.crash e.time) c.write_durably.ensures.frame

pub returns-in_err-create-clause-images : goal.returns-in_err-create-clause-images
returns-in_err-create-clause-images g c told =
    let absent : (x : Image) → g.D.Disk.may_leave c.args.disk.now x → get x c.args.number ≡ None = λ x left. g.met.D.Disk.stays_absent c.args.disk.now c.args.number x told (c.requires.new.0 told) (c.requires.new.1 told) left in
    within_call g.D.Disk c.args.disk.now c.create.new.self _ c.create.ensures.time
    (λ x left. absent_short _ (absent x left))
    (λ x left. let from = c.create.ensures.crash x left in empty_short _ (created_empty _ _ (absent from.0 from.1) from.2.file))

pub returns-clause-images : goal.returns-clause-images
returns-clause-images g c told =
    let d = g.D.Disk in
    let P : Image → Type 0 = λ x. IsAbsentOrShort (get x c.args.number) in
    let absent : (x : Image) → d.may_leave c.args.disk.now x → get x c.args.number ≡ None = λ x left. g.met.D.Disk.stays_absent c.args.disk.now c.args.number x told (c.requires.new.0 told) (c.requires.new.1 told) left in
    let empty : (x : Image) → d.may_leave c.create.new.self x → IsAbsentOrEmpty (get x c.args.number) = λ x left. let from = c.create.ensures.crash x left in created_empty _ _ (absent from.0 from.1) from.2.file in
    let first : Within d c.args.disk.now c.create.new.self P = within_call d c.args.disk.now c.create.new.self P c.create.ensures.time (λ x left. absent_short _ (absent x left)) (λ x left. empty_short _ (empty x left)) in
    let second : Within d c.create.new.self c.write_durably.new.disk P = λ x left. let from = c.write_durably.ensures.images x left in torn_short _ _ (empty from.0 from.1) from.2 in
    within_join d c.args.disk.now c.create.new.self c.write_durably.new.disk P c.create.ensures.time.passes c.write_durably.ensures.frame.time first second
