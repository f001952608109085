use Rattle.std.proofs.Common.{sym, subst}
use Rattle.frs_store.specs.declared.stop.StartFault.{StartFault}
use Rattle.frs_store.specs.Start.{FailsAtMark}
use Rattle.frs_store.proofs.WrittenMark.{has_more, written_going, writes_mark, fails_at_mark}
use Rattle.frs_store.proofs.start.write_mark.Goals as goal

pub write_group-written-requires : goal.write_group-written-requires
write_group-written-requires g c = has_more c.args.store c.requires.mark

pub returns-in-Ok-clause-going : goal.returns-in-Ok-clause-going
returns-in-Ok-clause-going g c =
    let wrote = c.in-Ok.ensures in
    let met = c.meet.ensures in
    written_going g.D.Disk c.args.store c.requires.going c.requires.mark c.write_group-written.new.self c.meet.new.self c.meet.new.end
    wrote.start wrote.same met.prefix met.same met.drawer met.others wrote.frame c.in-Ok.field-0 wrote.wrote wrote.some wrote.cause

pub returns-in-Ok-clause-written : goal.returns-in-Ok-clause-written
returns-in-Ok-clause-written g c =
    let wrote = c.in-Ok.ensures in
    let met = c.meet.ensures in
    writes_mark g.D.Disk c.args.store c.requires.going c.requires.mark c.write_group-written.new.self c.meet.new.self c.meet.new.end
    wrote.start wrote.same met.prefix met.same met.drawer met.others wrote.frame c.in-Ok.field-0 wrote.wrote wrote.some wrote.cause

pub returns-in-Err-clause-refused : goal.returns-in-Err-clause-refused
returns-in-Err-clause-refused g c =
    let wrote = c.in-Err.ensures in
    let met = c.meet.ensures in
    subst (λ (f : StartFault). FailsAtMark g.D.Disk c.args.store (record { disk = c.into_disk.result; fault = f })) (sym c.from.ensures)
    (fails_at_mark g.D.Disk c.args.store c.requires.going c.requires.mark c.write_group-written.new.self c.meet.new.self c.meet.new.end
    wrote.start wrote.same met.prefix met.same met.drawer met.others wrote.frame c.in-Err.fault wrote.cause c.into_disk.ensures.journal
    c.into_disk.result c.into_disk.ensures.disk)
