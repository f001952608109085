use Rattle.std.proofs.Common.{refl, ap}
use Rattle.std.proofs.lemmas.Result.{on_ok_weaker, on_err_weaker}
use Rattle.frs_writer.specs.Writing.{number_to_write}
use Rattle.frs_writer.proofs.WriteGroup.{joined_leaves, joined_durable, joined_takes, joined_refused, joined_file, takes_none, stopped_refused, roll_refused}
use Rattle.frs_writer.proofs.WritesGroup.{at_refusal, changes_none}
use Rattle.frs_writer.proofs.writer.Writer.write_group.Goals as goal

pub returns-clause-crash : goal.returns-clause-crash
returns-clause-crash g c =
    joined_leaves g.D.Disk c.args.self.now c.roll.new.self c.write.new.self c.in_ok-room.ensures.rolled c.write.ensures.same g.met.D.Disk.since_earlier c.roll.ensures.frame c.write.ensures.frame
    c.roll.ensures.crash c.roll.ensures.shown c.write.ensures.crash

pub returns-clause-durable : goal.returns-clause-durable
returns-clause-durable g c =
    on_ok_weaker c.write.result (joined_durable g.D.Disk c.args.self.now c.roll.new.self c.write.new.self c.in_ok-room.ensures.rolled c.write.ensures.same c.roll.ensures.frame) c.write.ensures.durable

pub returns-clause-same : goal.returns-clause-same
returns-clause-same g c = joined_takes g.D.Disk c.args.self.now c.roll.new.self c.write.new.self c.in_ok-room.ensures.rolled c.write.ensures.same

pub returns-clause-refused : goal.returns-clause-refused
returns-clause-refused g c =
    on_err_weaker c.write.result (joined_refused g.D.Disk c.args.self.now c.roll.new.self c.write.new.self c.in_ok-room.ensures.rolled c.write.ensures.same c.args.limit) c.write.ensures.refused

pub returns-in_err-room-clause-same : goal.returns-in_err-room-clause-same
returns-in_err-room-clause-same g c =
    takes_none c.args.self.now c.roll.new.self (ap (λ w. w.opened) c.in_err-room.ensures.refused.0) (ap (λ w. w.noted) c.in_err-room.ensures.refused.0) (ap (λ w. w.pins) c.in_err-room.ensures.refused.0) (ap (λ w. w.older) c.in_err-room.ensures.refused.0) (ap (λ w. w.taker) c.in_err-room.ensures.refused.0)

pub returns-in_err-room-clause-refused : goal.returns-in_err-room-clause-refused
returns-in_err-room-clause-refused g c =
    at_refusal c.from_residual-in_err-room.result (roll_refused g.D.Disk c.args.limit c.args.self.now c.roll.new.self c.in_err-room.ensures.refused.0 c.in_err-room.ensures.refused.1)

pub returns-in_err-check-clause-same : goal.returns-in_err-check-clause-same
returns-in_err-check-clause-same g c = takes_none c.args.self.now c.args.self.now refl refl refl refl refl

pub returns-in_err-check-clause-refused : goal.returns-in_err-check-clause-refused
returns-in_err-check-clause-refused g c =
    at_refusal c.from_residual.result (stopped_refused g.D.Disk c.args.limit c.args.self.now c.in_err-check.ensures.stopped)

pub returns-clause-one_file : goal.returns-clause-one_file
returns-clause-one_file g c =
    joined_file g.D.Disk c.args.self.now c.roll.new.self c.write.new.self c.in_ok-room.ensures.rolled c.write.ensures.same g.met.D.Disk.counts_now g.met.D.Disk.since_earlier
    c.roll.ensures.one_file c.write.ensures.one_file

pub returns-in_err-check-clause-one_file : goal.returns-in_err-check-clause-one_file
returns-in_err-check-clause-one_file g c = changes_none g.D.Disk g.met.D.Disk.only_now (number_to_write c.args.self.now) c.args.self.now.disk
