use Rattle.std.proofs.Common.{Some}
use Rattle.frs_store.proofs.StoreGoesOn.{same_start_join}
use Rattle.frs_store.proofs.StoreCalls.{to_acknowledge, misses_its, misses_none, stopped_further, done_settled, done_further, done_answers, never_waits}
use Rattle.frs_store.proofs.store.Store.call.Goals as goal

pub settle-requires-clause-due : goal.settle-requires-clause-due
settle-requires-clause-due g c =
    to_acknowledge g.D.Disk c.args.self.now c.args.client (Some c.in_ok-prepare.field-0) c.step.new.framed c.in-Done.place c.in-Done._line c.in-Done.slip
    c.in-Done.ack c.in-Done._snapshot c.step.new.self c.in_ok-place.field-0 c.in_ok-place.ensures.stepped c.in-Done.is c.history.ensures.book
    (record { next = c.asked_by_events.ensures.next; owed = c.asked_by_events.ensures.owed; due = c.asked_by_events.ensures.due })

pub returns-in_err-settle-in-Done-clause-owed : goal.returns-in_err-settle-in-Done-clause-owed
returns-in_err-settle-in-Done-clause-owed g c =
    misses_its g.D.Disk c.args.self.now c.args.client (Some c.in_ok-prepare.field-0) c.step.new.framed c.in-Done.place c.in-Done._line c.in-Done.slip
    c.in-Done.ack c.in-Done._snapshot c.step.new.self c.in_ok-place.field-0 c.in_ok-place.ensures.stepped c.in-Done.is c.history.ensures.book
    (record { next = c.asked_by_events.ensures.next; owed = c.asked_by_events.ensures.owed; due = c.asked_by_events.ensures.due })
    c.settle.new.self c.in_err-settle-in-Done.ensures.refused c.requires.settled

pub returns-in_err-settle-in-Done-clause-further : goal.returns-in_err-settle-in-Done-clause-further
returns-in_err-settle-in-Done-clause-further g c =
    stopped_further g.D.Disk c.args.self.now c.args.client (Some c.in_ok-prepare.field-0) c.step.new.framed c.in-Done.place c.in-Done._line c.in-Done.slip
    c.in-Done.ack c.in-Done._snapshot c.step.new.self c.in_ok-place.field-0 c.in_ok-place.ensures.stepped c.in-Done.is c.history.ensures.book
    (record { next = c.asked_by_events.ensures.next; owed = c.asked_by_events.ensures.owed; due = c.asked_by_events.ensures.due })
    c.settle.new.self (same_start_join g.D.Disk g.met.D.Disk.since_earlier c.args.self.now c.step.new.self c.settle.new.self c.step.ensures.same c.settle.ensures.same)
    c.in_err-settle-in-Done.ensures.refused

pub returns-in-Done-clause-settled : goal.returns-in-Done-clause-settled
returns-in-Done-clause-settled g c =
    done_settled g.D.Disk c.args.self.now c.args.client (Some c.in_ok-prepare.field-0) c.step.new.framed c.in-Done.place c.in-Done._line c.in-Done.slip
    c.in-Done.ack c.in-Done._snapshot c.step.new.self c.in_ok-place.field-0 c.in_ok-place.ensures.stepped c.in-Done.is c.history.ensures.book
    (record { next = c.asked_by_events.ensures.next; owed = c.asked_by_events.ensures.owed; due = c.asked_by_events.ensures.due })
    c.settle.new.self c.in_ok-settle-in-Done.ensures.none c.in_ok-settle-in-Done.ensures.made c.requires.settled

pub returns-in-Done-clause-owed : goal.returns-in-Done-clause-owed
returns-in-Done-clause-owed g c =
    misses_none c.settle.new.self.book (done_settled g.D.Disk c.args.self.now c.args.client (Some c.in_ok-prepare.field-0) c.step.new.framed c.in-Done.place c.in-Done._line c.in-Done.slip
    c.in-Done.ack c.in-Done._snapshot c.step.new.self c.in_ok-place.field-0 c.in_ok-place.ensures.stepped c.in-Done.is c.history.ensures.book
    (record { next = c.asked_by_events.ensures.next; owed = c.asked_by_events.ensures.owed; due = c.asked_by_events.ensures.due })
    c.settle.new.self c.in_ok-settle-in-Done.ensures.none c.in_ok-settle-in-Done.ensures.made c.requires.settled)

pub returns-in-Done-clause-answered : goal.returns-in-Done-clause-answered
returns-in-Done-clause-answered g c =
    done_answers g.D.Disk c.args.self.now c.args.client (Some c.in_ok-prepare.field-0) c.step.new.framed c.in-Done.place c.in-Done._line c.in-Done.slip
    c.in-Done.ack c.in-Done._snapshot c.step.new.self c.in_ok-place.field-0 c.in_ok-place.ensures.stepped c.in-Done.is c.history.ensures.book
    (record { next = c.asked_by_events.ensures.next; owed = c.asked_by_events.ensures.owed; due = c.asked_by_events.ensures.due })
    c.settle.new.self c.in_ok-settle-in-Done.ensures.none c.in_ok-settle-in-Done.ensures.made c.requires.client

pub returns-in-Done-clause-further : goal.returns-in-Done-clause-further
returns-in-Done-clause-further g c =
    done_further g.D.Disk c.args.self.now c.args.client (Some c.in_ok-prepare.field-0) c.step.new.framed c.in-Done.place c.in-Done._line c.in-Done.slip
    c.in-Done.ack c.in-Done._snapshot c.step.new.self c.in_ok-place.field-0 c.in_ok-place.ensures.stepped c.in-Done.is c.history.ensures.book
    (record { next = c.asked_by_events.ensures.next; owed = c.asked_by_events.ensures.owed; due = c.asked_by_events.ensures.due })
    c.settle.new.self c.in_ok-settle-in-Done.ensures.none c.in_ok-settle-in-Done.ensures.made
    (same_start_join g.D.Disk g.met.D.Disk.since_earlier c.args.self.now c.step.new.self c.settle.new.self c.step.ensures.same c.settle.ensures.same)

pub unreachable-requires : goal.unreachable-requires
unreachable-requires g c =
    never_waits g.D.Disk c.args.self.now c.step.new.self c.args.client c.in-Waits._holder (Some c.in_ok-prepare.field-0) c.step.new.framed
    c.in_ok-place.field-0 c.in_ok-place.ensures.stepped c.in-Waits.is c.history.ensures.book c.alone_is_free.ensures
    c.requires.going.session.one c.requires.client
