use Rattle.std.proofs.Common.{◌≡◌, ◌∙◌, ap, length, arith}
use Rattle.frs_book.specs.Drawn.{SessionHistory}
use Rattle.frs_engine.proofs.RunOfSession.{answers_further, answered_all}
use Rattle.frs_engine.proofs.run.answer_all.Goals as goal

pub call-requires : goal.call-requires
call-requires g c = record {
  client = (
    omega arith,
    (let count : length c.loop-place.session.store.book.session.scripts ≡ length c.args.session.now.store.book.session.scripts =
        ap (λ (h : SessionHistory). length h.scripts) c.loop-place.invariant.answers.session in omega (arith, count, c.requires.one)),
  );
}

pub loop-place-preserved : goal.loop-place-preserved
loop-place-preserved g c =
    let so_far = c.loop-place.invariant in
    record {
      answers = answers_further g.D.Disk g.met.D.Disk.since_earlier c.args.session.now c.loop-place.session c.call.new.self c.requires.one so_far.answers so_far.going so_far.faults c.call.ensures.further;
      going = c.in-Done.ensures.answers.going.1;
      faults = c.in-Done.ensures.answers.faults ∙ so_far.faults;
    }

pub returns : goal.returns
returns g c =
    let so_far = c.loop-place.invariant in
    answered_all g.D.Disk g.met.D.Disk.since_earlier c.args.session.now c.loop-place.session c.call.new.self c.requires.one so_far.answers so_far.going so_far.faults c.call.ensures.further
    c.call.result c.call.ensures.answers c.in_default.not-Done
