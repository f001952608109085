use Rattle.std.proofs.Common.{◌≡◌, ◌∙◌, ◌++◌, ap, sym, subst, IsTrue}
use Rattle.std.proofs.lemmas.Result.{on_ok_weaker}
use Rattle.frs_text.specs.LastLines.{last_line}
use Rattle.frs_text.specs.Text.{Text, history_text}
use Rattle.frs_engine.specs.Endings.{scripts_of, events_of, acks_of, outcome_text}
use Rattle.frs_engine.proofs.OutcomeText.{same_history, run_text, both_print, last_prints}
use Rattle.frs_engine.proofs.report.print.Goals as goal

pub returns-clause-all : goal.returns-clause-all
returns-clause-all g c =
    let o = c.args.outcome.now in
    let first : Text = history_text (scripts_of o.book) (events_of o.book) (acks_of o.book) in
    let last : Text = last_line c.last_line.result in
    let text : outcome_text o ≡ first ++ last = run_text o.ending o.book ∙ ap (λ (l : Text). first ++ l) (sym (ap last_line c.last_line.ensures)) in
    on_ok_weaker c.write_last_line.result (λ whole told.
    both_print first last _ _ _ _ text
    (c.in_ok-transcript.ensures.all told ∙ ap (λ (t : Text). g.S.Sink.written c.args.sink.now ++ t) (same_history _ _ _ _ _ _ c.scripts.ensures c.events.ensures c.acks.ensures))
    (whole (subst IsTrue (sym c.in_ok-transcript.ensures.told) told))) c.write_last_line.ensures.all

pub returns-clause-part : goal.returns-clause-part
returns-clause-part g c told =
    let o = c.args.outcome.now in
    let first : Text = history_text (scripts_of o.book) (events_of o.book) (acks_of o.book) in
    let last : Text = last_line c.last_line.result in
    let text : outcome_text o ≡ first ++ last = run_text o.ending o.book ∙ ap (λ (l : Text). first ++ l) (sym (ap last_line c.last_line.ensures)) in
    last_prints first last _ _ _ _ text
    (c.in_ok-transcript.ensures.all told ∙ ap (λ (t : Text). g.S.Sink.written c.args.sink.now ++ t) (same_history _ _ _ _ _ _ c.scripts.ensures c.events.ensures c.acks.ensures))
    (c.write_last_line.ensures.part (subst IsTrue (sym c.in_ok-transcript.ensures.told) told))
