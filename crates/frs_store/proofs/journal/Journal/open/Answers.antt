use Rattle.std.proofs.Common.{◌≡◌, ◌+◌, ◌∙◌, length, ap, sym, arith}
use Rattle.frs_segment.specs.Scanning.{places_of_segment}
use Rattle.frs_slots.specs.Views.{TakerView}
use Rattle.frs_writer.specs.LogImages.{new_segment}
use Rattle.frs_writer.specs.Places.{number_of_newest}
use Rattle.frs_writer.proofs.Places.{newest_number}
use Rattle.frs_store.proofs.JournalGoesOn.{opened_journal, refused_leaves}
use Rattle.frs_store.proofs.journal.Journal.open.Goals as goal

pub returns-in-Err-clause-refused : goal.returns-in-Err-clause-refused
returns-in-Err-clause-refused g c told alike log spells =
    refused_leaves g.D.Disk c.args.start.value c.args.disk c.in-Err.refused.disk c.requires.looked c.in-Err.ensures.frame.1
    c.in-Err.ensures.crash.1 told alike log spells

pub invariant_of-result : goal.invariant_of-result
invariant_of-result g c =
    let w = c.in-Ok.writer in
    let is = c.in-Ok.ensures.writer in
    let none : length c.args.taker.taken ≡ 0 = ap length c.requires.taker.0 in
    let at_start : c.of-durable.result.value + 1 ≡ c.args.found.now.next =
    omega (arith, c.of-durable.ensures, c.next-first.ensures.next, c.next-first.ensures.in_range.0, none, c.requires.taker.1) in
    opened_journal g.D.Disk g.met.D.Disk.counts_now g.met.D.Disk.since_earlier c.one_log.ensures.log c.args.start.value c.args.disk
    c.of-durable.result.value c.of-number.result.value w c.args.found.now c.requires.looked is.0
    (ap (λ (t : TakerView). t.taken) is.1 ∙ c.requires.taker.0) c.in-Ok.ensures.frame.0 c.in-Ok.ensures.crash.0 at_start is.5
    c.requires.found (ap (λ (t : TakerView). t.first) is.1 ∙ c.requires.taker.1) is.2
    (ap number_of_newest is.9
    ∙ newest_number c.args.found.now.segments (places_of_segment (new_segment (c.args.found.now.greatest + 1) c.args.found.now.next))
    ∙ sym c.of-number.ensures)
