-- The entry has the committed value.
use Rattle.std.proofs.Common.{◌∙◌, Some, None, option_copied, refl, sym, ap}
use Rattle.frs_types.specs.declared.record.Entry.{Entry}
use Rattle.frs_types.specs.Maps.{Place}
use Rattle.frs_types.specs.Lawful.{StoredValue}
use Rattle.frs_history.specs.Machine.{value_or_none}
use Rattle.frs_history.specs.declared.event.Reply.TheVariants as reply
use Rattle.frs_book.proofs.EachStored.{at-plain}
use Rattle.frs_book.proofs.NewestChange.{part_of_entry}
use Rattle.frs_book.proofs.steps.committed.Goals as goal

pub returns-in_ok-copy-in-Some : goal.returns-in_ok-copy-in-Some
returns-in_ok-copy-in-Some c =
    let t = c.args.objects.now in
    let p : Place = (c.args.id.now, c.args.key.now) in
    ap (λ v. reply.Found v) c.in_ok-copy-in-Some.ensures
    ∙ ap value_or_none
    (part_of_entry (λ (e : Entry). e.value) (λ (h : StoredValue). h.value) t p (Some c.in-Some.entry.now) (λ _. refl)
    (sym (ap option_copied c.in-Some.is) ∙ c.get.ensures)
    ∙ sym (at-plain p t))

pub returns-in-None : goal.returns-in-None
returns-in-None c =
    let t = c.args.objects.now in
    let p : Place = (c.args.id.now, c.args.key.now) in
    ap value_or_none
    (part_of_entry (λ (e : Entry). e.value) (λ (h : StoredValue). h.value) t p None (λ _. refl)
    (sym (ap option_copied c.in-None.is) ∙ c.get.ensures)
    ∙ sym (at-plain p t))
