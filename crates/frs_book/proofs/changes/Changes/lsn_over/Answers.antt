-- What the newest change of the key leaves, or what the maps have.
use Rattle.std.proofs.Common.{◌∙◌, refl, ap, sym, Some, None, option_copied, option_map, unwrap_or}
use Rattle.frs_types.specs.declared.record.Entry.{Entry}
use Rattle.frs_types.specs.Lawful.{StoredValue}
use Rattle.frs_book.specs.Changes.{left_by}
use Rattle.frs_book.proofs.NewestChange.{at_found, part_of_entry}
use Rattle.frs_book.proofs.changes.Changes.lsn_over.Goals as goal

pub returns-in-Some-Put : goal.returns-in-Some-Put
returns-in-Some-Put c = sym (ap (λ o. unwrap_or (option_map (λ (h : StoredValue). h.lsn) o) 0)
    (at_found c.args.objects.now c.args.self.now (c.args.id.now, c.args.key.now) (Some c.in-Some-Put.field-0.now)
    (sym (ap option_copied c.in-Some-Put.is) ∙ c.find.ensures)
    ∙ ap left_by c.in-Some-Put.field-0-is))

pub returns-in-Some-Remove : goal.returns-in-Some-Remove
returns-in-Some-Remove c = sym (ap (λ o. unwrap_or (option_map (λ (h : StoredValue). h.lsn) o) 0)
    (at_found c.args.objects.now c.args.self.now (c.args.id.now, c.args.key.now) (Some c.in-Some-Remove.field-0.now)
    (sym (ap option_copied c.in-Some-Remove.is) ∙ c.find.ensures)
    ∙ ap left_by c.in-Some-Remove.field-0-is))

pub returns-in-Some-Delete : goal.returns-in-Some-Delete
returns-in-Some-Delete c = sym (ap (λ o. unwrap_or (option_map (λ (h : StoredValue). h.lsn) o) 0)
    (at_found c.args.objects.now c.args.self.now (c.args.id.now, c.args.key.now) (Some c.in-Some-Delete.field-0.now)
    (sym (ap option_copied c.in-Some-Delete.is) ∙ c.find.ensures)
    ∙ ap left_by c.in-Some-Delete.field-0-is))

pub returns-in-Some : goal.returns-in-Some
returns-in-Some c =
    ap (λ v. unwrap_or v 0) (part_of_entry (λ (e : Entry). e.lsn) (λ (h : StoredValue). h.lsn) c.args.objects.now (c.args.id.now, c.args.key.now) (Some c.in-Some.entry.now)
    (λ _. refl) (sym (ap option_copied c.in-Some.is) ∙ c.get.ensures))
    ∙ sym (ap (λ o. unwrap_or (option_map (λ (h : StoredValue). h.lsn) o) 0)
    (at_found c.args.objects.now c.args.self.now (c.args.id.now, c.args.key.now) None
    (sym (ap option_copied c.in-None.is) ∙ c.find.ensures)))

pub returns-in-None-get : goal.returns-in-None-get
returns-in-None-get c =
    ap (λ v. unwrap_or v 0) (part_of_entry (λ (e : Entry). e.lsn) (λ (h : StoredValue). h.lsn) c.args.objects.now (c.args.id.now, c.args.key.now) None
    (λ _. refl) (sym (ap option_copied c.in-None-get.is) ∙ c.get.ensures))
    ∙ sym (ap (λ o. unwrap_or (option_map (λ (h : StoredValue). h.lsn) o) 0)
    (at_found c.args.objects.now c.args.self.now (c.args.id.now, c.args.key.now) None
    (sym (ap option_copied c.in-None.is) ∙ c.find.ensures)))
