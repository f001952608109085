use Rattle.std.proofs.Common.{◌∙◌, sym, ap, subst}
use Rattle.std.specs.Prelude.{◌∷◌, []}
use Rattle.frs_types.specs.Lawful.{table_of}
use Rattle.frs_book.specs.Books.{new_book}
use Rattle.frs_store.specs.declared.stop.StartFault.{StartFault}
use Rattle.frs_store.specs.declared.stop.StartFault.TheVariants.{Memory}
use Rattle.frs_store.specs.Start.{IsUnopened}
use Rattle.frs_store.proofs.StartedStore.{IsMadeFor, going, only_mark}
use Rattle.frs_store.proofs.RefusedStart.{read_unopened, no_segment, no_mark}
use Rattle.frs_store.proofs.start.go_on.Goals as goal

pub returns-in_default-clause-refused : goal.returns-in_default-clause-refused
returns-in_default-clause-refused g c = read_unopened g.D.Disk c.args.begun.value c.args.disk c.requires.found.looked Memory c.requires.found.faults

pub returns-in_default-new_book-clause-refused : goal.returns-in_default-new_book-clause-refused
returns-in_default-new_book-clause-refused g c = read_unopened g.D.Disk c.args.begun.value c.args.disk c.requires.found.looked Memory c.requires.found.faults

made : (g : _) (c : goal.In-Ok-open g) → IsMadeFor g.D.Disk c.args.begun.value c.args.disk c.args.recovered c.args.script c.in-Ok.drawer c.in-Ok.taker
    (record { journal = c.in-Ok-open.journal; book = c.in-Ok-new_book.book })
made g c = record {
  mark = c.in-Ok.ensures;
  book = c.in-Ok-new_book.ensures ∙ ap (λ es. new_book (c.args.script ∷ []) (table_of es) 0 c.in-Ok.drawer) c.into_vec.ensures;
  start = c.in-Ok-open.ensures.start.0;
  durable = c.in-Ok-open.ensures.start.1;
  number = c.in-Ok-open.ensures.start.2;
  opened = c.in-Ok-open.ensures.writer.0;
  taker = c.in-Ok-open.ensures.writer.1;
  kept = c.in-Ok-open.ensures.writer.2;
  noted = c.in-Ok-open.ensures.writer.3;
  synced = c.in-Ok-open.ensures.writer.4;
  ended = c.in-Ok-open.ensures.writer.5;
  segments = c.in-Ok-open.ensures.writer.6;
  faults = c.in-Ok-open.ensures.cause.0.0;
}

pub write_mark-requires-clause-going : goal.write_mark-requires-clause-going
write_mark-requires-clause-going g c =
    going g.D.Disk c.one_log.ensures.log c.args.begun.value c.args.disk c.args.recovered c.requires.found c.args.script c.in-Ok.drawer c.in-Ok.taker
    (record { journal = c.in-Ok-open.journal; book = c.in-Ok-new_book.book }) (made g c)

pub write_mark-requires-clause-mark : goal.write_mark-requires-clause-mark
write_mark-requires-clause-mark g c =
    only_mark g.D.Disk c.one_log.ensures.log c.args.begun.value c.args.disk c.args.recovered c.requires.found c.args.script c.in-Ok.drawer c.in-Ok.taker
    (record { journal = c.in-Ok-open.journal; book = c.in-Ok-new_book.book }) (made g c)

pub returns-in-Ok-open-clause-going : goal.returns-in-Ok-open-clause-going
returns-in-Ok-open-clause-going g c = c.write_mark.ensures.going

pub returns-in-Ok-open-clause-refused : goal.returns-in-Ok-open-clause-refused
returns-in-Ok-open-clause-refused g c =
    no_mark g.D.Disk g.met.D.Disk.since_earlier c.args.begun.value c.args.disk c.args.recovered c.requires.found
    (record { journal = c.in-Ok-open.journal; book = c.in-Ok-new_book.book }) c.in-Ok-open.ensures.start.0 c.in-Ok-open.ensures.cause.0.0
    c.in-Ok-open.ensures.frame.0 c.write_mark.result c.write_mark.ensures.refused

pub returns-clause-refused : goal.returns-clause-refused
returns-clause-refused g c =
    subst (λ (f : StartFault). IsUnopened g.D.Disk c.args.begun.value (record { disk = c.in-Err.field-0.disk; fault = f })) (sym c.from.ensures)
    (no_segment g.D.Disk g.met.D.Disk.since_earlier c.args.begun.value c.args.disk c.args.recovered c.requires.found c.in-Err.field-0.disk c.in-Err.field-0.fault
    c.in-Err.ensures.cause.1 c.in-Err.ensures.frame.1 c.in-Err.ensures.refused)
