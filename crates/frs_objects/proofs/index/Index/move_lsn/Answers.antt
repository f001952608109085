-- The LSN is kept, and the entry put back under it.
use Rattle.std.proofs.Common.{◌∙◌, ap, sym, refl, [], unwrap_or, Option}
use Rattle.std.specs.Prelude.{option_map}
use Rattle.std.specs.FinMap.Entries.{put}
use Rattle.frs_types.specs.Maps.{Place, at, place_cmp}
use Rattle.frs_types.specs.Lawful.{StoredValue}
use Rattle.frs_objects.specs.Slots.{slot_at}
use Rattle.frs_objects.specs.Index.{table_in}
use Rattle.frs_objects.proofs.SlotAt.{of_refusal}
use Rattle.frs_objects.proofs.IsNew.{row_free, some_of}
use Rattle.frs_objects.proofs.index.Index.move_lsn.Goals as goal

pub reserve-requires-clause-new : goal.reserve-requires-clause-new
reserve-requires-clause-new c = row_free (slot_at c.args.self.now.places.maps) c.args.self.now.entries.entries [] c.requires.index c.args.to refl c.requires.new.0

pub returns-in_err-reserve-clause-index : goal.returns-in_err-reserve-clause-index
returns-in_err-reserve-clause-index c = c.in_err-reserve.ensures.kept [] c.requires.index

pub returns-in_err-reserve-clause-refused : goal.returns-in_err-reserve-clause-refused
returns-in_err-reserve-clause-refused c = of_refusal _ (c.reserve.ensures.shown [] c.requires.index)

pub relabel-requires : goal.relabel-requires
relabel-requires c = ([], c.in_ok-reserve.ensures.kept [] c.requires.index)

pub returns-clause-index : goal.returns-clause-index
returns-clause-index c =
    let p : Place = (c.args.id.now, c.args.key.now) in
    let h = some_of (at (table_in c.args.self.now) p) c.requires.entry in
    c.relabel.ensures.made [] h.0 (c.in_ok-reserve.ensures.kept [] c.requires.index) (ap (λ t. at t p) (c.reserve.ensures.shown [] c.requires.index) ∙ h.1)

pub returns-clause-moved : goal.returns-clause-moved
returns-clause-moved c =
    let p : Place = (c.args.id.now, c.args.key.now) in
    let h = some_of (at (table_in c.args.self.now) p) c.requires.entry in
    let same = c.reserve.ensures.shown [] c.requires.index in
    c.relabel.ensures.shown [] h.0 (c.in_ok-reserve.ensures.kept [] c.requires.index) (ap (λ t. at t p) same ∙ h.1)
    ∙ ap (put place_cmp p (record { value = h.0.value; lsn = c.args.to })) same
    ∙ sym (ap (λ (o : Option StoredValue). put place_cmp p (record { value = unwrap_or (option_map (λ (g : StoredValue). g.value) o) []; lsn = c.args.to }) (table_in c.args.self.now)) h.1)
