-- Entry by entry.
use Rattle.std.proofs.Common.{◌∙◌, ap, sym, subst, ◌≡◌, ◌∷◌}
use Rattle.std.specs.Prelude.{◌==◌, fold}
use Rattle.std.specs.List.{list_any}
use Rattle.std.specs.FinMap.Entries.{put}
use Rattle.frs_types.specs.declared.record.Entry.{Entry}
use Rattle.frs_types.specs.Maps.{Table, place_cmp}
use Rattle.frs_types.specs.Lawful.{StoredValue}
use Rattle.frs_objects.specs.Slots.{slot_at}
use Rattle.frs_objects.specs.Objects.{stored_by, HaveOwnNumbers}
use Rattle.frs_objects.specs.Index.{table_in}
use Rattle.frs_objects.proofs.IsNew.{none_at_first, new_behind}
use Rattle.frs_objects.proofs.objects.Objects.of.Goals as goal

pub loop-entry-init : goal.loop-entry-init
loop-entry-init c =
    let same = c.into_iter-entry-iterator.ensures.into_iter_gives.0 in
    record {
      index = c.new-index.ensures.index;
      new = λ n _. none_at_first (slot_at c.new-index.result.places.maps) c.new-index.result.entries.entries c.new-index.ensures.index c.new-index.ensures.shown n;
      own = subst HaveOwnNumbers (sym same) c.requires;
      shown = λ i. fold (λ (t : Table StoredValue) (e : Entry). put place_cmp (e.id, e.key) (stored_by e) t) (c.new-index.ensures.shown i) (same i);
    }

pub loop-entry-preserved : goal.loop-entry-preserved
loop-entry-preserved c =
    let e = c.in-Some.entry in
    let rest = c.next.new.self.rest.items in
    let same : c.loop-entry.entry-iterator.rest.items ≡ e ∷ rest = c.in-Some.ensures.steps.0 in
    record {
      index = c.insert.ensures.index;
      new = new_behind c.loop-entry.index.entries.entries c.insert.new.self.entries.entries e rest (subst HaveOwnNumbers same c.loop-entry.invariant.own)
          (λ n h. c.loop-entry.invariant.new n (ap (list_any (λ (d : Entry). d.lsn == n)) same ∙ h)) c.insert.ensures.others;
      own = (subst HaveOwnNumbers same c.loop-entry.invariant.own).1;
      shown = ap (λ t. fold (λ (t : Table StoredValue) (e : Entry). put place_cmp (e.id, e.key) (stored_by e) t) t rest) c.in_ok-insert.ensures.shown
          ∙ ap (fold (λ (t : Table StoredValue) (e : Entry). put place_cmp (e.id, e.key) (stored_by e) t) (table_in c.loop-entry.index)) (sym same) ∙ c.loop-entry.invariant.shown;
    }
