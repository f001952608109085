-- By the key that is written or taken out.
use Rattle.std.proofs.Common.{◌∙◌, ap, sym, cond, None, is_some, true≢false}
use Rattle.std.specs.Str.{bytes_eq}
use Rattle.frs_objects.proofs.NestedMaps.{by_bytes, at_write, at_update}
use Rattle.frs_objects.proofs.SlotAt.{settled_none, settled_some, none_from}
use Rattle.frs_objects.proofs.places.settle_key.Goals as goal
use Rattle.frs_objects.proofs.places.settle_key.Goals.{else-is_none-via-then-is_none+else-slot-eq0, else-is_none-via-else-is_none}

pub returns-then-slot-eq0 : goal.returns-then-slot-eq0
returns-then-slot-eq0 c k =
    at_update c.args.map.now c.remove.new.self c.args.key.now None c.remove.ensures.updates k
    ∙ ap (λ v. cond (bytes_eq c.args.key.now k) v (by_bytes c.args.map.now k)) (sym (settled_none c.args.slot (none_from c.args.slot.lsn c.if-is_none.ensures) c.if-slot-eq0.true))

pub returns-in-Some : goal.returns-in-Some
returns-in-Some c k =
    at_write c.args.map.now (c.get_mut.follows.lender c.args.slot) c.args.key.now c.in-Some.held.now c.args.slot (sym c.in-Some.ensures.value) (c.get_mut.follows.holds c.args.slot) k
    ∙ ap (λ v. cond (bytes_eq c.args.key.now k) v (by_bytes c.args.map.now k)) (sym (settled_some c.args.slot (λ none zero. elim c.else-is_none.branch [
      | else-is_none-via-then-is_none+else-slot-eq0 w ↦ w.if-slot-eq0.false zero
      | else-is_none-via-else-is_none w ↦ true≢false (sym w.if-is_none.ensures ∙ ap is_some none)
    ])))
