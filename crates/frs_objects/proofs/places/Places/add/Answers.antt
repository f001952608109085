-- The map of the id gets the key, or is new.
use Rattle.std.proofs.Common.{◌∙◌, ap, sym, Some, cond, ◌≡◌}
use Rattle.std.specs.Str.{bytes_eq}
use Rattle.frs_objects.specs.Slots.{slot_in}
use Rattle.frs_objects.proofs.NestedMaps.{changed, unchanged, at_write, at_update, same_at, by_bytes}
use Rattle.frs_objects.proofs.SlotAt.{of_refusal, none_in}
use Rattle.frs_objects.proofs.places.Places.add.Goals as goal

pub returns-in_err-insert-clause-refused : goal.returns-in_err-insert-clause-refused
returns-in_err-insert-clause-refused c =
    let m = c.args.self.now.maps in
    let w = c.insert.new.self in
    let map = c.in-Some.map.now in
    let n = c.get_mut.follows.lender w in
    of_refusal _ (unchanged slot_in m n c.args.id.now (Some w) (at_write m n c.args.id.now map w (sym c.in-Some.ensures.value) (c.get_mut.follows.holds w)) (λ k. same_at map w c.in_err-insert.ensures.err k ∙ ap (λ v. slot_in v k) c.in-Some.ensures.value))

pub returns-in-Some-clause-added : goal.returns-in-Some-clause-added
returns-in-Some-clause-added c =
    let m = c.args.self.now.maps in
    let w = c.insert.new.self in
    let map = c.in-Some.map.now in
    let n = c.get_mut.follows.lender w in
    changed slot_in m n c.args.id.now c.args.key.now (Some w) (Some c.args.slot) (at_write m n c.args.id.now map w (sym c.in-Some.ensures.value) (c.get_mut.follows.holds w)) (λ k. at_update map w c.in_ok-key.key (Some c.args.slot) c.in_ok-insert.ensures.updates k ∙ ap (λ v. cond (bytes_eq v k) (Some c.args.slot) (by_bytes map k)) c.in_ok-key.ensures ∙ ap (λ v. cond (bytes_eq c.args.key.now k) (Some c.args.slot) (slot_in v k)) c.in-Some.ensures.value)

pub returns-clause-added : goal.returns-clause-added
returns-clause-added c =
    let m = c.args.self.now.maps in
    let w = c.insert-2.new.self in
    let n = c.insert-3.new.self in
    let from = c.get_mut.follows.lender-at-none in
    let e : from ≡ m = c.get_mut.follows.holds-at-none in
    changed slot_in m n c.args.id.now c.args.key.now (Some w) (Some c.args.slot) (λ k. at_update from n c.in_ok-copy.field-0 (Some w) c.in_ok-insert-3.ensures.updates k ∙ ap (λ v. cond (bytes_eq v k) (Some w) (by_bytes from k)) c.in_ok-copy.ensures ∙ ap (λ v. cond (bytes_eq c.args.id.now k) (Some w) (by_bytes v k)) e) (λ k. at_update c.new-map.result w c.in_ok-key.key (Some c.args.slot) c.in_ok-insert-2.ensures.updates k ∙ ap (λ v. cond (bytes_eq v k) (Some c.args.slot) (by_bytes c.new-map.result k)) c.in_ok-key.ensures ∙ ap (cond (bytes_eq c.args.key.now k) (Some c.args.slot)) (sym (none_in c.new-map.result c.new-map.ensures.empty k) ∙ ap (λ v. slot_in v k) c.in_default.ensures.value))
