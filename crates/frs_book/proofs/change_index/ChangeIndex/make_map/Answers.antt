-- A map that wasn't there has no position of a key.
use Rattle.std.proofs.Common.{◌∙◌, ap, sym, Some, cond}
use Rattle.std.specs.Str.{bytes_eq}
use Rattle.frs_objects.proofs.NestedMaps.{unchanged, at_update, by_bytes}
use Rattle.frs_book.specs.Changes.{position_of}
use Rattle.frs_book.proofs.Positions.{no_changes}
use Rattle.frs_book.proofs.change_index.ChangeIndex.make_map.Goals as goal

pub returns-clause-stay : goal.returns-clause-stay
returns-clause-stay c =
    let m = c.args.self.now.maps in
    let w = c.new-map.result in
    let n = c.insert.new.self in
    unchanged position_of m n c.args.id.now (Some w)
    (λ k. at_update m n c.in_ok-copy.field-0 (Some w) c.in_ok-insert.ensures.updates k
    ∙ ap (λ v. cond (bytes_eq v k) (Some w) (by_bytes m k)) c.in_ok-copy.ensures)
    (λ k. c.new-map.ensures k
    ∙ sym (no_changes (by_bytes m c.args.id.now) k (sym c.contains_key.ensures ∙ c.if-contains_key.false)))
