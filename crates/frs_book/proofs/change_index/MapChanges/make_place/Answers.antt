-- A key that had no place gets one without a position.
use Rattle.std.proofs.Common.{◌∙◌, ap, sym, Some, None, cond}
use Rattle.std.specs.Str.{bytes_eq}
use Rattle.frs_objects.proofs.NestedMaps.{at_update, by_bytes}
use Rattle.frs_book.proofs.Positions.{place_made}
use Rattle.frs_book.proofs.change_index.MapChanges.make_place.Goals as goal

pub returns-clause-stay : goal.returns-clause-stay
returns-clause-stay c =
    let m = c.args.self.now.keys in
    let n = c.insert.new.self in
    place_made m n c.args.key.now c.args.self.now.deleted
    (λ k. at_update m n c.in_ok-copy.field-0 (Some None) c.in_ok-insert.ensures.updates k
    ∙ ap (λ v. cond (bytes_eq v k) (Some None) (by_bytes m k)) c.in_ok-copy.ensures)
    (sym c.contains_key.ensures ∙ c.if-contains_key.false)
