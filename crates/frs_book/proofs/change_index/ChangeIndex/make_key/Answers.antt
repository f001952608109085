-- A place for a key changes no position, whether or not its map is new.
use Rattle.std.proofs.Common.{◌∙◌, ap, sym, Some, cond}
use Rattle.std.specs.Str.{bytes_eq}
use Rattle.frs_objects.proofs.NestedMaps.{unchanged, at_write, at_update, by_bytes}
use Rattle.frs_book.specs.Changes.{position_of}
use Rattle.frs_book.proofs.change_index.ChangeIndex.make_key.Goals as goal

pub returns-in-Some-clause-stay : goal.returns-in-Some-clause-stay
returns-in-Some-clause-stay c =
    let m = c.args.self.now.maps in
    let w = c.make_place.new.self in
    let n = c.get_mut.follows.lender w in
    unchanged position_of m n c.args.id.now (Some w)
    (at_write m n c.args.id.now c.in-Some.map.now w (sym c.in-Some.ensures.value) (c.get_mut.follows.holds w))
    (λ k. c.make_place.ensures.stay k ∙ ap (λ v. position_of v k) c.in-Some.ensures.value)

pub returns-clause-stay : goal.returns-clause-stay
returns-clause-stay c =
    let m = c.args.self.now.maps in
    let w = c.make_place-2.new.self in
    let n = c.insert.new.self in
    let from = c.get_mut.follows.lender-at-none in
    unchanged position_of m n c.args.id.now (Some w)
    (λ k. at_update from n c.in_ok-copy.field-0 (Some w) c.in_ok-insert.ensures.updates k
    ∙ ap (λ v. cond (bytes_eq v k) (Some w) (by_bytes from k)) c.in_ok-copy.ensures
    ∙ ap (λ v. cond (bytes_eq c.args.id.now k) (Some w) (by_bytes v k)) c.get_mut.follows.holds-at-none)
    (λ k. c.make_place-2.ensures.stay k ∙ c.new-map.ensures k ∙ ap (λ v. position_of v k) c.in_default.ensures.value)
