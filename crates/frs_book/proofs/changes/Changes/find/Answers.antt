-- The newest change stands where the index says.
use Rattle.std.proofs.Common.{◌≡◌, ◌<◌, ◌∙◌, refl, ap, sym, subst, true≢false, Option, Some, None, IsSome, ℕ, List, length, option_copied, Bor}
use Rattle.std.specs.Prelude.{slice_get, IfSome, get_or}
use Rattle.std.proofs.lemmas.Option.{slice_get_read}
use Rattle.frs_objects.specs.declared.op.Op.{Op}
use Rattle.frs_types.specs.Maps.{Place}
use Rattle.frs_book.specs.Changes.{IsFoundAt, newest_touching}
use Rattle.frs_book.proofs.changes.Changes.find.Goals as goal

copied_is : (r : Option (Bor Op)) (ops : List Op) (n : ℕ) → n < length ops → IsSome r → IfSome r (λ x. x.now ≡ get_or ops n x.now) → option_copied r ≡ slice_get ops n
copied_is None ops n less some is = absurd (true≢false (sym some))
copied_is (Some x) ops n less some is = sym (slice_get_read ops (length ops) n x.now refl less is)

pub returns-in-Some : goal.returns-in-Some
returns-in-Some c =
    let p : Place = (c.args.id.now, c.args.key.now) in
    let ops = c.self.inside.ops.items in
    let found = subst (λ (n : Option ℕ). IsFoundAt ops n (newest_touching ops p)) (sym c.position.ensures ∙ c.in-Some.is) (c.self.invariant p) in
    copied_is c.get.result ops c.in-Some.position found.0 (c.get.ensures.lookup.2 (subst (λ (l : List Op). c.in-Some.position < length l) (sym c.deref.ensures.value) found.0)) (subst (λ (l : List Op). IfSome c.get.result (λ x. x.now ≡ get_or l c.in-Some.position x.now)) c.deref.ensures.value c.get.ensures.lookup.1) ∙ found.1 ∙ ap (λ l. newest_touching l p) c.self.view_is

pub returns-in-None : goal.returns-in-None
returns-in-None c =
    let p : Place = (c.args.id.now, c.args.key.now) in
    let ops = c.self.inside.ops.items in
    let found = subst (λ (n : Option ℕ). IsFoundAt ops n (newest_touching ops p)) (sym c.position.ensures ∙ c.in-None.is) (c.self.invariant p) in
    sym found ∙ ap (λ l. newest_touching l p) c.self.view_is
