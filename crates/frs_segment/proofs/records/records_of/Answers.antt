use Rattle.std.proofs.Common.{◌≡◌, ◌∙◌, ◌+◌, ℕ, None, Some, refl, subst, sym, ap, arith, length}
use Rattle.std.proofs.lemmas.Bool.{eqb-false}
use Rattle.frs_segment.specs.Scanning.{TellsRecord}
use Rattle.frs_segment.proofs.FillBody.{stand_more, stops, bytes_left}
use Rattle.frs_segment.proofs.records.records_of.Goals as goal

pub returns-in_default-clause-why : goal.returns-in_default-clause-why
returns-in_default-clause-why c =
    let lsn : c.args.place.now.first + c.from.result ≡ c.args.place.now.first + c.loop-i.i = ap (λ (n : ℕ). c.args.place.now.first + n) c.from.ensures in
    let none : TellsRecord c.loop-i.rest.now (c.args.place.now.first + c.loop-i.i) None = subst (λ (n : ℕ). TellsRecord c.loop-i.rest.now n None) lsn (subst (TellsRecord c.loop-i.rest.now (c.args.place.now.first + c.from.result)) c.in_default.is c.in_ok-record.ensures) in
    (refl, stops c.args.place.now c.args.body.now c.loop-i.records.items c.loop-i.i c.loop-i.rest.now c.requires (omega arith) c.loop-i.invariant none)

pub loop-i-preserved : goal.loop-i-preserved
loop-i-preserved c =
    let lsn : c.args.place.now.first + c.from.result ≡ c.args.place.now.first + c.loop-i.i = ap (λ (n : ℕ). c.args.place.now.first + n) c.from.ensures in
    let some : TellsRecord c.loop-i.rest.now (c.args.place.now.first + c.loop-i.i) (Some (c.in-Some.record, c.in-Some.len)) = subst (λ (n : ℕ). TellsRecord c.loop-i.rest.now n (Some (c.in-Some.record, c.in-Some.len))) lsn (subst (TellsRecord c.loop-i.rest.now (c.args.place.now.first + c.from.result)) c.in-Some.is c.in_ok-record.ensures) in
    rw (c.in_ok-push.ensures.items, c.split_at.ensures.back) (stand_more c.args.place.now c.args.body.now c.loop-i.records.items c.loop-i.i c.loop-i.rest.now c.in-Some.record c.in-Some.len c.loop-i.invariant some)

pub returns-then-not-is_empty-clause-why : goal.returns-then-not-is_empty-clause-why
returns-then-not-is_empty-clause-why c =
    let left : length c.loop-i.rest.now ≡ 0 → _ = eqb-false (length c.loop-i.rest.now) 0 (sym c.is_empty.ensures ∙ c.if-not-is_empty.true) in
    (refl, bytes_left c.args.place.now c.args.body.now c.loop-i.records.items c.loop-i.i c.loop-i.rest.now c.requires (omega arith) left c.loop-i.invariant)
