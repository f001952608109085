use Rattle.std.proofs.Common.{◌≡◌, ◌-◌, ◌+◌, ℕ, drop, take, refl, subst, arith}
use Rattle.std.proofs.lemmas.Bool.{iff_false}
use Rattle.frs_segment.specs.Scanning.{FillBody, IsChunk}
use Rattle.frs_frame.proofs.Takes.{IsBytes}
use Rattle.frs_types.proofs.Results.{if_ok}
use Rattle.frs_segment.proofs.ReadChunk.{Records, chunk_begins, begun_chunk}
use Rattle.frs_segment.proofs.reader.chunk_in.Goals as goal

pub returns-then-not-has_head-clause-why : goal.returns-then-not-has_head-clause-why
returns-then-not-has_head-clause-why c =
    (refl, λ rs is. let b = chunk_begins c.args.place.now c.args.text.now rs is in iff_false c.has_head.ensures.told c.if-not-has_head.true (b.gate, b.head))

pub returns-clause-found : goal.returns-clause-found
returns-clause-found c =
    let place = c.args.place.now in
    let text = c.args.text.now in
    let n : 17 + place.body - 17 ≡ place.body = omega arith in
    let fits : IsBytes text = λ i. omega (arith, c.type_inv.text i) in
    let head = c.if-not-has_head.ensures.told.0 refl in
    let some = c.if-not-has_head.ensures.there in
    if_ok (λ (records : Records). FillBody place (take (17 + place.body - 17) (drop 17 text)) records.items) (λ (records : Records). IsChunk place text records.items) c.records_of.result
    (λ records fill. begun_chunk place text records.items fits (omega (arith, some)) (record { gate = head.0; head = head.1; records = subst (λ (m : ℕ). FillBody place (take m (drop 17 text)) records.items) n fill }))
    c.records_of.ensures.found
