-- Where no row is left, all bytes are added.
use Rattle.std.proofs.Common.{rules, ◌≡◌, ◌+◌, ℕ, [], sym, ap, ◌∙◌, arith}
use Rattle.frs_objects.specs.Slots.{slot_at}
use Rattle.frs_objects.proofs.TableBytes.{rows_bytes, bytes_agree}
use Rattle.frs_objects.proofs.index.Index.bytes.Goals as goal

pub returns : goal.returns
returns c a =
    let none : c.loop-row.row-iterator ≡ [] = search rules in
    let all : c.loop-row.bytes ≡ c.loop-row.bytes + 0 = omega arith in
    all ∙ ap (λ r. c.loop-row.bytes + rows_bytes r) (sym none) ∙ c.loop-row.invariant.whole
    ∙ sym (bytes_agree (slot_at c.args.self.now.places.maps) c.args.self.now.entries.entries a)
