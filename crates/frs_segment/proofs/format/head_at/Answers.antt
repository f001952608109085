use Rattle.std.proofs.Common.{◌≡◌, ◌∙◌, ◌<◌, ℕ, length, take, sym, ap, arith}
use Rattle.std.proofs.lemmas.List.{length-take}
use Rattle.std.proofs.lemmas.List.Elements.{All-from_get_or}
use Rattle.frs_segment.specs.Scanning.{head_told_by, field_at}
use Rattle.std.specs.Int.{w32, w64}
use Rattle.frs_segment.proofs.IsChunk.{head_alike, head_short}
use Rattle.frs_segment.proofs.format.head_at.Goals as goal

pub returns-then-front-lt-CHUNK_HEAD-clause-told : goal.returns-then-front-lt-CHUNK_HEAD-clause-told
returns-then-front-lt-CHUNK_HEAD-clause-told c behind same long =
    sym (head_short c.args.offset c.args.next behind (omega (arith, ap length same, length-take 16 c.args.front.now, length-take 16 behind, c.if-front-lt-CHUNK_HEAD.true)))

pub returns-then-front-lt-CHUNK_HEAD-clause-bytes : goal.returns-then-front-lt-CHUNK_HEAD-clause-bytes
returns-then-front-lt-CHUNK_HEAD-clause-bytes c = All-from_get_or (λ b. b < 256) c.args.front.now 0 (λ i lt. omega (arith, c.type_inv.front i))

pub returns-clause-told : goal.returns-clause-told
returns-clause-told c behind same long =
    let front = c.args.front.now in
    c.told_head.ensures.told
    ∙ ap (λ (n : ℕ). head_told_by n c.args.offset c.args.next c.u32_at.result c.u32_at-2.result c.u64_at.result) long
    ∙ ap (λ (n : ℕ). head_told_by (length behind) c.args.offset c.args.next n c.u32_at-2.result c.u64_at.result) c.u32_at.ensures
    ∙ ap (λ (n : ℕ). head_told_by (length behind) c.args.offset c.args.next (field_at w32 0 front) n c.u64_at.result) c.u32_at-2.ensures
    ∙ ap (head_told_by (length behind) c.args.offset c.args.next (field_at w32 0 front) (field_at w32 4 front)) c.u64_at.ensures
    ∙ sym (head_alike c.args.offset c.args.next front behind same)

pub returns-clause-bytes : goal.returns-clause-bytes
returns-clause-bytes c = All-from_get_or (λ b. b < 256) c.args.front.now 0 (λ i lt. omega (arith, c.type_inv.front i))
