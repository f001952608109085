use Rattle.std.proofs.Common.{◌≡◌, ◌∙◌, ◌+◌, ℕ, List, drop, take, subst, sym, ap, IsTrue}
use Rattle.frs_disk.specs.Disk.{bytes_at}
use Rattle.frs_segment.specs.Scanning.{IsChunk}
use Rattle.frs_types.proofs.Results.{if_ok}
use Rattle.frs_segment.proofs.ReadChunk.{Records, chunk_shorter, chunk_longer, chunk_read}
use Rattle.frs_segment.proofs.reader.read_chunk.Goals as goal

pub returns-clause-found : goal.returns-clause-found
returns-clause-found g c =
    let place = c.args.place.now in
    let behind = drop place.offset (bytes_at (g.D.Disk.reads c.args.disk.now) c.args.number) in
    if_ok (λ (records : Records). IsChunk place c.as_slice.result.now records.items) (λ (records : Records). IsTrue (g.D.Disk.tells c.args.disk.now) → IsChunk place behind records.items) c.chunk_in.result
    (λ records is told. chunk_longer (18 + c.from.result) place behind records.items (subst (λ (text : List ℕ). IsChunk place text records.items) (c.as_slice.ensures.value ∙ c.in_ok-text.ensures.bytes told) is))
    c.chunk_in.ensures.found

pub returns-clause-only : goal.returns-clause-only
returns-clause-only g c told rs is =
    let place = c.args.place.now in
    let behind = drop place.offset (bytes_at (g.D.Disk.reads c.args.disk.now) c.args.number) in
    let room : take (18 + place.body) behind ≡ take (18 + c.from.result) behind = ap (λ (n : ℕ). take (18 + n) behind) (sym c.from.ensures) in
    let text : take (18 + place.body) behind ≡ c.as_slice.result.now = room ∙ sym (c.as_slice.ensures.value ∙ c.in_ok-text.ensures.bytes told) in
    chunk_read place c.as_slice.result.now rs c.chunk_in.result c.chunk_in.ensures.found c.chunk_in.ensures.why (subst (λ (x : List ℕ). IsChunk place x rs) text (chunk_shorter place behind rs is))

pub returns-clause-meant : goal.returns-clause-meant
returns-clause-meant g c =
    let place = c.args.place.now in
    if_ok (λ (records : Records). IsChunk place c.as_slice.result.now records.items) (λ (records : Records). (text : List ℕ) × IsChunk place text records.items) c.chunk_in.result (λ records is. (c.as_slice.result.now, is)) c.chunk_in.ensures.found
