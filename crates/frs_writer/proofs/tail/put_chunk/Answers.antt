use Rattle.std.proofs.Common.{◌≡◌, ◌⊎◌, ℕ, ◌+◌, ◌-◌, ◌++◌, List, ◌∷◌, [], length, take, Some, ◌∙◌, ap, subst}
use Rattle.std.specs.FinMap.{get}
use Rattle.frs_disk.specs.Disk.{bytes_at}
use Rattle.frs_segment.specs.declared.layout.ChunkPlace.{ChunkPlace}
use Rattle.frs_writer.specs.Gates.{IsShut, sealed_chunk}
use Rattle.frs_writer.specs.Chunk.{ChunkView}
use Rattle.frs_writer.specs.Groups.{joined_records}
use Rattle.frs_writer.proofs.GathersGroup.{sealed_bytes, body_is}
use Rattle.frs_writer.proofs.tail.put_chunk.Goals as goal

pub returns-in-Ok-clause-put : goal.returns-in-Ok-clause-put
returns-in-Ok-clause-put g c = λ group has.
    let d = g.D.Disk in
    let n : ℕ = c.args.segment.now.number in
    let front : List ℕ = take (c.args.segment.now.length - 1) (bytes_at (d.reads c.args.disk.now) n) in
    let bytes : c.bytes.result.now ≡ sealed_chunk c.args.segment.now.«end» (length group) (joined_records group) =
    c.bytes.ensures ∙ ap (λ (x : ChunkView). x.bytes) c.seal.ensures ∙ sealed_bytes c.args.segment.now.«end» c.args.chunk.now group has in
    let count : c.count.result ≡ length group = c.count.ensures ∙ ap (λ (x : ChunkView). x.count) has in
    let long : c.body_len.result ≡ length (joined_records group) = c.body_len.ensures ∙ body_is c.args.chunk.now group has in
    record {
      frame = c.append_chunk.ensures.frame;
      images = λ told x left.
          subst (λ (b : List ℕ). IsShut front (get x n) ⊎ (get x n ≡ Some (front ++ 1 ∷ b))) bytes (c.append_chunk.ensures.images told x left);
      counted = count;
      grown_is =
          ap (λ (k : ℕ). record { number = n; first = c.args.segment.now.first; «end» = c.args.segment.now.«end» + k; length = c.args.segment.now.length + (17 + c.from-in-Ok.result); chunks = c.of.result }) (c.from.ensures ∙ count)
          ∙ ap (λ (k : ℕ). record { number = n; first = c.args.segment.now.first; «end» = c.args.segment.now.«end» + length group; length = c.args.segment.now.length + (17 + k); chunks = c.of.result }) (c.from-in-Ok.ensures ∙ long)
          ∙ ap (λ (l : List ChunkPlace). record { number = n; first = c.args.segment.now.first; «end» = c.args.segment.now.«end» + length group; length = c.args.segment.now.length + (17 + length (joined_records group)); chunks = l })
          (c.of.ensures ∙ c.push_reserved.ensures.items
          ∙ ap (λ (k : ℕ). c.args.places.items ++ record { offset = c.args.segment.now.length - 1; first = c.args.segment.now.«end»; count = k; body = c.body_len.result } ∷ []) count
          ∙ ap (λ (k : ℕ). c.args.places.items ++ record { offset = c.args.segment.now.length - 1; first = c.args.segment.now.«end»; count = length group; body = k } ∷ []) long);
      durable = c.in-Ok.ensures.durable;
      written = λ told. c.in-Ok.ensures.written told ∙ ap (λ (b : List ℕ). Some (front ++ 1 ∷ b)) bytes;
      refused = tt;
    }

pub returns-in-Err-clause-put : goal.returns-in-Err-clause-put
returns-in-Err-clause-put g c = λ group has.
    let d = g.D.Disk in
    let n : ℕ = c.args.segment.now.number in
    let front : List ℕ = take (c.args.segment.now.length - 1) (bytes_at (d.reads c.args.disk.now) n) in
    let bytes : c.bytes.result.now ≡ sealed_chunk c.args.segment.now.«end» (length group) (joined_records group) =
    c.bytes.ensures ∙ ap (λ (x : ChunkView). x.bytes) c.seal.ensures ∙ sealed_bytes c.args.segment.now.«end» c.args.chunk.now group has in
    record {
      frame = c.append_chunk.ensures.frame;
      images = λ told x left.
          subst (λ (b : List ℕ). IsShut front (get x n) ⊎ (get x n ≡ Some (front ++ 1 ∷ b))) bytes (c.append_chunk.ensures.images told x left);
      counted = tt;
      grown_is = tt;
      durable = tt;
      written = tt;
      refused = ap (λ (l : List ChunkPlace). record { number = n; first = c.args.segment.now.first; «end» = c.args.segment.now.«end»; length = c.args.segment.now.length; chunks = l }) c.of-in-Err.ensures;
    }
