use Rattle.std.proofs.Common.{◌≡◌, ◌⊎◌, ◌∙◌, ◌++◌, [], ◌∷◌, ℕ, List, Option, Some, inl, ap, sym, subst, take, IsTrue}
use Rattle.std.specs.Prelude.{unwrap_or, slice_set}
use Rattle.std.proofs.lemmas.Result.{on_ok_weaker}
use Rattle.std.specs.FinMap.{get}
use Rattle.frs_disk.specs.Disk.{Image, bytes_at}
use Rattle.frs_disk.specs.Frames.{Within}
use Rattle.frs_disk.proofs.Frames.{changes_one_join}
use Rattle.frs_disk.proofs.Moments.{within_join}
use Rattle.frs_segment.specs.Front.{HasAnyGate}
use Rattle.frs_writer.specs.Gates.{IsShut}
use Rattle.frs_writer.proofs.IsShut.{at_gate, put_bytes, set_gate, shut_stage, gate_stage}
use Rattle.frs_writer.proofs.tail.append_chunk.Goals as goal

pub returns-in_err-put_body-clause-images : goal.returns-in_err-put_body-clause-images
returns-in_err-put_body-clause-images g c told x left =
    let d = g.D.Disk in
    let n : ℕ = c.args.number in
    let here = at_gate (get (d.reads c.args.disk.now) n) c.args.gate_at (c.requires.gate told) in
    let front : List ℕ = take c.args.gate_at (bytes_at (d.reads c.args.disk.now) n) in
    let bytes : bytes_at (d.reads c.args.disk.now) n ≡ front ++ 0 ∷ [] = ap (λ (o : Option (List ℕ)). unwrap_or o []) here.0 in
    inl (shut_stage front c.args.gate_at here.1 (bytes_at (d.reads c.args.disk.now) n) (get x n) bytes (c.put_body.ensures.images told (c.requires.synced told) x left))

pub returns-clause-written : goal.returns-clause-written
returns-clause-written g c =
    let d = g.D.Disk in
    let n : ℕ = c.args.number in
    on_ok_weaker c.open_gate.result (λ set told.
    let here = at_gate (get (d.reads c.args.disk.now) n) c.args.gate_at (c.requires.gate told) in
    let front : List ℕ = take c.args.gate_at (bytes_at (d.reads c.args.disk.now) n) in
    let bytes : bytes_at (d.reads c.args.disk.now) n ≡ front ++ 0 ∷ [] = ap (λ (o : Option (List ℕ)). unwrap_or o []) here.0 in
    let put : bytes_at (d.reads c.put_body.new.disk) n ≡ front ++ 0 ∷ c.args.body.now =
    ap (λ (o : Option (List ℕ)). unwrap_or o []) (c.in_ok-put_body.ensures.written told)
    ∙ put_bytes front c.args.gate_at here.1 c.args.body.now (bytes_at (d.reads c.args.disk.now) n) bytes in
    set (subst IsTrue (sym c.put_body.ensures.frame.told) told) ∙ ap (λ (b : List ℕ). Some (slice_set b c.args.gate_at 1)) put ∙ ap Some (set_gate front c.args.gate_at here.1 1 c.args.body.now))
    c.open_gate.ensures.opened

pub returns-clause-images : goal.returns-clause-images
returns-clause-images g c told =
    let d = g.D.Disk in
    let n : ℕ = c.args.number in
    let here = at_gate (get (d.reads c.args.disk.now) n) c.args.gate_at (c.requires.gate told) in
    let front : List ℕ = take c.args.gate_at (bytes_at (d.reads c.args.disk.now) n) in
    let bytes : bytes_at (d.reads c.args.disk.now) n ≡ front ++ 0 ∷ [] = ap (λ (o : Option (List ℕ)). unwrap_or o []) here.0 in
    let put : bytes_at (d.reads c.put_body.new.disk) n ≡ front ++ 0 ∷ c.args.body.now =
    ap (λ (o : Option (List ℕ)). unwrap_or o []) (c.in_ok-put_body.ensures.written told)
    ∙ put_bytes front c.args.gate_at here.1 c.args.body.now (bytes_at (d.reads c.args.disk.now) n) bytes in
    let P : Image → Type 0 = λ x. IsShut front (get x n) ⊎ (get x n ≡ Some (front ++ 1 ∷ c.args.body.now)) in
    let first : Within d c.args.disk.now c.put_body.new.disk P = λ x left.
    inl (shut_stage front c.args.gate_at here.1 (bytes_at (d.reads c.args.disk.now) n) (get x n) bytes (c.put_body.ensures.images told (c.requires.synced told) x left)) in
    let second : Within d c.put_body.new.disk c.open_gate.new.disk P = λ x left.
    gate_stage front c.args.gate_at here.1 c.args.body.now (get x n)
    (subst (λ (b : List ℕ). HasAnyGate c.args.gate_at b (get x n)) put (c.open_gate.ensures.images (subst IsTrue (sym c.put_body.ensures.frame.told) told) c.in_ok-put_body.ensures.durable x left)) in
    within_join d c.args.disk.now c.put_body.new.disk c.open_gate.new.disk P c.put_body.ensures.frame.time c.open_gate.ensures.frame.time first second

pub returns-clause-frame : goal.returns-clause-frame
returns-clause-frame g c =
    changes_one_join g.D.Disk g.met.D.Disk.counts_now g.met.D.Disk.since_earlier c.args.number c.args.disk.now c.put_body.new.disk c.open_gate.new.disk c.put_body.ensures.frame c.open_gate.ensures.frame
