use Rattle.frs_disk.proofs.Moments.{within_join, passes_join}
use Rattle.frs_disk.proofs.Frames.{changes_one_join}
use Rattle.std.proofs.Common.{◌≡◌, ◌∙◌, ℕ, List, [], ◌∷◌, Option, Some, ap, subst, sym, take, IsSomeAnd, IsTrue}
use Rattle.std.specs.Prelude.{unwrap_or}
use Rattle.std.specs.FinMap.{get}
use Rattle.frs_disk.specs.Disk.{Image}
use Rattle.frs_disk.specs.Frames.{Within}
use Rattle.frs_segment.specs.Front.{closed_header, HasAnyGate, IsInTheMaking}
use Rattle.frs_segment.proofs.IsInTheMaking.{short_making, shut_making, gate_making, behind_gate}
use Rattle.frs_segment.proofs.writer.open_segment.Goals as goal

pub returns-in_err-put_body-clause-frame : goal.returns-in_err-put_body-clause-frame
returns-in_err-put_body-clause-frame g c =
    changes_one_join g.D.Disk g.met.D.Disk.counts_now g.met.D.Disk.since_earlier c.args.number c.args.disk.now c.create_closed.new.disk c.put_body.new.disk
    c.create_closed.ensures.frame c.put_body.ensures.frame

pub returns-clause-frame : goal.returns-clause-frame
returns-clause-frame g c =
    let join = changes_one_join g.D.Disk g.met.D.Disk.counts_now g.met.D.Disk.since_earlier c.args.number c.args.disk.now in
    join c.put_body.new.disk c.open_gate.new.disk (join c.create_closed.new.disk c.put_body.new.disk c.create_closed.ensures.frame c.put_body.ensures.frame) c.open_gate.ensures.frame

pub returns-clause-images : goal.returns-clause-images
returns-clause-images g c told =
    let d = g.D.Disk in
    let n : ℕ = c.args.number in
    let P : Image → Type 0 = λ x. IsInTheMaking n c.args.first (get x n) in
    let closed = c.create_closed.ensures.frame in
    let body = c.put_body.ensures.frame in
    let told_made : IsTrue (d.tells c.create_closed.new.disk) = subst IsTrue (sym closed.told) told in
    let told_put : IsTrue (d.tells c.put_body.new.disk) = subst IsTrue (sym body.told) told_made in
    let made : get (d.reads c.create_closed.new.disk) n ≡ Some (0 ∷ []) = c.in_ok-create_closed.ensures.made told in
    let put : get (d.reads c.put_body.new.disk) n ≡ Some (0 ∷ closed_header n c.args.first) = c.in_ok-put_body.ensures.written told_made ∙ ap Some (behind_gate c.header.result (get (d.reads c.create_closed.new.disk) n) made) ∙ ap (λ (h : List ℕ). Some (0 ∷ h)) c.header.ensures in
    let two = passes_join d g.met.D.Disk.since_earlier c.args.disk.now c.create_closed.new.disk c.put_body.new.disk closed.time body.time in
    let first : Within d c.args.disk.now c.create_closed.new.disk P = λ x left. short_making n c.args.first _ (c.create_closed.ensures.images told x left) in
    let second : Within d c.create_closed.new.disk c.put_body.new.disk P = λ x left.
    shut_making n c.args.first _ (subst (λ (f : Option (List ℕ)). IsSomeAnd (get x n) (λ b. take 1 b ≡ take 1 (unwrap_or f []))) made (c.put_body.ensures.images told_made c.in_ok-create_closed.ensures.durable x left)) in
    let third : Within d c.put_body.new.disk c.open_gate.new.disk P = λ x left.
    gate_making n c.args.first _ (subst (λ (f : Option (List ℕ)). HasAnyGate 0 (unwrap_or f []) (get x n)) put (c.open_gate.ensures.images told_put c.in_ok-put_body.ensures.durable x left)) in
    within_join d c.args.disk.now c.put_body.new.disk c.open_gate.new.disk P two c.open_gate.ensures.frame.time
    (within_join d c.args.disk.now c.create_closed.new.disk c.put_body.new.disk P closed.time body.time first second) third
