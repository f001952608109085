use Rattle.std.proofs.Common.{◌≡◌, inl, inr, refl, ◌∙◌, ⊎_elim, IsTrue, sym, subst, arith}
use Rattle.std.proofs.lemmas.Result.{on_ok_weaker}
use Rattle.frs_disk.specs.Disk.{Image}
use Rattle.frs_disk.proofs.Frames.{goes_on_join, changes_go_on}
use Rattle.frs_disk.proofs.Moments.{within_join}
use Rattle.frs_segment.specs.Front.{IsInTheMaking}
use Rattle.frs_writer.specs.Setup.{IsOpening}
use Rattle.frs_writer.proofs.MissesSome.{opening_thinned, opening_made}
use Rattle.frs_writer.proofs.setup.open_next.Goals as goal

pub returns-in_err-remove_all-clause-images : goal.returns-in_err-remove_all-clause-images
returns-in_err-remove_all-clause-images g c told x left =
    let d = g.D.Disk in
    opening_thinned c.args.half.now c.args.number c.args.first (d.may_leave c.args.disk.now)
    (λ y had. g.met.D.Disk.stays_absent c.args.disk.now c.args.number y told (c.requires.new.0 told) (c.requires.new.1 told) had)
    x (c.remove_all.ensures.images x left)

pub returns-clause-images : goal.returns-clause-images
returns-clause-images g c told =
    let d = g.D.Disk in
    let opening : Image → Type 0 = IsOpening c.args.half.now c.args.number c.args.first (d.may_leave c.args.disk.now) in
    within_join d c.args.disk.now c.remove_all.new.disk c.open_segment.new.disk opening c.remove_all.ensures.frame.time c.open_segment.ensures.frame.time
    (λ x left. opening_thinned c.args.half.now c.args.number c.args.first (d.may_leave c.args.disk.now)
    (λ y had. g.met.D.Disk.stays_absent c.args.disk.now c.args.number y told (c.requires.new.0 told) (c.requires.new.1 told) had)
    x (c.remove_all.ensures.images x left))
    (λ x left. let from = c.open_segment.ensures.frame.elsewhere x left in
    opening_made c.args.half.now c.args.number c.args.first (d.may_leave c.args.disk.now) from.0 x
    (c.remove_all.ensures.images from.0 (g.met.D.Disk.counts_now c.remove_all.new.disk _ from.0 c.remove_all.ensures.frame.time.later from.1)) from.2
    (c.open_segment.ensures.images (subst IsTrue (sym c.remove_all.ensures.frame.told) told) x left))

pub returns-clause-frame : goal.returns-clause-frame
returns-clause-frame g c =
    let d = g.D.Disk in
    goes_on_join d g.met.D.Disk.since_earlier c.args.disk.now c.remove_all.new.disk c.open_segment.new.disk c.remove_all.ensures.frame
    (changes_go_on d c.args.number c.remove_all.new.disk c.open_segment.new.disk c.open_segment.ensures.frame)

pub returns-clause-made : goal.returns-clause-made
returns-clause-made g c =
    on_ok_weaker c.open_segment.result (λ made told.
    let mid : IsTrue (g.D.Disk.tells c.remove_all.new.disk) = subst IsTrue (sym c.remove_all.ensures.frame.told) told in
    record {
      gone = λ k d lt. c.open_segment.ensures.frame.others mid _ (λ same. omega (arith, same, ((c.requires.half told).1 k d lt).1)) ∙ c.in_ok-remove_all.ensures.gone told k d lt;
      made = made mid;
      others = λ q other stays.
          c.open_segment.ensures.frame.others mid q other ∙ ⊎_elim (λ same. same) (λ gone. absurd (stays gone.0)) (c.remove_all.ensures.removed told q);
    })
    c.open_segment.ensures.made

pub returns-clause-read : goal.returns-clause-read
returns-clause-read g c =
    on_ok_weaker c.open_segment.result (λ made told.
    let d = g.D.Disk in
    let mid : IsTrue (d.tells c.remove_all.new.disk) = subst IsTrue (sym c.remove_all.ensures.frame.told) told in
    opening_made c.args.half.now c.args.number c.args.first (λ x. x ≡ d.reads c.args.disk.now) (d.reads c.remove_all.new.disk) (d.reads c.open_segment.new.disk)
    (d.reads c.args.disk.now, refl, c.remove_all.ensures.removed told) (c.open_segment.ensures.frame.others mid)
    (subst (IsInTheMaking c.args.number c.args.first) (sym (made mid)) (inr refl)))
    c.open_segment.ensures.made

pub returns-clause-beside : goal.returns-clause-beside
returns-clause-beside g c told q other =
    let mid : IsTrue (g.D.Disk.tells c.remove_all.new.disk) = subst IsTrue (sym c.remove_all.ensures.frame.told) told in
    let same = c.open_segment.ensures.frame.others mid q other in
    ⊎_elim (λ was. inl (same ∙ was)) (λ gone. inr (gone.0, same ∙ gone.1)) (c.remove_all.ensures.removed told q)

pub returns-in_err-remove_all-clause-beside : goal.returns-in_err-remove_all-clause-beside
returns-in_err-remove_all-clause-beside g c told q other = c.remove_all.ensures.removed told q
