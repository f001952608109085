use Rattle.std.proofs.Common.{◌≡◌, ◌∙◌, ℕ, Err, refl, sym, subst, IsTrue, rules}
use Rattle.std.proofs.lemmas.Grind.{common_steps}
use Rattle.std.proofs.Common.{arith}
use Rattle.frs_segment.specs.declared.layout.Segment.{Segment}
use Rattle.frs_segment.specs.declared.fault.ScanFault.{ScanFault}
use Rattle.frs_segment.specs.declared.fault.ScanFault.TheVariants.{HalfMade}
use Rattle.frs_segment.specs.Faults.{IsOfText}
use Rattle.frs_segment.specs.Segments.{File}
use Rattle.frs_segment.specs.Heads.{IsCauseInHeads}
use Rattle.frs_segment.proofs.IsRefused.{half_is_shut}
use Rattle.frs_recovery.specs.Descent.{file_at}
use Rattle.frs_recovery.proofs.SegmentOf.{unread_first, text_cause}
use Rattle.frs_recovery.proofs.descent.segment_of.Goals as goal

pub returns-in-Ok-clause-found : goal.returns-in-Ok-clause-found
returns-in-Ok-clause-found g c = (c.in-Ok.ensures.meant.0, c.in-Ok.ensures.meant.1, λ told. (c.in-Ok.ensures.found told, c.in-Ok.ensures.bytes told))

pub returns-in-Err-HalfMade-clause-found : goal.returns-in-Err-HalfMade-clause-found
returns-in-Err-HalfMade-clause-found g c told =
    let file : File = file_at (g.D.Disk.reads c.args.disk.now) c.args.number in
    half_is_shut file (c.segment_heads.ensures.half_made file (subst (IsCauseInHeads file) c.in-Err-HalfMade.field-0-is (c.in-Err-HalfMade.ensures.why told)))

pub returns-in-Err-clause-why : goal.returns-in-Err-clause-why
returns-in-Err-clause-why g c told =
    let d = g.D.Disk in
    let file : File = file_at (d.reads c.args.disk.now) c.args.number in
    let of_text : IsOfText c.in-Err.fault = grind (arith, common_steps) in
    let not_half : c.in-Err.fault ≡ HalfMade → ⊥ = grind (arith, common_steps) in
    let refused = text_cause file c.in-Err.fault of_text (c.in-Err.ensures.why told) in
    unread_first (d.tells c.args.disk.now) (d.tells c.heads.new.disk) (d.reads c.args.disk.now) (d.reads c.heads.new.disk) c.args.number c.first_fault.result c.in-Err.ensures.frame.told c.in-Err.ensures.frame.seen c.first_fault.ensures.why told
    (record { no_segment = λ s is. c.segment_heads.ensures.refused file c.in-Err.fault s refused is; finished = c.segment_heads.ensures.other file c.in-Err.fault not_half refused })
