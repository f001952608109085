use Rattle.std.proofs.Common.{arith, ◌≡◌, ap, sym, true, ◌∙◌}
use Rattle.std.proofs.lemmas.Slice.Eq.{bytes_eq-Decides}
use Rattle.std.specs.Fmt.{decimal}
use Rattle.std.specs.Str.{bytes_eq}
use Rattle.frs_text.proofs.NumberOf.{no_number, the_number, parsed}
use Rattle.frs_text.proofs.command_line.number_of.Goals as goal
use Rattle.frs_text.proofs.command_line.number_of.Goals.{then-number-eq0-via-then-number-eq0, then-number-eq0-via-else-number-eq0+then-number-most}

pub returns-in_default : goal.returns-in_default
returns-in_default c = no_number c.args.most c.args.word.now (λ m low high is.
    c.in_default.not-Ok m (parsed c.args.most m c.as_str.result.now c.parse.result c.parse.ensures.value.0 (omega (arith, c.ranges.most.fits)) high (c.as_str.ensures ∙ is)))

pub returns-then-number-eq0 : goal.returns-then-number-eq0
returns-then-number-eq0 c = no_number c.args.most c.args.word.now (λ m low high is.
    let got = parsed c.args.most m c.as_str.result.now c.parse.result c.parse.ensures.value.0 (omega (arith, c.ranges.most.fits)) high (c.as_str.ensures ∙ is) in
    let same : m ≡ c.in-Ok.number = cc in
    elim c.then-number-eq0.branch [ then-number-eq0-via-then-number-eq0 w ↦ absurd (omega arith) | then-number-eq0-via-else-number-eq0+then-number-most w ↦ absurd (omega arith) ])

pub returns-then-eq : goal.returns-then-eq
returns-then-eq c =
    let equal = (bytes_eq-Decides c.as_str-2.result.now c.as_str-3.result.now).0 (sym c.if-eq.ensures) in
    the_number c.args.most c.in-Ok.number c.args.word.now (omega arith) (omega arith) (omega (arith, c.ranges.most.fits))
    (sym c.as_str-3.ensures ∙ sym equal ∙ c.as_str-2.ensures.value ∙ c.in_ok-written.ensures.ok)

pub returns : goal.returns
returns c = no_number c.args.most c.args.word.now (λ m low high is.
    let got = parsed c.args.most m c.as_str.result.now c.parse.result c.parse.ensures.value.0 (omega (arith, c.ranges.most.fits)) high (c.as_str.ensures ∙ is) in
    let same : m ≡ c.in-Ok.number = cc in
    let equal : bytes_eq c.as_str-2.result.now c.as_str-3.result.now ≡ true =
    (bytes_eq-Decides c.as_str-2.result.now c.as_str-3.result.now).1
    (c.as_str-2.ensures.value ∙ c.in_ok-written.ensures.ok ∙ ap decimal (sym same) ∙ sym is ∙ sym c.as_str-3.ensures) in
    let apart = c.if-eq.ensures in
    cc)
