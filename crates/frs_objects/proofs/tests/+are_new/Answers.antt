-- The first LSN is above the number and below the later ones.
use Rattle.std.proofs.Common.{◌∙◌, ap, sym, subst, ◌<◌, List, ◌∷◌}
use Rattle.std.specs.List.{AllByRecursion}
use Rattle.frs_objects.specs.declared.op.Op.{Op}
use Rattle.frs_objects.specs.Objects.{AreNew, puts_among, put_lsns}
use Rattle.frs_objects.proofs.IsNew.{all_above}
use Rattle.frs_objects.proofs.tests.+are_new.Goals as goal

pub returns-else-has_lsn-clause-new : goal.returns-else-has_lsn-clause-new
returns-else-has_lsn-clause-new t c is =
    subst (λ (ops : List Op). AreNew c.args.objects.now (put_lsns (puts_among ops))) (ap (λ (op : Op). op ∷ c.in-Some.later.now) (sym c.in-Put.is) ∙ sym c.in-Some.ensures.cases.0)
    (sym c.has_lsn.ensures ∙ c.if-has_lsn.false, c.are_new.ensures.rising is, c.are_new.ensures.new is)

pub returns-else-has_lsn-clause-rising : goal.returns-else-has_lsn-clause-rising
returns-else-has_lsn-clause-rising t c is =
    subst (λ (ops : List Op). AllByRecursion (λ m. c.args.above < m) (put_lsns (puts_among ops))) (ap (λ (op : Op). op ∷ c.in-Some.later.now) (sym c.in-Put.is) ∙ sym c.in-Some.ensures.cases.0)
    (c.if-lsn-above.false, all_above c.args.above c.in-Put.lsn (put_lsns (puts_among c.in-Some.later.now)) c.if-lsn-above.false (c.are_new.ensures.rising is))
