use Rattle.std.proofs.Common.{◌∙◌, ap, subst, sym, ℕ}
use Rattle.std.specs.FinMap.{entries}
use Rattle.frs_recovery.specs.Answers.{IsRecovered}
use Rattle.frs_text.specs.declared.plan.PlainPlan.{PlainPlan}
use Rattle.frs_text.specs.declared.plan.PlainPlan.TheVariants.{Stat}
use Rattle.frs_engine.specs.declared.finding.Finding.{Finding}
use Rattle.frs_engine.specs.PlainJobs.{refusal_status, finding_status, finding_text, IsSaid}
use Rattle.frs_engine.proofs.IsSaid.{IsToldAs, maps_status, numbers_status, refused_as, given_as, numbers_said}
use Rattle.frs_disk.proofs.Frames.{only_reads_none}
use Rattle.frs_engine.proofs.plain_job.look.Goals as goal

pub returns-in-Recover-clause-refused : goal.returns-in-Recover-clause-refused
returns-in-Recover-clause-refused g c told other fault wrong =
    subst (λ (n : ℕ). IsToldAs (refusal_status fault) n) (sym (ap finding_status c.of_maps.ensures ∙ maps_status c.recover.result))
    (refused_as fault c.recover.result (c.recover.ensures.refused told fault wrong))

pub returns-in-Recover-clause-only : goal.returns-in-Recover-clause-only
returns-in-Recover-clause-only g c told other segments log by =
    subst (λ (n : ℕ). IsToldAs 0 n) (sym (ap finding_status c.of_maps.ensures ∙ maps_status c.recover.result))
    (given_as (IsRecovered (entries (g.D.Disk.reads c.args.disk.now)) segments log) c.recover.result (c.recover.ensures.only told segments log by))

pub returns-in-Stat-clause-said : goal.returns-in-Stat-clause-said
returns-in-Stat-clause-said g c =
    let d = g.D.Disk in
    let was = c.args.disk.now in
    let said = numbers_said c.stat_of_store.ensures d was c.recover-in-Stat.new.disk c.recover-in-Stat.result
    c.recover-in-Stat.ensures.found c.recover-in-Stat.ensures.why c.recover-in-Stat.ensures.cause in
    subst (λ (p : PlainPlan). IsSaid d p was c.recover-in-Stat.new.disk (finding_status c.of_numbers.result) (finding_text c.of_numbers.result))
    (sym c.in-Stat.is)
    (subst (λ (f : Finding). IsSaid d Stat was c.recover-in-Stat.new.disk (finding_status f) (finding_text f)) (sym c.of_numbers.ensures) said)

pub returns-in-Stat-clause-refused : goal.returns-in-Stat-clause-refused
returns-in-Stat-clause-refused g c told other fault wrong =
    subst (λ (n : ℕ). IsToldAs (refusal_status fault) n) (sym (ap finding_status c.of_numbers.ensures ∙ numbers_status c.recover-in-Stat.result))
    (refused_as fault c.recover-in-Stat.result (c.recover-in-Stat.ensures.refused told fault wrong))

pub returns-in-Stat-clause-only : goal.returns-in-Stat-clause-only
returns-in-Stat-clause-only g c told other segments log by =
    subst (λ (n : ℕ). IsToldAs 0 n) (sym (ap finding_status c.of_numbers.ensures ∙ numbers_status c.recover-in-Stat.result))
    (given_as (IsRecovered (entries (g.D.Disk.reads c.args.disk.now)) segments log) c.recover-in-Stat.result (c.recover-in-Stat.ensures.only told segments log by))

pub returns-in-Compact-clause-frame : goal.returns-in-Compact-clause-frame
returns-in-Compact-clause-frame g c = only_reads_none g.D.Disk g.met.D.Disk.only_now c.args.disk.now
