-- What a command line asks for has work to do.
use Rattle.std.proofs.Common.{ℕ, zero, suc, ◌+◌, ◌≤◌, Bool, List, [], ◌∷◌, Option, Some, None, Result, Ok, Err, arith}
use Rattle.std.proofs.lemmas.Bool.{cond_both, and_from, le-leb}
use Rattle.std.specs.Prelude.{codes}
use Rattle.std.specs.List.{find, range_with_len}
use Rattle.std.specs.Str.{bytes_eq}
use Rattle.frs_text.specs.declared.plan.Job.{Job}
use Rattle.frs_text.specs.declared.plan.Job.TheVariants.{Run, Plain}
use Rattle.frs_text.specs.declared.plan.Plan.{Plan}
use Rattle.frs_text.specs.declared.plan.PlainPlan.{PlainPlan}
use Rattle.frs_text.specs.declared.plan.PlainPlan.TheVariants.{Recover, Compact, Stat}
use Rattle.frs_text.specs.CommandLine.{number_up_to, demo_end, demo_with, demo_count, demo_of, run_of, plain_plan, job_named, job_of, on_store, plan_of}
use Rattle.frs_engine.specs.Runs.{HasWork}

abbrev pub JobHasWork : Job → Type 0
JobHasWork (Run plan) = HasWork plan
JobHasWork (Plain plan) = Unit {0}

abbrev ReadHasWork : Result Job ℕ → Type 0
ReadHasWork (Ok job) = JobHasWork job
ReadHasWork (Err place) = Unit {0}

abbrev pub PlanHasWork : Result Plan ℕ → Type 0
PlanHasWork (Ok plan) = JobHasWork plan.job
PlanHasWork (Err place) = Unit {0}

-- a number in this range, if it is one
abbrev IsUpTo : ℕ → ℕ → Option ℕ → Type 0
IsUpTo low high None = Unit {0}
IsUpTo low high (Some n) = (low ≤ n) × (n ≤ high)

found : (p : ℕ → Bool) (low high a k : ℕ) → low ≤ a → a + k ≤ high + 1 → IsUpTo low high (find p (range_with_len a k))
found p low high a zero above below = tt
found p low high a (suc k) above below = cond_both (p a) (Some a) (find p (range_with_len (a + 1) k)) (IsUpTo low high)
    (λ here. (above, omega (arith, below)))
    (λ later. found p low high (a + 1) k (omega (arith, above)) (omega (arith, below)))

read : (most : ℕ) (word : List ℕ) → IsUpTo 1 most (number_up_to most word)
unfolding number_up_to
read most word = found _ 1 most 1 most (omega arith) (omega arith)

demo_ends : (clients count : ℕ) (ws : List (List ℕ)) → IsUpTo 1 64 (Some clients) → IsUpTo 1 3000 (Some count) → ReadHasWork (demo_end clients count ws)
demo_ends clients count [] a b = and_from _ _ (and_from _ _ (and_from _ _ (le-leb 1 clients a.0) (le-leb clients 64 a.1)) (le-leb 1 count b.0)) (le-leb count 3000 b.1)
demo_ends clients count (w ∷ ws) a b = tt

demo_goes : (clients : ℕ) (count : Option ℕ) (ws : List (List ℕ)) → IsUpTo 1 64 (Some clients) → IsUpTo 1 3000 count → ReadHasWork (demo_with clients count ws)
demo_goes clients None ws a b = tt
demo_goes clients (Some count) ws a b = demo_ends clients count ws a b

demo_counts : (clients : Option ℕ) (ws : List (List ℕ)) → IsUpTo 1 64 clients → ReadHasWork (demo_count clients ws)
demo_counts None ws a = tt
demo_counts (Some clients) [] a = tt
demo_counts (Some clients) (w ∷ ws) a = demo_goes clients (number_up_to 3000 w) ws a (read 3000 w)

demo : (ws : List (List ℕ)) → ReadHasWork (demo_of ws)
demo [] = tt
demo (w ∷ ws) = demo_counts (number_up_to 64 w) ws (read 64 w)

run : (ws : List (List ℕ)) → ReadHasWork (run_of ws)
run [] = tt
run (w ∷ ws) = omega arith

no_work : (plan : PlainPlan) (ws : List (List ℕ)) → ReadHasWork (plain_plan plan ws)
no_work plan [] = tt
no_work plan (w ∷ ws) = tt

named : (name : List ℕ) (ws : List (List ℕ)) → ReadHasWork (job_named name ws)
named name ws =
    cond_both (bytes_eq name (codes "run")) _ _ ReadHasWork (λ _. run ws) (λ _.
    cond_both (bytes_eq name (codes "recover")) _ _ ReadHasWork (λ _. no_work Recover ws) (λ _.
    cond_both (bytes_eq name (codes "compact")) _ _ ReadHasWork (λ _. no_work Compact ws) (λ _.
    cond_both (bytes_eq name (codes "stat")) _ _ ReadHasWork (λ _. no_work Stat ws) (λ _.
    cond_both (bytes_eq name (codes "demo")) _ _ ReadHasWork (λ _. demo ws) (λ _. tt)))))

job : (ws : List (List ℕ)) → ReadHasWork (job_of ws)
job [] = tt
job (name ∷ ws) = named name ws

on : (store : List ℕ) (read : Result Job ℕ) → ReadHasWork read → PlanHasWork (on_store store read)
on store (Ok job) has = has
on store (Err place) has = tt

-- what the words ask for has work to do, if it is a run
pub has_work : (ws : List (List ℕ)) → PlanHasWork (plan_of ws)
has_work [] = tt
has_work (store ∷ ws) = on store (job_of ws) (job ws)
