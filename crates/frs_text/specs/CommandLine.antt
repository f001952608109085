-- Command lines: what their words ask for, and the first word that has no place.
use Rattle.std.specs.Prelude.{◌≡◌, ℕ, List, [], ◌∷◌, Option, Some, None, Result, Ok, Err, find, if◌then◌else◌, codes, decimal}
use Rattle.std.specs.List.{range_with_len}
use Rattle.std.specs.Str.{bytes_eq}
use Rattle.frs_types.specs.declared.limits.TheConstants.{CLIENT_LIMIT}
use Rattle.frs_text.specs.declared.plan.TheConstants.{DEMO_LIMIT}
use Rattle.frs_text.specs.declared.plan.Plan.{Plan}
use Rattle.frs_text.specs.declared.plan.Job.{Job}
use Rattle.frs_text.specs.declared.plan.Job.TheVariants.{Run, Plain}
use Rattle.frs_text.specs.declared.plan.RunPlan.TheVariants.{Scripts, Demo}
use Rattle.frs_text.specs.declared.plan.PlainPlan.{PlainPlan}
use Rattle.frs_text.specs.declared.plan.PlainPlan.TheVariants.{Recover, Compact, Stat}
use Rattle.frs_text.specs.declared.words_fault.WordsFault.{WordsFault}
use Rattle.frs_text.specs.declared.words_fault.WordsFault.TheVariants.{Usage, Memory}

-- the number from 1 to this one that is written so, in decimal without a leading zero
unfoldable pub number_up_to : ℕ → List ℕ → Option ℕ
number_up_to most word = find (λ n. bytes_eq (decimal n) word) (range_with_len 1 most)

-- `demo CLIENTS COUNT`: the words from the third, the fourth and the fifth on
abbrev pub demo_end : ℕ → ℕ → List (List ℕ) → Result Job ℕ
demo_end clients count [] = Ok (Run (Demo clients count))
demo_end clients count (w ∷ ws) = Err 5

abbrev pub demo_with : ℕ → Option ℕ → List (List ℕ) → Result Job ℕ
demo_with clients None ws = Err 4
demo_with clients (Some count) ws = demo_end clients count ws

abbrev pub demo_count : Option ℕ → List (List ℕ) → Result Job ℕ
demo_count None ws = Err 3
demo_count (Some clients) [] = Err 4
demo_count (Some clients) (count ∷ ws) = demo_with clients (number_up_to DEMO_LIMIT count) ws

abbrev pub demo_of : List (List ℕ) → Result Job ℕ
demo_of [] = Err 3
demo_of (clients ∷ ws) = demo_count (number_up_to CLIENT_LIMIT clients) ws

-- `run FILE..`, with at least one file
abbrev pub run_of : List (List ℕ) → Result Job ℕ
run_of [] = Err 3
run_of (file ∷ files) = Ok (Run (Scripts (file ∷ files)))

-- a job that no word follows
abbrev pub plain_plan : PlainPlan → List (List ℕ) → Result Job ℕ
plain_plan plan [] = Ok (Plain plan)
plain_plan plan (w ∷ ws) = Err 3

-- the job with this name, and the words that follow the name
abbrev pub job_named : List ℕ → List (List ℕ) → Result Job ℕ
job_named name ws =
    if bytes_eq name (codes "run") then run_of ws
    else (if bytes_eq name (codes "recover") then plain_plan Recover ws
    else (if bytes_eq name (codes "compact") then plain_plan Compact ws
    else (if bytes_eq name (codes "stat") then plain_plan Stat ws
    else (if bytes_eq name (codes "demo") then demo_of ws
    else Err 2))))

abbrev pub job_of : List (List ℕ) → Result Job ℕ
job_of [] = Err 2
job_of (name ∷ ws) = job_named name ws

abbrev pub on_store : List ℕ → Result Job ℕ → Result Plan ℕ
on_store store (Ok job) = Ok (record { store = store; job = job })
on_store store (Err place) = Err place

-- STORE and the job that the words ask for, or the place of the first word that has none, STORE's being 1; where a word
-- is missing, the place behind the last
abbrev pub plan_of : List (List ℕ) → Result Plan ℕ
plan_of [] = Err 1
plan_of (store ∷ ws) = on_store store (job_of ws)

-- the answer is what the words read as, unless there was no memory
abbrev pub IsRefusedAs : {X : Type 0} → WordsFault → Result X ℕ → Type 0
IsRefusedAs (Usage word) read = read ≡ Err word
IsRefusedAs Memory read = Unit {0}

abbrev pub ReadsAs : {X : Type 0} → Result X WordsFault → Result X ℕ → Type 0
ReadsAs (Ok found) read = read ≡ Ok found
ReadsAs (Err fault) read = IsRefusedAs fault read
