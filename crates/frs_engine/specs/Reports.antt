-- What is printed of a text, and which status is answered then.
use Rattle.std.specs.Prelude.{◌≡◌, ◌≢◌, ◌⊎◌, ℕ, ◌-◌, ◌^◌, ◌<◌, ◌++◌, IsTrue}
use Rattle.frs_disk.specs.declared.outside.Sink.{Ghosts}
use Rattle.frs_disk.specs.Disk.{Rose}
use Rattle.frs_text.specs.Text.{Text}

-- what was written is a front of the text
pub record Prints (text before after : Text) : Type 0 where
  pub written : Text
  pub rest : Text
  pub appended : after ≡ before ++ written
  pub front : written ++ rest ≡ text

-- and all of it
abbrev pub PrintsAll : Text → Text → Text → Type 0
PrintsAll text before after = after ≡ before ++ text

-- The status that was decided is answered, unless the sink failed after a run that was whole, or memory ran out at it.
abbrev pub Answers : ℕ → ℕ → ℕ → ℕ → Type 0
Answers decided status before now =
    (status ≡ decided) ⊎ ((status ≡ 6) × (decided ≡ 0) × Rose before now) ⊎ (status ≡ 9)

-- What was printed of the text, and which status was answered. All of the text was printed unless the sink failed, or
-- memory ran out. Where another status than that for want of memory was decided, and this one is answered, the sink
-- hasn't failed.
pub record IsReported {S : Type 0} (g : Ghosts S) (text : Text) (decided status : ℕ) (old new : S) : Type 0 where
  pub answers : Answers decided status (g.faults old) (g.faults new)
  pub prints : IsTrue (g.tells old) → Prints text (g.written old) (g.written new)
  pub prints_all : IsTrue (g.tells old) → status ≢ 6 → status ≢ 9 → (Rose (g.faults old) (g.faults new) → ⊥)
      → PrintsAll text (g.written old) (g.written new)
  pub untroubled : status ≡ 0 → g.faults new ≡ g.faults old
  pub memory : status ≡ 9 → decided ≢ 9 → g.faults new ≡ g.faults old
  pub told : g.tells new ≡ g.tells old

-- a count didn't rise, and doesn't stand at its type's end
abbrev pub IsSteady : ℕ → ℕ → Type 0
IsSteady before now = (now ≡ before) × (before < 2 ^ 64 - 1)
